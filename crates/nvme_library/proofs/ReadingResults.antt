-- For `examples/reading_results.rt`: texts that are put into a buffer or read from one.
use Rattle.std.proofs.Common.{
  ◌≡◌,
  ◌⊎◌,
  ℕ,
  List,
  ◌++◌,
  Bool,
  true,
  false,
  length,
  drop,
  Option,
  None,
  Some,
  Result,
  Ok,
  Err,
  sym,
  ap,
  ◌∙◌,
  inl,
  inr,
  arith,
}
use Rattle.std.specs.Prelude.{◌≢◌}
use Rattle.nvme_spec.specs.Configuration.{Capacity, Configuration}
use Rattle.library_text.specs.EventLines.{PutsLine}
use Rattle.library_text.specs.Putting.{PutsIf}
use Rattle.library_text.specs.Reading.{Accepts, Refuses}
use Rattle.library_text.specs.Refusals.{position_of, reason_text}
use Rattle.library_text.specs.declared.putting.Unput.{Unput}
use Rattle.library_text.specs.declared.putting.Unput.TheVariants.{NoRoom, NoMemory}
use Rattle.library_text.specs.declared.refused.Refused.{Refused}
use Rattle.nvme_library.specs.Reading.{
  Gives,
  GivesWhere,
  Rooms,
  Tells,
  Told,
  code_of,
  given,
  has_room,
  read_of,
  refused_read,
  without_read,
}
use Rattle.nvme_library.specs.ReadingResults.{NoticesHaveCodes, ReadingsHaveCodes, WritesHaveCodes}
use Rattle.nvme_library.specs.Written.{length_of, line_written, text_written, without_text}
use Rattle.nvme_library.specs.declared.reading.Read.{Read}
use Rattle.nvme_library.specs.declared.written.Written.{Written}

code-of : (w v : Written) → w ≡ v → w.what ≡ v.what
code-of w v e = ap (λ (x : Written). x.what) e

put-text : (text : List ℕ) (put : Result ℕ Unput) (w : Written) (before after : List ℕ) → w ≡ text_written put
    → PutsIf text put before after → w.what ≡ 0
    → (w.length ≡ length text) × (after ≡ text ++ drop (length text) before)
put-text text (Ok n) w before after is puts done = (ap (λ (x : Written). x.length) is ∙ puts.0, puts.2)
put-text text (Err NoRoom) w before after is puts done =
    let e : ◌≡◌ {A = ℕ} 33 0 = sym (code-of w (text_written (Err NoRoom)) is) ∙ done in absurd (omega (arith, e))
put-text text (Err NoMemory) w before after is puts done =
    let e : ◌≡◌ {A = ℕ} 27 0 = sym (code-of w (text_written (Err NoMemory)) is) ∙ done in absurd (omega (arith, e))

put-nothing : (text : List ℕ) (put : Result ℕ Unput) (w : Written) (before after : List ℕ) → w ≡ text_written put
    → PutsIf text put before after → w.what ≢ 0 → (w.length ≡ 0) × (after ≡ before)
put-nothing text (Ok n) w before after is puts not = absurd (not (code-of w (text_written (Ok n)) is))
put-nothing text (Err NoRoom) w before after is puts not = (ap (λ (x : Written). x.length) is, puts.1)
put-nothing text (Err NoMemory) w before after is puts not = (ap (λ (x : Written). x.length) is, puts)

missing-line : (put : Option (Result ℕ Unput)) (w : Written) (before after : List ℕ) → w ≡ line_written put
    → PutsLine None put before after → (w ≡ without_text 34) × (after ≡ before)
missing-line None w before after is puts = (is, puts)
missing-line (Some put) w before after is puts = absurd puts

pub writes_have_codes : WritesHaveCodes
writes_have_codes = record {
  put = λ text w before after h done.
      let p : (put : Result ℕ Unput) × (w ≡ text_written put) × PutsIf text put before after = h in
      put-text text p.0 w before after p.1 p.2 done;
  not_put = λ text w before after h not.
      let p : (put : Result ℕ Unput) × (w ≡ text_written put) × PutsIf text put before after = h in
      put-nothing text p.0 w before after p.1 p.2 not;
  no_line = λ w before after h.
      let p : (put : Option (Result ℕ Unput)) × (w ≡ line_written put) × PutsLine None put before after = h in
      missing-line p.0 w before after p.1 p.2;
}

-- two readings with one result
one-result : (one two read : Read) (new other left : Rooms) → (one ≡ read) × (new ≡ left)
    → (two ≡ read) × (other ≡ left) → (one ≡ two) × (new ≡ other)
one-result one two read new other left p q = (p.0 ∙ sym q.0, p.1 ∙ sym q.1)

given-where : (fits : Bool) (c : Configuration) (one two : Read) (old new other : Rooms)
    → GivesWhere fits c one old new → GivesWhere fits c two old other → (one ≡ two) × (new ≡ other)
given-where true c one two old new other p q = one-result one two (read_of c) new other (given c old) p q
given-where false c one two old new other p q = one-result one two (without_read 33) new other old p q

explained : (r : Refused) (len : ℕ) (read : Read) → read ≡ refused_read r len
    → (read.what ≡ code_of r) × (read.line ≡ (position_of r).0) × (read.column ≡ (position_of r).1)
explained r len read is =
    (ap (λ (x : Read). x.what) is, ap (λ (x : Read). x.line) is, ap (λ (x : Read). x.column) is)

kept-arrays : (old new : Rooms) → new ≡ record old { reason = new.reason }
    → (new.controllers ≡ old.controllers) × (new.namespaces ≡ old.namespaces) × (new.attached ≡ old.attached)
kept-arrays old new is =
    (ap (λ (x : Rooms). x.controllers) is, ap (λ (x : Rooms). x.namespaces) is, ap (λ (x : Rooms). x.attached) is)

whole-reason : (text : List ℕ) (put : Result ℕ Unput) (old new : List ℕ) → PutsIf text put old new
    → (new ≡ text ++ drop (length text) old) ⊎ (new ≡ old)
whole-reason text (Ok n) old new h = inl h.2
whole-reason text (Err NoRoom) old new h = inr h.1
whole-reason text (Err NoMemory) old new h = inr h

one-or-other : (text : List ℕ) (size : Capacity) (read : Read) (old new : Rooms)
    → ((c : Configuration) × Accepts text size c × Gives c read old new)
    ⊎ ((r : Refused) × Refuses text size r × Tells r read old new)
    → ((c : Configuration) × Accepts text size c) ⊎ (new.controllers ≡ old.controllers)
one-or-other text size read old new (inl h) = inl (h.0, h.1)
one-or-other text size read old new (inr h) =
    let t : Told h.0 read old.reason new.reason × (new ≡ record old { reason = new.reason }) = h.2 in
    inr (kept-arrays old new t.1).0

pub readings_have_codes : ReadingsHaveCodes
readings_have_codes = record {
  determined = λ c one two old new other p q. given-where (has_room c old) c one two old new other p q;
  explained = λ r read old new h.
      let t : Told r read old.reason new.reason × (new ≡ record old { reason = new.reason }) = h in
      let p : (put : Result ℕ Unput) × (read ≡ refused_read r (length_of put))
      × PutsIf (reason_text r) put old.reason new.reason = t.0 in
      explained r (length_of p.0) read p.1;
  kept = λ r read old new h.
      let t : Told r read old.reason new.reason × (new ≡ record old { reason = new.reason }) = h in
      kept-arrays old new t.1;
  whole_reason = λ r read old new h.
      let p : (put : Result ℕ Unput) × (read ≡ refused_read r (length_of put)) × PutsIf (reason_text r) put old new =
      h in whole-reason (reason_text r) p.0 old new p.2;
  one_or_other = one-or-other;
}

pub notices_have_codes : NoticesHaveCodes
notices_have_codes = record {
  closed = λ k change before old new answer h. h;
  no_action = λ k before s old new answer h. h;
}
