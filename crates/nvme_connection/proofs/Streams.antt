-- For `laws.rt`: bytes in pieces and calls.
use Rattle.std.proofs.Common.{◌≡◌, ℕ, suc, List, [], ◌∷◌, ◌++◌, drop, refl, sym, ap, ◌∙◌, subst, append_assoc}
use Rattle.std.specs.Prelude.{option_to_list}
use Rattle.nvme_connection.specs.declared.stage.Stage.{Stage}
use Rattle.nvme_connection.specs.declared.stage.Stage.TheVariants.{Taking, Whole, Complete, Ended}
use Rattle.nvme_connection.specs.Connections.{Connection, Step, after, after_in, judged, judged_in, quiet}
use Rattle.nvme_connection.specs.Streams.{
  Judge,
  after_byte,
  after_bytes,
  after_stream,
  of_byte,
  one_if_taken,
  outcomes,
  settled,
  settling,
  stream,
  taken,
}
use Rattle.nvme_connection.specs.Laws.{Framing, IsCall, IsJudged, CallsAreTheStream, EndsAreFinal, joined}
use Rattle.nvme_connection.proofs.Gathering.{ended-stops, whole-stops}

pub stream-append : (right : Judge) (c : Connection) (xs ys : List ℕ)
    → stream right c (xs ++ ys) ≡ stream right c xs ++ stream right (after_stream right c xs) ys
stream-append right c [] ys = refl
stream-append right c (x ∷ xs) ys =
    ap (λ os. of_byte right c x ++ os) (stream-append right (after_byte right c x) xs ys)
    ∙ sym (append_assoc (of_byte right c x) (stream right (after_byte right c x) xs) (stream right
    (after_stream right (after_byte right c x) xs) ys))

pub after-stream-append : (right : Judge) (c : Connection) (xs ys : List ℕ)
    → after_stream right c (xs ++ ys) ≡ after_stream right (after_stream right c xs) ys
after-stream-append right c [] ys = refl
after-stream-append right c (x ∷ xs) ys = after-stream-append right (after_byte right c x) xs ys

pub framing : Framing
framing right c [] = record { same = refl; after = refl }
framing right c (p ∷ ps) =
    let rest = framing right (after_stream right c p) ps in
    record {
      same = ap (λ os. stream right c p ++ os) rest.same ∙ sym (stream-append right c p (joined ps));
      after = rest.after ∙ sym (after-stream-append right c p (joined ps));
    }

-- ---- calls

not-whole : (s : Stage) (right : Judge) (c : Connection) → IsJudged s → judged_in s c (right c.unit) ≡ quiet c
not-whole Taking right c j = refl
not-whole Complete right c j = refl
not-whole Ended right c j = refl
not-whole Whole right c j = absurd j

pub settled-nothing : (right : Judge) (c : Connection) → IsJudged c.stage → judged c (right c.unit) ≡ quiet c
settled-nothing right c j = not-whole c.stage right c j

-- a connection that takes no byte, judged or not
idle : (right : Judge) (c : Connection) (bytes : List ℕ) → settling right c ≡ [] → settled right c ≡ c
    → after_bytes c bytes ≡ c → outcomes c bytes ≡ [] → taken c bytes ≡ 0
    → IsCall right c bytes
idle right c bytes none same next told zero-taken = record {
  same = sym (ap (λ os. os ++ (settling right (after_bytes c bytes)
      ++ stream right (settled right (after_bytes c bytes)) (drop (taken c bytes) bytes))) told
      ∙ ap (λ d. settling right d ++ stream right (settled right d) (drop (taken c bytes) bytes)) next
      ∙ ap (λ n. settling right c ++ stream right (settled right c) (drop n bytes)) zero-taken
      ∙ ap (λ os. os ++ stream right (settled right c) bytes) none
      ∙ ap (λ d. stream right d bytes) same);
  after = sym (ap (λ d. after_stream right (settled right d) (drop (taken c bytes) bytes)) next
      ∙ ap (λ n. after_stream right (settled right c) (drop n bytes)) zero-taken
      ∙ ap (λ d. after_stream right d bytes) same);
}

still-judged : (right : Judge) (c : Connection) (bytes : List ℕ) → c.stage ≡ Ended → IsCall right c bytes
still-judged right c bytes stage =
    let stop = ended-stops c bytes stage in
    let quiet-is = settled-nothing right c (subst IsJudged (sym stage) tt) in
    idle right c bytes (ap (λ (s : Step). option_to_list s.1) quiet-is) (ap (λ
    (s : Step). s.0) quiet-is) stop.next stop.told stop.none

-- after a byte that was taken: the judgement, and the other bytes
record Goes-on (right : Judge) (d : Connection) (bs : List ℕ) : Type 0 where
  pub same : settling right d ++ stream right (settled right d) bs
      ≡ outcomes d bs ++ (settling right (after_bytes d bs)
      ++ stream right (settled right (after_bytes d bs)) (drop (taken d bs) bs))
  pub after : after_stream right (settled right d) bs
      ≡ after_stream right (settled right (after_bytes d bs)) (drop (taken d bs) bs)

goes-on : (right : Judge) (d : Connection) (bs : List ℕ) → IsJudged d.stage → IsCall right d bs → Goes-on right d bs
goes-on right d bs j call =
    let quiet-is = settled-nothing right d j in
    record {
      same = ap (λ (s : Step). option_to_list s.1 ++ stream right s.0 bs) quiet-is ∙ call.same;
      after = ap (λ (s : Step). after_stream right s.0 bs) quiet-is ∙ call.after;
    }

goes-on-whole : (right : Judge) (d : Connection) (bs : List ℕ) → d.stage ≡ Whole → Goes-on right d bs
goes-on-whole right d bs stage =
    let stop = whole-stops d bs stage in
    record {
      same = sym (ap (λ os. os ++ (settling right (after_bytes d bs)
          ++ stream right (settled right (after_bytes d bs)) (drop (taken d bs) bs))) stop.told
          ∙ ap (λ e. settling right e ++ stream right (settled right e) (drop (taken d bs) bs)) stop.next
          ∙ ap (λ n. settling right d ++ stream right (settled right d) (drop n bs)) stop.none);
      after = sym (ap (λ e. after_stream right (settled right e) (drop (taken d bs) bs)) stop.next
          ∙ ap (λ n. after_stream right (settled right d) (drop n bs)) stop.none);
    }

any-stage : (right : Judge) (d : Connection) (bs : List ℕ) (s : Stage) → d.stage ≡ s → (IsJudged s
    → IsCall right d bs) → Goes-on right d bs
any-stage right d bs Whole e call = goes-on-whole right d bs e
any-stage right d bs Taking e call = goes-on right d bs (subst IsJudged (sym e) tt) (call tt)
any-stage right d bs Complete e call = goes-on right d bs (subst IsJudged (sym e) tt) (call tt)
any-stage right d bs Ended e call = goes-on right d bs (subst IsJudged (sym e) tt) (call tt)

taken-one : (right : Judge) (c : Connection) (b : ℕ) (bs : List ℕ) → taken c (b ∷ bs) ≡ suc (taken (after c b).0 bs)
    → Goes-on right (after c b).0 bs → IsCall right c (b ∷ bs)
taken-one right c b bs one go =
    let d = (after c b).0 in
    let told = option_to_list (after c b).1 in
    record {
      same = append_assoc told (settling right d) (stream right (settled right d) bs)
          ∙ ap (λ os. told ++ os) go.same
          ∙ sym (append_assoc told (outcomes d bs) (settling right (after_bytes d bs)
          ++ stream right (settled right (after_bytes d bs)) (drop (taken d bs) bs)))
          ∙ ap (λ n. (told ++ outcomes d bs) ++ (settling right (after_bytes d bs)
          ++ stream right (settled right (after_bytes d bs)) (drop n (b ∷ bs)))) (sym one);
      after = go.after ∙ ap (λ n. after_stream right (settled right (after_bytes d bs)) (drop n (b ∷ bs))) (sym one);
    }

call-of : (right : Judge) (c : Connection) (b : ℕ) (bs : List ℕ) (s : Stage) → c.stage ≡ s → IsJudged s
    → (IsJudged (after c b).0.stage → IsCall right (after c b).0 bs) → IsCall right c (b ∷ bs)
call-of right c b bs Whole e j call = absurd j
call-of right c b bs Ended e j call = still-judged right c (b ∷ bs) e
call-of right c b bs Taking e j call =
    taken-one right c b bs (ap (λ (s : Stage). one_if_taken s (taken (after c b).0 bs)) e) (any-stage right
    (after c b).0 bs (after c b).0.stage refl call)
call-of right c b bs Complete e j call =
    taken-one right c b bs (ap (λ (s : Stage). one_if_taken s (taken (after c b).0 bs)) e) (any-stage right
    (after c b).0 bs (after c b).0.stage refl call)

pub calls : CallsAreTheStream
calls right c [] j =
    let quiet-is = settled-nothing right c j in
    idle right c [] (ap (λ (s : Step). option_to_list s.1) quiet-is) (ap (λ (s : Step). s.0) quiet-is) refl refl refl
calls right c (b ∷ bs) j = call-of right c b bs c.stage refl j (λ k. calls right (after c b).0 bs k)

pub ends : EndsAreFinal
ends right c bytes stage =
    let stop = ended-stops c bytes stage in
    record { none = stop.none; same = same c bytes stage; nothing = nothing c bytes stage }
  where
    byte : (d : Connection) (b : ℕ) → d.stage ≡ Ended → (after_byte right d b ≡ d) × (of_byte right d b ≡ [])
    byte d b e =
        let one : after d b ≡ quiet d = ap (λ (s : Stage). after_in s d b) e in
        let judged-is = settled-nothing right d (subst IsJudged (sym e) tt) in (
          ap (λ (s : Step). settled right s.0) one ∙ ap (λ (s : Step). s.0) judged-is,
          ap (λ (s : Step). option_to_list s.1 ++ settling right s.0) one
              ∙ ap (λ (s : Step). option_to_list s.1) judged-is,
        )

    same : (d : Connection) (bs : List ℕ) → d.stage ≡ Ended → after_stream right d bs ≡ d
    same d [] e = refl
    same d (b ∷ bs) e = ap (λ x. after_stream right x bs) (byte d b e).0 ∙ same d bs e

    nothing : (d : Connection) (bs : List ℕ) → d.stage ≡ Ended → stream right d bs ≡ []
    nothing d [] e = refl
    nothing d (b ∷ bs) e =
        ap (λ os. os ++ stream right (after_byte right d b) bs) (byte d b e).1
        ∙ ap (λ x. stream right x bs) (byte d b e).0 ∙ nothing d bs e
