-- For the answers of `run_event` and `run_events`: runs whose transcripts are written, one after the other.
use Rattle.std.proofs.Common.{
  ◌≡◌,
  ◌<◌,
  ◌≤◌,
  ◌+◌,
  ℕ,
  List,
  [],
  ◌∷◌,
  ◌++◌,
  length,
  take,
  drop,
  get_or,
  Option,
  Ok,
  Err,
  inl,
  inr,
  refl,
  sym,
  ap,
  subst,
  append_assoc,
  take_all,
  arith,
}
use Rattle.std.specs.Prelude.{Result, OnErr, OnOk}
use Rattle.std.specs.declared.io.Error.{Error}
use Rattle.std.specs.Io.KnownBytes.{Appends}
use Rattle.nvme_event.specs.declared.event.FleetEvent.{FleetEvent}
use Rattle.nvme_event.specs.Replies.{Reply}
use Rattle.script_text.specs.Streams.{WriteCall}
use Rattle.script_text.specs.Writing.{Cuts, IsWritten}
use Rattle.script_text.proofs.WritingLemmas.{Appends-more}
use Rattle.nvme_transcript.specs.Transcript.{line_of, transcript}
use Rattle.nvme_transcript.specs.Writing.{WritesLine}
use Rattle.nvme_grammar.specs.Kept.{kept_events}
use Rattle.nvme_grammar.specs.Lent.{event_by_value}
use Rattle.nvme_grammar.specs.declared.kept.KeptEvent.{KeptEvent}
use Rattle.nvme_script.specs.ScriptWrites.{FailsLine, StopsAtBy, TranscribesBy, WritesLines, lines_of}
use Rattle.nvme_script.proofs.ByValue.{line-by_value}
use Rattle.nvme_script.proofs.Halfway.{parted, next}
use Rattle.nvme_script.proofs.Running.{Appends-none, IsRun, slice_get-behind, take-behind, transcript-append}
use Rattle.std.proofs.lemmas.Bool.{false≢true}
use Rattle.std.proofs.lemmas.List.{append-nil}

lines-append : (es fs : List FleetEvent) (rs qs : List Reply)
    → length es ≡ length rs → lines_of (es ++ fs) (rs ++ qs) ≡ lines_of es rs ++ lines_of fs qs
lines-append [] fs [] qs h = refl
lines-append [] fs (r ∷ rs) qs h = absurd (omega (arith, h))
lines-append (e ∷ es) fs [] qs h = absurd (omega (arith, h))
lines-append (e ∷ es) fs (r ∷ rs) qs h = ap (λ t. line_of e r ∷ t) (lines-append es fs rs qs (omega (arith, h)))

module _ {W : Type 0} (write : W → WriteCall → W → Type 0) where
  written-behind : (ls ms : List (List ℕ)) (x y z : W) → WritesLines write ls x y → WritesLines write ms y z
      → WritesLines write (ls ++ ms) x z
  written-behind [] ms x y z h k = subst (λ (w : W). WritesLines write ms w z) h k
  written-behind (l ∷ ls) ms x y z (mid, one, rest) k = (mid, one, written-behind ls ms mid y z rest k)

  -- the result of writing a line
  pub line-written : (line : List ℕ) (x y : W) (r : Result (Unit {0}) Error) (P : Type 0) (A : Type 0)
      → WritesLine write line x r y → OnOk r A
      → (A → IsWritten {T = Unit {0}} {E = Error} write line x (Ok tt) y → P) → OnOk r P
  line-written line x y (Ok u) P A (inl whole) ok then = then ok whole
  line-written line x y (Ok u) P A (inr (long, failed, same)) ok then = absurd (false≢true failed)
  line-written line x y (Err e) P A h ok then = tt

  pub line-failed : (line : List ℕ) (x y : W) (r : Result (Unit {0}) Error) (P : Type 0) (A : Type 0)
      → WritesLine write line x r y → OnErr r A → (A → FailsLine write line x y → P) → OnErr r P
  line-failed line x y (Ok u) P A h err then = tt
  line-failed line x y (Err e) P A h err then = then err (e, h)

module _ {S W : Type 0} (Ran : S → List FleetEvent → List Reply → S → Type 0) (is : IsRun Ran)
    (write : W → WriteCall → W → Type 0) (contents : W → Option (List ℕ)) where
  pub by-none : (f : S) (w : W) → TranscribesBy Ran write contents f [] f w w
  by-none f w = record {
    transcribed = record { replies = []; ran = is.nothing f; wrote = Appends-none (contents w) };
    written = refl;
  }

  by-append : (es fs : List FleetEvent) (a b c : S) (x y z : W) → TranscribesBy Ran write contents a es b x y
      → TranscribesBy Ran write contents b fs c y z → TranscribesBy Ran write contents a (es ++ fs) c x z
  by-append es fs a b c x y z h k =
      let hs = h.transcribed in
      let ks = k.transcribed in
      let long = is.long es hs.replies a b hs.ran in
      record {
        transcribed = record {
          replies = hs.replies ++ ks.replies;
          ran = is.behind es fs hs.replies ks.replies a b c hs.ran ks.ran;
          wrote = rw (transcript-append es fs hs.replies ks.replies long) (Appends-more (contents x) (contents y)
              (contents z) (transcript es hs.replies) (transcript fs ks.replies) hs.wrote ks.wrote);
        };
        written = subst (λ ls. WritesLines write ls x z) (sym (lines-append es fs hs.replies ks.replies long))
            (written-behind write (lines_of es hs.replies) (lines_of fs ks.replies) x y z h.written k.written);
      }

  by-behind : (es fs gs : List FleetEvent) (a b c : S) (x y z : W) → TranscribesBy Ran write contents a es b x y
      → StopsAtBy Ran write contents b fs c y z → StopsAtBy Ran write contents a (es ++ fs ++ gs) c x z
  by-behind es fs gs a b c x y z h k =
      let hs = h.transcribed in
      let ks = k.stopped in
      let long = is.long es hs.replies a b hs.ran in
      let front = take-behind es fs gs ks.index ks.event ks.is in
      let ran =
      is.behind es (take ks.index fs ++ ks.event ∷ []) hs.replies (ks.told ++ ks.cut ∷ []) a b c hs.ran ks.ran in
      record {
        stopped = record {
          index = length es + ks.index;
          event = ks.event;
          is = slice_get-behind es fs gs ks.index ks.event ks.is;
          told = hs.replies ++ ks.told;
          cut = ks.cut;
          ran = rw (
            front,
            append_assoc es (take ks.index fs) (ks.event ∷ []),
            append_assoc hs.replies ks.told (ks.cut ∷ []),
          ) ran;
          bytes = ks.bytes;
          part = ks.part;
          wrote = rw (
            front,
            transcript-append es (take ks.index fs) hs.replies ks.told long,
            append_assoc (transcript es hs.replies) (transcript (take ks.index fs) ks.told)
                (take ks.bytes (line_of ks.event ks.cut)),
          )
              (Appends-more (contents x) (contents y) (contents z) (transcript es hs.replies)
              (transcript (take ks.index fs) ks.told ++ take ks.bytes (line_of ks.event ks.cut)) hs.wrote ks.wrote);
        };
        between = k.between;
        written = subst (λ es. WritesLines write (lines_of es (hs.replies ++ ks.told)) x k.between) (sym front)
            (subst (λ ls. WritesLines write ls x k.between)
            (sym (lines-append es (take ks.index fs) hs.replies ks.told long))
            (written-behind write (lines_of es hs.replies)
            (lines_of (take ks.index fs) ks.told) x y k.between h.written k.written));
        failed = k.failed;
      }

  -- one event
  module _ (a b : S) (event : FleetEvent) (reply : Reply) (x y : W)
      (ran : Ran a (event_by_value event ∷ []) (reply ∷ []) b) where
    pub by-one : Appends (contents x) (contents y) (line_of event reply)
        → IsWritten {T = Unit {0}} {E = Error} write (line_of event reply) x (Ok tt) y
        → TranscribesBy Ran write contents a (event_by_value event ∷ []) b x y
    by-one wrote written = record {
      transcribed = record {
        replies = reply ∷ [];
        ran = ran;
        wrote = rw (append-nil (line_of (event_by_value event) reply), line-by_value event reply) wrote;
      };
      written = (
        y,
        subst (λ l. IsWritten {T = Unit {0}} {E = Error} write l x (Ok tt) y) (sym (line-by_value event reply)) written,
        refl,
      );
    }

    pub stops-one : Cuts (contents x) (contents y) (line_of event reply) → FailsLine write (line_of event reply) x y
        → StopsAtBy Ran write contents a (event_by_value event ∷ []) b x y
    stops-one cut failed = record {
      stopped = record {
        index = 0;
        event = event_by_value event;
        is = refl;
        told = [];
        cut = reply;
        ran = ran;
        bytes = cut.0;
        part = rw (line-by_value event reply) cut.1;
        wrote = rw (line-by_value event reply) cut.2;
      };
      between = x;
      written = refl;
      failed = subst (λ l. FailsLine write l x y) (sym (line-by_value event reply)) failed;
    }

  -- the stored events of a text, some of which have run
  module _ (text : List ℕ)
      (events : List KeptEvent) (i : ℕ) (d : KeptEvent) (inside : i < length events) (old mid new : S) (x y z : W)
      (half : TranscribesBy Ran write contents old (kept_events text (take i events)) mid x y) where
    pub half-next : TranscribesBy Ran write contents mid (kept_events text (get_or events i d ∷ [])) new y z
        → TranscribesBy Ran write contents old (kept_events text (take (i + 1) events)) new x z
    half-next more = subst (λ (es : List FleetEvent). TranscribesBy Ran write contents old es new x z)
        (sym (next text events i d inside))
        (by-append (kept_events text (take i events))
        (kept_events text (get_or events i d ∷ [])) old mid new x y z half more)

    pub half-stops : StopsAtBy Ran write contents mid (kept_events text (get_or events i d ∷ [])) new y z
        → StopsAtBy Ran write contents old (kept_events text events) new x z
    half-stops stops =
        subst (λ (es : List FleetEvent). StopsAtBy Ran write contents old es new x z)
        (sym (parted text events i d inside))
        (by-behind (kept_events text (take i events)) (kept_events text (get_or events i d ∷ []))
        (kept_events text (drop (i + 1) events)) old mid new x y z half stops)

-- all have run
pub half-whole : {S W : Type 0} (Ran : S → List FleetEvent → List Reply → S → Type 0)
    (write : W → WriteCall → W → Type 0) (contents : W → Option (List ℕ)) (text : List ℕ) (events : List KeptEvent)
    (i : ℕ) (old now : S) (x y : W) → length events ≤ i
    → TranscribesBy Ran write contents old (kept_events text (take i events)) now x y
    → TranscribesBy Ran write contents old (kept_events text events) now x y
half-whole Ran write contents text events i old now x y all half =
    subst (λ (es : List KeptEvent). TranscribesBy Ran write contents old (kept_events text es) now x y)
    (take_all i events all) half
