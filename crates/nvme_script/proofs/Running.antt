-- For the answers of `run_events` and of sessions: runs and their transcripts, one after the other.
use Rattle.std.proofs.Common.{
  ◌≡◌,
  ℕ,
  zero,
  suc,
  Bool,
  ◌+◌,
  List,
  [],
  ◌∷◌,
  ◌++◌,
  length,
  take,
  Option,
  Some,
  None,
  refl,
  sym,
  ap,
  ◌∙◌,
  subst,
  append_assoc,
  arith,
}
use Rattle.std.proofs.lemmas.List.{append-nil}
use Rattle.std.proofs.lemmas.Grind.{flat_map-append}
use Rattle.std.specs.List.{flat_map, zip}
use Rattle.std.specs.Io.KnownBytes.{Appends}
use Rattle.std.specs.Prelude.{Result, Ok, Err, OnOk, OnErr, slice_get}
use Rattle.nvme_event.specs.declared.event.FleetEvent.{FleetEvent}
use Rattle.nvme_event.specs.Replies.{Reply}
use Rattle.nvme_fleet.specs.FleetStates.{Layers}
use Rattle.nvme_fleet.specs.LayerCalls.{AreCallsOfRun, AreCallsOfStep}
use Rattle.nvme_spec.specs.MediumCalls.{MediumCall, MakesCalls}
use Rattle.nvme_spec.proofs.MediumCalls.{calls-joined}
use Rattle.nvme_subsys.specs.OverMedium.{OverMedium}
use Rattle.script_text.proofs.WritingLemmas.{Appends-more}
use Rattle.nvme_transcript.specs.Transcript.{line_of, transcript}
use Rattle.nvme_grammar.specs.Lent.{event_by_value}
use Rattle.nvme_script.specs.Faults.{Transcribes}
use Rattle.nvme_script.specs.ScriptCalls.{RanCalling}
use Rattle.nvme_script.proofs.ByValue.{calls-by_value}

pub Appends-none : (x : Option (List ℕ)) → Appends x x []
Appends-none None = tt
Appends-none (Some xs) = sym (append-nil xs)

pub on_ok-map : {T E : Type 0} (P Q : Type 0) (r : Result T E) → (P → Q) → OnOk r P → OnOk r Q
on_ok-map P Q (Ok x) f p = f p
on_ok-map P Q (Err e) f p = tt

pub on_err-map : {T E : Type 0} (P Q : Type 0) (r : Result T E) → (P → Q) → OnErr r P → OnErr r Q
on_err-map P Q (Ok x) f p = tt
on_err-map P Q (Err e) f p = f p

pub on_err_from : {T E P : Type 0} (r : Result T E) → P → OnErr r P
on_err_from (Ok x) p = tt
on_err_from (Err e) p = p

pub slice_get-behind : {A : Type 0} (xs ys zs : List A) (i : ℕ) (y : A)
    → slice_get ys i ≡ Some y → slice_get (xs ++ ys ++ zs) (length xs + i) ≡ Some y
slice_get-behind {A = A} [] ys zs i y e = rw (zero-plus i) (front ys i e)
  where
    zero-plus : (i : ℕ) → 0 + i ≡ i
    zero-plus i = omega arith

    front : (ys : List A) (i : ℕ) → slice_get ys i ≡ Some y → slice_get (ys ++ zs) i ≡ Some y
    front [] i e = absurd (cc)
    front (x ∷ ys) zero e = e
    front (x ∷ ys) (suc i) e = front ys i e
slice_get-behind (x ∷ xs) ys zs i y e = rw (more (length xs) i) (slice_get-behind xs ys zs i y e)
  where
    more : (n i : ℕ) → suc n + i ≡ suc (n + i)
    more n i = omega arith

pub take-behind : {A : Type 0} (xs ys zs : List A) (i : ℕ) (y : A)
    → slice_get ys i ≡ Some y → take (length xs + i) (xs ++ ys ++ zs) ≡ xs ++ take i ys
take-behind {A = A} [] ys zs i y e = rw (zero-plus i) (front ys i e)
  where
    zero-plus : (i : ℕ) → 0 + i ≡ i
    zero-plus i = omega arith

    front : (ys : List A) (i : ℕ) → slice_get ys i ≡ Some y → take i (ys ++ zs) ≡ take i ys
    front [] i e = absurd (cc)
    front (x ∷ ys) zero e = refl
    front (x ∷ ys) (suc i) e = ap (λ t. x ∷ t) (front ys i e)
take-behind (x ∷ xs) ys zs i y e = rw (more (length xs) i) (ap (λ t. x ∷ t) (take-behind xs ys zs i y e))
  where
    more : (n i : ℕ) → suc n + i ≡ suc (n + i)
    more n i = omega arith

abbrev line : FleetEvent × Reply → List ℕ
line p = line_of p.0 p.1

-- A notion of a run: no events leave the state, a run after a run is a run, and there are as many replies as events.
pub record IsRun {S : Type 0} (Ran : S → List FleetEvent → List Reply → S → Type 0) : Type 0 where
  pub nothing : (s : S) → Ran s [] [] s
  pub behind : (es fs : List FleetEvent) (rs qs : List Reply) (a b c : S)
      → Ran a es rs b → Ran b fs qs c → Ran a (es ++ fs) (rs ++ qs) c
  pub long : (es : List FleetEvent) (rs : List Reply) (a b : S) → Ran a es rs b → length es ≡ length rs

zip-append : (es fs : List FleetEvent) (rs qs : List Reply)
    → length es ≡ length rs → zip (es ++ fs) (rs ++ qs) ≡ zip es rs ++ zip fs qs
zip-append [] fs [] qs h = refl
zip-append [] fs (r ∷ rs) qs h = absurd (omega (arith, h))
zip-append (e ∷ es) fs [] qs h = absurd (omega (arith, h))
zip-append (e ∷ es) fs (r ∷ rs) qs h = ap (λ t. (e, r) ∷ t) (zip-append es fs rs qs (omega (arith, h)))

pub transcript-append : (es fs : List FleetEvent) (rs qs : List Reply)
    → length es ≡ length rs → transcript (es ++ fs) (rs ++ qs) ≡ transcript es rs ++ transcript fs qs
transcript-append es fs rs qs h =
    ap (flat_map line) (zip-append es fs rs qs h) ∙ flat_map-append line (zip es rs) (zip fs qs)

module _ {S : Type 0} (Ran : S → List FleetEvent → List Reply → S → Type 0) (is : IsRun Ran) where
  pub Transcribes-none : (f : S) (x : Option (List ℕ)) → Transcribes Ran f [] f x x
  Transcribes-none f x = record { replies = []; ran = is.nothing f; wrote = Appends-none x }

  pub Transcribes-append : (es fs : List FleetEvent) (a b c : S) (x y z : Option (List ℕ))
      → Transcribes Ran a es b x y → Transcribes Ran b fs c y z → Transcribes Ran a (es ++ fs) c x z
  Transcribes-append es fs a b c x y z h k = record {
    replies = h.replies ++ k.replies;
    ran = is.behind es fs h.replies k.replies a b c h.ran k.ran;
    wrote = rw (transcript-append es fs h.replies k.replies (is.long es h.replies a b h.ran))
        (Appends-more x y z (transcript es h.replies) (transcript fs k.replies) h.wrote k.wrote);
  }

-- Runs of both layers, and the calls that they make.
calls-behind : (tells : Bool) (es fs : List FleetEvent) (rs qs : List Reply) (a b c : Layers)
    (calls later : List MediumCall) → AreCallsOfRun tells a es rs b calls → AreCallsOfRun tells b fs qs c later
    → AreCallsOfRun tells a (es ++ fs) (rs ++ qs) c (calls ++ later)
calls-behind tells [] fs [] qs a b c calls later h k =
    subst (λ cs. AreCallsOfRun tells a fs qs c (cs ++ later)) (sym h.1)
    (subst (λ (l : Layers). AreCallsOfRun tells l fs qs c later) h.0 k)
calls-behind tells [] fs (r ∷ rs) qs a b c calls later h k = absurd h
calls-behind tells (e ∷ es) fs [] qs a b c calls later h k = absurd h
calls-behind tells (e ∷ es) fs (r ∷ rs) qs a b c calls later (mid, here, rest, step, run, joined) k = (
  mid,
  here,
  rest ++ later,
  step,
  calls-behind tells es fs rs qs mid b c rest later run k,
  ap (λ cs. cs ++ later) joined ∙ append_assoc here rest later,
)

calls-long : (tells : Bool) (es : List FleetEvent) (rs : List Reply) (a b : Layers) (calls : List MediumCall)
    → AreCallsOfRun tells a es rs b calls → length es ≡ length rs
calls-long tells [] [] a b calls h = refl
calls-long tells [] (r ∷ rs) a b calls h = absurd h
calls-long tells (e ∷ es) [] a b calls h = absurd h
calls-long tells (e ∷ es) (r ∷ rs) a b calls (mid, here, behind, step, run, joined) = let rest =
    calls-long tells es rs mid b behind run in omega (arith, rest)

module _ {M : Type 0} (step : M → MediumCall → M → Type 0) (tells : Bool) where
  pub layers-run : IsRun (RanCalling step tells)
  layers-run = record {
    nothing = λ s. record { calls = []; are = (refl, refl); made = refl };
    behind = λ es fs rs qs a b c h k. record {
      calls = h.calls ++ k.calls;
      are = calls-behind tells es fs rs qs a.state b.state c.state h.calls k.calls h.are k.are;
      made = calls-joined step h.calls k.calls a.medium b.medium c.medium h.made k.made;
    };
    long = λ es rs a b h. calls-long tells es rs a.state b.state h.calls h.are;
  }

  pub called-one : (a b : OverMedium Layers M) (event : FleetEvent) (reply : Reply)
      → MakesCalls step (AreCallsOfStep tells a.state event reply b.state) a.medium b.medium
      → RanCalling step tells a (event_by_value event ∷ []) (reply ∷ []) b
  called-one a b event reply h = record {
    calls = h.calls;
    are = (
      b.state,
      h.calls,
      [],
      calls-by_value tells a.state b.state event reply h.calls h.are,
      (refl, refl),
      sym (append-nil h.calls),
    );
    made = h.made;
  }
