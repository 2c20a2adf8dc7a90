-- For the answer of `run_live_within`: a whole session, by the effect of the script before it.
use Rattle.std.proofs.Common.{◌≡◌, ℕ, Bool, List, Option, None, Some, Ok, Err, inl, inr, refl, sym, ap, subst, ◌∙◌}
use Rattle.std.specs.Prelude.{IfErr, IfOk, MatchResult, Result}
use Rattle.nvme_spec.specs.Blocks.{Device}
use Rattle.nvme_spec.specs.Configuration.{Capacity}
use Rattle.nvme_spec.specs.MediumCalls.{MediumCall}
use Rattle.nvme_subsys.specs.OverMedium.{over}
use Rattle.nvme_live.specs.declared.line_numbers.LineNumbers.{LineNumbers}
use Rattle.nvme_live.specs.SetUps.{SetUp, no_numbers, nothing_set_up, numbers_in, set_up_of}
use Rattle.nvme_fleet.specs.FleetStates.{Layers}
use Rattle.script_text.specs.Lines.{text_lines}
use Rattle.script_text.specs.Streams.{ReadCall, WriteCall}
use Rattle.script_text.specs.Reading.{IsRead}
use Rattle.script_text.specs.declared.reading.ReadFault.{ReadFault}
use Rattle.nvme_grammar.specs.Script.{start_of}
use Rattle.nvme_grammar.specs.declared.script.Script.{Script}
use Rattle.nvme_program.specs.declared.fault.ScriptFault.{ScriptFault}
use Rattle.nvme_program.specs.FaultKinds.{of_reading}
use Rattle.nvme_script.specs.Faults.{IsEarlyFault, IsReady, IsScript, ReadsThen}
use Rattle.nvme_live.specs.AnswerCalls.{TurnOver}
use Rattle.nvme_live.specs.Conversations.{Ends, EndsBy, standing_over}
use Rattle.nvme_live.specs.Lives.{Fails, FailsBehindReading, FailsFirst, LivesOn, Opens, Rests, RunsTo, surroundings}
use Rattle.nvme_live.specs.Standings.{Setting, Running}
use Rattle.script_text.specs.Writing.{Sending}
use Rattle.nvme_live.specs.Streams.{LineCall, SendsBy}
use Rattle.nvme_live.proofs.Starting.{nothing-set}

pub not-some : (o : Option ℕ) → ((n : ℕ) → o ≡ Some n → ⊥) → o ≡ None
not-some None h = refl
not-some (Some n) h = absurd (h n refl)

module _ {S M R W : Type 0} (read : S → ReadCall → S → Type 0) (unread : S → Option (List ℕ)) (s t : S)
    (step : M → MediumCall → M → Type 0) (tells : Bool) (device : M → Device) (Reads : R → LineCall → R → Type 0)
    (write : W → WriteCall → W → Type 0) (flush : W → Bool → W → Type 0) (contents : W → Option (List ℕ))
    (size : Capacity) (text : List ℕ) (script : Script) (ready : IsReady text script)
    (is : IsRead read unread s (Ok text) t)
    (medium : M) (from to : R) (before after : W) where
  abbrev Sends : W → Sending → W → Type 0
  Sends = SendsBy write flush contents

  abbrev Ok-live : {E : Type 0} → Result M E → Type 0
  Ok-live r = IfOk r (λ left. (text : List ℕ) × IsRead read unread s (Ok text) t × LivesOn step tells device Reads write
      flush contents size text (surroundings from before medium) (surroundings to after left))

  abbrev Err-live : {E : Type 0} → Result E (ScriptFault × M) → Type 0
  Err-live r =
      IfErr r (λ e. FailsBehindReading read unread s t e.0 (surroundings from before medium) (surroundings to after e.1)
      (λ text. Fails step tells device Reads write flush contents size text e.0 (surroundings from before medium)
      (surroundings to after e.1)))

  -- without `start` the configuration is empty, and no line is numbered
  module _ (numbers : LineNumbers) (unnumbered : numbers_in numbers ≡ no_numbers) (set : SetUp)
      (kept : set ≡ set_up_of script.config numbers) where
    nothing-yet : script.start ≡ None → set ≡ nothing_set_up
    nothing-yet none =
        kept ∙ (λ i. record { configuration = nothing-set text script ready none i; numbers = unnumbered i })

    setting : script.start ≡ None → Opens step tells device write flush contents size text medium
        (start_of (text_lines text)) (over (Setting set) medium) before before
    setting none =
        subst (λ (o : Option ℕ). Opens step tells device write flush contents size text medium o
        (over (Setting set) medium) before before) (sym (sym ready.says.start ∙ none))
        (ready.grammar, ap (λ c. over (Setting c) medium) (nothing-yet none), refl)

    pub live-set-ok : {E : Type 0} (r : Result M E) → script.start ≡ None
        → IfOk r (λ left. Rests device (λ last. Ends (TurnOver step tells size (device medium)) Reads Sends 1
        (over (Setting set) medium) last from to before after) (device medium) left) → Ok-live r
    live-set-ok (Ok left) none h =
        (text, is, record { first = over (Setting set) medium; told = before; opened = setting none; rests = h })
    live-set-ok (Err e) none h = tt

    pub live-set-err : {E : Type 0} (r : Result E (ScriptFault × M)) → script.start ≡ None
        → IfErr r (λ e. Rests device (λ last. EndsBy e.0 (TurnOver step tells size (device medium)) Reads Sends
        standing_over 1 (over (Setting set) medium) last from to before after) (device medium) e.1) → Err-live r
    live-set-err (Ok left) none h = tt
    live-set-err (Err e) none h = (
      Ok text,
      is,
      inr (record { first = over (Setting set) medium; told = before; opened = setting none; rests = h }),
    )

  module _ (n : ℕ) (starts : script.start ≡ Some n) (l : Layers) (mid : M) (y : W)
      (ran : IsScript text size × RunsTo step tells device write flush contents text medium l mid before y) where
    runs : Opens step tells device write flush contents size text medium (start_of (text_lines text))
        (over (Running l) mid) before y
    runs =
        subst (λ (o : Option ℕ). Opens step tells device write flush contents size text medium o
        (over (Running l) mid) before y) (sym (sym ready.says.start ∙ starts))
        (ran.0, l, mid, ran.1, refl)

    pub live-ran-ok : {E : Type 0} (r : Result M E) → IfOk r (λ left. (size : Capacity) (d : Device) → Rests device
        (λ last. Ends (TurnOver step tells size d) Reads Sends 1 (over (Running l) mid) last from to y after) d left)
        → Ok-live r
    live-ran-ok (Ok left) h =
        (text, is, record { first = over (Running l) mid; told = y; opened = runs; rests = h size (device medium) })
    live-ran-ok (Err e) h = tt

    pub live-ran-err : {E : Type 0} (r : Result E (ScriptFault × M))
        → IfErr r (λ e. (size : Capacity) (d : Device) → Rests device (λ last. EndsBy e.0 (TurnOver step tells size d)
        Reads Sends standing_over 1 (over (Running l) mid) last from to y after) d e.1) → Err-live r
    live-ran-err (Ok left) h = tt
    live-ran-err (Err e) h = (
      Ok text,
      is,
      inr (record { first = over (Running l) mid; told = y; opened = runs; rests = h size (device medium) }),
    )

  -- a script that does not run to its end
  pub live-stops : (fault : ScriptFault) (left : M)
      → from ≡ to → FailsFirst step tells device write flush contents size text fault medium left before after
      → FailsBehindReading read unread s t fault (surroundings from before medium) (surroundings to after left)
      (λ text. Fails step tells device Reads write flush contents size text fault (surroundings from before medium)
      (surroundings to after left))
  live-stops fault left same h = (Ok text, is, inl (h, sym same))

-- A script that can't be read, or whose text is refused.
module _ {S M R W : Type 0} (read : S → ReadCall → S → Type 0) (unread : S → Option (List ℕ)) (s t : S)
    (step : M → MediumCall → M → Type 0) (tells : Bool) (device : M → Device) (Reads : R → LineCall → R → Type 0)
    (write : W → WriteCall → W → Type 0) (flush : W → Bool → W → Type 0) (contents : W → Option (List ℕ))
    (size : Capacity) (fault : ScriptFault) (medium : M) (reader : R) (writer : W) where
  abbrev Failing : List ℕ → Type 0
  Failing text = Fails step tells device Reads write flush contents size text fault (surroundings reader writer medium)
      (surroundings reader writer medium)

  pub live-unready : ReadsThen read unread s t fault (λ text. (size : Capacity) → IsEarlyFault fault text size)
      → FailsBehindReading read unread s t fault (surroundings reader writer medium) (surroundings reader writer medium)
      (λ text. Failing text)
  live-unready h = (h.0, h.1, by h.0 h.2)
    where
      by : (outcome : Result (List ℕ) ReadFault) → MatchResult outcome
          (λ text. (size : Capacity) → IsEarlyFault fault text size) (λ reading. fault ≡ of_reading reading)
          → MatchResult outcome (λ text. Failing text) (λ reading.
          (fault ≡ of_reading reading) × (surroundings reader writer medium ≡ surroundings reader writer medium))
      by (Ok text) k = inl (inl (k size, refl, refl), refl)
      by (Err reading) k = (k, refl)
