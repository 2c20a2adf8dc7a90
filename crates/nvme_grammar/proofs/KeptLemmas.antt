-- For the answer of `read_lines`: the stored events of a checked text.
use Rattle.std.proofs.Common.{
  ◌≡◌,
  ℕ,
  Bool,
  true,
  false,
  ◌+◌,
  ◌-◌,
  ◌<◌,
  ◌≤◌,
  ◌^◌,
  List,
  [],
  ◌∷◌,
  ◌++◌,
  length,
  drop,
  Option,
  Some,
  None,
  Bor,
  refl,
  sym,
  ap,
  ◌∙◌,
  arith,
}
use Rattle.std.specs.Prelude.{nat_lt, if◌then◌else◌, IfSome}
use Rattle.std.specs.List.{filter_map}
use Rattle.std.proofs.lemmas.List.{drop-drop}
use Rattle.std.proofs.lemmas.List.Elements.{filter_map-append}
use Rattle.nvme_event.specs.declared.event.FleetEvent.{FleetEvent}
use Rattle.nvme_event.specs.declared.event.FleetEvent.TheVariants.{BringUp, Ring, Fetch, Execute, Poll, Reset}
use Rattle.script_text.specs.Lines.{text_lines}
use Rattle.nvme_grammar.specs.Arity.{◌>>=◌}
use Rattle.nvme_grammar.specs.Kept.{first_event, kept_event, kept_events, kept_as}
use Rattle.nvme_grammar.specs.Line.{line_at}
use Rattle.nvme_grammar.specs.Reading.{event_aside, line_aside, kept_of_line}
use Rattle.nvme_grammar.specs.Script.{event_in}
use Rattle.nvme_grammar.specs.declared.kept.KeptEvent.{KeptEvent}
use Rattle.nvme_grammar.specs.declared.kept.KeptEvent.TheVariants as kept
use Rattle.nvme_grammar.specs.declared.line.Line.{Line}
use Rattle.nvme_grammar.specs.declared.line.Line.TheVariants.{Blank, Controller, Namespace, Attached, Start, Event}

-- an event is stored in the form of its placeholder
as-aside : (before : ℕ) (e : FleetEvent) → kept_as before e ≡ kept_as before (event_aside e)
as-aside before (BringUp c) = refl
as-aside before (Ring c) = refl
as-aside before (Fetch c q) = refl
as-aside before (Execute c i) = refl
as-aside before (Poll c) = refl
as-aside before (Reset c) = refl
as-aside before e = refl

of-aside : (before : ℕ) (l : Line) → kept_of_line before l ≡ kept_of_line before (line_aside l)
of-aside before Blank = refl
of-aside before (Controller x) = refl
of-aside before (Namespace x) = refl
of-aside before (Attached c n) = refl
of-aside before Start = refl
of-aside before (Event e) = ap (λ k. k ∷ []) (as-aside before e)

-- a stored event is the event again, if its line is at that position
kept-back : (text : List ℕ) (before : ℕ) (e : FleetEvent) → first_event (text_lines (drop before text)) ≡ Some e
    → kept_event text (kept_as before e) ≡ Some e
kept-back text before (BringUp c) h = refl
kept-back text before (Ring c) h = refl
kept-back text before (Fetch c q) h = refl
kept-back text before (Execute c i) h = by (nat_lt i (2 ^ 16))
  where
    by : (t : Bool) → kept_event text (if t then kept.Execute c i else kept.Line before) ≡ Some (Execute c i)
    by true = refl
    by false = h
kept-back text before (Poll c) h = refl
kept-back text before (Reset c) h = refl
kept-back text before e h = h

one-kept : (text : List ℕ) (k : KeptEvent) (e : FleetEvent)
    → kept_event text k ≡ Some e → kept_events text (k ∷ []) ≡ e ∷ []
one-kept text k e h = rw h refl

-- a checked line is stored as its event, if it is one
module _ (text : List ℕ) (before : ℕ) (raw : List ℕ) (behind : List (List ℕ))
    (here : text_lines (drop before text) ≡ raw ∷ behind) where
  line-kept : (m : Line)
      → line_at raw ≡ Some m → kept_events text (kept_of_line before m) ≡ filter_map event_in (m ∷ [])
  line-kept Blank e = refl
  line-kept (Controller x) e = refl
  line-kept (Namespace x) e = refl
  line-kept (Attached c n) e = refl
  line-kept Start e = refl
  line-kept (Event x) e =
      one-kept text (kept_as before x) x (kept-back text before x (ap first_event here ∙ ap (λ o. o >>= event_in) e))

  pub kept-next : (events : List KeptEvent) (lines : List Line) (l m : Line)
      → line_aside l ≡ line_aside m → line_at raw ≡ Some m
      → kept_events text events ≡ filter_map event_in lines
      → kept_events text (events ++ kept_of_line before l) ≡ filter_map event_in (lines ++ m ∷ [])
  kept-next events lines l m same e h =
      let one : kept_of_line before l ≡ kept_of_line before m =
      of-aside before l ∙ ap (kept_of_line before) same ∙ sym (of-aside before m) in
      ap (λ k. kept_events text (events ++ k)) one ∙ filter_map-append (kept_event text) events (kept_of_line before m)
      ∙ ap (λ t. t ++ kept_events text (kept_of_line before m)) h
      ∙ ap (λ t. filter_map event_in lines ++ t) (line-kept m e)
      ∙ sym (filter_map-append event_in lines (m ∷ []))

-- the rest of a text is its end
abbrev pub IsEnd : List ℕ → Option (Bor (List ℕ)) → Type 0
IsEnd text rest = IfSome rest (λ r. r.now ≡ drop (length text - length r.now) text)

pub whole-end : (text : List ℕ) → text ≡ drop (length text - length text) text
whole-end text = let none : 0 ≡ length text - length text = omega arith in ap (λ n. drop n text) none

pub end-next : (text lines : List ℕ) (rest : Option (Bor (List ℕ)))
    → length lines ≤ length text → lines ≡ drop (length text - length lines) text
    → IfSome rest (λ r. length r.now < length lines)
    → IfSome rest (λ r. r.now ≡ drop (length lines - length r.now) lines) → IsEnd text rest
end-next text lines None short is k h = tt
end-next text lines (Some r) short is k h =
    let place : length text - length lines + (length lines - length r.now) ≡ length text - length r.now =
    omega (arith, k, short) in
    h ∙ ap (drop (length lines - length r.now)) is
    ∙ drop-drop (length lines - length r.now) (length text - length lines) text ∙ ap (λ n. drop n text) place
