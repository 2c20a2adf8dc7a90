-- Proofs of the laws on scripts.
use Rattle.std.proofs.Common.{
  ◌≡◌,
  ℕ,
  Bool,
  true,
  false,
  List,
  [],
  ◌∷◌,
  ◌++◌,
  None,
  refl,
  sym,
  ap,
  ◌∙◌,
  append_assoc,
  arith,
  inl,
  inr,
}
use Rattle.std.specs.Prelude.{◌||◌}
use Rattle.std.specs.List.{filter_map, list_any}
use Rattle.std.specs.Option.{is_some}
use Rattle.std.proofs.lemmas.Bool.{false≢true, cases_lt}
use Rattle.std.proofs.lemmas.List.Folds.{list_any-append}
use Rattle.nvme_event.specs.declared.event.FleetEvent.{FleetEvent}
use Rattle.nvme_grammar.specs.Script.{
  Begins,
  ArePlaced,
  IsFirstOutside,
  said,
  fits_behind,
  is_start,
  event_in,
  start_of,
  events_of,
}
use Rattle.nvme_grammar.specs.declared.line.Line.{Line}
use Rattle.nvme_grammar.specs.declared.line.Line.TheVariants.{Blank, Controller, Namespace, Attached, Start, Event}
use Rattle.nvme_grammar.proofs.ReadingLemmas.{started}
use Rattle.nvme_grammar.proofs.ScriptLemmas.{Begins-take}

pub exclusive : (raw : List (List ℕ)) (n : ℕ) → Begins raw → IsFirstOutside n raw → ⊥
exclusive raw n begun first = first.outside (Begins-take raw n begun)

pub unique : (raw : List (List ℕ)) (m n : ℕ) → IsFirstOutside m raw → IsFirstOutside n raw → m ≡ n
unique raw m n one other = elim (cases_lt m n) [
  | inl less ↦ absurd (one.outside (other.before m less))
  | inr least ↦ elim (cases_lt n m) [
    | inl less ↦ absurd (other.outside (one.before n less))
    | inr most ↦ omega arith
  ]
]

or_front : (a b : Bool) → (a || b) ≡ false → a ≡ false
or_front false b h = refl
or_front true b h = absurd (false≢true (sym h))

early_event : (before : List Line) (event : FleetEvent) → list_any is_start before ≡ false
    → fits_behind before (Event event) ≡ false
early_event before event none = rw none refl

-- none of these lines is `start`, so none of the later ones is an event
no_events : (before lines : List Line) → ArePlaced before lines → list_any is_start (before ++ lines) ≡ false
    → filter_map event_in lines ≡ []
no_events before [] placed none = refl
no_events before (line ∷ lines) placed none = by line placed.0
    (or_front (list_any is_start before) _ (sym (list_any-append is_start before (line ∷ lines)) ∙ none))
    (no_events (before ++ line ∷ []) lines placed.1
    (ap (list_any is_start) (append_assoc before (line ∷ []) lines) ∙ none))
  where
    by : (x : Line) → fits_behind before x ≡ true → list_any is_start before ≡ false → filter_map event_in lines ≡ []
        → filter_map event_in (x ∷ lines) ≡ []
    by Blank fits early rest = rest
    by (Controller c) fits early rest = rest
    by (Namespace n) fits early rest = rest
    by (Attached c n) fits early rest = rest
    by Start fits early rest = rest
    by (Event event) fits early rest = absurd (false≢true (sym (early_event before event early) ∙ fits))

pub unstarted : (raw : List (List ℕ)) → Begins raw → start_of raw ≡ None → events_of raw ≡ []
unstarted raw begun none = no_events [] (said raw) begun.placed (sym (started (said raw)) ∙ ap is_some none)
