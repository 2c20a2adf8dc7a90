-- For the answer of `run_event`: the stored events of a text, some of which have run.
use Rattle.std.proofs.Common.{
  ◌≡◌,
  ◌<◌,
  ◌+◌,
  ℕ,
  List,
  [],
  ◌∷◌,
  ◌++◌,
  length,
  take,
  drop,
  get_or,
  Option,
  Some,
  None,
  refl,
  sym,
  ap,
  ◌∙◌,
  take-append-drop,
}
use Rattle.std.specs.Prelude.{option_map}
use Rattle.std.proofs.lemmas.List.{take_more}
use Rattle.std.proofs.lemmas.List.Elements.{filter_map-append}
use Rattle.nvme_event.specs.declared.event.FleetEvent.{FleetEvent}
use Rattle.nvme_grammar.specs.Kept.{kept_event, kept_events}
use Rattle.nvme_grammar.specs.Lent.{event_by_value}
use Rattle.nvme_grammar.specs.declared.kept.KeptEvent.{KeptEvent}

-- the event of a stored one, or none
pub one-event : (text : List ℕ) (kept : KeptEvent) (given : Option FleetEvent) (event : FleetEvent)
    → option_map event_by_value given ≡ kept_event text kept → given ≡ Some event
    → kept_events text (kept ∷ []) ≡ event_by_value event ∷ []
one-event text kept given event is e = one (kept_event text kept) refl (sym is ∙ ap (option_map event_by_value) e)
  where
    one : (o : Option FleetEvent) → kept_event text kept ≡ o → o ≡ Some (event_by_value event)
        → kept_events text (kept ∷ []) ≡ event_by_value event ∷ []
    one o at h = rw (at, h) refl

pub no-event : (text : List ℕ) (kept : KeptEvent) → None ≡ kept_event text kept → kept_events text (kept ∷ []) ≡ []
no-event text kept is = rw (← is) refl

kept-append : (text : List ℕ) (a b : List KeptEvent)
    → kept_events text (a ++ b) ≡ kept_events text a ++ kept_events text b
kept-append text a b = filter_map-append (kept_event text) a b

module _ (text : List ℕ) (events : List KeptEvent) (i : ℕ) (d : KeptEvent) (inside : i < length events) where
  pub next : kept_events text (take (i + 1) events) ≡ kept_events text (take i events)
      ++ kept_events text (get_or events i d ∷ [])
  next = ap (kept_events text) (take_more events i d inside) ∙ kept-append text (take i events) (get_or events i d ∷ [])

  pub parted : kept_events text events ≡ kept_events text (take i events) ++ kept_events text (get_or events i d ∷ [])
      ++ kept_events text (drop (i + 1) events)
  parted =
      ap (kept_events text) (sym (take-append-drop (i + 1) events))
      ∙ kept-append text (take (i + 1) events) (drop (i + 1) events)
      ∙ ap (λ t. t ++ kept_events text (drop (i + 1) events)) next
