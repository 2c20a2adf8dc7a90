-- For the answers of `script.rt`: a script while it is read, and one more line.
use Rattle.std.proofs.Common.{
  ◌≡◌,
  ℕ,
  ◌+◌,
  Bool,
  true,
  false,
  ◌||◌,
  not,
  List,
  [],
  ◌∷◌,
  ◌++◌,
  length,
  Option,
  Some,
  None,
  refl,
  sym,
  ap,
  ◌∙◌,
  arith,
  inl,
  inr,
  ◌⊎◌,
}
use Rattle.std.specs.Prelude.{option_map, if◌then◌else◌}
use Rattle.std.specs.List.{filter_map, list_any}
use Rattle.std.specs.Option.{is_some}
use Rattle.std.proofs.lemmas.Bool.{true≢false}
use Rattle.std.proofs.lemmas.List.{append-nil}
use Rattle.std.proofs.lemmas.List.Elements.{filter_map-append}
use Rattle.nvme_spec.specs.declared.config.ControllerConfig.{ControllerConfig}
use Rattle.nvme_spec.specs.declared.config.NsConfig.{NsConfig}
use Rattle.nvme_event.specs.declared.event.FleetEvent.{FleetEvent}
use Rattle.nvme_grammar.specs.Script.{is_start, controller_in, namespace_in, attachment_in, fits_behind, start_in, Says}
use Rattle.nvme_grammar.specs.Lent.{line_by_value}
use Rattle.nvme_grammar.specs.Reading.{Reads}
use Rattle.nvme_grammar.specs.declared.line.Line.{Line}
use Rattle.nvme_grammar.specs.declared.line.Line.TheVariants.{Blank, Controller, Namespace, Attached, Start, Event}
use Rattle.nvme_grammar.specs.declared.script.Script.{Script}

is_some-map : {A B : Type 0} (f : A → B) (o : Option A) → is_some (option_map f o) ≡ is_some o
is_some-map f None = refl
is_some-map f (Some x) = refl

-- there is a place of `start` if there is a `start`
pub started : (lines : List Line) → is_some (start_in lines) ≡ list_any is_start lines
started [] = refl
started (line ∷ lines) = by (is_start line) (started lines)
  where
    by : (t : Bool) → is_some (start_in lines) ≡ list_any is_start lines
        → is_some (if t then Some 1 else option_map (λ n. n + 1) (start_in lines)) ≡ (t || list_any is_start lines)
    by true h = refl
    by false h = is_some-map (λ n. n + 1) (start_in lines) ∙ h

-- a line other than `start` leaves its place
pub start_in-other : (lines : List Line) (line : Line)
    → is_start line ≡ false → start_in (lines ++ line ∷ []) ≡ start_in lines
start_in-other [] line h = rw h refl
start_in-other (x ∷ lines) line h =
    ap (λ t. if is_start x then Some 1 else option_map (λ n. n + 1) t) (start_in-other lines line h)

-- the first `start` is where it is put
pub start_in-start : (lines : List Line) → list_any is_start lines ≡ false
    → start_in (lines ++ Start ∷ []) ≡ Some (length lines + 1)
start_in-start [] h = refl
start_in-start (x ∷ lines) h = by (is_start x) h (λ g. start_in-start lines g)
  where
    by : (t : Bool) → (t || list_any is_start lines) ≡ false
        → (list_any is_start lines ≡ false → start_in (lines ++ Start ∷ []) ≡ Some (length lines + 1))
        → (if t then Some 1 else option_map (λ n. n + 1) (start_in (lines ++ Start ∷ [])))
        ≡ Some (length (x ∷ lines) + 1)
    by true g rest = absurd (true≢false g)
    by false g rest = let more : length lines + 1 + 1 ≡ length (x ∷ lines) + 1 = omega arith in
        ap (option_map (λ n. n + 1)) (rest g) ∙ ap Some more

-- a draft with one more line in each of its parts
pub Reads-push : (old new : Script) (lines : List Line) (line : Line) → Reads old lines
    → new.config.controllers.items ≡ old.config.controllers.items ++ filter_map controller_in (line ∷ [])
    → new.config.namespaces.items ≡ old.config.namespaces.items ++ filter_map namespace_in (line ∷ [])
    → new.config.attached.items ≡ old.config.attached.items ++ filter_map attachment_in (line ∷ [])
    → new.start ≡ start_in (lines ++ line ∷ [])
    → Reads new (lines ++ line ∷ [])
Reads-push old new lines line h k n a s = record {
  controllers = k ∙ ap (λ t. t ++ filter_map controller_in (line ∷ [])) h.controllers
      ∙ sym (filter_map-append controller_in lines (line ∷ []));
  namespaces = n ∙ ap (λ t. t ++ filter_map namespace_in (line ∷ [])) h.namespaces
      ∙ sym (filter_map-append namespace_in lines (line ∷ []));
  attached = a ∙ ap (λ t. t ++ filter_map attachment_in (line ∷ [])) h.attached
      ∙ sym (filter_map-append attachment_in lines (line ∷ []));
  start = s;
}

-- a comment and an event leave the configuration
pub Reads-silent : (script : Script) (lines : List Line) (line : Line)
    → Reads script lines → (line ≡ Blank) ⊎ ((x : FleetEvent) × (line ≡ Event x))
    → Reads script (lines ++ line_by_value line ∷ [])
Reads-silent script lines line h e = by e
  where
    by : (line ≡ Blank) ⊎ ((x : FleetEvent) × (line ≡ Event x)) → Reads script (lines ++ line_by_value line ∷ [])
    by (inl e) = rw e (Reads-push script script lines Blank h (sym (append-nil _)) (sym (append-nil _))
        (sym (append-nil _)) (h.start ∙ sym (start_in-other lines Blank refl)))
    by (inr (x, e)) = rw e (Reads-push script script lines (line_by_value (Event x)) h (sym (append-nil _))
        (sym (append-nil _)) (sym (append-nil _))
        (h.start ∙ sym (start_in-other lines (line_by_value (Event x)) refl)))

-- an event may follow `start`
pub fits-event : (script : Script) (lines : List Line) (event : FleetEvent)
    → Reads script lines → is_some script.start ≡ fits_behind lines (Event event)
fits-event script lines event h = ap is_some h.start ∙ started lines

pub not-none : {A : Type 0} (o : Option A) (none : Bool) → is_some o ≡ not none → none ≡ not (is_some o)
not-none (Some x) false h = refl
not-none (Some x) true h = absurd (true≢false h)
not-none None true h = refl
not-none None false h = absurd (true≢false (sym h))

-- the other lines may precede it
pub fits-setup : (draft : Script) (lines : List Line) (line : Line) → Reads draft lines
    → ((x : ControllerConfig) × (line ≡ Controller x))
    ⊎ (((x : NsConfig) × (line ≡ Namespace x)) ⊎ (((c : ℕ) × (n : ℕ) × (line ≡ Attached c n)) ⊎ (line ≡ Start)))
    → not (is_some draft.start) ≡ fits_behind lines (line_by_value line)
fits-setup draft lines line h e = ap not (ap is_some h.start ∙ started lines) ∙ by e
  where
    by : ((x : ControllerConfig) × (line ≡ Controller x))
        ⊎ (((x : NsConfig) × (line ≡ Namespace x)) ⊎ (((c : ℕ) × (n : ℕ) × (line ≡ Attached c n)) ⊎ (line ≡ Start)))
        → not (list_any is_start lines) ≡ fits_behind lines (line_by_value line)
    by (inl (x, e)) = rw e refl
    by (inr (inl (x, e))) = rw e refl
    by (inr (inr (inl (c, n, e)))) = rw e refl
    by (inr (inr (inr e))) = rw e refl

-- the script of a whole draft, with and without `start`
pub Says-started : (draft : Script) (lines : List Line) → Reads draft lines → is_some draft.start ≡ true
    → Says lines draft
Says-started draft lines h s =
    let yes : list_any is_start lines ≡ true = sym (started lines) ∙ ap is_some (sym h.start) ∙ s in
    record {
      controllers = h.controllers ∙ rw yes refl;
      namespaces = h.namespaces ∙ rw yes refl;
      attached = h.attached ∙ rw yes refl;
      start = h.start;
    }

pub Says-nothing : (draft script : Script) (lines : List Line) → Reads draft lines → is_some draft.start ≡ false
    → script.config.controllers.items ≡ [] → script.config.namespaces.items ≡ [] → script.config.attached.items ≡ []
    → script.start ≡ draft.start → Says lines script
Says-nothing draft script lines h s k n a t =
    let no : list_any is_start lines ≡ false = sym (started lines) ∙ ap is_some (sym h.start) ∙ s in
    record {
      controllers = k ∙ rw no refl;
      namespaces = n ∙ rw no refl;
      attached = a ∙ rw no refl;
      start = t ∙ h.start;
    }
