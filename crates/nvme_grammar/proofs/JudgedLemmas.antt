-- For the answer of `read_lines`: a checked line, without its event if that is parsed again later.
use Rattle.std.proofs.Common.{◌≡◌, ◌+◌, List, [], ◌∷◌, ◌++◌, Option, Some, None, refl, sym, ap, ◌∙◌}
use Rattle.std.specs.Prelude.{option_map, is_some, if◌then◌else◌, unwrap_or}
use Rattle.std.specs.List.{filter_map}
use Rattle.std.proofs.lemmas.Bool.{false≢true}
use Rattle.std.proofs.lemmas.List.Elements.{filter_map-append}
use Rattle.nvme_event.specs.declared.event.FleetEvent.{FleetEvent}
use Rattle.nvme_grammar.specs.Lent.{event_by_value, line_by_value}
use Rattle.nvme_grammar.specs.Reading.{Reads, event_aside, line_aside}
use Rattle.nvme_grammar.specs.Script.{is_start, controller_in, namespace_in, attachment_in, fits_behind, start_in}
use Rattle.nvme_grammar.specs.declared.line.Line.{Line}
use Rattle.nvme_grammar.specs.declared.line.Line.TheVariants.{Blank, Controller, Namespace, Attached, Start, Event}
use Rattle.nvme_grammar.specs.declared.script.Script.{Script}

-- what does not depend on the event is the same for both
module _ {A : Type 0} (f : Line → A) (any : (e g : FleetEvent) → f (Event e) ≡ f (Event g)) where
  keeps : (l : Line) → f l ≡ f (line_aside l)
  keeps Blank = refl
  keeps (Controller x) = refl
  keeps (Namespace x) = refl
  keeps (Attached c n) = refl
  keeps Start = refl
  keeps (Event e) = any e (event_aside e)

  keeps-value : (l : Line) → f (line_by_value l) ≡ f (line_aside l)
  keeps-value Blank = refl
  keeps-value (Controller x) = refl
  keeps-value (Namespace x) = refl
  keeps-value (Attached c n) = refl
  keeps-value Start = refl
  keeps-value (Event e) = any (event_by_value e) (event_aside e)

  pub aside-same : (l m : Line) → line_aside l ≡ line_aside m → f (line_by_value l) ≡ f m
  aside-same l m e = keeps-value l ∙ ap f e ∙ sym (keeps m)

-- the checked line
pub aside-none : (o : Option Line) → None ≡ option_map line_aside o → o ≡ None
aside-none None e = refl
aside-none (Some l) e = absurd (false≢true (ap is_some e))

pub aside-some : (o : Option Line) (l : Line) → Some (line_aside l) ≡ option_map line_aside o
    → (m : Line) × (o ≡ Some m) × (line_aside l ≡ line_aside m)
aside-some None l e = absurd (false≢true (sym (ap is_some e)))
aside-some (Some m) l e = (m, refl, ap (λ x. unwrap_or x (line_aside l)) e)

pub fits-aside : (before : List Line) (l m : Line)
    → line_aside l ≡ line_aside m → fits_behind before (line_by_value l) ≡ fits_behind before m
fits-aside before l m e = aside-same (fits_behind before) (λ x y. refl) l m e

filter_last : {A : Type 0} (f : Line → Option A) (lines : List Line) (l m : Line)
    → f l ≡ f m → filter_map f (lines ++ l ∷ []) ≡ filter_map f (lines ++ m ∷ [])
filter_last f lines l m e = filter_map-append f lines (l ∷ []) ∙ ap (λ t. filter_map f lines ++ t) (single e)
    ∙ sym (filter_map-append f lines (m ∷ []))
  where
    single : f l ≡ f m → filter_map f (l ∷ []) ≡ filter_map f (m ∷ [])
    single e = rw e refl

start_last : (lines : List Line) (l m : Line)
    → is_start l ≡ is_start m → start_in (lines ++ l ∷ []) ≡ start_in (lines ++ m ∷ [])
start_last [] l m e = rw e refl
start_last (x ∷ lines) l m e =
    ap (λ t. if is_start x then Some 1 else option_map (λ n. n + 1) t) (start_last lines l m e)

pub Reads-aside : (script : Script) (lines : List Line) (l m : Line)
    → line_aside l ≡ line_aside m → Reads script (lines ++ line_by_value l ∷ []) → Reads script (lines ++ m ∷ [])
Reads-aside script lines l m e h = record {
  controllers = h.controllers
      ∙ filter_last controller_in lines (line_by_value l) m (aside-same controller_in (λ x y. refl) l m e);
  namespaces =
      h.namespaces ∙ filter_last namespace_in lines (line_by_value l) m (aside-same namespace_in (λ x y. refl) l m e);
  attached =
      h.attached ∙ filter_last attachment_in lines (line_by_value l) m (aside-same attachment_in (λ x y. refl) l m e);
  start = h.start ∙ start_last lines (line_by_value l) m (aside-same is_start (λ x y. refl) l m e);
}
