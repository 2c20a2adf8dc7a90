-- For the answers about Reservation Report: its data.
use Rattle.std.proofs.Common.{
  ◌≡◌,
  ℕ,
  arith,
  ◌+◌,
  ◌<◌,
  ◌==◌,
  true,
  false,
  ◌||◌,
  cond,
  List,
  [],
  ◌∷◌,
  ◌++◌,
  length,
  get_or,
  take,
  Some,
  None,
  option_map,
  unwrap_or,
  find,
  ap,
  sym,
  refl,
  ◌∙◌,
  is_some,
  append-nil,
  append_assoc,
}
use Rattle.std.specs.List.{flat_map}
use Rattle.std.proofs.lemmas.List.{take_more}
use Rattle.std.proofs.lemmas.List.Elements.{filter-append}
use Rattle.std.proofs.lemmas.List.Concat.{flat_map-append}
use Rattle.std.proofs.lemmas.Grind.{common_steps}
use Rattle.nvme_spec.specs.declared.access.Registrant.{Registrant}
use Rattle.nvme_spec.specs.Reservation.{Reservation, is_registered, is_holder}
use Rattle.nvme_spec.specs.Report.{
  ControllerHost,
  HasRisingIds,
  key_of,
  reported_controllers,
  entry_of,
  entry,
  report_data,
}
use Rattle.nvme_spec.proofs.Registrants.{all-filter}

pub length-report_data : (r : Reservation) (controllers : List ControllerHost) (size : ℕ)
    → length (report_data r controllers size) ≡ size
unfolding report_data
length-report_data r controllers size = grind (arith, common_steps)

-- the reported controllers are in rising order if all are
pub rising-reported : (r : Reservation) (controllers : List ControllerHost)
    → HasRisingIds controllers → HasRisingIds (reported_controllers r controllers)
rising-reported r [] h = h
rising-reported r (c ∷ cs) h =
    elim (is_registered r.registrants c.1) as (λ b.
    HasRisingIds (cond b (c ∷ reported_controllers r cs) (reported_controllers r cs))) [
      | true ↦ (all-filter _ _ cs h.0, rising-reported r cs h.1)
      | false ↦ rising-reported r cs h.1
    ]

-- a host is registered if it has a key
pub registered : (registrants : List Registrant) (host : ℕ)
    → is_registered registrants host ≡ is_some (key_of registrants host)
registered [] host = refl
registered (x ∷ xs) host =
    elim (x.host == host) as (λ b. (b || is_registered xs host)
    ≡ is_some (option_map (λ r. r.key) (cond b (Some x) (find (λ r. r.host == host) xs)))) [
      | true ↦ refl
      | false ↦ registered xs host
    ]

-- The report of the first i controllers, after `front`.
abbrev so_far : Reservation → List ControllerHost → List ℕ → ℕ → List ℕ
so_far r controllers front i = front ++ flat_map (entry r) (reported_controllers r (take i controllers))

more : (r : Reservation) (controllers : List ControllerHost) (front : List ℕ) (i : ℕ) (d : ControllerHost)
    → i < length controllers
    → so_far r controllers front (i + 1)
    ≡ so_far r controllers front i ++ flat_map (entry r) (reported_controllers r (get_or controllers i d ∷ []))
more r controllers front i d lt =
    ap (λ cs. front ++ flat_map (entry r) (reported_controllers r cs)) (take_more controllers i d lt)
    ∙ (ap (λ cs. front ++ flat_map (entry r) cs) (filter-append _ (take i controllers) _)
    ∙ (ap (λ l. front ++ l) (flat_map-append (entry r) (reported_controllers r (take i controllers)) _)
    ∙ sym (append_assoc front (flat_map (entry r) (reported_controllers r (take i controllers))) _)))

-- the next controller's host has this key
pub more-registered : (r : Reservation) (controllers : List ControllerHost) (front : List ℕ) (i : ℕ)
    (d : ControllerHost) (key : ℕ) (bytes : List ℕ)
    → i < length controllers → bytes ≡ so_far r controllers front i
    → key_of r.registrants (get_or controllers i d).1 ≡ Some key
    → bytes
    ++ entry_of (get_or controllers i d).0 (is_holder r (get_or controllers i d).1) (get_or controllers i d).1 key
    ≡ so_far r controllers front (i + 1)
more-registered r controllers front i d key bytes lt here has =
    let c : ControllerHost = get_or controllers i d in
    let there : is_registered r.registrants c.1 ≡ true = registered r.registrants c.1 ∙ ap is_some has in
    let one : flat_map (entry r) (reported_controllers r (c ∷ [])) ≡ entry_of c.0 (is_holder r c.1) c.1 key =
    ap (λ b. flat_map (entry r) (cond b (c ∷ []) [])) there
    ∙ (append-nil (entry r c) ∙ ap (λ k. entry_of c.0 (is_holder r c.1) c.1 (unwrap_or k 0)) has) in
    sym (more r controllers front i d lt ∙ (λ j. sym here j ++ one j))

-- the next controller's host is not registered
pub more-absent : (r : Reservation) (controllers : List ControllerHost) (front : List ℕ) (i : ℕ) (d : ControllerHost)
    (bytes : List ℕ)
    → i < length controllers → bytes ≡ so_far r controllers front i
    → key_of r.registrants (get_or controllers i d).1 ≡ None
    → bytes ≡ so_far r controllers front (i + 1)
more-absent r controllers front i d bytes lt here has =
    let c : ControllerHost = get_or controllers i d in
    let gone : is_registered r.registrants c.1 ≡ false = registered r.registrants c.1 ∙ ap is_some has in
    sym (more r controllers front i d lt ∙ (ap
    (λ b. so_far r controllers front i ++ flat_map (entry r) (cond b (c ∷ []) [])) gone ∙ (append-nil _ ∙ sym here)))
