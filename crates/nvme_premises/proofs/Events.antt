-- For `of_subsystems.rt`: the premises of the laws of subsystems hold of the intended events, and of no others.
use Rattle.std.proofs.Common.{◌≡◌, ◌≢◌, ◌⊎◌, inl, inr, ◌↔◌, ℕ, true, List, length, None, Some, refl, sym, subst}
use Rattle.std.specs.Borrow.{Bor}
use Rattle.nvme_spec.specs.declared.command.Command.{Command}
use Rattle.nvme_spec.specs.declared.registers.RegEffect.{RegEffect}
use Rattle.nvme_spec.specs.declared.registers.RegEffect.TheVariants.{Nothing, Enable, Disable, Shutdown, SqTail, CqHead}
use Rattle.nvme_spec.specs.declared.registers.ControllerState.TheVariants.{Off, Ready, ShutDown, Failed}
use Rattle.nvme_spec.specs.MediumCalls.{MediumCall}
use Rattle.nvme_spec.specs.Registers.{after_write}
use Rattle.nvme_machine.specs.declared.event.Event.{Event}
use Rattle.nvme_machine.specs.declared.event.Event.TheVariants.{Store, Write32, Read32, Fetch, Execute, PowerCycle}
use Rattle.nvme_machine.specs.declared.fetched.FetchedCommand.{FetchedCommand}
use Rattle.nvme_machine.specs.AllowedCalls.{IsCallOf}
use Rattle.nvme_machine.specs.Controllers.{Controller}
use Rattle.nvme_machine.specs.Fencing.{IsAllowedAt}
use Rattle.nvme_machine.specs.Posted.{Consumes, Overlaps, PostedEntry, TakesByExecution, TakesByWrite, TakesEntry}
use Rattle.nvme_machine.specs.Preempted.{place_after}
use Rattle.nvme_machine.specs.Runs.{Deletes, IsReset, TakesOut}
use Rattle.nvme_machine.specs.Subsystems.{OfItsController, Subsystem, controller_of, scene_of}
use Rattle.nvme_premises.specs.Events.{
  AdminComesToItsExecution,
  OnlyReadyFetches,
  PlacesAreKept,
  ReadGivesTheValue,
  TakesByCommand,
  TakesByRegister,
  TakesByStore,
  TakesEntryIsOneOfFour,
  AllowsByExecution,
  AllowsIsExecution,
  CallIsOfAnExecution,
  CallsByExecution,
  EmptiesIsEnableOrDisable,
  ExecutesNothingIsNoExecution,
  FleetingIsNotPersistent,
  ForgetsIsPowerCycle,
  OfItsControllerIsOfIt,
  ResetIsEnableOrDisable,
  TakesByWriteIsResetOrDoorbell,
  TakesOutByExecution,
  TakesOutByWrite,
  TakesOutIsOneOfThree,
}

-- an execution of an allowed command
allowed-as : (commands : List Command) (s : Subsystem) (k i n : ℕ) → AllowsByExecution commands s (Execute k i) n
    → IsAllowedAt commands s k i n
allowed-as commands s k i n x =
    let same : x.cntlid ≡ k = cc in
    let place : x.index ≡ i = cc in
    subst (λ j. IsAllowedAt commands s j i n) same (subst (λ j. IsAllowedAt commands s x.cntlid j n) place x.allowed)

pub allows_is_execution : AllowsIsExecution
allows_is_execution commands s (Execute k i) n =
    ((λ h. record { cntlid = k; index = i; is = refl; allowed = h }), allowed-as commands s k i n)
allows_is_execution commands s (Store k address bytes) n = ((λ h. absurd h), (λ x. absurd (cc)))
allows_is_execution commands s (Write32 k offset v) n = ((λ h. absurd h), (λ x. absurd (cc)))
allows_is_execution commands s (Read32 k offset) n = ((λ h. absurd h), (λ x. absurd (cc)))
allows_is_execution commands s (Fetch k q) n = ((λ h. absurd h), (λ x. absurd (cc)))
allows_is_execution commands s PowerCycle n = ((λ h. absurd h), (λ x. absurd (cc)))

pub fleeting_is_not_persistent : FleetingIsNotPersistent
fleeting_is_not_persistent None = ((λ h. absurd h), (λ x. absurd (cc)))
fleeting_is_not_persistent (Some r) = ((λ h. (r, refl, h)), (λ x. cc))

pub forgets_is_power_cycle : ForgetsIsPowerCycle
forgets_is_power_cycle s PowerCycle n = ((λ h. (refl, h)), (λ x. x.1))
forgets_is_power_cycle s (Execute k i) n = ((λ h. absurd h), (λ x. absurd (cc)))
forgets_is_power_cycle s (Store k address bytes) n = ((λ h. absurd h), (λ x. absurd (cc)))
forgets_is_power_cycle s (Write32 k offset v) n = ((λ h. absurd h), (λ x. absurd (cc)))
forgets_is_power_cycle s (Read32 k offset) n = ((λ h. absurd h), (λ x. absurd (cc)))
forgets_is_power_cycle s (Fetch k q) n = ((λ h. absurd h), (λ x. absurd (cc)))

pub reset_is_enable_or_disable : ResetIsEnableOrDisable
reset_is_enable_or_disable Enable = ((λ h. inl refl), (λ x. tt))
reset_is_enable_or_disable Disable = ((λ h. inr refl), (λ x. tt))
reset_is_enable_or_disable Nothing = ((λ h. absurd h), (λ x. elim x [ inl e ↦ absurd (cc) | inr e ↦ absurd (cc) ]))
reset_is_enable_or_disable Shutdown = ((λ h. absurd h), (λ x. elim x [ inl e ↦ absurd (cc) | inr e ↦ absurd (cc) ]))
reset_is_enable_or_disable (SqTail q v) = ((λ h. absurd h), (λ x. elim x [ inl e ↦ absurd (cc) | inr e ↦ absurd (cc) ]))
reset_is_enable_or_disable (CqHead q v) = ((λ h. absurd h), (λ x. elim x [ inl e ↦ absurd (cc) | inr e ↦ absurd (cc) ]))

-- a property of the controller that an event names
named-or-power : (P : ℕ → Type 0) (event : Event)
    → (event ≢ PowerCycle) → (P (controller_of event) → OfItsController P event)
    → ((event ≡ PowerCycle) ⊎ ((event ≢ PowerCycle) × P (controller_of event))) → OfItsController P event
named-or-power P event other said x = elim x [
  | inl e ↦ absurd (other e)
  | inr h ↦ said h.1
]

of-it : (P : ℕ → Type 0) (event : Event)
    → OfItsController P event ↔ ((event ≡ PowerCycle) ⊎ ((event ≢ PowerCycle) × P (controller_of event)))
of-it P PowerCycle = ((λ h. inl refl), (λ x. tt))
of-it P (Store k address bytes) = let other : Store k address bytes ≢ PowerCycle = (λ e. absurd (cc)) in
    ((λ h. inr (other, h)), named-or-power P (Store k address bytes) other (λ h. h))
of-it P (Write32 k offset v) = let other : Write32 k offset v ≢ PowerCycle = (λ e. absurd (cc)) in
    ((λ h. inr (other, h)), named-or-power P (Write32 k offset v) other (λ h. h))
of-it P (Read32 k offset) = let other : Read32 k offset ≢ PowerCycle = (λ e. absurd (cc)) in
    ((λ h. inr (other, h)), named-or-power P (Read32 k offset) other (λ h. h))
of-it P (Fetch k q) = let other : Fetch k q ≢ PowerCycle = (λ e. absurd (cc)) in
    ((λ h. inr (other, h)), named-or-power P (Fetch k q) other (λ h. h))
of-it P (Execute k i) = let other : Execute k i ≢ PowerCycle = (λ e. absurd (cc)) in
    ((λ h. inr (other, h)), named-or-power P (Execute k i) other (λ h. h))

pub of_its_controller_is_of_it : OfItsControllerIsOfIt
of_its_controller_is_of_it holds event = of-it (λ k. holds k ≡ true) event

pub empties_is_enable_or_disable : EmptiesIsEnableOrDisable
empties_is_enable_or_disable Enable = ((λ h. inl refl), (λ x. refl))
empties_is_enable_or_disable Disable = ((λ h. inr refl), (λ x. refl))
empties_is_enable_or_disable Nothing = ((λ h. absurd (cc)), (λ x. elim x [ inl e ↦ absurd (cc) | inr e ↦ absurd (cc) ]))
empties_is_enable_or_disable Shutdown =
    ((λ h. absurd (cc)), (λ x. elim x [ inl e ↦ absurd (cc) | inr e ↦ absurd (cc) ]))
empties_is_enable_or_disable (SqTail q v) =
    ((λ h. absurd (cc)), (λ x. elim x [ inl e ↦ absurd (cc) | inr e ↦ absurd (cc) ]))
empties_is_enable_or_disable (CqHead q v) =
    ((λ h. absurd (cc)), (λ x. elim x [ inl e ↦ absurd (cc) | inr e ↦ absurd (cc) ]))

-- only an execution, a register write or a power cycle removes a command
kept : (old : Subsystem) (c : Controller) (j m : ℕ) (t : FetchedCommand) (event : Event)
    → ((k i : ℕ) → event ≢ Execute k i) → ((k offset v : ℕ) → event ≢ Write32 k offset v) → (event ≢ PowerCycle)
    → (TakesOutByExecution old c j m t event ⊎ TakesOutByWrite c j event ⊎ (event ≡ PowerCycle)) → ⊥
kept old c j m t event e w p x = elim x [
  | inl h ↦ e j h.index h.is
  | inr (inl h) ↦ w j h.offset h.value h.is
  | inr (inr h) ↦ p h
]

executed-out : (old : Subsystem) (c : Controller) (j m k i : ℕ) (t : FetchedCommand)
    → (TakesOutByExecution old c j m t (Execute k i) ⊎ TakesOutByWrite c j (Execute k i) ⊎ (Execute k i ≡ PowerCycle))
    → TakesOut old c j m t (Execute k i)
executed-out old c j m k i t x = elim x [
  | inl h ↦
      let same : k ≡ j = let e : Execute k i ≡ Execute j h.index = h.is in cc in
      let place : h.index ≡ i = let e : Execute k i ≡ Execute j h.index = h.is in cc in (
        same,
        subst (λ l. (l ≡ m) ⊎ Deletes (scene_of old c) c k l t.queue) place
            (subst (λ l. (h.index ≡ m) ⊎ Deletes (scene_of old c) c l h.index t.queue) (sym same) h.takes),
      )
  | inr (inl h) ↦ absurd (let e : Execute k i ≡ Write32 j h.offset h.value = h.is in cc)
  | inr (inr h) ↦ absurd (cc)
]

out-executed : (old : Subsystem) (c : Controller) (j m k i : ℕ) (t : FetchedCommand)
    → TakesOut old c j m t (Execute k i) → TakesOutByExecution old c j m t (Execute k i)
out-executed old c j m k i t h = record {
  index = i;
  is = cc;
  takes = subst (λ l. (i ≡ m) ⊎ Deletes (scene_of old c) c l i t.queue) h.0 h.1;
}

written-out : (old : Subsystem) (c : Controller) (j m k offset v : ℕ) (t : FetchedCommand)
    → (TakesOutByExecution old c j m t (Write32 k offset v) ⊎ TakesOutByWrite c j (Write32 k offset v)
    ⊎ (Write32 k offset v ≡ PowerCycle)) → TakesOut old c j m t (Write32 k offset v)
written-out old c j m k offset v t x = elim x [
  | inl h ↦ absurd (let e : Write32 k offset v ≡ Execute j h.index = h.is in cc)
  | inr (inl h) ↦
      let e : Write32 k offset v ≡ Write32 j h.offset h.value = h.is in
      let same : k ≡ j = cc in
      let place : h.offset ≡ offset = cc in
      let value : h.value ≡ v = cc in (
        same,
        subst (λ o. IsReset (after_write c.registers o v).effect) place
            (subst (λ w. IsReset (after_write c.registers h.offset w).effect) value h.resets),
      )
  | inr (inr h) ↦ absurd (cc)
]

out-written : (old : Subsystem) (c : Controller) (j m k offset v : ℕ) (t : FetchedCommand)
    → TakesOut old c j m t (Write32 k offset v) → TakesOutByWrite c j (Write32 k offset v)
out-written old c j m k offset v t h =
    record { offset = offset; value = v; is = let same : k ≡ j = h.0 in cc; resets = h.1 }

pub takes_out_is_one_of_three : TakesOutIsOneOfThree
takes_out_is_one_of_three old c j m t (Execute k i) =
    ((λ h. inl (out-executed old c j m k i t h)), executed-out old c j m k i t)
takes_out_is_one_of_three old c j m t (Write32 k offset v) =
    ((λ h. inr (inl (out-written old c j m k offset v t h))), written-out old c j m k offset v t)
takes_out_is_one_of_three old c j m t PowerCycle = ((λ h. inr (inr refl)), (λ x. tt))
takes_out_is_one_of_three old c j m t (Store k address bytes) = (
  (λ h. absurd h),
  kept old c j m t (Store k address bytes) (λ l i e. absurd (cc)) (λ l o v e. absurd (cc)) (λ e. absurd (cc)),
)
takes_out_is_one_of_three old c j m t (Read32 k offset) = (
  (λ h. absurd h),
  kept old c j m t (Read32 k offset) (λ l i e. absurd (cc)) (λ l o v e. absurd (cc)) (λ e. absurd (cc)),
)
takes_out_is_one_of_three old c j m t (Fetch k q) =
    ((λ h. absurd h), kept old c j m t (Fetch k q) (λ l i e. absurd (cc)) (λ l o v e. absurd (cc)) (λ e. absurd (cc)))

-- an effect that is neither a reset nor a doorbell of this queue
harmless : (c : Controller) (e : PostedEntry) (effect : RegEffect)
    → (effect ≢ Enable) → (effect ≢ Disable) → ((v : ℕ) → effect ≢ CqHead e.queue v)
    → ((effect ≡ Enable) ⊎ (effect ≡ Disable) ⊎ ((v : ℕ) × (effect ≡ CqHead e.queue v) × Consumes c e v)) → ⊥
harmless c e effect en dis head x = elim x [
  | inl h ↦ en h
  | inr (inl h) ↦ dis h
  | inr (inr h) ↦ head h.0 h.1
]

rung : (c : Controller) (e : PostedEntry) (q v : ℕ)
    → ((CqHead q v ≡ Enable) ⊎ (CqHead q v ≡ Disable) ⊎ ((w : ℕ) × (CqHead q v ≡ CqHead e.queue w) × Consumes c e w))
    → TakesByWrite c e (CqHead q v)
rung c e q v x = elim x [
  | inl h ↦ absurd (cc)
  | inr (inl h) ↦ absurd (cc)
  | inr (inr h) ↦
      let told : CqHead q v ≡ CqHead e.queue h.0 = h.1 in
      let same : q ≡ e.queue = cc in
      let value : h.0 ≡ v = cc in
      (same, subst (λ w. Consumes c e w) value h.2)
]

ringing : (c : Controller) (e : PostedEntry) (q v : ℕ)
    → TakesByWrite c e (CqHead q v) → (w : ℕ) × (CqHead q v ≡ CqHead e.queue w) × Consumes c e w
ringing c e q v h = (v, (let same : q ≡ e.queue = h.0 in cc), h.1)

pub takes_by_write_is_reset_or_doorbell : TakesByWriteIsResetOrDoorbell
takes_by_write_is_reset_or_doorbell c e Enable = ((λ h. inl refl), (λ x. tt))
takes_by_write_is_reset_or_doorbell c e Disable = ((λ h. inr (inl refl)), (λ x. tt))
takes_by_write_is_reset_or_doorbell c e (CqHead q v) = ((λ h. inr (inr (ringing c e q v h))), rung c e q v)
takes_by_write_is_reset_or_doorbell c e Nothing =
    ((λ h. absurd h), harmless c e Nothing (λ h. absurd (cc)) (λ h. absurd (cc)) (λ v h. absurd (cc)))
takes_by_write_is_reset_or_doorbell c e Shutdown =
    ((λ h. absurd h), harmless c e Shutdown (λ h. absurd (cc)) (λ h. absurd (cc)) (λ v h. absurd (cc)))
takes_by_write_is_reset_or_doorbell c e (SqTail q v) =
    ((λ h. absurd h), harmless c e (SqTail q v) (λ h. absurd (cc)) (λ h. absurd (cc)) (λ w h. absurd (cc)))

called-as : (s : Subsystem) (k i : ℕ) (call : MediumCall) → CallsByExecution s (Execute k i) call → IsCallOf s k i call
called-as s k i call x =
    let e : Execute k i ≡ Execute x.cntlid x.index = x.is in
    let same : x.cntlid ≡ k = cc in
    let place : x.index ≡ i = cc in
    subst (λ j. IsCallOf s j i call) same (subst (λ j. IsCallOf s x.cntlid j call) place x.call_is)

pub call_is_of_an_execution : CallIsOfAnExecution
call_is_of_an_execution s (Execute k i) call =
    ((λ h. record { cntlid = k; index = i; is = refl; call_is = h }), called-as s k i call)
call_is_of_an_execution s (Store k address bytes) call = ((λ h. absurd h), (λ x. absurd (cc)))
call_is_of_an_execution s (Write32 k offset v) call = ((λ h. absurd h), (λ x. absurd (cc)))
call_is_of_an_execution s (Read32 k offset) call = ((λ h. absurd h), (λ x. absurd (cc)))
call_is_of_an_execution s (Fetch k q) call = ((λ h. absurd h), (λ x. absurd (cc)))
call_is_of_an_execution s PowerCycle call = ((λ h. absurd h), (λ x. absurd (cc)))

pub executes_nothing_is_no_execution : ExecutesNothingIsNoExecution
executes_nothing_is_no_execution (Execute k i) = ((λ h. absurd h), (λ x. absurd (x k i refl)))
executes_nothing_is_no_execution (Store k address bytes) = ((λ h l i e. absurd (cc)), (λ x. tt))
executes_nothing_is_no_execution (Write32 k offset v) = ((λ h l i e. absurd (cc)), (λ x. tt))
executes_nothing_is_no_execution (Read32 k offset) = ((λ h l i e. absurd (cc)), (λ x. tt))
executes_nothing_is_no_execution (Fetch k q) = ((λ h l i e. absurd (cc)), (λ x. tt))
executes_nothing_is_no_execution PowerCycle = ((λ h l i e. absurd (cc)), (λ x. tt))

-- which events take an entry, by their kind
entry-other : (s : Subsystem) (j : ℕ) (c : Controller) (e : PostedEntry) (event : Event)
    → ((address : ℕ) (bytes : Bor (List ℕ)) → event ≢ Store j address bytes)
    → ((offset v : ℕ) → event ≢ Write32 j offset v) → ((i : ℕ) → event ≢ Execute j i) → (event ≢ PowerCycle)
    → (TakesByStore j e event ⊎ TakesByRegister c j e event ⊎ TakesByCommand s c j e event ⊎ (event ≡ PowerCycle)) → ⊥
entry-other s j c e event st w ex p x = elim x [
  | inl h ↦ st h.address h.bytes h.is
  | inr (inl h) ↦ w h.offset h.value h.is
  | inr (inr (inl h)) ↦ ex h.index h.is
  | inr (inr (inr h)) ↦ p h
]

entry-stored : (s : Subsystem) (j k address : ℕ) (bytes : Bor (List ℕ)) (c : Controller) (e : PostedEntry)
    → (TakesByStore j e (Store k address bytes) ⊎ TakesByRegister c j e (Store k address bytes)
    ⊎ TakesByCommand s c j e (Store k address bytes) ⊎ (Store k address bytes ≡ PowerCycle))
    → TakesEntry s j c e (Store k address bytes)
entry-stored s j k address bytes c e x = elim x [
  | inl h ↦
      let told : Store k address bytes ≡ Store j h.address h.bytes = h.is in
      let same : k ≡ j = cc in
      let place : h.address ≡ address = cc in
      let stored : h.bytes ≡ bytes = cc in (
        same,
        subst (λ a. Overlaps a (length bytes.now) e) place
            (subst (λ (b : Bor (List ℕ)). Overlaps h.address (length b.now) e) stored h.over),
      )
  | inr (inl h) ↦ absurd (let told : Store k address bytes ≡ Write32 j h.offset h.value = h.is in cc)
  | inr (inr (inl h)) ↦ absurd (let told : Store k address bytes ≡ Execute j h.index = h.is in cc)
  | inr (inr (inr h)) ↦ absurd (cc)
]

stored-entry : (s : Subsystem) (j k address : ℕ) (bytes : Bor (List ℕ)) (c : Controller) (e : PostedEntry)
    → TakesEntry s j c e (Store k address bytes) → TakesByStore j e (Store k address bytes)
stored-entry s j k address bytes c e h =
    record { address = address; bytes = bytes; is = let same : k ≡ j = h.0 in cc; over = h.1 }

entry-written : (s : Subsystem) (j k offset v : ℕ) (c : Controller) (e : PostedEntry)
    → (TakesByStore j e (Write32 k offset v) ⊎ TakesByRegister c j e (Write32 k offset v)
    ⊎ TakesByCommand s c j e (Write32 k offset v) ⊎ (Write32 k offset v ≡ PowerCycle))
    → TakesEntry s j c e (Write32 k offset v)
entry-written s j k offset v c e x = elim x [
  | inl h ↦ absurd (let told : Write32 k offset v ≡ Store j h.address h.bytes = h.is in cc)
  | inr (inl h) ↦
      let told : Write32 k offset v ≡ Write32 j h.offset h.value = h.is in
      let same : k ≡ j = cc in
      let place : h.offset ≡ offset = cc in
      let value : h.value ≡ v = cc in (
        same,
        subst (λ o. TakesByWrite c e (after_write c.registers o v).effect) place
            (subst (λ w. TakesByWrite c e (after_write c.registers h.offset w).effect) value h.takes),
      )
  | inr (inr (inl h)) ↦ absurd (let told : Write32 k offset v ≡ Execute j h.index = h.is in cc)
  | inr (inr (inr h)) ↦ absurd (cc)
]

written-entry : (s : Subsystem) (j k offset v : ℕ) (c : Controller) (e : PostedEntry)
    → TakesEntry s j c e (Write32 k offset v) → TakesByRegister c j e (Write32 k offset v)
written-entry s j k offset v c e h =
    record { offset = offset; value = v; is = let same : k ≡ j = h.0 in cc; takes = h.1 }

entry-executed : (s : Subsystem) (j k i : ℕ) (c : Controller) (e : PostedEntry)
    → (TakesByStore j e (Execute k i) ⊎ TakesByRegister c j e (Execute k i) ⊎ TakesByCommand s c j e (Execute k i)
    ⊎ (Execute k i ≡ PowerCycle)) → TakesEntry s j c e (Execute k i)
entry-executed s j k i c e x = elim x [
  | inl h ↦ absurd (let told : Execute k i ≡ Store j h.address h.bytes = h.is in cc)
  | inr (inl h) ↦ absurd (let told : Execute k i ≡ Write32 j h.offset h.value = h.is in cc)
  | inr (inr (inl h)) ↦
      let told : Execute k i ≡ Execute j h.index = h.is in
      let same : k ≡ j = cc in
      let place : h.index ≡ i = cc in
      (same, subst (λ l. TakesByExecution s l c i e) (sym same) (subst (λ l. TakesByExecution s j c l e) place h.takes))
  | inr (inr (inr h)) ↦ absurd (cc)
]

executed-entry : (s : Subsystem) (j k i : ℕ) (c : Controller) (e : PostedEntry) → TakesEntry s j c e (Execute k i)
    → TakesByCommand s c j e (Execute k i)
executed-entry s j k i c e h =
    record { index = i; is = let same : k ≡ j = h.0 in cc; takes = subst (λ l. TakesByExecution s l c i e) h.0 h.1 }

pub takes_entry_is_one_of_four : TakesEntryIsOneOfFour
takes_entry_is_one_of_four s j c e (Store k address bytes) =
    ((λ h. inl (stored-entry s j k address bytes c e h)), entry-stored s j k address bytes c e)
takes_entry_is_one_of_four s j c e (Write32 k offset v) =
    ((λ h. inr (inl (written-entry s j k offset v c e h))), entry-written s j k offset v c e)
takes_entry_is_one_of_four s j c e (Execute k i) =
    ((λ h. inr (inr (inl (executed-entry s j k i c e h)))), entry-executed s j k i c e)
takes_entry_is_one_of_four s j c e PowerCycle = ((λ h. inr (inr (inr refl))), (λ x. tt))
takes_entry_is_one_of_four s j c e (Read32 k offset) = (
  (λ h. absurd h),
  entry-other s j c e (Read32 k offset) (λ a b h. absurd (cc)) (λ o v h. absurd (cc)) (λ i h. absurd (cc))
      (λ h. absurd (cc)),
)
takes_entry_is_one_of_four s j c e (Fetch k q) = (
  (λ h. absurd h),
  entry-other s j c e (Fetch k q) (λ a b h. absurd (cc)) (λ o v h. absurd (cc)) (λ i h. absurd (cc)) (λ h. absurd (cc)),
)

pub places_are_kept : PlacesAreKept
unfolding place_after
places_are_kept s j m k offset q bytes = (refl, refl, refl, refl)

pub read_gives_the_value : ReadGivesTheValue
read_gives_the_value c offset = (refl, refl)

pub only_ready_fetches : OnlyReadyFetches
only_ready_fetches Ready = ((λ h. refl), (λ h. refl))
only_ready_fetches Off = ((λ h. absurd (cc)), (λ h. absurd (cc)))
only_ready_fetches ShutDown = ((λ h. absurd (cc)), (λ h. absurd (cc)))
only_ready_fetches Failed = ((λ h. absurd (cc)), (λ h. absurd (cc)))

pub admin_comes_to_its_execution : AdminComesToItsExecution
admin_comes_to_its_execution s x = record {
  status = refl;
  dw0 = refl;
  rule = refl;
  marks = refl;
  change = refl;
  world = refl;
  window = refl;
  device = refl;
}
