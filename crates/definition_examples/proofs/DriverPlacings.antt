-- For `driver_placings.rt`: placings by a port that counts its calls, and runs of calls.
use Rattle.std.proofs.Common.{
  ◌≡◌,
  ◌+◌,
  ◌≤◌,
  ◌++◌,
  ℕ,
  List,
  [],
  ◌∷◌,
  Option,
  None,
  Some,
  refl,
  sym,
  ap,
  subst,
  arith,
  ◌∙◌,
}
use Rattle.nvme_driver.specs.declared.lane.Lane.{Lane}
use Rattle.nvme_driver.specs.Calls.{Calls, Turns}
use Rattle.nvme_driver.specs.Drivers.{
  Driver,
  HoldsItsRequest,
  HoldsRequest,
  IsPlaced,
  after_reset,
  free_slot,
  new_driver,
  placed,
  placed_window,
  stores_of,
}
use Rattle.nvme_driver.specs.Examples.{full_driver, sending_command, small_read, up_driver}
use Rattle.nvme_driver.specs.HostCommands.{
  HoldsCommand,
  HoldsItsCommand,
  IsCommandPlaced,
  command_stores,
  command_window,
  placed_command,
}
use Rattle.nvme_driver.specs.Layout.{
  EntriesLieInTheirPages,
  command_place,
  completion_place_in,
  completion_queue,
  submission_queue,
}
use Rattle.nvme_driver.specs.Once.{
  Event,
  HandsUpOnce,
  Happens,
  Places,
  PlacesCommand,
  Polls,
  Resets,
  Run,
  Stays,
  handed,
}
use Rattle.nvme_driver.specs.Polls.{IsOldest, polled}
use Rattle.definition_examples.specs.DriverExamples.{bare_driver, counts}

no-slot : (slot : ℕ) → None ≡ Some slot → ⊥
no-slot slot none = absurd (cc (none))

lowest : (slot : ℕ) → Some 0 ≡ Some slot → 0 ≡ slot
lowest slot first = cc (first)

not-second : ◌≡◌ {A = Option ℕ} (Some 0) (Some 1) → ⊥
not-second wrong = omega (arith, lowest 1 wrong)

pub no_call_made : Calls counts 5 [] 5
no_call_made = refl

pub no_call_not_made : Calls counts 5 [] 6 → ⊥
no_call_not_made made = omega (arith, made)

pub two_calls_made : Calls counts 5 (Turns ∷ Turns ∷ []) 7
two_calls_made = (6, refl, (7, refl, refl))

pub one_call_is_less : Calls counts 5 (Turns ∷ Turns ∷ []) 6 → ⊥
one_call_is_less made = omega (arith, made.1, made.2.1, made.2.2)

pub two_calls_are_more : Calls counts 5 (Turns ∷ []) 7 → ⊥
two_calls_are_more made = omega (arith, made.1, made.2)

-- three stores
stores-made : (slot made : ℕ) → Calls counts 5 (stores_of up_driver small_read slot) made → made ≡ 8
stores-made slot made x = omega (arith, x.1, x.2.1, x.2.2.1, x.2.2.2)

pub request_placed : IsPlaced counts up_driver small_read 5 (placed up_driver small_read 0) 8
request_placed = (0, refl, refl, (6, refl, (7, refl, (8, refl, refl))))

pub request_without_slot : (after : Driver) → (made : ℕ) → IsPlaced counts full_driver small_read 5 after made → ⊥
request_without_slot after made x = no-slot x.0 x.1

pub request_not_taken : (made : ℕ) → IsPlaced counts up_driver small_read 5 up_driver made → ⊥
request_not_taken made x = let next : 7 ≡ 8 = ap (λ (d : Driver). d.next) x.2 in omega (arith, next)

pub request_stored : (after : Driver) → (made : ℕ) → IsPlaced counts up_driver small_read 5 after made → made ≡ 8
request_stored after made x = stores-made x.0 made x.3

commands-made : (slot made : ℕ) → Calls counts 5 (command_stores up_driver sending_command slot) made → made ≡ 8
commands-made slot made x = omega (arith, x.1, x.2.1, x.2.2.1, x.2.2.2)

pub command_placed :
    IsCommandPlaced counts up_driver sending_command 5 (placed_command up_driver sending_command 0) 8
command_placed = (0, refl, refl, (6, refl, (7, refl, (8, refl, refl))))

pub command_without_slot : (after : Driver) → (made : ℕ)
    → IsCommandPlaced counts full_driver sending_command 5 after made → ⊥
command_without_slot after made x = no-slot x.0 x.1

pub command_not_taken : (made : ℕ) → IsCommandPlaced counts up_driver sending_command 5 up_driver made → ⊥
command_not_taken made x = let next : 7 ≡ 8 = ap (λ (d : Driver). d.next) x.2 in omega (arith, next)

pub command_stored : (after : Driver) → (made : ℕ)
    → IsCommandPlaced counts up_driver sending_command 5 after made → made ≡ 8
command_stored after made x = commands-made x.0 made x.3

pub request_window : (old after : List ℕ) → HoldsItsRequest up_driver old after small_read
    → after ≡ placed_window up_driver old small_read 0
request_window old after x =
    let y : (slot : ℕ) × (free_slot up_driver ≡ Some slot) × HoldsRequest up_driver old after small_read slot = x in
    subst (λ slot. after ≡ placed_window up_driver old small_read slot) (sym (lowest y.0 y.1)) y.2.window

pub request_window_without_slot : (old after : List ℕ) → HoldsItsRequest full_driver old after small_read → ⊥
request_window_without_slot old after x = no-slot x.0 x.1

pub command_window_after : (old after : List ℕ) → HoldsItsCommand up_driver old after sending_command
    → after ≡ command_window up_driver old sending_command 0
command_window_after old after x =
    let y : (slot : ℕ) × (free_slot up_driver
    ≡ Some slot) × HoldsCommand up_driver old after sending_command slot = x in
    subst (λ slot. after ≡ command_window up_driver old sending_command slot) (sym (lowest y.0 y.1)) y.2.window

pub command_window_without_slot : (old after : List ℕ) → HoldsItsCommand full_driver old after sending_command → ⊥
command_window_without_slot old after x = no-slot x.0 x.1

pub placing_happens : (after : Driver) → Happens (Places small_read 0) up_driver after
    → after ≡ placed up_driver small_read 0
placing_happens after x =
    let y : (free_slot up_driver ≡ Some 0) × (after ≡ placed up_driver small_read 0) = x in
    y.1

pub second_slot_is_not_lowest : (after : Driver) → Happens (Places small_read 1) up_driver after → ⊥
second_slot_is_not_lowest after x = not-second x.0

pub command_happens : (after : Driver) → Happens (PlacesCommand sending_command 0) up_driver after
    → after ≡ placed_command up_driver sending_command 0
command_happens after x =
    let y : (free_slot up_driver ≡ Some 0) × (after ≡ placed_command up_driver sending_command 0) = x in
    y.1

pub second_slot_is_not_lowest_for_command : (after : Driver)
    → Happens (PlacesCommand sending_command 1) up_driver after → ⊥
second_slot_is_not_lowest_for_command after x = not-second x.0

pub poll_happens : (after : Driver) → (window : List ℕ) → Happens (Polls None window) bare_driver after
    → after ≡ bare_driver
poll_happens after window x =
    let y : IsOldest bare_driver.slots None × (after ≡ (polled bare_driver None window).driver) = x in
    y.1

pub stay_happens : (after : Driver) → Happens Stays up_driver after → after.next ≡ 7
stay_happens after x =
    let y : (after.slots ≡ up_driver.slots) × (after.next ≡ up_driver.next) = x in
    y.1

pub no_tickets_run : (tickets : List ℕ) → (after : Driver) → Run [] up_driver tickets after → tickets ≡ []
no_tickets_run tickets after x = let y : (tickets ≡ []) × (after ≡ up_driver) = x in y.0

pub no_call_runs : (tickets : List ℕ) → (after : Driver) → Run [] up_driver tickets after → after ≡ up_driver
no_call_runs tickets after x = let y : (tickets ≡ []) × (after ≡ up_driver) = x in y.1

pub reset_runs : (tickets : List ℕ) → (after : Driver) → Run (Resets ∷ []) up_driver tickets after
    → after ≡ after_reset up_driver
reset_runs tickets after x =
    let y :
    (mid : Driver) × (later : List ℕ) × Happens Resets up_driver mid
    × (tickets ≡ handed Resets up_driver ++ later) × Run [] mid later after = x in
    y.4.1 ∙ y.2

pub not_twice : HandsUpOnce → (events : List Event) → (after : Driver)
    → Run events (new_driver 7) (8 ∷ 8 ∷ []) after → ⊥
not_twice law events after x = omega (arith, law 7 events (8 ∷ 8 ∷ []) after 8 x)

pub command_ends : EntriesLieInTheirPages → (lane : Lane) → (n : ℕ)
    → command_place lane n + 64 ≤ submission_queue lane + 4096
command_ends law lane n = (law lane n).1

pub completion_starts : EntriesLieInTheirPages → (lane : Lane) → (n : ℕ)
    → completion_queue lane ≤ completion_place_in lane n
completion_starts law lane n = (law lane n).2

pub completion_ends : EntriesLieInTheirPages → (lane : Lane) → (n : ℕ)
    → completion_place_in lane n + 16 ≤ completion_queue lane + 4096
completion_ends law lane n = (law lane n).3
