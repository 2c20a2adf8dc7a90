-- Reservations of a namespace (NVM Express Base Specification 2.0, "Reservations"): the registered hosts with their
-- keys, the holder, and the outcome of each action of Reservation Register, Reservation Acquire and Reservation
-- Release.
use Rattle.std.specs.Prelude.{
  ℕ,
  ◌+◌,
  ◌<◌,
  ◌%◌,
  ◌^◌,
  Bool,
  true,
  false,
  not,
  ◌&&◌,
  ◌||◌,
  ◌==◌,
  nat_lt,
  nat_le,
  if◌then◌else◌,
  List,
  [],
  ◌∷◌,
  ◌++◌,
  length,
  filter,
  map,
  Result,
  Ok,
  Err,
}
use Rattle.std.specs.List.{list_any, AllByRecursion}
use Rattle.nvme_wire.specs.declared.status.Status.{Status}
use Rattle.nvme_spec.specs.declared.access.Registrant.{Registrant}
use Rattle.nvme_spec.specs.declared.access.Hold.{Hold}
use Rattle.nvme_spec.specs.declared.access.Hold.TheVariants.{Free, One, All}
use Rattle.nvme_spec.specs.declared.access.Role.{Role}
use Rattle.nvme_spec.specs.declared.access.Role.TheVariants.{Outsider, Registrant as OnlyRegistrant, Holder}
use Rattle.nvme_spec.specs.Statuses as status

-- the registrants by rising host, the holder, the generation counter, and whether these persist through power loss
-- (PTPL)
pub record Reservation : Type 0 where
  pub registrants : List Registrant
  pub hold : Hold
  pub generation : ℕ
  pub ptpl : Bool

-- a new namespace: nobody is registered, nobody holds it, and nothing persists
abbrev pub unreserved : Reservation
unreserved = record { registrants = []; hold = Free; generation = 0; ptpl = false }

-- the host has a key
abbrev pub is_registered : List Registrant → ℕ → Bool
is_registered registrants host = list_any (λ r. r.host == host) registrants

-- the host has this key
abbrev pub is_registered_with : List Registrant → ℕ → ℕ → Bool
is_registered_with registrants host key = list_any (λ r. (r.host == host) && (r.key == key)) registrants

-- some host has this key
abbrev pub is_key_in_use : List Registrant → ℕ → Bool
is_key_in_use registrants key = list_any (λ r. r.key == key) registrants

-- the host's key becomes `key`, whether it had one or not
abbrev pub with_key : List Registrant → ℕ → ℕ → List Registrant
with_key registrants host key =
    filter (λ r. nat_lt r.host host) registrants
    ++ record { host = host; key = key } ∷ filter (λ r. nat_lt host r.host) registrants

-- the registrants' hosts rise
abbrev pub IsRising : List Registrant → Type 0
IsRising [] = Unit {0}
IsRising (r ∷ rest) = AllByRecursion (λ x. r.host < x.host) rest × IsRising rest

-- this registrant holds the reservation: it is the holder, or all registrants are
abbrev pub is_held_by : Hold → ℕ → Bool
is_held_by Free host = false
is_held_by (One type holder) host = holder == host
is_held_by (All type) host = true

-- the role of a host, and of each of its controllers, for the namespace
abbrev pub role_of : Reservation → ℕ → Role
role_of r host =
    if is_registered r.registrants host then (if is_held_by r.hold host then Holder else OnlyRegistrant) else Outsider

abbrev pub is_holder : Reservation → ℕ → Bool
is_holder r host = is_registered r.registrants host && is_held_by r.hold host

-- the reservation after a host acquires one of this type: all registrants hold types 5 and 6
abbrev pub taken_by : ℕ → ℕ → Hold
taken_by host type = if nat_le type 4 then One type host else All type

-- what is left of the reservation if these registrants are left
abbrev pub remaining_hold : Hold → List Registrant → Hold
remaining_hold Free registrants = Free
remaining_hold (One type holder) registrants = if is_registered registrants holder then One type holder else Free
remaining_hold (All type) registrants = if length registrants == 0 then Free else All type

-- the reservation is of this type
abbrev pub is_of_type : Hold → ℕ → Bool
is_of_type Free type = false
is_of_type (One t holder) type = t == type
is_of_type (All t) type = t == type

abbrev pub is_free : Hold → Bool
is_free Free = true
is_free (One type holder) = false
is_free (All type) = false

abbrev pub is_of_all : Hold → Bool
is_of_all Free = false
is_of_all (One type holder) = false
is_of_all (All type) = true

-- a single host holds the reservation, and has this key
abbrev pub is_holders_key : Reservation → ℕ → Bool
is_holders_key r key = is_holders_key_of r.hold r.registrants key where
  is_holders_key_of : Hold → List Registrant → ℕ → Bool
  is_holders_key_of Free registrants key = false
  is_holders_key_of (One type holder) registrants key = is_registered_with registrants holder key
  is_holders_key_of (All type) registrants key = false

-- The outcome of an action: the next state, and the hosts that Preempt removed, by rising host.
pub record Transition : Type 0 where
  pub next : Reservation
  pub removed : List ℕ

-- An action is denied with a status and changes nothing, or makes a transition.
abbrev pub ActionOutcome : Type 0
ActionOutcome = Result Transition Status

-- the next state, if no host was preempted
abbrev pub becomes : Reservation → ActionOutcome
becomes next = Ok (record { next = next; removed = [] })

-- the hosts that were registered and no longer are
abbrev pub removed_hosts : List Registrant → List Registrant → List ℕ
removed_hosts before after = map (λ r. r.host) (filter (λ r. not (is_registered after r.host)) before)

-- the next state, and the hosts that are no longer registered in it
abbrev pub preempts : Reservation → Reservation → ActionOutcome
preempts r next = Ok (record { next = next; removed = removed_hosts r.registrants next.registrants })

-- these registrants and this holder, in the next generation: the counter has 32 bits
abbrev pub next_generation : Reservation → List Registrant → Hold → Reservation
next_generation r registrants hold =
    record r { registrants = registrants; hold = hold; generation = (r.generation + 1) % 2 ^ 32 }

-- these registrants, what is left of the reservation, and the next generation
abbrev pub remaining : Reservation → List Registrant → Reservation
remaining r rest = next_generation r rest (remaining_hold r.hold rest)

-- Reservation Register command, Register Reservation Key. A host that already has another key is denied.
abbrev pub register : Reservation → ℕ → ℕ → ActionOutcome
register r host nrkey =
    if is_registered r.registrants host
    && not (is_registered_with r.registrants host nrkey) then Err status.reservation_conflict
    else becomes (next_generation r (with_key r.registrants host nrkey) r.hold)

-- Reservation Register command, Unregister Reservation Key. With IEKEY the key in the command is ignored.
abbrev pub unregister : Reservation → ℕ → Bool → ℕ → ActionOutcome
unregister r host iekey crkey =
    if is_registered r.registrants host && (iekey || is_registered_with r.registrants host crkey)
    then becomes (remaining r (filter (λ x. not (x.host == host)) r.registrants))
    else Err status.reservation_conflict

-- Reservation Register command, Replace Reservation Key. With IEKEY a host that is not registered is registered.
abbrev pub replace : Reservation → ℕ → Bool → ℕ → ℕ → ActionOutcome
replace r host iekey crkey nrkey =
    if iekey || is_registered_with r.registrants host crkey
    then becomes (next_generation r (with_key r.registrants host nrkey) r.hold)
    else Err status.reservation_conflict

-- Reservation Register command, Change Persist Through Power Loss State: 10b clears it, 11b sets it
abbrev pub ptpl_after : ℕ → Bool → Bool
ptpl_after cptpl before = if cptpl == 2 then false else (if cptpl == 3 then true else before)

-- the same outcome, with that change of the next state
abbrev pub persisting : ℕ → ActionOutcome → ActionOutcome
persisting cptpl (Err refusal) = Err refusal
persisting cptpl (Ok t) = Ok (record t { next = record t.next { ptpl = ptpl_after cptpl t.next.ptpl } })

-- Reservation Acquire command, Acquire.
abbrev pub acquire : Reservation → ℕ → ℕ → ℕ → ActionOutcome
acquire r host rtype crkey =
    if not (is_registered_with r.registrants host crkey) then Err status.reservation_conflict
    else (if is_free r.hold then becomes (record r { hold = taken_by host rtype })
    else (if is_of_type r.hold rtype && is_holder r host then becomes r
    else Err status.reservation_conflict))

-- Reservation Acquire command, Preempt. Key 0 means all other registrants of a reservation that all hold. The key of a
-- single holder takes over its reservation. Any other key only removes the registrants that have it.
abbrev pub preempt : Reservation → ℕ → ℕ → ℕ → ℕ → ActionOutcome
preempt r host rtype crkey prkey =
    if not (is_registered_with r.registrants host crkey) then Err status.reservation_conflict
    else (if prkey == 0
    then (if is_of_all r.hold
    then preempts r (next_generation r (filter (λ x. x.host == host) r.registrants) (taken_by host rtype))
    else Err status.invalid_field_in_command)
    else (if is_holders_key r prkey
    then preempts r (next_generation r (filter (λ x. (x.host == host)
    || not (x.key == prkey)) r.registrants) (taken_by host rtype))
    else (if is_key_in_use r.registrants prkey
    then preempts r (remaining r (filter (λ x. not (x.key == prkey)) r.registrants))
    else Err status.reservation_conflict)))

-- Reservation Release command, Release. A registrant that is not a holder succeeds and changes nothing.
abbrev pub release : Reservation → ℕ → ℕ → ℕ → ActionOutcome
release r host rtype crkey =
    if not (is_registered_with r.registrants host crkey) then Err status.reservation_conflict
    else (if not (is_holder r host) then becomes r
    else (if is_of_type r.hold rtype then becomes (record r { hold = Free })
    else Err status.invalid_field_in_command))

-- Reservation Release command, Clear.
abbrev pub clear : Reservation → ℕ → ℕ → ActionOutcome
clear r host crkey =
    if is_registered_with r.registrants host crkey then becomes (next_generation r [] Free)
    else Err status.reservation_conflict
