-- What a driver knows of its controller and of the namespaces: the last answers of Identify (Base Specification:
-- Identify command).
use Rattle.std.specs.Prelude.{
  ℕ,
  ◌==◌,
  nat_le,
  Bool,
  true,
  false,
  ◌&&◌,
  if◌then◌else◌,
  List,
  replicate,
  slice_get,
  slice_set,
  Option,
  None,
  Some,
  Result,
}
use Rattle.std.specs.Option.{option_flatten}
use Rattle.nvme_spec.specs.declared.command.Command.{Command}
use Rattle.nvme_spec.specs.declared.command.Command.TheVariants.{
  ReservationRegister,
  ReservationAcquire,
  ReservationRelease,
}
use Rattle.nvme_device.specs.declared.admission.Admission.{Admission}
use Rattle.nvme_device.specs.declared.admission.Span.{Span}
use Rattle.nvme_device.specs.declared.namespace.NamespaceFacts.{NamespaceFacts}
use Rattle.nvme_device.specs.declared.namespace.NamespaceFault.{NamespaceFault}
use Rattle.nvme_device.specs.Admissions.{admission_of}
use Rattle.nvme_device.specs.Controllers.{judged_controller}
use Rattle.nvme_device.specs.Namespaces.{judged_namespace}
use Rattle.nvme_host.specs.declared.outcome.Outcome.{Outcome}
use Rattle.nvme_host.specs.declared.outcome.Placed.{Placed}
use Rattle.nvme_host.specs.declared.facts.DeviceFacts.{DeviceFacts}
use Rattle.nvme_host.specs.declared.facts.Question.{Question}

-- namespaces have a place by their identifiers, up to this one
abbrev pub highest_nsid : ℕ
highest_nsid = 64

abbrev pub no_facts : DeviceFacts
no_facts = record {
  controller = None;
  namespaces = replicate 65 None;
  asked = None;
  identifying = None;
  host_identified = false;
}

abbrev pub namespace_facts : DeviceFacts → ℕ → Option (Result NamespaceFacts NamespaceFault)
namespace_facts facts nsid = option_flatten (slice_get facts.namespaces nsid)

-- the verdict on a request on a namespace
abbrev pub admission_on : DeviceFacts → ℕ → Command → Span → Admission
admission_on facts nsid command span = admission_of facts.controller (namespace_facts facts nsid) command span

-- a question is placed: what was known is no longer
abbrev pub forgotten : DeviceFacts → ℕ → DeviceFacts
forgotten facts nsid =
    if nsid == 0 then record facts { controller = None }
    else (if nat_le nsid highest_nsid
    then record facts { namespaces = slice_set facts.namespaces nsid None }
    else facts)

abbrev pub asked : DeviceFacts → ℕ → ℕ → DeviceFacts
asked facts number nsid =
    record (forgotten facts nsid) { asked = Some (record { ticket = number; nsid = nsid }) }

abbrev pub with_question : DeviceFacts → Placed → ℕ → DeviceFacts
with_question facts outcome nsid = if outcome.code == 0 then asked facts outcome.ticket nsid else facts

-- the result of a poll is the answer to the question
abbrev pub is_answered : Option Question → Outcome → Bool
is_answered None outcome = false
is_answered (Some q) outcome = (outcome.code == 1) && (outcome.ticket == q.ticket)

-- the answer to a question about the controller, 0, or about a namespace has these bytes
abbrev pub with_answer : DeviceFacts → ℕ → List ℕ → DeviceFacts
with_answer facts nsid bytes =
    if nsid == 0 then record facts { controller = Some (judged_controller bytes) }
    else (if nat_le nsid highest_nsid
    then record facts { namespaces = slice_set facts.namespaces nsid (Some (judged_namespace bytes)) }
    else facts)

-- The last question was answered. Its data are at the front of the buffer, unless it failed.
abbrev pub answered_by : DeviceFacts → Option Question → Outcome → List ℕ → DeviceFacts
answered_by facts None outcome bytes = facts
answered_by facts (Some q) outcome bytes =
    if outcome.len == 4096 then with_answer
    (record facts { asked = None }) q.nsid bytes else record facts { asked = None }

abbrev pub learned_of_question : DeviceFacts → Outcome → List ℕ → DeviceFacts
learned_of_question facts outcome bytes =
    if is_answered facts.asked outcome then answered_by facts facts.asked outcome bytes else facts

-- A command was placed: if it sets the identifier of this host, nothing is known of that any more.
abbrev pub with_command : DeviceFacts → Bool → Placed → DeviceFacts
with_command facts identifies outcome =
    if identifies && (outcome.code == 0)
    then record facts { identifying = Some outcome.ticket; host_identified = false } else facts

-- the result of a poll is the answer to the last one of these commands, and whether it succeeded
abbrev pub is_identity_answer : Option ℕ → Outcome → Bool
is_identity_answer None outcome = false
is_identity_answer (Some ticket) outcome = (outcome.code == 1) && (outcome.ticket == ticket)

abbrev pub with_identity : DeviceFacts → Outcome → DeviceFacts
with_identity facts outcome =
    if is_identity_answer facts.identifying outcome
    then record facts { identifying = None; host_identified = (outcome.sct == 0) && (outcome.sc == 0) } else facts

abbrev pub learned : DeviceFacts → Outcome → List ℕ → DeviceFacts
learned facts outcome bytes = with_identity (learned_of_question facts outcome bytes) outcome

-- Register, Acquire and Release need the identifier of this host
abbrev pub needs_identifier : Command → Bool
needs_identifier ReservationRegister = true
needs_identifier ReservationAcquire = true
needs_identifier ReservationRelease = true
needs_identifier other = false
