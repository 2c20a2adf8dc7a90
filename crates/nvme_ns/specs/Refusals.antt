-- Why a configuration is refused: the rule that it breaks, and the first line that breaks it. A fault has several
-- rules; if a line breaks several of them, the first in the order of this file counts.
use Rattle.std.specs.Prelude.{
  ℕ,
  ◌+◌,
  Bool,
  not,
  ◌==◌,
  ◌&&◌,
  ◌||◌,
  nat_lt,
  if◌then◌else◌,
  List,
  [],
  ◌∷◌,
  ◌++◌,
  length,
  Option,
  None,
  Some,
}
use Rattle.std.specs.List.{list_any}
use Rattle.std.specs.Option.{option_or}
use Rattle.nvme_spec.specs.Limits.{most_controllers, highest_nsid, most_attachments}
use Rattle.nvme_spec.specs.Configuration.{Capacity, Configuration, is_private, total_blocks}
use Rattle.nvme_spec.specs.declared.config.ControllerConfig.{ControllerConfig}
use Rattle.nvme_spec.specs.declared.config.NsConfig.{NsConfig}
use Rattle.nvme_spec.specs.declared.config.ConfigFault.{ConfigFault}
use Rattle.nvme_spec.specs.declared.config.ConfigFault.TheVariants.{BadId, BadSize, TooMany, DoesNotFit}
use Rattle.nvme_ns.specs.declared.refusal.SetupLine.{SetupLine}
use Rattle.nvme_ns.specs.declared.refusal.SetupLine.TheVariants.{Controller, Namespace, Attached}
use Rattle.nvme_ns.specs.declared.refusal.BrokenRule.{BrokenRule}
use Rattle.nvme_ns.specs.declared.refusal.BrokenRule.TheVariants as broken
use Rattle.nvme_ns.specs.declared.refusal.ConfigReason.{ConfigReason}

-- the first of these rules whose test is true
abbrev pub first_broken : List (Bool × BrokenRule) → Option BrokenRule
first_broken [] = None
first_broken (test ∷ rest) = if test.0 then Some test.1 else first_broken rest

-- The rules for a controller after others: the k-th one, from 1, has the identifier k and a host.
abbrev pub controller_breaks : List ControllerConfig → ControllerConfig → Option BrokenRule
controller_breaks before k = first_broken (
    (not (k.cntlid == length before + 1), broken.Misnumbered (length before + 1) k.cntlid)
    ∷ (k.host == 0, broken.NoHost k.cntlid) ∷ [])

-- The rules for a namespace after others: its identifier is one of 1 to 8, and differs from theirs.
abbrev pub namespace_breaks : List NsConfig → NsConfig → Option BrokenRule
namespace_breaks before n = first_broken (
    ((n.nsid == 0) || nat_lt highest_nsid n.nsid, broken.ForeignNsid n.nsid)
    ∷ (list_any (λ m. m.nsid == n.nsid) before, broken.RepeatedNsid n.nsid) ∷ [])

-- The rules for an attachment after others: its controller and its namespace are configured, it differs from the
-- others, and it does not attach a private namespace a second time.
abbrev pub attachment_breaks : Configuration → List (ℕ × ℕ) → ℕ × ℕ → Option BrokenRule
attachment_breaks c before pair = first_broken (
    (not (list_any (λ k. k.cntlid == pair.0) c.controllers), broken.UnknownController pair.0)
    ∷ (not (list_any (λ n. n.nsid == pair.1) c.namespaces), broken.UnknownNamespace pair.1)
    ∷ (list_any (λ other. (other.0 == pair.0) && (other.1 == pair.1)) before, broken.RepeatedAttachment pair.0 pair.1)
    ∷ (is_private c pair.1 && list_any (λ other. other.1 == pair.1) before, broken.NotShared pair.0 pair.1) ∷ [])

-- The rules for the size of a namespace: it has 1 to `most` blocks.
abbrev pub size_breaks : ℕ → List NsConfig → NsConfig → Option BrokenRule
size_breaks most before n = first_broken (
    (n.blocks == 0, broken.NoBlocks n.nsid) ∷ (nat_lt most n.blocks, broken.TooLarge n.nsid n.blocks most) ∷ [])

-- The rule for the place of a namespace after others: all of them together end within the medium.
abbrev pub room_breaks : ℕ → List NsConfig → NsConfig → Option BrokenRule
room_breaks medium_blocks before n = first_broken (
    (nat_lt medium_blocks (total_blocks before + n.blocks), broken.DoesNotFit n.nsid medium_blocks) ∷ [])

-- the reason of a rule, if one is broken, at a line
abbrev pub reason_at : SetupLine → Option BrokenRule → Option ConfigReason
reason_at line None = None
reason_at line (Some rule) = Some (record { line = line; rule = rule })

-- the first line of a kind that breaks a rule; all earlier lines of that kind follow the rules
abbrev pub first_line : {A : Type 0} → (ℕ → SetupLine) → (List A → A → Option BrokenRule) → List A → List A
    → Option ConfigReason
first_line line breaks before [] = None
first_line line breaks before (x ∷ rest) =
    option_or (reason_at (line (length before)) (breaks before x)) (first_line line breaks (before ++ x ∷ []) rest)

-- the first line that is one too many: of controllers, of namespaces or of attachments
abbrev pub one_too_many : Configuration → Option ConfigReason
one_too_many c =
    if nat_lt most_controllers (length c.controllers)
    then reason_at (Controller most_controllers) (Some broken.TooManyControllers)
    else (if nat_lt highest_nsid (length c.namespaces)
    then reason_at (Namespace highest_nsid) (Some broken.TooManyNamespaces)
    else (if nat_lt most_attachments (length c.attached)
    then reason_at (Attached most_attachments) (Some broken.TooManyAttachments)
    else None))

-- the first line whose identifiers break a rule: of controllers, else of namespaces, else of attachments
abbrev pub first_bad_id : Configuration → Option ConfigReason
first_bad_id c =
    option_or (first_line Controller controller_breaks [] c.controllers)
    (option_or (first_line Namespace namespace_breaks [] c.namespaces)
    (first_line Attached (attachment_breaks c) [] c.attached))

-- why a configuration is refused, if it is: by counts, else identifiers, else sizes, else the space on the medium
unfoldable pub refusal_of : Configuration → Capacity → Option ConfigReason
refusal_of c size =
    option_or (one_too_many c)
    (option_or (first_bad_id c)
    (option_or (first_line Namespace (size_breaks size.namespace) [] c.namespaces)
    (first_line Namespace (room_breaks size.medium) [] c.namespaces)))

-- the fault of a configuration that breaks a rule
abbrev pub fault_of : BrokenRule → ConfigFault
fault_of broken.TooManyControllers = TooMany
fault_of broken.TooManyNamespaces = TooMany
fault_of broken.TooManyAttachments = TooMany
fault_of (broken.Misnumbered k cntlid) = BadId
fault_of (broken.NoHost cntlid) = BadId
fault_of (broken.ForeignNsid nsid) = BadId
fault_of (broken.RepeatedNsid nsid) = BadId
fault_of (broken.UnknownController cntlid) = BadId
fault_of (broken.UnknownNamespace nsid) = BadId
fault_of (broken.RepeatedAttachment cntlid nsid) = BadId
fault_of (broken.NotShared cntlid nsid) = BadId
fault_of (broken.NoBlocks nsid) = BadSize
fault_of (broken.TooLarge nsid blocks most) = BadSize
fault_of (broken.DoesNotFit nsid medium_blocks) = DoesNotFit
