-- For `core_admitted.rt`: admin commands that the rules before those on data have let pass.
use Rattle.std.specs.Prelude.{◌==◌, ◌≡◌, ℕ, List, true, length, IsSome}
use Rattle.nvme_wire.specs.Submission.{nsid}
use Rattle.nvme_spec.specs.declared.command.AdminCommand.TheVariants.{SetFeatures, NamespaceAttachment}
use Rattle.nvme_spec.specs.AdminCommands.{data_length, fid, write_protection}
use Rattle.nvme_spec.specs.World.{World, namespace_of}
use Rattle.nvme_admin.specs.declared.rules.Admitted.{Admitted}
use Rattle.nvme_admin.specs.Admitted.{IsAdmitted, HasPlaces}

pub core_admitted_commands_protects : (w : World) → (e : List ℕ) → (a : Admitted) → IsAdmitted w e a → a.command
    ≡ SetFeatures → (fid e == write_protection) ≡ true → IsSome (namespace_of w (nsid e))
core_admitted_commands_protects w e a x = x.protects

pub core_admitted_commands_attaches : (w : World) → (e : List ℕ) → (a : Admitted) → IsAdmitted w e a → a.command
    ≡ NamespaceAttachment → IsSome (namespace_of w (nsid e))
core_admitted_commands_attaches w e a x = x.attaches

pub core_admitted_commands_size : (window e : List ℕ) → (a : Admitted) → (places : List ℕ)
    → HasPlaces window e a places → length places ≡ data_length a.command e
core_admitted_commands_size window e a places x = x.size
