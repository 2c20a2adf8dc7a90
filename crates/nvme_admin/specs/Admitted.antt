-- An admin command that the rules before those on its data have let pass, for the contract of `admit`.
use Rattle.std.specs.Prelude.{◌≡◌, ◌==◌, ℕ, true, List, length, Some, IsSome}
use Rattle.nvme_wire.specs.Submission.{opcode, nsid}
use Rattle.nvme_spec.specs.declared.command.AdminCommand.TheVariants.{SetFeatures, NamespaceAttachment}
use Rattle.nvme_spec.specs.AdminCommands.{command_of, data_length, fid, write_protection}
use Rattle.nvme_spec.specs.AdminEffects.{queue_change}
use Rattle.nvme_spec.specs.DataRules.{data_addresses}
use Rattle.nvme_spec.specs.World.{World, namespace_of}
use Rattle.nvme_admin.specs.declared.rules.Admitted.{Admitted}

-- What is known of it: its command, the change of the queues, and that the namespace which it changes is configured.
pub record IsAdmitted (w : World) (e : List ℕ) (a : Admitted) : Type 0 where
  pub named : command_of (opcode e) ≡ Some a.command
  pub change : a.change ≡ queue_change a.command e
  pub protects : a.command ≡ SetFeatures → (fid e == write_protection) ≡ true → IsSome (namespace_of w (nsid e))
  pub attaches : a.command ≡ NamespaceAttachment → IsSome (namespace_of w (nsid e))

-- The addresses of its data.
pub record HasPlaces (window e : List ℕ) (a : Admitted) (places : List ℕ) : Type 0 where
  pub at : places ≡ data_addresses (data_length a.command e) window e
  pub size : length places ≡ data_length a.command e
