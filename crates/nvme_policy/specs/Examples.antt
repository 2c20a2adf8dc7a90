-- Words of the worked examples.
use Rattle.std.specs.Prelude.{ℕ, true, Some, Err}
use Rattle.nvme_spec.specs.declared.access.Protection.TheVariants.{Open}
use Rattle.nvme_spec.specs.declared.command.Command.TheVariants.{Read}
use Rattle.nvme_spec.specs.Entries.{transfer_entry}
use Rattle.nvme_spec.specs.IoRules.{range_rule}
use Rattle.nvme_spec.specs.Reservation.{unreserved}
use Rattle.nvme_spec.specs.Rules.{Judgement, judgement_by}
use Rattle.nvme_spec.specs.Statuses as status
use Rattle.nvme_spec.specs.World.{Namespace}

-- a namespace of this number of blocks
abbrev pub sized : ℕ → Namespace
sized blocks = record {
  nsid = 1;
  first = 0;
  blocks = blocks;
  shared = true;
  protection = Open;
  reservation = unreserved;
}

-- the rule for the range of a Read of `count` blocks from `slba`, of a namespace of `blocks` blocks
abbrev pub read_of : ℕ → ℕ → ℕ → Judgement
read_of blocks slba count =
    judgement_by (range_rule (Some Read) (Some (sized blocks)) (transfer_entry 0x02 1 slba count))

abbrev pub out_of_range : Judgement
out_of_range = Err (record { rule = 9; status = status.lba_out_of_range })
