-- Records of the same commands with the same data have the same effect on the access state.
use Rattle.std.proofs.Common.{◌≡◌, ℕ, Bool, true, false, List, [], ◌∷◌, Option, None, Some, refl, ap, ◌∙◌}
use Rattle.nvme_wire.specs.Submission.{opcode}
use Rattle.nvme_spec.specs.declared.command.AdminCommand.{AdminCommand}
use Rattle.nvme_spec.specs.AdminCommands.{command_of, fid}
use Rattle.nvme_spec.specs.AdminRules.{listed_controllers}
use Rattle.nvme_spec.specs.World.{World}
use Rattle.nvme_journal.specs.Records.{Record, Command, Cycle, carried, carried_all, carried_by, lasts}
use Rattle.nvme_journal.specs.Laws.{IsSameCommand, Matches, MatchingRecordsCarryAlike, ReadsTheSame}
use Rattle.nvme_journal.proofs.Again.{same-after}
use Rattle.nvme_journal.proofs.AdminAgain.{same-effect}

-- the same command lasts, or does not
pub same-lasts : (is_admin : Bool) (e again : List ℕ) → IsSameCommand e again → lasts is_admin again ≡ lasts is_admin e
unfolding lasts fid
same-lasts is_admin e again h = cc (h.opcode, h.cdw10)

by-admin : (o : Option AdminCommand) (w : World) (e again sent read : List ℕ) → IsSameCommand e again
    → listed_controllers read ≡ listed_controllers sent → carried_by o w again read ≡ carried_by o w e sent
by-admin None w e again sent read same lists = refl
by-admin (Some command) w e again sent read same lists = same-effect command w e again sent read same lists

command-alike : (is_admin : Bool) (k : ℕ) (e again sent read : List ℕ) (w : World) → IsSameCommand e again
    → ReadsTheSame is_admin sent read
    → carried (Command k is_admin again read) w ≡ carried (Command k is_admin e sent) w
command-alike true k e again sent read w same reads =
    ap (λ o. carried_by o w again read) (ap command_of same.opcode)
    ∙ by-admin (command_of (opcode e)) w e again sent read same reads
command-alike false k e again sent read w same reads = same-after w w k e again sent read refl same reads

alike : (r x : Record) (w : World) → Matches r x → carried x w ≡ carried r w
alike (Command k is_admin e sent) (Command other from_admin again read) w m =
    ap (λ j. carried (Command j from_admin again read) w) m.controller
    ∙ ap (λ a. carried (Command k a again read) w) m.queue
    ∙ command-alike is_admin k e again sent read w m.command m.reads
alike (Command k is_admin e sent) Cycle w m = absurd m
alike Cycle (Command other from_admin again read) w m = absurd m
alike Cycle Cycle w m = refl

pub matching_records_carry_alike : MatchingRecordsCarryAlike
matching_records_carry_alike [] [] w m = refl
matching_records_carry_alike (r ∷ records) (x ∷ others) w m =
    matching_records_carry_alike records others (carried x w) m.1
    ∙ ap (carried_all records) (alike r x w m.0)
matching_records_carry_alike [] (x ∷ others) w m = absurd m
matching_records_carry_alike (r ∷ records) [] w m = absurd m
