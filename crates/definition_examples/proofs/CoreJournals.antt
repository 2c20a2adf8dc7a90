-- For `core_journals.rt`: records of a journal that hold the same command.
use Rattle.std.proofs.Common.{arith}
use Rattle.std.specs.Prelude.{[], ◌∷◌, ◌≡◌, ℕ, List, Bool, true, false}
use Rattle.nvme_spec.specs.AdminRules.{listed_controllers}
use Rattle.nvme_journal.specs.Records.{Command, Cycle}
use Rattle.nvme_journal.specs.Laws.{ReadsTheSame, Matches, AllMatch, IsSameRecord}

pub core_same_data_admin : (sent again : List ℕ) → ReadsTheSame true sent again → listed_controllers again
    ≡ listed_controllers sent
core_same_data_admin sent again x = x

pub core_same_data_admin_enough : (sent again : List ℕ) → listed_controllers again ≡ listed_controllers sent
    → ReadsTheSame true sent again
core_same_data_admin_enough sent again x = x

pub core_same_data_io : (sent again : List ℕ) → ReadsTheSame false sent again → again ≡ sent
core_same_data_io sent again x = x

pub core_matching_records_commands : (k other : ℕ) → (is_admin from_admin : Bool) → (e again sent bytes : List ℕ)
    → Matches (Command k is_admin e sent) (Command other from_admin again bytes)
    → IsSameRecord k other is_admin from_admin e again sent bytes
core_matching_records_commands k other is_admin from_admin e again sent bytes x = x

pub core_matching_records_controller : (e sent : List ℕ) → Matches (Command 1 true e sent) (Command 2 true e sent) → ⊥
core_matching_records_controller e sent x = omega (arith, x.controller)

pub core_matching_records_all : AllMatch (Cycle ∷ Cycle ∷ []) (Cycle ∷ Cycle ∷ [])
core_matching_records_all = (tt, (tt, tt))

pub core_matching_records_first : (e sent : List ℕ) → AllMatch (Cycle ∷ []) (Command 1 true e sent ∷ []) → ⊥
core_matching_records_first e sent x = x.0

pub core_matching_records_second : (e sent : List ℕ)
    → AllMatch (Cycle ∷ Cycle ∷ []) (Cycle ∷ Command 1 true e sent ∷ []) → ⊥
core_matching_records_second e sent x = x.1.0
