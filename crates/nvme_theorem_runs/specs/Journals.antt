-- Statements of `journals.rt`: an example run and its journal. Also the theorem that restores the access state, without
-- its premise: it is false.
use Rattle.std.specs.Prelude.{◌≡◌, Bool, List, false, true, [], ◌∷◌}
use Rattle.nvme_spec.specs.ClusterExamples.{keys}
use Rattle.nvme_spec.specs.Layout.{may_write}
use Rattle.nvme_machine.specs.declared.event.Event.{Event}
use Rattle.nvme_machine.specs.declared.event.Event.TheVariants.{Execute, PowerCycle, Read32}
use Rattle.nvme_machine.specs.declared.seen.Seen.{Seen}
use Rattle.nvme_machine.specs.FaultFree.{fault_free_left, fault_free_seen}
use Rattle.nvme_machine.specs.Subsystems.{Run, Subsystem}
use Rattle.nvme_journal.specs.Records.{Command, Cycle, Record, carried_all}
use Rattle.nvme_target.specs.Journals.{EndsAlike, journal}
use Rattle.nvme_theorem_runs.specs.Cluster.{acquire, cluster, held_by_a1, register, stores_keys, zeroes}

-- Host b2h is fenced, registers a key, preempts the holder, and writes; then power is lost. The holder's controller
-- reads a register.
abbrev pub preempting : Subsystem
preempting = cluster (held_by_a1 1) [] (register ∷ acquire 1 ∷ zeroes 1 ∷ [])

unfoldable pub kept_events : List Event
kept_events =
    stores_keys 2 0 0x22 ∷ Execute 2 0 ∷ stores_keys 2 0x22 0x11 ∷ Execute 2 0 ∷ Read32 1 0x1c ∷ Execute 2 0
    ∷ PowerCycle ∷ []

abbrev pub after_kept : Subsystem
after_kept = fault_free_left preempting kept_events

-- the register and the preempt are kept, without the write
abbrev pub records : List Record
records =
    Command 2 false register.entry (keys 0 0x22) ∷ Command 2 false (acquire 1).entry (keys 0x22 0x11) ∷ Cycle ∷ []

-- JournalHoldsTheAccessState: the journal computes, and has changed who may write.
pub record JournalAtWork : Type 0 where
  pub run : Run true preempting kept_events (fault_free_seen preempting kept_events) after_kept
  pub keeps : journal true preempting kept_events (fault_free_seen preempting kept_events) after_kept run ≡ records
  pub holds : after_kept.world ≡ carried_all records preempting.world
  pub fenced : may_write preempting.world 2 1 ≡ false
  pub writes : may_write after_kept.world 2 1 ≡ true

-- JournalRestoresTheAccessState for runs of any journals.
abbrev pub JournalOfAnyRecords : Type 0
JournalOfAnyRecords =
    (tells tells_again : Bool) (old new again left : Subsystem) (events others : List Event)
    (seen seen_again : List Seen) (run : Run tells old events seen new)
    (rerun : Run tells_again again others seen_again left) → again.world ≡ old.world → EndsAlike new left
