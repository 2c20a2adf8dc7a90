-- Commands, worlds and results of the worked examples of several hosts.
use Rattle.std.specs.Prelude.{ℕ, ◌+◌, ◌*◌, ◌^◌, false, List, [], ◌∷◌, ◌++◌, Option}
use Rattle.std.specs.Int.{w64, to_le_bytes}
use Rattle.nvme_wire.specs.Submission.{nsid}
use Rattle.nvme_spec.specs.declared.command.Command.TheVariants.{ReservationAcquire}
use Rattle.nvme_spec.specs.declared.outcome.Marks.{Marks}
use Rattle.nvme_spec.specs.declared.verdict.Verdict.{Verdict}
use Rattle.nvme_spec.specs.declared.verdict.Verdict.TheVariants.{Allowed, Denied}
use Rattle.nvme_spec.specs.Reservation as resv
use Rattle.nvme_spec.specs.World.{World, namespace_of}
use Rattle.nvme_spec.specs.Entries.{command_entry}
use Rattle.nvme_spec.specs.Execution.{world_after, report_of, marks_of}
use Rattle.nvme_spec.specs.IoData.{io_verdict, data_of, reservation_outcome}

-- A command of a controller, and its host's memory.
pub record Sent : Type 0 where
  pub cntlid : ℕ
  pub entry : List ℕ
  pub window : List ℕ

-- the two keys of a reservation command, at address 0
abbrev pub keys : ℕ → ℕ → List ℕ
keys current other = to_le_bytes w64 current ++ to_le_bytes w64 other

-- Reservation Register, Acquire and Release on namespace 1: the controller, the action, and the action's keys and
-- fields
abbrev pub registers : ℕ → ℕ → ℕ → ℕ → Sent
registers c action crkey nrkey = record {
  cntlid = c;
  entry = command_entry 0x0d 1 0 action 0;
  window = keys crkey nrkey;
}

abbrev pub acquires : ℕ → ℕ → ℕ → ℕ → ℕ → Sent
acquires c action rtype crkey prkey = record {
  cntlid = c;
  entry = command_entry 0x11 1 0 (action + 2 ^ 8 * rtype) 0;
  window = keys crkey prkey;
}

abbrev pub releases : ℕ → ℕ → ℕ → ℕ → Sent
releases c action rtype crkey = record {
  cntlid = c;
  entry = command_entry 0x15 1 0 (action + 2 ^ 8 * rtype) 0;
  window = keys crkey 0;
}

abbrev pub verdict_on : World → Sent → Verdict
verdict_on w s = io_verdict w s.cntlid s.entry false s.window

-- the outcome of a reservation command
abbrev pub outcome_on : World → Sent → Option resv.ActionOutcome
outcome_on w s = reservation_outcome w s.cntlid s.entry (data_of s.window s.entry)

-- the world after a command, by the verdict of the rules
abbrev pub after_verdict : World → Sent → Verdict → World
after_verdict w s (Allowed plan) = world_after w (nsid s.entry) (outcome_on w s)
after_verdict w s (Denied number why) = w

-- the world after several, one after the other
unfoldable pub after_sent : World → List Sent → World
after_sent w [] = w
after_sent w (s ∷ rest) = after_sent (after_verdict w s (verdict_on w s)) rest

-- the report of a namespace
abbrev pub report_on : World → ℕ → ℕ → List ℕ
report_on w n size = report_of (namespace_of w n) w.controllers size

-- the hosts whose commands a reservation command marks
abbrev pub marks_on : World → Sent → Marks
marks_on w s = marks_of ReservationAcquire s.entry (outcome_on w s)
