-- Runs of any calls for one connection, the newest call first, and what became of commands and parts in them.
use Rattle.std.specs.Prelude.{
  ℕ,
  zero,
  suc,
  Bool,
  ◌==◌,
  if◌then◌else◌,
  List,
  [],
  ◌∷◌,
  ◌++◌,
  Option,
  Some,
  None,
  Result,
  Ok,
  Err,
}
use Rattle.nvme_pdu.specs.declared.fatal.Fatal.{Fatal}
use Rattle.nvme_transfers.specs.declared.command.Command.{Command}
use Rattle.nvme_transfers.specs.declared.command.Refused.{Refused}
use Rattle.nvme_transfers.specs.declared.part.Part.{Part}
use Rattle.nvme_transfers.specs.declared.part.Taken.{Taken}
use Rattle.nvme_transfers.specs.declared.part.Completed.{Completed}
use Rattle.nvme_transfers.specs.declared.transfer.Transfer.{Transfer}
use Rattle.nvme_transfers.specs.States.{State}
use Rattle.nvme_transfers.specs.Transfers.{
  none,
  ended,
  admitted,
  after_begin,
  free_tag,
  after_request,
  taken,
  after_part,
}

-- A command begins, an R2T is asked for, a part comes, or the connection ends.
pub data Call : Type 0 where
  Begins : Command → Call
  Requests : Call
  Takes : Part → Call
  Ends : Call

abbrev pub after : State → Call → State
after s (Begins c) = after_begin s c
after s Requests = after_request s
after s (Takes p) = after_part s p
after s Ends = ended

abbrev pub state_after : List Call → State
state_after [] = none
state_after (call ∷ run) = after (state_after run) call

-- ---- the commands that have begun, and those that an R2T was sent for, in their order

abbrev pub begun_if : Result (Unit {0}) Refused → Command → List Command
begun_if (Ok u) c = c ∷ []
begun_if (Err e) c = []

abbrev pub begins : State → Call → List Command
begins s (Begins c) = begun_if (admitted s c) c
begins s Requests = []
begins s (Takes p) = []
begins s Ends = []

abbrev pub begun : List Call → List Command
begun [] = []
begun (call ∷ run) = begun run ++ begins (state_after run) call

abbrev pub asked : Option ℕ → List Command → List Command
asked None cs = []
asked (Some tag) [] = []
asked (Some tag) (c ∷ cs) = c ∷ []

abbrev pub asks : State → Call → List Command
asks s (Begins c) = []
asks s Requests = asked (free_tag s.active) s.waiting
asks s (Takes p) = []
asks s Ends = []

abbrev pub requested : List Call → List Command
requested [] = []
requested (call ∷ run) = requested run ++ asks (state_after run) call

-- ---- the commands in flight, and those that an end has dropped

abbrev pub commands_of : List (Option Transfer) → List Command
commands_of [] = []
commands_of (None ∷ active) = commands_of active
commands_of (Some x ∷ active) = x.command ∷ commands_of active

abbrev pub in_flight : State → List Command
in_flight s = commands_of s.active ++ s.waiting

abbrev pub drops : State → Call → List Command
drops s (Begins c) = []
drops s Requests = []
drops s (Takes p) = []
drops s Ends = in_flight s

abbrev pub dropped : List Call → List Command
dropped [] = []
dropped (call ∷ run) = dropped run ++ drops (state_after run) call

-- those of them that had no R2T
abbrev pub unasked_by : State → Call → List Command
unasked_by s (Begins c) = []
unasked_by s Requests = []
unasked_by s (Takes p) = []
unasked_by s Ends = s.waiting

abbrev pub unasked : List Call → List Command
unasked [] = []
unasked (call ∷ run) = unasked run ++ unasked_by (state_after run) call

-- ---- the parts that were taken

abbrev pub part_if : Result Taken Fatal → Part → List Part
part_if (Ok t) p = p ∷ []
part_if (Err e) p = []

abbrev pub takes : State → Call → List Part
takes s (Begins c) = []
takes s Requests = []
takes s (Takes p) = part_if (taken s p) p
takes s Ends = []

abbrev pub parts : List Call → List Part
parts [] = []
parts (call ∷ run) = parts run ++ takes (state_after run) call

-- those that the command of a tag has now: none after it is complete
abbrev pub kept_parts : Option Completed → Part → List Part → List Part
kept_parts None p ps = ps ++ p ∷ []
kept_parts (Some done) p ps = []

abbrev pub with_taken : Result Taken Fatal → Part → List Part → List Part
with_taken (Ok t) p ps = kept_parts t.completed p ps
with_taken (Err e) p ps = ps

abbrev pub parts_after : State → Call → ℕ → List Part → List Part
parts_after s (Begins c) tag ps = ps
parts_after s Requests tag ps = ps
parts_after s (Takes p) tag ps = if p.tag == tag then with_taken (taken s p) p ps else ps
parts_after s Ends tag ps = []

abbrev pub parts_at : List Call → ℕ → List Part
parts_at [] tag = []
parts_at (call ∷ run) tag = parts_after (state_after run) call tag (parts_at run tag)

-- those of the tags below n
abbrev pub parts_below : ℕ → (ℕ → List Part) → List Part
parts_below zero of = []
parts_below (suc n) of = parts_below n of ++ of n

abbrev pub held : List Call → List Part
held run = parts_below 8 (parts_at run)

abbrev pub lost_by : List Call → Call → List Part
lost_by run (Begins c) = []
lost_by run Requests = []
lost_by run (Takes p) = []
lost_by run Ends = held run

-- those that the commands had that an end has dropped
abbrev pub lost : List Call → List Part
lost [] = []
lost (call ∷ run) = lost run ++ lost_by run call

-- ---- the commands that are complete, each with the parts that it was given, in their order

pub record Whole : Type 0 where
  pub command : Command
  pub tag : ℕ
  pub parts : List Part
  pub is_sound : Bool

abbrev pub whole_of : Option Completed → Part → List Part → List Whole
whole_of None p ps = []
whole_of (Some done) p ps = record {
  command = done.command;
  tag = p.tag;
  parts = ps ++ p ∷ [];
  is_sound = done.is_sound;
} ∷ []

abbrev pub whole_if : Result Taken Fatal → Part → List Part → List Whole
whole_if (Ok t) p ps = whole_of t.completed p ps
whole_if (Err e) p ps = []

abbrev pub completes : List Call → Call → List Whole
completes run (Begins c) = []
completes run Requests = []
completes run (Takes p) = whole_if (taken (state_after run) p) p (parts_at run p.tag)
completes run Ends = []

abbrev pub complete : List Call → List Whole
complete [] = []
complete (call ∷ run) = complete run ++ completes run call
