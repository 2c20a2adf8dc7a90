-- Connections for C.
use Rattle.std.specs.Prelude.{◌≡◌, ℕ, Bool, false, List, Option, Some, None}
use Rattle.nvme_pdu.specs.declared.fatal.Fatal.{Fatal}
use Rattle.nvme_pdu.specs.declared.layout.PduLayout.{PduLayout}
use Rattle.nvme_connection.specs.declared.connection.Connection.{Connection as Value}
use Rattle.nvme_connection.specs.declared.judged.Verdict.{Verdict as Judgement}
use Rattle.nvme_connection.specs.declared.judged.Verdict.TheVariants as judgements
use Rattle.nvme_connection.specs.declared.taken.Taken.{Taken as Bytes}
use Rattle.nvme_connection.specs.Connections.{Connection, Outcome, Completes, Breaks}
use Rattle.nvme_connection.specs.Holding.{Takes}
use Rattle.nvme_tcp_library.specs.declared.connections.Taken.{Taken}
use Rattle.nvme_tcp_library.specs.declared.connections.Verdict.{Verdict}
use Rattle.nvme_tcp_library.specs.declared.pdus.LayoutSeen.{LayoutSeen}
use Rattle.nvme_tcp_library.specs.Pdus.{laid_out, layout_without}

abbrev pub no_fault : Fatal
no_fault = record { status = 0; field = 0 }

-- what was taken, with `what` and the fault of a breach
abbrev pub taken_with : Bytes → ℕ → Fatal → Taken
taken_with t what fatal = record {
  count = t.count;
  data_begin = t.data_begin;
  data_end = t.data_end;
  data_offset = t.data_offset;
  what = what;
  field = fatal.field;
  status = fatal.status;
}

abbrev pub taken_by : Bytes → Option Fatal → Taken
taken_by t None = taken_with t 0 no_fault
taken_by t (Some fatal) = taken_with t 40 fatal

abbrev pub taken_seen : Bytes → Taken
taken_seen t = taken_by t t.breach

-- what a call of `take` does, as C sees it
pub record TakesSeen (c : Connection) (bytes : List ℕ) (t : Taken) (v : Value) : Type 0 where
  pub taken : Bytes
  pub seen : t ≡ taken_seen taken
  pub takes : Takes c bytes taken v

-- a verdict: a layout, or the fault, or neither
abbrev pub complete : PduLayout → Bool → Verdict
complete l is_sound = record { layout = laid_out l; is_sound = is_sound }

abbrev pub broken : Fatal → Verdict
broken fatal = record { layout = layout_without 40 fatal; is_sound = false }

abbrev pub no_verdict : Verdict
no_verdict = record { layout = layout_without 41 no_fault; is_sound = false }

abbrev pub verdict_seen : Option Judgement → Verdict
verdict_seen None = no_verdict
verdict_seen (Some (judgements.Completes l is_sound)) = complete l is_sound
verdict_seen (Some (judgements.Breaks fatal)) = broken fatal

abbrev pub verdict_in : Option Outcome → Verdict
verdict_in None = no_verdict
verdict_in (Some (Completes pdu)) = complete pdu.layout pdu.is_sound
verdict_in (Some (Breaks fatal repeated)) = broken fatal

abbrev pub layout_if : Option PduLayout → LayoutSeen
layout_if None = layout_without 41 no_fault
layout_if (Some l) = laid_out l
