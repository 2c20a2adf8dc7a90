-- A port that records its calls, for a program that performs them on a device.
use Rattle.std.specs.Prelude.{
  ◌≡◌,
  ℕ,
  ◌+◌,
  length,
  List,
  [],
  ◌∷◌,
  ◌++◌,
  drop,
  slice_get,
  slice_range,
  nat_lt,
  ◌==◌,
  Bool,
  not,
  if◌then◌else◌,
  Option,
  None,
  Some,
}
use Rattle.nvme_spec.specs.Bytes.{with_bytes}
use Rattle.nvme_driver.specs.Calls.{Call, Stores, Writes, Reads, Turns, Sees, Loads}
use Rattle.nvme_driver.specs.Polls.{seen_in}
use Rattle.nvme_driver.specs.declared.lane.Lane.TheVariants.{Admin}
use Rattle.nvme_host.specs.Doorbells.{initial_doorbells, after_write, repeats_tail, register_at, next_place}
use Rattle.nvme_host.specs.declared.recording_port.Action.{Action}
use Rattle.nvme_host.specs.declared.recording_port.Need.{Need}
use Rattle.nvme_host.specs.declared.recording_port.Need.TheVariants.{Nothing, Status, Completion}
use Rattle.nvme_host.specs.declared.recording_port.RecordingPort.{RecordingPort}
use Rattle.nvme_host.specs.declared.recording_port.Report.{Report}

-- the most actions between two calls of `nvmehost_actions`: a bring-up has 17
abbrev pub most_actions : ℕ
most_actions = 32

-- the most reports of a bring-up: a status and eight completions
abbrev pub most_reports : ℕ
most_reports = 9

-- actions are pending
abbrev pub is_pending : List Action → Bool
is_pending actions = not (length actions == 0)

-- bytes to store, which are in the window at that address, and a register to write
abbrev pub storing : ℕ → List ℕ → Action
storing at part = record { at = at; len = length part; value = 0; kind = 1 }

abbrev pub writing : ℕ → ℕ → Action
writing offset v = record { at = offset; len = 0; value = v; kind = 2 }

-- one more action is recorded, if there is room
abbrev pub recorded : List Action → Action → List Action
recorded actions action = if nat_lt (length actions) most_actions then actions ++ action ∷ [] else actions

-- a register write is recorded, unless it leaves a tail doorbell as it is
abbrev pub written : RecordingPort → ℕ → ℕ → List Action
written port offset v =
    if repeats_tail port.doorbells offset v then port.actions.items
    else recorded port.actions.items (writing (register_at port.stride offset) v)

-- the port with other actions, with other reports, and with one more report, if there is room
abbrev pub with_actions : RecordingPort → List Action → RecordingPort
with_actions p found = record p { actions = record { items = found } }

abbrev pub with_reports : RecordingPort → List Report → RecordingPort
with_reports p found = record p { reports = record { items = found } }

abbrev pub more_reports : List Report → Report → List Report
more_reports reports report =
    if nat_lt (length reports) most_reports then reports ++ report ∷ [] else reports

abbrev pub with_report : RecordingPort → Report → RecordingPort
with_report p report = with_reports p (more_reports p.reports.items report)

-- A bring-up reads its next report, if there is one. Otherwise it needs what it looked for, unless it needs something
-- already.
abbrev pub next_report : RecordingPort → Option Report
next_report p = slice_get p.reports.items p.reports_read

abbrev pub first_need : Need → Need → Need
first_need Nothing later = later
first_need Status later = Status
first_need Completion later = Completion

abbrev pub read_after : Option Report → ℕ → ℕ
read_after None count = count
read_after (Some report) count = count + 1

abbrev pub need_after : Option Report → Need → Need → Need
need_after None before looked = first_need before looked
need_after (Some report) before looked = before

abbrev pub after_look : Option Report → Need → RecordingPort → RecordingPort
after_look report looked p =
    record p { reports_read = read_after report p.reports_read; need = need_after report p.need looked }

abbrev pub status_in : Option Report → ℕ
status_in None = 0
status_in (Some report) = report.status

-- a reported completion comes into the window, as the next one of the admin queue
abbrev pub window_after : Option Report → RecordingPort → List ℕ
window_after None p = p.window
window_after (Some report) p = with_bytes p.window (next_place Admin p.doorbells) report.entry

-- the port after each call
abbrev pub after_store : RecordingPort → ℕ → List ℕ → RecordingPort
after_store p at part =
    record (with_actions p (recorded p.actions.items (storing at part))) { window = with_bytes p.window at part }

abbrev pub after_register : RecordingPort → ℕ → ℕ → RecordingPort
after_register p offset v =
    record (with_actions p (written p offset v)) { doorbells = after_write p.doorbells offset v }

abbrev pub after_turn : Option Report → RecordingPort → RecordingPort
after_turn report p = record (after_look report Completion p) { window = window_after report p }

-- two ports are equal, field by field
pub record IsSamePort (old new : RecordingPort) : Type 0 where
  pub window : new.window ≡ old.window
  pub actions : new.actions.items ≡ old.actions.items
  pub doorbells : new.doorbells ≡ old.doorbells
  pub stride : new.stride ≡ old.stride
  pub reports : new.reports.items ≡ old.reports.items
  pub reports_read : new.reports_read ≡ old.reports_read
  pub need : new.need ≡ old.need
  pub handed_out : new.handed_out ≡ old.handed_out

-- The effect of a call on the port. A turn may bring bytes of the device into the window. Looks and loads return what
-- is in the window, and leave it.
abbrev pub Records : RecordingPort → Call → RecordingPort → Type 0
Records old (Stores at part) new = IsSamePort (after_store old at part) new
Records old (Writes offset v) new = IsSamePort (after_register old offset v) new
Records old (Reads offset v) new =
    (v ≡ status_in (next_report old)) × IsSamePort (after_look (next_report old) Status old) new
Records old Turns new = IsSamePort (after_turn (next_report old) old) new
Records old (Sees lane head expected seen) new = (seen ≡ seen_in lane head expected old.window) × (new ≡ old)
Records old (Loads at part) new = (part ≡ slice_range old.window at (at + length part)) × (new ≡ old)

-- the port of a new driver, whose doorbells are 4 bytes apart until Controller Capabilities are judged
abbrev pub new_port : List ℕ → RecordingPort
new_port bytes = record {
  window = bytes;
  actions = record { items = [] };
  doorbells = initial_doorbells;
  stride = 4;
  reports = record { items = [] };
  reports_read = 0;
  need = Nothing;
  handed_out = 0;
}

-- a bring-up begins again, leaves out the first actions, which its earlier steps handed out, or ends
abbrev pub rewound : RecordingPort → RecordingPort
rewound p = record (with_actions p []) { reports_read = 0; need = Nothing }

abbrev pub left_out : RecordingPort → ℕ → RecordingPort
left_out p count =
    record (with_actions p (drop count p.actions.items)) { handed_out = length p.actions.items }

abbrev pub without_reports : RecordingPort → RecordingPort
without_reports p = record (with_reports p []) { handed_out = 0 }
