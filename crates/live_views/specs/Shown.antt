-- The text of an answer to a query.
use Rattle.std.specs.Prelude.{ℕ, List, ◌++◌, codes}
use Rattle.live_text.specs.Faults.{refusal}
use Rattle.live_text.specs.Forms.{form_text}
use Rattle.live_views.specs.declared.shown.Shown.{Shown}
use Rattle.live_views.specs.declared.shown.Shown.TheVariants as shown
use Rattle.live_views.specs.Showing.{
  attached_text,
  blocks_text,
  driver_text,
  fetched_text,
  help_text,
  namespaces_text,
  queues_text,
  register_text,
  registers_text,
  reservation_text,
  window_text,
}

abbrev pub shown_by : Shown → List ℕ
shown_by (shown.Nothing r) = refusal r.number r.why
shown_by shown.Help = help_text
shown_by (shown.HelpOn form) = codes "help " ++ form_text form
shown_by (shown.Window t) = window_text t.cntlid t.address t.bytes.now
shown_by (shown.Register t) = register_text t.cntlid t.offset t.value
shown_by (shown.Registers t) = registers_text t.cntlid t.controller.now.registers
shown_by (shown.Queues t) = queues_text t.cntlid t.controller.now
shown_by (shown.Fetched t) = fetched_text t.cntlid t.commands.now
shown_by (shown.Driver t) = driver_text t.cntlid t.driver.now
shown_by (shown.Namespaces t) = namespaces_text t.0.now
shown_by (shown.Attached t) = attached_text t.0.now
shown_by (shown.Reservation t) = reservation_text t.nsid t.reservation.now t.protected
shown_by (shown.Blocks t) = blocks_text t.nsid t.slba t.count t.bytes.now
