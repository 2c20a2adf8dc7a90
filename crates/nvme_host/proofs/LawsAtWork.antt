-- What the laws on tickets say of the computed runs, and of each ticket.
use Rattle.std.proofs.Common.{◌≡◌, ℕ, ◌+◌, ◌≤◌, [], ◌∷◌, refl, ap, arith}
use Rattle.std.specs.Prelude.{if◌then◌else◌}
use Rattle.std.proofs.lemmas.Bool.{eq-eqb}
use Rattle.nvme_spec.specs.declared.command.Command.TheVariants as command
use Rattle.nvme_driver.specs.Once.{times}
use Rattle.nvme_driver.specs.declared.request.Request.TheVariants.{Flush}
use Rattle.nvme_host.specs.Exports.{zeroing}
use Rattle.nvme_host.specs.Runs.{
  Places,
  Polls,
  TakesActions,
  no_tickets,
  IsAborted,
  DeliversNoneAgain,
}
use Rattle.nvme_host.specs.RunExamples.{idle, flushed, reset, aborted}
use Rattle.nvme_host.proofs.RunExamples.{reset_aborts_a_flush}
use Rattle.nvme_host.proofs.Tickets.{delivers_given_tickets_once, resets_abort}

pub delivers_none_again : DeliversNoneAgain
delivers_none_again uses tickets old new t later is-idle run done =
    let both = delivers_given_tickets_once uses tickets old new t is-idle run in
    let given : times t tickets.done + times t tickets.aborted ≤ times t tickets.given = both.0 in
    let once : times t tickets.given ≤ 1 = both.1 in
    let first : times t tickets.done ≡ times t (t ∷ later) = ap (times t) done in
    let one = ap {B = ℕ} (λ b. if b then 1 else 0) (eq-eqb t t refl) in
    (omega (arith, given, once, first, one), omega (arith, given, once, first, one))

pub the_flush_is_aborted :
    IsAborted 7 (record no_tickets { given = 7 ∷ [] }) (record no_tickets { aborted = 7 ∷ [] }) aborted
the_flush_is_aborted =
    let r = reset_aborts_a_flush in
    resets_abort (Places 1 command.Flush (zeroing 0 0) (Flush 1) ∷ TakesActions ∷ []) (TakesActions ∷ Polls ∷ []) _ _
    idle flushed reset aborted 7 r.0 r.1 r.2 r.3 (omega arith)
