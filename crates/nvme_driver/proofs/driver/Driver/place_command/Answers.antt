use Rattle.std.proofs.Common.{rules, refl, arith, length, sym, subst, ◌≤◌, ◌+◌, ◌*◌}
use Rattle.nvme_spec.specs.Limits.{most_bytes}
use Rattle.nvme_driver.specs.HostCommands.{asked_by_host}
use Rattle.nvme_driver.proofs.Placing.{holds-command}
use Rattle.nvme_driver.proofs.Unaborted.{stays_unaborted}
use Rattle.nvme_driver.proofs.driver.Driver.place_command.Goals as goal

pub returns-clause-holds : goal.returns-clause-holds
returns-clause-holds g c = (
  c.in_ok-slot.slot,
  search rules,
  holds-command c.args.self.now _ _ _ _ _ _ _ (asked_by_host c.args.command.now) c.in_ok-slot.slot _ _
      (c.submission_queue.result + 64 * c.from.result) c.store.ensures.whole (search rules)
      (subst (λ xs. length xs ≤ most_bytes) (sym c.sent_bytes.ensures.bytes)
      (omega (arith, c.sent_bytes.ensures.few, c.in_ok-slot.ensures.short)))
      c.in_ok-slot.ensures.short c.data_area.ensures c.sent_bytes.ensures.bytes refl
      (search rules) (search rules) (search rules) c.store.ensures.bytes c.store_page_list.ensures.bytes
      c.store-2.ensures.bytes c.entry_in.ensures.says,
)

pub invariant_of-self : goal.invariant_of-self
invariant_of-self g c none_ =
    stays_unaborted c.self.inside.slots c.in_ok-slot.slot _ refl (c.self.invariant none_)
