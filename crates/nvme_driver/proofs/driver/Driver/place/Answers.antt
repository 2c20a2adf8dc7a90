use Rattle.std.proofs.Common.{rules, refl, ◌+◌, ◌*◌}
use Rattle.nvme_driver.proofs.Placing.{holds}
use Rattle.nvme_driver.proofs.Unaborted.{stays_unaborted}
use Rattle.nvme_driver.proofs.driver.Driver.place.Goals as goal

pub returns-clause-holds : goal.returns-clause-holds
returns-clause-holds g c = (
  c.in_ok-slot.slot,
  search rules,
  holds c.args.self.now _ _ _ _ _ _ _ c.args.request.now c.in_ok-slot.slot _ _
      (c.submission_queue.result + 64 * c.from.result) c.store.ensures.whole (search rules)
      (search rules) (search rules) c.data_area.ensures c.payload.ensures.bytes refl
      (search rules) (search rules) (search rules) c.store.ensures.bytes c.store_page_list.ensures.bytes
      c.store-2.ensures.bytes c.entry.ensures.says,
)

pub invariant_of-self : goal.invariant_of-self
invariant_of-self g c none_ =
    stays_unaborted c.self.inside.slots c.in_ok-slot.slot _ refl (c.self.invariant none_)
