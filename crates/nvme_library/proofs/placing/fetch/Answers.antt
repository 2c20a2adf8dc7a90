use Rattle.nvme_library.proofs.placing.fetch.Goals as goal

pub returns : goal.returns
returns c = record {
  stored = c.store_entry.new.subsystem;
  filled = c.store_data.new.subsystem;
  rung = c.ring_tail.new.subsystem;
  stores = c.store_entry.ensures;
  fills = c.store_data.ensures;
  rings = c.ring_tail.ensures;
  fetches = (c.react.ensures.step, c.react.ensures.medium);
}
