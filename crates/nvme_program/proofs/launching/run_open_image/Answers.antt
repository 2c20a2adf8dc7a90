use Rattle.std.proofs.Common.{inr}
use Rattle.nvme_program.proofs.launching.run_open_image.Goals as goal

pub returns-in-Ok-clause-ends : goal.returns-in-Ok-clause-ends
returns-in-Ok-clause-ends g c = inr (record {
  cached = c.in-Ok.cached;
  left = c.run_named-medium.result.medium;
  mid = c.run_named-medium.new.system;
  inner = c.in-Ok.ensures.inner;
  empty = c.in-Ok.ensures.empty;
  capacity = c.in-Ok.ensures.capacity;
  ends = c.run_named-medium.ensures.ends;
  closes = rw c.into_inner.ensures.inner at c.close_image.ensures.step;
})
