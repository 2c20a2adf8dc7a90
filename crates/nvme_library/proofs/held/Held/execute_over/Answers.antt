use Rattle.std.proofs.Common.{rules}
use Rattle.nvme_library.proofs.held.Held.execute_over.Goals as goal

pub returns-clause-executed : goal.returns-clause-executed
returns-clause-executed c = record {
  earlier = c.in_ok-change_medium.field-0;
  before = c.change_medium.new.self;
  after = c.execute-seen.new.self;
  old_is = search rules;
  brings = search rules;
  before_is = search rules;
  executes = c.execute-seen.ensures;
  after_is = search rules;
  gives = search rules;
  new_is = search rules;
}
