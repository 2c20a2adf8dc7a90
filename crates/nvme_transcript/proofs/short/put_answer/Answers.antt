use Rattle.std.proofs.Common.{rules, sym, ◌∙◌}
use Rattle.nvme_transcript.proofs.ShortLemmas.{answer_front, without_data}
use Rattle.nvme_transcript.proofs.short.put_answer.Goals as goal

pub returns-then-is_empty-clause-bytes : goal.returns-then-is_empty-clause-bytes
returns-then-is_empty-clause-bytes c =
    let done = c.in-Done-default-default-eq0-default in
    sym (without_data c.push_str-2.new.self.bytes c.args.bytes.now (search rules))
    ∙ answer_front c.args.text.now.bytes c.put_u64.new.text.bytes c.push_str.new.self.bytes c.put_status.new.text.bytes
    c.push_str-2.new.self.bytes
    c.args.answer.now done.ticket done.status done.dw0 done.len c.args.bytes.now (search rules) (search rules)
    c.put_u64.ensures.bytes c.push_str.ensures.bytes (search rules) c.push_str-2.ensures.bytes

pub returns-else-is_empty-clause-bytes : goal.returns-else-is_empty-clause-bytes
returns-else-is_empty-clause-bytes c =
    let done = c.in-Done-default-default-eq0-default in
    answer_front c.args.text.now.bytes c.put_u64.new.text.bytes c.push_str.new.self.bytes c.put_status.new.text.bytes
    c.push_str-2.new.self.bytes
    c.args.answer.now done.ticket done.status done.dw0 done.len c.args.bytes.now (search rules) (search rules)
    c.put_u64.ensures.bytes c.push_str.ensures.bytes (search rules) c.push_str-2.ensures.bytes
