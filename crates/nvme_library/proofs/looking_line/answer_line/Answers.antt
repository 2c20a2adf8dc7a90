use Rattle.std.proofs.Common.{◌≡◌, ◌∙◌, ap, rules, true}
use Rattle.live_text.proofs.Marks.{asked-look}
use Rattle.live_text.specs.Asking.{is_mark}
use Rattle.live_text.specs.Looking.{is_looking}
use Rattle.nvme_library.proofs.looking_line.answer_line.Goals as goal

pub answer_asked-requires : goal.answer_asked-requires
answer_asked-requires c =
    let looks : is_looking c.args.line.now ≡ true = search rules in
    ap is_mark c.asked_of-asked.ensures ∙ asked-look c.args.line.now looks
