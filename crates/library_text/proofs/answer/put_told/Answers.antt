use Rattle.std.proofs.Common.{◌≡◌, ◌<◌, rules}
use Rattle.std.specs.Prelude.{◌^◌}
use Rattle.nvme_event.specs.Events.{controller_of}
use Rattle.library_text.specs.AnswerLines.{second_of}
use Rattle.library_text.proofs.AnswerLemmas.{controller-short, subject-short, told-short}
use Rattle.library_text.proofs.answer.put_told.Goals as goal

pub put_short-requires : goal.put_short-requires
put_short-requires c =
    let e = c.args.event.now in
    let narrow : controller_of e < 2 ^ 16 = search rules in
    let wide : second_of e < 2 ^ 64 = search rules in
    told-short e c.args.seen.now (controller-short e narrow)
    (subject-short e narrow wide) c.read_posted.ensures c.requires
