use Rattle.std.proofs.Common.{inl}
use Rattle.live_views.proofs.Named.{shown-of}
use Rattle.live_views.specs.Shown.{shown_by}
use Rattle.nvme_library.proofs.LookingLines.{shows-other}
use Rattle.nvme_library.proofs.looking_line.answer_look.Goals as goal

pub returns-in_default : goal.returns-in_default
returns-in_default c =
    let n = c.args.number in
    let looking = c.args.looking in
    let s = c.args.subsystem.now in
    let text = shown_by c.shown_in.result in
    inl (
      text,
      shows-other n looking s text c.in_default.not-Blocks
          (shown-of n looking s.state text _ _ c.shown_in.ensures c.named-controller.ensures c.spaces.ensures),
      c.answer_with.ensures,
    )
