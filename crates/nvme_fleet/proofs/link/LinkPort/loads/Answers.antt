use Rattle.nvme_fleet.proofs.Words.{◌∙◌, ◌+◌, ap, sym, length, linked_controller}
use Rattle.std.specs.Prelude.{slice_range}
use Rattle.nvme_fleet.proofs.LinkCalls.{loaded-over}
use Rattle.nvme_fleet.proofs.link.LinkPort.loads.Goals as goal

pub returns-clause-step : goal.returns-clause-step
returns-clause-step g c =
    loaded-over g.M.Medium.step g.M.Medium.tells c.args.self.now c.args.addr c.copy_from_slice.new.self
    c.window.ensures.there
    (c.copy_from_slice.ensures.after ∙ c.bytes.ensures.bytes
    ∙ ap (λ w. slice_range w c.args.addr (c.args.addr + length c.args.part.now)) c.window.ensures.bytes
    ∙ ap (λ n. slice_range (linked_controller c.args.self.now.state).window c.args.addr (c.args.addr + n))
    (sym c.copy_from_slice.ensures.len))
