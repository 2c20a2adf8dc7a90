use Rattle.std.proofs.Common.{sym, ap, ◌∙◌}
use Rattle.std.specs.Prelude.{option_copied}
use Rattle.nvme_ns.proofs.Attaching.{has_its_nsid}
use Rattle.nvme_ns.proofs.spaces.Spaces.is_shared.Goals as goal

pub returns-clause-known : goal.returns-clause-known
returns-clause-known c =
    let named = has_its_nsid c.args.self.now c.args.nsid c.unwrap.result.now
    (sym c.namespace.ensures ∙ ap option_copied c.unwrap.ensures) in
    rw named at c.is_shared.ensures.known
