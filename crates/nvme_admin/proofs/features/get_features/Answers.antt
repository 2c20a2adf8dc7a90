-- The feature Host Identifier: its data are the 16 bytes of the host.
use Rattle.std.proofs.Common.{◌≡◌, ℕ, List, ap, sym, ◌∙◌, refl}
use Rattle.std.specs.Prelude.{unwrap_or}
use Rattle.std.specs.Int.{w128, to_le_bytes}
use Rattle.nvme_spec.specs.declared.command.AdminCommand.TheVariants.{GetFeatures}
use Rattle.nvme_spec.specs.World.{World, host_of}
use Rattle.nvme_spec.specs.AdminCommands.{fid, host_identifier}
use Rattle.nvme_spec.specs.AdminEffects.{data_out}
use Rattle.nvme_spec.specs.Transfers.{addresses, with_scattered}
use Rattle.nvme_admin.proofs.features.get_features.Goals as goal

-- the data of the feature Host Identifier
host-data : (w : World) (cntlid : ℕ) (e : List ℕ) → fid e ≡ host_identifier
    → data_out w cntlid GetFeatures e ≡ to_le_bytes w128 (unwrap_or (host_of w cntlid) 0)
unfolding data_out
host-data w cntlid e is = rw is refl

pub returns-in-129-clause-stored : goal.returns-in-129-clause-stored
returns-in-129-clause-stored c =
    let spelled : c.to_le_bytes.result ≡ to_le_bytes w128 (unwrap_or (host_of c.args.spaces.now c.args.cntlid) 0) =
    c.to_le_bytes.ensures
    ∙ ap (to_le_bytes w128) (c.unwrap_or-host.ensures ∙ ap (λ o. unwrap_or o 0) c.host_of.ensures.host) in
    c.scatter.ensures.window
    ∙ ap (with_scattered c.args.window.now (addresses c.args.pieces.now.parts.items))
    (spelled ∙ sym (host-data c.args.spaces.now c.args.cntlid c.args.sqe.now (sym c.fid.ensures ∙ c.in-129.is)))
