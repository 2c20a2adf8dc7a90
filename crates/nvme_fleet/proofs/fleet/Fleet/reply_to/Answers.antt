use Rattle.nvme_fleet.proofs.Words.{◌≡◌, ◌≤◌, ◌∙◌, length, sym, ap, subst, arith, most_bytes, fleet_of, layers_of}
use Rattle.nvme_fleet.specs.FleetStates.{data_in}
use Rattle.nvme_mailbox.specs.Fleets as mailboxes
use Rattle.nvme_fleet.proofs.FleetRuns.{copied, fits-room}
use Rattle.nvme_fleet.proofs.LayerCalls.{replied}
use Rattle.nvme_fleet.proofs.fleet.Fleet.reply_to.Goals as goal

pub returns : goal.returns
returns g c =
    let old = fleet_of c.args.self.now.state in
    let new = fleet_of c.apply-seen.new.self.state in
    let given = data_in c.apply-seen.new.self.state in
    let step = c.apply-seen.ensures.step in
    let few : length given ≤ most_bytes =
    subst (λ xs. length xs ≤ most_bytes) c.data.ensures.value c.data.ensures.few in
    let room =
    fits-room g.M.Medium.tells old c.args.event (record { seen = c.apply-seen.result; bytes = given }) new step few in
    let none : length c.args.bytes.items ≡ 0 = ap length c.requires.empty in
    let ok = c.extend_from_slice-fits.ensures.succeeds
    (omega (arith, c.args.bytes.ok.0, none, ap length c.data.ensures.value, room, c.requires.room)) in
    let whole = copied c.extend_from_slice-fits.result c.args.bytes.items c.extend_from_slice-fits.new.self.items
    c.data.result.now c.extend_from_slice-fits.ensures.items ok c.requires.empty in
    record {
      step = record {
        mailboxes = subst (λ xs. mailboxes.Step g.M.Medium.tells old c.args.event
            (record { seen = c.apply-seen.result; bytes = xs }) new) (sym (whole ∙ c.data.ensures.value)) step;
        below = c.apply-seen.ensures.below;
      };
      calls = replied g.M.Medium.step g.M.Medium.tells (layers_of c.args.self.now.state)
          (layers_of c.apply-seen.new.self.state) c.args.event c.apply-seen.result _ c.args.self.now.medium
          c.apply-seen.new.self.medium
          (subst (λ xs. mailboxes.Step g.M.Medium.tells old c.args.event
          (record { seen = c.apply-seen.result; bytes = xs }) new) (sym (whole ∙ c.data.ensures.value)) step)
          c.apply-seen.ensures.calls;
      bytes = whole ∙ c.data.ensures.value;
    }
