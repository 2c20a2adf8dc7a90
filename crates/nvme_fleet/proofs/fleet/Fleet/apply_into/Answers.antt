use Rattle.nvme_fleet.proofs.Words.{
  take,
  sym,
  subst,
  seen_with,
  Reply,
  Step,
  FleetState,
  fleet_in,
  fleet_of,
  layers_of,
  reply_in,
  MakesCalls,
  OverMedium,
  Happens,
  HappensCalling,
  state-is,
}
use Rattle.nvme_fleet.proofs.fleet.Fleet.apply_into.Goals as goal

pub returns : goal.returns
unfolding fleet_in
returns g c = record {
  step =
      let v = state-is c.self.view_is in
      let n = c.data_len-self-inside.ensures c.apply_bare-seen.new.marks in
      subst (λ m. Step g.M.Medium.tells (fleet_of c.args.self.now.state) c.args.event (let p : Reply = record {
        seen = (seen_with c.apply_bare-seen.new.marks c.apply_bare-seen.result);
        bytes = take m c.self.inside.buffer.items;
      } in p) (fleet_of (record {
        subsystem = c.self.inside.subsystem.state;
        drivers = c.self.inside.drivers.items;
        buffer = c.self.inside.buffer.items;
        filled = c.self.inside.filled;
      }))) (sym n)
      (subst (λ (s : FleetState). Step g.M.Medium.tells (fleet_of c.args.self.now.state) c.args.event
      (reply_in (seen_with c.apply_bare-seen.new.marks c.apply_bare-seen.result) s.buffer) (fleet_of s))
      (sym v) c.apply_bare-seen.ensures.step);
  below = subst (λ (s : FleetState). Happens g.M.Medium.tells (layers_of c.args.self.now.state) c.args.event
      (seen_with c.apply_bare-seen.new.marks c.apply_bare-seen.result) (layers_of s))
      (sym (state-is c.self.view_is)) c.apply_bare-seen.ensures.below;
  calls = subst (λ (s : OverMedium FleetState g.row.M.Denot).
      MakesCalls g.M.Medium.step (HappensCalling g.M.Medium.tells (layers_of c.args.self.now.state) c.args.event
      (seen_with c.apply_bare-seen.new.marks c.apply_bare-seen.result) (layers_of s.state))
      c.args.self.now.medium s.medium)
      (sym c.self.view_is) c.apply_bare-seen.ensures.calls;
  marks = c.apply_bare-seen.ensures.marks;
}
