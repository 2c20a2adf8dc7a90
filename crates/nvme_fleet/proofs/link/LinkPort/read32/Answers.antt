use Rattle.nvme_fleet.proofs.Words.{◌≡◌, ◌-◌, ℕ, ap, seen_of, has_read, Read32}
use Rattle.nvme_machine.specs.declared.bare.BareSeen.{BareSeen}
use Rattle.nvme_machine.specs.declared.bare.BareSeen.TheVariants as bare
use Rattle.nvme_machine.specs.declared.seen.Seen.TheVariants as given
use Rattle.nvme_fleet.proofs.EventEffects.{place-below, place-is}
use Rattle.nvme_fleet.proofs.Links.{there-after}
use Rattle.nvme_fleet.proofs.LinkCalls.{reacted-as}
use Rattle.nvme_fleet.proofs.link.LinkPort.read32.Goals as goal

-- a register's value is returned as one
read-bare : (v : ℕ) (seen : BareSeen) → seen_of seen ≡ given.Value v → seen ≡ bare.Value v
read-bare v (bare.Value w) e = let same : w ≡ v = cc in ap bare.Value same
read-bare v other e = absurd (cc)

pub invariant_of-self : goal.invariant_of-self
invariant_of-self g c = there-after g.M.Medium.tells _ _ (Read32 c.self.inside.cntlid c.args.offset)
    (seen_of c.react.result) c.self.inside.cntlid c.react.ensures.step c.self.invariant

pub unreachable-requires : goal.unreachable-requires
unreachable-requires g c =
    let s = c.self.inside.subsystem.now.state in
    let k = c.self.inside.cntlid in
    let there = c.self.invariant in
    let r = reacted-as s c.react.new.self.state k (k - 1) (has_read c.args.offset) (seen_of c.react.result)
    (place-is k there.0) (place-below s k there) c.react.ensures.step in
    c.in_default.not-Value _ (read-bare _ c.react.result r.gives)
