use Rattle.std.proofs.Common.{sym, subst, refl, Option, Some}
use Rattle.nvme_machine.specs.Subsystems.{controller_at}
use Rattle.nvme_library.specs.Holding.{Inside}
use Rattle.nvme_library.specs.Placing.{AlwaysTakes, PlacesTo}
use Rattle.nvme_library.specs.Whole.{AreWhole}
use Rattle.nvme_library.proofs.Taking.{placed_is_taken, places_whole}
use Rattle.nvme_library.proofs.placing.nvmesim_place.Goals as goal

pub of-requires : goal.of-requires
of-requires c =
    let before = subst (λ (s : Inside). AreWhole s.state) (sym c.deref_mut.ensures.value) c.in-Some.ensures.whole in
    let x = c.place_in-placed in
    places_whole _ c.args.cntlid c.args.qid c.args.entry.now c.args.data_at c.args.bytes.now c.deref_mut.result.now
    x.new.subsystem x.result x.ensures before

pub returns-clause-takes : goal.returns-clause-takes
returns-clause-takes c =
    let x = c.place_in-placed in
    let k = c.args.cntlid in
    let q = c.args.qid in
    let entry = c.args.entry.now in
    let at = c.args.data_at in
    let bytes = c.args.bytes.now in
    let old = c.in-Some.subsystem.value in
    let places = subst (λ (s : Inside). PlacesTo (controller_at s.state k) k q entry at bytes s x.result
    x.new.subsystem) c.deref_mut.ensures.value x.ensures in
    subst (λ (held : Option Inside). AlwaysTakes k q entry at bytes held x.result c.of.result.slot.value)
    (sym c.in-Some.ensures.some)
    (subst (λ (held : Option Inside). AlwaysTakes k q entry at bytes (Some old) x.result held)
    (sym c.of.ensures.open) (placed_is_taken _ k q entry at bytes old x.new.subsystem x.result
    c.in-Some.ensures.whole refl c.told-entry places))
