use Rattle.std.proofs.Common.{◌≡◌, length, false, sym, subst, ◌∙◌, arith}
use Rattle.nvme_notices.specs.Keeping.{is_in_mask, is_masked}
use Rattle.nvme_notices.proofs.Recounting.{added_full}
use Rattle.nvme_notices.proofs.notices.Notices.add.Goals as goal

pub returns-then-self-eq-MOST : goal.returns-then-self-eq-MOST
returns-then-self-eq-MOST c =
    let inside = c.self.inside in
    let masked : is_masked c.args.self.now c.args.nsid c.args.kind ≡ false =
    subst (λ m. is_in_mask m c.args.kind ≡ false) c.mask.ensures (sym c.is_in_mask.ensures ∙ c.if-is_in_mask.false) in
    let long : length inside.places ≡ 64 = omega arith in
    rw (← c.self.view_is)
    (added_full inside.masks inside.places c.recount.new.places inside.count c.count_after-count.result c.args.nsid
    inside.length c.args.kind (subst (λ n. is_masked n c.args.nsid c.args.kind ≡ false) (sym c.self.view_is) masked)
    c.if-self-eq-MOST.true long c.recount.ensures c.count_after-count.ensures)
