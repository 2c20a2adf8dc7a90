use Rattle.std.proofs.Common.{◌≡◌, ◌*◌, ℕ, ◌&&◌, Bool, length, nat_lt, arith, ap, sym, ◌∙◌}
use Rattle.nvme_spec.specs.World.{is_attached}
use Rattle.nvme_spec.specs.Bytes.{with_bytes}
use Rattle.nvme_admin.proofs.Structures.{spelled, list-room, listed-more, listed-same, listed-all, length-zeros}
use Rattle.nvme_admin.proofs.identify.fill_list.Goals.{then-is_listed, else-is_listed}
use Rattle.nvme_admin.proofs.identify.fill_list.Goals as goal

pub put_u32-requires : goal.put_u32-requires
put_u32-requires c =
    record {
      inside = list-room _ c.loop-n.n c.loop-n.at (length c.loop-n.structure) c.loop-n.invariant.at c.loop-n-test.true
          (c.loop-n.auto.structure ∙ length-zeros c.args.structure.now c.requires.zeros);
    }

pub loop-n-preserved : goal.loop-n-preserved
loop-n-preserved c =
    let p : ℕ → Bool = λ n. nat_lt c.args.nsid n && is_attached c.args.spaces.now c.args.cntlid n in
    let old = c.args.structure.now in
    elim c.if-is_listed.branch [
      | then-is_listed w ↦
          let both = listed-more old c.loop-n.structure w.put_u32.new.structure p c.loop-n.n c.loop-n.at c.loop-n.auto.n
          c.loop-n-test.true (length-zeros old c.requires.zeros)
          (sym c.is_listed.ensures ∙ w.if-is_listed.true) c.loop-n.invariant.so_far c.loop-n.invariant.at
          w.put_u32.ensures in
          record { so_far = w.structure-is ∙ both.0; at = w.at-is ∙ both.1 }
      | else-is_listed w ↦
          let same = listed-same p c.loop-n.n c.loop-n.auto.n (sym c.is_listed.ensures ∙ w.if-is_listed.false) in
          record {
            so_far = w.structure-is ∙ c.loop-n.invariant.so_far ∙ ap (λ xs. with_bytes old 0 (spelled xs)) (sym same);
            at = w.at-is ∙ c.loop-n.invariant.at ∙ ap (λ xs. 4 * length xs) (sym same);
          }
    ]

pub returns-clause-filled : goal.returns-clause-filled
returns-clause-filled c =
    let last : c.loop-n.n ≡ 9 = omega (arith, c.loop-n-test.false, c.loop-n.auto.n-end) in
    listed-all c.args.structure.now c.loop-n.structure _ c.loop-n.n c.requires.zeros last c.loop-n.invariant.so_far
