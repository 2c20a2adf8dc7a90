use Rattle.std.proofs.Common.{◌+◌, ◌≤◌, ◌∙◌, refl, sym, ap, arith}
use Rattle.std.proofs.lemmas.Result.{err_from_is_err_and}
use Rattle.nvme_spec.specs.declared.verdict.Plan.{Plan}
use Rattle.nvme_spec.specs.DataRules.{data_fault, data_addresses}
use Rattle.nvme_spec.proofs.Worlds.{of_named}
use Rattle.nvme_exec.proofs.Verdicts.{denied, planned-by, pointer-denied, plan-bytes, type-known}
use Rattle.nvme_exec.proofs.admission.admit.Goals as goal

pub returns-in-Err-clause-denied : goal.returns-in-Err-clause-denied
returns-in-Err-clause-denied c =
    denied c.args.spaces.now c.args.cntlid c.args.sqe.now c.args.marked c.args.window.now c.in-Err.denial.rule
    c.in-Err.denial.status c.in-Err.ensures.denied

pub locate-requires : goal.locate-requires
locate-requires c =
    let p = planned-by c.args.spaces.now c.args.cntlid c.args.sqe.now c.args.marked c.in-Ok.admitted.plan
    c.in-Ok.ensures.allowed in
    let few = plan-bytes c.args.spaces.now c.args.cntlid c.args.sqe.now c.args.marked c.in-Ok.admitted.plan
    c.in-Ok.ensures.allowed in
    let bytes = ap (λ (q : Plan). q.bytes) p.plan_is in
    record { few = omega (arith, few, bytes) }

pub returns-in_err-locate-clause-denied : goal.returns-in_err-locate-clause-denied
returns-in_err-locate-clause-denied c =
    let p = err_from_is_err_and c.from_residual.result c.from_residual.ensures.1 in
    rw (p.1, p.2) (pointer-denied c.args.spaces.now c.args.cntlid c.args.sqe.now c.args.marked c.args.window.now
    c.in-Ok.admitted.plan c.in_err-locate.field-0.0
    c.in-Ok.ensures.allowed c.in_err-locate.ensures.denied)

pub overflow_add-result : goal.overflow_add-result
overflow_add-result c =
    let inside = of_named (λ n. n.first + n.blocks ≤ c.args.medium_blocks) c.args.spaces.now _
    c.in-Ok.admitted.namespace.now c.requires.within c.in-Ok.ensures.named in
    record {
      fits = omega (arith, inside, c.first_block.ensures, c.in-Ok.ensures.in_range, c.ranges.medium_blocks.fits);
    }

pub returns-clause-sound : goal.returns-clause-sound
returns-clause-sound c =
    let p = planned-by c.args.spaces.now c.args.cntlid c.args.sqe.now c.args.marked c.in-Ok.admitted.plan
    c.in-Ok.ensures.allowed in
    ap (λ n. data_fault n c.args.window.now c.args.sqe.now) (sym (ap (λ (q : Plan). q.bytes) p.plan_is))
    ∙ c.in_ok-locate.ensures.sound

pub returns-clause-admitted : goal.returns-clause-admitted
returns-clause-admitted c =
    let p = planned-by c.args.spaces.now c.args.cntlid c.args.sqe.now c.args.marked c.in-Ok.admitted.plan
    c.in-Ok.ensures.allowed in
    let bytes = ap (λ (q : Plan). q.bytes) p.plan_is in
    record {
      command = p.named;
      planned = p.plan_is;
      host = sym c.host_of.ensures.host ∙ c.unwrap.ensures;
      known = c.host_of.ensures.few;
      named = rw c.in-Ok.ensures.named refl;
      first = rw c.in-Ok.ensures.named (ap (λ n. n + c.in-Ok.admitted.plan.first) c.first_block.ensures);
      blocks = omega arith;
      placed = c.in_ok-locate.ensures.placed ∙ ap (λ n. data_addresses n c.args.window.now c.args.sqe.now) bytes;
      bytes = c.in_ok-locate.ensures.size ∙ bytes;
      few = plan-bytes c.args.spaces.now c.args.cntlid c.args.sqe.now c.args.marked c.in-Ok.admitted.plan
          c.in-Ok.ensures.allowed;
      typed = type-known c.args.spaces.now c.args.cntlid c.args.sqe.now c.args.marked c.in-Ok.admitted.plan
          c.in-Ok.ensures.allowed;
    }

pub returns-clause-within : goal.returns-clause-within
returns-clause-within c =
    let inside = of_named (λ n. n.first + n.blocks ≤ c.args.medium_blocks) c.args.spaces.now _
    c.in-Ok.admitted.namespace.now c.requires.within c.in-Ok.ensures.named in
    omega (arith, inside, c.first_block.ensures, c.in-Ok.ensures.in_range)
