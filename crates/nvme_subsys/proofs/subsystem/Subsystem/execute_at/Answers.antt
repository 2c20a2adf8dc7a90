use Rattle.std.proofs.Common.{◌≡◌, ◌+◌, ◌++◌, ◌∙◌, refl, sym, subst, length, take, drop, arith}
use Rattle.std.specs.Prelude.{slice_set}
use Rattle.nvme_machine.specs.declared.seen.Seen.TheVariants.{Executed}
use Rattle.nvme_spec.specs.MediumCalls.{MakesCalls}
use Rattle.nvme_machine.specs.Bare.{executed_with}
use Rattle.nvme_machine.specs.EventCalls.{CallingAt}
use Rattle.nvme_machine.specs.Executing.{setting}
use Rattle.nvme_machine.specs.Subsystems.{Subsystem, controller_at, ExecutesAt}
use Rattle.nvme_subsys.specs.Sound.{IsSound}
use Rattle.nvme_subsys.specs.Marked.{marks_after}
use Rattle.nvme_subsys.proofs.Numbers.{calling, executes, refill-all, found-at}
use Rattle.nvme_subsys.proofs.Sound.{configured-at, named-at, sound-after}
use Rattle.nvme_subsys.proofs.OverMedium.{state-is}
use Rattle.nvme_subsys.proofs.subsystem.Subsystem.execute_at.Goals as goal

pub execute_into-executed-requires : goal.execute_into-executed-requires
execute_into-executed-requires g c =
    let items = c.self.inside.controllers.items in
    let found = found-at _ _ items c.args.self.now.state c.args.index c.index_mut.result.now
    (state-is c.self.view_is) c.requires.there c.index_mut.ensures.value in
    let sound = c.self.invariant in
    record {
      unmarked = c.requires.unmarked;
      ready = record {
        configured = configured-at _ _ items c.args.index c.index_mut.result.now found sound;
        within = sound.within;
        known = sound.known;
      };
    }

pub invariant_of-self : goal.invariant_of-self
invariant_of-self g c =
    let items = c.self.inside.controllers.items in
    let found = found-at _ _ items c.args.self.now.state c.args.index c.index_mut.result.now
    (state-is c.self.view_is) c.requires.there c.index_mut.ensures.value in
    let ms : c.mark_after.new.controllers ≡ marks_after c.execute_into-executed.new.spaces
    (executed_with c.execute_into-executed.new.marks c.execute_into-executed.result)
    (slice_set items c.args.index c.execute_into-executed.new.self) =
    rw c.deref_mut.ensures.value at c.mark_after.ensures in
    let whole : take c.self.inside.controllers.len (c.mark_after.new.controllers
    ++ drop (length c.mark_after.new.controllers) (slice_set items c.args.index c.execute_into-executed.new.self))
    ≡ c.mark_after.new.controllers =
    refill-all c.self.inside.controllers.len _ c.mark_after.new.controllers
    (omega (arith, c.deref_mut.ensures.len, c.mark_after.auto.controllers)) in
    let ready = c.execute_into-executed.ensures.ready in
    subst
    (λ cs. IsSound c.execute_into-executed.new.spaces (g.M.Medium.size c.execute_into-executed.new.medium) cs)
    (sym (whole ∙ ms))
    (sound-after c.self.inside.spaces c.execute_into-executed.new.spaces
    (g.M.Medium.size c.self.inside.medium) (g.M.Medium.size c.execute_into-executed.new.medium)
    items c.args.index c.index_mut.result.now c.execute_into-executed.new.self
    (executed_with c.execute_into-executed.new.marks c.execute_into-executed.result)
    found c.execute_into-executed.ensures.cntlid c.execute_into-executed.ensures.controllers ready.within
    ready.known c.self.invariant)

pub returns-clause-executes : goal.returns-clause-executes
returns-clause-executes g c =
    let items = c.self.inside.controllers.items in
    let found = found-at _ _ items c.args.self.now.state c.args.index c.index_mut.result.now
    (state-is c.self.view_is) c.requires.there c.index_mut.ensures.value in
    let ms : c.mark_after.new.controllers ≡ marks_after c.execute_into-executed.new.spaces
    (executed_with c.execute_into-executed.new.marks c.execute_into-executed.result)
    (slice_set items c.args.index c.execute_into-executed.new.self) =
    rw c.deref_mut.ensures.value at c.mark_after.ensures in
    let whole : take c.self.inside.controllers.len (c.mark_after.new.controllers
    ++ drop (length c.mark_after.new.controllers) (slice_set items c.args.index c.execute_into-executed.new.self))
    ≡ c.mark_after.new.controllers =
    refill-all c.self.inside.controllers.len _ c.mark_after.new.controllers
    (omega (arith, c.deref_mut.ensures.len, c.mark_after.auto.controllers)) in
    let old : Subsystem =
    record { world = c.self.inside.spaces; device = g.M.Medium.device c.self.inside.medium; controllers = items } in
    rw (← c.self.view_is)
    (subst (λ cs. ExecutesAt (controller_at old (c.args.index + 1)) g.M.Medium.tells old (c.args.index + 1) c.args.i
    (Executed (executed_with c.execute_into-executed.new.marks c.execute_into-executed.result)) (record {
      world = c.execute_into-executed.new.spaces;
      device = g.M.Medium.device c.execute_into-executed.new.medium;
      controllers = cs;
    })) (sym (whole ∙ ms))
    (executes g.M.Medium.tells old (c.args.index + 1) c.args.index c.index_mut.result.now c.args.i (executed_with
    c.execute_into-executed.new.marks c.execute_into-executed.result) (setting c.execute_into-executed.new.self
    c.execute_into-executed.new.spaces (g.M.Medium.device c.execute_into-executed.new.medium))
    refl found (named-at _ _ items (c.args.index + 1) c.args.index c.index_mut.result.now refl found c.self.invariant)
    c.execute_into-executed.ensures.executed))

pub returns-clause-calls : goal.returns-clause-calls
returns-clause-calls g c =
    let items = c.self.inside.controllers.items in
    let found = found-at _ _ items c.args.self.now.state c.args.index c.index_mut.result.now
    (state-is c.self.view_is) c.requires.there c.index_mut.ensures.value in
    let ms : c.mark_after.new.controllers ≡ marks_after c.execute_into-executed.new.spaces
    (executed_with c.execute_into-executed.new.marks c.execute_into-executed.result)
    (slice_set items c.args.index c.execute_into-executed.new.self) =
    rw c.deref_mut.ensures.value at c.mark_after.ensures in
    let whole : take c.self.inside.controllers.len (c.mark_after.new.controllers
    ++ drop (length c.mark_after.new.controllers) (slice_set items c.args.index c.execute_into-executed.new.self))
    ≡ c.mark_after.new.controllers =
    refill-all c.self.inside.controllers.len _ c.mark_after.new.controllers
    (omega (arith, c.deref_mut.ensures.len, c.mark_after.auto.controllers)) in
    let old : Subsystem =
    record { world = c.self.inside.spaces; device = g.M.Medium.device c.self.inside.medium; controllers = items } in
    rw (← c.self.view_is)
    (subst (λ cs.
    MakesCalls g.M.Medium.step (CallingAt (controller_at old (c.args.index + 1)) g.M.Medium.tells old (c.args.index + 1)
    c.args.i (Executed (executed_with c.execute_into-executed.new.marks c.execute_into-executed.result)) (record {
      world = c.execute_into-executed.new.spaces;
      device = g.M.Medium.device c.execute_into-executed.new.medium;
      controllers = cs;
    })) c.self.inside.medium c.execute_into-executed.new.medium) (sym (whole ∙ ms))
    (calling g.M.Medium.step c.self.inside.medium c.execute_into-executed.new.medium g.M.Medium.tells old
    (c.args.index + 1) c.args.index c.index_mut.result.now c.args.i (executed_with
    c.execute_into-executed.new.marks c.execute_into-executed.result) (setting c.execute_into-executed.new.self
    c.execute_into-executed.new.spaces (g.M.Medium.device c.execute_into-executed.new.medium))
    refl found (named-at _ _ items (c.args.index + 1) c.args.index c.index_mut.result.now refl found c.self.invariant)
    c.execute_into-executed.ensures.calls))
