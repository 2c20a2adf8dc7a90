-- A command that was kept succeeds again, and the same is kept of it.
use Rattle.std.proofs.Common.{◌≡◌, ◌≢◌, ℕ, ◌==◌, ◌&&◌, Bool, true, false, List, [], ◌∷◌, refl, sym, ap, subst, ◌∙◌}
use Rattle.std.specs.Prelude.{if◌then◌else◌}
use Rattle.std.proofs.lemmas.Bool.{and_parts}
use Rattle.nvme_wire.specs.declared.status.Status.{Status}
use Rattle.nvme_spec.specs.AdminEffects.{admin_execution}
use Rattle.nvme_spec.specs.Execution.{Executes}
use Rattle.nvme_machine.specs.declared.event.Event.TheVariants.{Execute}
use Rattle.nvme_machine.specs.declared.fetched.FetchedCommand.{FetchedCommand}
use Rattle.nvme_machine.specs.declared.seen.Seen.{Seen}
use Rattle.nvme_machine.specs.CommandExecutions.{CommandExecution, CommandComesTo, CommandComesToAs}
use Rattle.nvme_machine.specs.Controllers.{Controller, QueuePair, queues_of}
use Rattle.nvme_machine.specs.Runs.{Waits}
use Rattle.nvme_machine.specs.Subsystems.{Completes, Subsystem, scene_of}
use Rattle.nvme_machine.proofs.Denials.{completion}
use Rattle.nvme_journal.specs.Records.{Command, Record, carried_all, is_success, kept, lasts}
use Rattle.nvme_journal.specs.Laws.{AllMatch, IsSameCommand, ReachesData, ReadsTheSame}
use Rattle.nvme_journal.proofs.Alike.{matching_records_carry_alike, same-lasts}
use Rattle.nvme_journal.proofs.Again.{io_records_succeed_again}
use Rattle.nvme_journal.proofs.AdminAgain.{admin_records_succeed_again}
use Rattle.nvme_target.specs.Journals.{KeptCommandsSucceedAgain, data_of, kept_at, kept_by, kept_of}
use Rattle.nvme_target.proofs.Journals.{step}

-- What is kept, if something is.

if-kept : (b : Bool) (r : Record) → (if b then r ∷ [] else []) ≢ [] → b ≡ true
if-kept true r h = refl
if-kept false r h = absurd (h refl)

is-kept : (s : Status) (k : ℕ) (is_admin : Bool) (e sent : List ℕ) → is_success s ≡ true → lasts is_admin e ≡ true
    → kept s k is_admin e sent ≡ Command k is_admin e sent ∷ []
is-kept s k is_admin e sent success lasting =
    let yes : (is_success s && lasts is_admin e) ≡ true = ap (λ b. b && lasts is_admin e) success ∙ lasting in
    ap (λ (b : Bool). if b then Command k is_admin e sent ∷ [] else []) yes

-- what is kept of a command that was executed
kept-so : (tells : Bool) (old new : Subsystem) (k i : ℕ) (c : Controller) (t : FetchedCommand) (p : QueuePair)
    (seen : Seen) → Waits old k i c t p → (h : Completes tells old k c i t p seen new)
    → kept_by old (Execute k i) seen
    ≡ kept h.execution.outcome.status k (t.queue == 0) t.entry (data_of (t.queue == 0) c.window t.entry)
kept-so tells old new k i c t p seen waits h =
    ap (λ s. kept_by old (Execute k i) s) h.gives
    ∙ ap (λ o. kept_at o k i h.execution.outcome.status) waits.at
    ∙ ap (λ o. kept_of o c k h.execution.outcome.status) waits.found

-- A command that succeeded and lasts succeeds again.
comes-again : (is_admin : Bool) (tells tells_again : Bool) (k : ℕ) (t u : FetchedCommand) (old again : Subsystem)
    (c d : Controller) (a b : CommandExecution) → CommandComesToAs is_admin tells (queues_of c) k t (scene_of old c) a
    → CommandComesToAs is_admin tells_again (queues_of d) k u (scene_of again d) b
    → is_success a.outcome.status ≡ true → lasts is_admin t.entry ≡ true → again.world ≡ old.world
    → IsSameCommand t.entry u.entry → ReachesData is_admin d.window u.entry
    → ReadsTheSame is_admin (data_of is_admin c.window t.entry) (data_of is_admin d.window u.entry)
    → u.marked ≡ false → is_success b.outcome.status ≡ true
comes-again true tells tells_again k t u old again c d a b h g success lasting worlds same reaches reads unmarked =
    let before : is_success (admin_execution old.world (queues_of c) k t.entry c.window).status ≡ true =
    sym (ap (λ (x : CommandExecution). is_success x.outcome.status) h) ∙ success in
    let s = admin_records_succeed_again old.world (queues_of c) (queues_of d) k t.entry u.entry c.window d.window before
    lasting same reaches reads in
    ap (λ (x : CommandExecution). is_success x.outcome.status) g
    ∙ ap (λ w. is_success (admin_execution w (queues_of d) k u.entry d.window).status) worlds ∙ s.succeeds
comes-again false tells tells_again k t u old again c d a b h g success lasting worlds same reaches reads unmarked =
    let done = subst (λ m. Executes tells_again k u.entry m (scene_of again d) b.left b.outcome) unmarked g.1 in
    let s = io_records_succeed_again tells k t.entry t.marked (scene_of old c) a.left a.outcome h.1 success lasting
    tells_again u.entry (scene_of again d) b.left b.outcome worlds same reaches reads done in
    s.succeeds

-- the records of an execution, and of another one of the same command
match : (b : Bool) (s x : Status) (k : ℕ) (is_admin : Bool) (e again sent read : List ℕ) → is_success s ≡ true
    → lasts is_admin e ≡ true → is_success x ≡ true → b ≡ is_admin → IsSameCommand e again
    → ReadsTheSame is_admin sent read → AllMatch (kept s k is_admin e sent) (kept x k b again read)
match b s x k is_admin e again sent read success lasting well queue same reads =
    let first = is-kept s k is_admin e sent success lasting in
    let lasts_too : lasts b again ≡ true = ap (λ q. lasts q again) queue ∙ same-lasts is_admin e again same ∙ lasting in
    let second = is-kept x k b again read well lasts_too in
    let m : AllMatch (Command k is_admin e sent ∷ []) (Command k b again read ∷ []) =
    (record { controller = refl; queue = queue; command = same; reads = reads }, tt) in
    subst (λ l. AllMatch l (kept x k b again read)) (sym first)
    (subst (AllMatch (Command k is_admin e sent ∷ [])) (sym second) m)

pub kept_commands_succeed_again : KeptCommandsSucceedAgain
unfolding CommandComesTo
kept_commands_succeed_again tells tells_again old new again left k i j seen seen_again did some r does =
    let c = r.controller in
    let d = r.same_controller in
    let t = r.command in
    let u = r.same_command in
    let first = completion tells old new k i c t r.queues seen did r.waits in
    let second = completion tells_again again left k j d u r.same_queues seen_again does r.waits_again in
    let a = first.execution in
    let b = second.execution in
    let is_admin = t.queue == 0 in
    let one = kept-so tells old new k i c t r.queues seen r.waits first in
    let two = kept-so tells_again again left k j d u r.same_queues seen_again r.waits_again second in
    let parts = and_parts (is_success a.outcome.status) (lasts is_admin t.entry) (if-kept _ _ (λ e. some (one ∙ e))) in
    let comes : CommandComesToAs is_admin tells_again (queues_of d) k u (scene_of again d) b =
    subst (λ q. CommandComesToAs q tells_again (queues_of d) k u (scene_of again d) b) r.queue second.comes_to in
    let well = comes-again is_admin tells tells_again k t u old again c d a b first.comes_to comes parts.0 parts.1
    r.world r.entry r.reaches r.reads r.unmarked in
    let data_there = data_of is_admin d.window u.entry in
    let all : AllMatch (kept a.outcome.status k is_admin t.entry (data_of is_admin c.window t.entry))
    (kept b.outcome.status k (u.queue == 0) u.entry data_there) =
    match (u.queue == 0) a.outcome.status b.outcome.status k is_admin t.entry u.entry _ data_there parts.0 parts.1 well
    r.queue r.entry r.reads in
    let read : data_of (u.queue == 0) d.window u.entry ≡ data_there =
    ap (λ q. data_of q d.window u.entry) r.queue in
    let same : AllMatch (kept_by old (Execute k i) seen) (kept_by again (Execute k j) seen_again) =
    subst (λ l. AllMatch l (kept_by again (Execute k j) seen_again)) (sym one)
    (subst (AllMatch _) (sym (two
    ∙ ap (λ x. kept b.outcome.status k (u.queue == 0) u.entry x) read)) all) in
    let ends : left.world ≡ new.world =
    step tells_again again left (Execute k j) seen_again does
    ∙ ap (carried_all (kept_by again (Execute k j) seen_again)) r.world
    ∙ matching_records_carry_alike (kept_by old (Execute k i) seen) (kept_by again (Execute k j) seen_again) old.world
    same ∙ sym (step tells old new (Execute k i) seen did) in
    (same, ends)
