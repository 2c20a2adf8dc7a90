-- For the law `fencing_is_kept`: a fenced write is denied.
use Rattle.nvme_mailbox.proofs.Words.{
  ◌≡◌,
  ℕ,
  ◌==◌,
  ◌&&◌,
  ◌++◌,
  Bool,
  true,
  false,
  not,
  List,
  [],
  ◌∷◌,
  take,
  Option,
  None,
  Some,
  Ok,
  Err,
  refl,
  ap,
  subst,
  ◌∙◌,
  slice_get,
  none-some,
  same_Some,
  opcode,
  nsid,
  Read as Reading,
  Write as Writing,
  Outcome,
  command_of,
  data_length_of,
  is_one_of,
  readers,
  writers,
  pointer_rule,
  denial_outcome,
  access_rules,
  permits_group,
  reservation_rule,
  protection_rule,
  range_rule,
  may_write,
  Judgement,
  Rule,
  judgement_by,
  else_by,
  first_failing,
  World,
  host_of,
  namespace_of,
  first_failing-append,
  Lane,
  Admin,
  Io,
  FetchedCommand,
  Posted,
  Controller,
  denied-verdict,
  Execute,
  FetchedItem,
  lane_of,
  plain,
  io_judgement,
  action_of,
  WithDriver,
  Raw,
  Fleet,
  Step,
  host_at,
  IoCommand,
  raw_command,
  asked_by,
  sent_by,
  command_in,
  AreNumbered,
  IsExecutedBy,
  IsOn,
  LeavesReservation,
  conflict_unless,
  fenced,
  FencedWritesAreDenied,
  FencingHolds,
}
use Rattle.nvme_mailbox.specs.Fleets.{Host}
use Rattle.nvme_spec.specs.IoData as spec
use Rattle.nvme_spec.specs.Statuses as status
use Rattle.nvme_event.specs.declared.seen.FleetSeen.TheVariants.{Executed as ExecutedSeen}
use Rattle.nvme_mailbox.specs.IoCommands.{asked_in, command_at}
use Rattle.nvme_mailbox.proofs.IoExecutions.{is-io, executed_as_the_policy_allows}
use Rattle.nvme_mailbox.proofs.Fenced.{permissions_stay, plainly}
use Rattle.nvme_mailbox.proofs.Numbered.{numbers_stay}
use Rattle.std.proofs.Math.Bool.{or-true}

-- A fenced write is denied.

conflicts : (w : World) (k : ℕ) (e : List ℕ) → is_one_of (command_of (opcode e)) writers ≡ true
    → permits_group (namespace_of w (nsid e)) (host_of w k) Writing ≡ false
    → judgement_by (reservation_rule (command_of (opcode e)) (namespace_of w (nsid e)) (host_of w k))
    ≡ Err (record { rule = 7; status = status.reservation_conflict })
unfolding reservation_rule judgement_by
conflicts w k e writes shut =
    rw (
      writes,
      shut,
      or-true (is_one_of (command_of (opcode e)) readers
          && not (permits_group (namespace_of w (nsid e)) (host_of w k) Reading)),
    ) refl

unless : (j later : Judgement) → later ≡ Err (record { rule = 7; status = status.reservation_conflict })
    → else_by j later ≡ Err (conflict_unless j)
unless (Ok u) later h = h
unless (Err d) later h = refl

ruled : (w : World) (k : ℕ) (e : List ℕ) (marked : Bool) (later : List Rule)
    → is_one_of (command_of (opcode e)) writers ≡ true
    → permits_group (namespace_of w (nsid e)) (host_of w k) Writing ≡ false
    → first_failing (access_rules w k e marked ++ later)
    ≡ Err (conflict_unless (first_failing (take 6 (access_rules w k e marked))))
ruled w k e marked later writes shut =
    let command = command_of (opcode e) in
    let space = namespace_of w (nsid e) in
    let behind : List Rule =
    reservation_rule command space (host_of w k) ∷ protection_rule command space ∷ range_rule command space e ∷ later in
    first_failing-append (take 6 (access_rules w k e marked)) behind
    ∙ unless (first_failing (take 6 (access_rules w k e marked))) (first_failing behind)
    (ap (λ j. else_by j (first_failing (protection_rule command space ∷ range_rule command space e ∷ later)))
    (conflicts w k e writes shut))

-- the rules on access decide first
record IsJudged (w : World) (k : ℕ) (x : IoCommand) : Type 0 where
  later : List Rule
  by_all : x.judgement ≡ first_failing (access_rules w k x.entry x.marked ++ later)

in-lane : (lane : Lane) (w : World) (k : ℕ) (y : FetchedItem) (x : IoCommand)
    → asked_in lane w k y ≡ Some x → IsJudged w k x
unfolding io_judgement
in-lane Admin w k y x found = absurd (none-some _ found)
in-lane Io w k y x found = subst (IsJudged w k) (same_Some _ _ found)
    (record { later = spec.action_rule (action_of w k y.item.asked) ∷ []; by_all = refl })

by-item : (o : Option FetchedItem) (w : World) (k : ℕ) (x : IoCommand) → asked_by w k o ≡ Some x → IsJudged w k x
by-item None w k x found = absurd (none-some _ found)
by-item (Some y) w k x found = in-lane (lane_of y.item) w k y x found

by-raw : (o : Option FetchedCommand) (w : World) (k : ℕ) (c : Controller) (x : IoCommand)
    → c.cntlid ≡ k → sent_by w c o ≡ Some x → IsJudged w k x
unfolding spec.io_judgement
by-raw None w k c x is found = absurd (none-some _ found)
by-raw (Some t) w k c x is found =
    let io = is-io (t.queue == 0) x (raw_command w c t) found in
    let later : List Rule = pointer_rule (data_length_of (command_of (opcode t.entry)) t.entry) c.window t.entry
    ∷ spec.action_rule (spec.reservation_outcome w c.cntlid t.entry (spec.data_of c.window t.entry)) ∷ [] in
    subst (λ n. IsJudged w n x) is (subst (IsJudged w c.cntlid) io.1 (record { later = later; by_all = refl }))

judged : (o : Option Host) (f : Fleet) (k i : ℕ) (x : IoCommand) → AreNumbered f → host_at f k ≡ o
    → command_in o f.site.world k i ≡ Some x → IsJudged f.site.world k x
judged None f k i x all at found = absurd (none-some _ found)
judged (Some (WithDriver m)) f k i x all at found = by-item (slice_get m.fetched i) f.site.world k x found
judged (Some (Raw c)) f k i x all at found = by-raw (slice_get c.fetched i) f.site.world k c x (all k (Raw c) at) found

pub fenced_writes_are_denied : FencedWritesAreDenied
unfolding command_at may_write
fenced_writes_are_denied f n k i x all found is shut =
    let j = judged (host_at f k) f k i x all refl found in
    j.by_all ∙ ruled f.site.world k x.entry x.marked j.later is.is_one
    (ap (λ m. permits_group (namespace_of f.site.world m) (host_of f.site.world k) Writing) is.names ∙ shut)

-- Its answer, and runs.

pub refused : (tells : Bool) (old new : Fleet) (n k i : ℕ) (x : IoCommand) (outcome : Outcome)
    → AreNumbered old → may_write old.site.world k n ≡ false → command_at old k i ≡ Some x → IsOn n writers x
    → Step tells old (Execute k i) (plain (ExecutedSeen (Posted outcome))) new
    → (outcome ≡ denial_outcome (fenced old.site.world k x).rule (fenced old.site.world k x).status)
    × (new.site ≡ old.site)
refused tells old new n k i x outcome all shut found is step =
    let v = denied-verdict x.judgement (command_of (opcode x.entry)) x.entry (fenced old.site.world k x)
    (fenced_writes_are_denied old n k i x all found is shut) in
    subst (λ v. IsExecutedBy v tells k x old.site outcome new.site) v
    (executed_as_the_policy_allows tells old new k i x outcome all step found)

pub fencing_holds : FencingHolds
fencing_holds tells old mid new events replies n k i x outcome all shut run found is step =
    let numbers =
    numbers_stay tells old mid events replies (plainly (LeavesReservation n) tells old mid events replies run) all in
    refused tells mid new n k i x outcome numbers
    (permissions_stay tells old mid events replies n run k ∙ shut) found is step
