-- For `ExecuteStep` and laws: each answer of an I/O command is a possible answer of its request.
use Rattle.nvme_refinement.proofs.Words.{
  ◌≡◌,
  ℕ,
  Bool,
  not,
  false,
  List,
  [],
  Option,
  Some,
  Ok,
  refl,
  sym,
  ap,
  subst,
  ◌∙◌,
  arith,
  slice_get,
  not-true,
  if◌then◌else◌,
  cid,
  opcode,
  Status,
  Command,
  Verdict,
  Allowed,
  Denied,
  Device,
  World,
  command_of,
  plan_of,
  is_one_of,
  ranged,
  Judgement,
  conclusion,
  scene,
  ExecutesBy,
  denial_outcome,
  denials,
  Refuses,
  VerdictRefuses,
  verdict-refuses,
  of-each,
  Io,
  data_area,
  is_success,
  Driver,
  FetchedCommand,
  CommandExecution,
  Controller,
  FetchedItem,
  lane_of,
  Site,
  RequestExecution,
  command_entry,
  io_judgement,
  io_verdict,
  denied_request_execution,
  IoRequestComesTo,
  RequestComesToAs,
  RequestComesTo,
  Sound,
  mailbox,
  lane_of_queue,
  IsServedInItsSlot,
  IsAnsweredInItsSlot,
  AnswersItsRequest,
  request_execution_with,
  ◌+◌,
  ◌*◌,
  ◌≤◌,
  ◌==◌,
  ◌&&◌,
  true,
  ◌∷◌,
  length,
  take,
  None,
  inl,
  inr,
  take_all,
  is_some,
  replicate,
  nsid,
  Namespace,
  namespace_of,
  data_length,
  data_length_of,
  block_count,
  marks_on,
  no_marks,
  Scene,
  Performs,
  medium_block,
  start_of,
  report_of,
  world_after,
  marks_of,
  removed_by,
  reservation_outcome,
  data_of,
  HasPassed,
  has-passed,
  waiting_at,
  answer_len,
  Asked,
  with_scattered,
  data_addresses,
  action_of,
  IsServed,
  bytes_with,
  asked_in,
  received_in,
  AllowedServesItsRequest,
  and_parts,
  common_steps,
  ◌++◌,
  eqb-true,
  host_of,
  judgement_by,
  first_failing,
  access_rules,
  pointer_rule,
  data_in,
  action_rule,
  outcome_in,
  action_outcome,
  entry_length,
  is_plain,
  is_plain_in,
  received_by,
  JudgedAsItsRequest,
  starting_lba,
  action,
  iekey,
  cptpl,
  rtype,
  eds,
  report_length,
  form_rule,
}
use Rattle.nvme_spec.specs.IoData as spec
use Rattle.nvme_refinement.proofs.Windows.{stored-none}
use Rattle.nvme_refinement.proofs.HeldStep.{
  asked-at,
  lane-at,
  data-same,
  IsHeld,
  held-known,
  pointer-passes,
  without-pointer,
  item-is,
  asked-in,
  SameFields,
}
use Rattle.nvme_spec.specs.declared.command.Command.TheVariants as io
use Rattle.nvme_spec.specs.Effects.{ReadEffect, WriteEffect, CompareEffect}
use Rattle.nvme_spec.specs.Report.{ControllerHost}
use Rattle.nvme_spec.specs.Reservation as resv
use Rattle.nvme_spec.specs.Statuses as status
use Rattle.nvme_spec.proofs.Reporting.{length-report_data}
use Rattle.nvme_refinement.proofs.Places.{no-way}
use Rattle.nvme_refinement.proofs.PostStep.{slot_seen}
use Rattle.nvme_spec.specs.Commands as io_commands
use Rattle.nvme_spec.specs.IoRules as rules

-- A fetched I/O command is judged like the request at its place in the mailbox.

-- Commands with the same fields are judged alike.

pub same-lba : (x y : List ℕ) → SameFields x y → starting_lba y ≡ starting_lba x
unfolding starting_lba
same-lba x y h = rw (h.cdw10, h.cdw11) refl

pub same-count : (x y : List ℕ) → SameFields x y → block_count y ≡ block_count x
unfolding block_count
same-count x y h = rw h.cdw12 refl

pub same-action : (x y : List ℕ) → SameFields x y → action y ≡ action x
unfolding action
same-action x y h = rw h.cdw10 refl

pub access-same : (w : World) (k : ℕ) (x y : List ℕ) (marked : Bool)
    → SameFields x y → access_rules w k y marked ≡ access_rules w k x marked
unfolding form_rule rules.field_rule rules.range_rule starting_lba block_count action iekey cptpl rtype
    eds report_length
access-same w k x y marked h = rw (h.opcode, h.nsid, h.fuse, h.psdt, h.cdw10, h.cdw11, h.cdw12) refl

same-outcome : (x y : List ℕ) (command : Command) (r : resv.Reservation) (host : ℕ) (keys : List ℕ)
    → SameFields x y → action_outcome command r host y keys ≡ action_outcome command r host x keys
unfolding action_outcome action iekey cptpl rtype
same-outcome x y io.ReservationRegister r host keys h = rw h.cdw10 refl
same-outcome x y io.ReservationAcquire r host keys h = rw h.cdw10 refl
same-outcome x y io.ReservationRelease r host keys h = rw h.cdw10 refl
same-outcome x y command r host keys h = refl

outcome-in-same : (x y : List ℕ) (o : Option Command) (n : Option Namespace) (host : Option ℕ) (keys : List ℕ)
    → SameFields x y → outcome_in o n host y keys ≡ outcome_in o n host x keys
outcome-in-same x y (Some command) (Some n) (Some host) keys h = same-outcome x y command n.reservation host keys h
outcome-in-same x y o n host keys h = refl

pub reservation-same : (w : World) (k : ℕ) (x y keys : List ℕ)
    → SameFields x y → reservation_outcome w k y keys ≡ reservation_outcome w k x keys
unfolding reservation_outcome
reservation-same w k x y keys h =
    rw (h.opcode, h.nsid)
    (outcome-in-same x y (io_commands.command_of (opcode x)) (namespace_of w (nsid x)) (host_of w k) keys h)

pub length-same : (x y : List ℕ) (command : Command) → SameFields x y → data_length command y ≡ data_length command x
unfolding report_length
length-same x y io.Read h = ap (λ n. 512 * n) (same-count x y h)
length-same x y io.Write h = ap (λ n. 512 * n) (same-count x y h)
length-same x y io.Compare h = ap (λ n. 512 * n) (same-count x y h)
length-same x y io.ReservationReport h = rw h.cdw10 refl
length-same x y command h = refl

-- What is known of an I/O command and its slot.
abbrev pub IsIo : Driver → Controller → FetchedCommand → Type 0
IsIo d c t = IsHeld Io d c t

-- the keys are the request's, if the command reads them
keys-matter : (command : Command) (host : Option ℕ) (n : Option Namespace) (x keys sent : List ℕ) (received m : ℕ)
    → received ≡ (if io_commands.is_one_of (Some command) (io.Read ∷ io.ReservationReport ∷ []) then m else 0)
    → (received ≡ 0 → keys ≡ sent)
    → outcome_in (Some command) n host x keys ≡ outcome_in (Some command) n host x sent
unfolding action_outcome
keys-matter io.ReservationRegister (Some h) (Some n) x keys sent received m r e = rw (e r) refl
keys-matter io.ReservationAcquire (Some h) (Some n) x keys sent received m r e = rw (e r) refl
keys-matter io.ReservationRelease (Some h) (Some n) x keys sent received m r e = rw (e r) refl
keys-matter command (Some h) (Some n) x keys sent received m r e = refl
keys-matter command None (Some n) x keys sent received m r e = refl
keys-matter command host None x keys sent received m r e = refl

keys-of : (o : Option Command) (host : Option ℕ) (n : Option Namespace) (x keys sent : List ℕ) (received m : ℕ)
    → is_some o ≡ true → received ≡ (if io_commands.is_one_of o (io.Read ∷ io.ReservationReport ∷ []) then m else 0)
    → (received ≡ 0 → keys ≡ sent)
    → outcome_in o n host x keys ≡ outcome_in o n host x sent
keys-of None host n x keys sent received m there r e = refl
keys-of (Some command) host n x keys sent received m there r e = keys-matter command host n x keys sent received m r e

-- what a plain I/O command receives
pub plain-io : (a : Asked) → a.command.lane ≡ Io → is_plain a ≡ true
    → (is_some (io_commands.command_of a.command.opcode) ≡ true) × (a.received ≡ received_by a.command.opcode a.moved)
unfolding is_plain
plain-io a e h =
    let p = and_parts _ _ (sym (ap (λ l. is_plain_in l a) e) ∙ h) in
    (p.0, eqb-true a.received (received_by a.command.opcode a.moved) p.1)

-- the number of bytes that the command transfers
pub length-is : (d : Driver) (c : Controller) (t : FetchedCommand) (h : IsIo d c t)
    → (asked_in (slot_seen Io d c t) t.entry).moved
    ≡ io_commands.data_length_of (io_commands.command_of (opcode t.entry)) t.entry
length-is d c t h = ap (λ l. entry_length l t.entry) h.of_lane

pub data-is : (d : Driver) (c : Controller) (t : FetchedCommand) (h : IsIo d c t)
    → data_of c.window t.entry ≡ data_in (asked_in (slot_seen Io d c t) t.entry).moved c.window t.entry
data-is d c t h = ap (λ n. data_in n c.window t.entry) (sym (length-is d c t h))

-- the outcome of the command for its reservation
pub action-is : (d : Driver) (c : Controller) (t : FetchedCommand) (w : World) (cntlid : ℕ) (h : IsIo d c t)
    → reservation_outcome w cntlid t.entry (data_of c.window t.entry)
    ≡ action_of w cntlid (asked_in (slot_seen Io d c t) t.entry)
unfolding reservation_outcome
action-is d c t w cntlid h =
    let p = plain-io (asked_in (slot_seen Io d c t) t.entry) h.of_lane h.suited.plain in
    ap (λ ks. outcome_in (io_commands.command_of (opcode t.entry)) (namespace_of w (nsid t.entry))
    (host_of w cntlid) t.entry ks) (data-is d c t h)
    ∙ keys-of (io_commands.command_of (opcode t.entry)) (host_of w cntlid) (namespace_of w (nsid t.entry)) t.entry _ _
    (asked_in (slot_seen Io d c t) t.entry).received (asked_in (slot_seen Io d c t) t.entry).moved p.0 p.1
    (data-same Io d c t h)
    ∙ sym (reservation-same w cntlid t.entry (command_entry (asked_in (slot_seen Io d c t) t.entry))
    (asked_in (slot_seen Io d c t) t.entry).sent h.same)

-- the same judgement
judged : (d : Driver) (c : Controller) (t : FetchedCommand) (w : World) (cntlid : ℕ) (h : IsIo d c t)
    → spec.io_judgement w cntlid t.entry t.marked c.window
    ≡ io_judgement w cntlid (asked_in (slot_seen Io d c t) t.entry) t.marked
unfolding spec.io_judgement io_judgement
judged d c t w cntlid h =
    let p = pointer-passes c.window (cid t.entry) t.entry (asked_in (slot_seen Io d c t) t.entry).moved h.moves in
    let q : judgement_by
    (pointer_rule (io_commands.data_length_of (io_commands.command_of (opcode t.entry)) t.entry) c.window t.entry)
    ≡ Ok tt = ap (λ n. judgement_by (pointer_rule n c.window t.entry)) (sym (length-is d c t h)) ∙ p in
    without-pointer (access_rules w cntlid t.entry t.marked)
    (pointer_rule (io_commands.data_length_of (io_commands.command_of (opcode t.entry)) t.entry) c.window t.entry)
    (action_rule (reservation_outcome w cntlid t.entry (data_of c.window t.entry))) q
    ∙ ap (λ o. first_failing (access_rules w cntlid t.entry t.marked ++ action_rule o ∷ []))
    (action-is d c t w cntlid h)
    ∙ ap (λ rs. first_failing (rs ++ action_rule (action_of w cntlid (asked_in (slot_seen Io d c t) t.entry)) ∷ []))
    (sym (access-same w cntlid t.entry (command_entry (asked_in (slot_seen Io d c t) t.entry)) t.marked h.same))

pub io-known : (d : Driver) (c : Controller) (i : ℕ) (t : FetchedCommand) → Sound d c → slice_get c.fetched i ≡ Some t
    → t.queue ≡ 1 → IsIo d c t
io-known d c i t s g q = held-known Io d c i t s g (ap lane_of_queue q)

pub judged_as_its_request : JudgedAsItsRequest
judged_as_its_request d c i t x w cntlid s g f q =
    judged d c t w cntlid (io-known d c i t s g q)
    ∙ ap (λ a. io_judgement w cntlid a t.marked) (sym (asked-in Io d c t (ap lane_of_queue q)))
    ∙ ap (λ (y : FetchedItem). io_judgement w cntlid y.item.asked y.marked) (sym (item-is d c i t x g f))

-- An allowed I/O command has the effect of its request.

same-block : (w : World) (x y : List ℕ) → SameFields x y → medium_block w x ≡ medium_block w y
same-block w x y h = sym (λ i. start_of (namespace_of w (h.nsid i)) + same-lba x y h i)

-- if the keys are those of the request as far as the command reads them
performs-same : (tells : Bool) (command : Command) (k : ℕ) (x y keys sent : List ℕ) (old new : Scene) (answer : Status)
    (returned : List ℕ) (received m : ℕ) → SameFields x y
    → received ≡ (if is_one_of (Some command) (io.Read ∷ io.ReservationReport ∷ []) then m else 0)
    → (received ≡ 0 → keys ≡ sent)
    → reservation_outcome old.world k x keys ≡ reservation_outcome old.world k y sent
    → Performs tells command k x keys old new answer returned
    → Performs tells command k y sent (scene old.world [] old.device) (scene new.world [] new.device) answer returned
performs-same tells io.Flush k x y keys sent old new answer returned received m f r e o h =
    record { world = h.world; effect = h.effect }
performs-same tells io.Read k x y keys sent old new answer returned received m f r e o h =
    let b = same-block old.world x y f in
    let n = sym (same-count x y f) in
    record {
      world = h.world;
      effect = subst (λ q. ReadEffect tells (medium_block old.world y) (512 * q) old.device new.device answer returned)
          n (subst (λ q. ReadEffect tells q (512 * block_count x) old.device new.device answer returned) b h.effect);
    }
performs-same tells io.Write k x y keys sent old new answer returned received m f r e o h =
    let b = same-block old.world x y f in
    let g = h.effect in
    record {
      world = h.world;
      effect = (
        subst (λ q. WriteEffect tells (medium_block old.world y) q old.device new.device answer) (e r)
            (subst (λ q. WriteEffect tells q keys old.device new.device answer) b g.0),
        g.1,
      );
    }
performs-same tells io.WriteZeroes k x y keys sent old new answer returned received m f r e o h =
    let b = same-block old.world x y f in
    let n = sym (same-count x y f) in
    let g = h.effect in
    record {
      world = h.world;
      effect = (
        subst (λ q. WriteEffect tells (medium_block old.world y) (replicate (512 * q) 0) old.device new.device answer) n
            (subst (λ q. WriteEffect tells q (replicate (512 * block_count x) 0) old.device new.device answer) b g.0),
        g.1,
      );
    }
performs-same tells io.Compare k x y keys sent old new answer returned received m f r e o h =
    let b = same-block old.world x y f in
    let g = h.effect in
    record {
      world = h.world;
      effect = (
        subst (λ q. CompareEffect tells (medium_block old.world y) q old.device new.device answer) (e r)
            (subst (λ q. CompareEffect tells q keys old.device new.device answer) b g.0),
        g.1,
      );
    }
performs-same tells io.ReservationRegister k x y keys sent old new answer returned received m f r e o h =
    record {
      answered = h.answered;
      world = h.world ∙ (ap (λ n. world_after old.world n (reservation_outcome old.world k x keys)) (sym f.nsid)
          ∙ ap (world_after old.world (nsid y)) o);
      device = h.device;
      data_back = h.data_back;
    }
performs-same tells io.ReservationAcquire k x y keys sent old new answer returned received m f r e o h =
    record {
      answered = h.answered;
      world = h.world ∙ (ap (λ n. world_after old.world n (reservation_outcome old.world k x keys)) (sym f.nsid)
          ∙ ap (world_after old.world (nsid y)) o);
      device = h.device;
      data_back = h.data_back;
    }
performs-same tells io.ReservationRelease k x y keys sent old new answer returned received m f r e o h =
    record {
      answered = h.answered;
      world = h.world ∙ (ap (λ n. world_after old.world n (reservation_outcome old.world k x keys)) (sym f.nsid)
          ∙ ap (world_after old.world (nsid y)) o);
      device = h.device;
      data_back = h.data_back;
    }
performs-same tells io.ReservationReport k x y keys sent old new answer returned received m f r e o h =
    record {
      answered = h.answered;
      world = h.world;
      device = h.device;
      data_back = h.data_back ∙ sym (λ i. report_of (namespace_of old.world (f.nsid i)) old.world.controllers
          (length-same x y io.ReservationReport f i));
    }

-- the number of bytes for the host
record Returns (command : Command) (x : List ℕ) (answer : Status) (returned : List ℕ) : Type 0 where
  few : length returned ≤ data_length command x
  done : is_success answer ≡ true → length returned
      ≡ (if is_one_of (Some command) (io.Read ∷ io.ReservationReport ∷ []) then data_length command x else 0)

none-back : (command : Command) (x : List ℕ) (answer : Status) (returned : List ℕ)
    → is_one_of (Some command) (io.Read ∷ io.ReservationReport ∷ []) ≡ false → returned ≡ []
    → Returns command x answer returned
none-back command x answer returned e h = record {
  few = (let l : length returned ≡ 0 = ap length h in omega (arith, l));
  done = λ t. ap length h ∙ sym (ap (λ b. if b then data_length command x else 0) e);
}

not-read : (answer : Status) → answer ≡ status.unrecovered_read_error → is_success answer ≡ true → ⊥
not-read answer e t = no-way (is_success answer) (ap is_success e) t

read-back : (tells : Bool) (first : ℕ) (old new : Device) (x : List ℕ) (answer : Status) (returned : List ℕ)
    → ReadEffect tells first (512 * block_count x) old new answer returned → Returns io.Read x answer returned
read-back tells first old new x answer returned (same, inl done) =
    record { few = (let l = done.1 in omega (arith, l)); done = λ t. done.1 }
read-back tells first old new x answer returned (same, inr failed) = record {
  few = (let f = failed.1 in let s = f.size in let w = f.within in omega (arith, s, w));
  done = λ t. absurd (let f = failed.0 in not-read answer f.answered t);
}

report-length : (o : Option Namespace) (ks : List ControllerHost) (n : ℕ)
    → is_some o ≡ true → length (report_of o ks n) ≡ n
report-length None ks n h = absurd (cc (h))
report-length (Some space) ks n h = length-report_data space.reservation ks n

returns : (tells : Bool) (command : Command) (k : ℕ) (x keys : List ℕ) (old new : Scene) (answer : Status)
    (returned : List ℕ) → HasPassed old.world k x command
    → Performs tells command k x keys old new answer returned → Returns command x answer returned
returns tells io.Read k x keys old new answer returned p h =
    read-back tells (medium_block old.world x) old.device new.device x answer returned h.effect
returns tells io.ReservationRegister k x keys old new answer returned p h =
    none-back io.ReservationRegister x answer returned refl h.data_back
returns tells io.ReservationAcquire k x keys old new answer returned p h =
    none-back io.ReservationAcquire x answer returned refl h.data_back
returns tells io.ReservationRelease k x keys old new answer returned p h =
    none-back io.ReservationRelease x answer returned refl h.data_back
returns tells io.ReservationReport k x keys old new answer returned p h =
    let e : length returned ≡ data_length io.ReservationReport x =
    ap length h.data_back ∙ report-length (namespace_of old.world (nsid x)) old.world.controllers
    (data_length io.ReservationReport x) (and_parts _ _ p.attached).0 in
    record { few = omega (arith, e); done = λ t. e }
returns tells command k x keys old new answer returned p h = let f = h.effect in
    none-back command x answer returned refl f.1

-- the marks are the same
marks-same : (command : Command) (x y : List ℕ) (o q : Option resv.ActionOutcome)
    → SameFields x y → o ≡ q → marks_of command x o ≡ marks_of command y q
marks-same command x y o q f e =
    ap (marks_of command x) e
    ∙ sym (λ i. if is_one_of (Some command) (io.ReservationAcquire ∷ []) && same-action x y f i == 2
    then marks_on (f.nsid i) (removed_by q) else no_marks)

-- the bytes of the answer
handed : (why : Status) (received : ℕ) (returned : List ℕ) → (is_success why ≡ true → length returned ≡ received)
    → take (answer_len received why) returned ≡ bytes_with why returned
handed why received returned h = grind (arith, common_steps, take_all received returned, h)

enough : (why : Status) (received : ℕ) (returned : List ℕ) → (is_success why ≡ true → length returned ≡ received)
    → answer_len received why ≤ length returned
enough why received returned h = grind (arith, common_steps, h)

-- the request of a command, by its slot
abbrev pub asked_by : Driver → Controller → FetchedCommand → Asked
asked_by d c t = asked_in (slot_seen Io d c t) t.entry

-- what is known of an allowed command
record IsAllowed (d : Driver) (c : Controller) (t : FetchedCommand) (kind : Command) : Type 0 where
  known : IsIo d c t
  moved : (asked_by d c t).moved ≡ data_length kind t.entry
  received : (asked_by d c t).received
      ≡ (if is_one_of (Some kind) (io.Read ∷ io.ReservationReport ∷ []) then (asked_by d c t).moved else 0)

allowed : (d : Driver) (c : Controller) (t : FetchedCommand) (w : World) (cntlid : ℕ) (kind : Command)
    → IsIo d c t → HasPassed w cntlid t.entry kind → IsAllowed d c t kind
allowed d c t w cntlid kind h p =
    let q = plain-io (asked_by d c t) h.of_lane h.suited.plain in
    let moved = length-is d c t h ∙ ap (λ o. data_length_of o t.entry) p.named in
    let received =
    q.1 ∙ ap (λ o. if is_one_of o (io.Read ∷ io.ReservationReport ∷ []) then (asked_by d c t).moved else 0) p.named in
    search

pub allowed_serves_its_request : AllowedServesItsRequest
allowed_serves_its_request tells d c i t x w device cntlid plan a s g f q is h =
    let k = io-known d c i t s g q in
    let p = has-passed w cntlid t.entry t.marked c.window plan is in
    let y = allowed d c t w cntlid plan.kind k p in
    let o = action-is d c t w cntlid k in
    let back = returns tells plan.kind cntlid t.entry (data_of c.window t.entry)
    (scene w c.window device) a.left a.outcome.status h.returned p h.effect in
    let few : length h.returned ≤ (asked_by d c t).moved =
    (let l = back.few in let e = y.moved in omega (arith, l, e)) in
    let done : is_success a.outcome.status ≡ true → length h.returned ≡ received_in (waiting_at d.slots (cid t.entry)) =
    λ z. back.done z ∙ sym
    (y.received ∙ ap (λ n. if is_one_of (Some plan.kind) (io.Read ∷ io.ReservationReport ∷ []) then n else 0) y.moved)
    ∙ k.received in
    record {
      bytes = h.returned;
      window = h.window
          ∙ ap (λ n. with_scattered c.window (take (length h.returned) (data_addresses n c.window t.entry)) h.returned)
          (sym y.moved)
          ∙ k.moves.scatters h.returned few;
      few = (let e = k.suited.most in omega (arith, few, e));
      whole = enough a.outcome.status (received_in (waiting_at d.slots (cid t.entry))) h.returned done;
      served = subst (λ y. IsServed tells plan.kind cntlid y (record { world = w; device = device })
          (request_execution_with d t a h.returned)) (sym (asked-at Io d c i t x g f (ap lane_of_queue q))) (record {
            returned = h.returned;
            effect =
                performs-same tells plan.kind cntlid t.entry (command_entry (asked_by d c t)) (data_of c.window t.entry)
                (asked_by d c t).sent (scene w c.window device) a.left a.outcome.status h.returned
                (asked_by d c t).received (asked_by d c t).moved k.same y.received
                (λ z. data-is d c t k ∙ data-same Io d c t k z) o h.effect;
            dw0 = h.dw0;
            rule = h.rule;
            marks = h.marks ∙ marks-same plan.kind t.entry
                (command_entry (asked_by d c t)) (reservation_outcome w cntlid t.entry (data_of c.window t.entry))
                (action_of w cntlid (asked_by d c t)) k.same o;
            data_back = handed a.outcome.status (received_in (waiting_at d.slots (cid t.entry))) h.returned done;
          });
    }

plan-same : (command : Command) (x y : List ℕ) → SameFields x y → plan_of command y ≡ plan_of command x
plan-same command x y f i = record {
  kind = command;
  first = if is_one_of (Some command) ranged then same-lba x y f i else 0;
  blocks = if is_one_of (Some command) ranged then same-count x y f i else 0;
  bytes = length-same x y command f i;
}

conclusion-same : (j : Judgement) (o : Option Command) (x y : List ℕ)
    → SameFields x y → conclusion j o y ≡ conclusion j o x
conclusion-same (Ok u) (Some command) x y f = ap Allowed (plan-same command x y f)
conclusion-same j o x y f = refl

-- the verdict on the request
verdict-is : (d : Driver) (c : Controller) (i : ℕ) (t : FetchedCommand) (x : FetchedItem) (w : World) (cntlid : ℕ)
    (s : Sound d c) (g : slice_get c.fetched i ≡ Some t)
    (f : slice_get (mailbox d c).fetched i ≡ Some x) (q : t.queue ≡ 1)
    → io_verdict w cntlid x.item.asked x.marked ≡ spec.io_verdict w cntlid t.entry t.marked c.window
verdict-is d c i t x w cntlid s g f q =
    let e : x.item.asked ≡ asked_by d c t = asked-at Io d c i t x g f (ap lane_of_queue q) in
    let m : SameFields t.entry (command_entry x.item.asked) =
    subst (λ a. SameFields t.entry (command_entry a)) (sym e) (io-known d c i t s g q).same in
    conclusion-same (io_judgement w cntlid x.item.asked x.marked)
    (command_of (opcode (command_entry x.item.asked))) t.entry (command_entry x.item.asked) m
    ∙ ap (λ n. conclusion (io_judgement w cntlid x.item.asked x.marked) (command_of n) t.entry) m.opcode
    ∙ ap (λ j. conclusion j (command_of (opcode t.entry)) t.entry)
    (sym (judged_as_its_request d c i t x w cntlid s g f q))

as-io : (tells : Bool) (cntlid : ℕ) (x : FetchedItem) (s : Site) (r : RequestExecution) (v : Verdict)
    → lane_of x.item ≡ Io → io_verdict s.world cntlid x.item.asked x.marked ≡ v
    → IoRequestComesTo v tells cntlid x.item.asked s r → RequestComesTo tells cntlid x s r
unfolding RequestComesTo
as-io tells cntlid x s r v l e h =
    subst (λ n. RequestComesToAs n tells cntlid x.item.asked x.marked s r) (sym l)
    (subst (λ u. IoRequestComesTo u tells cntlid x.item.asked s r) (sym e) h)

-- no denial is Successful Completion
pub unsuccessful : (s : Status) → Refuses s → is_success s ≡ false
unsuccessful s h = not-true (is_success s) (of-each (λ x. not (is_success x)) denials s refl h)

-- a denial has no data
pub denied-with : (d : Driver) (t : FetchedCommand) (a : CommandExecution) (w : World) (window : List ℕ)
    (device : Device) (number : ℕ) (why : Status) → is_success why ≡ false
    → a.left ≡ scene w window device → a.outcome ≡ denial_outcome number why
    → request_execution_with d t a [] ≡ denied_request_execution (record { world = w; device = device }) number why
denied-with d t a w window device number why n l o = rw (l, o, n) refl

answered-by : (tells : Bool) (d : Driver) (c : Controller) (i : ℕ) (t : FetchedCommand) (x : FetchedItem) (w : World)
    (device : Device) (cntlid : ℕ) (a : CommandExecution)
    → Sound d c → slice_get c.fetched i ≡ Some t → slice_get (mailbox d c).fetched i ≡ Some x → t.queue ≡ 1
    → (v : Verdict) → spec.io_verdict w cntlid t.entry t.marked c.window ≡ v → VerdictRefuses v
    → ExecutesBy v tells cntlid t.entry (scene w c.window device) a.left a.outcome
    → IsAnsweredInItsSlot tells d c t x w device cntlid a
answered-by tells d c i t x w device cntlid a s g f q (Denied number why) e n h = record {
  bytes = [];
  window = ap (λ z. z.window) h.0 ∙ sym (stored-none c.window (data_area (cid t.entry)));
  few = omega arith;
  whole = (let o = h.1 in let m = unsuccessful why n in rw (o, m) (omega arith));
  comes_to = as-io tells cntlid x (record { world = w; device = device }) (request_execution_with d t a [])
      (Denied number why) (lane-at Io d c i t x (io-known d c i t s g q) g f (ap lane_of_queue q))
      (verdict-is d c i t x w cntlid s g f q ∙ e)
      (denied-with d t a w c.window device number why (unsuccessful why n) h.0 h.1);
}
answered-by tells d c i t x w device cntlid a s g f q (Allowed plan) e n h =
    let r : IsServedInItsSlot tells d c t x w device cntlid plan.kind a =
    allowed_serves_its_request tells d c i t x w device cntlid plan a s g f q e h in
    record {
      bytes = r.bytes;
      window = r.window;
      few = r.few;
      whole = r.whole;
      comes_to = as-io tells cntlid x (record { world = w; device = device }) (request_execution_with d t a r.bytes)
          (Allowed plan) (lane-at Io d c i t x (io-known d c i t s g q) g f (ap lane_of_queue q))
          (verdict-is d c i t x w cntlid s g f q ∙ e) r.served;
    }

pub answers_its_request : AnswersItsRequest
answers_its_request tells d c i t x w device cntlid a s g f q h =
    answered-by tells d c i t x w device cntlid a s g f q (spec.io_verdict w cntlid t.entry t.marked c.window) refl
    (verdict-refuses w cntlid t.entry t.marked c.window) h
