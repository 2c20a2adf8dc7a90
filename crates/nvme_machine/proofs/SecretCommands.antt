-- For `Secrecy`: a command has the same effect over a medium that differs only in a namespace that its host may not
-- read.
use Rattle.std.proofs.Common.{
  ◌≡◌,
  ◌≢◌,
  inl,
  inr,
  ℕ,
  ◌+◌,
  ◌*◌,
  ◌≤◌,
  ◌==◌,
  ◌&&◌,
  not,
  Bool,
  true,
  false,
  List,
  [],
  ◌∷◌,
  length,
  take,
  Option,
  None,
  Some,
  refl,
  sym,
  ap,
  subst,
  ◌∙◌,
  arith,
}
use Rattle.std.specs.Prelude.{if◌then◌else◌, is_some, replicate}
use Rattle.std.proofs.lemmas.Bool.{or_parts, false≢true, leb-true}
use Rattle.std.proofs.lemmas.List.{length-replicate, length-take-le}
use Rattle.nvme_wire.specs.Submission.{opcode, nsid}
use Rattle.nvme_wire.specs.declared.status.Status.{Status}
use Rattle.nvme_spec.specs.declared.access.Group.{Group}
use Rattle.nvme_spec.specs.declared.access.Group.TheVariants.{Read as Reading, Write as Writing}
use Rattle.nvme_spec.specs.declared.access.Hold.{Hold}
use Rattle.nvme_spec.specs.declared.access.Hold.TheVariants.{Free, One, All}
use Rattle.nvme_spec.specs.declared.access.Role.{Role}
use Rattle.nvme_spec.specs.declared.access.Role.TheVariants.{Outsider, Registrant, Holder}
use Rattle.nvme_spec.specs.declared.command.Command.{Command}
use Rattle.nvme_spec.specs.declared.command.Command.TheVariants.{
  Flush,
  Write,
  Read,
  Compare,
  WriteZeroes,
  ReservationRegister,
  ReservationReport,
  ReservationAcquire,
  ReservationRelease,
}
use Rattle.nvme_spec.specs.Access.{Row, rights_table, rights_of, allows, is_permitted}
use Rattle.nvme_spec.specs.Bytes.{with_bytes}
use Rattle.nvme_spec.specs.Blocks.{Device, HasFailed, blocks_from}
use Rattle.nvme_spec.specs.World.{World, Namespace, namespace_of, host_of, is_attached}
use Rattle.nvme_spec.specs.Commands.{starting_lba, block_count, data_length_of, command_of, is_one_of}
use Rattle.nvme_spec.specs.Effects.{Completes, Faults, ReadEffect, WriteEffect, CompareEffect, FlushEffect}
use Rattle.nvme_spec.specs.declared.outcome.Outcome.{Outcome}
use Rattle.nvme_spec.specs.declared.queues.Queues.{Queues}
use Rattle.nvme_spec.specs.declared.verdict.Verdict.{Verdict}
use Rattle.nvme_spec.specs.declared.verdict.Verdict.TheVariants.{Allowed, Denied}
use Rattle.nvme_spec.specs.Execution.{
  Scene,
  ActsOnBlocks,
  ActsOnReservation,
  Performs,
  ExecutesBy,
  medium_block,
  start_of,
}
use Rattle.nvme_spec.specs.BlockCommands.{BlockEffect}
use Rattle.nvme_spec.specs.IoData.{data_of, io_verdict}
use Rattle.nvme_spec.specs.IoRules.{permits_group, role_in, has_blocks_below}
use Rattle.nvme_spec.specs.Layout.{Extent, extent_of, bytes_of, IsLaidOut, may_read, may_write}
use Rattle.nvme_spec.proofs.Contents.{length-data_in}
use Rattle.nvme_spec.proofs.Splices.{length-with_bytes}
use Rattle.nvme_spec.proofs.FaultFree.{extent-known}
use Rattle.nvme_spec.proofs.Passing.{HasPassed, has-passed, not_false, some_of}
use Rattle.nvme_machine.specs.declared.fetched.FetchedCommand.{FetchedCommand}
use Rattle.nvme_machine.specs.CommandExecutions.{CommandExecution, CommandComesTo, CommandComesToAs}
use Rattle.nvme_machine.specs.Secrecy.{DifferIn}
use Rattle.nvme_machine.proofs.Agreeing.{Agree, same-read, both-written}

-- A host that may not read may not write.

-- of a row of the table
abbrev WritesLess : Row → Type 0
WritesLess r = (role : Role) → allows (rights_of r role) Reading ≡ false → allows (rights_of r role) Writing ≡ false

either : (b : Bool) (r s : Row) → WritesLess r → WritesLess s → WritesLess (if b then r else s)
either true r s p q = p
either false r s p q = q

by-role : (r : Row) → (allows r.outsider Reading ≡ false → allows r.outsider Writing ≡ false)
    → (allows r.registrant Reading ≡ false → allows r.registrant Writing ≡ false)
    → (allows r.holder Reading ≡ false → allows r.holder Writing ≡ false) → WritesLess r
by-role r o p q Outsider h = o h
by-role r o p q Registrant h = p h
by-role r o p q Holder h = q h

impossible : {A : Type 0} → true ≡ false → A
impossible e = absurd (cc)

table : (type : ℕ) → WritesLess (rights_table type)
table type =
    either (type == 1) _ _ (by-role _ impossible impossible impossible)
    (either (type == 2) _ _ (by-role _ (λ h. h) (λ h. h) impossible)
    (either (type == 3) _ _ (by-role _ impossible impossible impossible)
    (either (type == 4) _ _ (by-role _ (λ h. h) impossible impossible)
    (either (type == 5) _ _ (by-role _ impossible impossible impossible)
    (by-role _ (λ h. h) impossible impossible)))))

held : (hold : Hold) (role : Role) → is_permitted hold role Reading ≡ false → is_permitted hold role Writing ≡ false
held Free role h = impossible h
held (One type host) role h = table type role h
held (All type) role h = table type role h

in-namespace : (o : Option Namespace) (host : Option ℕ) → permits_group o host Reading ≡ false
    → permits_group o host Writing ≡ false
in-namespace None host h = impossible h
in-namespace (Some n) host h = held n.reservation.hold (role_in n host) h

writes-less : (w : World) (k n : ℕ) → may_read w k n ≡ false → may_write w k n ≡ false
unfolding may_read may_write
writes-less w k n h = in-namespace (namespace_of w n) (host_of w k) h

-- So a command on blocks that passed names another namespace.

abbrev permitted : World → ℕ → ℕ → Group → Bool
permitted w k m group = permits_group (namespace_of w m) (host_of w k) group

elsewhere : (w : World) (k n m : ℕ) (group : Group)
    → permitted w k m group ≡ true → permitted w k n group ≡ false → m ≢ n
elsewhere w k n m group granted denied same =
    false≢true (sym denied ∙ ap (λ l. permitted w k l group) (sym same) ∙ granted)

-- the reservation let a command pass that reads or writes
not-read : (w : World) (k n m : ℕ) → may_read w k n ≡ false → not (permitted w k m Reading) ≡ false → m ≢ n
unfolding may_read
not-read w k n m fenced h = elsewhere w k n m Reading (not_false _ h) fenced

not-written : (w : World) (k n m : ℕ) → may_read w k n ≡ false → not (permitted w k m Writing) ≡ false → m ≢ n
unfolding may_write
not-written w k n m fenced h = elsewhere w k n m Writing (not_false _ h) (writes-less w k n fenced)

-- the blocks of a command that passed and has a range
record Lies (w : World) (e : List ℕ) (x : Extent) : Type 0 where
  named : extent_of w (nsid e) ≡ Some x
  start : medium_block w e ≡ x.first + starting_lba e
  fits : starting_lba e + block_count e ≤ x.blocks

lies : (w : World) (k : ℕ) (e : List ℕ) → (is_some (namespace_of w (nsid e)) && is_attached w k (nsid e)) ≡ true
    → not (has_blocks_below (namespace_of w (nsid e)) (starting_lba e + block_count e)) ≡ false
    → (x : Extent) × Lies w e x
lies w k e attached below =
    let s = some_of (namespace_of w (nsid e)) (is_attached w k (nsid e)) attached in (
      record { first = s.0.first; blocks = s.0.blocks },
      record {
        named = extent-known w (nsid e) s.0 s.1;
        start = ap (λ o. start_of o + starting_lba e) s.1;
        fits = leb-true _ _
            (not_false _ (ap (λ o. not (has_blocks_below o (starting_lba e + block_count e))) (sym s.1) ∙ below));
      },
    )

-- A command has the same effect over both media.

-- over a medium that differs in a namespace: the other medium after the same effect
abbrev pub Mirrors : ℕ → World → Device → (Device → Type 0) → Type 0
Mirrors n w new does = (e : Device) × does e × DifferIn n w new e

completes : (old new d e : Device) (answer why : Status) → d.failures ≡ old.failures → e.failures ≡ new.failures
    → Completes old new answer why → Completes d e answer why
completes old new d e answer why before after c =
    record { answered = c.answered; failures = after ∙ c.failures ∙ sym before }

faults : (old new d e : Device) (answer why : Status) → d.failures ≡ old.failures → e.failures ≡ new.failures
    → Faults old new answer why → Faults d e answer why
faults old new d e answer why before after f =
    record {
      answered = f.answered;
      failures = subst (λ m. HasFailed m e.failures) (sym before)
          (subst (λ m. HasFailed old.failures m) (sym after) f.failures);
    }

-- the other medium, if the content stayed
abbrev counted : Device → Device → Device
counted d new = record { content = d.content; failures = new.failures }

kept : (n : ℕ) (w : World) (old new d : Device) → DifferIn n w old d → new.content ≡ old.content
    → DifferIn n w new (counted d new)
kept n w old new d differ same = record {
  failures = refl;
  size = differ.size ∙ ap length (sym same);
  others = λ m other. differ.others m other ∙ ap (λ c. bytes_of w c m) (sym same);
}

flushes : (n : ℕ) (w : World) (old new d : Device) (answer : Status)
    → DifferIn n w old d → FlushEffect true old new answer → Mirrors n w new (λ e. FlushEffect true d e answer)
flushes n w old new d answer differ f = (
  counted d new,
  (
    λ told. refl,
    elim f.1 [
      | inl done ↦ inl (completes old new d (counted d new) answer _ differ.failures refl done)
      | inr failed ↦ inr (faults old new d (counted d new) answer _ differ.failures refl failed)
    ],
  ),
  kept n w old new d differ (f.0 refl),
)

-- blocks of another namespace read the same
abbrev ReadsSame : Device → Device → ℕ → ℕ → Type 0
ReadsSame old d first bytes =
    (len : ℕ) → len ≤ bytes → blocks_from d.content first len ≡ blocks_from old.content first len

reads : (n : ℕ) (w : World) (old new d : Device) (first bytes : ℕ) (answer : Status) (read : List ℕ)
    → DifferIn n w old d → ReadsSame old d first bytes
    → ReadEffect true first bytes old new answer read
    → Mirrors n w new (λ e. ReadEffect true first bytes d e answer read)
reads n w old new d first bytes answer read differ same f = (
  counted d new,
  (
    λ told. refl,
    elim f.1 [
      | inl done ↦ inl (
        completes old new d (counted d new) answer _ differ.failures refl done.0,
        done.1,
        λ told. done.2 refl ∙ sym (same bytes (omega arith)),
      )
      | inr failed ↦ inr (
        faults old new d (counted d new) answer _ differ.failures refl failed.0,
        (let front = failed.1 in record {
          at = front.at;
          within = front.within;
          size = front.size;
          is = λ told. front.is refl ∙ sym (same (512 * front.at) (omega (arith, front.within)));
        }),
      )
    ],
  ),
  kept n w old new d differ (f.0 refl),
)

compares : (n : ℕ) (w : World) (old new d : Device) (first : ℕ) (bytes : List ℕ) (answer : Status)
    → DifferIn n w old d → ReadsSame old d first (length bytes)
    → CompareEffect true first bytes old new answer → Mirrors n w new (λ e. CompareEffect true first bytes d e answer)
compares n w old new d first bytes answer differ same f = (
  counted d new,
  (
    λ told. refl,
    elim f.1 [
      | inl equal ↦ inl (
        completes old new d (counted d new) answer _ differ.failures refl equal.0,
        λ told. same (length bytes) (omega arith) ∙ equal.1 refl,
      )
      | inr (inl other) ↦ inr (inl (
        completes old new d (counted d new) answer _ differ.failures refl other.0,
        λ told is. other.1 refl (sym (same (length bytes) (omega arith)) ∙ is),
      ))
      | inr (inr failed) ↦ inr (inr (
        faults old new d (counted d new) answer _ differ.failures refl failed.0,
        λ told. (let front = failed.1 refl in record {
          at = front.at;
          within = front.within;
          same = same (512 * front.at) (omega (arith, front.within)) ∙ front.same;
        }),
      ))
    ],
  ),
  kept n w old new d differ (f.0 refl),
)

agree : (n : ℕ) (w : World) (d e : Device) → DifferIn n w d e → Agree n w d.content e.content
agree n w d e differ = record { size = differ.size; others = differ.others }

-- a content after a write
changed : (n : ℕ) (w : World) (new : Device) (xs ys : List ℕ) → new.content ≡ xs → Agree n w xs ys
    → DifferIn n w new (record { content = ys; failures = new.failures })
changed n w new xs ys is a = record {
  failures = refl;
  size = a.size ∙ ap length (sym is);
  others = λ m other. a.others m other ∙ ap (λ c. bytes_of w c m) (sym is);
}

writes : (n : ℕ) (w : World) (old new d : Device) (e : List ℕ) (x : Extent) (bytes : List ℕ) (answer : Status)
    → IsLaidOut w old.content → DifferIn n w old d → nsid e ≢ n → Lies w e x
    → length bytes ≡ 512 * block_count e → WriteEffect true (medium_block w e) bytes old new answer
    → Mirrors n w new (λ e'. WriteEffect true (medium_block w e) bytes d e' answer)
writes n w old new d e x bytes answer laid differ other l whole f = elim f [
  | inl done ↦ (
    record { content = with_bytes d.content (512 * medium_block w e) bytes; failures = new.failures },
    inl (
      completes old new d
          (record { content = with_bytes d.content (512 * medium_block w e) bytes; failures = new.failures }) answer _
          differ.failures refl done.0,
      λ told. refl,
    ),
    changed n w new _ _ (done.1 refl) (both-written n (nsid e) w old.content d.content x
        (512 * medium_block w e) bytes laid (agree n w old d differ) l.named
        (omega (arith, l.start)) (omega (arith, l.start, l.fits, whole))),
  )
  | inr stopped ↦ (let s = stopped.1 refl in
      let torn = s.torn in
      let front : List ℕ = take (512 * s.at) bytes in
      let long : length front ≡ 512 * s.at = length-take-le (512 * s.at) bytes (omega (arith, s.within)) in
      let one = both-written n (nsid e) w old.content d.content x (512 * medium_block w e) front laid
      (agree n w old d differ) l.named
      (omega (arith, l.start)) (omega (arith, l.start, l.fits, whole, long, s.within)) in
      let two = both-written n (nsid e) w (with_bytes old.content (512 * medium_block w e) front)
      (with_bytes d.content (512 * medium_block w e) front) x (512 * (medium_block w e + s.at)) torn.left
      (still-laid w old.content x e front laid l (omega (arith, l.fits, whole, long, s.within))) one l.named
      (omega (arith, l.start)) (omega (arith, l.start, l.fits, whole, s.within, torn.whole)) in (
        record {
          content = with_bytes (with_bytes d.content (512 * medium_block w e) front)
              (512 * (medium_block w e + s.at)) torn.left;
          failures = new.failures;
        },
        inr (
          faults old new d (record {
            content = with_bytes (with_bytes d.content (512 * medium_block w e) front)
                (512 * (medium_block w e + s.at)) torn.left;
            failures = new.failures;
          }) answer _ differ.failures refl stopped.0,
          λ told. record {
            at = s.at;
            within = s.within;
            torn = record { left = torn.left; whole = torn.whole; is = refl };
          },
        ),
        changed n w new _ _ torn.is two,
      ))
]
  where
    still-laid : (w : World) (content : List ℕ) (x : Extent) (e front : List ℕ) → IsLaidOut w content → Lies w e x
        → 512 * starting_lba e + length front ≤ 512 * x.blocks
        → IsLaidOut w (with_bytes content (512 * medium_block w e) front)
    still-laid w content x e front laid l fits =
        let inside = laid.within (nsid e) x l.named in
        let size = length-with_bytes content (512 * medium_block w e) front (omega (arith, l.start, inside, fits)) in
        record { within = λ m y is. (let b = laid.within m y is in omega (arith, b, size)); apart = laid.apart }

-- the medium keeps its size
written-size : (w : World) (old new : Device) (e : List ℕ) (x : Extent) (bytes : List ℕ) (answer : Status)
    → IsLaidOut w old.content → Lies w e x
    → length bytes ≡ 512 * block_count e → WriteEffect true (medium_block w e) bytes old new answer
    → length new.content ≡ length old.content
written-size w old new e x bytes answer laid l whole f =
    let inside = laid.within (nsid e) x l.named in
    elim f [
      | inl done ↦ ap length (done.1 refl)
          ∙ length-with_bytes old.content (512 * medium_block w e) bytes (omega (arith, l.start, l.fits, inside, whole))
      | inr stopped ↦ (let s = stopped.1 refl in
          let torn = s.torn in
          let front : List ℕ = take (512 * s.at) bytes in
          let long : length front ≡ 512 * s.at = length-take-le (512 * s.at) bytes (omega (arith, s.within)) in
          let one = length-with_bytes old.content (512 * medium_block w e) front
          (omega (arith, l.start, l.fits, inside, whole, long, s.within)) in
          ap length torn.is
          ∙ length-with_bytes (with_bytes old.content (512 * medium_block w e) front)
          (512 * (medium_block w e + s.at)) torn.left
          (omega (arith, l.start, l.fits, inside, whole, long, s.within, torn.whole, one))
          ∙ one)
    ]

-- the scene over another medium
abbrev pub scene_over : Device → Scene → Scene
scene_over d s = record s { device = d }

on-blocks : (n : ℕ) (s new : Scene) (d : Device) (command : Command) (e sent : List ℕ) (answer : Status)
    (returned : List ℕ) → new.world ≡ s.world
    → Mirrors n s.world new.device
    (λ x. BlockEffect true command (medium_block s.world e) (block_count e) sent d x answer returned)
    → Mirrors n s.world new.device
    (λ x. ActsOnBlocks true command e sent (scene_over d s) (scene_over x new) answer returned)
on-blocks n s new d command e sent answer returned world m = (m.0, record { world = world; effect = m.1 }, m.2)

reads-same : (n : ℕ) (w : World) (k : ℕ) (e : List ℕ) (old d : Device) (bytes : ℕ) → IsLaidOut w old.content
    → DifferIn n w old d → nsid e ≢ n → (x : Extent) → Lies w e x → bytes ≤ 512 * block_count e
    → ReadsSame old d (medium_block w e) bytes
reads-same n w k e old d bytes laid differ other x l small len short =
    same-read n (nsid e) w old.content d.content x (medium_block w e) (starting_lba e) len
    (agree n w old d differ) other l.named l.start
    (omega (arith, l.fits, small, short)) (laid.within (nsid e) x l.named)

whole-data : (command : Command) (window e : List ℕ) → command_of (opcode e) ≡ Some command
    → length (data_of window e) ≡ data_length_of (Some command) e
whole-data command window e named =
    length-data_in (data_length_of (command_of (opcode e)) e) window e ∙ ap (λ o. data_length_of o e) named

-- if nothing of the medium changes
same-device : (n : ℕ) (s new : Scene) (d : Device) → DifferIn n s.world s.device d → new.device ≡ s.device
    → DifferIn n s.world new.device d
same-device n s new d differ is = subst (λ x. DifferIn n s.world x d) (sym is) differ

abbrev pub MirrorsPerformance : ℕ → Command → ℕ → List ℕ → List ℕ → Scene → Scene → Device → Status → List ℕ → Type 0
MirrorsPerformance n command k e sent s new d answer returned =
    Mirrors n s.world new.device
    (λ x. Performs true command k e sent (scene_over d s) (scene_over x new) answer returned)

reserves : (n k : ℕ) (e sent : List ℕ) (s new : Scene) (d : Device) (answer : Status) (returned : List ℕ)
    → DifferIn n s.world s.device d → ActsOnReservation k e sent s new answer returned
    → Mirrors n s.world new.device (λ x. ActsOnReservation k e sent (scene_over d s) (scene_over x new) answer returned)
reserves n k e sent s new d answer returned differ h = (
  d,
  record { answered = h.answered; world = h.world; device = refl; data_back = h.data_back },
  same-device n s new d differ h.device,
)

-- a command has the data for all blocks that it names
abbrev pub BringsItsData : Command → List ℕ → List ℕ → Type 0
BringsItsData command e sent =
    is_one_of (Some command) (Write ∷ Compare ∷ []) ≡ true → length sent ≡ data_length_of (Some command) e

pub performs : (n : ℕ) (s : Scene) (k : ℕ) (e sent : List ℕ) (command : Command) (new : Scene) (d : Device)
    (answer : Status) (returned : List ℕ) → IsLaidOut s.world s.device.content → DifferIn n s.world s.device d
    → may_read s.world k n ≡ false → HasPassed s.world k e command → BringsItsData command e sent
    → Performs true command k e sent s new answer returned
    → MirrorsPerformance n command k e sent s new d answer returned
performs n s k e sent Flush new d answer returned laid differ fenced p brings h =
    let f = h.effect in
    let m = flushes n s.world s.device new.device d answer differ f.0 in
    on-blocks n s new d Flush e sent answer returned h.world (m.0, (m.1, f.1), m.2)
performs n s k e sent Read new d answer returned laid differ fenced p brings h =
    let other = not-read s.world k n (nsid e) fenced ((or_parts _ _ p.permitted).0) in
    let l = lies s.world k e p.attached p.fits in
    on-blocks n s new d Read e sent answer returned h.world
    (reads n s.world s.device new.device d (medium_block s.world e) (512 * block_count e) answer returned differ
    (reads-same n s.world k e s.device d (512 * block_count e) laid differ other l.0 l.1 (omega arith)) h.effect)
performs n s k e sent Compare new d answer returned laid differ fenced p brings h =
    let f = h.effect in
    let other = not-read s.world k n (nsid e) fenced ((or_parts _ _ p.permitted).0) in
    let l = lies s.world k e p.attached p.fits in
    let whole = brings refl in
    let m = compares n s.world s.device new.device d (medium_block s.world e) sent answer differ
    (reads-same n s.world k e s.device d (length sent) laid differ other l.0 l.1 (omega (arith, whole))) f.0 in
    on-blocks n s new d Compare e sent answer returned h.world (m.0, (m.1, f.1), m.2)
performs n s k e sent Write new d answer returned laid differ fenced p brings h =
    let f = h.effect in
    let other = not-written s.world k n (nsid e) fenced p.permitted in
    let l = lies s.world k e p.attached p.fits in
    let m = writes n s.world s.device new.device d e l.0 sent answer laid differ other l.1 (brings refl) f.0 in
    on-blocks n s new d Write e sent answer returned h.world (m.0, (m.1, f.1), m.2)
performs n s k e sent WriteZeroes new d answer returned laid differ fenced p brings h =
    let f = h.effect in
    let other = not-written s.world k n (nsid e) fenced p.permitted in
    let l = lies s.world k e p.attached p.fits in
    let m = writes n s.world s.device new.device d e l.0
    (replicate (512 * block_count e) 0) answer laid differ other l.1 (length-replicate (512 * block_count e) 0) f.0 in
    on-blocks n s new d WriteZeroes e sent answer returned h.world (m.0, (m.1, f.1), m.2)
performs n s k e sent ReservationRegister new d answer returned laid differ fenced p brings h =
    reserves n k e sent s new d answer returned differ h
performs n s k e sent ReservationAcquire new d answer returned laid differ fenced p brings h =
    reserves n k e sent s new d answer returned differ h
performs n s k e sent ReservationRelease new d answer returned laid differ fenced p brings h =
    reserves n k e sent s new d answer returned differ h
performs n s k e sent ReservationReport new d answer returned laid differ fenced p brings h = (
  d,
  record { answered = h.answered; world = h.world; device = refl; data_back = h.data_back },
  same-device n s new d differ h.device,
)

-- the medium keeps its size
pub performed-size : (s : Scene) (k : ℕ) (e sent : List ℕ) (command : Command) (new : Scene) (answer : Status)
    (returned : List ℕ) → IsLaidOut s.world s.device.content
    → HasPassed s.world k e command → BringsItsData command e sent
    → Performs true command k e sent s new answer returned
    → length new.device.content ≡ length s.device.content
performed-size s k e sent Read new answer returned laid p brings h = let f = h.effect in ap length (f.0 refl)
performed-size s k e sent Write new answer returned laid p brings h =
    let f = h.effect in
    let l = lies s.world k e p.attached p.fits in
    written-size s.world s.device new.device e l.0 sent answer laid l.1 (brings refl) f.0
performed-size s k e sent WriteZeroes new answer returned laid p brings h =
    let f = h.effect in
    let l = lies s.world k e p.attached p.fits in
    written-size s.world s.device new.device e l.0 (replicate (512 * block_count e) 0) answer laid l.1
    (length-replicate (512 * block_count e) 0) f.0
performed-size s k e sent ReservationRegister new answer returned laid p brings h =
    ap (λ (d : Device). length d.content) h.device
performed-size s k e sent ReservationAcquire new answer returned laid p brings h =
    ap (λ (d : Device). length d.content) h.device
performed-size s k e sent ReservationRelease new answer returned laid p brings h =
    ap (λ (d : Device). length d.content) h.device
performed-size s k e sent ReservationReport new answer returned laid p brings h =
    ap (λ (d : Device). length d.content) h.device
performed-size s k e sent command new answer returned laid p brings h = let f = h.effect in ap length (f.0.0 refl)

by-verdict : (v : Verdict) (n k : ℕ) (e : List ℕ) (marked : Bool) (s new : Scene) (d : Device) (o : Outcome)
    → io_verdict s.world k e marked s.window ≡ v → IsLaidOut s.world s.device.content
    → DifferIn n s.world s.device d → may_read s.world k n ≡ false → ExecutesBy v true k e s new o
    → Mirrors n s.world new.device (λ x. ExecutesBy v true k e (scene_over d s) (scene_over x new) o)
by-verdict (Denied number why) n k e marked s new d o is laid differ fenced h =
    (d, (ap (scene_over d) h.0, h.1), same-device n s new d differ (ap (λ (x : Scene). x.device) h.0))
by-verdict (Allowed plan) n k e marked s new d o is laid differ fenced h =
    let p = has-passed s.world k e marked s.window plan is in
    let m = performs n s k e (data_of s.window e) plan.kind new d o.status h.returned laid differ fenced p
    (λ brings. whole-data plan.kind s.window e p.named) h.effect in (
      m.0,
      record { returned = h.returned; effect = m.1; window = h.window; dw0 = h.dw0; rule = h.rule; marks = h.marks },
      m.2,
    )

-- the answer to a command over another medium
abbrev pub command_execution_over : Device → CommandExecution → CommandExecution
command_execution_over d a = record { outcome = a.outcome; change = a.change; left = scene_over d a.left }

answers-as : (admin : Bool) (n : ℕ) (queues : Queues) (k : ℕ) (t : FetchedCommand) (s : Scene) (a : CommandExecution)
    (d : Device) → IsLaidOut s.world s.device.content → DifferIn n s.world s.device d
    → may_read s.world k n ≡ false → CommandComesToAs admin true queues k t s a
    → Mirrors n s.world a.left.device
    (λ x. CommandComesToAs admin true queues k t (scene_over d s) (command_execution_over x a))
answers-as true n queues k t s a d laid differ fenced h = (
  d,
  ap (command_execution_over d) h,
  same-device n s a.left d differ (ap (λ (y : CommandExecution). y.left.device) h),
)
answers-as false n queues k t s a d laid differ fenced h =
    let m = by-verdict (io_verdict s.world k t.entry t.marked s.window) n k t.entry t.marked s a.left d a.outcome refl
    laid differ fenced h.1 in
    (m.0, (h.0, m.1), m.2)

pub answers-over : (n : ℕ) (queues : Queues) (k : ℕ) (t : FetchedCommand) (s : Scene) (a : CommandExecution)
    (d : Device) → IsLaidOut s.world s.device.content → DifferIn n s.world s.device d
    → may_read s.world k n ≡ false → CommandComesTo true queues k t s a
    → Mirrors n s.world a.left.device
    (λ x. CommandComesTo true queues k t (scene_over d s) (command_execution_over x a))
unfolding CommandComesTo
answers-over n queues k t s a d laid differ fenced h = answers-as (t.queue == 0) n queues k t s a d laid differ fenced h
