-- For laws about runs: without a fault of the medium, the execution of an I/O command is determined.
use Rattle.std.proofs.Common.{
  ◌≡◌,
  ◌≢◌,
  ◌⊎◌,
  inl,
  inr,
  ℕ,
  ◌+◌,
  ◌-◌,
  ◌*◌,
  ◌^◌,
  ◌<◌,
  ◌≤◌,
  ◌&&◌,
  not,
  min,
  Bool,
  true,
  false,
  List,
  take,
  length,
  Some,
  refl,
  sym,
  ap,
  ◌∙◌,
  arith,
  length-drop,
}
use Rattle.std.specs.Prelude.{is_some}
use Rattle.std.specs.Str.{bytes_eq}
use Rattle.std.proofs.lemmas.List.{length-take}
use Rattle.std.proofs.lemmas.Bool.{cases_Bool, leb-true, false≢true}
use Rattle.std.proofs.lemmas.Slice.Eq.{bytes_eq-Decides}
use Rattle.nvme_wire.specs.Submission.{nsid}
use Rattle.nvme_wire.specs.declared.status.Status.{Status}
use Rattle.nvme_spec.specs.declared.command.Command.{Command}
use Rattle.nvme_spec.specs.declared.command.Command.TheVariants.{
  Flush,
  Write,
  Read,
  Compare,
  WriteZeroes,
  ReservationRegister,
  ReservationReport,
  ReservationAcquire,
  ReservationRelease,
}
use Rattle.nvme_spec.specs.declared.outcome.Outcome.{Outcome}
use Rattle.nvme_spec.specs.declared.verdict.Verdict.{Verdict}
use Rattle.nvme_spec.specs.declared.verdict.Verdict.TheVariants.{Allowed, Denied}
use Rattle.nvme_spec.specs.Bytes.{with_bytes}
use Rattle.nvme_spec.specs.Blocks.{Device, Told, HasFailed, blocks_from}
use Rattle.nvme_spec.specs.World.{World, Namespace, namespace_of, is_attached}
use Rattle.nvme_spec.specs.Commands.{starting_lba, block_count, data_length, kind_of}
use Rattle.nvme_spec.specs.Transfers.{with_scattered}
use Rattle.nvme_spec.specs.IoRules.{has_blocks_below}
use Rattle.nvme_spec.specs.DataRules.{data_addresses}
use Rattle.nvme_spec.specs.IoData.{data_of, io_verdict}
use Rattle.nvme_spec.specs.Effects.{Completes, Faults, ReadEffect, WriteEffect, CompareEffect, FlushEffect}
use Rattle.nvme_spec.specs.Execution.{Scene, ExecutesBy, IsPerformed, Performs, medium_block, start_of}
use Rattle.nvme_spec.specs.Layout.{IsLaidOut, extent_of}
use Rattle.nvme_spec.specs.FaultFree.{
  Performance,
  performance_as,
  performance_of,
  performed,
  fault_free_by,
  fault_free_execution,
}
use Rattle.nvme_spec.specs.BlockCommands.{compared}
use Rattle.nvme_spec.specs.ExecutionLaws.{FailuresNeverFall, FaultFreeExecutes, ExecutesAlone}
use Rattle.nvme_spec.specs.Statuses as status
use Rattle.nvme_spec.proofs.Passing.{HasPassed, has-passed, not_false, some_of}

-- The failure count never falls.

completes-count : (old new : Device) (answer done : Status)
    → Completes old new answer done → old.failures ≤ new.failures
completes-count old new answer done c = let f = c.failures in omega (arith, f)

faults-count : (old new : Device) (answer why : Status) → Faults old new answer why → old.failures ≤ new.failures
faults-count old new answer why f = let h = f.failures in h.later

write-count : (first : ℕ) (bytes : List ℕ) (old new : Device) (answer : Status) (tells : Bool)
    → WriteEffect tells first bytes old new answer → old.failures ≤ new.failures
write-count first bytes old new answer tells (inl done) = completes-count old new answer _ done.0
write-count first bytes old new answer tells (inr stopped) = faults-count old new answer _ stopped.0

flush-count : (old new : Device) (answer : Status) (tells : Bool) → FlushEffect tells old new answer
    → old.failures ≤ new.failures
flush-count old new answer tells (same, inl done) = completes-count old new answer _ done
flush-count old new answer tells (same, inr failed) = faults-count old new answer _ failed

read-count : (first bytes : ℕ) (old new : Device) (answer : Status) (read : List ℕ) (tells : Bool)
    → ReadEffect tells first bytes old new answer read → old.failures ≤ new.failures
read-count first bytes old new answer read tells (same, inl done) = completes-count old new answer _ done.0
read-count first bytes old new answer read tells (same, inr failed) = faults-count old new answer _ failed.0

compare-count : (first : ℕ) (bytes : List ℕ) (old new : Device) (answer : Status) (tells : Bool)
    → CompareEffect tells first bytes old new answer → old.failures ≤ new.failures
compare-count first bytes old new answer tells (same, inl done) = completes-count old new answer _ done.0
compare-count first bytes old new answer tells (same, inr (inl differ)) = completes-count old new answer _ differ.0
compare-count first bytes old new answer tells (same, inr (inr failed)) = faults-count old new answer _ failed.0

pub performs-count : (tells : Bool) (command : Command) (k : ℕ) (e sent : List ℕ) (old new : Scene) (answer : Status)
    (returned : List ℕ)
    → Performs tells command k e sent old new answer returned → old.device.failures ≤ new.device.failures
performs-count tells Flush k e sent old new answer returned h = let f = h.effect in
    flush-count old.device new.device answer tells f.0
performs-count tells Write k e sent old new answer returned h = let f = h.effect in
    write-count _ _ old.device new.device answer tells f.0
performs-count tells WriteZeroes k e sent old new answer returned h = let f = h.effect in
    write-count _ _ old.device new.device answer tells f.0
performs-count tells Read k e sent old new answer returned h = let f = h.effect in
    read-count _ _ old.device new.device answer returned tells f
performs-count tells Compare k e sent old new answer returned h = let f = h.effect in
    compare-count _ _ old.device new.device answer tells f.0
performs-count tells ReservationRegister k e sent old new answer returned h = let d =
    ap (λ (x : Device). x.failures) h.device in omega (arith, d)
performs-count tells ReservationAcquire k e sent old new answer returned h = let d =
    ap (λ (x : Device). x.failures) h.device in omega (arith, d)
performs-count tells ReservationRelease k e sent old new answer returned h = let d =
    ap (λ (x : Device). x.failures) h.device in omega (arith, d)
performs-count tells ReservationReport k e sent old new answer returned h = let d =
    ap (λ (x : Device). x.failures) h.device in omega (arith, d)

by-count : (v : Verdict) (tells : Bool) (k : ℕ) (e : List ℕ) (old new : Scene) (o : Outcome)
    → ExecutesBy v tells k e old new o → old.device.failures ≤ new.device.failures
by-count (Denied number why) tells k e old new o h = let f = ap (λ (s : Scene). s.device.failures) h.0 in
    omega (arith, f)
by-count (Allowed plan) tells k e old new o h =
    performs-count tells plan.kind k e (data_of old.window e) old new o.status h.returned h.effect

pub failures_never_fall : FailuresNeverFall
failures_never_fall tells k e marked old new o h =
    by-count (io_verdict old.world k e marked old.window) tells k e old new o h

-- Without a fault, the result is that of the function.

-- the state and the answer of a performance
pub record IsSo (p : Performance) (new : Scene) (answer : Status) (returned : List ℕ) : Type 0 where
  pub status : answer ≡ p.status
  pub returned_so : returned ≡ p.returned
  pub world : new.world ≡ p.world
  pub content : new.device.content ≡ p.content

-- no fault, and the count is below its maximum
abbrev pub IsCalm : Scene → Scene → Type 0
IsCalm old new = HasFailed old.device.failures new.device.failures → ⊥

not_risen : (top f g : ℕ) → g ≡ f → f < top → min (f + 1) top ≤ g → ⊥
not_risen top f g same below risen = omega arith

pub calm : (old new : Scene) → new.device.failures ≡ old.device.failures → old.device.failures < 2 ^ 64 - 1
    → IsCalm old new
calm old new same below h = not_risen (2 ^ 64 - 1) old.device.failures new.device.failures same below h.risen

wrote : (first : ℕ) (bytes : List ℕ) (old new : Scene) (answer : Status)
    → IsCalm old new → WriteEffect true first bytes old.device new.device answer
    → (answer ≡ status.successful_completion) × (new.device.content ≡ with_bytes old.device.content (512 * first) bytes)
wrote first bytes old new answer none (inl done) = (let c = done.0 in c.answered, done.1 refl)
wrote first bytes old new answer none (inr stopped) = absurd (let f = stopped.0 in none f.failures)

flushed : (old new : Scene) (answer : Status) → IsCalm old new → FlushEffect true old.device new.device answer
    → (answer ≡ status.successful_completion) × (new.device.content ≡ old.device.content)
flushed old new answer none (same, inl done) = (done.answered, same refl)
flushed old new answer none (same, inr failed) = absurd (none failed.failures)

has_read : (first bytes : ℕ) (old new : Scene) (answer : Status) (read : List ℕ)
    → IsCalm old new → ReadEffect true first bytes old.device new.device answer read
    → (answer ≡ status.successful_completion) × (new.device.content ≡ old.device.content)
    × (read ≡ blocks_from old.device.content first bytes)
has_read first bytes old new answer read none (same, inl done) = (let c = done.0 in c.answered, same refl, done.2 refl)
has_read first bytes old new answer read none (same, inr failed) = absurd (let f = failed.0 in none f.failures)

same-bytes : (xs ys : List ℕ) → xs ≡ ys → bytes_eq xs ys ≡ true
same-bytes xs ys e = let d = bytes_eq-Decides xs ys in d.1 e

other-bytes : (xs ys : List ℕ) → xs ≢ ys → bytes_eq xs ys ≡ false
other-bytes xs ys e = let d = bytes_eq-Decides xs ys in elim (cases_Bool (bytes_eq xs ys)) [
  | inl same ↦ absurd (e (d.0 same))
  | inr differ ↦ differ
]

has_compared : (first : ℕ) (bytes : List ℕ) (old new : Scene) (answer : Status)
    → IsCalm old new → CompareEffect true first bytes old.device new.device answer
    → (answer ≡ compared (bytes_eq (blocks_from old.device.content first (length bytes)) bytes))
    × (new.device.content ≡ old.device.content)
has_compared first bytes old new answer none (same, inl done) =
    (let c = done.0 in c.answered ∙ ap compared (sym (same-bytes _ _ (done.1 refl))), same refl)
has_compared first bytes old new answer none (same, inr (inl differ)) =
    (let c = differ.0 in c.answered ∙ ap compared (sym (other-bytes _ _ (differ.1 refl))), same refl)
has_compared first bytes old new answer none (same, inr (inr failed)) = absurd (let f = failed.0 in none f.failures)

pub is-so : (command : Command) (k : ℕ) (e sent : List ℕ) (old new : Scene) (answer : Status) (returned : List ℕ)
    → IsCalm old new
    → Performs true command k e sent old new answer returned
    → IsSo (performance_as (kind_of command) command k e sent old) new answer returned
is-so Flush k e sent old new answer returned none h =
    let f = h.effect in let r = flushed old new answer none f.0 in
    record { status = r.0; returned_so = f.1; world = h.world; content = r.1 }
is-so Write k e sent old new answer returned none h =
    let f = h.effect in let r = wrote _ _ old new answer none f.0 in
    record { status = r.0; returned_so = f.1; world = h.world; content = r.1 }
is-so WriteZeroes k e sent old new answer returned none h =
    let f = h.effect in let r = wrote _ _ old new answer none f.0 in
    record { status = r.0; returned_so = f.1; world = h.world; content = r.1 }
is-so Read k e sent old new answer returned none h =
    let r = has_read _ _ old new answer returned none h.effect in
    record { status = r.0; returned_so = r.2; world = h.world; content = r.1 }
is-so Compare k e sent old new answer returned none h =
    let f = h.effect in let r = has_compared _ _ old new answer none f.0 in
    record { status = r.0; returned_so = f.1; world = h.world; content = r.1 }
is-so ReservationRegister k e sent old new answer returned none h =
    record {
      status = h.answered;
      returned_so = h.data_back;
      world = h.world;
      content = ap (λ (d : Device). d.content) h.device;
    }
is-so ReservationAcquire k e sent old new answer returned none h =
    record {
      status = h.answered;
      returned_so = h.data_back;
      world = h.world;
      content = ap (λ (d : Device). d.content) h.device;
    }
is-so ReservationRelease k e sent old new answer returned none h =
    record {
      status = h.answered;
      returned_so = h.data_back;
      world = h.world;
      content = ap (λ (d : Device). d.content) h.device;
    }
is-so ReservationReport k e sent old new answer returned none h =
    record {
      status = h.answered;
      returned_so = h.data_back;
      world = h.world;
      content = ap (λ (d : Device). d.content) h.device;
    }

assembled : (command : Command) (k : ℕ) (e : List ℕ) (old new : Scene) (o : Outcome) (p : Performance)
    (x : IsPerformed true command k e old new o)
    → IsSo p new o.status x.returned → new.device.failures ≡ old.device.failures
    → (new ≡ (performed command k e old p).left) × (o ≡ (performed command k e old p).outcome)
assembled command k e old new o p x so f =
    let s = so.status in
    let w = so.world in
    let c = so.content in
    let d = x.dw0 in
    let r = x.rule in
    let m = x.marks in
    let v = x.window ∙ ap (λ bytes. with_scattered old.window
    (take (length bytes) (data_addresses (data_length command e) old.window e)) bytes) so.returned_so in (
      λ i. record { world = w i; window = v i; device = record { content = c i; failures = f i } },
      λ i. record { status = s i; dw0 = d i; rule = r i; marks = m i },
    )

by-alone : (v : Verdict) (k : ℕ) (e : List ℕ) (old new : Scene) (o : Outcome) → ExecutesBy v true k e old new o
    → new.device.failures ≡ old.device.failures → old.device.failures < 2 ^ 64 - 1
    → (new ≡ (fault_free_by v k e old).left) × (o ≡ (fault_free_by v k e old).outcome)
by-alone (Denied number why) k e old new o h f below = h
by-alone (Allowed plan) k e old new o h f below =
    assembled plan.kind k e old new o (performance_of plan.kind k e old) h
    (is-so plan.kind k e (data_of old.window e) old new o.status h.returned (calm old new f below) h.effect) f

pub executes_alone : ExecutesAlone
unfolding fault_free_execution
executes_alone k e marked old new o h f below =
    by-alone (io_verdict old.world k e marked old.window) k e old new o h f below

-- And this result is possible.

length-blocks : (content : List ℕ) (first n : ℕ) → 512 * first + n ≤ length content
    → length (blocks_from content first n) ≡ n
length-blocks content first n fits = simp (length-take, length-drop) (omega arith)

pub extent-known : (w : World) (n : ℕ) (space : Namespace) → namespace_of w n ≡ Some space
    → extent_of w n ≡ Some (record { first = space.first; blocks = space.blocks })
unfolding extent_of
extent-known w n space h = rw h refl

-- a range that passed the rules is on the medium
pub range-fits : (w : World) (content : List ℕ) (k : ℕ) (e : List ℕ)
    → IsLaidOut w content → (is_some (namespace_of w (nsid e)) && is_attached w k (nsid e)) ≡ true
    → not (has_blocks_below (namespace_of w (nsid e)) (starting_lba e + block_count e)) ≡ false
    → 512 * medium_block w e + 512 * block_count e ≤ length content
range-fits w content k e laid attached below =
    let o = some_of (namespace_of w (nsid e)) (is_attached w k (nsid e)) attached in
    let fits = leb-true _ _
    (not_false _ (ap (λ o. not (has_blocks_below o (starting_lba e + block_count e))) (sym o.1) ∙ below)) in
    let at : medium_block w e ≡ o.0.first + starting_lba e = ap (λ x. start_of x + starting_lba e) o.1 in
    let inside = laid.within (nsid e) _ (extent-known w (nsid e) o.0 o.1) in
    omega (arith, at, inside, fits)

-- the state that a performance leaves, with any host memory
abbrev pub left-by : Performance → List ℕ → Scene → Scene
left-by p window s =
    record { world = p.world; window = window; device = record { content = p.content; failures = s.device.failures } }

done-so : (old new : Device) (why : Status) → new.failures ≡ old.failures → Completes old new why why
done-so old new why f = record { answered = refl; failures = f }

compares : (xs ys : List ℕ) (b : Bool) → bytes_eq xs ys ≡ b → (old new : Device) (failed : Type 0)
    → new.failures ≡ old.failures
    → ((Completes old new (compared b) status.successful_completion × Told true (xs ≡ ys))
    ⊎ (Completes old new (compared b) status.compare_failure × Told true (xs ≢ ys)) ⊎ failed)
compares xs ys true is old new failed f = let d = bytes_eq-Decides xs ys in inl (done-so old new _ f, λ told. d.0 is)
compares xs ys false is old new failed f = let d = bytes_eq-Decides xs ys in
    inr (inl (done-so old new _ f, λ told e. false≢true (sym is ∙ d.1 e)))

pub performs : (command : Command) (k : ℕ) (e sent window : List ℕ) (s : Scene) → IsLaidOut s.world s.device.content
    → HasPassed s.world k e command
    → Performs true command k e sent s (left-by (performance_as (kind_of command) command k e sent s) window s)
    (performance_as (kind_of command) command k e sent s).status
    (performance_as (kind_of command) command k e sent s).returned
performs Flush k e sent window s laid p =
    record { world = refl; effect = (((λ told. refl), inl (done-so s.device s.device _ refl)), refl) }
performs Write k e sent window s laid p =
    record { world = refl; effect = (inl (record { answered = refl; failures = refl }, λ told. refl), refl) }
performs WriteZeroes k e sent window s laid p =
    record { world = refl; effect = (inl (record { answered = refl; failures = refl }, λ told. refl), refl) }
performs Read k e sent window s laid p = record {
  world = refl;
  effect = (
    (λ told. refl),
    inl (
      record { answered = refl; failures = refl },
      length-blocks s.device.content (medium_block s.world e) (512 * block_count e)
          (range-fits s.world s.device.content k e laid p.attached p.fits),
      (λ told. refl),
    ),
  );
}
performs Compare k e sent window s laid p = record {
  world = refl;
  effect = (
    (
      (λ told. refl),
      compares (blocks_from s.device.content (medium_block s.world e) (length sent)) sent _ refl s.device
          s.device _ refl,
    ),
    refl,
  );
}
performs ReservationRegister k e sent window s laid p =
    record { answered = refl; world = refl; device = refl; data_back = refl }
performs ReservationAcquire k e sent window s laid p =
    record { answered = refl; world = refl; device = refl; data_back = refl }
performs ReservationRelease k e sent window s laid p =
    record { answered = refl; world = refl; device = refl; data_back = refl }
performs ReservationReport k e sent window s laid p =
    record { answered = refl; world = refl; device = refl; data_back = refl }

pub fault_free_executes : FaultFreeExecutes
unfolding fault_free_execution
fault_free_executes k e marked s laid = by-verdict (io_verdict s.world k e marked s.window) refl
  where
    by-verdict : (v : Verdict) → io_verdict s.world k e marked s.window ≡ v
        → ExecutesBy v true k e s (fault_free_by v k e s).left (fault_free_by v k e s).outcome
    by-verdict (Denied number why) is = (refl, refl)
    by-verdict (Allowed plan) is = record {
      returned = (performance_of plan.kind k e s).returned;
      effect = performs plan.kind k e (data_of s.window e) _ s laid (has-passed s.world k e marked s.window plan is);
      window = refl;
      dw0 = refl;
      rule = refl;
      marks = refl;
    }

-- and no failure is counted
calm-by : (v : Verdict) (k : ℕ) (e : List ℕ) (s : Scene)
    → (fault_free_by v k e s).left.device.failures ≡ s.device.failures
calm-by (Denied number why) k e s = refl
calm-by (Allowed plan) k e s = refl

pub calm-execution : (k : ℕ) (e : List ℕ) (marked : Bool) (s : Scene)
    → (fault_free_execution k e marked s).left.device.failures ≡ s.device.failures
unfolding fault_free_execution
calm-execution k e marked s = calm-by (io_verdict s.world k e marked s.window) k e s
