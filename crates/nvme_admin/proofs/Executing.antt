-- For the answers of `perform` and `carry_out`: an admin command has the verdict and the effect of its definition.
use Rattle.std.proofs.Common.{
  ◌≡◌,
  ℕ,
  ◌+◌,
  ◌*◌,
  ◌<◌,
  ◌==◌,
  ◌||◌,
  ◌&&◌,
  not,
  Bool,
  true,
  false,
  List,
  [],
  ◌∷◌,
  ◌++◌,
  length,
  map,
  take,
  Option,
  Some,
  Result,
  Ok,
  Err,
  nat_lt,
  refl,
  sym,
  ap,
  ◌∙◌,
  arith,
}
use Rattle.std.specs.Prelude.{OnOk, IfOk, IfErr, if◌then◌else◌, slice_set}
use Rattle.std.specs.List.{range_with_len}
use Rattle.std.proofs.lemmas.Bool.{lt-ltb}
use Rattle.std.proofs.lemmas.List.{map-append, take_more_set}
use Rattle.std.proofs.lemmas.List.FromFn.{length-map-range_with_len}
use Rattle.nvme_wire.specs.Entry.{word_at}
use Rattle.nvme_wire.specs.Submission.{opcode, nsid}
use Rattle.nvme_wire.specs.declared.status.Status.{Status}
use Rattle.nvme_spec.specs.declared.command.AdminCommand.{AdminCommand}
use Rattle.nvme_spec.specs.declared.command.AdminCommand.TheVariants.{
  DeleteSubmissionQueue,
  CreateSubmissionQueue,
  DeleteCompletionQueue,
  CreateCompletionQueue,
  Identify,
  SetFeatures,
  GetFeatures,
  NamespaceAttachment,
}
use Rattle.nvme_spec.specs.declared.queues.Queues.{Queues}
use Rattle.nvme_spec.specs.declared.queues.QueueChange.TheVariants.{Keep}
use Rattle.nvme_spec.specs.declared.verdict.Denial.{Denial}
use Rattle.nvme_spec.specs.AdminCommands.{
  command_of,
  data_length,
  data_length_of,
  sel,
  fid,
  write_protection,
  names_feature,
}
use Rattle.nvme_spec.specs.AdminEffects.{
  double_word_0,
  data_out,
  world_after,
  world_of,
  performance,
  execution_by,
  admin_execution,
  identify_data,
}
use Rattle.nvme_spec.specs.AdminRules.{
  admin_access_rules,
  list_count,
  listed_controllers,
  attachment_outcome,
  list_rule,
  data_of,
  admin_judgement,
}
use Rattle.nvme_spec.specs.Attachments.{AttachmentOutcome, list_tests, attach, detach}
use Rattle.nvme_spec.specs.DataRules.{data_in, data_addresses, pointer_rule}
use Rattle.nvme_spec.proofs.Judgements.{first_failing-append}
use Rattle.nvme_spec.proofs.PagesJoined.{range-split}
use Rattle.nvme_spec.specs.Rules.{Rule, Judgement, rule, refusal_tests, judgement_by, else_by, first_failing}
use Rattle.nvme_spec.specs.Transfers.{gathered_bytes, with_scattered}
use Rattle.nvme_spec.specs.World.{World}
use Rattle.nvme_spec.specs.Statuses as status
use Rattle.nvme_admin.specs.declared.outcome.AdminOutcome.{AdminOutcome}
use Rattle.nvme_admin.specs.declared.rules.Admitted.{Admitted}
use Rattle.nvme_admin.specs.Admitted.{IsAdmitted, HasPlaces}
use Rattle.nvme_admin.specs.Executed.{execution_of}

-- The verdict of the rules.

-- the rules on the data of a command
abbrev on_data : Option AdminCommand → World → List ℕ → List ℕ → List Rule
on_data command w e window =
    pointer_rule (data_length_of command e) window e ∷ list_rule command w e (data_of window e) ∷ []

judged : (w : World) (queues : Queues) (cntlid : ℕ) (e window : List ℕ)
    → admin_judgement w queues cntlid e window ≡ else_by (first_failing (admin_access_rules w queues cntlid e))
    (first_failing (on_data (command_of (opcode e)) w e window))
unfolding admin_judgement
judged w queues cntlid e window =
    first_failing-append (admin_access_rules w queues cntlid e) (on_data (command_of (opcode e)) w e window)

-- a rule on access denies
pub access-denies : (w : World) (queues : Queues) (cntlid : ℕ) (e window : List ℕ) (d : Denial)
    → first_failing (admin_access_rules w queues cntlid e) ≡ Err d
    → admin_judgement w queues cntlid e window ≡ Err d
access-denies w queues cntlid e window d h =
    judged w queues cntlid e window ∙ ap (λ j. else_by j (first_failing (on_data (command_of (opcode e)) w e window))) h

-- the rules on access pass, and the rules on the data decide
on-data : (w : World) (queues : Queues) (cntlid : ℕ) (e window : List ℕ) (k : AdminCommand)
    → first_failing (admin_access_rules w queues cntlid e) ≡ Ok tt
    → command_of (opcode e) ≡ Some k
    → admin_judgement w queues cntlid e window ≡ first_failing (on_data (Some k) w e window)
on-data w queues cntlid e window k h is =
    judged w queues cntlid e window ∙ ap (λ j. else_by j (first_failing (on_data (command_of (opcode e)) w e window))) h
    ∙ ap (λ c. first_failing (on_data c w e window)) is

-- the data pointer denies
pub pointer-denies : (w : World) (queues : Queues) (cntlid : ℕ) (e window : List ℕ) (k : AdminCommand) (d : Denial)
    → first_failing (admin_access_rules w queues cntlid e) ≡ Ok tt
    → command_of (opcode e) ≡ Some k → judgement_by (pointer_rule (data_length k e) window e) ≡ Err d
    → admin_judgement w queues cntlid e window ≡ Err d
pointer-denies w queues cntlid e window k d h is p =
    on-data w queues cntlid e window k h is
    ∙ ap (λ j. else_by j (else_by (judgement_by (list_rule (Some k) w e (data_of window e))) (Ok tt))) p

-- the pointer passes, and the list decides
list-decides : (w : World) (queues : Queues) (cntlid : ℕ) (e window : List ℕ) (k : AdminCommand) (j : Judgement)
    → first_failing (admin_access_rules w queues cntlid e) ≡ Ok tt
    → command_of (opcode e) ≡ Some k → judgement_by (pointer_rule (data_length k e) window e) ≡ Ok tt
    → judgement_by (list_rule (Some k) w e (data_of window e)) ≡ j
    → admin_judgement w queues cntlid e window ≡ else_by j (Ok tt)
list-decides w queues cntlid e window k j h is p l =
    on-data w queues cntlid e window k h is
    ∙ ap (λ x. else_by x (else_by (judgement_by (list_rule (Some k) w e (data_of window e))) (Ok tt))) p
    ∙ ap (λ x. else_by x (Ok tt)) l

-- The answer.

pub allowed : (w new : World) (queues : Queues) (cntlid : ℕ) (e window memory : List ℕ) (k : AdminCommand)
    (r : Result AdminOutcome Denial)
    → first_failing (admin_access_rules w queues cntlid e) ≡ Ok tt → command_of (opcode e) ≡ Some k
    → judgement_by (pointer_rule (data_length k e) window e) ≡ Ok tt
    → OnOk r (judgement_by (list_rule (Some k) w e (data_of window e)) ≡ Ok tt)
    → IfOk r (λ o. performance w cntlid window k e ≡ execution_of o new memory)
    → IfOk r (λ o. admin_execution w queues cntlid e window ≡ execution_of o new memory)
unfolding admin_execution
allowed w new queues cntlid e window memory k (Err d) h is p l done = tt
allowed w new queues cntlid e window memory k (Ok o) h is p l done =
    ap (λ j. execution_by j (command_of (opcode e)) w cntlid e window)
    (list-decides w queues cntlid e window k (Ok tt) h is p l)
    ∙ ap (λ c. execution_by (Ok tt) c w cntlid e window) is ∙ done

pub refused : (w : World) (queues : Queues) (cntlid : ℕ) (e window : List ℕ) (k : AdminCommand)
    (r : Result AdminOutcome Denial)
    → first_failing (admin_access_rules w queues cntlid e) ≡ Ok tt → command_of (opcode e) ≡ Some k
    → judgement_by (pointer_rule (data_length k e) window e) ≡ Ok tt
    → IfErr r (λ d. judgement_by (list_rule (Some k) w e (data_of window e)) ≡ Err d)
    → IfErr r (λ d. admin_judgement w queues cntlid e window ≡ Err d)
refused w queues cntlid e window k (Ok o) h is p l = tt
refused w queues cntlid e window k (Err d) h is p l = list-decides w queues cntlid e window k (Err d) h is p l

pub denied : (w new : World) (queues : Queues) (cntlid : ℕ) (e window memory : List ℕ) (d : Denial) (o : AdminOutcome)
    → admin_judgement w queues cntlid e window ≡ Err d
    → o ≡ record { status = d.status; dw0 = 0; rule = d.rule; change = Keep } → new ≡ w → memory ≡ window
    → admin_execution w queues cntlid e window ≡ execution_of o new memory
unfolding admin_execution
denied w new queues cntlid e window memory d o h is same unchanged =
    ap (λ j. execution_by j (command_of (opcode e)) w cntlid e window) h
    ∙ rw (is, same, unchanged) refl

-- The effect of an allowed command.

-- its data in its host's memory
pub data-is : (w : World) (window e places : List ℕ) (a : Admitted) → IsAdmitted w e a → HasPlaces window e a places
    → data_of window e ≡ gathered_bytes window places
data-is w window e places a h p =
    ap (λ c. data_in (data_length_of c e) window e) h.named ∙ ap (gathered_bytes window) (sym p.at)

-- an execution by its parts
pub performed : (w new : World) (cntlid : ℕ) (window memory e places : List ℕ) (a : Admitted) (k : AdminCommand)
    (dw0 : ℕ) (o : AdminOutcome)
    → IsAdmitted w e a → HasPlaces window e a places → a.command ≡ k
    → dw0 ≡ double_word_0 w k e → new ≡ world_after w k e (data_of window e)
    → memory ≡ with_scattered window places (data_out w cntlid k e)
    → o ≡ record { status = status.successful_completion; dw0 = dw0; rule = 0; change = a.change }
    → performance w cntlid window a.command e ≡ execution_of o new memory
performed w new cntlid window memory e places a k dw0 o h p is d n m done =
    let dw0_is : double_word_0 w a.command e ≡ dw0 = ap (λ c. double_word_0 w c e) is ∙ sym d in
    let world_is : world_after w a.command e (data_of window e) ≡ new =
    ap (λ c. world_after w c e (data_of window e)) is ∙ sym n in
    let memory_is :
    with_scattered window (data_addresses (data_length a.command e) window e) (data_out w cntlid a.command e) ≡ memory =
    ap (λ at. with_scattered window at (data_out w cntlid a.command e)) (sym p.at)
    ∙ ap (λ c. with_scattered window places (data_out w cntlid c e)) is ∙ sym m in
    rw done (λ i. record {
      status = status.successful_completion;
      dw0 = dw0_is i;
      rule = 0;
      change = sym h.change i;
      world = world_is i;
      window = memory_is i;
    })

-- no data for the host
pub unscattered : (window places : List ℕ) → window ≡ with_scattered window places []
unfolding with_scattered
unscattered window [] = refl
unscattered window (a ∷ places) = refl

-- for any command other than Namespace Attachment the rule on its list passes
pub unlisted : (k : AdminCommand) (w : World) (e sent : List ℕ)
    → (k ≡ NamespaceAttachment → ⊥) → judgement_by (list_rule (Some k) w e sent) ≡ Ok tt
unfolding list_rule judgement_by
unlisted NamespaceAttachment w e sent h = absurd (h refl)
unlisted command w e sent h = refl

-- commands that differ
pub other : (k m n : AdminCommand) → k ≡ m → (m ≡ n → ⊥) → k ≡ n → ⊥
other k m n is differ same = differ (sym is ∙ same)

-- Identify
pub identified : (w : World) (cntlid : ℕ) (window memory e places : List ℕ) (a : Admitted) (o : AdminOutcome)
    → IsAdmitted w e a → HasPlaces window e a places
    → a.command ≡ Identify → memory ≡ with_scattered window places (identify_data w cntlid e)
    → o ≡ record { status = status.successful_completion; dw0 = 0; rule = 0; change = a.change }
    → performance w cntlid window a.command e ≡ execution_of o w memory
unfolding double_word_0 world_after data_out
identified w cntlid window memory e places a o h p is m done =
    performed w w cntlid window memory e places a Identify 0 o h p is refl refl m done

-- Set Features
pub set : (w new : World) (cntlid : ℕ) (window e places : List ℕ) (a : Admitted) (dw0 : ℕ) (o : AdminOutcome)
    → IsAdmitted w e a → HasPlaces window e a places
    → a.command ≡ SetFeatures → dw0 ≡ double_word_0 w SetFeatures e → new ≡ world_after w SetFeatures e []
    → o ≡ record { status = status.successful_completion; dw0 = dw0; rule = 0; change = a.change }
    → performance w cntlid window a.command e ≡ execution_of o new window
unfolding world_after data_out
set w new cntlid window e places a dw0 o h p is d n done =
    performed w new cntlid window window e places a SetFeatures dw0 o h p is d n (unscattered window places) done

-- Get Features
pub got : (w : World) (cntlid : ℕ) (window memory e places : List ℕ) (a : Admitted) (dw0 : ℕ) (o : AdminOutcome)
    → IsAdmitted w e a → HasPlaces window e a places
    → a.command ≡ GetFeatures → dw0 ≡ double_word_0 w GetFeatures e
    → memory ≡ with_scattered window places (data_out w cntlid GetFeatures e)
    → o ≡ record { status = status.successful_completion; dw0 = dw0; rule = 0; change = a.change }
    → performance w cntlid window a.command e ≡ execution_of o w memory
unfolding world_after
got w cntlid window memory e places a dw0 o h p is d m done =
    performed w w cntlid window memory e places a GetFeatures dw0 o h p is d refl m done

-- Namespace Attachment
world-by : (w new : World) (o p : AttachmentOutcome) → o ≡ p → p ≡ Ok new → new ≡ world_of w o
world-by w new o p is h = rw (is, h) refl

pub attached : (w new : World) (cntlid : ℕ) (window e places : List ℕ) (a : Admitted) (o : AdminOutcome)
    → IsAdmitted w e a → HasPlaces window e a places
    → a.command ≡ NamespaceAttachment → attachment_outcome w e (gathered_bytes window places) ≡ Ok new
    → o ≡ record { status = status.successful_completion; dw0 = 0; rule = 0; change = a.change }
    → performance w cntlid window a.command e ≡ execution_of o new window
unfolding double_word_0 world_after data_out
attached w new cntlid window e places a o h p is n done =
    performed w new cntlid window window e places a NamespaceAttachment 0 o h p is refl
    (world-by w new (attachment_outcome w e (data_of window e)) (attachment_outcome w e (gathered_bytes window places))
    (ap (attachment_outcome w e) (data-is w window e places a h p)) n)
    (unscattered window places) done

-- the verdict of the rule on the list
abbrev list_judgement : AttachmentOutcome → Judgement
list_judgement r = judgement_by (record { number = 11; tests = refusal_tests r })

on-list : (w : World) (window e places : List ℕ) (a : Admitted) (r : AttachmentOutcome)
    → IsAdmitted w e a → HasPlaces window e a places
    → a.command ≡ NamespaceAttachment → attachment_outcome w e (gathered_bytes window places) ≡ r
    → judgement_by (list_rule (Some a.command) w e (data_of window e)) ≡ list_judgement r
unfolding list_rule
on-list w window e places a r h p is n =
    ap (λ k. judgement_by (list_rule (Some k) w e (data_of window e))) is
    ∙ ap (λ sent. judgement_by (list_rule (Some NamespaceAttachment) w e sent)) (data-is w window e places a h p)
    ∙ ap list_judgement n

pub list-passes : (w new : World) (window e places : List ℕ) (a : Admitted)
    → IsAdmitted w e a → HasPlaces window e a places
    → a.command ≡ NamespaceAttachment → attachment_outcome w e (gathered_bytes window places) ≡ Ok new
    → judgement_by (list_rule (Some a.command) w e (data_of window e)) ≡ Ok tt
unfolding judgement_by
list-passes w new window e places a h p is n = on-list w window e places a (Ok new) h p is n

pub list-refuses : (w : World) (window e places : List ℕ) (a : Admitted) (why : Status)
    → IsAdmitted w e a → HasPlaces window e a places
    → a.command ≡ NamespaceAttachment → attachment_outcome w e (gathered_bytes window places) ≡ Err why
    → judgement_by (list_rule (Some a.command) w e (data_of window e)) ≡ Err (record { rule = 11; status = why })
unfolding judgement_by
list-refuses w window e places a why h p is n = on-list w window e places a (Err why) h p is n

-- A command on queues: none of the others.
pub queues-done : (k : AdminCommand) (w : World) (cntlid : ℕ) (window e places : List ℕ) (a : Admitted)
    (o : AdminOutcome) → IsAdmitted w e a → HasPlaces window e a places
    → a.command ≡ k → (k ≡ Identify → ⊥) → (k ≡ SetFeatures → ⊥) → (k ≡ GetFeatures → ⊥) → (k ≡ NamespaceAttachment → ⊥)
    → o ≡ record { status = status.successful_completion; dw0 = 0; rule = 0; change = a.change }
    → performance w cntlid window a.command e ≡ execution_of o w window
unfolding double_word_0 world_after data_out
queues-done DeleteSubmissionQueue w cntlid window e places a o h p is i s g n done =
    performed w w cntlid window window e places a DeleteSubmissionQueue 0 o h p is refl refl
    (unscattered window places) done
queues-done CreateSubmissionQueue w cntlid window e places a o h p is i s g n done =
    performed w w cntlid window window e places a CreateSubmissionQueue 0 o h p is refl refl
    (unscattered window places) done
queues-done DeleteCompletionQueue w cntlid window e places a o h p is i s g n done =
    performed w w cntlid window window e places a DeleteCompletionQueue 0 o h p is refl refl
    (unscattered window places) done
queues-done CreateCompletionQueue w cntlid window e places a o h p is i s g n done =
    performed w w cntlid window window e places a CreateCompletionQueue 0 o h p is refl refl
    (unscattered window places) done
queues-done Identify w cntlid window e places a o h p is i s g n done = absurd (i refl)
queues-done SetFeatures w cntlid window e places a o h p is i s g n done = absurd (s refl)
queues-done GetFeatures w cntlid window e places a o h p is i s g n done = absurd (g refl)
queues-done NamespaceAttachment w cntlid window e places a o h p is i s g n done = absurd (n refl)

-- A list whose count is too high is refused.
or-true : (a b : Bool) → b ≡ true → (a || b) ≡ true
or-true true b h = refl
or-true false b h = h

long-refused : (w : World) (n : ℕ) (cs : List ℕ) → 2047 < length cs
    → (attach w n cs ≡ Err status.controller_list_invalid) × (detach w n cs ≡ Err status.controller_list_invalid)
unfolding attach detach list_tests
long-refused w n cs h =
    let long : ((length cs == 0) || nat_lt 2047 (length cs)) ≡ true = or-true _ _ (lt-ltb _ _ h) in
    (rw long refl, rw long refl)

either : {T : Type 0} (b : Bool) (x y z : T) → x ≡ z → y ≡ z → (if b then x else y) ≡ z
either true x y z h k = h
either false x y z h k = k

pub too-long : (w : World) (e list : List ℕ)
    → 2047 < list_count list → attachment_outcome w e list ≡ Err status.controller_list_invalid
unfolding listed_controllers
too-long w e list h =
    let count : length (listed_controllers list) ≡ list_count list =
    length-map-range_with_len (λ i. word_at list (2 + 2 * i)) 0 (list_count list) in
    let both = long-refused w (nsid e) (listed_controllers list) (omega (arith, count, h)) in
    either (sel e == 0) _ _ _ both.0 both.1

-- A list is read up to some identifier.
pub read-more : (controllers : List ℕ) (f : ℕ → ℕ) (i v : ℕ)
    → i < length controllers → take i controllers ≡ map f (range_with_len 0 i) → v ≡ f i
    → take (i + 1) (slice_set controllers i v) ≡ map f (range_with_len 0 (i + 1))
read-more controllers f i v h so_far is =
    let next : 0 + i ≡ i = omega arith in
    take_more_set controllers i v h ∙ ap (λ xs. xs ++ v ∷ []) so_far ∙ ap (λ x. map f (range_with_len 0 i) ++ x ∷ []) is
    ∙ sym (ap (map f) (range-split 0 i 1 ∙ ap (λ k. range_with_len 0 i ++ k ∷ []) next)
    ∙ map-append f (range_with_len 0 i) (i ∷ []))

-- A Set Features of the write protection names a configured namespace.
pub protects : (j : Judgement) (fails : Bool) (why : Status) (k : AdminCommand) (e : List ℕ) (named attached : Bool)
    → j ≡ judgement_by (rule 5 fails why)
    → fails ≡ (names_feature (Some k) write_protection e && not (named && attached))
    → OnOk j (k ≡ SetFeatures → (fid e == write_protection) ≡ true → named ≡ true)
unfolding judgement_by
protects (Err d) fails why k e named attached is test_is = tt
protects (Ok tt) true why k e named attached is test_is = absurd (cc)
protects (Ok tt) false why k e named attached is test_is =
    λ same feature. passed named attached (rw (same, feature) at test_is)
  where
    passed : (a b : Bool) → false ≡ not (a && b) → a ≡ true
    passed true b h = refl
    passed false b h = absurd (cc)
