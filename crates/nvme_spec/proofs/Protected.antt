-- For the laws in `laws/power.rt`: what write protection forbids.
use Rattle.std.proofs.Common.{
  ◌≡◌,
  ◌≢◌,
  inl,
  inr,
  ℕ,
  ◌==◌,
  ◌&&◌,
  ◌||◌,
  nat_lt,
  not,
  Bool,
  true,
  false,
  cond,
  List,
  [],
  ◌∷◌,
  map,
  Option,
  None,
  Some,
  Ok,
  Err,
  refl,
  sym,
  ap,
  ◌∙◌,
}
use Rattle.std.specs.Prelude.{find, option_map, if◌then◌else◌}
use Rattle.std.proofs.lemmas.Bool.{cases_Bool, eqb-true, eqb-false, false≢true}
use Rattle.nvme_wire.specs.Submission.{opcode, nsid}
use Rattle.nvme_wire.specs.declared.status.Status.{Status}
use Rattle.nvme_spec.specs.declared.access.Protection.{Protection}
use Rattle.nvme_spec.specs.declared.access.Protection.TheVariants.{Open, Protected, UntilCycle}
use Rattle.nvme_spec.specs.declared.command.AdminCommand.{AdminCommand}
use Rattle.nvme_spec.specs.declared.command.AdminCommand.TheVariants.{SetFeatures, NamespaceAttachment}
use Rattle.nvme_spec.specs.declared.queues.Queues.{Queues}
use Rattle.nvme_spec.specs.World.{World, Namespace, forbids_writing, namespace_of, with_protection}
use Rattle.nvme_spec.specs.IoRules.{is_protected}
use Rattle.nvme_spec.specs.Layout.{HasSameLayout, unreserved_one}
use Rattle.nvme_spec.specs.AdminCommands.{
  command_of,
  fid,
  number_of_queues,
  write_protection,
  sv,
  nsqr,
  ncqr,
  wps,
  protection_of,
  sel,
}
use Rattle.nvme_spec.specs.Attachments.{
  AttachmentOutcome,
  unless_refused,
  with_attached,
  without_attached,
  attach,
  detach,
}
use Rattle.nvme_spec.specs.Rules.{Judgement, Test, test, judgement_by}
use Rattle.nvme_spec.specs.AdminRules.{
  admin_judgement,
  data_of,
  listed_controllers,
  field_rule,
  is_protected_until_cycle,
  set_features_rule,
}
use Rattle.nvme_spec.specs.ExistingQueues.{has_io_queue}
use Rattle.nvme_spec.specs.Statuses as status
use Rattle.nvme_spec.specs.AdminEffects.{world_of, world_after, execution_by, admin_execution}
use Rattle.nvme_spec.specs.PowerLaws.{
  protection_at,
  ProtectedCommandsWriteNothing,
  CommandsKeepProtection,
  ProtectionOutlastsCommands,
}
use Rattle.nvme_spec.proofs.Passing.{has-passed}
use Rattle.nvme_spec.proofs.Namespaces.{others-still}
use Rattle.nvme_spec.proofs.QueueChanges.{no-failure, next-test, field-passes}
use Rattle.nvme_spec.proofs.Fencing.{execution_keeps_the_rest, only_allowed_writes_write}

-- I/O commands.

forbidden : (o : Option Namespace) (p : Protection) → option_map (λ (m : Namespace). m.protection) o ≡ Some p
    → forbids_writing p ≡ true → is_protected o ≡ true
forbidden None p is h = absurd (cc)
forbidden (Some m) p is h =
    let same : m.protection ≡ p = cc in
    ap forbids_writing same ∙ h

pub protected_commands_write_nothing : ProtectedCommandsWriteNothing
unfolding protection_at
protected_commands_write_nothing k e marked old new o n p laid h is forbids =
    elim (only_allowed_writes_write k e marked old new o n laid h) [
      | inl same ↦ same
      | inr x ↦ (let a = x.1 in
          let passed = has-passed old.world k e marked old.window a.plan a.allowed in
          let there = forbidden (namespace_of old.world n) p is forbids in
          let here = ap (λ m. is_protected (namespace_of old.world m)) x.0 ∙ there in
          absurd (false≢true
          (sym passed.unprotected ∙ ap (λ b. b && is_protected (namespace_of old.world (nsid e))) a.is_one ∙ here)))
    ]

-- the protection, whatever the reservation is
protection-seen : (n : ℕ) (ns : List Namespace)
    → option_map (λ (m : Namespace). m.protection) (find (λ m. m.nsid == n) ns)
    ≡ option_map (λ (m : Namespace). m.protection) (find (λ m. m.nsid == n) (map unreserved_one ns))
protection-seen n [] = refl
protection-seen n (m ∷ ms) =
    elim (m.nsid == n) as (λ t.
    option_map (λ (k : Namespace). k.protection) (cond t (Some m) (find (λ k. k.nsid == n) ms))
    ≡ option_map (λ (k : Namespace). k.protection)
    (cond t (Some (unreserved_one m)) (find (λ k. k.nsid == n) (map unreserved_one ms)))) [
      | true ↦ refl
      | false ↦ protection-seen n ms
    ]

pub same-protection : (old new : World) → HasSameLayout old new → (n : ℕ) → protection_at new n ≡ protection_at old n
unfolding protection_at namespace_of
same-protection old new same n =
    protection-seen n new.namespaces
    ∙ ap (λ ns. option_map (λ (m : Namespace). m.protection) (find (λ m. m.nsid == n) ns)) same.namespaces
    ∙ sym (protection-seen n old.namespaces)

pub commands_keep_protection : CommandsKeepProtection
commands_keep_protection tells k e marked old new o n h =
    let r = execution_keeps_the_rest tells k e marked old new o h in
    same-protection old.world new.world r.layout n

-- Admin commands.

same-namespaces : (w next : World) → next.namespaces ≡ w.namespaces → (n : ℕ) → protection_at next n ≡ protection_at w n
unfolding protection_at namespace_of
same-namespaces w next same n =
    ap (λ ns. option_map (λ (m : Namespace). m.protection) (find (λ m. m.nsid == n) ns)) same

unless-refused : (w next : World) (refusal : Option Status)
    → next.namespaces ≡ w.namespaces → (world_of w (unless_refused refusal next)).namespaces ≡ w.namespaces
unless-refused w next None same = same
unless-refused w next (Some why) same = refl

attached-keeps : (w : World) (n : ℕ) (ks : List ℕ) → (world_of w (attach w n ks)).namespaces ≡ w.namespaces
unfolding attach
attached-keeps w n ks = unless-refused w (with_attached w n ks) _ refl

detached-keeps : (w : World) (n : ℕ) (ks : List ℕ) → (world_of w (detach w n ks)).namespaces ≡ w.namespaces
unfolding detach
detached-keeps w n ks = unless-refused w (without_attached w n ks) _ refl

either-keeps : (w : World) (t : Bool) (a b : AttachmentOutcome) → (world_of w a).namespaces ≡ w.namespaces
    → (world_of w b).namespaces ≡ w.namespaces
    → (world_of w (if t then a else b)).namespaces ≡ w.namespaces
either-keeps w true a b h k = h
either-keeps w false a b h k = k

-- the protection of another namespace is unchanged
others-protected : (w : World) (a n : ℕ) (p : Protection)
    → n ≢ a → protection_at (with_protection w a p) n ≡ protection_at w n
unfolding protection_at namespace_of
others-protected w a n p other =
    ap (λ o. option_map (λ (m : Namespace). m.protection) o)
    (others-still (λ m. record m { protection = p }) (λ m. refl) a n other w.namespaces)

lasting : (o : Option Namespace) → option_map (λ (m : Namespace). m.protection) o ≡ Some UntilCycle
    → is_protected_until_cycle o ≡ true
lasting None is = absurd (cc)
lasting (Some m) is = by m.protection refl
  where
    by : (p : Protection) → m.protection ≡ p → is_protected_until_cycle (Some m) ≡ true
    by Open same = absurd (cc)
    by Protected same = absurd (cc)
    by UntilCycle same = rw same refl

-- a Set Features of the write protection that passed names no namespace that is protected until a power cycle
unlasting : (queues : Queues) (o : Option Namespace) (e : List ℕ) → judgement_by (set_features_rule queues o e) ≡ Ok tt
    → (fid e == write_protection) ≡ true
    → is_protected_until_cycle o ≡ false
unfolding set_features_rule judgement_by
unlasting queues o e h sets =
    let lasts : List Test =
    test ((fid e == write_protection) && is_protected_until_cycle o) status.feature_not_changeable ∷ [] in
    let state : List Test =
    test ((fid e == write_protection) && nat_lt 2 (wps e)) status.invalid_field_in_command ∷ lasts in
    let made : List Test =
    test ((fid e == number_of_queues) && has_io_queue queues) status.command_sequence_error ∷ state in
    let many : List Test = test ((fid e == number_of_queues) && ((nsqr e == 0xffff) || (ncqr e == 0xffff)))
    status.invalid_field_in_command ∷ made in
    let saved : List Test = test (sv e) status.feature_identifier_not_saveable ∷ many in
    let a = next-test (not ((fid e == number_of_queues) || (fid e == write_protection))) status.invalid_field_in_command
    saved (no-failure 6 _ h) in
    let b = next-test (sv e) status.feature_identifier_not_saveable many a.1 in
    let c = next-test ((fid e == number_of_queues) && ((nsqr e == 0xffff) || (ncqr e == 0xffff)))
    status.invalid_field_in_command made b.1 in
    let d = next-test ((fid e == number_of_queues) && has_io_queue queues) status.command_sequence_error state c.1 in
    let f = next-test ((fid e == write_protection) && nat_lt 2 (wps e)) status.invalid_field_in_command lasts d.1 in
    let g =
    next-test ((fid e == write_protection) && is_protected_until_cycle o) status.feature_not_changeable [] f.1 in
    ap (λ b. b && is_protected_until_cycle o) (sym sets) ∙ g.0

lasts-at : (w : World) (n : ℕ) → protection_at w n ≡ Some UntilCycle
    → is_protected_until_cycle (namespace_of w n) ≡ true
unfolding protection_at
lasts-at w n is = lasting (namespace_of w n) is

protects : (w : World) (e : List ℕ) (n : ℕ) → protection_at w n ≡ Some UntilCycle
    → is_protected_until_cycle (namespace_of w (nsid e)) ≡ false
    → protection_at (with_protection w (nsid e) (protection_of (wps e))) n ≡ Some UntilCycle
protects w e n is unlasting = elim (cases_Bool (nsid e == n)) [
  | inl here ↦ absurd (false≢true (sym unlasting
      ∙ ap (λ m. is_protected_until_cycle (namespace_of w m)) (eqb-true (nsid e) n here) ∙ lasts-at w n is))
  | inr there ↦
      others-protected w (nsid e) n (protection_of (wps e)) (λ same. eqb-false (nsid e) n there (sym same)) ∙ is
]

features-keep : (w : World) (e : List ℕ) (n : ℕ) → protection_at w n ≡ Some UntilCycle → (b : Bool)
    → (b ≡ true → is_protected_until_cycle (namespace_of w (nsid e)) ≡ false)
    → protection_at (if b then with_protection w (nsid e) (protection_of (wps e)) else w) n ≡ Some UntilCycle
features-keep w e n is true f = protects w e n is (f refl)
features-keep w e n is false f = is

after-lasts : (w : World) (queues : Queues) (command : AdminCommand) (e sent : List ℕ) (n : ℕ)
    → judgement_by (field_rule (Some command) queues (namespace_of w (nsid e)) e) ≡ Ok tt
    → protection_at w n ≡ Some UntilCycle → protection_at (world_after w command e sent) n ≡ Some UntilCycle
unfolding world_after
after-lasts w queues SetFeatures e sent n h is =
    features-keep w e n is (fid e == write_protection) (unlasting queues (namespace_of w (nsid e)) e h)
after-lasts w queues NamespaceAttachment e sent n h is =
    same-namespaces w _ (either-keeps w (sel e == 0) _ _ (attached-keeps w (nsid e) (listed_controllers sent))
    (detached-keeps w (nsid e) (listed_controllers sent))) n ∙ is
after-lasts w queues command e sent n h is = is

pub protection_outlasts_commands : ProtectionOutlastsCommands
unfolding admin_execution
protection_outlasts_commands w queues k e window n is =
    by (admin_judgement w queues k e window) refl (command_of (opcode e)) refl
  where
    by : (j : Judgement) → admin_judgement w queues k e window ≡ j → (o : Option AdminCommand)
        → command_of (opcode e) ≡ o
        → protection_at (execution_by j o w k e window).world n ≡ Some UntilCycle
    by (Err d) judged o named = is
    by (Ok u) judged None named = is
    by (Ok tt) judged (Some command) named =
        after-lasts w queues command e (data_of window e) n (field-passes w queues k e window command judged named) is
