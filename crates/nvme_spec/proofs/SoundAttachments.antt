-- For `laws/executions.rt`: attaching and detaching keep a world's attachments sound, so every admin command keeps the
-- world sound.
use Rattle.std.proofs.Common.{
  ◌≡◌,
  ◌<◌,
  ◌≤◌,
  ◌⊎◌,
  inl,
  inr,
  ℕ,
  ◌==◌,
  ◌&&◌,
  ◌||◌,
  nat_lt,
  Bool,
  true,
  false,
  cond,
  not,
  IsTrue,
  List,
  [],
  ◌∷◌,
  ◌++◌,
  map,
  filter,
  Option,
  None,
  Some,
  Ok,
  Err,
  refl,
  sym,
  ap,
  subst,
  ◌∙◌,
  arith,
}
use Rattle.std.specs.Prelude.{is_some, is_none, if◌then◌else◌, length}
use Rattle.std.specs.List.{AllByRecursion, list_any}
use Rattle.std.proofs.lemmas.Bool.{cases_Bool, and_parts, eqb-true, ne_eqb, ltb-true}
use Rattle.nvme_wire.specs.Submission.{opcode, nsid}
use Rattle.nvme_wire.specs.declared.status.Status.{Status}
use Rattle.nvme_spec.specs.declared.command.AdminCommand.{AdminCommand}
use Rattle.nvme_spec.specs.declared.command.AdminCommand.TheVariants.{SetFeatures, NamespaceAttachment}
use Rattle.nvme_spec.specs.declared.queues.Queues.{Queues}
use Rattle.nvme_spec.specs.Limits.{longest_controller_list}
use Rattle.nvme_spec.specs.World.{World, Namespace, host_of, namespace_of, is_attached, with_protection}
use Rattle.nvme_spec.specs.Rules.{Test, Judgement, test, first_failure, judgement_by}
use Rattle.nvme_spec.specs.Attachments.{
  AttachmentOutcome,
  are_controllers_above,
  list_tests,
  has_controller,
  is_shared,
  attach_tests,
  attach_each,
  detach_each,
  unless_refused,
  with_attached,
  without_attached,
  attach,
  detach,
}
use Rattle.nvme_spec.specs.AdminCommands.{command_of, fid, write_protection, wps, protection_of, sel}
use Rattle.nvme_spec.specs.AdminRules.{admin_judgement, listed_controllers, data_of, selection_rule}
use Rattle.nvme_spec.specs.AdminEffects.{world_of, world_after, execution_by, admin_execution}
use Rattle.nvme_spec.specs.AdminLaws.{besides_protection}
use Rattle.nvme_spec.specs.Statuses as status
use Rattle.nvme_spec.specs.Sound.{
  IsSoundReservation,
  namespace_place,
  clash,
  AreAttachments,
  is_controller,
  is_namespace,
  is_shared_in,
  AdminExecutionKeepsItSound,
}
use Rattle.nvme_spec.proofs.Registrants.{all-filter, all-map, same_test}
use Rattle.nvme_spec.proofs.AdminLaws.{changes_only_protection}
use Rattle.nvme_spec.proofs.Passing.{not_false}
use Rattle.nvme_spec.proofs.QueueChanges.{no-failure, next-test, neither, field-passes}
use Rattle.nvme_spec.proofs.SoundWorlds.{sound-by}

-- Lists of attachments.

abbrev Apart : (ℕ → Bool) → ℕ × ℕ → List (ℕ × ℕ) → Type 0
Apart shared a xs = AllByRecursion (λ b. IsTrue (not (clash shared a b))) xs

all-join : {X : Type 0} (P : X → Type 0) (xs ys : List X) → AllByRecursion P xs → AllByRecursion P ys
    → AllByRecursion P (xs ++ ys)
all-join P [] ys h k = k
all-join P (x ∷ xs) ys h k = (h.0, all-join P xs ys h.1 k)

joins : (c n s : ℕ → Bool) (xs ys : List (ℕ × ℕ)) → AreAttachments c n s xs → AreAttachments c n s ys
    → AllByRecursion (λ (a : ℕ × ℕ). Apart s a ys) xs → AreAttachments c n s (xs ++ ys)
joins c n s [] ys h k apart = k
joins c n s (x ∷ xs) ys h k apart = (h.0, all-join _ xs ys h.1 apart.0, joins c n s xs ys h.2 k apart.1)

stays : (c n s : ℕ → Bool) (p : ℕ × ℕ → Bool) (xs : List (ℕ × ℕ))
    → AreAttachments c n s xs → AreAttachments c n s (filter p xs)
stays c n s p [] h = h
stays c n s p (x ∷ xs) h =
    elim (p x) as (λ b. AreAttachments c n s (cond b (x ∷ filter p xs) (filter p xs))) [
      | true ↦ (h.0, all-filter _ p xs h.1, stays c n s p xs h.2)
      | false ↦ stays c n s p xs h.2
    ]

-- What the tests of a list imply.

no-failure-in : (xs ys : List Test) → first_failure (xs ++ ys) ≡ None
    → (first_failure xs ≡ None) × (first_failure ys ≡ None)
no-failure-in [] ys h = (refl, h)
no-failure-in (t ∷ xs) ys h = by t.fails h (no-failure-in xs ys)
  where
    by : (b : Bool) → (if b then Some t.status else first_failure (xs ++ ys)) ≡ None
        → (first_failure (xs ++ ys) ≡ None → (first_failure xs ≡ None) × (first_failure ys ≡ None))
        → ((if b then Some t.status else first_failure xs) ≡ None) × (first_failure ys ≡ None)
    by true k later = absurd (cc)
    by false k later = later k

-- one controller of a list
record Joins (w : World) (n : ℕ) (other : Bool) (k : ℕ) : Type 0 where
  is_new : is_attached w k n ≡ false
  is_alone : (is_shared_in w n ≡ true) ⊎ (other ≡ false)

joins-one : (w : World) (n : ℕ) (other : Bool) (k : ℕ) → first_failure (attach_tests w n other k) ≡ None
    → Joins w n other k
unfolding attach_tests
joins-one w n other k h =
    let a = next-test (is_attached w k n) status.namespace_already_attached
    (test (not (is_shared (namespace_of w n)) && other) status.namespace_is_private ∷ []) h in
    let b = next-test (not (is_shared (namespace_of w n)) && other) status.namespace_is_private [] a.1 in
    record { is_new = a.0; is_alone = either (is_shared (namespace_of w n)) other b.0 }
  where
    either : (s o : Bool) → (not s && o) ≡ false → (s ≡ true) ⊎ (o ≡ false)
    either true o k = inl refl
    either false o k = inr k

-- all controllers of a list are new, and from the second on the namespace is shared
all-join-it : (w : World) (n : ℕ) (other : Bool) (ks : List ℕ) → first_failure (attach_each w n other ks) ≡ None
    → AllByRecursion (λ k. Joins w n other k) ks
all-join-it w n other [] h = tt
all-join-it w n other (k ∷ ks) h =
    let parts = no-failure-in (attach_tests w n other k) (attach_each w n true ks) h in (
      joins-one w n other k parts.0,
      all-map (λ x. Joins w n true x) (λ x. Joins w n other x) (λ x j. weaker other x j) ks
          (all-join-it w n true ks parts.1),
    )
  where
    weaker : (o : Bool) (x : ℕ) → Joins w n true x → Joins w n o x
    weaker o x j = record { is_new = j.is_new; is_alone = by o j.is_alone }
      where
        by : (o : Bool) → (is_shared_in w n ≡ true) ⊎ (true ≡ false) → (is_shared_in w n ≡ true) ⊎ (o ≡ false)
        by o (inl s) = inl s
        by o (inr f) = absurd (cc)

behind-the-first : (w : World) (n : ℕ) (other : Bool) (k : ℕ) (ks : List ℕ)
    → first_failure (attach_each w n other (k ∷ ks)) ≡ None
    → AllByRecursion (λ x. is_shared_in w n ≡ true) ks
behind-the-first w n other k ks h =
    let parts = no-failure-in (attach_tests w n other k) (attach_each w n true ks) h in
    all-map (λ x. Joins w n true x) (λ x. is_shared_in w n ≡ true) (λ x j. by j.is_alone) ks
    (all-join-it w n true ks parts.1)
  where
    by : (is_shared_in w n ≡ true) ⊎ (true ≡ false) → is_shared_in w n ≡ true
    by (inl s) = s
    by (inr f) = absurd (cc)

-- an attachment apart from the existing ones
apart-from : (w : World) (n k : ℕ) (other : Bool) (xs : List (ℕ × ℕ))
    → Joins w n other k → list_any (λ (a : ℕ × ℕ). (a.0 == k) && (a.1 == n)) xs ≡ false
    → ((other ≡ false) → list_any (λ (a : ℕ × ℕ). a.1 == n) xs ≡ false)
    → AllByRecursion (λ (a : ℕ × ℕ). IsTrue (not (clash (is_shared_in w) a (k, n)))) xs
apart-from w n k other [] j new alone = tt
apart-from w n k other (x ∷ xs) j new alone =
    let a = neither ((x.0 == k) && (x.1 == n)) (list_any (λ (a : ℕ × ℕ). (a.0 == k) && (a.1 == n)) xs) new in
    let no_other = λ (f : other ≡ false). neither (x.1 == n) (list_any (λ (a : ℕ × ℕ). a.1 == n) xs) (alone f) in
    (here (cases_Bool (n == x.1)) a.0 (λ f. (no_other f).0), apart-from w n k other xs j a.1 (λ f. (no_other f).1))
  where
    here : (((n == x.1) ≡ true) ⊎ ((n == x.1) ≡ false)) → ((x.0 == k) && (x.1 == n)) ≡ false
        → ((other ≡ false) → (x.1 == n) ≡ false)
        → IsTrue (not (clash (is_shared_in w) x (k, n)))
    here (inr other_one) a b = ap (λ t. not (t && ((k == x.0) || not (is_shared_in w x.1)))) other_one
    here (inl same) a b =
        let at : n ≡ x.1 = eqb-true n x.1 same in
        let back : (x.1 == n) ≡ true = subst (λ m. (m == n) ≡ true) at (same_test n) in
        let differ : (x.0 == k) ≡ false = first (x.0 == k) (x.1 == n) back a in
        let turned : (k == x.0) ≡ false =
        ne_eqb k x.0 (λ e. false-is-true (sym differ ∙ subst (λ m. (x.0 == m) ≡ true) (sym e) (same_test x.0))) in
        let shared : is_shared_in w x.1 ≡ true = subst (λ m. is_shared_in w m ≡ true) at (by j.is_alone back b) in
        ap not (λ i. (n == x.1) && (turned i || not (shared i))) ∙ ap (λ t. not t) (last (n == x.1))
      where
        first : (p q : Bool) → q ≡ true → (p && q) ≡ false → p ≡ false
        first true q is h = absurd (cc)
        first false q is h = refl

        false-is-true : false ≡ true → ⊥
        false-is-true h = absurd (cc)

        by : (is_shared_in w n ≡ true) ⊎ (other ≡ false) → (x.1 == n) ≡ true → ((other ≡ false) → (x.1 == n) ≡ false)
            → is_shared_in w n ≡ true
        by (inl s) back b = s
        by (inr f) back b = absurd (false-is-true (sym (b f) ∙ back))

        last : (p : Bool) → (p && false) ≡ false
        last true = refl
        last false = refl

-- The listed controllers, among themselves and with the existing attachments.

all-mapped : {X Y : Type 0} (P : Y → Type 0) (f : X → Y) (xs : List X) → AllByRecursion (λ x. P (f x)) xs
    → AllByRecursion P (map f xs)
all-mapped P f [] h = tt
all-mapped P f (x ∷ xs) h = (h.0, all-mapped P f xs h.1)

all-of : {X : Type 0} (P : X → Type 0) → ((x : X) → P x) → (xs : List X) → AllByRecursion P xs
all-of P f [] = tt
all-of P f (x ∷ xs) = (f x, all-of P f xs)

all-zip : {X : Type 0} (P Q : X → Type 0) (xs : List X) → AllByRecursion P xs → AllByRecursion Q xs
    → AllByRecursion (λ x. P x × Q x) xs
all-zip P Q [] h k = tt
all-zip P Q (x ∷ xs) h k = ((h.0, k.0), all-zip P Q xs h.1 k.1)

abbrev pairs : ℕ → List ℕ → List (ℕ × ℕ)
pairs n ks = map (λ k. (k, n)) ks

columns : (s : ℕ → Bool) (n : ℕ) (xs : List (ℕ × ℕ)) (ks : List ℕ)
    → AllByRecursion (λ k. AllByRecursion (λ (a : ℕ × ℕ). IsTrue (not (clash s a (k, n)))) xs) ks
    → AllByRecursion (λ (a : ℕ × ℕ). Apart s a (pairs n ks)) xs
columns s n xs [] h = all-of _ (λ a. tt) xs
columns s n xs (k ∷ ks) h = all-zip _ _ xs h.0 (columns s n xs ks h.1)

above-all : (w : World) (b k : ℕ) (ks : List ℕ) → k ≤ b → are_controllers_above w b ks ≡ true
    → AllByRecursion (λ y. k < y) ks
above-all w b k [] le h = tt
above-all w b k (y ∷ ks) le h =
    let parts = and_parts (is_some (host_of w y) && nat_lt b y) (are_controllers_above w y ks) h in
    let here = and_parts (is_some (host_of w y)) (nat_lt b y) parts.0 in
    let lt = ltb-true b y here.1 in
    (omega (arith, le, lt), above-all w y k ks (omega (arith, le, lt)) parts.1)

unclashed : (p a s : Bool) → a ≡ false → s ≡ true → IsTrue (not (p && (a || not s)))
unclashed p a s differ shared = ap not (λ i. p && (differ i || not (shared i))) ∙ ap (λ t. not t) (last p)
  where
    last : (p : Bool) → (p && false) ≡ false
    last true = refl
    last false = refl

other-than : (k y : ℕ) → k < y → (y == k) ≡ false
other-than k y lt = ne_eqb y k (λ e. omega (arith, lt, e))

apart-listed : (s : ℕ → Bool) (n k : ℕ) (ks : List ℕ)
    → AllByRecursion (λ y. k < y) ks → AllByRecursion (λ x. s n ≡ true) ks → Apart s (k, n) (pairs n ks)
apart-listed s n k [] above shared = tt
apart-listed s n k (y ∷ ks) above shared =
    (unclashed (n == n) (y == k) (s n) (other-than k y above.0) shared.0, apart-listed s n k ks above.1 shared.1)

-- a property of all but the first
abbrev AllBehind : (ℕ → Type 0) → List ℕ → Type 0
AllBehind P [] = Unit {0}
AllBehind P (k ∷ ks) = AllByRecursion P ks

behind : (P : ℕ → Type 0) (ks : List ℕ) → AllByRecursion P ks → AllBehind P ks
behind P [] h = tt
behind P (k ∷ ks) h = h.1

listed : (w : World) (n b : ℕ) (ks : List ℕ) → is_namespace w n ≡ true → are_controllers_above w b ks ≡ true
    → AllBehind (λ x. is_shared_in w n ≡ true) ks
    → AreAttachments (is_controller w) (is_namespace w) (is_shared_in w) (pairs n ks)
listed w n b [] known h shared = tt
listed w n b (k ∷ ks) known h shared =
    let parts = and_parts (is_some (host_of w k) && nat_lt b k) (are_controllers_above w k ks) h in
    let here = and_parts (is_some (host_of w k)) (nat_lt b k) parts.0 in (
      (λ i. here.0 i && known i),
      apart-listed (is_shared_in w) n k ks (above-all w k k ks (omega arith) parts.1) shared,
      listed w n k ks known parts.1 (behind (λ x. is_shared_in w n ≡ true) ks shared),
    )

all-behind : (w : World) (n : ℕ) (other : Bool) (ks : List ℕ) → first_failure (attach_each w n other ks) ≡ None
    → AllBehind (λ x. is_shared_in w n ≡ true) ks
all-behind w n other [] h = tt
all-behind w n other (k ∷ ks) h = behind-the-first w n other k ks h

-- Attaching and detaching.

abbrev AreThere : World → List (ℕ × ℕ) → Type 0
AreThere w xs = AreAttachments (is_controller w) (is_namespace w) (is_shared_in w) xs

attaching : (w : World) (n : ℕ) (ks : List ℕ) → is_namespace w n ≡ true → AreThere w w.attachments
    → AreThere w (world_of w (attach w n ks)).attachments
unfolding attach list_tests has_controller is_attached
attaching w n ks known h = by (first_failure (list_tests w ks ++ attach_each w n (has_controller w n) ks)) refl
  where
    by : (o : Option Status) → first_failure (list_tests w ks ++ attach_each w n (has_controller w n) ks) ≡ o
        → AreThere w (world_of w (unless_refused o (with_attached w n ks))).attachments
    by (Some why) e = h
    by None e =
        let parts = no-failure-in (list_tests w ks) (attach_each w n (has_controller w n) ks) e in
        let a =
        next-test ((length ks == 0) || nat_lt longest_controller_list (length ks)) status.controller_list_invalid
        (test (not (are_controllers_above w 0 ks)) status.controller_list_invalid ∷ []) parts.0 in
        let b = next-test (not (are_controllers_above w 0 ks)) status.controller_list_invalid [] a.1 in
        let each = all-join-it w n (has_controller w n) ks parts.1 in
        joins (is_controller w) (is_namespace w) (is_shared_in w) w.attachments (pairs n ks) h
        (listed w n 0 ks known (not_false _ b.0) (all-behind w n (has_controller w n) ks parts.1))
        (columns (is_shared_in w) n w.attachments ks
        (all-map (λ k. Joins w n (has_controller w n) k)
        (λ k. AllByRecursion (λ (a : ℕ × ℕ). IsTrue (not (clash (is_shared_in w) a (k, n)))) w.attachments)
        (λ k j. apart-from w n k (has_controller w n) w.attachments j j.is_new (λ f. f)) ks each))

detaching : (w : World) (n : ℕ) (ks : List ℕ)
    → AreThere w w.attachments → AreThere w (world_of w (detach w n ks)).attachments
unfolding detach
detaching w n ks h = by (first_failure (list_tests w ks ++ detach_each w n ks))
  where
    by : (o : Option Status) → AreThere w (world_of w (unless_refused o (without_attached w n ks))).attachments
    by (Some why) = h
    by None = stays (is_controller w) (is_namespace w) (is_shared_in w)
        (λ (a : ℕ × ℕ). not ((a.1 == n) && list_any (λ k. k == a.0) ks)) w.attachments h

-- Admin commands.

-- a Namespace Attachment that passed names a namespace
names-it : (w : World) (queues : Queues) (k : ℕ) (e window : List ℕ) → admin_judgement w queues k e window ≡ Ok tt
    → command_of (opcode e) ≡ Some NamespaceAttachment
    → is_namespace w (nsid e) ≡ true
unfolding selection_rule judgement_by
names-it w queues k e window h named =
    let p = no-failure 6 _ (field-passes w queues k e window NamespaceAttachment h named) in
    let a = next-test (nat_lt 1 (sel e)) status.invalid_field_in_command
    (test (is_none (namespace_of w (nsid e))) status.invalid_field_in_command ∷ []) p in
    let b = next-test (is_none (namespace_of w (nsid e))) status.invalid_field_in_command [] a.1 in
    there (namespace_of w (nsid e)) b.0
  where
    there : (o : Option Namespace) → is_none o ≡ false → is_some o ≡ true
    there None h = absurd (cc)
    there (Some n) h = refl

either-way : (w : World) (t : Bool) (a b : World) → AreThere w a.attachments → AreThere w b.attachments
    → AreThere w (if t then a else b).attachments
either-way w true a b h k = h
either-way w false a b h k = k

either-outcome : (w : World) (t : Bool) (a b : AttachmentOutcome) → AreThere w (world_of w a).attachments
    → AreThere w (world_of w b).attachments
    → AreThere w (world_of w (if t then a else b)).attachments
either-outcome w true a b h k = h
either-outcome w false a b h k = k

after-it : (w : World) (command : AdminCommand) (e sent : List ℕ)
    → (command ≡ NamespaceAttachment → is_namespace w (nsid e) ≡ true) → AreThere w w.attachments
    → AreThere w (world_after w command e sent).attachments
unfolding world_after
after-it w SetFeatures e sent known h =
    either-way w (fid e == write_protection) (with_protection w (nsid e) (protection_of (wps e))) w h h
after-it w NamespaceAttachment e sent known h =
    either-outcome w (sel e == 0) _ _ (attaching w (nsid e) (listed_controllers sent) (known refl) h)
    (detaching w (nsid e) (listed_controllers sent) h)
after-it w command e sent known h = h

attached-after : (w : World) (queues : Queues) (k : ℕ) (e window : List ℕ)
    → AreThere w w.attachments → AreThere w (admin_execution w queues k e window).world.attachments
unfolding admin_execution
attached-after w queues k e window h = by (admin_judgement w queues k e window) refl (command_of (opcode e)) refl
  where
    by : (j : Judgement) → admin_judgement w queues k e window ≡ j → (o : Option AdminCommand)
        → command_of (opcode e) ≡ o
        → AreThere w (execution_by j o w k e window).world.attachments
    by (Err d) is o named = h
    by (Ok u) is None named = h
    by (Ok tt) is (Some command) named =
        after-it w command e (data_of window e) (λ same. names-it w queues k e window is (named ∙ ap Some same)) h

places-unprotected : (ns : List Namespace) → map namespace_place ns ≡ map namespace_place (map besides_protection ns)
places-unprotected [] = refl
places-unprotected (n ∷ ns) = ap (λ ss. namespace_place n ∷ ss) (places-unprotected ns)

seen : (P : Namespace → Type 0) (ns : List Namespace) → ((n : Namespace) → P n → P (besides_protection n))
    → AllByRecursion P ns → AllByRecursion P (map besides_protection ns)
seen P ns f h = all-mapped P besides_protection ns (all-map P (λ n. P (besides_protection n)) f ns h)

unseen : (P : Namespace → Type 0) (ns : List Namespace) → ((n : Namespace) → P (besides_protection n) → P n)
    → AllByRecursion P (map besides_protection ns) → AllByRecursion P ns
unseen P [] f h = tt
unseen P (n ∷ ns) f h = (f n h.0, unseen P ns f h.1)

pub admin_execution_keeps_it_sound : AdminExecutionKeepsItSound
admin_execution_keeps_it_sound w queues k e window sound =
    let next = (admin_execution w queues k e window).world in
    let same = changes_only_protection w queues k e window in
    let P : Namespace → Type 0 = λ n. IsSoundReservation w.controllers n.reservation in
    sound-by w next sound same.controllers
    (places-unprotected next.namespaces ∙ ap (map namespace_place) same.namespaces
    ∙ sym (places-unprotected w.namespaces))
    (attached-after w queues k e window sound.attachments)
    (unseen P next.namespaces (λ n h. h)
    (subst (AllByRecursion P) (sym same.namespaces) (seen P w.namespaces (λ n h. h) sound.reservations)))
