-- For `ExecuteStep` and the law on postings: an admin command is judged like its request, and has its answer.
use Rattle.nvme_refinement.proofs.Words.{
  ◌≡◌,
  ℕ,
  ◌^◌,
  ◌<◌,
  ◌≤◌,
  Bool,
  List,
  [],
  ◌∷◌,
  ◌++◌,
  length,
  take,
  Some,
  Ok,
  Err,
  refl,
  sym,
  ap,
  subst,
  ◌∙◌,
  arith,
  slice_get,
  take_all,
  cid,
  opcode,
  AdminCommand,
  Queues,
  Keep,
  Device,
  World,
  Judgement,
  judgement_by,
  first_failing,
  pointer_rule,
  data_in,
  data_addresses,
  with_scattered,
  with_bytes,
  admin_execution,
  execution_by,
  performance,
  data_out,
  scene,
  no_marks,
  Fits,
  JudgementRefuses,
  admin_execution_fits,
  Admin,
  data_area,
  Driver,
  Asked,
  FetchedCommand,
  CommandExecution,
  admin_command_execution,
  Controller,
  queues_of,
  FetchedItem,
  lane_of,
  Site,
  RequestExecution,
  command_entry,
  queue_pairs,
  admin_judgement,
  admin_served,
  admin_request_execution_by,
  admin_request_execution,
  RequestComesToAs,
  RequestComesTo,
  Sound,
  mailbox,
  lane_of_queue,
  IsAnsweredInItsSlot,
  AdminJudgedAsItsRequest,
  AdminAnswersItsRequest,
  request_execution_with,
  entry_length,
  ◌⊎◌,
  ◌==◌,
  true,
  false,
  ◌||◌,
  Option,
  None,
  inl,
  inr,
  and_parts,
  eqb-true,
  if◌then◌else◌,
  nsid,
  Open,
  Namespace,
  namespace_of,
  opcode_of,
  state_of,
  fid,
  number_of_queues,
  write_protection,
  protection_value,
  double_word_0,
  queue_change,
  Slot,
  asked_in,
  is_plain,
  is_plain_in,
  lane_in,
  form_rule,
  cns,
  sv,
  nsqr,
  ncqr,
  wps,
  exhid,
  sel,
  ◌+◌,
  ◌*◌,
  nat_lt,
  ◌&&◌,
  filter,
  length-append,
  length-replicate,
  flat_map,
  AllByRecursion,
  range_with_len,
  is_attached,
  namespace_structure,
  controller_structure,
  identify_data,
  common_steps,
}
use Rattle.nvme_spec.specs.AdminCommands.{command_of, data_length, data_length_of}
use Rattle.nvme_spec.specs.AdminRules as rules
use Rattle.nvme_spec.specs.Statuses as status
use Rattle.nvme_spec.proofs.AdminDenials.{admin-refuses}
use Rattle.nvme_refinement.proofs.Windows.{stored-none}
use Rattle.nvme_refinement.proofs.HeldStep.{
  IsHeld,
  held-known,
  pointer-passes,
  without-pointer,
  data-same,
  asked-at,
  lane-at,
  SameFields,
}
use Rattle.nvme_refinement.proofs.AnswerStep.{unsuccessful, denied-with}
use Rattle.nvme_refinement.proofs.PostStep.{up-of, slot_seen}
use Rattle.nvme_spec.specs.declared.access.Protection.{Protection}
use Rattle.nvme_spec.specs.declared.command.AdminCommand.TheVariants as admin
use Rattle.nvme_spec.specs.AdminEffects.{world_after}
use Rattle.std.specs.Int.{w32, to_le_bytes}
use Rattle.nvme_spec.specs.Identify.{
  Field,
  with_fields,
  no_fields,
  namespace_fields,
  controller_fields,
  identify_namespace,
  identify_controller,
  namespace_list,
  identify_attached,
}
use Rattle.nvme_spec.proofs.Splices.{length-with_bytes}

-- The length of the data that an admin command returns.

abbrev LiesIn : ℕ → Field → Type 0
LiesIn n f = f.offset + length f.bytes ≤ n

length-with_fields : (n : ℕ) (fs : List Field) (old : List ℕ) → AllByRecursion (LiesIn n) fs → length old ≡ n
    → length (with_fields old fs) ≡ n
length-with_fields n [] old a e = e
length-with_fields n (f ∷ fs) old (one, rest) e =
    length-with_fields n fs _ rest ((length-with_bytes old f.offset f.bytes (omega (arith, one, e))) ∙ e)

length-no_fields : length no_fields ≡ 4096
length-no_fields = length-replicate {A = ℕ} 4096 0

length-namespace : (n : Namespace) → length (identify_namespace n) ≡ 4096
unfolding identify_namespace
length-namespace n =
    length-with_fields 4096 (namespace_fields n) no_fields
    (omega arith, (omega arith, (omega arith, (omega arith, (omega arith, (omega arith, (omega arith, tt)))))))
    length-no_fields

length-controller : (k : ℕ) → length (identify_controller k) ≡ 4096
unfolding identify_controller
length-controller k =
    length-with_fields 4096 (controller_fields k) no_fields (
      omega arith,
      (
        omega arith,
        (
          omega arith,
          (
            omega arith,
            (
              omega arith,
              (
                omega arith,
                (
                  omega arith,
                  (
                    omega arith,
                    (
                      omega arith,
                      (
                        omega arith,
                        (omega arith, (omega arith, (omega arith, (omega arith, (omega arith, (omega arith, tt)))))),
                      ),
                    ),
                  ),
                ),
              ),
            ),
          ),
        ),
      ),
    )
    length-no_fields

-- four bytes for each namespace
length-spelled : (xs : List ℕ) → length (flat_map (to_le_bytes w32) xs) ≡ 4 * length xs
length-spelled [] = refl
length-spelled (x ∷ xs) =
    omega (arith, length-spelled xs, length-append (to_le_bytes w32 x) (flat_map (to_le_bytes w32) xs))

few-filter : (p : ℕ → Bool) (xs : List ℕ) → length (filter p xs) ≤ length xs
few-filter p [] = omega arith
few-filter p (x ∷ xs) = grind (arith, common_steps, few-filter p xs)

length-list : (p : ℕ → Bool) → length (namespace_list (filter p (range_with_len 1 8))) ≡ 4096
unfolding namespace_list
length-list p =
    let long = length-spelled (filter p (range_with_len 1 8)) in
    let z = length-no_fields in
    length-with_bytes no_fields 0 (flat_map (to_le_bytes w32) (filter p (range_with_len 1 8)))
    (omega (arith, few-filter p (range_with_len 1 8), long, z)) ∙ z

length-shown : (w : World) (k n : ℕ) (o : Option Namespace) (attached : Bool)
    → namespace_of w n ≡ o → is_attached w k n ≡ attached → length (identify_attached w k n) ≡ 4096
length-shown w k n None attached e f = rw e length-no_fields
length-shown w k n (Some space) true e f = rw (e, f) (length-namespace space)
length-shown w k n (Some space) false e f = rw (e, f) length-no_fields

length-if : (b : Bool) (x y : List ℕ) (n : ℕ) → length x ≡ n → length y ≡ n → length (if b then x else y) ≡ n
length-if true x y n e f = e
length-if false x y n e f = f

pub length-identify_data : (w : World) (k : ℕ) (e : List ℕ) → length (identify_data w k e) ≡ 4096
length-identify_data w k e =
    length-if (cns e == namespace_structure) _ _ 4096
    (length-shown w k (nsid e) (namespace_of w (nsid e)) (is_attached w k (nsid e)) refl refl)
    (length-if (cns e == controller_structure) _ _ 4096 (length-controller k)
    (length-list (λ n. nat_lt (nsid e) n && is_attached w k n)))

-- Admin commands with the same fields have the same verdict and effect. The commands that create queues are left out,
-- since they read the data pointer; no request of a driver is one of them.

-- The commands of a driver's requests.
abbrev pub IsAsked : AdminCommand → Type 0
IsAsked admin.Identify = Unit {0}
IsAsked admin.SetFeatures = Unit {0}
IsAsked admin.GetFeatures = Unit {0}
IsAsked admin.NamespaceAttachment = Unit {0}
IsAsked command = ⊥

same-field : (command : AdminCommand) (queues : Queues) (n : Option Namespace) (x y : List ℕ)
    → IsAsked command → SameFields x y
    → rules.field_rule (Some command) queues n y ≡ rules.field_rule (Some command) queues n x
unfolding rules.identify_rule rules.set_features_rule rules.get_features_rule rules.selection_rule cns fid sv nsqr
    ncqr wps exhid sel
same-field admin.Identify queues n x y k h = rw h.cdw10 refl
same-field admin.SetFeatures queues n x y k h = rw (h.cdw10, h.cdw11) refl
same-field admin.GetFeatures queues n x y k h = rw (h.cdw10, h.cdw11) refl
same-field admin.NamespaceAttachment queues n x y k h = rw h.cdw10 refl
same-field command queues n x y k h = absurd k

-- the rules before those on the data
pub admin-access-same : (w : World) (queues : Queues) (k : ℕ) (x y : List ℕ) (command : AdminCommand)
    → IsAsked command → command_of (opcode x) ≡ Some command → SameFields x y
    → rules.admin_access_rules w queues k y ≡ rules.admin_access_rules w queues k x
unfolding form_rule rules.nsid_rule rules.attachment_rule cns fid
admin-access-same w queues k x y command a o h =
    rw (h.opcode, o, same-field command queues (namespace_of w (nsid y)) x y a h, h.nsid, h.fuse, h.psdt, h.cdw10) refl

-- the rule on a list of controllers
pub list-same : (w : World) (x y sent : List ℕ) (command : AdminCommand) → IsAsked command → SameFields x y
    → rules.list_rule (Some command) w y sent ≡ rules.list_rule (Some command) w x sent
unfolding rules.list_rule sel
list-same w x y sent admin.NamespaceAttachment a h = rw (h.nsid, h.cdw10) refl
list-same w x y sent command a h = refl

-- double word 0, the data for the host, and the world
pub dw0-same : (w : World) (x y : List ℕ) (command : AdminCommand) → IsAsked command → SameFields x y
    → double_word_0 w command y ≡ double_word_0 w command x
unfolding double_word_0 fid
dw0-same w x y admin.SetFeatures a h = rw h.cdw10 refl
dw0-same w x y admin.GetFeatures a h = rw (h.nsid, h.cdw10) refl
dw0-same w x y command a h = refl

pub data-out-same : (w : World) (k : ℕ) (x y : List ℕ) (command : AdminCommand) → IsAsked command → SameFields x y
    → data_out w k command y ≡ data_out w k command x
unfolding data_out cns fid
data-out-same w k x y admin.Identify a h = rw (h.nsid, h.cdw10) refl
data-out-same w k x y admin.GetFeatures a h = rw h.cdw10 refl
data-out-same w k x y command a h = refl

pub world-same : (w : World) (x y sent : List ℕ) (command : AdminCommand) → IsAsked command → SameFields x y
    → world_after w command y sent ≡ world_after w command x sent
unfolding world_after fid wps sel
world-same w x y sent admin.SetFeatures a h = rw (h.nsid, h.cdw10, h.cdw11) refl
world-same w x y sent admin.NamespaceAttachment a h = rw (h.nsid, h.cdw10) refl
world-same w x y sent command a h = refl

-- Identify returns all that it transfers, the others nothing.
abbrev pub MovesAs : AdminCommand → ℕ → ℕ → List ℕ → Type 0
MovesAs admin.Identify received moved x = received ≡ moved
MovesAs admin.GetFeatures received moved x = (received ≡ 0) × (fid x ≡ write_protection)
MovesAs command received moved x = received ≡ 0

-- the command of a plain request
pub record IsPlainAdmin (received moved : ℕ) (x : List ℕ) : Type 0 where
  pub command : AdminCommand
  pub named : command_of (opcode x) ≡ Some command
  pub asked : IsAsked command
  pub moves : MovesAs command received moved x

opcode-names : (command : AdminCommand) (n : ℕ) → n ≡ opcode_of command → command_of n ≡ Some command
unfolding command_of
opcode-names admin.Identify n e = rw e refl
opcode-names command n e = rw e refl

or-parts : (p q : Bool) → (p || q) ≡ true → (p ≡ true) ⊎ (q ≡ true)
or-parts true q h = inl refl
or-parts false q h = inr h

named-so : (command : AdminCommand) (received moved : ℕ) (x : List ℕ) → (opcode x == opcode_of command) ≡ true
    → IsAsked command → MovesAs command received moved x → IsPlainAdmin received moved x
named-so command received moved x e a m =
    record { command = command; named = opcode-names command (opcode x) (eqb-true _ _ e); asked = a; moves = m }

pub plain-admin : (s : Slot) (x : List ℕ) → lane_in s.waiting ≡ Admin → is_plain (asked_in s x) ≡ true
    → IsPlainAdmin (asked_in s x).received (asked_in s x).moved x
unfolding is_plain fid
plain-admin s x l h =
    elim (or-parts _ _ (sym (ap (λ lane. is_plain_in lane (asked_in s x)) l) ∙ h)) [
      | inl p ↦ (let e = and_parts _ _ p in named-so admin.Identify _ _ x e.0 tt (eqb-true _ _ e.1))
      | inr others ↦ elim (or-parts _ _ others) [
        | inl p ↦
            (let e = and_parts _ _ p in named-so admin.SetFeatures _ _ x e.0 tt (eqb-true _ _ (and_parts _ _ e.1).1))
        | inr rest ↦ elim (or-parts _ _ rest) [
          | inl p ↦ (let e = and_parts _ _ p in let f = and_parts _ _ e.1 in
              named-so admin.GetFeatures _ _ x e.0 tt (eqb-true _ _ f.1, eqb-true _ _ f.0))
          | inr p ↦ (let e = and_parts _ _ p in named-so admin.NamespaceAttachment _ _ x e.0 tt (eqb-true _ _ e.1))
        ]
      ]
    ]

-- The effect of such a command.

-- it returns as many bytes as its request receives
pub length-out : (w : World) (k : ℕ) (x : List ℕ) (command : AdminCommand) (received moved : ℕ)
    → IsAsked command → moved ≡ data_length command x → MovesAs command received moved x
    → length (data_out w k command x) ≡ received
unfolding data_out
length-out w k x admin.Identify received moved a e m = length-identify_data w k x ∙ sym e ∙ sym m
length-out w k x admin.GetFeatures received moved a e m = rw m.1 (sym m.0)
length-out w k x command received moved a e m = sym m

-- the queues stay
pub keeps-queues : (x : List ℕ) (command : AdminCommand) → IsAsked command → queue_change command x ≡ Keep
unfolding queue_change
keeps-queues x admin.DeleteSubmissionQueue a = absurd a
keeps-queues x admin.CreateSubmissionQueue a = absurd a
keeps-queues x admin.DeleteCompletionQueue a = absurd a
keeps-queues x admin.CreateCompletionQueue a = absurd a
keeps-queues x command a = refl

-- the data are the request's, if the command reads them
pub list-matters : (w : World) (x data_there sent : List ℕ) (command : AdminCommand) (received moved : ℕ)
    → MovesAs command received moved x → (received ≡ 0 → data_there ≡ sent)
    → rules.list_rule (Some command) w x data_there ≡ rules.list_rule (Some command) w x sent
unfolding rules.list_rule
list-matters w x data_there sent admin.NamespaceAttachment received moved m h = rw (h m) refl
list-matters w x data_there sent command received moved m h = refl

pub world-matters : (w : World) (x data_there sent : List ℕ) (command : AdminCommand) (received moved : ℕ)
    → MovesAs command received moved x → (received ≡ 0 → data_there ≡ sent)
    → world_after w command x data_there ≡ world_after w command x sent
unfolding world_after
world-matters w x data_there sent admin.NamespaceAttachment received moved m h = rw (h m) refl
world-matters w x data_there sent command received moved m h = refl

-- double word 0 is within its width
if-below : (b : Bool) (x y n : ℕ) → x < n → y < n → (if b then x else y) < n
if-below true x y n f g = f
if-below false x y n f g = g

state-small : (p : Protection) → state_of p < 2 ^ 32
state-small Open = omega arith
state-small p = omega arith

protection-small : (o : Option Namespace) → protection_value o < 2 ^ 32
protection-small None = omega arith
protection-small (Some n) = state-small n.protection

pub dw0-small : (w : World) (x : List ℕ) (command : AdminCommand) → double_word_0 w command x < 2 ^ 32
unfolding double_word_0
dw0-small w x admin.SetFeatures = if-below (fid x == number_of_queues) _ _ _ (omega arith) (omega arith)
dw0-small w x admin.GetFeatures =
    if-below (fid x == number_of_queues) _ _ _ (omega arith)
    (if-below (fid x == write_protection) _ _ _ (protection-small (namespace_of w (nsid x))) (omega arith))
dw0-small w x command = omega arith

-- The command of the admin lane.

-- the request of a command, by its slot
abbrev pub asked_by : Driver → Controller → FetchedCommand → Asked
asked_by d c t = asked_in (slot_seen Admin d c t) t.entry

-- What is known of an admin command, its request and its slot.
record IsAdmin (d : Driver) (c : Controller) (t : FetchedCommand) : Type 0 where
  held : IsHeld Admin d c t
  plain : IsPlainAdmin (asked_by d c t).received (asked_by d c t).moved t.entry
  queues : queues_of c ≡ queue_pairs
  -- the number of bytes that it transfers
  length_is : (asked_by d c t).moved ≡ data_length_of (command_of (opcode t.entry)) t.entry
  -- the data that it gathers are those of the request, if it receives none
  gathers : (asked_by d c t).received ≡ 0 → rules.data_of c.window t.entry ≡ (asked_by d c t).sent

admin-known : (d : Driver) (c : Controller) (i : ℕ) (t : FetchedCommand) → Sound d c → slice_get c.fetched i ≡ Some t
    → t.queue ≡ 0 → IsAdmin d c t
admin-known d c i t s g q =
    let h = held-known Admin d c i t s g (ap lane_of_queue q) in
    let l : (asked_by d c t).moved ≡ data_length_of (command_of (opcode t.entry)) t.entry =
    ap (λ lane. entry_length lane t.entry) h.of_lane in
    record {
      held = h;
      plain = plain-admin (slot_seen Admin d c t) t.entry h.of_lane h.suited.plain;
      queues = let p = s.up (up-of d c i t s g) in rw (p.completion, p.submission) refl;
      length_is = l;
      gathers = λ z. ap (λ n. data_in n c.window t.entry) (sym l) ∙ data-same Admin d c t h z;
    }

-- Its verdict.
module _ (d : Driver) (c : Controller) (t : FetchedCommand) (h : IsAdmin d c t) where
  -- the rule on the list, by the request
  list-is : (w : World)
      → rules.list_rule (command_of (opcode t.entry)) w t.entry (rules.data_of c.window t.entry) ≡ rules.list_rule
      (command_of (opcode (command_entry (asked_by d c t)))) w (command_entry (asked_by d c t)) (asked_by d c t).sent
  list-is w =
      let p = h.plain in
      ap (λ o. rules.list_rule o w t.entry (rules.data_of c.window t.entry)) p.named
      ∙ list-matters w t.entry (rules.data_of c.window t.entry) (asked_by d c t).sent p.command
      (asked_by d c t).received (asked_by d c t).moved p.moves h.gathers
      ∙ sym (list-same w t.entry (command_entry (asked_by d c t)) (asked_by d c t).sent p.command p.asked h.held.same)
      ∙ sym (ap (λ o. rules.list_rule o w (command_entry (asked_by d c t)) (asked_by d c t).sent)
      (ap command_of h.held.same.opcode ∙ p.named))

  -- the same judgement
  judged : (w : World) (cntlid : ℕ)
      → rules.admin_judgement w (queues_of c) cntlid t.entry c.window ≡ admin_judgement w cntlid (asked_by d c t)
  unfolding rules.admin_judgement admin_judgement
  judged w cntlid =
      let passes :
      judgement_by (pointer_rule (data_length_of (command_of (opcode t.entry)) t.entry) c.window t.entry) ≡ Ok tt =
      ap (λ n. judgement_by (pointer_rule n c.window t.entry)) (sym h.length_is)
      ∙ pointer-passes c.window (cid t.entry) t.entry (asked_by d c t).moved h.held.moves in
      without-pointer (rules.admin_access_rules w (queues_of c) cntlid t.entry)
      (pointer_rule (data_length_of (command_of (opcode t.entry)) t.entry) c.window t.entry)
      (rules.list_rule (command_of (opcode t.entry)) w t.entry (rules.data_of c.window t.entry)) passes
      ∙ ap (λ r. first_failing (rules.admin_access_rules w (queues_of c) cntlid t.entry ++ r ∷ [])) (list-is w)
      ∙ ap (λ qs. first_failing (rules.admin_access_rules w qs cntlid t.entry ++ rules.list_rule (command_of (opcode
      (command_entry (asked_by d c t)))) w (command_entry (asked_by d c t)) (asked_by d c t).sent ∷ [])) h.queues
      ∙ ap (λ rs. first_failing (rs ++ rules.list_rule (command_of (opcode (command_entry (asked_by d c t)))) w
      (command_entry (asked_by d c t)) (asked_by d c t).sent ∷ []))
      (sym (admin-access-same w queue_pairs cntlid t.entry
      (command_entry (asked_by d c t)) h.plain.command h.plain.asked h.plain.named h.held.same))

pub admin_judged_as_its_request : AdminJudgedAsItsRequest
admin_judged_as_its_request d c i t x w cntlid s g f q =
    judged d c t (admin-known d c i t s g q) w cntlid
    ∙ ap (λ a. admin_judgement w cntlid a) (sym (asked-at Admin d c i t x g f (ap lane_of_queue q)))

-- The answer.

as-admin : (tells : Bool) (cntlid : ℕ) (x : FetchedItem) (a : Asked) (s : Site) (r : RequestExecution) (j : Judgement)
    (command : AdminCommand) → lane_of x.item ≡ Admin → x.item.asked ≡ a
    → admin_judgement s.world cntlid a ≡ j → command_of (opcode (command_entry a)) ≡ Some command
    → r ≡ admin_request_execution_by j (Some command) s cntlid a → RequestComesTo tells cntlid x s r
unfolding RequestComesTo admin_request_execution
as-admin tells cntlid x a s r j command l y e o h =
    subst (λ n. RequestComesToAs n tells cntlid x.item.asked x.marked s r) (sym l)
    (subst (λ b. r ≡ admin_request_execution s cntlid b)
    (sym y) (h ∙ sym (ap (λ k. admin_request_execution_by k (command_of (opcode (command_entry a))) s cntlid a) e
    ∙ ap (λ k. admin_request_execution_by j k s cntlid a) o)))

-- only as many addresses count as there are bytes
scattered-taken : (w places bs : List ℕ) → with_scattered w places bs ≡ with_scattered w (take (length bs) places) bs
unfolding with_scattered
scattered-taken w [] [] = refl
scattered-taken w [] (b ∷ bs) = refl
scattered-taken w (a ∷ places) [] = refl
scattered-taken w (a ∷ places) (b ∷ bs) = scattered-taken _ places bs

abbrev Said : Bool → Driver → Controller → FetchedCommand → FetchedItem → World → Device → ℕ → CommandExecution → Type 0
Said tells d c t x w device cntlid a = (a.change ≡ Keep) × IsAnsweredInItsSlot tells d c t x w device cntlid a

-- an execution, by the verdict of the rules
executed-as : (w : World) (queues : Queues) (k : ℕ) (e window : List ℕ) (command : AdminCommand)
    → command_of (opcode e) ≡ Some command
    → admin_execution w queues k e window
    ≡ execution_by (rules.admin_judgement w queues k e window) (Some command) w k e window
unfolding admin_execution
executed-as w queues k e window command h =
    ap (λ o. execution_by (rules.admin_judgement w queues k e window) o w k e window) h

-- Its answer.
module _ (d : Driver) (c : Controller) (t : FetchedCommand) (h : IsAdmin d c t) where
  -- an allowed command's answer, as in the mailbox
  served-with : (w : World) (device : Device) (cntlid : ℕ) (command : AdminCommand)
      → IsAsked command → MovesAs command (asked_by d c t).received (asked_by d c t).moved t.entry
      → length (data_out w cntlid command t.entry) ≡ (asked_by d c t).received
      → request_execution_with d t
      (admin_command_execution (scene w c.window device) (performance w cntlid c.window command t.entry))
      (data_out w cntlid command t.entry)
      ≡ admin_served (record { world = w; device = device }) cntlid (asked_by d c t) command
  served-with w device cntlid command a m size i =
      let k = h.held in
      let y : List ℕ = command_entry (asked_by d c t) in
      let whole : take (asked_by d c t).received (data_out w cntlid command t.entry) ≡ data_out w cntlid command
      t.entry = take_all (asked_by d c t).received (data_out w cntlid command t.entry) (omega (arith, size)) in
      let bytes = ap (λ n. take n (data_out w cntlid command t.entry)) (sym k.received) ∙ whole
      ∙ sym (data-out-same w cntlid t.entry y command a k.same) in
      let world = world-matters w t.entry (rules.data_of c.window t.entry) (asked_by d c t).sent command
      (asked_by d c t).received (asked_by d c t).moved m h.gathers
      ∙ sym (world-same w t.entry y (asked_by d c t).sent command a k.same) in
      let dw0 = sym (dw0-same w t.entry y command a k.same) in
      record {
        outcome = record { status = status.successful_completion; dw0 = dw0 i; rule = 0; marks = no_marks };
        bytes = bytes i;
        left = record { world = world i; device = device };
      }

  -- its data are at the slot's place
  stands-there : (bytes : List ℕ) (n : ℕ) → (asked_by d c t).moved ≡ n → length bytes ≤ (asked_by d c t).moved
      → with_scattered c.window (data_addresses n c.window t.entry) bytes
      ≡ with_bytes c.window (data_area (cid t.entry)) bytes
  stands-there bytes n e few =
      ap (λ z. with_scattered c.window (data_addresses z c.window t.entry) bytes) (sym e)
      ∙ scattered-taken c.window (data_addresses (asked_by d c t).moved c.window t.entry) bytes
      ∙ h.held.moves.scatters bytes few

  said-by : (tells : Bool) (i : ℕ) (x : FetchedItem) (w : World) (device : Device) (cntlid : ℕ)
      → slice_get c.fetched i ≡ Some t → slice_get (mailbox d c).fetched i ≡ Some x
      → t.queue ≡ 0 → (command : AdminCommand) → command_of (opcode t.entry) ≡ Some command
      → IsAsked command → MovesAs command (asked_by d c t).received (asked_by d c t).moved t.entry → (j : Judgement)
      → JudgementRefuses j → admin_judgement w cntlid (asked_by d c t) ≡ j
      → Said tells d c t x w device cntlid
      (admin_command_execution (scene w c.window device) (execution_by j (Some command) w cntlid t.entry c.window))
  said-by tells i x w device cntlid g f q command named a m (Err e) n judges =
      let same = h.held.same in
      let r = unsuccessful e.status n in (
        refl,
        record {
          bytes = [];
          window = sym (stored-none c.window (data_area (cid t.entry)));
          few = omega arith;
          whole = rw r (omega arith);
          comes_to = as-admin tells cntlid x (asked_by d c t) (record { world = w; device = device }) _
              (Err e) command (lane-at Admin d c i t x h.held g f (ap lane_of_queue q))
              (asked-at Admin d c i t x g f (ap lane_of_queue q)) judges (ap command_of same.opcode ∙ named)
              (denied-with d t (admin_command_execution (scene w c.window device) (execution_by (Err e)
              (Some command) w cntlid t.entry c.window)) w c.window device e.rule e.status r refl refl);
        },
      )
  said-by tells i x w device cntlid g f q command named a m (Ok u) n judges =
      let same = h.held.same in
      let moved : (asked_by d c t).moved ≡ data_length command t.entry =
      h.length_is ∙ ap (λ o. data_length_of o t.entry) named in
      let size = length-out w cntlid t.entry command (asked_by d c t).received (asked_by d c t).moved a moved m in
      let back = h.held.received in (
        keeps-queues t.entry command a,
        record {
          bytes = data_out w cntlid command t.entry;
          window = stands-there (data_out w cntlid command t.entry) (data_length command t.entry) moved
              (omega (arith, size, h.held.suited.less));
          few = omega (arith, size, h.held.suited.less, h.held.suited.most);
          whole = omega (arith, size, back);
          comes_to = as-admin tells cntlid x (asked_by d c t) (record { world = w; device = device }) _
              (Ok u) command (lane-at Admin d c i t x h.held g f (ap lane_of_queue q))
              (asked-at Admin d c i t x g f (ap lane_of_queue q)) judges (ap command_of same.opcode ∙ named)
              (served-with w device cntlid command a m size);
        },
      )

pub admin_answers_its_request : AdminAnswersItsRequest
admin_answers_its_request tells d c i t x w device cntlid a s g f q h =
    let k = admin-known d c i t s g q in
    let p = k.plain in
    let e : a ≡ admin_command_execution (scene w c.window device) (execution_by
    (rules.admin_judgement w (queues_of c) cntlid t.entry c.window) (Some p.command) w cntlid t.entry c.window) =
    h ∙ ap (admin_command_execution (scene w c.window device))
    (executed-as w (queues_of c) cntlid t.entry c.window p.command p.named) in
    subst (Said tells d c t x w device cntlid) (sym e)
    (said-by d c t k tells i x w device cntlid g f q p.command p.named p.asked p.moves
    (rules.admin_judgement w (queues_of c) cntlid t.entry c.window)
    (admin-refuses w (queues_of c) cntlid t.entry c.window) (sym (judged d c t k w cntlid)))

-- Its completion's fields fit their widths.

executed-small : (w : World) (k : ℕ) (e window : List ℕ) (j : Judgement) (command : AdminCommand)
    → (execution_by j (Some command) w k e window).dw0 < 2 ^ 32
executed-small w k e window (Err d) command = omega arith
executed-small w k e window (Ok u) command = dw0-small w e command

pub admin-fits : (d : Driver) (c : Controller) (i : ℕ) (t : FetchedCommand) (w : World) (device : Device) (cntlid : ℕ)
    (a : CommandExecution) → Sound d c → slice_get c.fetched i ≡ Some t → t.queue ≡ 0
    → a ≡ admin_command_execution (scene w c.window device) (admin_execution w (queues_of c) cntlid t.entry c.window)
    → Fits a.outcome.status × (a.outcome.dw0 < 2 ^ 32)
admin-fits d c i t w device cntlid a s g q h =
    let p = (admin-known d c i t s g q).plain in
    let small : (admin_execution w (queues_of c) cntlid t.entry c.window).dw0 < 2 ^ 32 =
    subst (λ x. x.dw0 < 2 ^ 32) (sym (executed-as w (queues_of c) cntlid t.entry c.window p.command p.named))
    (executed-small w cntlid t.entry c.window
    (rules.admin_judgement w (queues_of c) cntlid t.entry c.window) p.command) in
    subst (λ (z : CommandExecution). Fits z.outcome.status × (z.outcome.dw0 < 2 ^ 32)) (sym h)
    (admin_execution_fits w (queues_of c) cntlid t.entry c.window, small)
