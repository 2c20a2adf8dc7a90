-- For `laws/executions.rt`: a world that opens with an accepted configuration is sound.
use Rattle.std.proofs.Common.{
  ◌≡◌,
  ◌≢◌,
  ◌≤◌,
  ◌<◌,
  ℕ,
  ◌+◌,
  ◌==◌,
  ◌&&◌,
  ◌||◌,
  nat_lt,
  Bool,
  true,
  false,
  cond,
  not,
  IsTrue,
  List,
  [],
  ◌∷◌,
  map,
  Option,
  None,
  Some,
  refl,
  ap,
  ◌∙◌,
  arith,
}
use Rattle.std.specs.Prelude.{find, option_map, is_some, if◌then◌else◌}
use Rattle.std.specs.List.{AllByRecursion, list_any, list_all, enumerate_from}
use Rattle.std.proofs.lemmas.Bool.{and_parts, eqb-true, eqb-false}
use Rattle.nvme_spec.specs.declared.config.ControllerConfig.{ControllerConfig}
use Rattle.nvme_spec.specs.declared.access.Protection.TheVariants.{Open}
use Rattle.nvme_spec.specs.declared.config.NsConfig.{NsConfig}
use Rattle.nvme_spec.specs.declared.config.ConfigFault.TheVariants.{TooMany, BadId, BadSize, DoesNotFit}
use Rattle.nvme_spec.specs.Configuration.{
  Configuration,
  Capacity,
  config_fault,
  has_too_many,
  has_bad_id,
  has_bad_size,
  total_blocks,
  are_numbered,
  is_hostless,
  has_foreign_nsid,
  has_repeated_nsid,
  has_bad_attachment,
  is_known,
  is_private,
}
use Rattle.nvme_spec.specs.Configuration as config
use Rattle.nvme_spec.specs.Report.{ControllerHost, HasRisingIds}
use Rattle.nvme_spec.specs.Reservation.{unreserved}
use Rattle.nvme_spec.specs.Attachments.{is_shared}
use Rattle.nvme_spec.specs.World.{Namespace, host_of, namespace_of, controller_host, laid_out, opening_world}
use Rattle.nvme_spec.specs.Sound.{
  IsSoundReservation,
  NamespacePlace,
  namespace_place,
  AreInOrder,
  clash,
  AreAttachments,
  is_controller,
  is_namespace,
  is_shared_in,
  OpeningIsSound,
}
use Rattle.nvme_spec.proofs.QueueChanges.{neither}
use Rattle.nvme_spec.proofs.Passing.{not_false}

-- Controllers.

numbered-above : (b i : ℕ) (ks : List ControllerConfig)
    → b ≤ i → list_all (λ (p : ℕ × ControllerConfig). p.1.cntlid == p.0 + 1) (enumerate_from i ks) ≡ true
    → AllByRecursion (λ (k : ControllerHost). b < k.0) (map controller_host ks)
numbered-above b i [] le h = tt
numbered-above b i (k ∷ ks) le h =
    let parts = and_parts (k.cntlid == i + 1)
    (list_all (λ (p : ℕ × ControllerConfig). p.1.cntlid == p.0 + 1) (enumerate_from (i + 1) ks)) h in
    let is = eqb-true k.cntlid (i + 1) parts.0 in
    (omega (arith, is, le), numbered-above b (i + 1) ks (omega (arith, le)) parts.1)

rising-ids : (i : ℕ) (ks : List ControllerConfig)
    → list_all (λ (p : ℕ × ControllerConfig). p.1.cntlid == p.0 + 1) (enumerate_from i ks) ≡ true
    → HasRisingIds (map controller_host ks)
rising-ids i [] h = tt
rising-ids i (k ∷ ks) h =
    let parts = and_parts (k.cntlid == i + 1)
    (list_all (λ (p : ℕ × ControllerConfig). p.1.cntlid == p.0 + 1) (enumerate_from (i + 1) ks)) h in
    let is = eqb-true k.cntlid (i + 1) parts.0 in
    (numbered-above k.cntlid (i + 1) ks (omega (arith, is)) parts.1, rising-ids (i + 1) ks parts.1)

hosted : (ks : List ControllerConfig)
    → is_hostless ks ≡ false → AllByRecursion (λ (k : ControllerHost). k.1 ≢ 0) (map controller_host ks)
hosted [] h = tt
hosted (k ∷ ks) h =
    let parts = neither (k.host == 0) (is_hostless ks) h in
    (eqb-false k.host 0 parts.0, hosted ks parts.1)

-- Namespaces.

behind-it : (n first : ℕ) (s : NamespacePlace) (ns : List NsConfig) → s.nsid ≡ n → s.first + s.blocks ≤ first
    → list_any (λ (m : NsConfig). m.nsid == n) ns ≡ false
    → AllByRecursion (λ (later : NamespacePlace). (later.nsid ≢ s.nsid) × (s.first + s.blocks ≤ later.first))
    (map namespace_place (laid_out first ns))
behind-it n first s [] same le h = tt
behind-it n first s (m ∷ ns) same le h =
    let parts = neither (m.nsid == n) (list_any (λ (x : NsConfig). x.nsid == n) ns) h in (
      ((λ e. eqb-false m.nsid n parts.0 (e ∙ same)), le),
      behind-it n (first + m.blocks) s ns same (omega (arith, le)) parts.1,
    )

in-order : (first : ℕ) (ns : List NsConfig)
    → has_repeated_nsid ns ≡ false → AreInOrder (map namespace_place (laid_out first ns))
in-order first [] h = tt
in-order first (n ∷ ns) h =
    let parts = neither (list_any (λ (m : NsConfig). m.nsid == n.nsid) ns) (has_repeated_nsid ns) h in (
      behind-it n.nsid (first + n.blocks)
          (record { nsid = n.nsid; first = first; blocks = n.blocks; shared = n.shared }) ns refl (omega arith) parts.0,
      in-order (first + n.blocks) ns parts.1,
    )

unreserved-all : (controllers : List ControllerHost) (first : ℕ) (ns : List NsConfig)
    → AllByRecursion (λ (n : Namespace). IsSoundReservation controllers n.reservation) (laid_out first ns)
unreserved-all controllers first [] = tt
unreserved-all controllers first (n ∷ ns) =
    (record { rising = tt; known = tt; held = tt; typed = tt }, unreserved-all controllers (first + n.blocks) ns)

-- Attachments.

known-controller : (k : ℕ) (ks : List ControllerConfig) → list_any (λ (x : ControllerConfig). x.cntlid == k) ks ≡ true
    → is_some
    (option_map (λ (h : ControllerHost). h.1) (find (λ (h : ControllerHost). h.0 == k) (map controller_host ks))) ≡ true
known-controller k [] h = h
known-controller k (x ∷ ks) h = by (x.cntlid == k) h (known-controller k ks)
  where
    by : (b : Bool) → (b || list_any (λ (y : ControllerConfig). y.cntlid == k) ks) ≡ true
        → (list_any (λ (y : ControllerConfig). y.cntlid == k) ks ≡ true → is_some (option_map
        (λ (h : ControllerHost). h.1) (find (λ (h : ControllerHost). h.0 == k) (map controller_host ks))) ≡ true)
        → is_some (option_map (λ (h : ControllerHost). h.1)
        (cond b (Some (controller_host x)) (find (λ (h : ControllerHost). h.0 == k) (map controller_host ks)))) ≡ true
    by true t later = refl
    by false t later = later t

known-namespace : (n first : ℕ) (ns : List NsConfig) → list_any (λ (x : NsConfig). x.nsid == n) ns ≡ true
    → is_some (find (λ (m : Namespace). m.nsid == n) (laid_out first ns)) ≡ true
known-namespace n first [] h = h
known-namespace n first (x ∷ ns) h = by (x.nsid == n) (Some (record {
  nsid = x.nsid;
  first = first;
  blocks = x.blocks;
  shared = x.shared;
  protection = Open;
  reservation = unreserved;
})) h (known-namespace n (first + x.blocks) ns) refl
  where
    by : (b : Bool) (o : Option Namespace) → (b || list_any (λ (y : NsConfig). y.nsid == n) ns) ≡ true
        → (list_any (λ (y : NsConfig). y.nsid == n) ns ≡ true
        → is_some (find (λ (m : Namespace). m.nsid == n) (laid_out (first + x.blocks) ns)) ≡ true)
        → is_some o ≡ true
        → is_some (cond b o (find (λ (m : Namespace). m.nsid == n) (laid_out (first + x.blocks) ns))) ≡ true
    by true o t later there = there
    by false o t later there = later t

shared-namespace : (n first : ℕ) (ns : List NsConfig) → list_any (λ (x : NsConfig). x.nsid == n) ns ≡ true
    → list_any (λ (x : NsConfig). (x.nsid == n) && not x.shared) ns ≡ false
    → is_shared (find (λ (m : Namespace). m.nsid == n) (laid_out first ns)) ≡ true
shared-namespace n first [] h public = absurd (cc)
shared-namespace n first (x ∷ ns) h public = by (x.nsid == n) h public (shared-namespace n (first + x.blocks) ns)
  where
    by : (b : Bool) → (b || list_any (λ (y : NsConfig). y.nsid == n) ns) ≡ true
        → ((b && not x.shared) || list_any (λ (y : NsConfig). (y.nsid == n) && not y.shared) ns) ≡ false
        → (list_any (λ (y : NsConfig). y.nsid == n) ns ≡ true
        → list_any (λ (y : NsConfig). (y.nsid == n) && not y.shared) ns ≡ false
        → is_shared (find (λ (m : Namespace). m.nsid == n) (laid_out (first + x.blocks) ns)) ≡ true)
        → is_shared (cond b (Some (record {
          nsid = x.nsid;
          first = first;
          blocks = x.blocks;
          shared = x.shared;
          protection = Open;
          reservation = unreserved;
        }))
        (find (λ (m : Namespace). m.nsid == n) (laid_out (first + x.blocks) ns))) ≡ true
    by true t f later =
        not_false x.shared (neither (not x.shared) (list_any (λ (y : NsConfig). (y.nsid == n) && not y.shared) ns) f).0
    by false t f later = later t f

apart-one : (p q r s : Bool) → (r ≡ false → s ≡ true) → (p && (q || r)) ≡ false → not (p && (q || not s)) ≡ true
apart-one false q r s f h = refl
apart-one true true r s f h = absurd (cc)
apart-one true false true s f h = absurd (cc)
apart-one true false false s f h = ap (λ t. not (not t)) (f refl)

apart-all : (c : Configuration) (a : ℕ × ℕ) (rest : List (ℕ × ℕ))
    → (is_private c a.1 ≡ false → is_shared_in (opening_world c) a.1 ≡ true)
    → list_any (config.clash c a) rest ≡ false
    → AllByRecursion (λ b. IsTrue (not (clash (is_shared_in (opening_world c)) a b))) rest
apart-all c a [] f h = tt
apart-all c a (b ∷ rest) f h =
    let parts = neither (config.clash c a b) (list_any (config.clash c a) rest) h in (
      apart-one (b.1 == a.1) (b.0 == a.0) (is_private c a.1) (is_shared_in (opening_world c) a.1) f parts.0,
      apart-all c a rest f parts.1,
    )

attached : (c : Configuration) (xs : List (ℕ × ℕ)) → has_bad_attachment c xs ≡ false
    → AreAttachments (is_controller (opening_world c)) (is_namespace (opening_world c))
    (is_shared_in (opening_world c)) xs
unfolding host_of namespace_of opening_world
attached c [] h = tt
attached c (a ∷ rest) h =
    let later = neither (not (is_known c a) || list_any (config.clash c a) rest) (has_bad_attachment c rest) h in
    let here = neither (not (is_known c a)) (list_any (config.clash c a) rest) later.0 in
    let known = and_parts (list_any (λ k. k.cntlid == a.0) c.controllers) (list_any (λ n. n.nsid == a.1) c.namespaces)
    (not_false (is_known c a) here.0) in
    let controller = known-controller a.0 c.controllers known.0 in
    let namespace = known-namespace a.1 0 c.namespaces known.1 in (
      (λ i. controller i && namespace i),
      apart-all c a rest (shared-namespace a.1 0 c.namespaces known.1) here.1,
      attached c rest later.1,
    )

accepted : (a b d e : Bool) → (if a then Some TooMany else
    (if b then Some BadId else (if d then Some BadSize else (if e then Some DoesNotFit else None)))) ≡ None → b ≡ false
accepted true b d e h = absurd (cc)
accepted false true d e h = absurd (cc)
accepted false false d e h = refl

good-ids : (c : Configuration) (size : Capacity) → config_fault c size ≡ None → has_bad_id c ≡ false
unfolding config_fault
good-ids c size h = accepted (has_too_many c) (has_bad_id c) (has_bad_size size c.namespaces)
    (nat_lt size.medium (total_blocks c.namespaces)) h

-- the identifiers of an accepted configuration
record HasGoodIds (c : Configuration) : Type 0 where
  numbered : are_numbered c.controllers ≡ true
  of_hosts : is_hostless c.controllers ≡ false
  distinct : has_repeated_nsid c.namespaces ≡ false
  attachments_fit : has_bad_attachment c c.attached ≡ false

each-good : (c : Configuration) → has_bad_id c ≡ false → HasGoodIds c
each-good c h =
    let a = neither (not (are_numbered c.controllers) || is_hostless c.controllers || has_foreign_nsid c.namespaces
    || has_repeated_nsid c.namespaces) (has_bad_attachment c c.attached) h in
    let b = neither (not (are_numbered c.controllers) || is_hostless c.controllers || has_foreign_nsid c.namespaces)
    (has_repeated_nsid c.namespaces) a.0 in
    let d =
    neither (not (are_numbered c.controllers) || is_hostless c.controllers) (has_foreign_nsid c.namespaces) b.0 in
    let e = neither (not (are_numbered c.controllers)) (is_hostless c.controllers) d.0 in
    record { numbered = not_false _ e.0; of_hosts = e.1; distinct = b.1; attachments_fit = a.1 }

pub opening_is_sound : OpeningIsSound
unfolding opening_world
opening_is_sound c size h =
    let good = each-good c (good-ids c size h) in
    record {
      controllers = rising-ids 0 c.controllers good.numbered;
      hosts = hosted c.controllers good.of_hosts;
      namespaces = in-order 0 c.namespaces good.distinct;
      attachments = attached c c.attached good.attachments_fit;
      reservations = unreserved-all (map controller_host c.controllers) 0 c.namespaces;
    }
