-- For `AdminStep`, `AnswerStep` and `ExecuteStep`: a fetched command of a lane (queue pair), its slot, and the request
-- at its place in the mailbox.
use Rattle.nvme_refinement.proofs.Words.{
  same_Some,
  ◌≡◌,
  ℕ,
  ◌-◌,
  ◌<◌,
  List,
  [],
  ◌∷◌,
  ◌++◌,
  length,
  take,
  drop,
  Some,
  Ok,
  refl,
  sym,
  ap,
  subst,
  ◌∙◌,
  arith,
  slice_get,
  take-take,
  SqeFields,
  cid,
  most_bytes,
  Rule,
  judgement_by,
  else_by,
  first_failing,
  pointer_rule,
  data_in,
  first_failing-append,
  Lane,
  data_area,
  stored_list,
  waiting_at,
  Driver,
  FetchedCommand,
  Controller,
  FetchedItem,
  command_entry,
  Slot,
  Asked,
  lane_of,
  asked_in,
  item_in,
  lane_in,
  received_in,
  area,
  listed,
  Sound,
  mailbox,
  lane_of_queue,
  zero,
  suc,
  ◌+◌,
  ◌*◌,
  ◌≤◌,
  false,
  None,
  ne_eqb,
  common_steps,
  nat_le,
  if◌then◌else◌,
  prp1,
  prp2,
  with_bytes,
  window_size,
  gathered_bytes,
  addresses,
  pieces_of,
  with_scattered,
  data_transfer,
  data_addresses,
  data_fault,
  list_page,
  first_entry,
  second_entry,
  listed_pages,
  pages_behind,
  page_entries,
  HasList,
  IsRequest,
  slot_transfer,
  length-stored_list,
  ◌^◌,
  true,
  and_parts,
  bytes_eq-Decides,
  bytes_eq,
  leb-true,
  submission_entry,
  submission_of,
  opcode,
  fuse,
  psdt,
  nsid,
  cdw10,
  cdw11,
  cdw12,
  FitsSqeFields,
  submission_is_read_back,
  submission_is_plain,
  entry_fields,
  suits,
  is_plain,
  command_fields,
}
use Rattle.nvme_refinement.proofs.PostStep.{Known, known, slot_seen, seen-is, seen, item_at, found-at}
use Rattle.nvme_spec.specs.Pointer.{transfer, pointer_fault}
use Rattle.nvme_spec.proofs.Contents.{length-data_in}
use Rattle.nvme_driver.proofs.SlotPointers.{slots_are_contiguous, slots_move_one_run}
use Rattle.nvme_driver.proofs.PageEntries.{length-page_entries}
use Rattle.nvme_refinement.proofs.Windows.{stored-none}
use Rattle.std.proofs.lemmas.List.{nil_from_length}

-- A command that suits its slot: its fields, and the command by which its request is judged.

-- what this means
pub record IsSuited (s : Slot) (x : List ℕ) : Type 0 where
  pub spelled : x ≡ submission_entry (entry_fields (asked_in s x) (cid x))
  pub most : (asked_in s x).moved ≤ most_bytes
  pub less : (asked_in s x).received ≤ (asked_in s x).moved
  pub there : take (length (stored_list (cid x) (asked_in s x).moved)) s.list ≡ stored_list (cid x) (asked_in s x).moved
  pub plain : is_plain (asked_in s x) ≡ true

equal : (xs ys : List ℕ) → bytes_eq xs ys ≡ true → xs ≡ ys
equal xs ys e = let d = bytes_eq-Decides xs ys in d.0 e

pub is-suited : (s : Slot) (x : List ℕ) → suits s x ≡ true → IsSuited s x
unfolding suits
is-suited s x h =
    let a = and_parts _ _ h in
    let b = and_parts _ _ a.1 in
    let c = and_parts _ _ b.1 in
    let d = and_parts _ _ c.1 in
    record {
      spelled = equal _ _ a.0;
      most = leb-true _ _ b.0;
      less = leb-true _ _ c.0;
      there = equal _ _ d.0;
      plain = d.1;
    }

-- the fields of an entry fit their widths
opcode-small : (x : List ℕ) → opcode x < 2 ^ 8
unfolding opcode
opcode-small x = omega arith

cid-small : (x : List ℕ) → cid x < 2 ^ 16
unfolding cid
cid-small x = omega arith

record WordsFit (x : List ℕ) : Type 0 where
  nsid : nsid x < 2 ^ 32
  cdw10 : cdw10 x < 2 ^ 32
  cdw11 : cdw11 x < 2 ^ 32
  cdw12 : cdw12 x < 2 ^ 32

words-fit : (f : SqeFields) → WordsFit (submission_entry f)
unfolding nsid cdw10 cdw11 cdw12 submission_entry
words-fit f = record { nsid = omega arith; cdw10 = omega arith; cdw11 = omega arith; cdw12 = omega arith }

-- the same fields
pub record SameFields (x y : List ℕ) : Type 0 where
  pub opcode : opcode y ≡ opcode x
  pub fuse : fuse y ≡ fuse x
  pub psdt : psdt y ≡ psdt x
  pub nsid : nsid y ≡ nsid x
  pub cdw10 : cdw10 y ≡ cdw10 x
  pub cdw11 : cdw11 y ≡ cdw11 x
  pub cdw12 : cdw12 y ≡ cdw12 x

first-small : (slot n : ℕ) → slot < 24 → first_entry slot n < 2 ^ 64
first-small slot n h = grind (arith, common_steps)

second-small : (slot n : ℕ) → slot < 24 → second_entry slot n < 2 ^ 64
second-small slot n h = grind (arith, common_steps)

-- the fields of such a command fit, and so do those of the command of its request
fits-entry : (s : Slot) (x : List ℕ) → IsSuited s x → cid x < 24 → FitsSqeFields (entry_fields (asked_in s x) (cid x))
fits-entry s x h k =
    let w : WordsFit x = subst WordsFit (sym h.spelled) (words-fit (entry_fields (asked_in s x) (cid x))) in
    search (
      arith,
      opcode-small x,
      cid-small x,
      first-small (cid x) (asked_in s x).moved k,
      second-small (cid x) (asked_in s x).moved k,
    )

pub read-so : (s : Slot) (x : List ℕ)
    → IsSuited s x → cid x < 24 → submission_of x ≡ entry_fields (asked_in s x) (cid x)
read-so s x h k =
    ap submission_of h.spelled ∙ submission_is_read_back (entry_fields (asked_in s x) (cid x)) (fits-entry s x h k)

pub same-fields : (s : Slot) (x : List ℕ) → IsSuited s x → cid x < 24 → SameFields x (command_entry (asked_in s x))
unfolding command_entry
same-fields s x h k =
    let f = fits-entry s x h k in
    let g : FitsSqeFields (command_fields (asked_in s x)) = record {
      opcode = f.opcode;
      cid = omega arith;
      nsid = f.nsid;
      prp1 = omega arith;
      prp2 = omega arith;
      cdw10 = f.cdw10;
      cdw11 = f.cdw11;
      cdw12 = f.cdw12;
      cdw13 = omega arith;
      cdw14 = omega arith;
      cdw15 = omega arith;
    } in
    let b = submission_is_read_back (command_fields (asked_in s x)) g in
    let p = submission_is_plain (entry_fields (asked_in s x) (cid x)) f in
    let q = submission_is_plain (command_fields (asked_in s x)) g in
    record {
      opcode = ap (λ (z : SqeFields). z.opcode) b;
      fuse = q.0 ∙ sym (ap fuse h.spelled ∙ p.0);
      psdt = q.1 ∙ sym (ap psdt h.spelled ∙ p.1);
      nsid = ap (λ (z : SqeFields). z.nsid) b;
      cdw10 = ap (λ (z : SqeFields). z.cdw10) b;
      cdw11 = ap (λ (z : SqeFields). z.cdw11) b;
      cdw12 = ap (λ (z : SqeFields). z.cdw12) b;
    }

-- The data of a command that suits its slot: its pointer has no fault, gathering returns the slot's data, and
-- scattering stores there.

pub record IsMoved (window : List ℕ) (k : ℕ) (x : List ℕ) (n : ℕ) : Type 0 where
  pub fault : data_fault n window x ≡ None
  pub gathers : data_in n window x ≡ take n (drop (data_area k) window)
  pub scatters : (returned : List ℕ) → length returned ≤ n
      → with_scattered window (take (length returned) (data_addresses n window x)) returned
      ≡ with_bytes window (data_area k) returned

no-data : (window : List ℕ) (k : ℕ) (x : List ℕ) → IsMoved window k x 0
unfolding with_scattered
no-data window k x = record {
  fault = refl;
  gathers = nil_from_length (data_in 0 window x) (length-data_in 0 window x);
  scatters = λ returned h.
      (let e = nil_from_length returned (omega (arith, h)) in rw e (sym (stored-none window (data_area k))));
}

-- the list of a slot is there
has-list : (window : List ℕ) (k n : ℕ)
    → n ≤ most_bytes → take (length (stored_list k n)) (listed window k) ≡ stored_list k n → HasList window k n
unfolding listed
has-list window k n most there long =
    let t : nat_le n (2 * 4096) ≡ false = grind (arith, common_steps, long) in
    let e : listed_pages n ≡ pages_behind n = ap (λ b. if b then 0 else pages_behind n) t in
    (ap (λ m. take m (drop (list_page k) window)) (omega arith))
    ∙ ap (λ m. take m (drop (list_page k) window))
    (sym (length-page_entries (data_area k + 4096) (listed_pages n) ∙ ap (λ m. 8 * m) e))
    ∙ sym
    (take-take (length (stored_list k n)) 4096 (drop (list_page k) window) (omega (arith, length-stored_list k n most)))
    ∙ there
    ∙ (ap (page_entries (data_area k + 4096)) e)

some-data : (window : List ℕ) (k : ℕ) (x : List ℕ) (n : ℕ) → length window ≡ window_size → k < 24 → 1 ≤ n
    → n ≤ most_bytes
    → take (length (stored_list k n)) (listed window k) ≡ stored_list k n → prp1 x ≡ data_area k
    → prp2 x ≡ second_entry k n → IsMoved window k x n
unfolding data_addresses
some-data window k x n whole fits some most there a b =
    let r : IsRequest window k n = record { whole = whole; slot_fits = fits; some = some; most = most } in
    let list = has-list window k n most there in
    let one = slots_move_one_run window k n r list in
    let sound = slots_are_contiguous window k n r list in
    let t : data_transfer n window x ≡ slot_transfer window k n = λ i. transfer window (a i) (b i) n in
    record {
      fault = ap (λ y. if y then None else pointer_fault (data_transfer n window x))
          (ne_eqb n 0 (λ e. omega (arith, e, some))) ∙ ap pointer_fault t ∙ sound.sound;
      gathers = ap (λ y. gathered_bytes window (addresses (pieces_of y))) t ∙ one.gathering
          ∙ ap (λ m. take m (drop (data_area k) window)) (omega arith);
      scatters =
          λ returned h. ap (λ y. with_scattered window (take (length returned) (addresses (pieces_of y))) returned) t
          ∙ one.scattering returned h;
    }

pub moved : (window : List ℕ) (k : ℕ) (x : List ℕ) (n : ℕ) → length window ≡ window_size → k < 24 → n ≤ most_bytes
    → take (length (stored_list k n)) (listed window k) ≡ stored_list k n → prp1 x ≡ first_entry k n
    → prp2 x ≡ second_entry k n → IsMoved window k x n
moved window k x zero whole fits most there a b = no-data window k x
moved window k x (suc n) whole fits most there a b =
    let some : nat_le (suc n) 0 ≡ false = grind (arith, common_steps) in
    some-data window k x (suc n) whole fits (omega arith) most there (a ∙ ap (λ t. if t then 0 else data_area k) some) b

-- What is known of a command of a lane and its slot.
pub record IsHeld (lane : Lane) (d : Driver) (c : Controller) (t : FetchedCommand) : Type 0 where
  pub suited : IsSuited (slot_seen lane d c t) t.entry
  pub within : cid t.entry < 24
  pub of_lane : lane_in (slot_seen lane d c t).waiting ≡ lane
  pub received : (asked_in (slot_seen lane d c t) t.entry).received ≡ received_in (waiting_at d.slots (cid t.entry))
  pub bytes : (slot_seen lane d c t).bytes ≡ area c.window (cid t.entry)
  pub same : SameFields t.entry (command_entry (asked_in (slot_seen lane d c t) t.entry))
  pub moves : IsMoved c.window (cid t.entry) t.entry (asked_in (slot_seen lane d c t) t.entry).moved

held : (lane : Lane) (d : Driver) (c : Controller) (i : ℕ) (t : FetchedCommand) → Known lane d c i t → IsHeld lane d c t
held lane d c i t k =
    let e = seen-is lane d c i t k in
    let w = seen lane d c i t k in
    let h = is-suited (slot_seen lane d c t) t.entry (k.one).suits_it in
    let r = read-so (slot_seen lane d c t) t.entry h (k.one).within in
    let there : take (length (stored_list (cid t.entry) (asked_in (slot_seen lane d c t) t.entry).moved))
    (listed c.window (cid t.entry)) ≡ stored_list (cid t.entry) (asked_in (slot_seen lane d c t) t.entry).moved =
    sym
    (ap (λ (z : Slot). take (length (stored_list (cid t.entry) (asked_in (slot_seen lane d c t) t.entry).moved)) z.list)
    e) ∙ h.there in
    let bytes = ap (λ (z : Slot). z.bytes) e in
    let same = same-fields (slot_seen lane d c t) t.entry h (k.one).within in
    let moves = moved c.window (cid t.entry) t.entry (asked_in (slot_seen lane d c t) t.entry).moved k.sound.both.window
    (k.one).within h.most there (ap (λ (z : SqeFields). z.prp1) r) (ap (λ (z : SqeFields). z.prp2) r) in
    search moves

-- the rule on the pointer passes
pub pointer-passes : (window : List ℕ) (k : ℕ) (x : List ℕ) (n : ℕ)
    → IsMoved window k x n → judgement_by (pointer_rule n window x) ≡ Ok tt
unfolding judgement_by pointer_rule
pointer-passes window k x n m = rw m.fault refl

pub without-pointer : (xs : List Rule) (p q : Rule)
    → judgement_by p ≡ Ok tt → first_failing (xs ++ p ∷ q ∷ []) ≡ first_failing (xs ++ q ∷ [])
without-pointer xs p q h =
    first_failing-append xs (p ∷ q ∷ []) ∙ ap (λ j. else_by (first_failing xs) (else_by j (first_failing (q ∷ [])))) h
    ∙ sym (first_failing-append xs (q ∷ []))

pub held-known : (lane : Lane) (d : Driver) (c : Controller) (i : ℕ) (t : FetchedCommand)
    → Sound d c → slice_get c.fetched i ≡ Some t → lane_of_queue t.queue ≡ lane → IsHeld lane d c t
held-known lane d c i t s g q = held lane d c i t (subst (λ l. Known l d c i t) q (known d c i t s g))

-- the data that the command gathers are those of the request, if it receives none
pub data-same : (lane : Lane) (d : Driver) (c : Controller) (t : FetchedCommand) (h : IsHeld lane d c t)
    → (asked_in (slot_seen lane d c t) t.entry).received ≡ 0
    → data_in (asked_in (slot_seen lane d c t) t.entry).moved c.window t.entry
    ≡ (asked_in (slot_seen lane d c t) t.entry).sent
unfolding area
data-same lane d c t h z =
    let e : (asked_in (slot_seen lane d c t) t.entry).moved - (asked_in (slot_seen lane d c t) t.entry).received
    ≡ (asked_in (slot_seen lane d c t) t.entry).moved = omega (arith, z) in
    h.moves.gathers
    ∙ sym (take-take (asked_in (slot_seen lane d c t) t.entry).moved most_bytes
    (drop (data_area (cid t.entry)) c.window) h.suited.most)
    ∙ ap (λ n. take n (area c.window (cid t.entry))) (sym e)
    ∙ ap (take ((asked_in (slot_seen lane d c t) t.entry).moved - (asked_in (slot_seen lane d c t) t.entry).received))
    (sym h.bytes)

-- the request that the mailbox has
pub item-is : (d : Driver) (c : Controller) (i : ℕ) (t : FetchedCommand) (x : FetchedItem)
    → slice_get c.fetched i ≡ Some t → slice_get (mailbox d c).fetched i ≡ Some x → x ≡ item_at d c t
item-is d c i t x g f = same_Some x (item_at d c t) (sym f ∙ found-at d c i t g)

pub asked-in : (lane : Lane) (d : Driver) (c : Controller) (t : FetchedCommand)
    → lane_of_queue t.queue ≡ lane → (item_at d c t).item.asked ≡ asked_in (slot_seen lane d c t) t.entry
unfolding item_in
asked-in lane d c t q = ap (λ l. asked_in (slot_seen l d c t) t.entry) q

pub asked-at : (lane : Lane) (d : Driver) (c : Controller) (i : ℕ) (t : FetchedCommand) (x : FetchedItem)
    → slice_get c.fetched i ≡ Some t → slice_get (mailbox d c).fetched i ≡ Some x → lane_of_queue t.queue ≡ lane
    → x.item.asked ≡ asked_in (slot_seen lane d c t) t.entry
asked-at lane d c i t x g f q = ap (λ (y : FetchedItem). y.item.asked) (item-is d c i t x g f) ∙ asked-in lane d c t q

pub lane-at : (lane : Lane) (d : Driver) (c : Controller) (i : ℕ) (t : FetchedCommand) (x : FetchedItem)
    → IsHeld lane d c t → slice_get c.fetched i ≡ Some t → slice_get (mailbox d c).fetched i ≡ Some x
    → lane_of_queue t.queue ≡ lane → lane_of x.item ≡ lane
lane-at lane d c i t x h g f q = ap (λ (a : Asked). a.command.lane) (asked-at lane d c i t x g f q) ∙ h.of_lane
