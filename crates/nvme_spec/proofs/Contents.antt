-- For laws about executions: a write leaves all other bytes.
use Rattle.std.proofs.Common.{
  ◌≡◌,
  ◌⊎◌,
  inl,
  inr,
  ℕ,
  ◌+◌,
  ◌*◌,
  ◌≤◌,
  true,
  List,
  length,
  take,
  slice_range,
  rules,
  refl,
  sym,
  ap,
  ◌∙◌,
  arith,
  length-append,
  length-drop,
  subst,
}
use Rattle.std.proofs.lemmas.List.{length-take, length-take-le, places, same_lists, length-map}
use Rattle.std.specs.Prelude.{slice_index}
use Rattle.std.proofs.lemmas.List.FromFn.{length-map-range_with_len}
use Rattle.nvme_wire.specs.declared.status.Status.{Status}
use Rattle.nvme_spec.specs.Bytes.{with_bytes}
use Rattle.nvme_spec.specs.Blocks.{Device, StopsWriting}
use Rattle.nvme_spec.specs.Pointer.{Transfer, address}
use Rattle.nvme_spec.specs.Transfers.{addresses, pieces_of}
use Rattle.nvme_spec.specs.DataRules.{data_transfer, data_addresses, data_in}
use Rattle.nvme_spec.specs.Effects.{WriteEffect}
use Rattle.nvme_spec.proofs.PagesJoined.{joined}

-- the bytes outside of a part are unchanged
pub record Keeps (low high : ℕ) (old new : List ℕ) : Type 0 where
  pub size : length new ≡ length old
  pub others : (a n : ℕ) → (a + n ≤ low) ⊎ (high ≤ a) → slice_range new a (a + n) ≡ slice_range old a (a + n)

pub keeps-same : (low high : ℕ) (old new : List ℕ) → new ≡ old → Keeps low high old new
keeps-same low high old new e = record { size = ap length e; others = λ a n h. ap (λ xs. slice_range xs a (a + n)) e }

pub keeps-both : (low high : ℕ) (a b c : List ℕ) → Keeps low high a b → Keeps low high b c → Keeps low high a c
keeps-both low high a b c p q = record { size = q.size ∙ p.size; others = λ at n h. q.others at n h ∙ p.others at n h }

size-with_bytes : (content : List ℕ) (at : ℕ) (bytes : List ℕ) → at + length bytes ≤ length content
    → length (with_bytes content at bytes) ≡ length content
size-with_bytes content at bytes fits = simp (length-append, length-take, length-drop) (omega arith)

before : (content : List ℕ) (at : ℕ) (bytes : List ℕ) (a n : ℕ) → at + length bytes ≤ length content → a + n ≤ at
    → slice_range (with_bytes content at bytes) a (a + n) ≡ slice_range content a (a + n)
before content at bytes a n fits h = same_lists _ _ (search (rules, places)) (λ k d inside. grind (arith, places))

behind : (content : List ℕ) (at : ℕ) (bytes : List ℕ) (a n : ℕ) → at + length bytes ≤ length content
    → at + length bytes ≤ a → slice_range (with_bytes content at bytes) a (a + n) ≡ slice_range content a (a + n)
behind content at bytes a n fits h = same_lists _ _ (search (rules, places)) (λ k d inside. grind (arith, places))

pub keeps-with_bytes : (low high : ℕ) (content : List ℕ) (at : ℕ) (bytes : List ℕ) → low ≤ at → at + length bytes ≤ high
    → at + length bytes ≤ length content → Keeps low high content (with_bytes content at bytes)
keeps-with_bytes low high content at bytes above below fits = record {
  size = size-with_bytes content at bytes fits;
  others = λ a n h. elim h [
    | inl x ↦ before content at bytes a n fits (omega arith)
    | inr y ↦ behind content at bytes a n fits (omega arith)
  ];
}

-- a write that ended with a fault
pub keeps-stopped : (first blocks : ℕ) (bytes old new : List ℕ)
    → length bytes ≡ 512 * blocks → 512 * (first + blocks) ≤ length old → StopsWriting first bytes old new
    → Keeps (512 * first) (512 * (first + blocks)) old new
keeps-stopped first blocks bytes old new whole fits s =
    let at : ℕ = s.at in
    let front : List ℕ = take (512 * at) bytes in
    let long : length front ≡ 512 * at = length-take-le (512 * at) bytes (omega (arith, s.within)) in
    let near : at + 1 ≤ blocks = omega (arith, s.within, whole) in
    let one = keeps-with_bytes (512 * first) (512 * (first + blocks)) old (512 * first) front (omega arith)
    (omega (arith, long, near)) (omega (arith, long, near)) in
    let torn = s.torn in
    let two =
    keeps-with_bytes (512 * first) (512 * (first + blocks)) (with_bytes old (512 * first) front) (512 * (first + at))
    torn.left (omega arith) (omega (arith, torn.whole, near)) (omega (arith, torn.whole, near, one.size)) in
    let both = keeps-both (512 * first) (512 * (first + blocks)) old (with_bytes old (512 * first) front)
    (with_bytes (with_bytes old (512 * first) front) (512 * (first + at)) torn.left) one two in
    subst (λ xs. Keeps (512 * first) (512 * (first + blocks)) old xs) (sym torn.is) both

-- as many bytes are gathered as requested
pub length-data_in : (bytes : ℕ) (window e : List ℕ) → length (data_in bytes window e) ≡ bytes
unfolding data_addresses
length-data_in bytes window e =
    let t : Transfer = data_transfer bytes window e in
    length-map (addresses (pieces_of t)) (slice_index window) ∙ ap length (joined t)
    ∙ length-map-range_with_len (address t) 0 t.bytes

-- a write changes only bytes of its range
pub written : (first blocks : ℕ) (bytes : List ℕ) (old new : Device) (answer : Status)
    → length bytes ≡ 512 * blocks → 512 * (first + blocks) ≤ length old.content
    → WriteEffect true first bytes old new answer → Keeps (512 * first) (512 * (first + blocks)) old.content new.content
written first blocks bytes old new answer whole fits effect = elim effect [
  | inl done ↦ subst (λ xs. Keeps (512 * first) (512 * (first + blocks)) old.content xs) (sym (done.1 refl))
      (keeps-with_bytes (512 * first) (512 * (first + blocks)) old.content (512 * first) bytes (omega arith)
      (omega (arith, whole)) (omega (arith, whole, fits)))
  | inr stopped ↦ keeps-stopped first blocks bytes old.content new.content whole fits (stopped.1 refl)
]
