-- For the answers of `identify.rt`: fields written one after the other.
use Rattle.std.proofs.Common.{
  ◌≡◌,
  ℕ,
  ◌+◌,
  ◌-◌,
  ◌*◌,
  ◌≤◌,
  ◌<◌,
  Bool,
  true,
  false,
  cond,
  List,
  [],
  ◌∷◌,
  ◌++◌,
  length,
  filter,
  refl,
  sym,
  ap,
  ◌∙◌,
  arith,
  length-append,
  append-nil,
}
use Rattle.std.specs.Prelude.{flat_map}
use Rattle.std.specs.List.{range_with_len}
use Rattle.std.specs.Int.{w32, to_le_bytes}
use Rattle.nvme_spec.specs.Bytes.{with_bytes}
use Rattle.nvme_spec.specs.Identify.{
  Field,
  with_fields,
  no_fields,
  controller_fields,
  identify_controller,
  namespace_list,
}
use Rattle.nvme_spec.proofs.Splices.{with_bytes-append}
use Rattle.std.proofs.lemmas.List.{length-replicate}
use Rattle.std.proofs.lemmas.List.Elements.{filter-append}
use Rattle.std.proofs.lemmas.List.Concat.{flat_map-append}
use Rattle.std.proofs.lemmas.List.FromFn.{length-range_with_len}
use Rattle.nvme_spec.proofs.PagesJoined.{range-split}
use Rattle.nvme_admin.specs.Fields.{name_fields, kind_fields, command_fields}

pub with_fields-append : (old : List ℕ) (fs gs : List Field)
    → with_fields old (fs ++ gs) ≡ with_fields (with_fields old fs) gs
with_fields-append old [] gs = refl
with_fields-append old (f ∷ fs) gs = with_fields-append (with_bytes old f.offset f.bytes) fs gs

-- three parts
pub parts : (old one two three : List ℕ) (fs gs hs : List Field) → one ≡ with_fields old fs → two ≡ with_fields one gs
    → three ≡ with_fields two hs
    → three ≡ with_fields old (fs ++ (gs ++ hs))
parts old one two three fs gs hs a b c =
    c ∙ ap (λ x. with_fields x hs) b ∙ ap (λ x. with_fields (with_fields x gs) hs) a
    ∙ sym (with_fields-append old fs (gs ++ hs) ∙ with_fields-append (with_fields old fs) gs hs)

pub whole-controller : (cntlid : ℕ) → controller_fields cntlid ≡ name_fields ++ (kind_fields cntlid ++ command_fields)
whole-controller cntlid = refl

pub controller : (old one two three : List ℕ) (cntlid : ℕ) → old ≡ no_fields → one ≡ with_fields old name_fields
    → two ≡ with_fields one (kind_fields cntlid)
    → three ≡ with_fields two command_fields → three ≡ identify_controller cntlid
unfolding identify_controller
controller old one two three cntlid z a b c =
    parts old one two three name_fields (kind_fields cntlid) command_fields a b c
    ∙ ap (λ x. with_fields x (controller_fields cntlid)) z

-- one field
abbrev pub with_field : List ℕ → Field → List ℕ
with_field old f = with_bytes old f.offset f.bytes

-- a list of identifiers, four bytes each

abbrev pub spelled : List ℕ → List ℕ
spelled nsids = flat_map (to_le_bytes w32) nsids

length-spelled : (xs : List ℕ) → length (spelled xs) ≡ 4 * length xs
length-spelled [] = refl
length-spelled (x ∷ xs) =
    let rest = length-spelled xs in
    omega (arith, rest, length-append (to_le_bytes w32 x) (spelled xs))

length-filter-le : (p : ℕ → Bool) (xs : List ℕ) → length (filter p xs) ≤ length xs
length-filter-le p [] = omega arith
length-filter-le p (x ∷ xs) =
    let rest = length-filter-le p xs in
    elim (p x) as (λ b. length (cond b (x ∷ filter p xs) (filter p xs)) ≤ length (x ∷ xs)) [
      | true ↦ omega (arith, rest)
      | false ↦ omega (arith, rest)
    ]

abbrev pub below : (ℕ → Bool) → ℕ → List ℕ
below p n = filter p (range_with_len 1 (n - 1))

below-more : (p : ℕ → Bool) (n : ℕ) → 1 ≤ n → below p (n + 1) ≡ below p n ++ filter p (n ∷ [])
below-more p n h =
    let count : n + 1 - 1 ≡ (n - 1) + 1 = omega arith in
    let last : 1 + (n - 1) ≡ n = omega arith in
    ap (λ k. filter p (range_with_len 1 k)) count
    ∙ ap (filter p) (range-split 1 (n - 1) 1)
    ∙ ap (λ k. filter p (range_with_len 1 (n - 1) ++ k ∷ [])) last
    ∙ filter-append p (range_with_len 1 (n - 1)) (n ∷ [])

few-below : (p : ℕ → Bool) (n : ℕ) → length (below p n) ≤ n - 1
few-below p n = omega (arith, length-filter-le p (range_with_len 1 (n - 1)), length-range_with_len 1 (n - 1))

-- the list has room for one more identifier
pub list-room : (p : ℕ → Bool) (n at size : ℕ) → at ≡ 4 * length (below p n) → n < 9 → size ≡ 4096 → at + 4 ≤ size
list-room p n at size a h s = omega (arith, few-below p n)

-- one more is listed
pub listed-more : (old structure new : List ℕ) (p : ℕ → Bool) (n at : ℕ)
    → 1 ≤ n → n < 9 → length old ≡ 4096 → p n ≡ true
    → structure ≡ with_bytes old 0 (spelled (below p n)) → at ≡ 4 * length (below p n)
    → new ≡ with_bytes structure at (to_le_bytes w32 n)
    → (new ≡ with_bytes old 0 (spelled (below p (n + 1)))) × (at + 4 ≡ 4 * length (below p (n + 1)))
listed-more old structure new p n at h l size passes so_far a e =
    let before : List ℕ = below p n in
    let here : filter p (n ∷ []) ≡ n ∷ [] = rw passes refl in
    let now : below p (n + 1) ≡ before ++ n ∷ [] = below-more p n h ∙ ap (λ rest. before ++ rest) here in
    let long : length (spelled before) ≡ at = length-spelled before ∙ sym a in
    let behind : 0 + length (spelled before) ≡ at = omega (arith, long) in
    let few = few-below p n in
    let fits : 0 + length (spelled before) + length (to_le_bytes w32 n) ≤ length old =
    omega (arith, long, few, a, size, l) in (
      e ∙ ap (λ x. with_bytes x at (to_le_bytes w32 n)) so_far
          ∙ ap (λ k. with_bytes (with_bytes old 0 (spelled before)) k (to_le_bytes w32 n)) (sym behind)
          ∙ with_bytes-append old 0 (spelled before) (to_le_bytes w32 n) fits
          ∙ ap (with_bytes old 0) (sym (ap spelled now ∙ flat_map-append (to_le_bytes w32) before (n ∷ []))),
      omega (arith, a, ap length now, length-append before (n ∷ [])),
    )

-- one that is not listed
pub listed-same : (p : ℕ → Bool) (n : ℕ) → 1 ≤ n → p n ≡ false → below p (n + 1) ≡ below p n
listed-same p n h passes =
    let here : filter p (n ∷ []) ≡ [] = rw passes refl in
    below-more p n h ∙ ap (λ rest. below p n ++ rest) here ∙ append-nil (below p n)

pub listed-all : (old structure : List ℕ) (p : ℕ → Bool) (n : ℕ)
    → old ≡ no_fields → n ≡ 9 → structure ≡ with_bytes old 0 (spelled (below p n))
    → structure ≡ namespace_list (filter p (range_with_len 1 8))
unfolding namespace_list
listed-all old structure p n z e h =
    h ∙ ap (λ x. with_bytes x 0 (spelled (below p n))) z ∙ ap (λ k. with_bytes no_fields 0 (spelled (below p k))) e

pub length-zeros : (old : List ℕ) → old ≡ no_fields → length old ≡ 4096
length-zeros old z = ap length z ∙ length-replicate {A = ℕ} 4096 0
