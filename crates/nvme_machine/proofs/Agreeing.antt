-- For `SecretCommands`: contents of a medium that agree outside of one namespace.
use Rattle.std.proofs.Common.{
  ◌≡◌,
  ◌≢◌,
  inl,
  inr,
  ℕ,
  ◌+◌,
  ◌-◌,
  ◌*◌,
  ◌≤◌,
  ◌==◌,
  List,
  length,
  slice_range,
  rules,
  Option,
  None,
  Some,
  refl,
  sym,
  ap,
  ◌∙◌,
  arith,
}
use Rattle.std.proofs.lemmas.Bool.{cases_Bool, eqb-true, eqb-false}
use Rattle.std.proofs.lemmas.List.{places, same_lists}
use Rattle.nvme_spec.specs.Bytes.{with_bytes}
use Rattle.nvme_spec.specs.Blocks.{blocks_from}
use Rattle.nvme_spec.specs.Layout.{Extent, AreApart, IsLaidOut, bytes_at, bytes_of, extent_of}
use Rattle.nvme_spec.specs.World.{World}
use Rattle.nvme_spec.proofs.Contents.{keeps-with_bytes}

-- the same bytes of every namespace except one
pub record Agree (n : ℕ) (w : World) (xs ys : List ℕ) : Type 0 where
  pub size : length ys ≡ length xs
  pub others : (m : ℕ) → m ≢ n → bytes_of w ys m ≡ bytes_of w xs m

-- some blocks of a namespace, as a part of its bytes
part : (content : List ℕ) (x : Extent) (skip len : ℕ) → 512 * skip + len ≤ 512 * x.blocks
    → 512 * (x.first + x.blocks) ≤ length content
    → blocks_from content (x.first + skip) len ≡ slice_range (bytes_at content (Some x)) (512 * skip) (512 * skip + len)
part content x skip len fits within = same_lists _ _ (search (rules, places)) (λ k d inside. grind (arith, places))

-- they read the same
pub same-read : (n m : ℕ) (w : World) (xs ys : List ℕ) (x : Extent) (first skip len : ℕ)
    → Agree n w xs ys → m ≢ n → extent_of w m ≡ Some x
    → first ≡ x.first + skip → 512 * skip + len ≤ 512 * x.blocks → 512 * (x.first + x.blocks) ≤ length xs
    → blocks_from ys first len ≡ blocks_from xs first len
same-read n m w xs ys x first skip len agree other named at fits within =
    let same : bytes_at ys (Some x) ≡ bytes_at xs (Some x) =
    ap (bytes_at ys) (sym named) ∙ agree.others m other ∙ ap (bytes_at xs) named in
    ap (λ f. blocks_from ys f len) at ∙ part ys x skip len fits (omega (arith, within, agree.size))
    ∙ ap (λ l. slice_range l (512 * skip) (512 * skip + len)) same
    ∙ sym (ap (λ f. blocks_from xs f len) at ∙ part xs x skip len fits within)

-- bytes written into a namespace
into : (content : List ℕ) (x : Extent) (start : ℕ) (bytes : List ℕ) → 512 * x.first ≤ start
    → start + length bytes ≤ 512 * (x.first + x.blocks) → 512 * (x.first + x.blocks) ≤ length content
    → bytes_at (with_bytes content start bytes) (Some x)
    ≡ with_bytes (bytes_at content (Some x)) (start - 512 * x.first) bytes
into content x start bytes low high within =
    same_lists _ _ (search (rules, places)) (λ k d inside. grind (arith, places))

-- another namespace
beside : (content : List ℕ) (x : Extent) (o : Option Extent) (start : ℕ) (bytes : List ℕ)
    → ((y : Extent) → o ≡ Some y → AreApart y x) → 512 * x.first ≤ start
    → start + length bytes ≤ 512 * (x.first + x.blocks) → 512 * (x.first + x.blocks) ≤ length content
    → bytes_at (with_bytes content start bytes) o ≡ bytes_at content o
beside content x None start bytes apart low high within = refl
beside content x (Some y) start bytes apart low high within =
    let keeps = keeps-with_bytes (512 * x.first) (512 * (x.first + x.blocks)) content start bytes low high
    (omega (arith, high, within)) in
    keeps.others (512 * y.first) (512 * y.blocks) (elim (apart y refl) [
      | inl before ↦ inl (omega (arith, before))
      | inr behind ↦ inr (omega (arith, behind))
    ])

-- they agree after the same bytes were written
pub both-written : (n m : ℕ) (w : World) (xs ys : List ℕ) (x : Extent) (start : ℕ) (bytes : List ℕ)
    → IsLaidOut w xs → Agree n w xs ys → extent_of w m ≡ Some x
    → 512 * x.first ≤ start → start + length bytes ≤ 512 * (x.first + x.blocks)
    → Agree n w (with_bytes xs start bytes) (with_bytes ys start bytes)
both-written n m w xs ys x start bytes laid agree named low high =
    let within = laid.within m x named in
    let wide : 512 * (x.first + x.blocks) ≤ length ys = omega (arith, within, agree.size) in
    let one = keeps-with_bytes (512 * x.first) (512 * (x.first + x.blocks)) xs start bytes low high
    (omega (arith, high, within)) in
    let two =
    keeps-with_bytes (512 * x.first) (512 * (x.first + x.blocks)) ys start bytes low high (omega (arith, high, wide)) in
    record {
      size = two.size ∙ agree.size ∙ sym one.size;
      others = λ l other. elim (cases_Bool (l == m)) [
        | inl here ↦ (let same : l ≡ m = eqb-true l m here in
            let known : extent_of w l ≡ Some x = ap (extent_of w) same ∙ named in
            let equal : bytes_at ys (Some x) ≡ bytes_at xs (Some x) =
            ap (bytes_at ys) (sym known) ∙ agree.others l other ∙ ap (bytes_at xs) known in
            ap (bytes_at (with_bytes ys start bytes)) known ∙ into ys x start bytes low high wide
            ∙ ap (λ c. with_bytes c (start - 512 * x.first) bytes) equal
            ∙ sym (ap (bytes_at (with_bytes xs start bytes)) known ∙ into xs x start bytes low high within))
        | inr there ↦ (let apart = eqb-false l m there in
            beside ys x (extent_of w l) start bytes (λ y is. laid.apart l m y x apart is named) low high wide
            ∙ agree.others l other
            ∙ sym (beside xs x (extent_of w l) start bytes (λ y is. laid.apart l m y x apart is named) low high within))
      ];
    }
