-- For `laws.rt`: a PDU that is put together comes apart into the same parts.
use Rattle.std.proofs.Common.{
  ◌≡◌,
  ℕ,
  ◌+◌,
  ◌-◌,
  List,
  [],
  length,
  ◌++◌,
  take,
  drop,
  sym,
  ap,
  ◌∙◌,
  subst,
  arith,
  replicate,
}
use Rattle.std.specs.Prelude.{slice_range}
use Rattle.std.proofs.Math.Seq.{drop-append_seam, take-append_seam}
use Rattle.std.proofs.lemmas.List.{append_assoc, append-nil, length-append, length-replicate}
use Rattle.nvme_pdu.specs.declared.layout.PduLayout.{PduLayout}
use Rattle.nvme_pdu.specs.Headers.{digest_bytes}
use Rattle.nvme_pdu.specs.Laws.{PdusComeApart}
use Rattle.nvme_pdu.specs.Wholes.{Parts, Fit, whole_of, padding}

take-first : (n : ℕ) (xs ys : List ℕ) → length xs ≡ n → take n (xs ++ ys) ≡ xs
take-first n xs ys is = subst (λ n. take n (xs ++ ys) ≡ xs) is (take-append_seam xs ys)

drop-first : (n : ℕ) (xs ys : List ℕ) → length xs ≡ n → drop n (xs ++ ys) ≡ ys
drop-first n xs ys is = subst (λ n. drop n (xs ++ ys) ≡ ys) is (drop-append_seam xs ys)

middle : (front xs after : List ℕ) (a b : ℕ) → length front ≡ a → a + length xs ≡ b
    → slice_range (front ++ (xs ++ after)) a b ≡ xs
middle front xs after a b begins ends =
    ap (take (b - a)) (drop-first a front (xs ++ after) begins)
    ∙ take-first (b - a) xs after (omega (arith, ends))

-- all before the data
front : PduLayout → Parts → List ℕ
front l p = p.header ++ (p.header_digest ++ replicate (padding l) 0)

front-length : (l : PduLayout) (p : Parts) → Fit l p → length (front l p) ≡ l.data_offset
unfolding front
front-length l p fit =
    let a = length-append p.header (p.header_digest ++ replicate (padding l) 0) in
    let b = length-append p.header_digest (replicate (padding l) 0) in
    let c = length-replicate {A = ℕ} (padding l) 0 in
    omega (arith, a, b, c, fit.header, fit.header_digest, fit.ordered.header)

regrouped : (l : PduLayout) (p : Parts) → whole_of l p ≡ front l p ++ (p.bytes ++ p.data_digest)
unfolding front
regrouped l p =
    ap (λ xs. p.header ++ xs) (sym (append_assoc p.header_digest (replicate (padding l) 0) (p.bytes ++ p.data_digest)))
    ∙ sym (append_assoc p.header (p.header_digest ++ replicate (padding l) 0) (p.bytes ++ p.data_digest))

last-length : (l : PduLayout) (p : Parts) → Fit l p → length (front l p ++ p.bytes) ≡ l.data_offset + l.data_length
last-length l p fit =
    let a = length-append (front l p) p.bytes in
    let b = front-length l p fit in
    omega (arith, a, b, fit.bytes)

last-is : (l : PduLayout) (p : Parts) → Fit l p
    → slice_range (whole_of l p) (l.data_offset + l.data_length) l.length ≡ p.data_digest
last-is l p fit =
    let all : whole_of l p ≡ (front l p ++ p.bytes) ++ (p.data_digest ++ []) =
    regrouped l p ∙ sym (append_assoc (front l p) p.bytes p.data_digest)
    ∙ ap (λ xs. (front l p ++ p.bytes) ++ xs) (sym (append-nil p.data_digest)) in
    subst (λ xs. slice_range xs (l.data_offset + l.data_length) l.length ≡ p.data_digest) (sym all)
    (middle (front l p ++ p.bytes) p.data_digest [] _ _ (last-length l p fit)
    (omega (arith, fit.data_digest, fit.ordered.whole)))

bytes-are : (l : PduLayout) (p : Parts) → Fit l p
    → slice_range (whole_of l p) l.data_offset (l.data_offset + l.data_length) ≡ p.bytes
bytes-are l p fit =
    subst (λ xs. slice_range xs l.data_offset (l.data_offset + l.data_length) ≡ p.bytes) (sym (regrouped l p))
    (middle (front l p) p.bytes p.data_digest _ _ (front-length l p fit) (omega (arith, fit.bytes)))

header-is : (l : PduLayout) (p : Parts) → Fit l p → take l.header (whole_of l p) ≡ p.header
header-is l p fit =
    take-first l.header p.header (p.header_digest ++ (replicate (padding l) 0 ++ (p.bytes ++ p.data_digest))) fit.header

digest-is : (l : PduLayout) (p : Parts) → Fit l p
    → slice_range (whole_of l p) l.header (l.header + digest_bytes l.header_digest) ≡ p.header_digest
digest-is l p fit =
    middle p.header p.header_digest (replicate (padding l) 0 ++ (p.bytes ++ p.data_digest)) _ _ fit.header
    (omega (arith, fit.header_digest))

size-is : (l : PduLayout) (p : Parts) → Fit l p → length (whole_of l p) ≡ l.length
size-is l p fit =
    let a = ap length (regrouped l p) in
    let b = length-append (front l p) (p.bytes ++ p.data_digest) in
    let c = length-append p.bytes p.data_digest in
    let d = front-length l p fit in
    omega (arith, a, b, c, d, fit.bytes, fit.data_digest, fit.ordered.whole)

pub pdus_come_apart : PdusComeApart
pdus_come_apart l p fit = record {
  size = size-is l p fit;
  parts = λ i. record {
    header = header-is l p fit i;
    header_digest = digest-is l p fit i;
    bytes = bytes-are l p fit i;
    data_digest = last-is l p fit i;
  };
}
