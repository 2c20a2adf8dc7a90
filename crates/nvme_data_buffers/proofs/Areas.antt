-- For the laws of areas: no two overlap, and what stores leave.
use Rattle.std.proofs.Common.{
  ◌≡◌,
  ℕ,
  ◌+◌,
  ◌-◌,
  ◌*◌,
  ◌/◌,
  ◌<◌,
  ◌≤◌,
  List,
  length,
  slice_range,
  rules,
  refl,
  sym,
  ap,
  ◌∙◌,
  arith,
  inl,
  inr,
  ⊎_elim,
  Bool,
  true,
  false,
  cond,
  nat_lt,
}
use Rattle.std.specs.Prelude.{◌≢◌}
use Rattle.std.proofs.lemmas.Bool.{cases_lt, lt-ltb, le-ltb, le-leb, cond-true, cond-false}
use Rattle.std.proofs.lemmas.List.{places, same_lists}
use Rattle.nvme_spec.specs.Bytes.{with_bytes}
use Rattle.nvme_spec.specs.Memory.{LiesInWindow}
use Rattle.nvme_spec.specs.declared.pointer.Piece.{Piece}
use Rattle.nvme_spec.proofs.Contents.{keeps-with_bytes}
use Rattle.nvme_data_buffers.specs.Areas.{
  Area,
  Commands,
  Completions,
  Listing,
  Buffer,
  extent,
  AreApart,
  LiesIn,
  AreasLieInWindow,
  AreasAreApart,
  DataLieInTheirBuffer,
  StoresKeepOtherAreas,
  StoredListIsThere,
  StoresKeepTheList,
}
use Rattle.nvme_data_buffers.specs.Buffers.{capacity, end_of, start, prp_list, HasListAt}
use Rattle.nvme_data_buffers.specs.declared.buffer.DataBuffer.{DataBuffer}
use Rattle.nvme_data_buffers.specs.declared.buffer.DataBuffer.TheVariants.{AtOnce, Held}
use Rattle.nvme_data_buffers.proofs.Listed.{length-prp_list}

-- a buffer of a held command
held-bytes : (n : ℕ) → n < 16 → capacity (Held n) ≡ 8192
held-bytes n few = cond-true _ _ _ (lt-ltb n 16 few)

held-end : (n : ℕ) → n < 16 → end_of (Held n) ≡ 4194304 - 131072 - 8192 * n
held-end n few = cond-true _ _ _ (lt-ltb n 16 few)

-- the pages of areas, for arithmetic
record Spans (a : Area) (low high : ℕ) : Type 0 where
  from : (extent a).address ≡ low
  until : (extent a).address + (extent a).len ≡ high

held-spans : (n : ℕ) → n < 16 → Spans (Buffer (Held n)) (4063232 - 8192 * n - 8192) (4063232 - 8192 * n)
held-spans n few =
    let bytes = held-bytes n few in
    let end = held-end n few in
    record { from = omega (arith, bytes, end, few); until = omega (arith, bytes, end, few) }

queue-apart : (q r : ℕ) → q ≤ 5 → r ≤ 5 → AreApart (extent (Commands q)) (extent (Completions r))
queue-apart q r few less =
    ⊎_elim {C = AreApart (extent (Commands q)) (extent (Completions r))}
    (λ (below : r < q). inr (omega (arith, below, few, less)))
    (λ (above : q ≤ r). inl (omega (arith, above, few, less)))
    (cases_lt r q)

turned : (p q : Piece) → AreApart p q → AreApart q p
turned p q (inl h) = inr h
turned p q (inr h) = inl h

commands-apart : (q r : ℕ) → q ≤ 5 → r ≤ 5 → q ≢ r → AreApart (extent (Commands q)) (extent (Commands r))
commands-apart q r few less other =
    ⊎_elim {C = AreApart (extent (Commands q)) (extent (Commands r))}
    (λ (below : q < r). inl (omega (arith, below, few, less)))
    (λ (above : r ≤ q). inr (omega (arith, above, other, few, less)))
    (cases_lt q r)

completions-apart : (q r : ℕ) → q ≤ 5 → r ≤ 5 → q ≢ r → AreApart (extent (Completions q)) (extent (Completions r))
completions-apart q r few less other =
    ⊎_elim {C = AreApart (extent (Completions q)) (extent (Completions r))}
    (λ (below : q < r). inl (omega (arith, below, few, less)))
    (λ (above : r ≤ q). inr (omega (arith, above, other, few, less)))
    (cases_lt q r)

held-apart : (n m : ℕ) → n < 16 → m < 16 → n ≢ m → AreApart (extent (Buffer (Held n))) (extent (Buffer (Held m)))
held-apart n m few less other =
    let s = held-spans n few in
    let t = held-spans m less in
    let sf = s.from in
    let su = s.until in
    let tf = t.from in
    let tu = t.until in
    ⊎_elim {C = AreApart (extent (Buffer (Held n))) (extent (Buffer (Held m)))}
    (λ (below : n < m). inr (omega (arith, below, few, less, sf, tu)))
    (λ (above : m ≤ n). inl (omega (arith, above, other, few, less, su, tf)))
    (cases_lt n m)

-- all but the buffers of held commands are below these, or the last buffer
low-apart : (p : Piece) (n : ℕ) → n < 16 → p.address + p.len ≤ 65784 → AreApart p (extent (Buffer (Held n)))
low-apart p n few below =
    let s = held-spans n few in
    let from = s.from in
    inl (omega (arith, from, few, below))

end-apart : (n : ℕ) → n < 16 → AreApart (extent (Buffer (Held n))) (extent (Buffer AtOnce))
end-apart n few =
    let s = held-spans n few in
    let until = s.until in
    inl (omega (arith, until, few))

pub areas-lie-in-window : AreasLieInWindow
areas-lie-in-window (Commands q) h = omega (arith, h)
areas-lie-in-window (Completions q) h = omega (arith, h)
areas-lie-in-window Listing h = omega arith
areas-lie-in-window (Buffer AtOnce) h = omega arith
areas-lie-in-window (Buffer (Held n)) h = let s = held-spans n h in let until = s.until in omega (arith, until)

pub areas-are-apart : AreasAreApart
areas-are-apart (Commands q) (Commands r) h k other = commands-apart q r h k (λ e. other (ap Commands e))
areas-are-apart (Commands q) (Completions r) h k other = queue-apart q r h k
areas-are-apart (Commands q) Listing h k other = inl (omega (arith, h))
areas-are-apart (Commands q) (Buffer AtOnce) h k other = inl (omega (arith, h))
areas-are-apart (Commands q) (Buffer (Held n)) h k other = low-apart (extent (Commands q)) n k (omega (arith, h))
areas-are-apart (Completions q) (Commands r) h k other = turned _ _ (queue-apart r q k h)
areas-are-apart (Completions q) (Completions r) h k other = completions-apart q r h k (λ e. other (ap Completions e))
areas-are-apart (Completions q) Listing h k other = inl (omega (arith, h))
areas-are-apart (Completions q) (Buffer AtOnce) h k other = inl (omega (arith, h))
areas-are-apart (Completions q) (Buffer (Held n)) h k other = low-apart (extent (Completions q)) n k (omega (arith, h))
areas-are-apart Listing (Commands r) h k other = inr (omega (arith, k))
areas-are-apart Listing (Completions r) h k other = inr (omega (arith, k))
areas-are-apart Listing Listing h k other = absurd (other refl)
areas-are-apart Listing (Buffer AtOnce) h k other = inl (omega arith)
areas-are-apart Listing (Buffer (Held n)) h k other = low-apart (extent Listing) n k (omega arith)
areas-are-apart (Buffer AtOnce) (Commands r) h k other = inr (omega (arith, k))
areas-are-apart (Buffer AtOnce) (Completions r) h k other = inr (omega (arith, k))
areas-are-apart (Buffer AtOnce) Listing h k other = inr (omega arith)
areas-are-apart (Buffer AtOnce) (Buffer AtOnce) h k other = absurd (other refl)
areas-are-apart (Buffer AtOnce) (Buffer (Held n)) h k other =
    turned (extent (Buffer (Held n))) (extent (Buffer AtOnce)) (end-apart n k)
areas-are-apart (Buffer (Held n)) (Commands r) h k other =
    turned _ _ (low-apart (extent (Commands r)) n h (omega (arith, k)))
areas-are-apart (Buffer (Held n)) (Completions r) h k other =
    turned _ _ (low-apart (extent (Completions r)) n h (omega (arith, k)))
areas-are-apart (Buffer (Held n)) Listing h k other =
    turned (extent Listing) (extent (Buffer (Held n))) (low-apart (extent Listing) n h (omega arith))
areas-are-apart (Buffer (Held n)) (Buffer AtOnce) h k other = end-apart n h
areas-are-apart (Buffer (Held n)) (Buffer (Held m)) h k other =
    held-apart n m h k (λ e. other (ap (λ i. Buffer (Held i)) e))

-- ---- data in their buffer

pub at-most : (c : Bool) (x y m : ℕ) → x ≤ m → y ≤ m → cond c x y ≤ m
at-most true x y m a b = a
at-most false x y m a b = b

pub end-within : (b : DataBuffer) → end_of b ≤ 4194304
end-within AtOnce = omega arith
end-within (Held n) =
    at-most (nat_lt n 16) (4194304 - 131072 - 8192 * n) 4194304 4194304 (omega arith) (omega arith)

-- all buffers end in the window, also those that have no bytes
pub buffer-within : (b : DataBuffer) → (extent (Buffer b)).address + (extent (Buffer b)).len ≤ 4194304
buffer-within AtOnce = omega arith
buffer-within (Held n) =
    let end = end-within (Held n) in
    ⊎_elim {C = (extent (Buffer (Held n))).address + (extent (Buffer (Held n))).len ≤ 4194304}
    (λ (few : n < 16). areas-lie-in-window (Buffer (Held n)) few)
    (λ (many : 16 ≤ n).
    let bytes : capacity (Held n) ≡ 0 = cond-false _ _ _ (le-ltb n 16 many) in
    omega (arith, bytes, end))
    (cases_lt n 16)

pub data-lie-in-their-buffer : DataLieInTheirBuffer
data-lie-in-their-buffer AtOnce size fit =
    let here : start AtOnce size ≡ 4194304 - (size + 3) / 4 * 4 = cond-true _ _ _ (le-leb size 131072 fit) in
    record { from = omega (arith, here, fit); until = omega (arith, here, fit) }
data-lie-in-their-buffer (Held n) size fit =
    let here : start (Held n) size ≡ end_of (Held n) - (size + 3) / 4 * 4 =
    cond-true _ _ _ (le-leb size (capacity (Held n)) fit) in
    ⊎_elim {C = LiesIn (extent (Buffer (Held n))) (start (Held n) size) size}
    (λ (few : n < 16).
    let bytes = held-bytes n few in
    let end = held-end n few in
    record { from = omega (arith, here, fit, bytes, end, few); until = omega (arith, here, fit, bytes, end, few) })
    (λ (many : 16 ≤ n).
    let bytes : capacity (Held n) ≡ 0 = cond-false _ _ _ (le-ltb n 16 many) in
    let end : end_of (Held n) ≡ 4194304 = cond-false _ _ _ (le-ltb n 16 many) in
    record { from = omega (arith, here, fit, bytes, end); until = omega (arith, here, fit, bytes, end) })
    (cases_lt n 16)

-- ---- stores

-- bytes that are stored are there
pub stored : (w part : List ℕ) (at : ℕ) → at + length part ≤ length w
    → slice_range (with_bytes w at part) at (at + length part) ≡ part
stored w part at fits = same_lists _ _ (search (rules, places)) (λ k d h. grind (arith, places))

kept : (w part : List ℕ) (p q : Piece) (at i n : ℕ) → length w ≡ 4194304 → LiesInWindow p → AreApart p q
    → LiesIn p at (length part) → LiesIn q i n
    → slice_range (with_bytes w at part) i (i + n) ≡ slice_range w i (i + n)
kept w part p q at i n whole inside apart here there =
    let from = here.from in
    let until = here.until in
    let first = there.from in
    let last = there.until in
    let k = keeps-with_bytes at (at + length part) w at part (omega arith) (omega arith)
    (omega (arith, whole, inside, until)) in
    ⊎_elim {C = slice_range (with_bytes w at part) i (i + n) ≡ slice_range w i (i + n)}
    (λ (before : p.address + p.len ≤ q.address). k.others i n (inr (omega (arith, before, until, first))))
    (λ (after : q.address + q.len ≤ p.address). k.others i n (inl (omega (arith, after, from, last))))
    apart

pub stores-keep-other-areas : StoresKeepOtherAreas
stores-keep-other-areas window part a b at i n whole is-a is-b other here there =
    kept window part (extent a) (extent b) at i n whole (areas-lie-in-window a is-a)
    (areas-are-apart a b is-a is-b other) here there

list-stored : (w : List ℕ) (at : ℕ) → at + 248 ≤ length w → HasListAt (with_bytes w at prp_list) at
unfolding HasListAt
list-stored w at fits =
    ap (λ k. slice_range (with_bytes w at prp_list) at (at + k)) (sym length-prp_list)
    ∙ stored w prp_list at (omega (arith, fits, length-prp_list))

pub stored-list-is-there : StoredListIsThere
stored-list-is-there window whole = list-stored window 65536 (omega (arith, whole))

list-kept : (old new : List ℕ) (at : ℕ) → slice_range new at (at + 248) ≡ slice_range old at (at + 248)
    → HasListAt old at → HasListAt new at
unfolding HasListAt
list-kept old new at same h = same ∙ h

pub stores-keep-the-list : StoresKeepTheList
stores-keep-the-list window part a at whole is-a other here has =
    list-kept window (with_bytes window at part) 65536
    (stores-keep-other-areas window part a Listing at 65536 248 whole is-a tt other here
    (record { from = omega arith; until = omega arith }))
    has

pub buffer-not-list : {b : DataBuffer} → Buffer b ≢ Listing
buffer-not-list e = absurd (cc)
