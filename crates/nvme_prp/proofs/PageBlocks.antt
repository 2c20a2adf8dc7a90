-- For the answers about blocks: the place of a block of a transfer, among pieces that are pages.
use Rattle.std.proofs.Common.{
  ◌≡◌,
  ℕ,
  zero,
  suc,
  ◌+◌,
  ◌-◌,
  ◌*◌,
  ◌/◌,
  ◌%◌,
  ◌<◌,
  ◌≤◌,
  List,
  [],
  ◌∷◌,
  ◌++◌,
  length,
  min,
  take,
  drop,
  get_or,
  refl,
  sym,
  ap,
  subst,
  ◌∙◌,
  arith,
  ⊎_elim,
  length-append,
  length-drop,
}
use Rattle.std.specs.List.{range_with_len}
use Rattle.std.proofs.lemmas.List.{drop_more, drop_all, drop-drop, append-nil, get_or-drop}
use Rattle.std.proofs.Math.Seq.{drop-append-add}
use Rattle.std.proofs.lemmas.List.FromFn.{length-range_with_len}
use Rattle.std.proofs.lemmas.Bool.{cases_lt}
use Rattle.nvme_spec.specs.declared.pointer.Piece.{Piece}
use Rattle.nvme_spec.specs.Transfers.{run, addresses, ArePages, LiesInPage, StartsPage, block_addresses}
use Rattle.nvme_prp.specs.Places.{LiesAt}
use Rattle.nvme_spec.proofs.Runs.{piece-step}

-- the first of the pieces starts its page, as all do after the first of a transfer
abbrev pub HeadStarts : List Piece → Type 0
HeadStarts [] = Unit {0}
HeadStarts (p ∷ later) = StartsPage p

pub addresses-cons : (p : Piece) (later : List Piece) → addresses (p ∷ later) ≡ run p ++ addresses later
unfolding addresses
addresses-cons p later = refl

addresses-none : addresses [] ≡ []
unfolding addresses
addresses-none = refl

pub addresses-size : (p : Piece) (later : List Piece)
    → length (addresses (p ∷ later)) ≡ p.len + length (addresses later)
addresses-size p later =
    ap length (addresses-cons p later) ∙ length-append (run p) (addresses later)
    ∙ ap (λ n. n + length (addresses later)) (length-range_with_len p.address p.len)

pub later-pages : (p : Piece) (later : List Piece) → ArePages (p ∷ later) → ArePages later × HeadStarts later
unfolding ArePages
later-pages p [] h = (tt, tt)
later-pages p (q ∷ rest) h = (h.4, h.3)

pub lies : (p : Piece) (later : List Piece) → ArePages (p ∷ later) → LiesInPage p
unfolding ArePages
lies p [] h = h
lies p (q ∷ rest) h = h.0

-- a piece that another one follows ends its page
pub ends : (p : Piece) (later : List Piece) → ArePages (p ∷ later) → 0 < length later → p.address % 4096 + p.len ≡ 4096
unfolding ArePages
ends p [] h more = absurd (omega (arith, more))
ends p (q ∷ rest) h more = h.1

-- the bytes after i whole pages are those of the pieces after the first i
pub drop-pages : (i : ℕ) (ps : List Piece)
    → ArePages ps → HeadStarts ps → drop (4096 * i) (addresses ps) ≡ addresses (drop i ps)
drop-pages zero ps h s = refl
drop-pages (suc i) [] h s = rw addresses-none (drop_all (4096 * suc i) [] (omega arith))
drop-pages (suc i) (p ∷ []) h s =
    let fits = lies p [] h in
    let size = addresses-size p [] in
    let none : length (addresses []) ≡ 0 = ap length addresses-none in
    drop_all (4096 * suc i) (addresses (p ∷ [])) (omega arith)
    ∙ sym (ap addresses (drop_all i [] (omega arith)) ∙ addresses-none)
drop-pages (suc i) (p ∷ q ∷ rest) h s =
    let later = later-pages p (q ∷ rest) h in
    let whole = ends p (q ∷ rest) h (omega arith) in
    let size : length (run p) ≡ p.len = length-range_with_len p.address p.len in
    let count : 4096 * suc i ≡ length (run p) + 4096 * i = omega arith in
    ap (λ n. drop n (addresses (p ∷ q ∷ rest))) count
    ∙ ap (drop (length (run p) + 4096 * i)) (addresses-cons p (q ∷ rest))
    ∙ drop-append-add (run p) (addresses (q ∷ rest)) (4096 * i)
    ∙ drop-pages i (q ∷ rest) later.0 later.1

-- the pieces after the first i
pub drop-are_pages : (i : ℕ) (ps : List Piece) → ArePages ps → ArePages (drop i ps)
drop-are_pages zero ps h = h
drop-are_pages (suc i) [] h = h
drop-are_pages (suc i) (p ∷ later) h = drop-are_pages i later (later-pages p later h).0

pub drop-starts : (i : ℕ) (ps : List Piece) → ArePages ps → HeadStarts ps → HeadStarts (drop i ps)
drop-starts zero ps h s = s
drop-starts (suc i) [] h s = s
drop-starts (suc i) (p ∷ later) h s = let both = later-pages p later h in drop-starts i later both.0 both.1

-- their bytes are at most a page each
pub addresses-short : (ps : List Piece) → ArePages ps → length (addresses ps) ≤ 4096 * length ps
addresses-short [] h = rw addresses-none (omega arith)
addresses-short (p ∷ later) h =
    let size = addresses-size p later in
    let fits = lies p later h in
    let rest = addresses-short later (later-pages p later h).0 in
    omega arith

-- bytes at the front of these pieces that are within the first of them
pub front-room : (q : Piece) (ps : List Piece) (k : ℕ) → ArePages ps → HeadStarts ps → 0 < length ps → k ≤ 4096
    → k ≤ length (addresses ps) → k ≤ (get_or ps 0 q).len
front-room q [] k h s some few enough = absurd (omega (arith, some))
front-room q (p ∷ later) k h s some few enough =
    let size = addresses-size p later in
    ⊎_elim {C = k ≤ p.len}
    (λ (more : 0 < length later). let whole = ends p later h more in omega arith)
    (λ (last : length later ≤ 0). let short = addresses-short later (later-pages p later h).0 in omega arith)
    (cases_lt 0 (length later))

front-of : (q : Piece) (ps : List Piece) (k : ℕ) → ArePages ps → HeadStarts ps → k ≤ 4096 → k ≤ length (addresses ps)
    → take k (addresses ps) ≡ range_with_len (get_or ps 0 q).address k
front-of q [] k h s few enough = let size = ap length addresses-none in let none : k ≡ 0 = omega arith in rw none refl
front-of q (p ∷ later) k h s few enough =
    let room = front-room q (p ∷ later) k h s (omega arith) few enough in
    let all : min (p.len - min 0 p.len) k ≡ k = omega arith in
    let left : k - min (p.len - min 0 p.len) k ≡ 0 = omega arith in
    let start : p.address + min 0 p.len ≡ p.address = omega arith in
    ap (take k) (addresses-cons p later) ∙ piece-step p (addresses later) 0 k
    ∙ ap (λ n. range_with_len (p.address + min 0 p.len) (min (p.len - min 0 p.len) k)
    ++ take n (drop (0 - min 0 p.len) (addresses later))) left
    ∙ append-nil (range_with_len (p.address + min 0 p.len) (min (p.len - min 0 p.len) k))
    ∙ ap (λ n. range_with_len n (min (p.len - min 0 p.len) k)) start ∙ ap (range_with_len p.address) all

-- 512 bytes that begin in a piece are in it and in the next
pub block-split : (p d : Piece) (later : List Piece) (skip n : ℕ)
    → ArePages (p ∷ later) → skip ≤ p.len → n ≡ min (p.len - skip) 512 → skip + 512 ≤ length (addresses (p ∷ later))
    → take 512 (drop skip (addresses (p ∷ later)))
    ≡ range_with_len (p.address + skip) n ++ range_with_len (get_or later 0 d).address (512 - n)
block-split p d later skip n h fits n-is enough =
    let both = later-pages p later h in
    let size = addresses-size p later in
    let skipped : min skip p.len ≡ skip = omega arith in
    let none : skip - skip ≡ 0 = omega arith in
    ap (λ xs. take 512 (drop skip xs)) (addresses-cons p later) ∙ piece-step p (addresses later) skip 512
    ∙ ap (λ k. range_with_len (p.address + k) (min (p.len - k) 512) ++ take (512 - min (p.len - k) 512)
    (drop (skip - k) (addresses later))) skipped
    ∙ ap (λ k. range_with_len (p.address + skip) k ++ take (512 - k) (drop (skip - skip) (addresses later))) (sym n-is)
    ∙ ap (λ k. range_with_len (p.address + skip) n ++ take (512 - n) (drop k (addresses later))) none
    ∙ ap (λ xs. range_with_len (p.address + skip) n ++ xs)
    (front-of d later (512 - n) both.0 both.1 (omega arith) (omega arith))

-- the place of byte `at`: in the first piece, or in a later one
pub lies-near : (p : Piece) (later : List Piece) (at : ℕ) → at < p.len → LiesAt (p ∷ later) at 0 at
lies-near p later at near = record { index = omega arith; skip_fits = λ d. omega arith; same = refl }

pub lies-far : (p : Piece) (later : List Piece) (at : ℕ)
    → ArePages (p ∷ later) → p.len ≤ at → at + 512 ≤ length (addresses (p ∷ later))
    → LiesAt (p ∷ later) at (suc ((at - p.len) / 4096)) ((at - p.len) % 4096)
lies-far p later at h far enough =
    let i : ℕ = (at - p.len) / 4096 in
    let skip : ℕ = (at - p.len) % 4096 in
    let both = later-pages p later h in
    let size = addresses-size p later in
    let run-size = length-range_with_len p.address p.len in
    let short = addresses-short later both.0 in
    let index : i < length later = omega arith in
    let split : at ≡ length (run p) + (4096 * i + skip) = omega arith in
    let same : drop at (addresses (p ∷ later)) ≡ drop skip (addresses (drop i later)) =
    ap (λ n. drop n (addresses (p ∷ later))) split
    ∙ ap (drop (length (run p) + (4096 * i + skip))) (addresses-cons p later)
    ∙ drop-append-add (run p) (addresses later) (4096 * i + skip)
    ∙ sym (drop-drop skip (4096 * i) (addresses later))
    ∙ ap (drop skip) (drop-pages i later both.0 both.1) in
    let behind : length (addresses later) ≡ length (drop (4096 * i) (addresses later)) + 4096 * i =
    (let d = length-drop (4096 * i) (addresses later) in omega arith) in
    let left : skip + 512 ≤ length (addresses (drop i later)) =
    (let e = ap length (drop-pages i later both.0 both.1) in omega arith) in
    record {
      index = omega arith;
      skip_fits = λ d. subst (λ q. skip < q.len) (get_or-drop i later 0 d ∙ ap (λ n. get_or later n d) (omega arith))
          (front-room d (drop i later) (suc skip) (drop-are_pages i later both.0) (drop-starts i later both.0 both.1)
          (omega (arith, length-drop i later)) (omega arith) (omega arith));
      same = same;
    }

-- The place of block j: n bytes in piece i, and the rest in the next.
pub block-at : (ps : List Piece) (j i skip n : ℕ) (d : Piece) → ArePages ps → LiesAt ps (512 * j) i skip
    → n ≡ min ((get_or ps i d).len - skip) 512 → 512 * j + 512 ≤ length (addresses ps) → block_addresses ps j
    ≡ range_with_len ((get_or ps i d).address + skip) n ++ range_with_len (get_or ps (i + 1) d).address (512 - n)
block-at ps j i skip n d h a n-is enough =
    let split = drop_more ps i d a.index in
    let pages = subst ArePages split (drop-are_pages i ps h) in
    let width : 512 * j + 512 - 512 * j ≡ 512 = omega arith in
    let sizes = ap length (a.same ∙ ap (λ xs. drop skip (addresses xs)) split) in
    let front = length-drop (512 * j) (addresses ps) in
    let back = length-drop skip (addresses (get_or ps i d ∷ drop (i + 1) ps)) in
    let next : get_or (drop (i + 1) ps) 0 d ≡ get_or ps (i + 1) d =
    get_or-drop (i + 1) ps 0 d ∙ ap (λ k. get_or ps k d) (omega arith) in
    ap (λ k. take k (drop (512 * j) (addresses ps))) width
    ∙ ap (take 512) (a.same ∙ ap (λ xs. drop skip (addresses xs)) split)
    ∙ block-split (get_or ps i d) d (drop (i + 1) ps) skip n pages
    (let f = a.skip_fits d in omega arith) n-is (omega arith)
    ∙ ap (λ q. range_with_len ((get_or ps i d).address + skip) n ++ range_with_len q.address (512 - n)) next

-- the part in piece i is in the window
pub front-fits : (ps : List Piece) (i : ℕ) (d : Piece)
    → ArePages ps → i < length ps → (get_or ps i d).address + (get_or ps i d).len ≤ 4194304
front-fits ps i d h index =
    (lies (get_or ps i d) (drop (i + 1) ps) (subst ArePages (drop_more ps i d index) (drop-are_pages i ps h))).1

-- so is the part in the next piece, if there is one
pub record NextFits (ps : List Piece) (i rest : ℕ) : Type 0 where
  pub index : i + 1 < length ps
  pub fits : (d : Piece) → (get_or ps (i + 1) d).address + rest ≤ 4194304

pub next-fits : (ps : List Piece) (j i skip n : ℕ) (d : Piece) → ArePages ps → LiesAt ps (512 * j) i skip
    → n ≡ min ((get_or ps i d).len - skip) 512 → n < 512 → 512 * j + 512 ≤ length (addresses ps)
    → NextFits ps i (512 - n)
next-fits ps j i skip n d h a n-is part enough =
    let split = drop_more ps i d a.index in
    let p : Piece = get_or ps i d in
    let later : List Piece = drop (i + 1) ps in
    let pages = subst ArePages split (drop-are_pages i ps h) in
    let both = later-pages p later pages in
    let sizes = ap length (a.same ∙ ap (λ xs. drop skip (addresses xs)) split) in
    let front = length-drop (512 * j) (addresses ps) in
    let back = length-drop skip (addresses (p ∷ later)) in
    let size = addresses-size p later in
    let fits = a.skip_fits d in
    let left : 512 - n ≤ length (addresses later) = omega arith in
    let some : 0 < length later = (let short = addresses-short later both.0 in omega arith) in
    let index : i + 1 < length ps = (let k = length-drop (i + 1) ps in omega arith) in
    record {
      index = index;
      fits = λ e.
          let room = front-room e later (512 - n) both.0 both.1 some (omega arith) left in
          let next : get_or later 0 e ≡ get_or ps (i + 1) e =
          get_or-drop (i + 1) ps 0 e ∙ ap (λ k. get_or ps k e) (omega arith) in
          let within = front-fits ps (i + 1) e h index in
          let long : 512 - n ≤ (get_or ps (i + 1) e).len = subst (λ q. 512 - n ≤ q.len) next room in
          omega arith;
    }

pub some-pieces : (ps xs : List Piece) (n : ℕ) → xs ≡ ps → ArePages ps → n + 512 ≤ length (addresses ps) → 0 < length xs
some-pieces ps xs n e h enough = let short = addresses-short ps h in omega (arith, ap length e)

-- the place of a block after the first piece, as the code computes it
pub lies-behind : (ps xs : List Piece) (d : Piece) (at : ℕ)
    → xs ≡ ps → ArePages ps → (get_or xs 0 d).len ≤ at → at + 512 ≤ length (addresses ps)
    → LiesAt ps at (1 + (at - (get_or xs 0 d).len) / 4096) ((at - (get_or xs 0 d).len) % 4096)
lies-behind [] xs d at e h far enough = let size = ap length addresses-none in absurd (omega (arith, enough, size))
lies-behind (p ∷ later) xs d at e h far enough =
    let first : (get_or xs 0 d).len ≡ p.len = ap (λ ys. (get_or ys 0 d).len) e in
    let index : suc ((at - p.len) / 4096) ≡ 1 + (at - p.len) / 4096 = omega arith in
    subst (λ n. LiesAt (p ∷ later) at (1 + (at - n) / 4096) ((at - n) % 4096)) (sym first)
    (subst (λ i. LiesAt (p ∷ later) at i ((at - p.len) % 4096)) index (lies-far p later at h (omega arith) enough))

-- What the code requires of the piece in which block j begins.
pub record Begins (xs : List Piece) (i skip : ℕ) (d : Piece) : Type 0 where
  pub index : i < length xs
  pub skip_fits : skip < (get_or xs i d).len
  pub inside : (get_or xs i d).address + (get_or xs i d).len ≤ 4194304

pub begins : (ps xs : List Piece) (at i skip : ℕ) (d : Piece) → xs ≡ ps → ArePages ps → LiesAt ps at i skip
    → Begins xs i skip d
begins ps xs at i skip d e h a =
    subst (λ ys. Begins ys i skip d) (sym e)
    (record { index = a.index; skip_fits = a.skip_fits d; inside = front-fits ps i d h a.index })

-- If the block does not end in that piece, what the code requires of the next.
pub goes-on : (ps xs : List Piece) (j i skip n : ℕ) (d : Piece) → xs ≡ ps → ArePages ps → LiesAt ps (512 * j) i skip
    → n ≡ min ((get_or xs i d).len - skip) 512 → n < 512 → 512 * j + 512 ≤ length (addresses ps)
    → (i + 1 < length xs) × ((get_or xs (i + 1) d).address + (512 - n) ≤ 4194304)
goes-on ps xs j i skip n d e h a n-is part enough =
    let next = next-fits ps j i skip n d h a (n-is ∙ ap (λ ys. min ((get_or ys i d).len - skip) 512) e) part enough in (
      subst (λ ys. i + 1 < length ys) (sym e) next.index,
      subst (λ ys. (get_or ys (i + 1) d).address + (512 - n) ≤ 4194304) (sym e) (next.fits d),
    )

-- the block's addresses
pub lies-in_two : (ps xs : List Piece) (j i skip n : ℕ) (d : Piece) → xs ≡ ps → ArePages ps → LiesAt ps (512 * j) i skip
    → n ≡ min ((get_or xs i d).len - skip) 512 → 512 * j + 512 ≤ length (addresses ps) → block_addresses ps j
    ≡ range_with_len ((get_or xs i d).address + skip) n ++ range_with_len (get_or xs (i + 1) d).address (512 - n)
lies-in_two ps xs j i skip n d e h a n-is enough =
    block-at ps j i skip n d h a (n-is ∙ ap (λ ys. min ((get_or ys i d).len - skip) 512) e) enough
    ∙ ap (λ ys.
    range_with_len ((get_or ys i d).address + skip) n ++ range_with_len (get_or ys (i + 1) d).address (512 - n)) (sym e)

pub lies-in_one : (ps xs : List Piece) (j i skip n : ℕ) (d : Piece) → xs ≡ ps → ArePages ps → LiesAt ps (512 * j) i skip
    → n ≡ min ((get_or xs i d).len - skip) 512 → 512 ≤ n → 512 * j + 512 ≤ length (addresses ps)
    → block_addresses ps j ≡ range_with_len ((get_or xs i d).address + skip) n ++ []
lies-in_one ps xs j i skip n d e h a n-is all enough =
    let none : 512 - n ≡ 0 = omega arith in
    lies-in_two ps xs j i skip n d e h a n-is enough
    ∙ ap (λ k. range_with_len ((get_or xs i d).address + skip) n ++ range_with_len (get_or xs (i + 1) d).address k) none
