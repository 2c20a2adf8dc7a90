-- For `Posted`: the slots of a completion queue, and operations that leave their bytes.
use Rattle.std.proofs.Common.{
  ◌≡◌,
  ◌≢◌,
  ◌⊎◌,
  inl,
  inr,
  ℕ,
  zero,
  suc,
  ◌+◌,
  ◌-◌,
  ◌*◌,
  ◌/◌,
  ◌%◌,
  ◌<◌,
  ◌≤◌,
  ◌&&◌,
  ◌||◌,
  nat_lt,
  nat_le,
  Bool,
  true,
  false,
  List,
  [],
  ◌∷◌,
  length,
  take,
  drop,
  slice_range,
  rules,
  refl,
  sym,
  ap,
  ◌∙◌,
  arith,
  length-drop,
}
use Rattle.std.specs.Prelude.{slice_index}
use Rattle.std.proofs.Math.Nat.{mod-eq_of_lt, add-mod_right, mod-add-div'}
use Rattle.std.proofs.lemmas.Nat.{mod-mul-add, mod_below}
use Rattle.std.proofs.lemmas.Bool.{cases_lt, false≢true, le-leb, lt-ltb}
use Rattle.std.proofs.lemmas.List.{length-take, get_or-take, get_or-drop, places, same_lists}
use Rattle.std.proofs.lemmas.Grind.{same_number_lists}
use Rattle.nvme_spec.specs.Bytes.{with_bytes}
use Rattle.nvme_spec.specs.Queues.{CompletionTail, FitsCompletionTail, ahead, slot_of, after_post, completion_room}
use Rattle.nvme_spec.specs.Transfers.{with_scattered}
use Rattle.nvme_spec.proofs.Contents.{keeps-with_bytes}
use Rattle.nvme_spec.proofs.QueueLaws.{two_turns}
use Rattle.nvme_spec.proofs.TransferLaws.{others_stay, length-with_scattered}
use Rattle.nvme_machine.specs.Posted.{behind, IsUnread, PostedEntry, entry_address, Overlaps, is_touched}

-- Slots.

ahead-within : (size n m : ℕ) → m ≤ n → n < size → ahead size n m ≡ n - m
ahead-within size n m low below =
    let e : size + n - m ≡ 1 * size + (n - m) = omega arith in
    ap (λ k. k % size) e ∙ mod-mul-add 1 size (n - m) (omega arith)

ahead-round : (size n m : ℕ) → n < m → m < size → ahead size n m ≡ size + n - m
ahead-round size n m past below = mod-eq_of_lt (omega arith)

-- the next slot
next-slot : (size n : ℕ) → 0 < size → (slot_of size n + 1 < size → slot_of size (n + 1) ≡ slot_of size n + 1)
    × (slot_of size n + 1 ≡ size → slot_of size (n + 1) ≡ 0)
next-slot size n some =
    let parts : n ≡ n / size * size + n % size = omega (arith, mod-add-div' n size) in (
      λ within. ap (λ k. k % size) (let e : n + 1 ≡ n / size * size + (n % size + 1) = omega (arith, parts) in e)
          ∙ mod-mul-add (n / size) size (n % size + 1) within,
      λ last. ap (λ k. k % size) (let e : n + 1 ≡ n / size * size + 0 + size = omega (arith, parts, last) in e)
          ∙ add-mod_right (n / size * size + 0) size ∙ mod-mul-add (n / size) size 0 some,
    )

-- if the tail advances by one, and the queue is not full, an unread slot is not the tail's, and is one farther from it
one-farther : (size tail next slot unread : ℕ) → tail < size → slot < size → 0 < ahead size tail slot
    → ahead size tail slot ≤ unread → unread < size - 1
    → (tail + 1 < size → next ≡ tail + 1) × (tail + 1 ≡ size → next ≡ 0)
    → (ahead size next slot ≡ ahead size tail slot + 1) × (tail ≢ slot)
one-farther size tail next slot unread below inside posted close room goes = elim (cases_lt tail slot) [
  | inl past ↦ (let far = ahead-round size tail slot past inside in
      let within : tail + 1 < size = omega (arith, past, inside) in
      let here = goes.0 within in
      let not_last : tail + 1 < slot = omega (arith, far, close, room, past) in (
        ap (λ n. ahead size n slot) here ∙ ahead-round size (tail + 1) slot not_last inside
            ∙ omega (arith, far, not_last, inside),
        λ same. omega (arith, past, same),
      ))
  | inr low ↦ (let near = ahead-within size tail slot (omega (arith, low)) below in
      let other : tail ≢ slot = λ same. omega (arith, near, posted, same) in
      elim (cases_lt (tail + 1) size) [
        | inl within ↦ (
          ap (λ n. ahead size n slot) (goes.0 within) ∙ ahead-within size (tail + 1) slot (omega (arith, low)) within
              ∙ omega (arith, near, low),
          other,
        )
        | inr last ↦ (let end : tail + 1 ≡ size = omega (arith, last, below) in
            let some : 0 < slot = omega (arith, near, close, room, end, low) in (
              ap (λ n. ahead size n slot) (goes.1 end) ∙ ahead-round size 0 slot some inside
                  ∙ omega (arith, near, end, low),
              other,
            ))
      ])
]

-- the tail advances
goes-on : (q : CompletionTail) → FitsCompletionTail q
    → (slot_of q.size q.posted + 1 < q.size → slot_of q.size (after_post q).posted ≡ slot_of q.size q.posted + 1)
    × (slot_of q.size q.posted + 1 ≡ q.size → slot_of q.size (after_post q).posted ≡ 0)
goes-on q fits =
    let size = fits.size in
    let some : 0 < q.size = omega (arith, size.0) in
    let turn = two_turns q.size (q.posted + 1) some in
    let next = next-slot q.size q.posted some in
    (λ within. turn.0 ∙ next.0 within, λ last. turn.0 ∙ next.1 last)

pub unread-next : (q : CompletionTail) (slot : ℕ) → FitsCompletionTail q → 0 < completion_room q → IsUnread q slot
    → IsUnread (after_post q) slot × (slot_of q.size q.posted ≢ slot)
unread-next q slot fits room u =
    let size = fits.size in
    let r = one-farther q.size (slot_of q.size q.posted) (slot_of q.size (after_post q).posted) slot q.unread
    (mod_below q.posted q.size (omega (arith, size.0))) u.inside u.posted u.unread (omega (arith, room))
    (goes-on q fits) in (
      record { inside = u.inside; posted = omega (arith, r.0); unread = omega (arith, r.0, u.unread) },
      r.1,
    )

-- what is posted is unread
pub posted-unread : (q : CompletionTail) → FitsCompletionTail q → IsUnread (after_post q) (slot_of q.size q.posted)
posted-unread q fits =
    let size = fits.size in
    let tail : ℕ = slot_of q.size q.posted in
    let below : tail < q.size = mod_below q.posted q.size (omega (arith, size.0)) in
    let goes = goes-on q fits in
    let one : ahead q.size (slot_of q.size (after_post q).posted) tail ≡ 1 = elim (cases_lt (tail + 1) q.size) [
      | inl within ↦ ap (λ n. ahead q.size n tail) (goes.0 within)
          ∙ ahead-within q.size (tail + 1) tail (omega arith) within ∙ omega arith
      | inr last ↦ (let end : tail + 1 ≡ q.size = omega (arith, last, below) in
          ap (λ n. ahead q.size n tail) (goes.1 end) ∙ ahead-round q.size 0 tail (omega (arith, end, size.0)) below
          ∙ omega (arith, end))
    ] in
    record { inside = below; posted = omega (arith, one); unread = omega (arith, one) }

-- Bytes.

-- a range whose bytes are the same
range-same : (w v : List ℕ) (a n : ℕ)
    → length v ≡ length w → a + n ≤ length w → ((b : ℕ) → a ≤ b → b < a + n → slice_index v b ≡ slice_index w b)
    → slice_range v a (a + n) ≡ slice_range w a (a + n)
range-same w v a n size fits same =
    let width : a + n - a ≡ n = omega arith in
    let long : length (slice_range v a (a + n)) ≡ n = simp (length-take, length-drop) (omega arith) in
    let wide : length (slice_range w a (a + n)) ≡ n = simp (length-take, length-drop) (omega arith) in
    same_number_lists _ _ (long ∙ sym wide) (λ k inside.
    let low : k < n = omega (arith, inside, long) in
    let near : k < a + n - a = omega (arith, low) in
    get_or-take (a + n - a) (drop a v) k 0 near ∙ get_or-drop a v k 0 ∙ same (a + k) (omega arith) (omega (arith, low))
    ∙ sym (get_or-take (a + n - a) (drop a w) k 0 near ∙ get_or-drop a w k 0))

-- addresses that do not touch an entry
pub untouched-take : (ps : List ℕ) (n : ℕ) (e : PostedEntry)
    → is_touched ps e ≡ false → is_touched (take n ps) e ≡ false
untouched-take [] zero e h = refl
untouched-take [] (suc n) e h = refl
untouched-take (p ∷ ps) zero e h = refl
untouched-take (p ∷ ps) (suc n) e h =
    by (nat_le (entry_address e) p && nat_lt p (entry_address e + 16)) h (λ g. untouched-take ps n e g)
  where
    by : (b : Bool) → (b || is_touched ps e) ≡ false → (is_touched ps e ≡ false → is_touched (take n ps) e ≡ false)
        → (b || is_touched (take n ps) e) ≡ false
    by true g later = absurd (cc)
    by false g later = later g

outside-by : (a b : Bool) → (a && b) ≡ false → (a ≡ true → b ≡ true → ⊥)
outside-by true true h p q = absurd (cc)
outside-by true false h p q = absurd (cc)
outside-by false b h p q = absurd (cc)

untouched-at : (ps : List ℕ) (e : PostedEntry) → is_touched ps e ≡ false → (b : ℕ)
    → entry_address e ≤ b → b < entry_address e + 16 → (i : ℕ) → i < length ps → slice_index ps i ≢ b
untouched-at [] e h b low high i inside same = absurd (omega (arith, inside))
untouched-at (p ∷ ps) e h b low high i inside same =
    by (nat_le (entry_address e) p && nat_lt p (entry_address e + 16)) refl h
    (λ g j within equal. untouched-at ps e g b low high j within equal) i inside same
  where
    by : (c : Bool) → (nat_le (entry_address e) p && nat_lt p (entry_address e + 16)) ≡ c
        → (c || is_touched ps e) ≡ false
        → (is_touched ps e ≡ false → (j : ℕ) → j < length ps → slice_index ps j ≢ b) → (i : ℕ)
        → i < suc (length ps) → slice_index (p ∷ ps) i ≢ b
    by true is g later i inside same = absurd (false≢true (sym g))
    by false is g later zero inside same = (let above : entry_address e ≤ p = omega (arith, low, same) in
        let below : p < entry_address e + 16 = omega (arith, high, same) in
        outside-by _ _ is (le-leb (entry_address e) p above) (lt-ltb p (entry_address e + 16) below))
    by false is g later (suc i) inside same = later g i (omega (arith, inside)) same

pub scattered-apart : (w ps bytes : List ℕ) (e : PostedEntry)
    → is_touched ps e ≡ false → entry_address e + 16 ≤ length w
    → slice_range (with_scattered w ps bytes) (entry_address e) (entry_address e + 16)
    ≡ slice_range w (entry_address e) (entry_address e + 16)
scattered-apart w ps bytes e h fits =
    range-same w (with_scattered w ps bytes) (entry_address e) 16 (length-with_scattered w ps bytes) fits
    (λ b low high. others_stay w ps bytes b (λ i inside. untouched-at ps e h b low high i inside))

pub overlaps-or : (start len : ℕ) (e : PostedEntry)
    → Overlaps start len e ⊎ ((entry_address e + 16 ≤ start) ⊎ (start + len ≤ entry_address e))
overlaps-or start len e = elim (cases_lt start (entry_address e + 16)) [
  | inl before ↦ elim (cases_lt (entry_address e) (start + len)) [
    | inl behind ↦ inl (before, behind)
    | inr past ↦ inr (inr (omega (arith, past)))
  ]
  | inr past ↦ inr (inl (omega (arith, past)))
]

pub stored-apart : (w : List ℕ) (start : ℕ) (bytes : List ℕ) (e : PostedEntry) → start + length bytes ≤ length w
    → (entry_address e + 16 ≤ start) ⊎ (start + length bytes ≤ entry_address e)
    → slice_range (with_bytes w start bytes) (entry_address e) (entry_address e + 16)
    ≡ slice_range w (entry_address e) (entry_address e + 16)
stored-apart w start bytes e fits apart =
    let keeps = keeps-with_bytes start (start + length bytes) w start bytes (omega arith) (omega arith) fits in
    keeps.others (entry_address e) 16 apart

pub stored-there : (w : List ℕ) (start : ℕ) (bytes : List ℕ) → length bytes ≡ 16 → start + 16 ≤ length w
    → slice_range (with_bytes w start bytes) start (start + 16) ≡ bytes
stored-there w start bytes whole fits = same_lists _ _ (search (rules, places)) (λ k d inside. grind (arith, places))
