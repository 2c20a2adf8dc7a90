-- Laws of the notices that a controller keeps, over its runs.
use Rattle.std.proofs.Common.{
  ◌≡◌,
  ℕ,
  ◌<◌,
  ◌≤◌,
  true,
  false,
  cond,
  not,
  ◌&&◌,
  List,
  [],
  ◌∷◌,
  ◌++◌,
  length,
  map,
  take,
  drop,
  refl,
  ap,
  sym,
  ◌∙◌,
  arith,
  append-nil,
  append_assoc,
  length-append,
}
use Rattle.std.proofs.lemmas.List.{map-append}
use Rattle.std.proofs.lemmas.Bool.Decides.{nat_tests}
use Rattle.nvme_spec.proofs.Registrants.{below_test}
use Rattle.nvme_notices.specs.declared.notice.NoticeType.{NoticeType}
use Rattle.nvme_notices.specs.declared.notice.Notice.{Notice}
use Rattle.nvme_notices.specs.Keeping.{
  Notices,
  type_number,
  count_after,
  with_last_count,
  has_room,
  kept_with,
  queued,
  is_masked,
  added,
  taken,
}
use Rattle.nvme_notices.specs.Runs.{
  Step,
  Adds,
  Reads,
  Masks,
  content,
  after_step,
  read_by,
  kept_by,
  after_run,
  read_in,
  kept_in,
  CountsRise,
  IsCounted,
}
use Rattle.nvme_notices.proofs.Recounting.{length-with_last_count, content-with_last_count}

-- the notices that are kept after another one arrives
kept-more : (xs : List Notice) (x : Notice)
    → map content (kept_with xs x) ≡ map content xs ++ cond (has_room xs) (content x ∷ []) []
kept-more xs x = elim (has_room xs) as (λ b.
    map content (cond b (xs ++ x ∷ []) (with_last_count xs x.count)) ≡ map content xs ++ cond b (content x ∷ []) []) [
      | true ↦ map-append content xs (x ∷ [])
      | false ↦ content-with_last_count xs x.count ∙ sym (append-nil (map content xs))
    ]

abbrev new-notice : Notices → ℕ → NoticeType → Notice
new-notice n nsid kind = record { count = count_after n.count; kind = type_number kind; nsid = nsid }

one-added : (n : Notices) (nsid : ℕ) (kind : NoticeType)
    → map content (added n nsid kind).kept ≡ map content n.kept ++ kept_by n (Adds nsid kind)
one-added n nsid kind = elim (is_masked n nsid kind) as (λ b.
    map content (cond b n (queued n nsid kind)).kept
    ≡ map content n.kept ++ cond (not b && has_room n.kept) ((nsid, type_number kind) ∷ []) []) [
      | true ↦ sym (append-nil (map content n.kept))
      | false ↦ kept-more n.kept (new-notice n nsid kind)
    ]

one-read : (xs : List Notice) → map content (take 1 xs) ++ map content (drop 1 xs) ≡ map content xs ++ []
one-read [] = refl
one-read (x ∷ xs) = sym (append-nil (map content (x ∷ xs)))

one-step : (n : Notices) (step : Step)
    → read_by n step ++ map content (after_step n step).kept ≡ map content n.kept ++ kept_by n step
one-step n (Adds nsid kind) = one-added n nsid kind
one-step n Reads = one-read n.kept
one-step n (Masks nsid dw11) = sym (append-nil (map content n.kept))

pub all-in-order : (n : Notices) (steps : List Step)
    → read_in n steps ++ map content (after_run n steps).kept ≡ map content n.kept ++ kept_in n steps
all-in-order n [] = sym (append-nil (map content n.kept))
all-in-order n (step ∷ steps) =
    let next : Notices = after_step n step in
    let last : List (ℕ × ℕ) = map content (after_run next steps).kept in
    append_assoc (read_by n step) (read_in next steps) last
    ∙ ap (λ xs. read_by n step ++ xs) (all-in-order next steps)
    ∙ sym (append_assoc (read_by n step) (map content next.kept) (kept_in next steps))
    ∙ ap (λ xs. xs ++ kept_in next steps) (one-step n step)
    ∙ append_assoc (map content n.kept) (kept_by n step) (kept_in next steps)

-- room for one more, or the same number
few-kept : (xs : List Notice) (x : Notice) → length xs ≤ 64 → length (kept_with xs x) ≤ 64
few-kept xs x h = elim (has_room xs) as (λ b.
    has_room xs ≡ b → length (cond b (xs ++ x ∷ []) (with_last_count xs x.count)) ≤ 64) [
      | true ↦ λ e.
          let room : length xs < 64 = grind (arith, nat_tests) in
          omega (arith, length-append {A = Notice}, room)
      | false ↦ λ e. rw (length-with_last_count xs x.count) h
    ] refl

few-step : (n : Notices) (step : Step) → length n.kept ≤ 64 → length (after_step n step).kept ≤ 64
few-step n (Adds nsid kind) h = elim (is_masked n nsid kind) as (λ b.
    length (cond b n (queued n nsid kind)).kept ≤ 64) [
      | true ↦ h
      | false ↦ few-kept n.kept (new-notice n nsid kind) h
    ]
few-step n Reads h = few-rest n.kept h where
  few-rest : (xs : List Notice) → length xs ≤ 64 → length (drop 1 xs) ≤ 64
  few-rest [] h = h
  few-rest (x ∷ xs) h = omega (arith, h)
few-step n (Masks nsid dw11) h = h

pub all-bounded : (n : Notices) (steps : List Step) → length n.kept ≤ 64 → length (after_run n steps).kept ≤ 64
all-bounded n [] h = h
all-bounded n (step ∷ steps) h = all-bounded (after_step n step) steps (few-step n step h)

rising-from : (low lower : ℕ) (xs : List Notice) (last : ℕ) → lower ≤ low → CountsRise low xs last
    → CountsRise lower xs last
rising-from low lower [] last le h = omega (arith, le, h)
rising-from low lower (x ∷ xs) last le h = (omega (arith, le, h.0), h.1)

rising-more : (low : ℕ) (xs : List Notice) (last : ℕ) (x : Notice) → last < x.count → CountsRise low xs last
    → CountsRise low (xs ++ x ∷ []) x.count
rising-more low [] last x lt h = (omega (arith, lt, h), omega arith)
rising-more low (y ∷ xs) last x lt h = (h.0, rising-more y.count xs last x lt h.1)

rising-recounted : (low : ℕ) (xs : List Notice) (last count : ℕ) → last < count → CountsRise low xs last
    → CountsRise low (with_last_count xs count) count
rising-recounted low [] last count lt h = omega (arith, lt, h)
rising-recounted low (x ∷ []) last count lt h = (omega (arith, lt, h.0, h.1), omega arith)
rising-recounted low (x ∷ y ∷ xs) last count lt h = (h.0, rising-recounted x.count (y ∷ xs) last count lt h.1)

rising-kept : (xs : List Notice) (last : ℕ) (x : Notice) → last < x.count → CountsRise 0 xs last
    → CountsRise 0 (kept_with xs x) x.count
rising-kept xs last x lt h = elim (has_room xs) as (λ b.
    CountsRise 0 (cond b (xs ++ x ∷ []) (with_last_count xs x.count)) x.count) [
      | true ↦ rising-more 0 xs last x lt h
      | false ↦ rising-recounted 0 xs last x.count lt h
    ]

counts-up : (count : ℕ) → count < 18446744073709551615 → count < count_after count
counts-up count h = rw (below_test count 18446744073709551615 h) (omega arith)

pub counted-adds : (n : Notices) (nsid : ℕ) (kind : NoticeType) → n.count < 18446744073709551615 → IsCounted n
    → IsCounted (added n nsid kind)
counted-adds n nsid kind lt h = elim (is_masked n nsid kind) as (λ b. IsCounted (cond b n (queued n nsid kind))) [
  | true ↦ h
  | false ↦ rising-kept n.kept n.count (new-notice n nsid kind) (counts-up n.count lt) h
]

pub counted-reads : (n : Notices) → IsCounted n → IsCounted (taken n)
counted-reads n h = rest n.kept n.count h where
  rest : (xs : List Notice) (last : ℕ) → CountsRise 0 xs last → CountsRise 0 (drop 1 xs) last
  rest [] last h = h
  rest (x ∷ xs) last h = rising-from x.count 0 xs last (omega arith) h.1
