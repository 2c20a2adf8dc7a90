-- Proofs of the laws in `laws/queues.rt`.
use Rattle.std.proofs.Common.{
  ◌≡◌,
  ◌≢◌,
  ◌↔◌,
  ℕ,
  ◌+◌,
  ◌-◌,
  ◌*◌,
  ◌/◌,
  ◌%◌,
  ◌<◌,
  ◌≤◌,
  ◌==◌,
  true,
  false,
  not,
  nat_lt,
  nat_le,
  ◌&&◌,
  inl,
  inr,
  sym,
  ap,
  ◌∙◌,
  arith,
}
use Rattle.std.specs.Prelude.{if◌then◌else◌}
use Rattle.std.proofs.Math.Nat.{mul-le-mul_left, add-mod_right, add-div_right, mod_self, mod-mod}
use Rattle.std.proofs.Math.Arith.{mod-mul}
use Rattle.std.proofs.lemmas.Nat.{mod-mul-add, div-mul-add, mod_below}
use Rattle.std.proofs.lemmas.Bool.{cases_lt, lt-ltb, le-leb}
use Rattle.nvme_spec.specs.Queues.{
  ahead,
  IsQueueSize,
  slot_of,
  SubmissionHead,
  FitsSubmissionHead,
  CompletionTail,
  FitsCompletionTail,
  SubmissionTail,
  FitsSubmissionTail,
  can_be_heard,
}
use Rattle.nvme_spec.specs.QueueLaws.{
  NextTurn,
  TwoTurns,
  TailAtHead,
  HeadAtTail,
  AllFetched,
  SubmissionHeadStays,
  CompletionTailStays,
  SubmissionTailStays,
  CompletionHeadStays,
  EntryIsInside,
  CompletionRoom,
  SubmissionRoom,
}

-- the successor of an even number is odd, and that of an odd one even
odd_next : (x : ℕ) → ((x + 1) % 2 == 0) ≡ not (x % 2 == 0)
odd_next x =
    elim (cases_lt (x % 2) 1) [
      | inl even ↦
          let here : x % 2 ≡ 0 = omega (arith, even) in
          let next : (x + 1) % 2 ≡ 1 = omega (arith, even) in
          ap (λ k. k == 0) next ∙ sym (ap (λ k. not (k == 0)) here)
      | inr odd ↦
          let here : x % 2 ≡ 1 = omega (arith, odd) in
          let next : (x + 1) % 2 ≡ 0 = omega (arith, odd) in
          ap (λ k. k == 0) next ∙ sym (ap (λ k. not (k == 0)) here)
    ]

pub next_turn : NextTurn
next_turn size n some =
    (add-mod_right n size, ap (λ k. k % 2 == 0) (add-div_right n some) ∙ odd_next (n / size))

pub two_turns : TwoTurns
two_turns size n some =
    let two : 0 < 2 = omega arith in
    let digits : n % (2 * size) ≡ n / size % 2 * size + n % size = mod-mul n two some in
    let low : n % size < size = mod_below n size some in (
      ap (λ k. k % size) digits ∙ mod-mul-add (n / size % 2) size (n % size) low,
      ap (λ k. k / size % 2 == 0) digits
          ∙ ap (λ k. k % 2 == 0) (div-mul-add (n / size % 2) size (n % size) low)
          ∙ ap (λ k. k == 0) (mod-mod (n / size) 2),
    )

pub entry_is_inside : EntryIsInside
entry_is_inside base width size n some =
    let slot : slot_of size n + 1 ≤ size = omega (arith, mod_below n size some) in
    let entry : width * (slot_of size n + 1) ≤ width * size = mul-le-mul_left width slot in
    omega (arith, entry)

room_unless_full : (size count : ℕ) → count < size → (0 < size - 1 - count) ↔ (count ≢ size - 1)
room_unless_full size count within = (λ room full. omega arith, λ other. omega arith)

pub completion_has_room : CompletionRoom
completion_has_room q fits = room_unless_full q.size q.unread fits.unread

pub submission_has_room : SubmissionRoom
submission_has_room q fits = room_unless_full q.size q.unheard fits.unheard

some_entries : {size : ℕ} → IsQueueSize size → 0 < size
some_entries fits = omega (arith, fits.0)

ahead_self : (size n : ℕ) → ahead size n n ≡ 0
ahead_self size n =
    let e : size + n - n ≡ size = omega arith in
    ap (λ k. k % size) e ∙ mod_self size

pub tail_at_head : TailAtHead
tail_at_head q fits =
    let heard : SubmissionHead = record q { waiting = ahead q.size q.fetched q.fetched } in
    ap (λ b. (if b then heard else q).waiting) (lt-ltb q.fetched q.size fits.fetched) ∙ ahead_self q.size q.fetched

pub head_at_tail : HeadAtTail
head_at_tail q fits =
    let tail : ℕ = slot_of q.size q.posted in
    let heard : CompletionTail = record q { unread = ahead q.size tail tail } in
    let below : tail < q.size = mod_below q.posted q.size (some_entries fits.size) in
    ap (λ b. (if b then heard else q).unread) (lt-ltb tail q.size below) ∙ ahead_self q.size tail

pub all_fetched : AllFetched
all_fetched q fits =
    let heard : SubmissionTail = record q { unheard = ahead q.size q.put q.put } in
    let low : ahead q.size q.put q.put ≤ q.unheard = omega (arith, ahead_self q.size q.put) in
    ap (λ b. (if b && nat_le (ahead q.size q.put q.put) q.unheard then heard else q).unheard)
    (lt-ltb q.put q.size fits.put)
    ∙ ap (λ b. (if b then heard else q).unheard) (le-leb (ahead q.size q.put q.put) q.unheard low)
    ∙ ahead_self q.size q.put

ahead_below : (size n m : ℕ) → IsQueueSize size → ahead size n m < size
ahead_below size n m fits = mod_below (size + n - m) size (some_entries fits)

pub submission_head_stays : SubmissionHeadStays
submission_head_stays = (
  λ q tail fits.
      let heard : SubmissionHead = record q { waiting = ahead q.size tail q.fetched } in
      let bounds : FitsSubmissionHead heard =
      record { size = fits.size; fetched = fits.fetched; waiting = ahead_below q.size tail q.fetched fits.size } in
      elim (nat_lt tail q.size) as (λ b. FitsSubmissionHead (if b then heard else q)) [ true ↦ bounds | false ↦ fits ],
  λ q fits. record {
    size = fits.size;
    fetched = mod_below (q.fetched + 1) q.size (some_entries fits.size);
    waiting = omega (arith, fits.waiting);
  },
)

pub completion_tail_stays : CompletionTailStays
completion_tail_stays = (
  λ q head fits.
      let tail : ℕ = slot_of q.size q.posted in
      let heard : CompletionTail = record q { unread = ahead q.size tail head } in
      let bounds : FitsCompletionTail heard =
      record { size = fits.size; posted = fits.posted; unread = ahead_below q.size tail head fits.size } in
      elim (nat_lt head q.size) as (λ b. FitsCompletionTail (if b then heard else q)) [ true ↦ bounds | false ↦ fits ],
  λ q fits room. record {
    size = fits.size;
    posted = mod_below (q.posted + 1) (2 * q.size) (omega (arith, some_entries fits.size));
    unread = omega (arith, room);
  },
)

pub submission_tail_stays : SubmissionTailStays
submission_tail_stays = (
  λ q head fits.
      let heard : SubmissionTail = record q { unheard = ahead q.size q.put head } in
      let bounds : FitsSubmissionTail heard =
      record { size = fits.size; put = fits.put; unheard = ahead_below q.size q.put head fits.size } in
      elim (can_be_heard q head) as (λ b. FitsSubmissionTail (if b then heard else q)) [ true ↦ bounds | false ↦ fits ],
  λ q fits room. record {
    size = fits.size;
    put = mod_below (q.put + 1) q.size (some_entries fits.size);
    unheard = omega (arith, room);
  },
)

pub completion_head_stays : CompletionHeadStays
completion_head_stays q fits = record {
  size = fits.size;
  consumed = mod_below (q.consumed + 1) (2 * q.size) (omega (arith, some_entries fits.size));
}
