-- For `counts.rt`: the code computes the counts of a ring by cases, the definitions by division.
use Rattle.std.proofs.Common.{◌≡◌, ℕ, ◌+◌, ◌-◌, ◌*◌, ◌/◌, ◌%◌, ◌<◌, ◌≤◌, ◌==◌, true, false, ap, ◌∙◌, sym, arith}
use Rattle.std.proofs.Math.Nat.{mod-eq_of_lt, mod_self, div-eq_of_lt}
use Rattle.std.proofs.lemmas.Nat.{mod-mul-add, div-mul-add}
use Rattle.nvme_spec.specs.Queues.{ahead, slot_of, phase_tag}

pub next_within : (n turn : ℕ) → n + 1 < turn → n + 1 ≡ (n + 1) % turn
next_within n turn below = sym (mod-eq_of_lt below)

pub next_round : (n turn : ℕ) → n + 1 ≡ turn → 0 ≡ (n + 1) % turn
next_round n turn last = sym (ap (λ k. k % turn) last ∙ mod_self turn)

-- a count in the second pass through the queue
second : (size n : ℕ) → size ≤ n → n < 2 * size → n ≡ 1 * size + (n - size)
second size n past below = omega arith

pub slot_first : (size n : ℕ) → n < size → n ≡ slot_of size n
slot_first size n below = sym (mod-eq_of_lt below)

pub slot_second : (size n : ℕ) → size ≤ n → n < 2 * size → n - size ≡ slot_of size n
slot_second size n past below =
    sym (ap (λ k. k % size) (second size n past below) ∙ mod-mul-add 1 size (n - size) (omega arith))

pub phase_first : (size n : ℕ) → n < size → true ≡ phase_tag size n
phase_first size n below = sym (ap (λ k. k % 2 == 0) (div-eq_of_lt below))

pub phase_second : (size n : ℕ) → size ≤ n → n < 2 * size → false ≡ phase_tag size n
phase_second size n past below =
    sym (ap (λ k. k / size % 2 == 0) (second size n past below)
    ∙ ap (λ k. k % 2 == 0) (div-mul-add 1 size (n - size) (omega arith)))

pub ahead_within : (size n m : ℕ) → m ≤ n → n < size → n - m ≡ ahead size n m
ahead_within size n m behind below =
    let e : size + n - m ≡ 1 * size + (n - m) = omega arith in
    sym (ap (λ k. k % size) e ∙ mod-mul-add 1 size (n - m) (omega arith))

pub ahead_round : (size n m : ℕ) → n < m → m < size → size - m + n ≡ ahead size n m
ahead_round size n m past below =
    let e : size + n - m ≡ size - m + n = omega arith in
    sym (ap (λ k. k % size) e ∙ mod-eq_of_lt (omega arith))
