-- For proofs of one lane (queue pair): the phase tags of a completion queue after a new submission entry, a new
-- completion and a consumed completion.
use Rattle.nvme_refinement.proofs.Words.{
  ◌≡◌,
  ℕ,
  ◌+◌,
  ◌-◌,
  ◌%◌,
  ◌<◌,
  List,
  refl,
  ap,
  sym,
  ◌∙◌,
  arith,
  true,
  false,
  not,
  cond,
  Bool,
  inl,
  inr,
  lt-ltb,
  le-ltb,
  cases_lt,
  cases_eq,
  ne_eqb,
  common_steps,
  nat_lt,
  completion_of,
  completion_bytes,
  phase_of,
  Phases,
  ◌*◌,
  ◌≤◌,
  length,
  zero,
  suc,
  eqb,
  take,
  drop,
  subst,
  eqb-false,
  with_bytes,
  command_at,
  commands,
  completions,
}
use Rattle.nvme_refinement.proofs.Queues.{same-entry, same-turn}
use Rattle.nvme_refinement.proofs.Windows.{stored-apart, stored-in}
use Rattle.nvme_spec.proofs.Splices.{length-with_bytes}

-- Two queue pages that differ in at most one submission entry and one completion entry.

-- two queue pages that differ in the p-th submission entry and the m-th completion entry at most
pub record Keeps (w w' : List ℕ) (p m : ℕ) : Type 0 where
  pub size : length w' ≡ length w
  pub commands : (k : ℕ) → k < 8 → eqb k p ≡ false → command_at w' k ≡ command_at w k
  pub completions : (n : ℕ) → eqb (n % 32) m ≡ false → completion_bytes w' n ≡ completion_bytes w n

-- a new submission entry
pub record Enters (w w' : List ℕ) (p : ℕ) (entry : List ℕ) : Type 0 where
  pub keeps : Keeps w w' p 32
  pub last : command_at w' p ≡ entry

pub enters : (w entry : List ℕ) (p : ℕ) → length w ≡ 8192 → p < 8 → length entry ≡ 64
    → Enters w (with_bytes w (64 * p) entry) p entry
enters w entry p l h b =
    let i : 64 * p + length entry ≤ length w = omega (arith, l, h, b) in
    record {
      keeps =
          record {
            size = length-with_bytes w (64 * p) entry i;
            commands = λ k g q. stored-apart w entry (64 * p) (64 * k) 64 i (omega (arith, b, eqb-false k p q));
            completions = λ n q. stored-apart w entry (64 * p) (4096 + 16 * (n % 32)) 16 i (omega (arith, h, b));
          };
      last = subst (λ n. take n (drop (64 * p) (with_bytes w (64 * p) entry)) ≡ entry) b
          (stored-in w entry (64 * p) (omega (arith, l, h)));
    }

-- a new completion entry
pub record EntersCompletion (w w' : List ℕ) (m : ℕ) (entry : List ℕ) : Type 0 where
  pub keeps : Keeps w w' 8 m
  pub last : take 16 (drop (4096 + 16 * m) w') ≡ entry

pub answered : (w entry : List ℕ) (m : ℕ) → length w ≡ 8192 → m < 32 → length entry ≡ 16
    → EntersCompletion w (with_bytes w (4096 + 16 * m) entry) m entry
answered w entry m l h b =
    let i : 4096 + 16 * m + length entry ≤ length w = omega (arith, l, h, b) in
    record {
      keeps =
          record {
            size = length-with_bytes w (4096 + 16 * m) entry i;
            commands = λ k g q. stored-apart w entry (4096 + 16 * m) (64 * k) 64 i (omega (arith, g));
            completions = λ n q. stored-apart w entry (4096 + 16 * m) (4096 + 16 * (n % 32)) 16 i
                (omega (arith, b, eqb-false (n % 32) m q));
          };
      last = subst (λ n. take n (drop (4096 + 16 * m) (with_bytes w (4096 + 16 * m) entry)) ≡ entry) b
          (stored-in w entry (4096 + 16 * m) (omega (arith, l, h)));
    }

-- entries up to the p-th, which is the only different one
pub commands-kept : (w w' : List ℕ) (p m from n : ℕ) → Keeps w w' p m → p < 8 → from < 8 → n ≤ (p + 8 - from) % 8
    → commands w' from n ≡ commands w from n
commands-kept w w' p m from zero k a b h = refl
commands-kept w w' p m from (suc n) k a b h =
    rw (
      k.commands from b (ne_eqb from p (λ e. omega (arith, e, h, b))),
      commands-kept w w' p m ((from + 1) % 8) n k a (omega arith) (omega (arith, h, a, b)),
    ) refl

-- if no submission entry differs
pub commands-same : (w w' : List ℕ) (m from n : ℕ) → Keeps w w' 8 m → from < 8 → commands w' from n ≡ commands w from n
commands-same w w' m from zero k b = refl
commands-same w w' m from (suc n) k b =
    rw (
      k.commands from b (ne_eqb from 8 (λ e. omega (arith, e, b))),
      commands-same w w' m ((from + 1) % 8) n k (omega arith),
    ) refl

-- completions up to the m-th, which is the only different one
pub completions-kept : (w w' : List ℕ) (p m n k : ℕ) → Keeps w w' p m → m < 32 → n < 64 → k < 32
    → k ≤ (m + 32 - n % 32) % 32 → completions w' n k ≡ completions w n k
completions-kept w w' p m n zero h a b l g = refl
completions-kept w w' p m n (suc k) h a b l g =
    let f : k ≤ (m + 32 - (n + 1) % 64 % 32) % 32 = omega (arith, g, a, b, l) in
    rw (
      h.completions n (ne_eqb (n % 32) m (λ e. omega (arith, e, g))),
      completions-kept w w' p m ((n + 1) % 64) k h a (omega arith) (omega (arith, l)) f,
    ) refl

-- if no completion entry differs
pub completions-same : (w w' : List ℕ) (p n k : ℕ) → Keeps w w' p 32 → completions w' n k ≡ completions w n k
completions-same w w' p n zero h = refl
completions-same w w' p n (suc k) h =
    rw (h.completions n (ne_eqb (n % 32) 32 (λ e. omega (arith, e))), completions-same w w' p ((n + 1) % 64) k h) refl

twice : (b : Bool) → b ≡ not (not b)
twice true = refl
twice false = refl

-- a new submission entry leaves them
pub phases-kept : (w w' : List ℕ) (p n k : ℕ) → Keeps w w' p 32 → Phases w n k → Phases w' n k
phases-kept w w' p n k h f j l =
    ap (λ b. (completion_of b).phase) (h.completions (n + j) (ne_eqb ((n + j) % 32) 32 (λ e. omega (arith, e)))) ∙ f j l

-- the completion after the unread ones is new
pub phases-posted : (w w' entry : List ℕ) (n k p : ℕ) → EntersCompletion w w' (p % 32) entry → p ≡ (n + k) % 64 → k < 32
    → (completion_of entry).phase ≡ phase_of p → Phases w n k → Phases w' n (k + 1)
phases-posted w w' entry n k p h e room tag f j l =
    elim (cases_eq j k) [
      | inl same ↦
          let q : (n + j) % 64 ≡ p % 64 = omega (arith, e, same) in
          ap (λ b. (completion_of b).phase) (same-entry w' (n + j) p (omega (arith, e, same)) ∙ h.last) ∙ tag
          ∙ sym (same-turn (n + j) p q) ∙
          sym (ap (λ b. cond b (phase_of (n + j)) (not (phase_of (n + j)))) (lt-ltb j (k + 1) (omega (arith, same))))
      | inr other ↦
          let t : nat_lt j (k + 1) ≡ nat_lt j k = grind (arith, common_steps, other) in
          ap (λ b. (completion_of b).phase)
          (h.keeps.completions (n + j) (ne_eqb _ _ (λ m. omega (arith, e, room, l, other, m)))) ∙ f j l ∙
          sym (ap (λ b. cond b (phase_of (n + j)) (not (phase_of (n + j)))) t)
    ]

-- the first, and whether it is new
pub first-phase : (w : List ℕ) (n k : ℕ)
    → Phases w n k → (completion_of (completion_bytes w n)).phase ≡ cond (nat_lt 0 k) (phase_of n) (not (phase_of n))
first-phase w n k f = let e : n + 0 ≡ n = omega arith in rw e at (f 0 (omega arith))

-- the first is consumed
pub phases-consumed : (w : List ℕ) (n k : ℕ) → 0 < k → k < 32 → Phases w n k → Phases w ((n + 1) % 64) (k - 1)
phases-consumed w n k some few f j l =
    elim (cases_lt j 31) [
      | inl lt ↦
          let t : nat_lt j (k - 1) ≡ nat_lt (j + 1) k = grind (arith, common_steps) in
          rw (
            same-entry w ((n + 1) % 64 + j) (n + (j + 1)) (omega arith),
            same-turn ((n + 1) % 64 + j) (n + (j + 1)) (omega arith),
            t,
          ) (f (j + 1) (omega (arith, lt)))
      | inr ge ↦
          let g : nat_lt (((n + 1) % 64 + j) % 64) 32 ≡ not (phase_of n) = grind (arith, common_steps, l, ge) in
          let t : nat_lt j (k - 1) ≡ false = le-ltb j (k - 1) (omega (arith, few, ge)) in
          let s : nat_lt 0 k ≡ true = lt-ltb 0 k some in
          rw (same-entry w ((n + 1) % 64 + j) n (omega (arith, l, ge)), g, t)
          (first-phase w n k f ∙ ap (λ b. cond b (phase_of n) (not (phase_of n))) s ∙ twice (phase_of n))
    ]
