-- For `PollStep` and others: slots ordered by their numbers: the oldest aborted request, slots that are freed, and
-- rising tickets.
use Rattle.nvme_refinement.proofs.Words.{
  ◌≡◌,
  ℕ,
  ◌+◌,
  ◌<◌,
  ◌≤◌,
  List,
  [],
  ◌∷◌,
  ◌++◌,
  map,
  refl,
  ap,
  sym,
  ◌∙◌,
  arith,
  zero,
  suc,
  true,
  false,
  cond,
  eqb,
  Bool,
  Option,
  Some,
  None,
  inl,
  inr,
  slice_set,
  cases_Bool,
  eqb-true,
  common_steps,
  nat_le,
  ticket_in,
  live_waiting,
  AgeIn,
  aborted_number,
  ranked_too,
  in_order,
  ranked,
  rising,
  Waiting,
  waiting_at,
  abort,
  eq-eqb,
  eqb-false,
}
use Rattle.std.specs.Option.{option_flatten}
use Rattle.nvme_mailbox.proofs.Lists.{got-other}
use Rattle.nvme_refinement.proofs.Slots.{cond-zero, waiting-small}

-- a number that is not below this one
abbrev pub NotBelow : ℕ → Option ℕ → Type 0
NotBelow t None = Unit {0}
NotBelow t (Some u) = t ≤ u

abbrev pub live_at : List (Option Waiting) → ℕ → ℕ
live_at slots k = live_waiting (waiting_at slots k)

abbrev pub ticket_at : List (Option Waiting) → ℕ → ℕ
ticket_at slots k = ticket_in (waiting_at slots k)

abbrev pub ticket_aborted : List (Option Waiting) → ℕ → Option ℕ
ticket_aborted slots k = aborted_number (waiting_at slots k)

abbrev pub Ages : ℕ → ℕ → List (Option Waiting) → Type 0
Ages first next slots = (k : ℕ) → AgeIn first next (waiting_at slots k)

pub pending-same : (slots : List (Option Waiting)) (i : ℕ) → waiting_at (slice_set slots i None) i ≡ None
pending-same [] i = refl
pending-same (x ∷ xs) zero = refl
pending-same (x ∷ xs) (suc i) = pending-same xs i

pub pending-other : (slots : List (Option Waiting)) (i j : ℕ)
    → eqb j i ≡ false → waiting_at (slice_set slots i None) j ≡ waiting_at slots j
pending-other slots i j h = ap option_flatten (got-other slots i None j (eqb-false j i h))

pub cond-one : (b : Bool) → cond {A = ℕ} b 1 0 ≡ 1 → b ≡ true
cond-one b h = grind (arith, common_steps, h)

-- two numbers may be inserted in either order
pub ranked-swap : (a b : ℕ) (us : List ℕ) → ranked a (ranked b us) ≡ ranked b (ranked a us)
ranked-swap a b [] = grind (arith, common_steps)
ranked-swap a b (u ∷ us) = grind (arith, common_steps, ranked-swap a b us)

pub too-swap : (x y : Option ℕ) (us : List ℕ) → ranked_too x (ranked_too y us) ≡ ranked_too y (ranked_too x us)
too-swap None y us = refl
too-swap (Some a) None us = refl
too-swap (Some a) (Some b) us = ranked-swap a b us

-- the order of insertions does not matter: one slot's number may be inserted last
pub slot-last : (f : Option Waiting → Option ℕ) → f None ≡ None → (slots : List (Option Waiting)) (i : ℕ) →
    in_order f slots ≡ ranked_too (f (waiting_at slots i)) (in_order f (slice_set slots i None))
slot-last f n [] i = rw n refl
slot-last f n (x ∷ xs) zero = rw n refl
slot-last f n (x ∷ xs) (suc i) =
    ap (ranked_too (f x)) (slot-last f n xs i) ∙ too-swap (f x) (f (waiting_at xs i)) (in_order f (slice_set xs i None))

-- no slot has a number
pub empty-order : (f : Option Waiting → Option ℕ) (slots : List (Option Waiting))
    → ((k : ℕ) → f (waiting_at slots k) ≡ None) → in_order f slots ≡ []
empty-order f [] h = refl
empty-order f (x ∷ xs) h = let e : f x ≡ None = h 0 in rw (e, empty-order f xs (λ k. h (suc k))) refl

live-not : (o : Option Waiting) → live_waiting o ≡ 1 → aborted_number o ≡ None
live-not None h = refl
live-not (Some p) h = rw (cond-one p.live h) refl

-- a live slot may be freed
pub live-freed : (slots : List (Option Waiting)) (i : ℕ)
    → live_at slots i ≡ 1 → in_order aborted_number (slice_set slots i None) ≡ in_order aborted_number slots
live-freed slots i h =
    sym (slot-last aborted_number refl slots i
    ∙ ap (λ o. ranked_too o (in_order aborted_number (slice_set slots i None))) (live-not (waiting_at slots i) h))

-- a property of each of some numbers
abbrev pub Each : (ℕ → Type 0) → List ℕ → Type 0
Each P [] = Unit {0}
Each P (u ∷ us) = P u × Each P us

abbrev pub EachIn : (ℕ → Type 0) → Option ℕ → Type 0
EachIn P None = Unit {0}
EachIn P (Some u) = P u

each-ranked : (P : ℕ → Type 0) (t : ℕ) (us : List ℕ) → P t → Each P us → Each P (ranked t us)
each-ranked P t [] p q = (p, tt)
each-ranked P t (u ∷ us) p q =
    elim (cases_Bool (nat_le t u)) [ inl e ↦ rw e (p, q) | inr e ↦ rw e (q.0, each-ranked P t us p q.1) ]

each-too : (P : ℕ → Type 0) (o : Option ℕ) (us : List ℕ) → EachIn P o → Each P us → Each P (ranked_too o us)
each-too P None us p q = q
each-too P (Some t) us p q = each-ranked P t us p q

pub each-order : (P : ℕ → Type 0) (f : Option Waiting → Option ℕ) (slots : List (Option Waiting))
    → ((k : ℕ) → EachIn P (f (waiting_at slots k))) → Each P (in_order f slots)
each-order P f [] h = tt
each-order P f (x ∷ xs) h = each-too P (f x) _ (h 0) (each-order P f xs (λ k. h (suc k)))

-- a number that is above none of these is inserted first
pub ranked-first : (t : ℕ) (us : List ℕ) → Each (λ u. t ≤ u) us → ranked t us ≡ t ∷ us
ranked-first t [] h = refl
ranked-first t (u ∷ us) h = let e : nat_le t u ≡ true = grind (arith, common_steps, h.0) in rw e refl

not-below : (t : ℕ) (o : Option ℕ) → NotBelow t o → EachIn (λ u. t ≤ u) o
not-below t None h = tt
not-below t (Some u) h = h

-- the oldest aborted request's ticket is first, and its slot may be freed
pub oldest-first : (slots : List (Option Waiting)) (i t : ℕ) → ticket_aborted slots i ≡ Some t
    → ((k : ℕ) → NotBelow t (ticket_aborted slots k)) →
    in_order aborted_number slots ≡ t ∷ in_order aborted_number (slice_set slots i None)
oldest-first slots i t e h =
    let each : (k : ℕ) → EachIn (λ u. t ≤ u) (aborted_number (waiting_at (slice_set slots i None) k)) =
    λ k. elim (cases_Bool (eqb k i)) [
      | inl q ↦
          rw (ap (waiting_at (slice_set slots i None)) (eqb-true k i q) ∙ pending-same slots i) tt
      | inr q ↦ rw (pending-other slots i k q) (not-below t _ (h k))
    ] in
    slot-last aborted_number refl slots i ∙
    ap (λ o. ranked_too o (in_order aborted_number (slice_set slots i None))) e ∙
    ranked-first t _ (each-order (λ u. t ≤ u) aborted_number (slice_set slots i None) each)

-- the number of occurrences of a number in a list
abbrev pub times : ℕ → List ℕ → ℕ
times i [] = 0
times i (n ∷ ns) = cond (eqb n i) 1 0 + times i ns

abbrev pub waiting_ticket : Option Waiting → Option ℕ
waiting_ticket None = None
waiting_ticket (Some p) = cond p.live (Some p.ticket.0) None

waiting-none : (o : Option Waiting) → live_waiting o ≡ 0 → waiting_ticket o ≡ None
waiting-none None h = refl
waiting-none (Some p) h = grind (arith, common_steps, h)

waiting-some : (o : Option Waiting) → live_waiting o ≡ 1 → waiting_ticket o ≡ Some (ticket_in o)
waiting-some None h = let b : ⊥ = omega (arith, h) in absurd b
waiting-some (Some p) h = rw (cond-one p.live h) refl

tickets-freed : (slots : List (Option Waiting)) (i : ℕ) (ns : List ℕ) → times i ns ≡ 0 →
    map (ticket_at (slice_set slots i None)) ns ≡ map (ticket_at slots) ns
tickets-freed slots i [] h = refl
tickets-freed slots i (n ∷ ns) h =
    rw (pending-other slots i n (cond-zero (eqb n i) (times i ns) h), tickets-freed slots i ns (omega (arith, h))) refl

times-freed : (slots : List (Option Waiting)) (n : ℕ) (ns : List ℕ) → ((i : ℕ) → times i (n ∷ ns) ≡ live_at slots i) →
    (i : ℕ) → times i ns ≡ live_at (slice_set slots n None) i
times-freed slots n ns h i =
    grind (arith, common_steps, h i, waiting-small (waiting_at slots i), pending-same slots n, pending-other slots n i)

-- a list with each live slot once gives the live slots' tickets
pub rising-slots : (ns : List ℕ) (slots : List (Option Waiting)) → ((i : ℕ) → times i ns ≡ live_at slots i) →
    rising (map (ticket_at slots) ns) ≡ in_order waiting_ticket slots
rising-slots [] slots h = sym (empty-order waiting_ticket slots (λ k. waiting-none (waiting_at slots k) (sym (h k))))
rising-slots (n ∷ ns) slots h =
    let v : times n (n ∷ ns) ≡ 1 + times n ns = ap (λ b. cond b 1 0 + times n ns) (eq-eqb n n refl) in
    let l : live_at slots n ≡ 1 = omega (arith, h n, v, waiting-small (waiting_at slots n)) in
    ap (λ ts. ranked (ticket_at slots n) (rising ts)) (sym (tickets-freed slots n ns (omega (arith, h n, v, l)))) ∙
    ap (ranked (ticket_at slots n)) (rising-slots ns (slice_set slots n None) (times-freed slots n ns h)) ∙
    ap (λ o. ranked_too o (in_order waiting_ticket (slice_set slots n None)))
    (sym (waiting-some (waiting_at slots n) l)) ∙
    sym (slot-last waiting_ticket refl slots n)

ranked-low : (t : ℕ) (us vs : List ℕ) → Each (λ v. t ≤ v) vs → ranked t (us ++ vs) ≡ ranked t us ++ vs
ranked-low t [] vs h = ranked-first t vs h
ranked-low t (u ∷ us) vs h = grind (arith, common_steps, ranked-low t us vs h)

ranked-high : (t first : ℕ) (us vs : List ℕ) → first ≤ t → Each (λ u. u < first) us
    → ranked t (us ++ vs) ≡ us ++ ranked t vs
ranked-high t first [] vs p h = refl
ranked-high t first (u ∷ us) vs p h =
    let e : nat_le t u ≡ false = grind (arith, common_steps, p, h.0) in
    rw e (ap (λ l. u ∷ l) (ranked-high t first us vs p h.1))

each-weaker : (P Q : ℕ → Type 0) → ((u : ℕ) → P u → Q u) → (us : List ℕ) → Each P us → Each Q us
each-weaker P Q f [] h = tt
each-weaker P Q f (u ∷ us) h = (f u h.0, each-weaker P Q f us h.1)

aborted-young : (first next : ℕ) (o : Option Waiting) → AgeIn first next o → EachIn (λ u. u < first) (aborted_number o)
aborted-young first next None h = tt
aborted-young first next (Some p) h = grind (arith, common_steps, h)

waiting-old : (first next : ℕ) (o : Option Waiting) → AgeIn first next o → EachIn (λ u. first ≤ u) (waiting_ticket o)
waiting-old first next None h = tt
waiting-old first next (Some p) h = elim (cases_Bool p.live) [ inl t ↦ rw t (rw t at h.0) | inr t ↦ rw t tt ]

-- after all are aborted, those aborted before precede the others
pub abort-all : (first next : ℕ) (slots : List (Option Waiting)) → Ages first next slots →
    in_order aborted_number (map abort slots) ≡ in_order aborted_number slots ++ in_order waiting_ticket slots
abort-all first next [] a = refl
abort-all first next (None ∷ xs) a = abort-all first next xs (λ k. a (suc k))
abort-all first next (Some p ∷ xs) a =
    let b : Ages first next xs = λ k. a (suc k) in
    let old : Each (λ u. first ≤ u) (in_order waiting_ticket xs) =
    each-order _ waiting_ticket xs (λ k. waiting-old first next _ (b k)) in
    let young : Each (λ u. u < first) (in_order aborted_number xs) =
    each-order _ aborted_number xs (λ k. aborted-young first next _ (b k)) in
    let h = a 0 in
    elim (cases_Bool p.live) [
      | inl t ↦
          let q : first ≤ p.ticket.0 = rw t at h.0 in
          rw t (ap (ranked p.ticket.0) (abort-all first next xs b) ∙ ranked-high p.ticket.0 first _ _ q young)
      | inr t ↦
          let q : p.ticket.0 < first = rw t at h.0 in
          rw t (ap (ranked p.ticket.0) (abort-all first next xs b)
          ∙ ranked-low p.ticket.0 _ _ (each-weaker _ _ (λ (u : ℕ) (e : first ≤ u). omega (arith, q, e)) _ old))
    ]

pub pending-abort : (slots : List (Option Waiting)) (k : ℕ)
    → waiting_at (map abort slots) k ≡ abort (waiting_at slots k)
pending-abort (x ∷ xs) (suc k) = pending-abort xs k
pending-abort xs k = refl

pub abort-idle : (o : Option Waiting) → live_waiting (abort o) ≡ 0
abort-idle o = grind (arith, common_steps)

pub abort-age : (first next : ℕ) (o : Option Waiting) → AgeIn first next o → AgeIn next next (abort o)
abort-age first next None h = tt
abort-age first next (Some p) h = (h.1, h.1)

pub idle-age : (first next : ℕ) (o : Option Waiting) → live_waiting o ≡ 0 → AgeIn first next o → AgeIn next next o
idle-age first next None l h = tt
idle-age first next (Some p) l h = grind (arith, common_steps, h, l)
