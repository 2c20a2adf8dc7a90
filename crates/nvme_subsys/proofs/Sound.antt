-- For the answers of all events: identifiers stay, and so do the preconditions of an execution.
use Rattle.std.proofs.Common.{
  ◌≡◌,
  ◌⊎◌,
  inl,
  inr,
  ℕ,
  zero,
  suc,
  ◌+◌,
  ◌<◌,
  ◌==◌,
  get_or,
  true,
  false,
  List,
  [],
  ◌∷◌,
  ◌++◌,
  length,
  take,
  drop,
  Option,
  Some,
  refl,
  sym,
  ap,
  subst,
  ◌∙◌,
  arith,
}
use Rattle.nvme_spec.specs.Report.{ControllerHost}
use Rattle.std.specs.Prelude.{find, option_map, slice_get, slice_set, if◌then◌else◌, IsSome}
use Rattle.std.proofs.lemmas.List.{length-set, length-take, get_or_at, set_at, drop_more, take_more, append_assoc}
use Rattle.std.proofs.lemmas.Option.{same_Some}
use Rattle.nvme_spec.specs.declared.outcome.Marks.{Marks}
use Rattle.nvme_spec.specs.World.{World, host_of, LiesWithin}
use Rattle.nvme_spec.specs.Execution.{HasKnownRegistrants}
use Rattle.nvme_machine.specs.declared.seen.Executed.{Executed}
use Rattle.nvme_machine.specs.declared.seen.Executed.TheVariants.{Posted, NoSuch, CqFull}
use Rattle.nvme_machine.specs.Controllers.{Controller, with_marks}
use Rattle.nvme_machine.specs.Subsystems.{numbered, marked_from, is_host_among}
use Rattle.nvme_subsys.specs.Sound.{AreNumbered, IsSound}
use Rattle.nvme_subsys.specs.Marked.{marked_for, marks_after}

-- Numbers.

-- the controller at a place of a list in which one place was set
got-set : (cs : List Controller) (i j : ℕ) (x d : Controller) → slice_get (slice_set cs i x) j ≡ Some d
    → ((x ≡ d) × (i ≡ j) × ((c : Controller) × (slice_get cs i ≡ Some c))) ⊎ (slice_get cs j ≡ Some d)
got-set [] i j x d h = inr h
got-set (c ∷ cs) zero zero x d h = inl (same_Some _ _ h, refl, (c, refl))
got-set (c ∷ cs) zero (suc j) x d h = inr h
got-set (c ∷ cs) (suc i) zero x d h = inr h
got-set (c ∷ cs) (suc i) (suc j) x d h = elim (got-set cs i j x d h) [
  | inl r ↦ inl (r.0, ap suc r.1, r.2)
  | inr r ↦ inr r
]

pub set-numbered : (w : World) (cs : List Controller) (i : ℕ) (c d : Controller)
    → slice_get cs i ≡ Some c → d.cntlid ≡ c.cntlid → AreNumbered w cs → AreNumbered w (slice_set cs i d)
set-numbered w cs i c d found same n = record { identifier = λ k x at. by k x at; configured = λ k x at. there k x at }
  where
    by : (k : ℕ) (x : Controller) → numbered (slice_set cs i d) k ≡ Some x → x.cntlid ≡ k
    by zero x at = absurd (cc)
    by (suc j) x at = elim (got-set cs i j d x at) [
      | inl r ↦ ap (λ (y : Controller). y.cntlid) (sym r.0) ∙ same
          ∙ n.identifier (suc j) c (ap (slice_get cs) (sym r.1) ∙ found)
      | inr old ↦ n.identifier (suc j) x old
    ]

    there : (k : ℕ) (x : Controller) → numbered (slice_set cs i d) k ≡ Some x → IsSome (host_of w k)
    there zero x at = absurd (cc)
    there (suc j) x at = elim (got-set cs i j d x at) [
      | inl r ↦ n.configured (suc j) c (ap (slice_get cs) (sym r.1) ∙ found)
      | inr old ↦ n.configured (suc j) x old
    ]

-- marks
mark-id : (w : World) (m : Marks) (k : ℕ) (c : Controller) → (marked_for w m k c).cntlid ≡ c.cntlid
mark-id w m k c = elim (is_host_among m.hosts.items (host_of w k)) as (λ b.
    (if b then with_marks m.nsid c else c).cntlid ≡ c.cntlid) [
      | true ↦ refl
      | false ↦ refl
    ]

got-marked : (w : World) (m : Marks) (k : ℕ) (cs : List Controller) (j : ℕ) (x : Controller)
    → slice_get (marked_from w m k cs) j ≡ Some x
    → (c : Controller) × (slice_get cs j ≡ Some c) × (x.cntlid ≡ c.cntlid)
got-marked w m k [] j x h = absurd (cc)
got-marked w m k (c ∷ cs) zero x h =
    (c, refl, ap (λ (y : Controller). y.cntlid) (sym (same_Some _ _ h)) ∙ mark-id w m k c)
got-marked w m k (c ∷ cs) (suc j) x h = got-marked w m (k + 1) cs j x h

pub marked-numbered : (w : World) (m : Marks) (cs : List Controller)
    → AreNumbered w cs → AreNumbered w (marked_from w m 1 cs)
marked-numbered w m cs n = record { identifier = λ k x at. by k x at; configured = λ k x at. there k x at }
  where
    by : (k : ℕ) (x : Controller) → numbered (marked_from w m 1 cs) k ≡ Some x → x.cntlid ≡ k
    by zero x at = absurd (cc)
    by (suc j) x at = let r = got-marked w m 1 cs j x at in r.2 ∙ n.identifier (suc j) r.0 r.1

    there : (k : ℕ) (x : Controller) → numbered (marked_from w m 1 cs) k ≡ Some x → IsSome (host_of w k)
    there zero x at = absurd (cc)
    there (suc j) x at = let r = got-marked w m 1 cs j x at in n.configured (suc j) r.0 r.1

-- the host of a controller, by the list of all
abbrev host_in : List ControllerHost → ℕ → Option ℕ
host_in ks k = option_map (λ (x : ControllerHost). x.1) (find (λ (x : ControllerHost). x.0 == k) ks)

-- the same controllers of the access state
pub same-numbered : (v w : World) (cs : List Controller) → w.controllers ≡ v.controllers → AreNumbered v cs
    → AreNumbered w cs
unfolding host_of
same-numbered v w cs same n = record {
  identifier = n.identifier;
  configured = λ k c at. subst (λ ks. IsSome (host_in ks k)) (sym same) (n.configured k c at);
}

pub length-marked : (w : World) (m : Marks) (k : ℕ) (cs : List Controller) → length (marked_from w m k cs) ≡ length cs
length-marked w m k [] = refl
length-marked w m k (c ∷ cs) = ap suc (length-marked w m (k + 1) cs)

-- one more controller at the front of the list is marked
marked-append : (w : World) (m : Marks) (k : ℕ) (xs ys : List Controller)
    → marked_from w m k (xs ++ ys) ≡ marked_from w m k xs ++ marked_from w m (k + length xs) ys
marked-append w m k [] ys = ap (λ n. marked_from w m n ys) (omega arith)
marked-append w m k (x ∷ xs) ys = ap (λ zs. marked_for w m k x ∷ zs)
    (marked-append w m (k + 1) xs ys ∙ ap (λ n. marked_from w m (k + 1) xs ++ marked_from w m n ys) (omega arith))

-- a loop that marks each controller, one after the other
pub marked-more : (w : World) (m : Marks) (cs ys : List Controller) (i : ℕ) (x : Controller)
    → i < length cs → ys ≡ marked_from w m 1 (take i cs) ++ drop i cs → x ≡ get_or ys i x
    → slice_set ys i (marked_for w m (i + 1) x) ≡ marked_from w m 1 (take (i + 1) cs) ++ drop (i + 1) cs
marked-more w m cs ys i x lt h is =
    let front = marked_from w m 1 (take i cs) in
    let short : length (take i cs) ≡ i = omega (arith, length-take i cs, lt) in
    let long : length front ≡ i = length-marked w m 1 (take i cs) ∙ short in
    let parts : ys ≡ front ++ get_or cs i x ∷ drop (i + 1) cs = h ∙ ap (λ l. front ++ l) (drop_more cs i x lt) in
    let read : x ≡ get_or cs i x = is ∙ ap (λ l. get_or l i x) parts ∙ get_or_at front _ _ x i long in
    let more : marked_from w m 1 (take (i + 1) cs) ≡ front ++ marked_for w m (i + 1) (get_or cs i x) ∷ [] =
    ap (marked_from w m 1) (take_more cs i x lt) ∙ marked-append w m 1 (take i cs) (get_or cs i x ∷ [])
    ∙ ap (λ n. front ++ marked_for w m n (get_or cs i x) ∷ []) (omega (arith, short)) in
    ap (λ l. slice_set l i (marked_for w m (i + 1) x)) parts ∙ set_at front _ _ (marked_for w m (i + 1) x) i long
    ∙ sym (append_assoc front (marked_for w m (i + 1) x ∷ []) _)
    ∙ ap (λ l. l ++ drop (i + 1) cs) (ap (λ y. front ++ marked_for w m (i + 1) y ∷ []) read ∙ sym more)

-- The invariant of a subsystem.

pub sound-set : (w : World) (size : ℕ) (cs : List Controller) (i : ℕ) (c d : Controller)
    → slice_get cs i ≡ Some c → d.cntlid ≡ c.cntlid → IsSound w size cs → IsSound w size (slice_set cs i d)
sound-set w size cs i c d found same s = record {
  few = let few = s.few in omega (arith, length-set cs i d, few);
  numbers = set-numbered w cs i c d found same s.numbers;
  within = s.within;
  known = s.known;
}

pub length-after : (w : World) (x : Executed) (cs : List Controller) → length (marks_after w x cs) ≡ length cs
length-after w (Posted o) cs = length-marked w o.marks 1 cs
length-after w NoSuch cs = refl
length-after w CqFull cs = refl

numbered-after : (w : World) (x : Executed) (cs : List Controller)
    → AreNumbered w cs → AreNumbered w (marks_after w x cs)
numbered-after w (Posted o) cs n = marked-numbered w o.marks cs n
numbered-after w NoSuch cs n = n
numbered-after w CqFull cs n = n

pub sound-after : (v w : World) (old size : ℕ) (cs : List Controller) (i : ℕ) (c d : Controller) (x : Executed)
    → slice_get cs i ≡ Some c → d.cntlid ≡ c.cntlid → w.controllers ≡ v.controllers
    → LiesWithin size w.namespaces → HasKnownRegistrants w → IsSound v old cs
    → IsSound w size (marks_after w x (slice_set cs i d))
sound-after v w old size cs i c d x found same controllers within known s = record {
  few = let few = s.few in omega (arith, length-set cs i d, few, length-after w x (slice_set cs i d));
  numbers = numbered-after w x (slice_set cs i d)
      (same-numbered v w (slice_set cs i d) controllers (set-numbered v cs i c d found same s.numbers));
  within = within;
  known = known;
}

pub configured-at : (w : World) (size : ℕ) (cs : List Controller) (i : ℕ) (c : Controller)
    → slice_get cs i ≡ Some c → IsSound w size cs → IsSome (host_of w c.cntlid)
configured-at w size cs i c found s =
    let n = s.numbers in
    subst (λ k. IsSome (host_of w k)) (sym (n.identifier (suc i) c found)) (n.configured (suc i) c found)

pub named-at : (w : World) (size : ℕ) (cs : List Controller) (k i : ℕ) (c : Controller)
    → k ≡ i + 1 → slice_get cs i ≡ Some c → IsSound w size cs → c.cntlid ≡ k
named-at w size cs k i c at found s = let n = s.numbers in n.identifier (suc i) c found ∙ omega (arith, at)
