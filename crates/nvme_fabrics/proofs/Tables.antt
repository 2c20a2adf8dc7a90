-- Which connections are queues after a controller has changed.
use Rattle.std.proofs.Common.{
  ◌≡◌,
  ◌⊎◌,
  inl,
  inr,
  ℕ,
  zero,
  suc,
  Bool,
  true,
  false,
  cond,
  List,
  [],
  ◌∷◌,
  Option,
  None,
  Some,
  refl,
  sym,
  ap,
  subst,
  ◌∙◌,
}
use Rattle.std.specs.Prelude.{◌==◌, nat_le, slice_get, slice_set, get_or, option_map}
use Rattle.std.proofs.lemmas.Option.{none-some, same_Some}
use Rattle.std.proofs.lemmas.Bool.{eqb-true}
use Rattle.nvme_fabrics.specs.declared.request.Request.{Request}
use Rattle.nvme_fabrics.specs.declared.association.Association.{Association}
use Rattle.nvme_fabrics.specs.declared.association.Controller.{Controller}
use Rattle.nvme_fabrics.specs.declared.fabrics.Fabrics.{Fabrics}
use Rattle.nvme_fabrics.specs.Associations.{
  joined,
  connection_at,
  new_association,
  with_connection_in,
  with_connection,
  with_queue,
  without_io_queues_in,
  without_io_queues,
  without_association,
}
use Rattle.nvme_fabrics.specs.Sessions.{
  connection_in,
  connection_on,
  connection_of,
  changed_in,
  changed,
  with_queue_at,
  without_queue_at,
  without_io_queues_at,
  ended,
}
use Rattle.nvme_fabrics.specs.Laws.{host_in, host_at}

-- the host identifier of the association at a place
abbrev pub owner_in : Option Association → Option ℕ
owner_in None = None
owner_in (Some a) = Some a.host_id

abbrev pub owner_on : Option Controller → Option ℕ
owner_on None = None
owner_on (Some c) = owner_in c.association

abbrev pub owner_at : Fabrics → ℕ → Option ℕ
owner_at f i = owner_on (slice_get f.controllers i)

got-either : {A : Type 0} (xs : List A) (i j : ℕ) (x y : A) → slice_get xs i ≡ Some y
    → ((j ≡ i) × (slice_get (slice_set xs i x) j ≡ Some x)) ⊎ (slice_get (slice_set xs i x) j ≡ slice_get xs j)
got-either [] i j x y h = inr refl
got-either (z ∷ xs) zero zero x y h = inl (refl, refl)
got-either (z ∷ xs) zero (suc j) x y h = inr refl
got-either (z ∷ xs) (suc i) zero x y h = inr refl
got-either (z ∷ xs) (suc i) (suc j) x y h = elim (got-either xs i j x y h) [
  | inl e ↦ inl (ap suc e.0, e.1)
  | inr e ↦ inr e
]

got-here : {A : Type 0} (xs : List A) (i : ℕ) (x y : A) → slice_get xs i ≡ Some y
    → slice_get (slice_set xs i x) i ≡ Some x
got-here [] i x y h = absurd (none-some _ h)
got-here (z ∷ xs) zero x y h = refl
got-here (z ∷ xs) (suc i) x y h = got-here xs i x y h

-- the controller at a place, after another one or this one has changed
abbrev IsAt : Fabrics → ℕ → (Controller → Controller) → ℕ → Type 0
IsAt f i g j =
    ((j ≡ i) × ((c : Controller) × ((slice_get f.controllers j ≡ Some c)
    × (slice_get (changed f i g).controllers j ≡ Some (g c)))))
    ⊎ (slice_get (changed f i g).controllers j ≡ slice_get f.controllers j)

pub changed-at : (f : Fabrics) (i : ℕ) (g : Controller → Controller) (j : ℕ) → IsAt f i g j
changed-at f i g j = elim (slice_get f.controllers i) as (λ o. slice_get f.controllers i ≡ o
    → ((j ≡ i) × ((c : Controller) × ((slice_get f.controllers j ≡ Some c)
    × (slice_get (changed_in f i g o).controllers j ≡ Some (g c)))))
    ⊎ (slice_get (changed_in f i g o).controllers j ≡ slice_get f.controllers j)) [
      | None ↦ λ e. inr refl
      | Some c ↦ λ e. elim (got-either f.controllers i j (g c) c e) [
        | inl h ↦ inl (h.0, (c, (subst (λ n. slice_get f.controllers n ≡ Some c) (sym h.0) e, h.1)))
        | inr h ↦ inr h
      ]
    ] refl

pub changed-here : (f : Fabrics) (i : ℕ) (g : Controller → Controller)
    → slice_get (changed f i g).controllers i ≡ option_map g (slice_get f.controllers i)
changed-here f i g = elim (slice_get f.controllers i) as (λ o. slice_get f.controllers i ≡ o
    → slice_get (changed_in f i g o).controllers i ≡ option_map g o) [
      | None ↦ λ e. e
      | Some c ↦ λ e. got-here f.controllers i (g c) c e
    ] refl

pub same-keys : (f : Fabrics) (i : ℕ) (g : Controller → Controller) → (changed f i g).has_keys ≡ f.has_keys
same-keys f i g = elim (slice_get f.controllers i) as (λ o. (changed_in f i g o).has_keys ≡ f.has_keys) [
  | None ↦ refl
  | Some c ↦ refl
]

-- a change of a controller that gives no connection a queue
pub record Shrinks (g : Controller → Controller) : Type 0 where
  pub hosts : (c : Controller) → (g c).host ≡ c.host
  pub owners : (c : Controller) (h : ℕ) → owner_in (g c).association ≡ Some h → owner_in c.association ≡ Some h
  pub names : (c : Controller) (q k : ℕ)
      → connection_in (g c).association q ≡ Some k → connection_in c.association q ≡ Some k

-- the same of all controllers
pub record Smaller (f g : Fabrics) : Type 0 where
  pub keys : g.has_keys ≡ f.has_keys
  pub hosts : (j : ℕ) → host_at g j ≡ host_at f j
  pub owners : (j h : ℕ) → owner_at g j ≡ Some h → owner_at f j ≡ Some h
  pub names : (j q k : ℕ) → connection_of g j q ≡ Some k → connection_of f j q ≡ Some k

pub smaller-same : (f : Fabrics) → Smaller f f
smaller-same f = record {
  keys = refl;
  hosts = λ j. refl;
  owners = λ j h e. e;
  names = λ j q k e. e;
}

pub same-hosts : (f : Fabrics) (i : ℕ) (g : Controller → Controller) → ((c : Controller) → (g c).host ≡ c.host)
    → (j : ℕ) → host_at (changed f i g) j ≡ host_at f j
same-hosts f i g same j = elim (changed-at f i g j) [
  | inl x ↦ ap host_in x.1.1.1 ∙ same x.1.0 ∙ sym (ap host_in x.1.1.0)
  | inr e ↦ ap host_in e
]

pub smaller-changed : (f : Fabrics) (i : ℕ) (g : Controller → Controller) → Shrinks g → Smaller f (changed f i g)
smaller-changed f i g s = record {
  keys = same-keys f i g;
  hosts = same-hosts f i g s.hosts;
  owners = λ j h e. elim (changed-at f i g j) [
    | inl x ↦ ap owner_on x.1.1.0 ∙ s.owners x.1.0 h (sym (ap owner_on x.1.1.1) ∙ e)
    | inr same ↦ sym (ap owner_on same) ∙ e
  ];
  names = λ j q k e. elim (changed-at f i g j) [
    | inl x ↦ ap (λ o. connection_on o q) x.1.1.0
        ∙ s.names x.1.0 q k (sym (ap (λ o. connection_on o q) x.1.1.1) ∙ e)
    | inr same ↦ sym (ap (λ o. connection_on o q) same) ∙ e
  ];
}

-- a queue of a list, after one was set
queue-set : (xs : List (Option ℕ)) (i j : ℕ) (x : Option ℕ)
    → (joined (slice_get (slice_set xs i x) j) ≡ joined (slice_get xs j))
    ⊎ ((j ≡ i) × (joined (slice_get (slice_set xs i x) j) ≡ x))
queue-set [] i j x = inl refl
queue-set (y ∷ xs) zero zero x = inr (refl, refl)
queue-set (y ∷ xs) zero (suc j) x = inl refl
queue-set (y ∷ xs) (suc i) zero x = inl refl
queue-set (y ∷ xs) (suc i) (suc j) x = elim (queue-set xs i j x) [
  | inl e ↦ inl e
  | inr e ↦ inr (ap suc e.0, e.1)
]

set-none : (xs : List (Option ℕ)) (i : ℕ) → joined (slice_get (slice_set xs i None) i) ≡ None
set-none [] i = refl
set-none (y ∷ xs) zero = refl
set-none (y ∷ xs) (suc i) = set-none xs i

-- the connection of a queue, after one was set
pub connection-set : (a : Option Association) (i : ℕ) (x : Option ℕ) (q : ℕ)
    → (connection_in (with_connection_in a i x) q ≡ connection_in a q)
    ⊎ ((q ≡ i) × (connection_in (with_connection_in a i x) q ≡ x))
connection-set None i x q = inl refl
connection-set (Some a) i x q = elim (nat_le i 4) as (λ b.
    (connection_in (cond b (Some (record a { queues = slice_set a.queues i x })) (Some a)) q ≡ connection_at a q)
    ⊎ ((q ≡ i) × (connection_in (cond b (Some (record a { queues = slice_set a.queues i x })) (Some a)) q ≡ x))) [
      | true ↦ small a i x q
      | false ↦ inl refl
    ] where
      small : (a : Association) (i : ℕ) (x : Option ℕ) (q : ℕ)
          → (connection_at (record a { queues = slice_set a.queues i x }) q ≡ connection_at a q)
          ⊎ ((q ≡ i) × (connection_at (record a { queues = slice_set a.queues i x }) q ≡ x))
      small a i x q = elim (nat_le q 4) as (λ b.
          (cond b (joined (slice_get (slice_set a.queues i x) q)) None ≡ cond b (joined (slice_get a.queues q)) None)
          ⊎ ((q ≡ i) × (cond b (joined (slice_get (slice_set a.queues i x) q)) None ≡ x))) [
            | true ↦ queue-set a.queues i q x
            | false ↦ inl refl
          ]

connection-gone : (a : Option Association) (i : ℕ) → connection_in (with_connection_in a i None) i ≡ None
connection-gone None i = refl
connection-gone (Some a) i = elim (nat_le i 4) as (λ b.
    nat_le i 4 ≡ b
    → connection_in (cond b (Some (record a { queues = slice_set a.queues i None })) (Some a)) i ≡ None) [
      | true ↦ λ e. rw e (set-none a.queues i)
      | false ↦ λ e. rw e refl
    ] refl

owner-set : (a : Option Association) (i : ℕ) (x : Option ℕ) → owner_in (with_connection_in a i x) ≡ owner_in a
owner-set None i x = refl
owner-set (Some a) i x = elim (nat_le i 4) as (λ b.
    owner_in (cond b (Some (record a { queues = slice_set a.queues i x })) (Some a)) ≡ Some a.host_id) [
      | true ↦ refl
      | false ↦ refl
    ]

shrinks-gone : Shrinks without_association
shrinks-gone = record {
  hosts = λ c. refl;
  owners = λ c h e. absurd (none-some _ e);
  names = λ c q k e. absurd (none-some _ e);
}

shrinks-queue : (i : ℕ) → Shrinks (λ c. with_connection c i None)
shrinks-queue i = record {
  hosts = λ c. refl;
  owners = λ c h e. sym (owner-set c.association i None) ∙ e;
  names = λ c q k e. elim (connection-set c.association i None q) [
    | inl same ↦ sym same ∙ e
    | inr gone ↦ absurd (none-some _ (sym gone.1 ∙ e))
  ];
}

no-queue : (b : Bool) (k : ℕ) → cond b None None ≡ Some k → ⊥
no-queue true k e = none-some _ e
no-queue false k e = none-some _ e

only-admin : (a : Option Association) (q k : ℕ)
    → connection_in (without_io_queues_in a) q ≡ Some k → connection_in a q ≡ Some k
only-admin None q k e = e
only-admin (Some a) zero k e = first a.queues e where
  first : (xs : List (Option ℕ)) → get_or xs 0 None ≡ Some k → joined (slice_get xs 0) ≡ Some k
  first [] e = e
  first (x ∷ xs) e = e
only-admin (Some a) (suc zero) k e = absurd (none-some _ e)
only-admin (Some a) (suc (suc zero)) k e = absurd (none-some _ e)
only-admin (Some a) (suc (suc (suc zero))) k e = absurd (none-some _ e)
only-admin (Some a) (suc (suc (suc (suc zero)))) k e = absurd (none-some _ e)
only-admin (Some a) (suc (suc (suc (suc (suc q))))) k e =
    absurd (no-queue (nat_le (suc (suc (suc (suc (suc q))))) 4) k e)

shrinks-io : Shrinks without_io_queues
shrinks-io = record {
  hosts = λ c. refl;
  owners = λ c h e. kept c.association h e;
  names = λ c q k e. only-admin c.association q k e;
} where
  kept : (a : Option Association) (h : ℕ) → owner_in (without_io_queues_in a) ≡ Some h → owner_in a ≡ Some h
  kept None h e = e
  kept (Some a) h e = e

pub smaller-ended : (f : Fabrics) (i : ℕ) → Smaller f (ended f i)
smaller-ended f i = smaller-changed f i without_association shrinks-gone

pub smaller-queue : (f : Fabrics) (i q : ℕ) → Smaller f (without_queue_at f i q)
smaller-queue f i q = smaller-changed f i (λ c. with_connection c q None) (shrinks-queue q)

pub smaller-io : (f : Fabrics) (i : ℕ) → Smaller f (without_io_queues_at f i)
smaller-io f i = smaller-changed f i without_io_queues shrinks-io

pub ended-gone : (f : Fabrics) (i q : ℕ) → connection_of (ended f i) i q ≡ None
ended-gone f i q =
    ap (λ o. connection_on o q) (changed-here f i without_association)
    ∙ at (slice_get f.controllers i) where
      at : (o : Option Controller) → connection_on (option_map without_association o) q ≡ None
      at None = refl
      at (Some c) = refl

pub queue-gone : (f : Fabrics) (i q : ℕ) → connection_of (without_queue_at f i q) i q ≡ None
queue-gone f i q =
    ap (λ o. connection_on o q) (changed-here f i (λ c. with_connection c q None))
    ∙ at (slice_get f.controllers i) where
      at : (o : Option Controller) → connection_on (option_map (λ c. with_connection c q None) o) q ≡ None
      at None = refl
      at (Some c) = connection-gone c.association q

-- the connection of a queue, after a connection has become one
new-names : (r : Request) (k q other : ℕ) → (r.qid == 0) ≡ true → connection_at (new_association r k) q ≡ Some other
    → (q ≡ r.qid) × (other ≡ k)
new-names r k zero other admin e = (sym (eqb-true r.qid 0 admin), sym (same_Some _ _ e))
new-names r k (suc zero) other admin e = absurd (none-some _ e)
new-names r k (suc (suc zero)) other admin e = absurd (none-some _ e)
new-names r k (suc (suc (suc zero))) other admin e = absurd (none-some _ e)
new-names r k (suc (suc (suc (suc zero)))) other admin e = absurd (none-some _ e)
new-names r k (suc (suc (suc (suc (suc q))))) other admin e =
    absurd (no-queue (nat_le (suc (suc (suc (suc (suc q))))) 4) other e)

queue-names : (c : Controller) (r : Request) (k q other : ℕ)
    → connection_in (with_queue c r k).association q ≡ Some other
    → (connection_in c.association q ≡ Some other) ⊎ ((q ≡ r.qid) × (other ≡ k))
queue-names c r k q other = elim (r.qid == 0) as (λ b. (r.qid == 0) ≡ b
    → connection_in (cond b (record c { association = Some (new_association r k) })
    (with_connection c r.qid (Some k))).association q ≡ Some other
    → (connection_in c.association q ≡ Some other) ⊎ ((q ≡ r.qid) × (other ≡ k))) [
      | true ↦ λ admin e. inr (new-names r k q other admin e)
      | false ↦ λ io e. elim (connection-set c.association r.qid (Some k) q) [
        | inl same ↦ inl (sym same ∙ e)
        | inr new ↦ inr (new.0, sym (same_Some _ _ (sym new.1 ∙ e)))
      ]
    ] refl

pub entered-names : (f : Fabrics) (i : ℕ) (r : Request) (k j q other : ℕ)
    → connection_of (with_queue_at f i r k) j q ≡ Some other
    → (connection_of f j q ≡ Some other) ⊎ ((j ≡ i) × ((q ≡ r.qid) × (other ≡ k)))
entered-names f i r k j q other e = elim (changed-at f i (λ c. with_queue c r k) j) [
  | inl x ↦ elim (queue-names x.1.0 r k q other (sym (ap (λ o. connection_on o q) x.1.1.1) ∙ e)) [
    | inl old ↦ inl (ap (λ o. connection_on o q) x.1.1.0 ∙ old)
    | inr new ↦ inr (x.0, (new.0, new.1))
  ]
  | inr same ↦ inl (sym (ap (λ o. connection_on o q) same) ∙ e)
]

pub entered-hosts : (f : Fabrics) (i : ℕ) (r : Request) (k j : ℕ) → host_at (with_queue_at f i r k) j ≡ host_at f j
entered-hosts f i r k j = same-hosts f i (λ c. with_queue c r k) same j where
  same : (c : Controller) → (with_queue c r k).host ≡ c.host
  same c = elim (r.qid == 0) as (λ b. (cond b (record c { association = Some (new_association r k) })
      (with_connection c r.qid (Some k))).host ≡ c.host) [
        | true ↦ refl
        | false ↦ refl
      ]

pub entered-owners : (f : Fabrics) (i : ℕ) (r : Request) (k j h : ℕ) → owner_at (with_queue_at f i r k) j ≡ Some h
    → (owner_at f j ≡ Some h) ⊎ ((j ≡ i) × (h ≡ r.host_id))
entered-owners f i r k j h e = elim (changed-at f i (λ c. with_queue c r k) j) [
  | inl x ↦ elim (of-one x.1.0 (sym (ap owner_on x.1.1.1) ∙ e)) [
    | inl old ↦ inl (ap owner_on x.1.1.0 ∙ old)
    | inr new ↦ inr (x.0, new)
  ]
  | inr same ↦ inl (sym (ap owner_on same) ∙ e)
] where
  of-one : (c : Controller) → owner_in (with_queue c r k).association ≡ Some h
      → (owner_in c.association ≡ Some h) ⊎ (h ≡ r.host_id)
  of-one c = elim (r.qid == 0) as (λ b. owner_in (cond b (record c { association = Some (new_association r k) })
      (with_connection c r.qid (Some k))).association ≡ Some h
      → (owner_in c.association ≡ Some h) ⊎ (h ≡ r.host_id)) [
        | true ↦ λ e. inr (sym (same_Some _ _ e))
        | false ↦ λ e. inl (sym (owner-set c.association r.qid (Some k)) ∙ e)
      ]
