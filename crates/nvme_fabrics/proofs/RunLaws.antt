-- For `laws.rt`: which connections are queues, over runs.
use Rattle.std.proofs.Common.{
  ◌≡◌,
  ◌⊎◌,
  inl,
  inr,
  ℕ,
  zero,
  suc,
  Bool,
  true,
  false,
  cond,
  List,
  [],
  ◌∷◌,
  map,
  Option,
  None,
  Some,
  refl,
  sym,
  ap,
  subst,
  ◌∙◌,
}
use Rattle.std.specs.Prelude.{◌==◌, slice_get}
use Rattle.std.proofs.lemmas.Option.{none-some}
use Rattle.std.proofs.lemmas.Bool.{eqb-true, eqb-false}
use Rattle.nvme_fabrics.specs.declared.request.Request.{Request}
use Rattle.nvme_fabrics.specs.declared.fabrics.Fabrics.{Fabrics}
use Rattle.nvme_fabrics.specs.declared.session.Session.{Session}
use Rattle.nvme_fabrics.specs.declared.session.Session.TheVariants as session
use Rattle.nvme_fabrics.specs.Sessions.{no_association, no_associations, is_connection, connection_of, live}
use Rattle.nvme_fabrics.specs.Runs.{
  World,
  Input,
  Connects,
  Authenticates,
  Executes,
  Closes,
  Ends,
  with_session,
  moved,
  after,
  beginning,
  world_after,
}
use Rattle.nvme_fabrics.specs.Laws.{
  host_at,
  OneQueue,
  IsLive,
  IsNamed,
  StaysOrEnds,
  SameController,
  EndIsFinal,
  NothingElse,
  SameHosts,
}
use Rattle.nvme_fabrics.proofs.Tables.{owner_at, smaller-ended, entered-names, entered-hosts}
use Rattle.nvme_fabrics.proofs.Changes.{
  Change,
  Stays,
  Over,
  Discovers,
  Waits,
  Enters_queue,
  connect-changes,
  authenticate-changes,
  execute-changes,
  close-changes,
}

-- a connection after one of them has changed
pub session-moved : (sessions : ℕ → Session) (k : ℕ) (s : Session) (other : ℕ)
    → ((other ≡ k) × (with_session sessions k s other ≡ s)) ⊎ (((other ≡ k) → ⊥) × (with_session sessions k s other
    ≡ sessions other))
session-moved sessions k s other = elim (other == k) as (λ b. (other == k) ≡ b
    → ((other ≡ k) × (cond b s (sessions other) ≡ s))
    ⊎ (((other ≡ k) → ⊥) × (cond b s (sessions other) ≡ sessions other))) [
      | true ↦ λ same. inl (eqb-true other k same, refl)
      | false ↦ λ differ. inr (eqb-false other k differ, refl)
    ] refl

-- what each change keeps of a connection that is a queue, and of one that has ended
queue-stays : (P : Request → Type 0) (Q : Request → ℕ → Type 0) (f : Fabrics) (k : ℕ) (s : Session) (g : Fabrics)
    (t : Session) (i q : ℕ) → Change P Q f k s g t → s ≡ session.Queue i q → StaysOrEnds t i q
queue-stays P Q f k s g t i q (Stays smaller same) is = inl (same ∙ is)
queue-stays P Q f k s g t i q (Over smaller gone ends) is = inr ends
queue-stays P Q f k s g t i q (Discovers same was comes) is = absurd (cc)
queue-stays P Q f k s g t i q (Waits r n same was comes asks) is = absurd (cc)
queue-stays P Q f k s g t i q (Enters_queue r n b same comes fit was enters) is = elim was [
  | inl new ↦ absurd (cc)
  | inr waits ↦ absurd (cc)
]

end-stays : (P : Request → Type 0) (Q : Request → ℕ → Type 0) (f : Fabrics) (k : ℕ) (s : Session) (g : Fabrics)
    (t : Session) → Change P Q f k s g t → s ≡ session.Ended → t ≡ session.Ended
end-stays P Q f k s g t (Stays smaller same) is = same ∙ is
end-stays P Q f k s g t (Over smaller gone ends) is = ends
end-stays P Q f k s g t (Discovers same was comes) is = absurd (cc)
end-stays P Q f k s g t (Waits r n same was comes asks) is = absurd (cc)
end-stays P Q f k s g t (Enters_queue r n b same comes fit was enters) is = elim was [
  | inl new ↦ absurd (cc)
  | inr waits ↦ absurd (cc)
]

moved-stays : (P : Request → Type 0) (Q : Request → ℕ → Type 0) (w : World) (k : ℕ) (g : Fabrics) (t : Session)
    → Change P Q w.fabrics k (w.sessions k) g t → (other i q : ℕ) → w.sessions other ≡ session.Queue i q
    → StaysOrEnds ((moved w k g t).sessions other) i q
moved-stays P Q w k g t change other i q is = elim (session-moved w.sessions k t other) [
  | inl x ↦ subst (λ s. StaysOrEnds s i q) (sym x.1)
      (queue-stays P Q w.fabrics k (w.sessions k) g t i q change (subst (λ n. w.sessions n ≡ session.Queue i q) x.0 is))
  | inr x ↦ inl (x.1 ∙ is)
]

moved-ends : (P : Request → Type 0) (Q : Request → ℕ → Type 0) (w : World) (k : ℕ) (g : Fabrics) (t : Session)
    → Change P Q w.fabrics k (w.sessions k) g t → (other : ℕ) → w.sessions other ≡ session.Ended
    → (moved w k g t).sessions other ≡ session.Ended
moved-ends P Q w k g t change other is = elim (session-moved w.sessions k t other) [
  | inl x ↦ x.1 ∙ end-stays P Q w.fabrics k (w.sessions k) g t change
      (subst (λ n. w.sessions n ≡ session.Ended) x.0 is)
  | inr x ↦ x.1 ∙ is
]

pub same-controller : SameController
same-controller w (Connects k e d j) other i q =
    moved-stays _ _ w k _ _ (connect-changes w.fabrics (w.sessions k) k e d j) other i q
same-controller w (Authenticates k b s) other i q =
    moved-stays _ _ w k _ _ (authenticate-changes w.fabrics (w.sessions k) k b s) other i q
same-controller w (Executes k e) other i q =
    moved-stays _ _ w k _ _ (execute-changes w.fabrics (w.sessions k) k e) other i q
same-controller w (Closes k) other i q =
    moved-stays _ _ w k _ _ (close-changes w.fabrics (w.sessions k) k) other i q
same-controller w (Ends n) other i q = λ is. inl is

pub end-is-final : EndIsFinal
end-is-final w (Connects k e d j) other =
    moved-ends _ _ w k _ _ (connect-changes w.fabrics (w.sessions k) k e d j) other
end-is-final w (Authenticates k b s) other =
    moved-ends _ _ w k _ _ (authenticate-changes w.fabrics (w.sessions k) k b s) other
end-is-final w (Executes k e) other = moved-ends _ _ w k _ _ (execute-changes w.fabrics (w.sessions k) k e) other
end-is-final w (Closes k) other = moved-ends _ _ w k _ _ (close-changes w.fabrics (w.sessions k) k) other
end-is-final w (Ends n) other = λ is. is

-- hosts
pub change-hosts : (P : Request → Type 0) (Q : Request → ℕ → Type 0) (f : Fabrics) (k : ℕ) (s : Session) (g : Fabrics)
    (t : Session) → Change P Q f k s g t → (i : ℕ) → host_at g i ≡ host_at f i
change-hosts P Q f k s g t (Stays smaller same) i = smaller.hosts i
change-hosts P Q f k s g t (Over smaller gone ends) i = smaller.hosts i
change-hosts P Q f k s g t (Discovers same was comes) i = ap (λ f. host_at f i) same
change-hosts P Q f k s g t (Waits r n same was comes asks) i = ap (λ f. host_at f i) same
change-hosts P Q f k s g t (Enters_queue r n b same comes fit was enters) i =
    ap (λ f. host_at f i) same ∙ entered-hosts f n r k i

pub hosts-stay : SameHosts
hosts-stay w (Connects k e d j) = change-hosts _ _ _ k _ _ _ (connect-changes w.fabrics (w.sessions k) k e d j)
hosts-stay w (Authenticates k b s) = change-hosts _ _ _ k _ _ _ (authenticate-changes w.fabrics (w.sessions k) k b s)
hosts-stay w (Executes k e) = change-hosts _ _ _ k _ _ _ (execute-changes w.fabrics (w.sessions k) k e)
hosts-stay w (Closes k) = change-hosts _ _ _ k _ _ _ (close-changes w.fabrics (w.sessions k) k)
hosts-stay w (Ends n) = (smaller-ended w.fabrics n).hosts

-- which connections are queues
change-names : (P : Request → Type 0) (Q : Request → ℕ → Type 0) (f : Fabrics) (k : ℕ) (s : Session) (g : Fabrics)
    (t : Session) → Change P Q f k s g t → (i q other : ℕ) → connection_of g i q ≡ Some other
    → (connection_of f i q ≡ Some other) ⊎ ((other ≡ k) × ((t ≡ session.Queue i q) × ((r : Request)
    × ((r.qid ≡ q) × (((s ≡ session.NotConnected) ⊎ (s ≡ session.Authenticating r i)) × Q r i)))))
change-names P Q f k s g t (Stays smaller same) i q other e = inl (smaller.names i q other e)
change-names P Q f k s g t (Over smaller gone ends) i q other e = inl (smaller.names i q other e)
change-names P Q f k s g t (Discovers same was comes) i q other e = inl (sym (ap (λ f. connection_of f i q) same) ∙ e)
change-names P Q f k s g t (Waits r n same was comes asks) i q other e =
    inl (sym (ap (λ f. connection_of f i q) same) ∙ e)
change-names P Q f k s g t (Enters_queue r n b same comes fit was enters) i q other e =
    elim (entered-names f n r k i q other (sym (ap (λ f. connection_of f i q) same) ∙ e)) [
      | inl old ↦ inl old
      | inr new ↦ inr (
        new.1.1,
        (
          comes ∙ ap (λ n. session.Queue n r.qid) (sym new.0) ∙ ap (λ q. session.Queue i q) (sym new.1.0),
          (
            r,
            (
              sym new.1.0,
              (
                subst (λ n. (s ≡ session.NotConnected) ⊎ (s ≡ session.Authenticating r n)) (sym new.0) was,
                subst (λ n. Q r n) (sym new.0) enters,
              ),
            ),
          ),
        ),
      )
    ]

pub nothing-else : NothingElse
nothing-else w (Connects k e d j) other i q at =
    elim (change-names _ _ _ k _ _ _ (connect-changes w.fabrics (w.sessions k) k e d j) i q other at) [
      | inl old ↦ inl old
      | inr new ↦ inr (sym new.0, subst (λ n. w.sessions n ≡ session.NotConnected) (sym new.0) new.1.1.1.1.1.0)
    ]
nothing-else w (Authenticates k b s) other i q at =
    elim (change-names _ _ _ k _ _ _ (authenticate-changes w.fabrics (w.sessions k) k b s) i q other at) [
      | inl old ↦ inl old
      | inr new ↦ inr (
        sym new.0,
        (
          new.1.1.0,
          (
            subst (λ n. w.sessions n ≡ session.Authenticating new.1.1.0 i) (sym new.0) new.1.1.1.1.1,
            new.1.1.1.0,
          ),
        ),
      )
    ]
nothing-else w (Executes k e) other i q at =
    elim (change-names _ _ _ k _ _ _ (execute-changes w.fabrics (w.sessions k) k e) i q other at) [
      | inl old ↦ inl old
      | inr new ↦ absurd new.1.1.1.1.1
    ]
nothing-else w (Closes k) other i q at =
    elim (change-names _ _ _ k _ _ _ (close-changes w.fabrics (w.sessions k) k) i q other at) [
      | inl old ↦ inl old
      | inr new ↦ absurd new.1.1.1.1.1
    ]
nothing-else w (Ends n) other i q at = inl ((smaller-ended w.fabrics n).names i q other at)

-- each connection of an association is its queue
abbrev EachNamed : World → Type 0
EachNamed w = (k i q : ℕ) → connection_of w.fabrics i q ≡ Some k → w.sessions k ≡ session.Queue i q

named-kept : (P : Request → Type 0) (Q : Request → ℕ → Type 0) (f : Fabrics) (k : ℕ) (s : Session) (g : Fabrics)
    (t : Session) → Change P Q f k s g t → (i q : ℕ) → s ≡ session.Queue i q → connection_of g i q ≡ Some k
    → t ≡ session.Queue i q
named-kept P Q f k s g t (Stays smaller same) i q is at = same ∙ is
named-kept P Q f k s g t (Over smaller gone ends) i q is at = absurd (gone i q is at)
named-kept P Q f k s g t (Discovers same was comes) i q is at = absurd (cc)
named-kept P Q f k s g t (Waits r n same was comes asks) i q is at = absurd (cc)
named-kept P Q f k s g t (Enters_queue r n b same comes fit was enters) i q is at = elim was [
  | inl new ↦ absurd (cc)
  | inr waits ↦ absurd (cc)
]

named-moved : (P : Request → Type 0) (Q : Request → ℕ → Type 0) (w : World) (k : ℕ) (g : Fabrics) (t : Session)
    → Change P Q w.fabrics k (w.sessions k) g t → EachNamed w → EachNamed (moved w k g t)
named-moved P Q w k g t change named other i q at = elim (session-moved w.sessions k t other) [
  | inl x ↦ x.1 ∙ elim (change-names P Q w.fabrics k (w.sessions k) g t change i q other at) [
    | inl old ↦ named-kept P Q w.fabrics k (w.sessions k) g t change i q
        (subst (λ n. w.sessions n ≡ session.Queue i q) x.0 (named other i q old))
        (subst (λ n. connection_of g i q ≡ Some n) x.0 at)
    | inr new ↦ new.1.0
  ]
  | inr x ↦ x.1 ∙ elim (change-names P Q w.fabrics k (w.sessions k) g t change i q other at) [
    | inl old ↦ named other i q old
    | inr new ↦ absurd (x.0 new.0)
  ]
]

named-after : (w : World) (input : Input) → EachNamed w → EachNamed (after w input)
named-after w (Connects k e d j) = named-moved _ _ w k _ _ (connect-changes w.fabrics (w.sessions k) k e d j)
named-after w (Authenticates k b s) = named-moved _ _ w k _ _ (authenticate-changes w.fabrics (w.sessions k) k b s)
named-after w (Executes k e) = named-moved _ _ w k _ _ (execute-changes w.fabrics (w.sessions k) k e)
named-after w (Closes k) = named-moved _ _ w k _ _ (close-changes w.fabrics (w.sessions k) k)
named-after w (Ends n) = named-ended w n where
  named-ended : (w : World) (n : ℕ) → EachNamed w → EachNamed (after w (Ends n))
  named-ended w n named k i q at = named k i q ((smaller-ended w.fabrics n).names i q k at)

-- no association at the beginning
fresh : (hosts : List (Option ℕ)) (i : ℕ) → (slice_get (map no_association hosts) i ≡ None)
    ⊎ ((host : Option ℕ) × (slice_get (map no_association hosts) i ≡ Some (no_association host)))
fresh [] i = inl refl
fresh (h ∷ hosts) zero = inr (h, refl)
fresh (h ∷ hosts) (suc i) = fresh hosts i

no-connection : (hosts : List (Option ℕ)) (has_keys : Bool) (i q : ℕ)
    → connection_of (no_associations hosts has_keys) i q ≡ None
no-connection hosts has_keys i q = elim (fresh hosts i) [
  | inl e ↦ rw e refl
  | inr e ↦ rw e.1 refl
]

pub no-owner : (hosts : List (Option ℕ)) (has_keys : Bool) (i : ℕ) → owner_at (no_associations hosts has_keys) i ≡ None
no-owner hosts has_keys i = elim (fresh hosts i) [
  | inl e ↦ rw e refl
  | inr e ↦ rw e.1 refl
]

named-always : (hosts : List (Option ℕ)) (has_keys : Bool) (run : List Input)
    → EachNamed (world_after hosts has_keys run)
named-always hosts has_keys [] = first hosts has_keys where
  first : (hosts : List (Option ℕ)) (has_keys : Bool) → EachNamed (beginning hosts has_keys)
  first hosts has_keys k i q at = absurd (none-some _ (sym (no-connection hosts has_keys i q) ∙ at))
named-always hosts has_keys (input ∷ run) =
    named-after (world_after hosts has_keys run) input (named-always hosts has_keys run)

pub one-queue : OneQueue
one-queue hosts has_keys run k i q at = named-always hosts has_keys run k i q at

is-itself : (k : ℕ) → is_connection k (Some k) ≡ true
is-itself k = elim (k == k) as (λ b. (k == k) ≡ b → b ≡ true) [
  | true ↦ λ e. refl
  | false ↦ λ e. absurd (eqb-false k k e refl)
] refl

pub is-live : IsLive
is-live hosts has_keys run k i q at =
    let w : World = world_after hosts has_keys run in
    ap (λ s. live w.fabrics s k) (one-queue hosts has_keys run k i q at) ∙ rw (at, is-itself k) refl

pub is-named : IsNamed
is-named f (session.Queue n p) k i q = elim (is_connection k (connection_of f n p)) as (λ b.
    is_connection k (connection_of f n p) ≡ b
    → cond b (session.Queue n p) session.Ended ≡ session.Queue i q → connection_of f i q ≡ Some k) [
      | true ↦ λ is e. same-queue n p i q e (named-by k (connection_of f n p) is)
      | false ↦ λ is e. absurd (cc)
    ] refl where
      named-by : (k : ℕ) (o : Option ℕ) → is_connection k o ≡ true → o ≡ Some k
      named-by k None e = absurd (cc)
      named-by k (Some other) e = ap Some (eqb-true other k e)

      same-queue : (n p i q : ℕ) → session.Queue n p ≡ session.Queue i q → connection_of f n p ≡ Some k
          → connection_of f i q ≡ Some k
      same-queue n p i q e at =
          let index : n ≡ i = cc in let qid : p ≡ q = cc in
          subst (λ n. connection_of f n q ≡ Some k) index (subst (λ p. connection_of f n p ≡ Some k) qid at)
is-named f session.NotConnected k i q = λ e. absurd (cc)
is-named f (session.Authenticating r n) k i q = λ e. absurd (cc)
is-named f session.Discovery k i q = λ e. absurd (cc)
is-named f session.Ended k i q = λ e. absurd (cc)
