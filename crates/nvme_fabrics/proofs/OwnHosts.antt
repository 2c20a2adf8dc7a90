-- For `own_host`: a connection is a queue only of a controller of the host that its Connect named.
use Rattle.std.proofs.Common.{
  ◌≡◌,
  inl,
  inr,
  ℕ,
  zero,
  suc,
  Bool,
  true,
  false,
  cond,
  List,
  [],
  ◌∷◌,
  map,
  Option,
  None,
  Some,
  Ok,
  refl,
  sym,
  ap,
  subst,
  ◌∙◌,
}
use Rattle.std.specs.Prelude.{◌==◌, slice_get}
use Rattle.std.proofs.lemmas.Option.{none-some}
use Rattle.std.proofs.lemmas.Bool.{eqb-true}
use Rattle.nvme_fabrics.specs.declared.answer.Answer.{Answer}
use Rattle.nvme_fabrics.specs.declared.request.Request.{Request}
use Rattle.nvme_fabrics.specs.declared.association.Association.{Association}
use Rattle.nvme_fabrics.specs.declared.association.Controller.{Controller}
use Rattle.nvme_fabrics.specs.declared.fabrics.Fabrics.{Fabrics}
use Rattle.nvme_fabrics.specs.declared.session.Session.{Session}
use Rattle.nvme_fabrics.specs.declared.session.Session.TheVariants as session
use Rattle.nvme_fabrics.specs.Answers.{in_data, checked}
use Rattle.nvme_fabrics.specs.Associations.{
  joined,
  is_same,
  is_of,
  with_queue,
  io_rules,
  io_fits,
  io_fits_in,
  admin_rules,
  fits,
}
use Rattle.nvme_fabrics.specs.Places.{fits_at}
use Rattle.nvme_fabrics.specs.Sessions.{no_association}
use Rattle.nvme_fabrics.specs.Runs.{
  World,
  Input,
  Connects,
  Authenticates,
  Executes,
  Closes,
  Ends,
  moved,
  after,
  beginning,
  world_after,
}
use Rattle.nvme_fabrics.specs.Laws.{
  host_in,
  host_at,
  HasNamed,
  HasBegun,
  OwnHost,
  AdmittedHost,
  ProvedHost,
  GivenHosts,
}
use Rattle.nvme_fabrics.proofs.Tables.{
  owner_in,
  owner_on,
  owner_at,
  same-keys,
  smaller-ended,
  entered-hosts,
  entered-owners,
}
use Rattle.nvme_fabrics.proofs.Changes.{
  Change,
  Stays,
  Over,
  Discovers,
  Waits,
  Enters_queue,
  admits,
  connect-changes,
  authenticate-changes,
  execute-changes,
  close-changes,
}
use Rattle.nvme_fabrics.proofs.RunLaws.{session-moved, change-hosts, hosts-stay, no-owner}

first-rule : {A : Type 0} (a : Answer) (b : Bool) (rules : List (Answer × Bool)) (x y : A)
    → checked ((a, b) ∷ rules) x ≡ Ok y → b ≡ true
first-rule a true rules x y e = refl
first-rule a false rules x y e = absurd (cc)

abbrev rest : List (Answer × Bool) → List (Answer × Bool)
rest [] = []
rest (r ∷ rules) = rules

same-host : (h : ℕ) (o : Option ℕ) → is_same h o ≡ true → o ≡ Some h
same-host h None e = absurd (cc)
same-host h (Some other) e = ap Some (eqb-true other h e)

-- the associations are those of the controllers' hosts
abbrev pub IsOwned : Fabrics → Type 0
IsOwned f = (i h : ℕ) → owner_at f i ≡ Some h → host_at f i ≡ Some h

io-owner : (a : Association) (r : Request) (b : Bool) → io_fits a r b ≡ Ok tt → a.host_id ≡ r.host_id
unfolding io_fits
io-owner a r b e =
    eqb-true a.host_id r.host_id (first-rule (in_data 0) (a.host_id == r.host_id) (rest (io_rules a r b)) tt tt e)

io-host : (o : Option Association) (host : Option ℕ) (r : Request) (b : Bool) → io_fits_in o r b ≡ Ok tt
    → ((h : ℕ) → owner_in o ≡ Some h → host ≡ Some h) → host ≡ Some r.host_id
io-host None host r b e owned = absurd (cc)
io-host (Some a) host r b e owned = owned r.host_id (ap Some (io-owner a r b e))

one-host : (c : Controller) (r : Request) (b : Bool) → fits c r b ≡ Ok tt
    → ((h : ℕ) → owner_in c.association ≡ Some h → c.host ≡ Some h) → c.host ≡ Some r.host_id
unfolding fits
one-host c r b e owned = elim (r.qid == 0) as (λ z.
    cond z (checked (admin_rules c r) tt) (io_fits_in c.association r b) ≡ Ok tt → c.host ≡ Some r.host_id) [
      | true ↦ λ e. same-host r.host_id c.host
          (first-rule (in_data 16) (is_of r.host_id c) (rest (admin_rules c r)) tt tt e)
      | false ↦ λ e. io-host c.association c.host r b e owned
    ] e

at-host : (o : Option Controller) (r : Request) (b : Bool) → fits_at o r b ≡ Ok tt
    → ((h : ℕ) → owner_on o ≡ Some h → host_in o ≡ Some h) → host_in o ≡ Some r.host_id
at-host None r b e owned = absurd (cc)
at-host (Some c) r b e owned = one-host c r b e owned

-- associations stay those of the controllers' hosts
owned-changed : (P : Request → Type 0) (Q : Request → ℕ → Type 0) (f : Fabrics) (k : ℕ) (s : Session) (g : Fabrics)
    (t : Session) → Change P Q f k s g t → IsOwned f → IsOwned g
owned-changed P Q f k s g t (Stays smaller same) owned i h e = smaller.hosts i ∙ owned i h (smaller.owners i h e)
owned-changed P Q f k s g t (Over smaller gone ends) owned i h e = smaller.hosts i ∙ owned i h (smaller.owners i h e)
owned-changed P Q f k s g t (Discovers same was comes) owned i h e =
    ap (λ f. host_at f i) same ∙ owned i h (sym (ap (λ f. owner_at f i) same) ∙ e)
owned-changed P Q f k s g t (Waits r n same was comes asks) owned i h e =
    ap (λ f. host_at f i) same ∙ owned i h (sym (ap (λ f. owner_at f i) same) ∙ e)
owned-changed P Q f k s g t (Enters_queue r n b same comes fit was enters) owned i h e =
    ap (λ f. host_at f i) same ∙ entered-hosts f n r k i
    ∙ elim (entered-owners f n r k i h (sym (ap (λ f. owner_at f i) same) ∙ e)) [
      | inl old ↦ owned i h old
      | inr new ↦
          ap (host_at f) new.0 ∙ at-host (slice_get f.controllers n) r b fit (owned n) ∙ ap Some (sym new.1)
    ]

keys-changed : (P : Request → Type 0) (Q : Request → ℕ → Type 0) (f : Fabrics) (k : ℕ) (s : Session) (g : Fabrics)
    (t : Session) → Change P Q f k s g t → g.has_keys ≡ f.has_keys
keys-changed P Q f k s g t (Stays smaller same) = smaller.keys
keys-changed P Q f k s g t (Over smaller gone ends) = smaller.keys
keys-changed P Q f k s g t (Discovers same was comes) = ap (λ f. f.has_keys) same
keys-changed P Q f k s g t (Waits r n same was comes asks) = ap (λ f. f.has_keys) same
keys-changed P Q f k s g t (Enters_queue r n b same comes fit was enters) =
    ap (λ f. f.has_keys) same ∙ same-keys f n (λ c. with_queue c r k)

-- what connections are, by the inputs so far
record Own (has_keys : Bool) (run : List Input) (w : World) : Type 0 where
  pub keys : w.fabrics.has_keys ≡ has_keys
  pub owned : IsOwned w.fabrics
  pub waits : (k i : ℕ) (r : Request) → w.sessions k ≡ session.Authenticating r i → HasNamed run k r.host_id
  pub queues : (k i q : ℕ) → w.sessions k ≡ session.Queue i q
      → (h : ℕ) × ((host_at w.fabrics i ≡ Some h) × HasBegun has_keys run k h)

-- an input is the newest
waits-changed : (P : Request → Type 0) (Q : Request → ℕ → Type 0) (f : Fabrics) (k : ℕ) (s : Session) (g : Fabrics)
    (t : Session) → Change P Q f k s g t → (N : ℕ → Type 0) → ((r : Request) → P r → N r.host_id)
    → ((i : ℕ) (r : Request) → s ≡ session.Authenticating r i → N r.host_id)
    → (i : ℕ) (r : Request) → t ≡ session.Authenticating r i → N r.host_id
waits-changed P Q f k s g t (Stays smaller same) N begins was i r is = was i r (sym same ∙ is)
waits-changed P Q f k s g t (Over smaller gone ends) N begins was i r is = absurd (cc)
waits-changed P Q f k s g t (Discovers same new comes) N begins was i r is = absurd (cc)
waits-changed P Q f k s g t (Waits asked n same new comes asks) N begins was i r is =
    let request : asked ≡ r = cc in subst (λ r. N r.host_id) request (begins asked asks)
waits-changed P Q f k s g t (Enters_queue asked n b same comes fit new enters) N begins was i r is = absurd (cc)

queues-changed : (P : Request → Type 0) (Q : Request → ℕ → Type 0) (f : Fabrics) (k : ℕ) (s : Session) (g : Fabrics)
    (t : Session) (change : Change P Q f k s g t) → IsOwned f → (B : ℕ → Type 0)
    → ((r : Request) (i : ℕ) → Q r i → B r.host_id)
    → ((i q : ℕ) → s ≡ session.Queue i q → (h : ℕ) × ((host_at f i ≡ Some h) × B h))
    → (i q : ℕ) → t ≡ session.Queue i q → (h : ℕ) × ((host_at g i ≡ Some h) × B h)
queues-changed P Q f k s g t (Stays smaller same) owned B begins was i q is =
    let old = was i q (sym same ∙ is) in (old.0, (smaller.hosts i ∙ old.1.0, old.1.1))
queues-changed P Q f k s g t (Over smaller gone ends) owned B begins was i q is = absurd (cc)
queues-changed P Q f k s g t (Discovers same new comes) owned B begins was i q is = absurd (cc)
queues-changed P Q f k s g t (Waits asked n same new comes asks) owned B begins was i q is = absurd (cc)
queues-changed P Q f k s g t (Enters_queue r n b same comes fit new enters) owned B begins was i q is =
    let here : n ≡ i = cc in (
      r.host_id,
      (
        ap (λ f. host_at f i) same ∙ entered-hosts f n r k i ∙ ap (host_at f) (sym here)
            ∙ at-host (slice_get f.controllers n) r b fit (owned n),
        begins r n enters,
      ),
    )

own-moved : (P : Request → Type 0) (Q : Request → ℕ → Type 0) (has_keys : Bool) (run : List Input) (input : Input)
    (w : World) (k : ℕ) (g : Fabrics) (t : Session) → Change P Q w.fabrics k (w.sessions k) g t
    → Own has_keys run w → ((r : Request) → P r → HasNamed (input ∷ run) k r.host_id)
    → ((r : Request) (i : ℕ) → Q r i → HasBegun has_keys (input ∷ run) k r.host_id)
    → Own has_keys (input ∷ run) (moved w k g t)
own-moved P Q has_keys run input w k g t change own names begins = record {
  keys = keys-changed P Q w.fabrics k (w.sessions k) g t change ∙ own.keys;
  owned = owned-changed P Q w.fabrics k (w.sessions k) g t change own.owned;
  waits = λ other i r is. elim (session-moved w.sessions k t other) [
    | inl x ↦ subst (λ n. HasNamed (input ∷ run) n r.host_id) (sym x.0)
        (waits-changed P Q w.fabrics k (w.sessions k) g t change (HasNamed (input ∷ run) k) names
        (λ i r e. inr (own.waits k i r e)) i r (sym x.1 ∙ is))
    | inr x ↦ inr (own.waits other i r (sym x.1 ∙ is))
  ];
  queues = λ other i q is. elim (session-moved w.sessions k t other) [
    | inl x ↦ subst (λ n. (h : ℕ) × ((host_at g i ≡ Some h) × HasBegun has_keys (input ∷ run) n h)) (sym x.0)
        (queues-changed P Q w.fabrics k (w.sessions k) g t change own.owned (HasBegun has_keys (input ∷ run) k) begins
        (λ i q e. let old = own.queues k i q e in (old.0, (old.1.0, inr old.1.1))) i q (sym x.1 ∙ is))
    | inr x ↦ let old = own.queues other i q (sym x.1 ∙ is) in (
      old.0,
      (change-hosts P Q w.fabrics k (w.sessions k) g t change i ∙ old.1.0, inr old.1.1),
    )
  ];
}

own-after : (has_keys : Bool) (run : List Input) (input : Input) (w : World) → Own has_keys run w
    → Own has_keys (input ∷ run) (after w input)
own-after has_keys run (Connects k e d j) w own =
    own-moved _ _ has_keys run (Connects k e d j) w k _ _ (connect-changes w.fabrics (w.sessions k) k e d j) own
    (λ r named. inl (refl, named)) (λ r i by. inl (sym own.keys ∙ by.1.0, (refl, by.1.1)))
own-after has_keys run (Authenticates k b s) w own =
    own-moved _ _ has_keys run (Authenticates k b s) w k _ _
    (authenticate-changes w.fabrics (w.sessions k) k b s) own (λ r never. absurd never)
    (λ r i by. inl (refl, own.waits k i r by))
own-after has_keys run (Executes k e) w own =
    own-moved _ _ has_keys run (Executes k e) w k _ _ (execute-changes w.fabrics (w.sessions k) k e) own
    (λ r never. absurd never) (λ r i never. absurd never)
own-after has_keys run (Closes k) w own =
    own-moved _ _ has_keys run (Closes k) w k _ _ (close-changes w.fabrics (w.sessions k) k) own
    (λ r never. absurd never) (λ r i never. absurd never)
own-after has_keys run (Ends n) w own =
    let smaller = smaller-ended w.fabrics n in
    record {
      keys = smaller.keys ∙ own.keys;
      owned = λ i h e. smaller.hosts i ∙ own.owned i h (smaller.owners i h e);
      waits = λ k i r is. inr (own.waits k i r is);
      queues = λ k i q is. let old = own.queues k i q is in (old.0, (smaller.hosts i ∙ old.1.0, inr old.1.1));
    }

own-first : (hosts : List (Option ℕ)) (has_keys : Bool) → Own has_keys [] (beginning hosts has_keys)
own-first hosts has_keys = record {
  keys = refl;
  owned = λ i h e. absurd (none-some _ (sym (no-owner hosts has_keys i) ∙ e));
  waits = λ k i r is. absurd (cc);
  queues = λ k i q is. absurd (cc);
}

own-always : (hosts : List (Option ℕ)) (has_keys : Bool) (run : List Input)
    → Own has_keys run (world_after hosts has_keys run)
own-always hosts has_keys [] = own-first hosts has_keys
own-always hosts has_keys (input ∷ run) =
    own-after has_keys run input (world_after hosts has_keys run) (own-always hosts has_keys run)

pub own-host : OwnHost
own-host hosts has_keys run k i q is = (own-always hosts has_keys run).queues k i q is

-- a request that fits at a controller is one of its host
fits-host : (hosts : List (Option ℕ)) (has_keys : Bool) (run : List Input) (r : Request) (i : ℕ) (is_enabled : Bool)
    → fits_at (slice_get (world_after hosts has_keys run).fabrics.controllers i) r is_enabled ≡ Ok tt
    → host_at (world_after hosts has_keys run).fabrics i ≡ Some r.host_id
fits-host hosts has_keys run r i is_enabled fits =
    at-host (slice_get (world_after hosts has_keys run).fabrics.controllers i) r is_enabled fits
    ((own-always hosts has_keys run).owned i)

pub admitted-host : AdmittedHost
admitted-host hosts has_keys run k i e d j r is =
    let w : World = world_after hosts has_keys run in
    let found = admits w.fabrics (w.sessions k) e d j r i is in
    fits-host hosts has_keys run r i j.is_enabled found.fits ∙ ap Some found.named

pub proved-host : ProvedHost
proved-host hosts has_keys run k i is_enabled r is fits =
    (fits-host hosts has_keys run r i is_enabled fits, (own-always hosts has_keys run).waits k i r is)

host-first : (hosts : List (Option ℕ)) (i : ℕ)
    → host_in (slice_get (map no_association hosts) i) ≡ joined (slice_get hosts i)
host-first [] i = refl
host-first (h ∷ hosts) zero = refl
host-first (h ∷ hosts) (suc i) = host-first hosts i

pub given-hosts : GivenHosts
given-hosts hosts has_keys [] i = host-first hosts i
given-hosts hosts has_keys (input ∷ run) i =
    hosts-stay (world_after hosts has_keys run) input i ∙ given-hosts hosts has_keys run i
