-- What an input does to the associations and to its connection.
use Rattle.std.proofs.Common.{
  ◌≡◌,
  ◌⊎◌,
  inl,
  inr,
  ℕ,
  ◌+◌,
  Bool,
  true,
  false,
  cond,
  List,
  [],
  ◌∷◌,
  Option,
  None,
  Some,
  Result,
  Ok,
  Err,
  refl,
  sym,
  ap,
  subst,
  ◌∙◌,
}
use Rattle.std.specs.Prelude.{◌==◌, ◌&&◌, slice_get}
use Rattle.std.proofs.lemmas.Option.{none-some, same_Some}
use Rattle.std.proofs.lemmas.Bool.{eqb-false}
use Rattle.nvme_wire.specs.declared.status.Status.{Status}
use Rattle.nvme_fabrics.specs.declared.answer.Answer.{Answer}
use Rattle.nvme_fabrics.specs.declared.command.Command.{Command}
use Rattle.nvme_fabrics.specs.declared.command.Command.TheVariants as command
use Rattle.nvme_fabrics.specs.declared.request.Request.{Request}
use Rattle.nvme_fabrics.specs.declared.association.Controller.{Controller}
use Rattle.nvme_fabrics.specs.declared.fabrics.Fabrics.{Fabrics}
use Rattle.nvme_fabrics.specs.declared.session.Judged.{Judged}
use Rattle.nvme_fabrics.specs.declared.session.Place.{Place}
use Rattle.nvme_fabrics.specs.declared.session.Place.TheVariants as place
use Rattle.nvme_fabrics.specs.declared.session.Session.{Session}
use Rattle.nvme_fabrics.specs.declared.session.Session.TheVariants as session
use Rattle.nvme_fabrics.specs.declared.session.Subsystem.{Subsystem}
use Rattle.nvme_fabrics.specs.declared.session.Subsystem.TheVariants as subsystem
use Rattle.nvme_fabrics.specs.Answers.{success, with_cntlid, checked, invalid_host}
use Rattle.nvme_fabrics.specs.Requests.{host_id_of, request_rules, request_fields, request_of}
use Rattle.nvme_fabrics.specs.Places.{
  controller_of,
  fits_at,
  at_controller,
  place_at,
  discovery_rules,
  place_in,
  place_of,
}
use Rattle.nvme_fabrics.specs.Sessions.{
  connection_of,
  is_connection,
  live,
  Outcome,
  creation,
  with_queue_at,
  without_queue_at,
  without_io_queues_at,
  entered,
  admitted,
  placed,
  placed_by,
  put,
  answered,
  connect,
  authenticated_if,
  authenticated,
  without,
  closed,
  ended,
  authreq_atr,
}
use Rattle.nvme_fabrics.specs.Commands.{
  enables,
  command_of,
  reset_by,
  fabrics_by,
  session_by,
  fabrics_after,
  session_after,
}
use Rattle.nvme_fabrics.proofs.Tables.{
  Smaller,
  smaller-same,
  smaller-ended,
  smaller-queue,
  smaller-io,
  ended-gone,
  queue-gone,
}

-- A connection may begin to authenticate itself for a request of which `Asks` holds, and become the queue of one of
-- which `Enters` holds.
pub data Change (Asks : Request → Type 0) (Enters : Request → ℕ → Type 0) (f : Fabrics) (k : ℕ) (s : Session)
    (g : Fabrics) (t : Session) : Type 0 where
  Stays : Smaller f g → t ≡ s → Change Asks Enters f k s g t
  Over : Smaller f g → ((i q : ℕ) → s ≡ session.Queue i q → connection_of g i q ≡ Some k → ⊥) → t ≡ session.Ended
      → Change Asks Enters f k s g t
  Discovers : g ≡ f → s ≡ session.NotConnected → t ≡ session.Discovery → Change Asks Enters f k s g t
  Waits : (r : Request) (i : ℕ) → g ≡ f → s ≡ session.NotConnected → t ≡ session.Authenticating r i → Asks r
      → Change Asks Enters f k s g t
  Enters_queue : (r : Request) (i : ℕ) (is_enabled : Bool) → g ≡ with_queue_at f i r k → t ≡ session.Queue i r.qid
      → fits_at (slice_get f.controllers i) r is_enabled ≡ Ok tt
      → ((s ≡ session.NotConnected) ⊎ (s ≡ session.Authenticating r i)) → Enters r i → Change Asks Enters f k s g t

abbrev Comes : (Request → Type 0) → (Request → ℕ → Type 0) → Fabrics → ℕ → Session → Outcome → Type 0
Comes Asks Enters f k s o = Change Asks Enters f k s o.fabrics o.session

checked-value : {A : Type 0} (rules : List (Answer × Bool)) (x y : A) → checked rules x ≡ Ok y → x ≡ y
checked-value [] x y e = cc
checked-value (r ∷ rules) x y e = elim (r.1) as (λ b. cond b (checked rules x) (Err r.0) ≡ Ok y → x ≡ y) [
  | true ↦ λ e. checked-value rules x y e
  | false ↦ λ e. absurd (cc)
] e

asks-host : (e d : List ℕ) (is_whole : Bool) (r : Request) → request_of e d is_whole ≡ Ok r → r.host_id ≡ host_id_of d
unfolding request_of
asks-host e d is_whole r h =
    sym (ap (λ r. r.host_id) (checked-value (request_rules e d is_whole) (request_fields e d) r h))

-- a connection is put to a controller only if the request fits there
at-fits : (cs : List Controller) (r : Request) (is_enabled : Bool) (n i : ℕ) (x : Result (Unit {0}) Answer)
    → fits_at (slice_get cs n) r is_enabled ≡ x → at_controller n x ≡ Ok (place.Controller i)
    → fits_at (slice_get cs i) r is_enabled ≡ Ok tt
at-fits cs r is_enabled n i (Ok u) h e =
    let same : n ≡ i = cc in subst (λ n. fits_at (slice_get cs n) r is_enabled ≡ Ok tt) same h
at-fits cs r is_enabled n i (Err a) h e = absurd (cc)

placed-fits : (cs : List Controller) (r : Request) (is_enabled : Bool) (i : ℕ) (x : Result ℕ Answer)
    → place_at cs r is_enabled x ≡ Ok (place.Controller i) → fits_at (slice_get cs i) r is_enabled ≡ Ok tt
placed-fits cs r is_enabled i (Ok n) e = at-fits cs r is_enabled n i _ refl e
placed-fits cs r is_enabled i (Err a) e = absurd (cc)

in-fits : (cs : List Controller) (r : Request) (j : Judged) (i : ℕ) (s : Subsystem)
    → place_in cs r j s ≡ Ok (place.Controller i) → fits_at (slice_get cs i) r j.is_enabled ≡ Ok tt
in-fits cs r j i subsystem.Nvm e = elim (j.is_known && j.is_allowed) as (λ b.
    cond b (place_at cs r j.is_enabled (controller_of cs r j.authenticating)) (Err invalid_host)
    ≡ Ok (place.Controller i) → fits_at (slice_get cs i) r j.is_enabled ≡ Ok tt) [
      | true ↦ λ e. placed-fits cs r j.is_enabled i (controller_of cs r j.authenticating) e
      | false ↦ λ e. absurd (cc)
    ] e
in-fits cs r j i subsystem.Discovery e =
    let other : place.Discovery ≡ place.Controller i =
    checked-value (discovery_rules r j) place.Discovery (place.Controller i) e in absurd (cc)
in-fits cs r j i subsystem.Other e = absurd (cc)

place-fits : (cs : List Controller) (r : Request) (j : Judged) (i : ℕ) → place_of cs r j ≡ Ok (place.Controller i)
    → fits_at (slice_get cs i) r j.is_enabled ≡ Ok tt
unfolding place_of
place-fits cs r j i e = in-fits cs r j i j.subsystem e

-- what is admitted for a controller fits there, and is a request of the host that the Connect names
pub record Admits (f : Fabrics) (d : List ℕ) (is_enabled : Bool) (r : Request) (i : ℕ) : Type 0 where
  pub fits : fits_at (slice_get f.controllers i) r is_enabled ≡ Ok tt
  pub named : r.host_id ≡ host_id_of d

placed-admits : (f : Fabrics) (e d : List ℕ) (j : Judged) (asked r : Request) (i : ℕ) (x : Result Place Answer)
    → request_of e d j.is_whole ≡ Ok asked → place_of f.controllers asked j ≡ x
    → placed_by asked x ≡ Ok (r, place.Controller i) → Admits f d j.is_enabled r i
placed-admits f e d j asked r i (Ok p) asks h is =
    let both : (asked, p) ≡ (r, place.Controller i) = cc in
    let same : asked ≡ r = ap (λ (x : Request × Place). x.0) both in
    let there : p ≡ place.Controller i = ap (λ (x : Request × Place). x.1) both in
    record {
      fits = subst (λ x. fits_at (slice_get f.controllers i) x j.is_enabled ≡ Ok tt) same
          (place-fits f.controllers asked j i (h ∙ ap Ok there));
      named = ap (λ x. x.host_id) (sym same) ∙ asks-host e d j.is_whole asked asks;
    }
placed-admits f e d j asked r i (Err a) asks h is = absurd (cc)

asked-admits : (f : Fabrics) (e d : List ℕ) (j : Judged) (r : Request) (i : ℕ) (x : Result Request Answer)
    → request_of e d j.is_whole ≡ x → placed f j x ≡ Ok (r, place.Controller i) → Admits f d j.is_enabled r i
asked-admits f e d j r i (Ok asked) h is =
    placed-admits f e d j asked r i (place_of f.controllers asked j) h refl is
asked-admits f e d j r i (Err a) h is = absurd (cc)

pub admits : (f : Fabrics) (s : Session) (e d : List ℕ) (j : Judged) (r : Request) (i : ℕ)
    → admitted f s e d j ≡ Ok (r, place.Controller i) → Admits f d j.is_enabled r i
admits f session.NotConnected e d j r i is = asked-admits f e d j r i (request_of e d j.is_whole) refl is
admits f (session.Authenticating q n) e d j r i is = absurd (cc)
admits f (session.Queue n q) e d j r i is = absurd (cc)
admits f session.Discovery e d j r i is = absurd (cc)
admits f session.Ended e d j r i is = absurd (cc)

-- Connect
abbrev pub ByConnect : Fabrics → Session → List ℕ → Request → ℕ → Type 0
ByConnect f s d r i = (s ≡ session.NotConnected) × ((f.has_keys ≡ false) × (host_id_of d ≡ r.host_id))

abbrev pub Named : List ℕ → Request → Type 0
Named d r = host_id_of d ≡ r.host_id

stays : (Asks : Request → Type 0) (Enters : Request → ℕ → Type 0) (f : Fabrics) (k : ℕ) (s : Session)
    → Change Asks Enters f k s f s
stays Asks Enters f k s = Stays (smaller-same f) refl

enters : (f : Fabrics) (k : ℕ) (d : List ℕ) (r : Request) (i : ℕ) (is_enabled : Bool) (granted : Answer)
    (x : Result (Unit {0}) Answer) → fits_at (slice_get f.controllers i) r is_enabled ≡ Ok tt
    → Named d r → f.has_keys ≡ false
    → Comes (Named d) (ByConnect f session.NotConnected d) f k session.NotConnected
    (entered f k r i session.NotConnected granted x)
enters f k d r i is_enabled granted (Ok u) fits named keys =
    Enters_queue r i is_enabled refl refl fits (inl refl) (refl, (keys, named))
enters f k d r i is_enabled granted (Err a) fits named keys = stays _ _ f k session.NotConnected

keyed : (f : Fabrics) (k : ℕ) (d : List ℕ) (created : Status) (r : Request) (i : ℕ) (is_enabled : Bool)
    → fits_at (slice_get f.controllers i) r is_enabled ≡ Ok tt → Named d r
    → Comes (Named d) (ByConnect f session.NotConnected d) f k session.NotConnected
    (put f k created r (place.Controller i))
keyed f k d created r i is_enabled fits named = elim (f.has_keys) as (λ b. f.has_keys ≡ b
    → Comes (Named d) (ByConnect f session.NotConnected d) f k session.NotConnected (cond b (record {
      fabrics = f;
      session = session.Authenticating r i;
      answer = with_cntlid (i + 1 + authreq_atr);
    }) (entered f k r i session.NotConnected (with_cntlid (i + 1)) (creation r created)))) [
      | true ↦ λ keys. Waits r i refl refl refl named
      | false ↦ λ keys. enters f k d r i is_enabled (with_cntlid (i + 1)) (creation r created) fits named keys
    ] refl

puts : (f : Fabrics) (k : ℕ) (d : List ℕ) (created : Status) (r : Request) (j : Judged) (x : Result Place Answer)
    → place_of f.controllers r j ≡ x → Named d r
    → Comes (Named d) (ByConnect f session.NotConnected d) f k session.NotConnected
    (answered f session.NotConnected k created (placed_by r x))
puts f k d created r j (Ok place.Discovery) h named = Discovers refl refl refl
puts f k d created r j (Ok (place.Controller i)) h named =
    keyed f k d created r i j.is_enabled (place-fits f.controllers r j i h) named
puts f k d created r j (Err a) h named = stays _ _ f k session.NotConnected

asked : (f : Fabrics) (k : ℕ) (e d : List ℕ) (j : Judged) (x : Result Request Answer) → request_of e d j.is_whole ≡ x
    → Comes (Named d) (ByConnect f session.NotConnected d) f k session.NotConnected
    (answered f session.NotConnected k j.created (placed f j x))
asked f k e d j (Ok r) h =
    puts f k d j.created r j (place_of f.controllers r j) refl (sym (asks-host e d j.is_whole r h))
asked f k e d j (Err a) h = stays _ _ f k session.NotConnected

pub connect-changes : (f : Fabrics) (s : Session) (k : ℕ) (e d : List ℕ) (j : Judged)
    → Comes (Named d) (ByConnect f s d) f k s (connect f s k e d j)
connect-changes f session.NotConnected k e d j = asked f k e d j (request_of e d j.is_whole) refl
connect-changes f (session.Authenticating r i) k e d j = stays _ _ f k _
connect-changes f (session.Queue i q) k e d j = stays _ _ f k _
connect-changes f session.Discovery k e d j = stays _ _ f k _
connect-changes f session.Ended k e d j = stays _ _ f k _

-- authentication
abbrev pub ByProof : Session → Request → ℕ → Type 0
ByProof s r i = s ≡ session.Authenticating r i

abbrev pub Never : Request → Type 0
Never r = ⊥

abbrev pub NeverAt : Request → ℕ → Type 0
NeverAt r i = ⊥

fails : (Asks : Request → Type 0) (Enters : Request → ℕ → Type 0) (f : Fabrics) (k : ℕ) (r : Request) (i : ℕ)
    → Change Asks Enters f k (session.Authenticating r i) f session.Ended
fails Asks Enters f k r i = Over (smaller-same f) (λ n q e. absurd (cc)) refl

proved-enters : (f : Fabrics) (k : ℕ) (r : Request) (i : ℕ) (is_enabled : Bool) (x : Result (Unit {0}) Answer)
    → fits_at (slice_get f.controllers i) r is_enabled ≡ Ok tt
    → Comes Never (ByProof (session.Authenticating r i)) f k (session.Authenticating r i)
    (entered f k r i session.Ended success x)
proved-enters f k r i is_enabled (Ok u) fits = Enters_queue r i is_enabled refl refl fits (inr refl) refl
proved-enters f k r i is_enabled (Err a) fits = fails _ _ f k r i

proved-if : (f : Fabrics) (k : ℕ) (r : Request) (i : ℕ) (is_enabled : Bool) (created : Status)
    (x : Result (Unit {0}) Answer) → fits_at (slice_get f.controllers i) r is_enabled ≡ x
    → Comes Never (ByProof (session.Authenticating r i)) f k (session.Authenticating r i)
    (authenticated_if f k r i created x)
proved-if f k r i is_enabled created (Ok u) h = proved-enters f k r i is_enabled (creation r created) h
proved-if f k r i is_enabled created (Err a) h = fails _ _ f k r i

pub authenticate-changes : (f : Fabrics) (s : Session) (k : ℕ) (is_enabled : Bool) (created : Status)
    → Comes Never (ByProof s) f k s (authenticated f s k is_enabled created)
authenticate-changes f session.NotConnected k is_enabled created = stays _ _ f k _
authenticate-changes f (session.Authenticating r i) k is_enabled created =
    proved-if f k r i is_enabled created (fits_at (slice_get f.controllers i) r is_enabled) refl
authenticate-changes f (session.Queue i q) k is_enabled created = stays _ _ f k _
authenticate-changes f session.Discovery k is_enabled created = stays _ _ f k _
authenticate-changes f session.Ended k is_enabled created = stays _ _ f k _

-- the end of a connection
smaller-without : (f : Fabrics) (s : Session) → Smaller f (without f s)
smaller-without f (session.Queue i q) = elim (q == 0) as (λ b.
    Smaller f (cond b (ended f i) (without_queue_at f i q))) [
      | true ↦ smaller-ended f i
      | false ↦ smaller-queue f i q
    ]
smaller-without f session.NotConnected = smaller-same f
smaller-without f (session.Authenticating r i) = smaller-same f
smaller-without f session.Discovery = smaller-same f
smaller-without f session.Ended = smaller-same f

without-gone : (f : Fabrics) (i q : ℕ) → connection_of (without f (session.Queue i q)) i q ≡ None
without-gone f i q = elim (q == 0) as (λ b. connection_of (cond b (ended f i) (without_queue_at f i q)) i q ≡ None) [
  | true ↦ ended-gone f i q
  | false ↦ queue-gone f i q
]

is-not : (k : ℕ) (o : Option ℕ) → is_connection k o ≡ false → o ≡ Some k → ⊥
is-not k None h e = none-some _ e
is-not k (Some other) h e = eqb-false other k h (same_Some _ _ e)

closed-gone : (f : Fabrics) (k i q : ℕ) → connection_of (closed f (session.Queue i q) k) i q ≡ Some k → ⊥
closed-gone f k i q = elim (is_connection k (connection_of f i q)) as (λ b. is_connection k (connection_of f i q) ≡ b
    → connection_of (without f (cond b (session.Queue i q) session.Ended)) i q ≡ Some k → ⊥) [
      | true ↦ λ is e. none-some _ (sym (without-gone f i q) ∙ e)
      | false ↦ λ is e. is-not k (connection_of f i q) is e
    ] refl

pub close-changes : (f : Fabrics) (s : Session) (k : ℕ) → Change Never NeverAt f k s (closed f s k) session.Ended
close-changes f s k = Over (smaller-without f (live f s k))
    (λ i q is e. closed-gone f k i q (subst (λ s. connection_of (closed f s k) i q ≡ Some k) is e)) refl

-- the other commands
smaller-reset : (f : Fabrics) (s : Session) (e : List ℕ) → Smaller f (reset_by f s e)
smaller-reset f (session.Queue i q) e = elim (enables e) as (λ b. Smaller f (cond b f (without_io_queues_at f i))) [
  | true ↦ smaller-same f
  | false ↦ smaller-io f i
]
smaller-reset f session.NotConnected e = smaller-same f
smaller-reset f (session.Authenticating r i) e = smaller-same f
smaller-reset f session.Discovery e = smaller-same f
smaller-reset f session.Ended e = smaller-same f

executes : (f : Fabrics) (s : Session) (k : ℕ) (e : List ℕ) (x : Result Command Answer)
    → Change Never NeverAt f k s (fabrics_by f s k e x) (session_by s x)
executes f s k e (Ok command.Authenticate) = stays _ _ f k s
executes f s k e (Ok command.Disconnect) = close-changes f s k
executes f s k e (Ok command.GetProperty) = stays _ _ f k s
executes f s k e (Ok command.SetProperty) = Stays (smaller-reset f (live f s k) e) refl
executes f s k e (Err a) = stays _ _ f k s

pub execute-changes : (f : Fabrics) (s : Session) (k : ℕ) (e : List ℕ)
    → Change Never NeverAt f k s (fabrics_after f s k e) (session_after f s k e)
execute-changes f s k e = executes f s k e (command_of (live f s k) e)
