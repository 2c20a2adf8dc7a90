-- Of which controller an event is, by its cause, and that the connection has named that controller's host.
use Rattle.std.proofs.Common.{
  ◌≡◌,
  inl,
  inr,
  ℕ,
  ◌+◌,
  Bool,
  List,
  ◌∷◌,
  Option,
  Some,
  Result,
  Ok,
  refl,
  sym,
  ap,
  subst,
  ◌∙◌,
}
use Rattle.nvme_spec.specs.World.{World as Access, host_of}
use Rattle.nvme_machine.specs.declared.event.Event.{Event}
use Rattle.nvme_machine.specs.Subsystems.{controller_of}
use Rattle.nvme_fabrics.specs.declared.answer.Answer.{Answer}
use Rattle.nvme_fabrics.specs.declared.request.Request.{Request}
use Rattle.nvme_fabrics.specs.declared.session.Place.{Place}
use Rattle.nvme_fabrics.specs.declared.session.Place.TheVariants as place
use Rattle.nvme_fabrics.specs.declared.session.Session.{Session}
use Rattle.nvme_fabrics.specs.declared.session.Session.TheVariants as session
use Rattle.nvme_fabrics.specs.Laws.{host_at, HasBegun}
use Rattle.nvme_fabrics.specs.Requests.{host_id_of}
use Rattle.nvme_fabrics.specs.Runs.{World, Input, world_after}
use Rattle.nvme_fabrics.specs.Sessions.{live}
use Rattle.nvme_fabrics.proofs.OwnHosts.{own-host, admitted-host, proved-host, given-hosts}
use Rattle.nvme_fabrics.proofs.RunLaws.{one-queue, is-named}
use Rattle.nvme_target.specs.Causes.{
  Commands,
  Ending,
  Connecting,
  Proving,
  Accessing,
  LosingPower,
  IsAccess,
  IsAt,
  IsOfQueue,
  WasOfQueue,
  IsOfHost,
  AreHostsOf,
}
use Rattle.nvme_target.specs.Laws.{EventsAreOfNamedHosts, CausesAreOfOneController}

-- the host of the controller that an event is of
host-there : (hosts : List (Option ℕ)) (has_keys : Bool) (inputs : List Input) (w : Access) (index host : ℕ)
    (event : Event) → AreHostsOf hosts w → host_at (world_after hosts has_keys inputs).fabrics index ≡ Some host
    → IsAt index event → host_of w (controller_of event) ≡ Some host
host-there hosts has_keys inputs w index host event same at is =
    ap (host_of w) is ∙ sym (same index) ∙ sym (given-hosts hosts has_keys inputs index) ∙ at

of-queue : (hosts : List (Option ℕ)) (has_keys : Bool) (inputs : List Input) (w : Access) (k : ℕ) (event : Event)
    → AreHostsOf hosts w → IsOfQueue (world_after hosts has_keys inputs) k event
    → IsOfHost has_keys inputs (Commands k) w event
of-queue hosts has_keys inputs w k event same q =
    let now : World = world_after hosts has_keys inputs in
    let named = is-named now.fabrics (now.sessions k) k q.index q.qid q.is in
    let queue = one-queue hosts has_keys inputs k q.index q.qid named in
    let own = own-host hosts has_keys inputs k q.index q.qid queue in record {
      host = own.0;
      is = host-there hosts has_keys inputs w q.index own.0 event same own.1.0 q.at;
      named = own.1.1;
    }

was-of-queue : (hosts : List (Option ℕ)) (has_keys : Bool) (inputs : List Input) (w : Access) (k : ℕ) (event : Event)
    → AreHostsOf hosts w → WasOfQueue hosts has_keys inputs k event → IsOfHost has_keys inputs (Ending k) w event
was-of-queue hosts has_keys inputs w k event same was =
    let found = of-queue hosts has_keys was.before w k event same was.queue in record {
      host = found.host;
      is = found.is;
      named = subst (λ some. HasBegun has_keys some k found.host) (sym was.are) (inr found.named);
    }

pub events_are_of_named_hosts : EventsAreOfNamedHosts
events_are_of_named_hosts hosts has_keys inputs (Commands k) event other w same is q =
    of-queue hosts has_keys inputs w k event same q
events_are_of_named_hosts hosts has_keys inputs (Ending k) event other w same is was =
    was-of-queue hosts has_keys inputs w k event same was
events_are_of_named_hosts hosts has_keys inputs (Connecting k e d j) event other w same is c = record {
  host = host_id_of d;
  is = host-there hosts has_keys inputs w c.index (host_id_of d) event same
      (admitted-host hosts has_keys inputs k c.index e d j c.request c.admits) c.at;
  named = (c.without_keys, refl);
}
events_are_of_named_hosts hosts has_keys inputs (Proving k is_enabled) event other w same is p =
    let own = proved-host hosts has_keys inputs k p.index is_enabled p.request p.waits p.fits in record {
      host = p.request.host_id;
      is = host-there hosts has_keys inputs w p.index p.request.host_id event same own.0 p.at;
      named = own.1;
    }
events_are_of_named_hosts hosts has_keys inputs (Accessing index) event other w same is r = absurd (cc)
events_are_of_named_hosts hosts has_keys inputs LosingPower event other w same is r = absurd (cc)

-- One controller.

one-at : (i j : ℕ) (one other : Event) → i ≡ j → IsAt i one → IsAt j other → controller_of one ≡ controller_of other
one-at i j one other same a b = a ∙ ap (λ n. n + 1) same ∙ sym b

same-queue : (s t : Session) (i j p q : ℕ) → s ≡ t → s ≡ session.Queue i p → t ≡ session.Queue j q → i ≡ j
same-queue s t i j p q same a b = cc

same-place : (x y : Request × Place) (r q : Request) (i j : ℕ) → x ≡ (r, place.Controller i)
    → y ≡ (q, place.Controller j) → x ≡ y → i ≡ j
same-place x y r q i j one other same =
    let there : place.Controller i ≡ place.Controller j =
    ap (λ (p : Request × Place). p.1) (sym one ∙ same ∙ other) in cc

same-granted : (o : Result (Request × Place) Answer) (x y : Request × Place) → o ≡ Ok x → o ≡ Ok y → x ≡ y
same-granted o x y one other = cc

same-proof : (r q : Request) (i j : ℕ) → session.Authenticating r i ≡ session.Authenticating q j → i ≡ j
same-proof r q i j h = cc

one-queues : (w v : World) (k : ℕ) (one other : Event) → w ≡ v → IsOfQueue w k one → IsOfQueue v k other
    → controller_of one ≡ controller_of other
one-queues w v k one other same a b =
    let now = ap (λ (x : World). live x.fabrics (x.sessions k) k) same in
    one-at a.index b.index one other (same-queue _ _ a.index b.index a.qid b.qid now a.is b.is) a.at b.at

accessed : (index : ℕ) (event : Event) → IsAccess index event → controller_of event ≡ index + 1
accessed index event (inl write) = ap controller_of write.2
accessed index event (inr read) = ap controller_of read.1

pub causes_are_of_one_controller : CausesAreOfOneController
causes_are_of_one_controller hosts has_keys inputs (Commands k) one other a b =
    one-queues _ _ k one other refl a b
causes_are_of_one_controller hosts has_keys inputs (Ending k) one other a b =
    let both : (a.last ∷ a.before) ≡ (b.last ∷ b.before) = sym a.are ∙ b.are in
    let before : a.before ≡ b.before = cc in
    one-queues _ _ k one other (ap (world_after hosts has_keys) before) a.queue b.queue
causes_are_of_one_controller hosts has_keys inputs (Connecting k e d j) one other a b =
    let same : a.index ≡ b.index =
    same-place _ _ a.request b.request a.index b.index refl refl (same-granted _ _ _ a.admits b.admits) in
    one-at a.index b.index one other same a.at b.at
causes_are_of_one_controller hosts has_keys inputs (Proving k is_enabled) one other a b =
    let same : a.index ≡ b.index = same-proof a.request b.request a.index b.index (sym a.waits ∙ b.waits) in
    one-at a.index b.index one other same a.at b.at
causes_are_of_one_controller hosts has_keys inputs (Accessing index) one other a b =
    accessed index one a ∙ sym (accessed index other b)
causes_are_of_one_controller hosts has_keys inputs LosingPower one other a b =
    ap controller_of a ∙ sym (ap controller_of b)
