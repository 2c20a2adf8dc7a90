-- What C holds loses nothing.
use Rattle.std.proofs.Common.{◌≡◌, refl, ap, Option, Some, None}
use Rattle.std.proofs.lemmas.Nat.{div-add-mod'}
use Rattle.nvme_connection.specs.declared.taken.Taken.{Taken as Bytes}
use Rattle.nvme_fabrics.specs.declared.request.Request.{Request}
use Rattle.nvme_fabrics.specs.declared.session.Session.TheVariants as session
use Rattle.nvme_pdu.specs.declared.fatal.Fatal.{Fatal}
use Rattle.nvme_tcp_library.specs.Connections.{taken_by}
use Rattle.nvme_tcp_library.specs.Laws.{SessionsAreReadBack, TakingsDiffer}
use Rattle.nvme_tcp_library.specs.Sessions.{request_of, request_seen}

request-back : (r : Request) → request_of (request_seen r) ≡ r
request-back r = λ i. record {
  host_id = div-add-mod' r.host_id 18446744073709551616 i;
  host_nqn = r.host_nqn;
  cntlid = r.cntlid;
  qid = r.qid;
  entries = r.entries;
}

pub sessions_are_read_back : SessionsAreReadBack
sessions_are_read_back connection session.NotConnected = refl
sessions_are_read_back connection (session.Authenticating r index) =
    ap (λ x. session.Authenticating x index) (request-back r)
sessions_are_read_back connection (session.Queue index qid) = refl
sessions_are_read_back connection session.Discovery = refl
sessions_are_read_back connection session.Ended = refl

breaches : (a b : Bytes) (one other : Option Fatal) → taken_by a one ≡ taken_by b other → one ≡ other
breaches a b None None e = refl
breaches a b None (Some g) e = absurd (cc (ap (λ t. t.what) e))
breaches a b (Some f) None e = absurd (cc (ap (λ t. t.what) e))
breaches a b (Some f) (Some g) e = λ i. Some (record { status = (e i).status; field = (e i).field })

counts : (a b : Bytes) (one other : Option Fatal) → taken_by a one ≡ taken_by b other → a.count ≡ b.count
counts a b None None e = ap (λ t. t.count) e
counts a b None (Some g) e = ap (λ t. t.count) e
counts a b (Some f) None e = ap (λ t. t.count) e
counts a b (Some f) (Some g) e = ap (λ t. t.count) e

begins : (a b : Bytes) (one other : Option Fatal) → taken_by a one ≡ taken_by b other → a.data_begin ≡ b.data_begin
begins a b None None e = ap (λ t. t.data_begin) e
begins a b None (Some g) e = ap (λ t. t.data_begin) e
begins a b (Some f) None e = ap (λ t. t.data_begin) e
begins a b (Some f) (Some g) e = ap (λ t. t.data_begin) e

ends : (a b : Bytes) (one other : Option Fatal) → taken_by a one ≡ taken_by b other → a.data_end ≡ b.data_end
ends a b None None e = ap (λ t. t.data_end) e
ends a b None (Some g) e = ap (λ t. t.data_end) e
ends a b (Some f) None e = ap (λ t. t.data_end) e
ends a b (Some f) (Some g) e = ap (λ t. t.data_end) e

offsets : (a b : Bytes) (one other : Option Fatal) → taken_by a one ≡ taken_by b other → a.data_offset ≡ b.data_offset
offsets a b None None e = ap (λ t. t.data_offset) e
offsets a b None (Some g) e = ap (λ t. t.data_offset) e
offsets a b (Some f) None e = ap (λ t. t.data_offset) e
offsets a b (Some f) (Some g) e = ap (λ t. t.data_offset) e

pub takings_differ : TakingsDiffer
takings_differ a b e = λ i. record {
  count = counts a b a.breach b.breach e i;
  data_begin = begins a b a.breach b.breach e i;
  data_end = ends a b a.breach b.breach e i;
  data_offset = offsets a b a.breach b.breach e i;
  breach = breaches a b a.breach b.breach e i;
}
