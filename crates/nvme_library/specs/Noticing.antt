-- Reservation notifications for C.
use Rattle.std.specs.Prelude.{
  ◌≡◌,
  ℕ,
  Bool,
  true,
  false,
  ◌==◌,
  ◌&&◌,
  nat_le,
  if◌then◌else◌,
  Option,
  Some,
  None,
}
use Rattle.nvme_spec.specs.World.{World, Namespace, namespace_of, host_of, is_attached}
use Rattle.nvme_notices.specs.declared.hearing.HostView.{HostView as View}
use Rattle.nvme_notices.specs.declared.hearing.Action.{Action}
use Rattle.nvme_notices.specs.declared.hearing.Action.TheVariants as action
use Rattle.nvme_notices.specs.declared.notice.NoticeType.{NoticeType}
use Rattle.nvme_notices.specs.Hearing.{view_of, notice_for}
use Rattle.nvme_notices.specs.Keeping.{Notices, mask_of, with_mask, added}
use Rattle.nvme_library.specs.declared.noticing.HostView.{HostView}
use Rattle.nvme_library.specs.declared.noticing.Change.{Change}
use Rattle.nvme_library.specs.Holding.{Inside}

abbrev pub without_view : ℕ → HostView
without_view what = record { what = what; rtype = 0; is_registrant = false }

abbrev pub seen_as : HostView → View
seen_as s = record { rtype = s.rtype; is_registrant = s.is_registrant }

-- how the reservation of a namespace concerns a host
abbrev pub view_in : Namespace → ℕ → HostView
view_in n host = record {
  what = 0;
  rtype = (view_of n.reservation host).rtype;
  is_registrant = (view_of n.reservation host).is_registrant;
}

abbrev pub view_if : Option Namespace → ℕ → HostView
view_if None host = without_view 31
view_if (Some n) host = view_in n host

abbrev pub view_for : World → ℕ → Option ℕ → HostView
view_for w nsid None = without_view 17
view_for w nsid (Some host) = view_if (namespace_of w nsid) host

abbrev pub view_at : World → ℕ → ℕ → HostView
view_at w nsid cntlid = view_for w nsid (host_of w cntlid)

abbrev pub view_seen : ℕ → ℕ → Option Inside → HostView
view_seen nsid cntlid None = without_view 16
view_seen nsid cntlid (Some s) = view_at s.state.world nsid cntlid

abbrev pub action_number : ℕ → Option Action
action_number number =
    if number == 0 then Some action.Register
    else (if number == 1 then Some action.Acquire
    else (if number == 2 then Some action.Preempt
    else (if number == 3 then Some action.Release
    else (if number == 4 then Some action.Clear else None))))

-- namespaces have the identifiers 1 to 8
abbrev pub is_nsid : ℕ → Bool
is_nsid nsid = nat_le 1 nsid && nat_le nsid 8

-- two controllers that exist belong to one host
abbrev pub are_of_one_host : Option ℕ → Option ℕ → Bool
are_of_one_host (Some host) (Some issuer) = host == issuer
are_of_one_host host issuer = false

abbrev pub added_if : Notices → ℕ → Option NoticeType → Notices
added_if n nsid None = n
added_if n nsid (Some kind) = added n nsid kind

-- the notices of a controller after a command
abbrev pub with_notice : World → ℕ → Change → Action → HostView → Notices → Notices
with_notice w cntlid change action before n =
    if is_attached w cntlid change.nsid
    then added_if n change.nsid
    (notice_for action (are_of_one_host (host_of w cntlid) (host_of w change.issuer)) (seen_as before)
    (seen_as (view_at w change.nsid cntlid)))
    else n

-- the answer, and the notices of the controller
abbrev pub notified_of : World → ℕ → Change → HostView → Notices → Option Action → ℕ × Notices
notified_of w cntlid change before n None = (18, n)
notified_of w cntlid change before n (Some action) =
    if is_nsid change.nsid
    then (if (view_at w change.nsid cntlid).what == 0 then (0, with_notice w cntlid change action before n)
    else ((view_at w change.nsid cntlid).what, n))
    else (31, n)

abbrev pub notified : World → ℕ → Change → HostView → Notices → ℕ × Notices
notified w cntlid change before n = notified_of w cntlid change before n (action_number change.action)

abbrev pub Notifies : ℕ → Change → HostView → Option Inside → Notices → ℕ → Notices → Type 0
Notifies cntlid change before None old answer new = (answer ≡ 16) × (new ≡ old)
Notifies cntlid change before (Some s) old answer new =
    (answer ≡ (notified s.state.world cntlid change before old).0)
    × (new ≡ (notified s.state.world cntlid change before old).1)

abbrev pub mask_seen : Notices → ℕ → ℕ
mask_seen n nsid = if is_nsid nsid then mask_of n nsid else 0

abbrev pub mask_set : Notices → ℕ → ℕ → Notices
mask_set n nsid dw11 = if is_nsid nsid then with_mask n nsid dw11 else n

abbrev pub number_set : ℕ → ℕ
number_set nsid = if is_nsid nsid then 0 else 31
