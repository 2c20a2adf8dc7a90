-- Which hosts are notified of a change of a reservation (NVM Express Base Specification 2.0, "Reservation
-- Notifications", "Unregistering", "Releasing a Reservation", "Preempting a Reservation or Registration" and "Clearing
-- a Reservation").
use Rattle.std.specs.Prelude.{ℕ, Bool, not, ◌&&◌, ◌==◌, nat_le, if◌then◌else◌, Option, Some, None}
use Rattle.nvme_spec.specs.Reservation.{Reservation, is_registered}
use Rattle.nvme_spec.specs.Report.{type_of}
use Rattle.nvme_notices.specs.declared.notice.NoticeType.{NoticeType}
use Rattle.nvme_notices.specs.declared.notice.NoticeType.TheVariants.{
  RegistrationPreempted,
  ReservationReleased,
  ReservationPreempted,
}
use Rattle.nvme_notices.specs.declared.hearing.HostView.{HostView}
use Rattle.nvme_notices.specs.declared.hearing.Action.{Action}
use Rattle.nvme_notices.specs.declared.hearing.Action.TheVariants as action

-- a reservation as it concerns a host
abbrev pub view_of : Reservation → ℕ → HostView
view_of r host = record { rtype = type_of r.hold; is_registrant = is_registered r.registrants host }

-- the host was registered, and no longer is
abbrev pub is_removed : HostView → HostView → Bool
is_removed before after = before.is_registrant && not after.is_registrant

-- Releasing a Reservation, Unregistering: if a reservation of another type than Write Exclusive (1) or Exclusive Access
-- (2) was released, the hosts that are registered are notified.
abbrev pub notice_of_release : HostView → HostView → Option NoticeType
notice_of_release before after =
    if nat_le 3 before.rtype && ((after.rtype == 0) && after.is_registrant) then Some ReservationReleased else None

-- Preempting a Reservation or Registration: a host that was removed is notified that its registration was preempted. If
-- the reservation type has changed, the hosts that remain registered are notified that the reservation was released.
abbrev pub notice_of_preempt : HostView → HostView → Option NoticeType
notice_of_preempt before after =
    if is_removed before after then Some RegistrationPreempted
    else (if not (before.rtype == after.rtype) && after.is_registrant then Some ReservationReleased else None)

-- Clearing a Reservation: a host that was removed is notified that the reservation was preempted.
abbrev pub notice_of_clear : HostView → HostView → Option NoticeType
notice_of_clear before after = if is_removed before after then Some ReservationPreempted else None

abbrev pub notice_of : Action → HostView → HostView → Option NoticeType
notice_of action.Register before after = notice_of_release before after
notice_of action.Acquire before after = None
notice_of action.Preempt before after = notice_of_preempt before after
notice_of action.Release before after = notice_of_release before after
notice_of action.Clear before after = notice_of_clear before after

-- the host that issued the command is not notified
abbrev pub notice_for : Action → Bool → HostView → HostView → Option NoticeType
notice_for action is_issuer before after = if is_issuer then None else notice_of action before after

-- what a host is notified of after a command of the issuer
abbrev pub heard_by : Action → ℕ → Reservation → Reservation → ℕ → Option NoticeType
heard_by action issuer before after host =
    notice_for action (host == issuer) (view_of before host) (view_of after host)
