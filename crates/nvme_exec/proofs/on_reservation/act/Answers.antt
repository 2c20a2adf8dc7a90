use Rattle.std.proofs.Common.{◌≡◌, true}
use Rattle.nvme_spec.specs.declared.command.Command.TheVariants.{
  ReservationRegister,
  ReservationAcquire,
  ReservationRelease,
}
use Rattle.nvme_exec.proofs.Settling.{settles-for, room-for}
use Rattle.nvme_exec.proofs.on_reservation.act.Goals as goal

pub prove-unreachable-requires : goal.prove-unreachable-requires
prove-unreachable-requires c =
    let room = room-for c.args.spaces.now c.requires.host.0 c.args.admission.now.host c.nsid.result
    c.reservation_mut-reservation.result.now
    c.reservation_mut-reservation.ensures.value c.requires.host.1 c.requires.few c.has_room_for-has_room.ensures.rising
    c.requires.known in
    let has : c.has_room_for-has_room.result ≡ true = c.has_room_for-has_room.ensures.room.1 room in
    let none = c.if-prove.true in
    absurd (cc)

pub returns-in-ReservationRegister : goal.returns-in-ReservationRegister
returns-in-ReservationRegister c =
    settles-for ReservationRegister _ _ _ _ _ _ _ _ _ _ c.in-ReservationRegister.is c.nsid.ensures
    c.reservation_mut-reservation.ensures.value c.register.ensures

pub returns-in-ReservationAcquire : goal.returns-in-ReservationAcquire
returns-in-ReservationAcquire c =
    settles-for ReservationAcquire _ _ _ _ _ _ _ _ _ _ c.in-ReservationAcquire.is c.nsid.ensures
    c.reservation_mut-reservation.ensures.value c.acquire.ensures

pub returns-in-ReservationRelease : goal.returns-in-ReservationRelease
returns-in-ReservationRelease c =
    settles-for ReservationRelease _ _ _ _ _ _ _ _ _ _ c.in-ReservationRelease.is c.nsid.ensures
    c.reservation_mut-reservation.ensures.value c.release.ensures
