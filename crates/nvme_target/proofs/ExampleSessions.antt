-- For `examples.rt`: what connections are there.
use Rattle.std.proofs.Common.{◌≡◌, ℕ, true, false, List, Ok, Err, refl}
use Rattle.std.specs.Prelude.{slice_get}
use Rattle.nvme_fabrics.specs.declared.session.Place.TheVariants as place
use Rattle.nvme_fabrics.specs.declared.session.Session.{Session}
use Rattle.nvme_fabrics.specs.declared.session.Session.TheVariants as session
use Rattle.nvme_fabrics.specs.Answers.{invalid_host}
use Rattle.nvme_fabrics.specs.Associations.{io_fits, fits}
use Rattle.nvme_fabrics.specs.Commands.{command_of}
use Rattle.nvme_fabrics.specs.Examples.{hosts, entry, any_of, judged, two_queues}
use Rattle.nvme_fabrics.specs.Places.{controller_of as chosen, place_of, fits_at}
use Rattle.nvme_fabrics.specs.Requests.{
  host_id_of,
  host_nqn_of,
  cntlid_of,
  text_of,
  is_name,
  request_fields,
  request_of,
}
use Rattle.nvme_fabrics.specs.Runs.{World, Input, world_after}
use Rattle.nvme_fabrics.specs.Sessions.{admitted, live}
use Rattle.nvme_target.specs.Examples.{closed, ended, asked}

abbrev pub now : List Input → World
now inputs = world_after hosts false inputs

abbrev pub with_keys : List Input → World
with_keys inputs = world_after hosts true inputs

abbrev pub lives : World → ℕ → Session
lives w k = live w.fabrics (w.sessions k) k

pub live-8 : lives (now two_queues) 8 ≡ session.Queue 0 1
unfolding host_id_of host_nqn_of cntlid_of text_of is_name request_of io_fits fits chosen place_of command_of
live-8 = refl

pub queue-7 : (now two_queues).sessions 7 ≡ session.Queue 0 0
unfolding host_id_of host_nqn_of cntlid_of text_of is_name request_of io_fits fits chosen place_of command_of
queue-7 = refl

pub live-9 : lives (now two_queues) 9 ≡ session.NotConnected
unfolding host_id_of host_nqn_of cntlid_of text_of is_name request_of io_fits fits chosen place_of command_of
live-9 = refl

pub closed-8 : lives (now closed) 8 ≡ session.Ended
unfolding host_id_of host_nqn_of cntlid_of text_of is_name request_of io_fits fits chosen place_of command_of
closed-8 = refl

pub ended-8 : lives (now ended) 8 ≡ session.Ended
unfolding host_id_of host_nqn_of cntlid_of text_of is_name request_of io_fits fits chosen place_of command_of
ended-8 = refl

pub granted-2 : admitted (now two_queues).fabrics ((now two_queues).sessions 9) (entry 0 31) (any_of 0xb2) judged
    ≡ Ok (request_fields (entry 0 31) (any_of 0xb2), place.Controller 1)
unfolding host_id_of host_nqn_of cntlid_of text_of is_name request_of io_fits fits chosen place_of command_of
granted-2 = refl

pub refused-3 : admitted (now two_queues).fabrics ((now two_queues).sessions 9) (entry 0 31) (any_of 0xc3) judged
    ≡ Err invalid_host
unfolding host_id_of host_nqn_of cntlid_of text_of is_name request_of io_fits fits chosen place_of command_of
refused-3 = refl

pub waits-7 : (with_keys asked).sessions 7 ≡ session.Authenticating (request_fields (entry 0 31) (any_of 0xa1)) 0
unfolding host_id_of host_nqn_of cntlid_of text_of is_name request_of io_fits fits chosen place_of command_of
waits-7 = refl

pub waits-8 : (with_keys asked).sessions 8 ≡ session.NotConnected
unfolding host_id_of host_nqn_of cntlid_of text_of is_name request_of io_fits fits chosen place_of command_of
waits-8 = refl

pub fits-7 : fits_at (slice_get (with_keys asked).fabrics.controllers 0) (request_fields (entry 0 31) (any_of 0xa1))
    true ≡ Ok tt
unfolding host_id_of host_nqn_of cntlid_of text_of is_name request_of io_fits fits chosen place_of command_of
fits-7 = refl
