-- For `wire.rt`: the example run of fencing over the wire, computed.
use Rattle.std.proofs.Common.{
  ◌≡◌,
  inl,
  inr,
  ℕ,
  ◌+◌,
  true,
  false,
  None,
  Some,
  [],
  ◌∷◌,
  refl,
  sym,
  subst,
  ◌∙◌,
  arith,
}
use Rattle.std.proofs.lemmas.Option.{none-some}
use Rattle.nvme_spec.specs.Configuration.{capacity, config_fault, empty_configuration}
use Rattle.nvme_spec.specs.World.{World as Access, host_of, opening_world}
use Rattle.nvme_machine.specs.declared.event.Event.TheVariants.{Execute, PowerCycle}
use Rattle.nvme_machine.specs.FaultFree.{fault_free_left, fault_free_seen}
use Rattle.nvme_fabrics.specs.declared.session.Session.TheVariants as session
use Rattle.nvme_fabrics.specs.Associations.{io_fits, fits}
use Rattle.nvme_fabrics.specs.Examples.{hosts, named}
use Rattle.nvme_fabrics.specs.Places.{controller_of as chosen, place_of}
use Rattle.nvme_fabrics.specs.Requests.{host_id_of, host_nqn_of, cntlid_of, text_of, is_name, request_of}
use Rattle.nvme_fabrics.specs.Runs.{World, world_after}
use Rattle.nvme_fabrics.specs.Sessions.{live}
use Rattle.nvme_target.specs.Causes.{Commands, AreHostsOf, IsOfHost, MayCause, NamesHost}
use Rattle.nvme_target.specs.Laws.{lets_write}
use Rattle.nvme_target.proofs.Openings.{opening_has_its_hosts}
use Rattle.nvme_target.proofs.Wire.{fencing_holds_over_the_wire}
use Rattle.nvme_theorem_runs.specs.Cluster.{pair, cluster}
use Rattle.nvme_theorem_runs.specs.EachEvent.{all_events, both_write, front}
use Rattle.nvme_theorem_runs.specs.Wire.{four_queues, WireAtWork, WireOfAnyController, WireOfAnyHosts}
use Rattle.nvme_theorem_runs.proofs.EachEventRuns.{now_of, the_cut}
use Rattle.nvme_theorem_runs.proofs.Unfolding.{computing}

abbrev now : World
now = world_after hosts false four_queues

live-10 : live now.fabrics (now.sessions 10) 10 ≡ session.Queue 1 1
unfolding host_id_of host_nqn_of cntlid_of text_of is_name request_of io_fits fits chosen place_of
live-10 = refl

live-8 : live now.fabrics (now.sessions 8) 8 ≡ session.Queue 0 1
unfolding host_id_of host_nqn_of cntlid_of text_of is_name request_of io_fits fits chosen place_of
live-8 = refl

accepted : config_fault pair (capacity 1 2) ≡ None
unfolding config_fault
accepted = refl

opened-alike : (k : ℕ) → host_of both_write.world k ≡ host_of (opening_world pair) k
unfolding cluster host_of opening_world
opened-alike k = refl

both-hosts : AreHostsOf hosts both_write.world
both-hosts index = opening_has_its_hosts pair (capacity 1 2) 14 accepted index ∙ sym (opened-alike (index + 1))

host-b2 : host_id_of (named 0xb2 2 0x6e) ≡ 0xb2
unfolding host_id_of
host-b2 = refl

permissions : (lets_write now_of.world 0xb2 1 ≡ false) × (lets_write now_of.world 0xa1 1 ≡ true)
unfolding computing
permissions = (refl, refl)

-- of controller 2 and of controller 1
hosts-are : (host_of now_of.world 2 ≡ Some 0xb2) × (host_of both_write.world 1 ≡ Some 0xa1)
unfolding computing host_of
hosts-are = (refl, refl)

abbrev no_world : Access
no_world = opening_world empty_configuration

nobody : host_of no_world 2 ≡ None
unfolding host_of opening_world
nobody = refl

may-10 : MayCause hosts false four_queues (Commands 10) (Execute 2 0)
may-10 = record { index = 1; qid = 1; is = live-10; at = refl }

-- connection 10 has named host b2h, and no other one
only-b2 : (host : ℕ) → NamesHost false four_queues (Commands 10) host → 0xb2 ≡ host
only-b2 host (inl h) = sym host-b2 ∙ h.1.1
only-b2 host (inr (inl h)) = let other : 9 ≡ 10 = h.1.0 in omega (arith, other)
only-b2 host (inr (inr (inl h))) = let other : 8 ≡ 10 = h.1.0 in omega (arith, other)
only-b2 host (inr (inr (inr (inl h)))) = let other : 7 ≡ 10 = h.1.0 in omega (arith, other)
only-b2 host (inr (inr (inr (inr h)))) = absurd h

-- the host that the theorem finds is that of controller 2
fenced-of : (of : IsOfHost false four_queues (Commands 10) now_of.world (Execute 2 0))
    → lets_write now_of.world of.host 1 ≡ false
fenced-of of = subst (λ host. lets_write now_of.world host 1 ≡ false) (only-b2 of.host of.named) permissions.0

pub wire_at_work : WireAtWork
wire_at_work =
    let found = fencing_holds_over_the_wire hosts false four_queues (Commands 10) (Execute 2 0) 10 1 true both_write
    (fault_free_left both_write all_events) front (PowerCycle ∷ []) (fault_free_seen both_write all_events) _
    both-hosts the_cut refl may-10 in
    record {
      reached = the_cut;
      configured = both-hosts;
      may = may-10;
      of = record { host = 0xb2; is = hosts-are.0; named = inl (refl, (refl, host-b2)) };
      host = refl;
      fenced = permissions.0;
      others = record { index = 0; qid = 1; is = live-8; at = refl };
      permitted = permissions.1;
      holds = found.1 (fenced-of found.0);
    }

same-host : (a b : ℕ) → Some a ≡ Some b → a ≡ b
same-host a b h = cc

pub wire_needs_the_controller : WireOfAnyController → ⊥
wire_needs_the_controller law =
    let of = law hosts false four_queues (Commands 10) (Execute 1 0) 10 both_write.world both-hosts refl in
    let own : 0xa1 ≡ of.host = same-host 0xa1 of.host (sym hosts-are.1 ∙ of.is) in
    let named : 0xb2 ≡ of.host = only-b2 of.host of.named in omega (arith, own, named)

pub wire_needs_the_hosts : WireOfAnyHosts → ⊥
wire_needs_the_hosts law =
    let of = law hosts false four_queues (Commands 10) (Execute 2 0) 10 no_world refl may-10 in
    none-some of.host (sym nobody ∙ of.is)
