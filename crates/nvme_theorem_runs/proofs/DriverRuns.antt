-- For `drivers.rt`: the example runs of drivers, computed.
use Rattle.std.proofs.Common.{
  Bool,
  None,
  Option,
  Some,
  [],
  ap,
  arith,
  false,
  inl,
  refl,
  subst,
  sym,
  true,
  ◌∙◌,
  ◌∷◌,
  ◌≡◌,
}
use Rattle.std.proofs.lemmas.Bool.{false≢true}
use Rattle.nvme_spec.specs.Configuration.{script_capacity}
use Rattle.nvme_spec.specs.Layout.{IsLaidOut}
use Rattle.nvme_spec.specs.Statuses.{successful_completion}
use Rattle.nvme_machine.specs.declared.seen.Executed.TheVariants.{CqFull}
use Rattle.nvme_event.specs.declared.event.FleetEvent.TheVariants.{Execute, Fetch, Place, Poll, PowerCycle, Ring}
use Rattle.nvme_mailbox.specs.Answered.{Happens, IsClear, Places}
use Rattle.nvme_mailbox.specs.Apart.{HasMailbox}
use Rattle.nvme_mailbox.specs.Deliveries.{plain}
use Rattle.nvme_mailbox.specs.FaultFree.{fault_free_replies, fault_free_step}
use Rattle.nvme_mailbox.specs.Fleets.{Fleet, Host, Raw, Run, Step, WithDriver, host_at}
use Rattle.nvme_mailbox.specs.Mailboxes.{Mailbox, new_mailbox}
use Rattle.nvme_mailbox.specs.Regular.{IsRegular}
use Rattle.nvme_mailbox.specs.SinceUp.{HasDriver}
use Rattle.nvme_mailbox.specs.Tickets.{
  HoldsEachOnce,
  aborted,
  along,
  done,
  executed,
  given,
  held_tickets,
  posted_answers,
  times,
  waiting,
}
use Rattle.nvme_mailbox.proofs.Apart.{hosts_are_apart}
use Rattle.nvme_mailbox.proofs.PowerCycles.{power_aborts}
use Rattle.nvme_mailbox.proofs.Regular.{opening_is_regular}
use Rattle.nvme_mailbox.proofs.SinceUp.{done_since_it_came_up}
use Rattle.nvme_mailbox.proofs.TicketCounts.{each_ticket_goes_once}
use Rattle.nvme_mailbox.proofs.TicketNames.{done_answers_its_request}
use Rattle.nvme_mailbox.proofs.Unseen.{unseen_never_comes}
use Rattle.nvme_theorem_runs.specs.Cluster.{blocks, cluster, held_by_a1, pair, with_b2}
use Rattle.nvme_theorem_runs.specs.Drivers.{
  AbortingAtWork,
  AbortingByAnyEvent,
  AnswersAtWork,
  AnswersOfAnyMailbox,
  ApartAtWork,
  ApartOfAnyHost,
  SinceAnyEvent,
  SinceAnyMoment,
  SinceUpAtWork,
  TicketsAtWork,
  TicketsOfAnyMailbox,
  UnseenAtWork,
  UnseenOfAnyHost,
  abort_asked,
  aborting,
  after_tickets,
  answered,
  came_up,
  coming_up,
  done_reply,
  half_raw,
  is_up,
  its_item,
  its_reply,
  marks_at,
  opened,
  start,
  three_held,
  three_requests,
  two_tickets,
  until_answer,
}
use Rattle.nvme_theorem_runs.specs.Fleets.{read_asked, up}
use Rattle.nvme_theorem_runs.proofs.FleetComputing.{computed_run, duo-regular, left-regular, next-regular, steps}
use Rattle.nvme_theorem_runs.proofs.FleetUnfolding.{fleet_computing}
use Rattle.nvme_theorem_runs.proofs.Laying.{fits, laid}
use Rattle.nvme_theorem_runs.proofs.Unfolding.{computing}
use Rattle.nvme_event.specs.declared.seen.FleetSeen.TheVariants as seen
use Rattle.nvme_spec.specs.Statuses as status

regular : IsRegular start
regular = duo-regular (with_b2 1)

start-mailbox : HasMailbox start 2 up
unfolding fleet_computing
start-mailbox = refl

-- Independent hosts.

apart-facts : (host_at (fault_free_step start (Place 1 abort_asked)).fleet 2 ≡ Some (WithDriver up))
    × (marks_at (host_at aborting 2) ≡ false ∷ [])
    × (marks_at (host_at (fault_free_step aborting (Execute 1 0)).fleet 2) ≡ true ∷ [])
unfolding computing fleet_computing
apart-facts = (refl, refl, refl)

pub apart_at_work : ApartAtWork
apart_at_work =
    let next = fault_free_step start (Place 1 abort_asked) in
    record {
      mailbox = start-mailbox;
      placed = apart-facts.0;
      holds = hosts_are_apart true start next.fleet (Place 1 abort_asked) next.reply
          (steps start (Place 1 abort_asked) regular.laid) 2 up start-mailbox;
      before = apart-facts.1;
      after = apart-facts.2;
    }

raw-laid : IsLaidOut half_raw.site.world half_raw.site.device.content
unfolding half_raw cluster
raw-laid = laid (held_by_a1 1) [] []

has_driver : Option Host → Bool
has_driver None = false
has_driver (Some (WithDriver m)) = true
has_driver (Some (Raw c)) = false

raw-facts : (has_driver (host_at (fault_free_step half_raw (Fetch 1 1)).fleet 2) ≡ false)
    × ((fault_free_step half_raw (Execute 2 0)).reply ≡ plain (seen.Executed CqFull))
unfolding computing fleet_computing half_raw has_driver
raw-facts = (refl, refl)

pub apart_needs_a_driver : ApartOfAnyHost → ⊥
unfolding has_driver
apart_needs_a_driver law =
    let next = fault_free_step half_raw (Fetch 1 1) in
    let moves = law true half_raw next.fleet (Fetch 1 1) next.reply (steps half_raw (Fetch 1 1) raw-laid) 2 up in
    false≢true (sym raw-facts.0 ∙ ap has_driver moves.host)

-- Tickets.

abbrev tickets-run : Run true start two_tickets (fault_free_replies start two_tickets) after_tickets
tickets-run = computed_run start two_tickets regular

up-once : HoldsEachOnce up
unfolding waiting posted_answers
up-once t = omega arith

tickets-last : (m : Mailbox) × HasMailbox after_tickets 2 m
unfolding computing fleet_computing two_tickets
tickets-last = (_, refl)

tickets-facts : (along (given 2) true start two_tickets (fault_free_replies start two_tickets) after_tickets
    tickets-run ≡ 9 ∷ 10 ∷ [])
    × (along (executed 2) true start two_tickets (fault_free_replies start two_tickets) after_tickets tickets-run ≡ 9
    ∷ [])
    × (along (done 2) true start two_tickets (fault_free_replies start two_tickets) after_tickets tickets-run ≡ 9 ∷ [])
    × (along (aborted 2) true start two_tickets (fault_free_replies start two_tickets) after_tickets tickets-run ≡ 10
    ∷ [])
unfolding computing fleet_computing two_tickets computed_run
tickets-facts = (refl, refl, refl, refl)

pub tickets_at_work : TicketsAtWork
tickets_at_work =
    let n = tickets-last in
    record {
      once = up-once;
      mailbox = start-mailbox;
      run = tickets-run;
      last = n.0;
      its = n.1;
      gives = tickets-facts.0;
      executes = tickets-facts.1;
      does = tickets-facts.2;
      aborts = tickets-facts.3;
      holds = each_ticket_goes_once true start after_tickets two_tickets (fault_free_replies start two_tickets)
          tickets-run 2 up n.0 start-mailbox n.1 up-once;
    }

abbrev twice_held : Mailbox
twice_held = record up { aborted = 1 ∷ 1 ∷ [] }

unfoldable doubled : Fleet
doubled = record start { hosts = WithDriver up ∷ WithDriver twice_held ∷ [] }

doubled-facts : HasMailbox doubled 2 twice_held × (times 1 (held_tickets twice_held) ≡ 2)
unfolding computing fleet_computing doubled
doubled-facts = (refl, refl)

pub tickets_need_a_mailbox : TicketsOfAnyMailbox → ⊥
tickets_need_a_mailbox law =
    let once = law true doubled doubled [] [] refl 2 twice_held twice_held doubled-facts.0 doubled-facts.0 1 in
    let most = once.handed_up_once in
    absurd (omega (arith, most, doubled-facts.1))

-- Answers.

abbrev answers-run : Run true start until_answer (fault_free_replies start until_answer) answered
answers-run = computed_run start until_answer regular

up-clear : IsClear up
unfolding waiting posted_answers
up-clear = record { requests = refl; posted = refl }

its-placed : Happens (Places 2 its_item) true start until_answer (fault_free_replies start until_answer) answered
    answers-run
unfolding computing fleet_computing until_answer computed_run
its-placed = inl (record { request = read_asked 2; event_is = refl; asked = refl; gives = refl })

its-poll : (fault_free_step answered (Poll 2)).reply ≡ its_reply
unfolding computing fleet_computing until_answer
its-poll = refl

its-step : Step true answered (Poll 2) its_reply (fault_free_step answered (Poll 2)).fleet
its-step = subst (λ reply. Step true answered (Poll 2) reply (fault_free_step answered (Poll 2)).fleet) its-poll
    (steps answered (Poll 2) (left-regular start until_answer regular).laid)

pub answers_at_work : AnswersAtWork
answers_at_work = record {
  clear = up-clear;
  mailbox = start-mailbox;
  run = answers-run;
  placed = its-placed;
  polls = its-step;
  holds = done_answers_its_request true start answered (fault_free_step answered (Poll 2)).fleet until_answer
      (fault_free_replies start until_answer) answers-run
      2 up start-mailbox up-clear its_item its-placed its_reply its-step 0 512 status.successful_completion refl;
}

-- from the moment after the execution nothing was placed
its-mailbox : (m : Mailbox) × HasMailbox answered 2 m
unfolding computing fleet_computing until_answer
its-mailbox = (_, refl)

pub answers_need_a_clear_mailbox : AnswersOfAnyMailbox → ⊥
answers_need_a_clear_mailbox law =
    let m = its-mailbox in
    let was = law true answered answered (fault_free_step answered (Poll 2)).fleet [] [] refl 2 m.0 m.1 its_reply
    its-step 9 0 512 status.successful_completion refl in
    was.happened

-- Faults that never come.

pub unseen_at_work : UnseenAtWork
unseen_at_work = record {
  mailbox = start-mailbox;
  run = tickets-run;
  holds = unseen_never_comes true start after_tickets two_tickets (fault_free_replies start two_tickets) tickets-run 2
      up start-mailbox;
  raw = raw-facts.1;
}

pub unseen_needs_a_driver : UnseenOfAnyHost → ⊥
unseen_needs_a_driver law =
    let next = fault_free_step half_raw (Execute 2 0) in
    let step = subst (λ reply. Step true half_raw (Execute 2 0) reply next.fleet) raw-facts.1
    (steps half_raw (Execute 2 0) raw-laid) in
    law true half_raw next.fleet (Execute 2 0 ∷ []) (plain (seen.Executed CqFull) ∷ []) (next.fleet, step, refl) 2
    (inl (record { host = refl; seen = tt }))

-- Power.

held-facts : (m : Mailbox) × (n : Mailbox) × HasMailbox three_held 2 m × (m.up ≡ true)
    × HasMailbox (fault_free_step three_held PowerCycle).fleet 2 n
    × (n.aborted ≡ 9 ∷ 10 ∷ 11 ∷ [])
unfolding computing fleet_computing three_requests
held-facts = (_, _, refl, refl, refl, refl)

pub aborting_at_work : AbortingAtWork
aborting_at_work =
    let f = held-facts in
    let next = fault_free_step three_held PowerCycle in
    record {
      old = f.0;
      before = f.2;
      up = f.3;
      new = f.1;
      after = f.4;
      aborted = f.5;
      holds = power_aborts true three_held next.fleet next.reply
          (steps three_held PowerCycle (left-regular start three_requests regular).laid) 2 f.0 f.2;
    }

still-up : is_up (host_at (fault_free_step start (Fetch 1 1)).fleet 2) ≡ Some true
unfolding computing fleet_computing
still-up = refl

pub aborting_needs_power : AbortingByAnyEvent → ⊥
aborting_needs_power law =
    let next = fault_free_step start (Fetch 1 1) in
    let r = law true start next.fleet (Fetch 1 1) next.reply (steps start (Fetch 1 1) regular.laid) 2 up start-mailbox
    in
    let both : Some r.0.up ≡ Some true = sym (ap is_up r.1) ∙ still-up in
    let down : r.0.up ≡ false = r.2.down in
    absurd (cc)

-- Since a driver came up.

opened-regular : IsRegular opened
opened-regular = opening_is_regular pair blocks (script_capacity 2) refl fits

abbrev up-run : Run true opened coming_up (fault_free_replies opened coming_up) came_up
up-run = computed_run opened coming_up opened-regular

opened-facts : HasMailbox opened 1 (new_mailbox 1) × HasDriver pair 0
unfolding fleet_computing
opened-facts = (refl, (_, refl, refl))

up-poll : ((fault_free_step came_up (Poll 1)).reply ≡ done_reply 1) × ((m : Mailbox) × HasMailbox came_up 1 m)
unfolding computing fleet_computing coming_up
up-poll = (refl, (_, refl))

up-step : Step true came_up (Poll 1) (done_reply 1) (fault_free_step came_up (Poll 1)).fleet
up-step = subst (λ reply. Step true came_up (Poll 1) reply (fault_free_step came_up (Poll 1)).fleet) up-poll.0
    (steps came_up (Poll 1) (left-regular opened coming_up opened-regular).laid)

pub since_up_at_work : SinceUpAtWork
since_up_at_work =
    let since = done_since_it_came_up true pair blocks opened came_up (fault_free_step came_up (Poll 1)).fleet [] []
    refl coming_up (fault_free_replies opened coming_up) up-run
    0 opened-facts.1 (new_mailbox 1) opened-facts.0 refl (done_reply 1) up-step 1 0 0 status.successful_completion
    refl in
    record {
      driver = opened-facts.1;
      down = opened-facts.0;
      run = up-run;
      polls = up-step;
      holds = since.1;
    }

pub since_up_needs_a_driver_down : SinceAnyMoment → ⊥
since_up_needs_a_driver_down law =
    let m = up-poll.1 in
    let was = law true pair blocks came_up came_up (fault_free_step came_up (Poll 1)).fleet coming_up
    (fault_free_replies opened coming_up) up-run [] [] refl
    0 opened-facts.1 m.0 m.1 (done_reply 1) up-step 1 0 0 status.successful_completion refl in
    was.happened

rung-poll : (fault_free_step (fault_free_step came_up (Ring 1)).fleet (Poll 1)).reply ≡ done_reply 1
unfolding computing fleet_computing coming_up
rung-poll = refl

pub since_power_needs_power : SinceAnyEvent → ⊥
since_power_needs_power law =
    let m = up-poll.1 in
    let next = fault_free_step came_up (Ring 1) in
    let on = (left-regular opened coming_up opened-regular).laid in
    let was = law true came_up next.fleet next.fleet (fault_free_step next.fleet (Poll 1)).fleet next.reply (Ring 1)
    (steps came_up (Ring 1) on) [] [] refl 1 m.0 m.1
    (done_reply 1) rung-step 1 0 0 status.successful_completion refl in
    was.happened
  where
    rung-step : Step true (fault_free_step came_up (Ring 1)).fleet (Poll 1) (done_reply 1)
        (fault_free_step (fault_free_step came_up (Ring 1)).fleet (Poll 1)).fleet
    rung-step = subst (λ reply. Step true (fault_free_step came_up (Ring 1)).fleet (Poll 1) reply
        (fault_free_step (fault_free_step came_up (Ring 1)).fleet (Poll 1)).fleet) rung-poll
        (steps (fault_free_step came_up (Ring 1)).fleet (Poll 1)
        (next-regular came_up (Ring 1) (left-regular opened coming_up opened-regular)).laid)
