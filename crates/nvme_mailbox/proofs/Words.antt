-- The names that most proofs of this crate use, each passed on from where it is defined.
pub use Rattle.std.proofs.Common.{
  Bool,
  Err,
  List,
  None,
  Ok,
  Option,
  Some,
  [],
  ap,
  arith,
  cond,
  drop,
  false,
  filter,
  find,
  if◌then◌else◌,
  inl,
  inr,
  length,
  length-append,
  length-drop,
  map,
  nat_le,
  nat_lt,
  not,
  option_map,
  refl,
  replicate,
  slice_get,
  slice_set,
  subst,
  suc,
  sym,
  take,
  true,
  zero,
  ℕ,
  ◌%◌,
  ◌&&◌,
  ◌*◌,
  ◌++◌,
  ◌+◌,
  ◌-◌,
  ◌/◌,
  ◌<◌,
  ◌==◌,
  ◌^◌,
  ◌||◌,
  ◌∙◌,
  ◌∷◌,
  ◌≡◌,
  ◌≢◌,
  ◌≤◌,
  ◌⊎◌,
}
pub use Rattle.std.proofs.lemmas.Bool.{cases_Bool, eqb-false, eqb-true, false≢true, ne_eqb, or_parts, true≢false}
pub use Rattle.std.proofs.lemmas.Grind.{common_steps}
pub use Rattle.std.proofs.lemmas.List.{length-map, length-take-le}
pub use Rattle.std.proofs.lemmas.Option.{none-some, same_Some, slice_get-map}
pub use Rattle.std.specs.List.{AllByRecursion, list_any, remove}
unfoldable pub use Rattle.nvme_wire.specs.Submission.{cdw12, nsid, opcode, submission_entry}
pub use Rattle.nvme_wire.specs.declared.status.Status.{Status}
pub use Rattle.nvme_spec.proofs.Judgements.{first_failing-append}
pub use Rattle.nvme_spec.proofs.Namespaces.{IsReserved, is-reserved, others-reserved}
pub use Rattle.nvme_spec.proofs.Passing.{HasPassed, passes, planned}
pub use Rattle.nvme_spec.proofs.Power.{cycle_keeps_places, cycled-reservation-at}
pub use Rattle.nvme_spec.proofs.Registrants.{all-map}
pub use Rattle.nvme_spec.specs.Blocks.{Device}
pub use Rattle.nvme_spec.specs.Bytes.{with_bytes}
pub use Rattle.nvme_spec.specs.Commands.{data_length_of, is_one_of, plan_of, readers, reserving, writers}
unfoldable pub use Rattle.nvme_spec.specs.Commands.{action, block_count, command_of, cptpl, iekey, rtype}
pub use Rattle.nvme_spec.specs.Configuration.{Configuration}
unfoldable pub use Rattle.nvme_spec.specs.DataRules.{pointer_rule}
pub use Rattle.nvme_spec.specs.Execution.{
  ExecutesBy,
  Performs,
  Scene,
  denial_outcome,
  medium_block,
  no_marks,
  removed_by,
  world_after,
}
pub use Rattle.nvme_spec.specs.IoData.{action_rule, current_key, key_outcome, other_key, outcome_in}
unfoldable pub use Rattle.nvme_spec.specs.IoData.{action_outcome, reservation_outcome}
pub use Rattle.nvme_spec.specs.IoRules.{access_rules, conclusion, permits_group, protection_rule, range_rule}
unfoldable pub use Rattle.nvme_spec.specs.IoRules.{reservation_rule}
pub use Rattle.nvme_spec.specs.Layout.{IsLaidOut, extent_of, may_read}
unfoldable pub use Rattle.nvme_spec.specs.Layout.{may_write, reservation_of}
pub use Rattle.nvme_spec.specs.Limits.{most_bytes}
pub use Rattle.nvme_spec.specs.Power.{cycled_reservation, cycled_world}
pub use Rattle.nvme_spec.specs.Reservation.{
  ActionOutcome,
  Reservation,
  is_free,
  is_holder,
  is_holders_key,
  is_key_in_use,
  is_of_all,
  is_of_type,
  is_registered,
  is_registered_with,
  removed_hosts,
  unreserved,
  with_key,
}
pub use Rattle.nvme_spec.specs.Rules.{Judgement, Rule, else_by, first_failing}
unfoldable pub use Rattle.nvme_spec.specs.Rules.{judgement_by}
pub use Rattle.nvme_spec.specs.World.{Namespace, World, host_of, with_namespace, with_reservation}
unfoldable pub use Rattle.nvme_spec.specs.World.{namespace_of}
pub use Rattle.nvme_spec.specs.declared.access.Group.TheVariants.{Read, Write}
pub use Rattle.nvme_spec.specs.declared.command.AdminCommand.{AdminCommand}
pub use Rattle.nvme_spec.specs.declared.command.Command.{Command}
pub use Rattle.nvme_spec.specs.declared.command.Command.TheVariants.{
  Compare,
  ReservationAcquire,
  ReservationRegister,
  ReservationRelease,
  ReservationReport,
  WriteZeroes,
}
pub use Rattle.nvme_spec.specs.declared.config.ControllerConfig.{ControllerConfig}
pub use Rattle.nvme_spec.specs.declared.outcome.Marks.{Marks}
pub use Rattle.nvme_spec.specs.declared.outcome.Outcome.{Outcome}
pub use Rattle.nvme_spec.specs.declared.queues.QueueChange.{QueueChange}
pub use Rattle.nvme_spec.specs.declared.queues.QueueChange.TheVariants.{Keep}
pub use Rattle.nvme_spec.specs.declared.verdict.Verdict.{Verdict}
pub use Rattle.nvme_spec.specs.declared.verdict.Verdict.TheVariants.{Allowed, Denied}
pub use Rattle.nvme_machine.proofs.AdminWorlds.{
  HasSameExtents,
  HasSameReservations,
  admin-keeps,
  command-becomes,
  same-reservations,
  still,
}
pub use Rattle.nvme_machine.proofs.AllowedCalls.{all-joined}
pub use Rattle.nvme_machine.proofs.Denials.{denied-verdict, io-answer}
pub use Rattle.nvme_machine.proofs.Layouts.{answer-extents, answer-size}
pub use Rattle.nvme_machine.proofs.Secrecy.{differ-still}
pub use Rattle.nvme_machine.proofs.SecretCommands.{
  BringsItsData,
  Mirrors,
  answers-over,
  command_execution_over,
  performed-size,
  performs,
}
pub use Rattle.nvme_machine.specs.CommandExecutions.{CommandComesToAs, CommandExecution}
unfoldable pub use Rattle.nvme_machine.specs.CommandExecutions.{CommandComesTo}
pub use Rattle.nvme_machine.specs.Controllers.{Controller, QueuePair, new_controller, queues_of}
unfoldable pub use Rattle.nvme_machine.specs.Controllers.{after_posting, after_queue_change, open_pair}
pub use Rattle.nvme_machine.specs.Executing.{FinishesOne, FinishesOver, Setting, scene_in}
pub use Rattle.nvme_machine.specs.Fencing.{IsFleeting}
pub use Rattle.nvme_machine.specs.Secrecy.{DifferIn}
pub use Rattle.nvme_machine.specs.Subsystems.{Subsystem, is_host_among}
unfoldable pub use Rattle.nvme_machine.specs.Subsystems.{after_completion, after_power_cycle}
pub use Rattle.nvme_machine.specs.declared.fetched.FetchedCommand.{FetchedCommand}
pub use Rattle.nvme_machine.specs.declared.seen.Executed.{Executed}
pub use Rattle.nvme_machine.specs.declared.seen.Executed.TheVariants.{NoSuch, Posted}
pub use Rattle.nvme_machine.specs.declared.seen.Fetched.TheVariants.{Idle, Took}
pub use Rattle.nvme_machine.specs.declared.seen.Seen.TheVariants.{Cycled}
pub use Rattle.nvme_machine.proofs.Numbers.{fetch-id, store-id, write-id}
pub use Rattle.nvme_driver.specs.Requests.{Asked, asked_of, is_bad}
pub use Rattle.nvme_driver.specs.declared.answer.Answer.TheVariants.{Aborted, Done}
pub use Rattle.nvme_driver.specs.declared.faults.PlaceRefusal.{PlaceRefusal}
pub use Rattle.nvme_driver.specs.declared.faults.PlaceRefusal.TheVariants.{BadRequest, NotReady}
pub use Rattle.nvme_driver.specs.declared.faults.UpFault.TheVariants.{AlreadyUp}
pub use Rattle.nvme_driver.specs.declared.lane.Lane.{Lane}
pub use Rattle.nvme_driver.specs.declared.lane.Lane.TheVariants.{Admin, Io}
pub use Rattle.nvme_driver.specs.declared.request.Request.{Request}
pub use Rattle.nvme_event.specs.Events.{OfItsHost, concerns}
pub use Rattle.nvme_event.specs.Replies.{Reply, data_len}
pub use Rattle.nvme_event.specs.declared.event.FleetEvent.{FleetEvent}
pub use Rattle.nvme_event.specs.declared.event.FleetEvent.TheVariants.{
  BringUp,
  Execute,
  Fetch,
  Place,
  Poll,
  PowerCycle,
  RawStore,
  RawWrite32,
  Reset,
  Ring,
}
pub use Rattle.nvme_event.specs.declared.seen.FleetSeen.{FleetSeen}
pub use Rattle.nvme_event.specs.declared.seen.FleetSeen.TheVariants.{NotRaw}
pub use Rattle.nvme_mailbox.specs.Answered.{
  Conclusion,
  DoneAnswersItsRequest,
  DoneIsItsExecution,
  Executes,
  EventProperty,
  HappensThen,
  IsClear,
  NewIsClear,
  ResetClears,
  TicketNamesItsRequest,
  WasPlacedAndExecuted,
}
pub use Rattle.nvme_mailbox.specs.Apart.{
  Becomes,
  ExecutesOwn,
  HasMailbox,
  HostsAreApart,
  MailboxStep,
  MovesOn,
  OthersStep,
  OwnStep,
  Posts,
  marked_by,
  marks_seen,
}
pub use Rattle.nvme_mailbox.specs.Deliveries.{
  MailboxReaction,
  answer_reply,
  brought_up,
  fetched,
  fetched_first,
  fetched_of,
  handed_up,
  lane_at,
  mailbox_reaction,
  new_item,
  placed_by,
  plain,
  polled_aborted,
  polled_admin,
  polled_io,
  recounted,
  refusal,
  reset,
  ring_lane,
  rung,
  with_placed,
  with_request,
  with_rest,
  without_first,
}
pub use Rattle.nvme_mailbox.specs.Determined.{FailuresNeverFall, RunExists, RunIsUnique, failures_in}
pub use Rattle.nvme_mailbox.specs.Executions.{
  IoRequestComesTo,
  IsServed,
  RequestComesToAs,
  RequestExecution,
  Site,
  action_of,
  admin_request_execution_by,
  bytes_with,
  io_verdict,
  scene_at,
}
unfoldable pub use Rattle.nvme_mailbox.specs.Executions.{
  RequestComesTo,
  admin_judgement,
  admin_request_execution,
  command_entry,
  io_judgement,
}
pub use Rattle.nvme_mailbox.specs.FaultFree.{
  RawExecution,
  executing,
  executing_item,
  fault_free_left,
  fault_free_replies,
  fault_free_step,
  io_request_execution,
  performance_of,
  raw_execution,
  raw_one,
  raw_over,
  request_execution_as,
  served,
}
unfoldable pub use Rattle.nvme_mailbox.specs.FaultFree.{request_execution}
pub use Rattle.nvme_mailbox.specs.Fencing.{
  Allows,
  FencedWritesAreDenied,
  FencingHolds,
  Forgets,
  IsOn,
  LeavesReservation,
  OnlyAllowedActionsReserve,
  PermissionsStay,
  ReservesNothing,
  RunWhere,
  conflict_unless,
  fenced,
}
pub use Rattle.nvme_mailbox.specs.Fleets.{
  Completes,
  ExecutesAt,
  ExecutesItem,
  ExecutesRaw,
  Fleet,
  Is,
  Moment,
  Raw,
  Run,
  Step,
  WithDriver,
  after_execution,
  after_raw,
  answer_for,
  called_at,
  fetched_at,
  host_cycled,
  marked,
  marked_from,
  marks_in,
  new_host,
  numbered,
  raw_at,
  replaced,
  setting_of,
  site_of,
  with_posted,
}
unfoldable pub use Rattle.nvme_mailbox.specs.Fleets.{after_answer, host_at, opening, power_cycled, settled, with_host}
pub use Rattle.nvme_mailbox.specs.IoCommands.{
  AreNumbered,
  BearsItsNumber,
  ExecutedAsThePolicyAllows,
  HasItsEffect,
  IoCommand,
  IsExecutedBy,
  NumbersStay,
  OpeningIsNumbered,
  asked_by,
  asked_command,
  command_in,
  raw_command,
  sent_by,
  verdict_on,
}
pub use Rattle.nvme_mailbox.specs.Mailboxes.{
  FetchedItem,
  Item,
  LaneBox,
  Mailbox,
  PostedAnswer,
  box_at,
  empty_box,
  lane_of,
  names,
  new_mailbox,
  ranked,
  rising,
  tickets_in,
  with_box,
  with_mark,
}
unfoldable pub use Rattle.nvme_mailbox.specs.Mailboxes.{open_tickets}
pub use Rattle.nvme_mailbox.specs.Preempting.{
  IsOutside,
  LeavesOutside,
  OutsidersMayNotWrite,
  OutsidersStayOutside,
  PreemptedIsOutside,
  PreemptedStaysOut,
}
pub use Rattle.nvme_mailbox.specs.Regular.{HoldsTaken, IsRegular, OpeningIsRegular, RegularityStays, WasTaken}
pub use Rattle.nvme_mailbox.specs.Secrecy.{FencedReading, FencedReadingIsSame, MayNotRead, site_over}
pub use Rattle.nvme_mailbox.specs.Tickets.{
  Balance,
  DriversStay,
  EachIsHeldOnce,
  EachTicketGoesOnce,
  GoesOnce,
  HeldAreCounted,
  NewHoldsEachOnce,
  OpeningHasDrivers,
  OpeningIsNew,
  TicketsAreConsecutive,
  TicketsBalance,
  TicketsOfAnOpeningGoOnce,
  aborted,
  aborted_in,
  along,
  answered_tickets,
  below,
  counting,
  done,
  done_in,
  given,
  given_in,
  held_tickets,
  is_ticket,
  named_by,
  requests_in,
  ticket_of,
  times,
  waiting_tickets,
  where_posted,
}
unfoldable pub use Rattle.nvme_mailbox.specs.Tickets.{posted_answers, waiting}
pub use Rattle.nvme_mailbox.specs.Unseen.{IsUnseen, UnseenNeverComes}
pub use Rattle.nvme_mailbox.specs.Tickets.{total}
