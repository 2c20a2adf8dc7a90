-- For `replays.rt`: the example runs of the text of a session, by computation.
use Rattle.std.proofs.Common.{
  ◌≡◌,
  ◌≤◌,
  ◌++◌,
  ◌∙◌,
  ℕ,
  true,
  false,
  List,
  [],
  ◌∷◌,
  length,
  None,
  Some,
  refl,
  sym,
  ap,
  subst,
  arith,
}
use Rattle.std.specs.Prelude.{is_some, slice_get}
use Rattle.std.specs.Fmt.{char_count, padded_integral}
use Rattle.std.specs.List.{filter_map, list_all}
use Rattle.nvme_spec.specs.AdminCommands as admin
use Rattle.nvme_spec.specs.AdminEffects.{admin_execution, data_out, double_word_0, queue_change, world_after}
use Rattle.nvme_spec.specs.AdminRules as rules
use Rattle.nvme_spec.specs.Configuration.{config_fault}
use Rattle.nvme_spec.specs.Power.{cycled_world}
use Rattle.nvme_spec.specs.Registers.{can_enable}
use Rattle.nvme_spec.specs.World.{World, opening_world}
use Rattle.nvme_spec.specs.declared.queues.QueueChange.TheVariants.{Keep}
use Rattle.nvme_machine.specs.declared.fetched.FetchedCommand.{FetchedCommand}
use Rattle.nvme_machine.specs.declared.seen.Executed.TheVariants.{Posted}
use Rattle.nvme_machine.specs.declared.seen.Fetched.TheVariants.{Took}
use Rattle.nvme_machine.specs.declared.seen.Seen.TheVariants as below
use Rattle.nvme_machine.specs.CommandExecutions.{CommandComesTo, CommandExecution}
use Rattle.nvme_machine.specs.Controllers.{
  Controller,
  QueuePair,
  after_fetch,
  after_store,
  after_write32,
  head_entry,
  new_controller,
  open_pair,
  power_cycled,
  queues_of,
}
use Rattle.nvme_machine.specs.Subsystems.{after_completion, opening}
use Rattle.nvme_event.specs.Replies.{Reply}
use Rattle.nvme_event.specs.declared.event.FleetEvent.{FleetEvent}
use Rattle.nvme_event.specs.declared.event.FleetEvent.TheVariants.{
  Execute,
  Fetch,
  PowerCycle,
  RawStore,
  RawWrite32,
  Ring,
}
use Rattle.nvme_event.specs.declared.seen.FleetSeen.TheVariants as seen
use Rattle.nvme_mailbox.specs.Deliveries.{plain}
use Rattle.nvme_mailbox.specs.Fleets.{raw_fetch}
use Rattle.nvme_fleet.specs.FleetStates.{Layers, opening_layers}
use Rattle.nvme_fleet.specs.Layers.{Run, Step}
use Rattle.nvme_fleet.proofs.LayerCalls.{layer_calls_are_of_a_step}
use Rattle.nvme_grammar.proofs.OnLiterals.{lines_on_literals}
use Rattle.nvme_grammar.specs.Lent.{lent}
use Rattle.nvme_grammar.specs.Line.{line_at}
use Rattle.nvme_grammar.specs.Script.{
  ArePlaced,
  Begins,
  configuration_in,
  configuration_of,
  event_in,
  said,
  start_in,
  start_of,
}
use Rattle.nvme_grammar.specs.declared.line.Line.{Line}
use Rattle.nvme_grammar.specs.declared.line.Line.TheVariants as line
use Rattle.script_text.specs.Lines.{text_lines}
use Rattle.script_text.specs.Reading.{longest}
use Rattle.nvme_script.specs.Faults.{Runs, Transcribes, events_in}
use Rattle.nvme_transcript.specs.Transcript.{transcript}
use Rattle.nvme_transcript.proofs.OnLiterals as transcripts
use Rattle.nvme_theorem_runs.proofs.Unfolding.{computing}
use Rattle.nvme_live.specs.SessionScripts.{IsPlayed}
use Rattle.nvme_live.proofs.SessionScripts.{played_is_a_run, replays_alike}
use Rattle.nvme_session_runs.proofs.RawEvents.{Goes, alone, cycles, executes, fetches, rings, stores, writes}
use Rattle.nvme_session_runs.specs.Replays.{
  PlayedAtWork,
  ReplaysAtWork,
  command_lines,
  cycled,
  disk,
  enabled_lines,
  enabling_lines,
  ended,
  events,
  executed_lines,
  four_queues,
  get_features,
  one_block,
  opened,
  replies,
  set_up,
  start_lines,
  text,
  transcribed,
}

-- The lines of the text.

-- each of these lines has this meaning
abbrev Mean : List (List ℕ) → List Line → Type 0
Mean [] [] = Unit {0}
Mean (raw ∷ raws) (m ∷ ms) = (line_at raw ≡ Some m) × Mean raws ms
Mean [] (m ∷ ms) = ⊥
Mean (raw ∷ raws) [] = ⊥

said-as : (raws : List (List ℕ)) (ms : List Line) → Mean raws ms → said raws ≡ ms
said-as [] [] h = refl
said-as [] (m ∷ ms) h = absurd h
said-as (raw ∷ raws) [] h = absurd h
said-as (raw ∷ raws) (m ∷ ms) h = rw h.0 (ap (λ rest. m ∷ rest) (said-as raws ms h.1))

spelled-as : (raws : List (List ℕ)) (ms : List Line) → Mean raws ms
    → list_all (λ raw. is_some (line_at raw)) raws ≡ true
spelled-as [] [] h = refl
spelled-as [] (m ∷ ms) h = absurd h
spelled-as (raw ∷ raws) [] h = absurd h
spelled-as (raw ∷ raws) (m ∷ ms) h = rw h.0 (spelled-as raws ms h.1)

abbrev meanings : List Line
meanings = line.Controller (record { cntlid = 1; host = 0xa1; raw = true })
    ∷ line.Namespace (record { nsid = 1; blocks = 1; shared = true })
    ∷ line.Start
    ∷ line.Event (RawWrite32 1 0x24 0x10001)
    ∷ line.Event (RawWrite32 1 0x30 4096)
    ∷ line.Event (RawWrite32 1 0x14 0x460001)
    ∷ line.Event (RawStore 1 0 (lent get_features))
    ∷ line.Event (RawWrite32 1 0x1000 1)
    ∷ line.Event (Fetch 1 0)
    ∷ line.Event (Execute 1 0)
    ∷ line.Event (Ring 1)
    ∷ line.Event PowerCycle
    ∷ line.Blank
    ∷ []

-- the line feed of the last line has an empty line after it
parts : text_lines text ≡ start_lines ++ (enabling_lines ++ (command_lines ++ [] ∷ []))
unfolding text start_lines enabling_lines command_lines
parts = refl

mean : Mean (start_lines ++ (enabling_lines ++ (command_lines ++ [] ∷ []))) meanings
unfolding start_lines enabling_lines command_lines lines_on_literals
mean = (refl, (refl, (refl, (refl, (refl, (refl, (refl, (refl, (refl, (refl, (refl, (refl, (refl, tt)))))))))))))

means : said (text_lines text) ≡ meanings
means = ap said parts ∙ said-as (start_lines ++ (enabling_lines ++ (command_lines ++ [] ∷ []))) meanings mean

placed : ArePlaced [] meanings
placed = (refl, (refl, (refl, (refl, (refl, (refl, (refl, (refl, (refl, (refl, (refl, (refl, (refl, tt)))))))))))))

grammar : Begins (text_lines text)
grammar = record {
  spelled = ap (list_all (λ raw. is_some (line_at raw))) parts
      ∙ spelled-as (start_lines ++ (enabling_lines ++ (command_lines ++ [] ∷ []))) meanings mean;
  placed = subst (ArePlaced []) (sym means) placed;
}

starts : start_of (text_lines text) ≡ Some 3
starts = ap start_in means

configured : configuration_of (text_lines text) ≡ set_up
configured = ap configuration_in means

accepted : config_fault set_up one_block ≡ None
unfolding config_fault
accepted = refl

happen : events_in text ≡ events
happen = ap (filter_map event_in) means

tells : transcript events replies ≡ transcribed
unfolding transcribed enabled_lines executed_lines transcripts.lines_on_literals char_count padded_integral
tells = refl

-- The states between the events.

abbrev pub world : World
world = opening_world set_up

abbrev pub sized : Controller
sized = after_write32 0x24 0x10001 (new_controller 1)

abbrev pub addressed : Controller
addressed = after_write32 0x30 4096 sized

abbrev pub enabled : Controller
enabled = after_write32 0x14 0x460001 addressed

abbrev pub stored : Controller
stored = (after_store 0 get_features enabled).controller

abbrev pub rung : Controller
rung = after_write32 0x1000 1 stored

abbrev pub fetched : Controller
fetched = (after_fetch 0 rung).controller

-- the entry, of which the memory has more than was stored
abbrev entry : List ℕ
entry = head_entry rung (record { base = 0; cqid = 0; head = record { size = 2; fetched = 0; waiting = 1 } })

abbrev command : FetchedCommand
command = record { entry = entry; queue = 0; marked = false }

abbrev queues : QueuePair
queues = record {
  submission = record { base = 0; cqid = 0; head = record { size = 2; fetched = 1; waiting = 0 } };
  completion = record { base = 4096; tail = record { size = 2; posted = 0; unread = 0 } };
}

abbrev answer : CommandExecution
answer = record {
  outcome = four_queues;
  change = Keep;
  left = record { world = world; window = fetched.window; device = disk };
}

abbrev pub posted : Controller
posted = after_completion 0 command queues answer fetched

-- the definitions with which they are computed; the memory's zeros are not
unfoldable pub admin_computing : Unit {0}
unfolding computing admin_execution data_out double_word_0 queue_change world_after admin.command_of admin.fid
    can_enable rules.nsid_rule rules.attachment_rule rules.get_features_rule rules.reservation_rule rules.list_rule
    rules.admin_judgement
admin_computing = tt

stored-so : (after_store 0 get_features enabled).seen ≡ below.Stored
unfolding admin_computing
stored-so = refl

took : (raw_fetch rung 0 ≡ Took) × ((after_fetch 0 rung).seen ≡ below.Fetched Took)
unfolding admin_computing
took = (refl, refl)

has : slice_get fetched.fetched 0 ≡ Some command
unfolding admin_computing
has = refl

opens : open_pair fetched command ≡ Some queues
unfolding admin_computing
opens = refl

named : fetched.cntlid ≡ 1
unfolding admin_computing
named = refl

comes : CommandComesTo true (queues_of fetched) 1 command
    (record { world = world; window = fetched.window; device = disk }) answer
unfolding admin_computing
comes = refl

off-again : power_cycled posted ≡ cycled
unfolding admin_computing
off-again = refl

-- The events.

opened-as : alone world disk (new_controller 1) ≡ opened
unfolding opening
opened-as = refl

ended-as : alone world disk (power_cycled posted) ≡ ended
unfolding opening
ended-as = ap (alone world disk) off-again

pub sizing : Goes opened (RawWrite32 1 0x24 0x10001) (plain seen.Wrote) (alone world disk sized)
sizing = subst (λ l. Goes l (RawWrite32 1 0x24 0x10001) (plain seen.Wrote) (alone world disk sized)) opened-as
    (writes world disk (new_controller 1) 0x24 0x10001)

pub addressing : Goes (alone world disk sized) (RawWrite32 1 0x30 4096) (plain seen.Wrote) (alone world disk addressed)
addressing = writes world disk sized 0x30 4096

pub enabling : Goes (alone world disk addressed) (RawWrite32 1 0x14 0x460001) (plain seen.Wrote)
    (alone world disk enabled)
enabling = writes world disk addressed 0x14 0x460001

pub storing : Goes (alone world disk enabled) (RawStore 1 0 (lent get_features)) (plain seen.Stored)
    (alone world disk stored)
storing = stores world disk enabled 0 (lent get_features) refl stored-so

pub ringing : Goes (alone world disk stored) (RawWrite32 1 0x1000 1) (plain seen.Wrote) (alone world disk rung)
ringing = writes world disk stored 0x1000 1

pub fetching : Goes (alone world disk rung) (Fetch 1 0) (plain (seen.Fetched Took)) (alone world disk fetched)
fetching = fetches world disk rung 0 Took took.0 took.1

pub executing : Goes (alone world disk fetched) (Execute 1 0) (plain (seen.Executed (Posted four_queues)))
    (alone world disk posted)
executing = executes world disk fetched entry queues answer has opens named refl comes

pub unheard : Goes (alone world disk posted) (Ring 1) (plain seen.NoDriver) (alone world disk posted)
unheard = rings world disk posted

same-world : cycled_world world ≡ world
unfolding cycled_world opening_world
same-world = refl

pub cycling : Goes (alone world disk posted) PowerCycle (plain seen.Cycled) ended
cycling = subst (Goes (alone world disk posted) PowerCycle (plain seen.Cycled))
    (ap (λ w. alone w disk (power_cycled posted)) same-world ∙ ended-as) (cycles world disk posted)

step : (old new : Layers) (event : FleetEvent) (reply : Reply) → Goes old event reply new
    → Step true old event reply new
step old new event reply goes = layer_calls_are_of_a_step true old new event reply [] goes

run : Run true opened events replies ended
run = (
  _,
  step _ _ _ _ sizing,
  (
    _,
    step _ _ _ _ addressing,
    (
      _,
      step _ _ _ _ enabling,
      (
        _,
        step _ _ _ _ storing,
        (
          _,
          step _ _ _ _ ringing,
          (
            _,
            step _ _ _ _ fetching,
            (
              _,
              step _ _ _ _ executing,
              (_, step _ _ _ _ unheard, (_, step _ _ _ _ cycling, refl)),
            ),
          ),
        ),
      ),
    ),
  ),
)

ran : (before : List ℕ) → Transcribes (Run true) opened events ended (Some before) (Some (before ++ transcribed))
ran before = record {
  replies = replies;
  ran = run;
  wrote = ap (λ bytes. before ++ bytes) (sym tells);
}

played : IsPlayed (Run true) one_block disk text transcribed ended
played = record {
  grammar = grammar;
  starts = (3, starts);
  accepted = subst (λ c. config_fault c one_block ≡ None) (sym configured) accepted;
  ran = λ before. subst (λ c. Transcribes (Run true) (opening_layers c disk) (events_in text) ended (Some before)
      (Some (before ++ transcribed))) (sym configured)
      (subst (λ es. Transcribes (Run true) opened es ended (Some before) (Some (before ++ transcribed))) (sym happen)
      (ran before));
}

short : length text ≤ longest
unfolding text start_lines enabling_lines command_lines
short = omega arith

same-disk : ended.subsystem.device ≡ disk
unfolding opening
same-disk = refl

pub played_at_work : PlayedAtWork
played_at_work =
    let is = played_is_a_run true one_block disk text transcribed ended played short in
    record {
      run = run;
      played = played;
      script = is.0;
      runs = λ before. subst (λ d. Runs true text disk d (Some before) (Some (before ++ transcribed))) same-disk
          (is.1 before);
    }

pub replays_at_work : ReplaysAtWork
replays_at_work = record {
  alike = λ new before after runs calm.
      let alike = replays_alike one_block disk new text transcribed ended before after played
      (ap (λ d. d.failures) same-disk) runs calm (omega arith) in
      (alike.0, alike.1 ∙ same-disk);
}
