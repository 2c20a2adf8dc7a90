-- For `saved.rt`: a session and its script, by computation.
use Rattle.std.proofs.Common.{
  ◌+◌,
  ◌≡◌,
  ◌++◌,
  ◌∙◌,
  ℕ,
  true,
  List,
  [],
  ◌∷◌,
  length,
  Some,
  Ok,
  refl,
  sym,
  ap,
  subst,
  arith,
}
use Rattle.std.specs.Prelude.{codes, map, replicate, slice_index_or}
use Rattle.std.specs.Fmt.{char_count, padded_integral}
use Rattle.std.specs.List.{All, concat}
use Rattle.std.proofs.lemmas.Bool.{false≢true}
use Rattle.nvme_spec.specs.Blocks.{Device}
use Rattle.nvme_spec.specs.Configuration.{config_fault}
use Rattle.nvme_spec.specs.World.{namespace_of, opening_world}
use Rattle.nvme_machine.specs.Subsystems.{opening}
use Rattle.nvme_event.specs.Replies.{Reply}
use Rattle.nvme_event.specs.declared.event.FleetEvent.{FleetEvent}
use Rattle.nvme_event.specs.declared.event.FleetEvent.TheVariants.{
  Execute,
  Fetch,
  PowerCycle,
  RawStore,
  RawWrite32,
  Ring,
}
use Rattle.nvme_event.specs.declared.seen.FleetSeen.TheVariants as seen
use Rattle.nvme_machine.specs.declared.seen.Executed.TheVariants.{Posted}
use Rattle.nvme_machine.specs.declared.seen.Fetched.TheVariants.{Took}
use Rattle.nvme_mailbox.specs.Deliveries.{plain}
use Rattle.nvme_transcript.specs.Transcript.{line_of}
use Rattle.nvme_transcript.proofs.OnLiterals as transcripts
use Rattle.live_text.specs.declared.asking.Asked.TheVariants.{Does}
use Rattle.nvme_grammar.specs.Lent.{lent}
use Rattle.nvme_fleet.specs.FleetStates.{Layers}
use Rattle.nvme_subsys.specs.OverMedium.{OverMedium, over}
use Rattle.live_text.specs.Asking.{asked}
use Rattle.live_text.specs.Faults.{refusal}
use Rattle.live_text.specs.declared.fault.Why.TheVariants.{BeforeStart}
use Rattle.live_text.specs.Looking.{looking_at, text_in}
use Rattle.live_text.specs.LookingWords.{looking_word_of}
use Rattle.nvme_grammar.proofs.OnLiterals.{beginnings_on_literals, lines_on_literals}
use Rattle.nvme_live.specs.AnswerCalls.{TurnBy, TurnOver}
use Rattle.nvme_live.specs.Keeping.{LookWell, LooksWell, event_answers, is_block_look}
use Rattle.nvme_live.specs.Saying.{with_feed}
use Rattle.nvme_live.specs.SessionScripts.{session_text, text_of}
use Rattle.nvme_live.specs.SetUps.{nothing_set_up}
use Rattle.nvme_live.specs.Standings.{LineByLine, Running, Setting, Standing, started_text}
use Rattle.nvme_live.specs.Taking.{IsOfLine}
use Rattle.nvme_live.proofs.SessionScripts.{session_is_a_script}
use Rattle.nvme_session_runs.proofs.RawEvents.{Goes, alone}
use Rattle.nvme_session_runs.proofs.ReplayRuns.{
  addressed,
  addressing,
  admin_computing,
  cycling,
  enabled,
  enabling,
  executing,
  fetched,
  fetching,
  posted,
  ringing,
  rung,
  sized,
  sizing,
  stored,
  storing,
  unheard,
  world,
}
use Rattle.nvme_session_runs.specs.Replays.{
  command_lines,
  disk,
  enabled_lines,
  enabling_lines,
  ended,
  executed_lines,
  four_queues,
  get_features,
  one_block,
  opened,
  start_lines,
  text,
  transcribed,
}
use Rattle.nvme_session_runs.specs.SavedSessions.{
  AnyCall,
  AnyFlush,
  AnyRead,
  AnyWrite,
  Begun,
  Continues,
  SavedAtWork,
  a_block,
  a_status,
  an_ok,
  answers,
  known,
  lines,
  whole,
}
use Rattle.nvme_session_runs.proofs.KnownStreams.{read-all, send-all, whole-lines}

-- The session.

of-line : All IsOfLine lines
unfolding lines start_lines enabling_lines command_lines
of-line = whole-lines lines (
  omega arith,
  (
    omega arith,
    (
      omega arith,
      (
        omega arith,
        (
          omega arith,
          (
            omega arith,
            (
              omega arith,
              (
                omega arith,
                (
                  omega arith,
                  (omega arith, (omega arith, (omega arith, (omega arith, (omega arith, (omega arith, tt)))))),
                ),
              ),
            ),
          ),
        ),
      ),
    ),
  ),
)

abbrev pub Turns : ℕ → OverMedium Standing Device → List ℕ → List ℕ → OverMedium Standing Device → Type 0
Turns = TurnOver AnyCall true one_block disk

-- a session that runs over the medium
abbrev pub at : Layers → OverMedium Standing Device
at l = over (Running l) disk

looked : Turns 4 (at opened) (codes "?blocks 1 0 1") a_block (at opened)
unfolding asked text_in looking_at looking_word_of lines_on_literals opening opening_world namespace_of
looked = (
  opened,
  record {
    bytes = replicate 512 7;
    result = Ok tt;
    whole = refl;
    reads = record {
      read = λ told. refl;
      content = λ told. refl;
      count = record { done = λ h. refl; failed = λ h. absurd (cc) };
      world = refl;
      controllers = refl;
    };
    calls = record { passed = 1; ends = refl; made = (disk, tt, refl) };
    drivers = refl;
    says = refl;
  },
  refl,
)

pub started : LineByLine Turns 1 (over (Setting nothing_set_up) disk) start_lines
    (an_ok ∷ an_ok ∷ with_feed started_text ∷ []) (at opened)
unfolding start_lines asked lines_on_literals config_fault
started = (_, ((refl, refl), refl), (_, ((refl, refl), refl), (_, ((refl, refl), refl), refl)))

refused : Turns 5 (at opened) (codes "start") (with_feed (refusal 5 BeforeStart)) (at opened)
unfolding asked lines_on_literals
refused = (opened, (refl, refl), refl)

shown : Turns 9 (at (alone world disk enabled)) (codes "?register 1 0x1c") a_status (at (alone world disk enabled))
unfolding asked text_in looking_at looking_word_of lines_on_literals admin_computing transcripts.lines_on_literals
    char_count padded_integral
shown = (alone world disk enabled, (refl, refl), refl)

-- a line of an event
record Happens (n : ℕ) (old : Layers) (line answer : List ℕ) (event : FleetEvent) (new : Layers) : Type 0 where
  asks : asked line ≡ Does event
  turns : Turns n (at old) line answer (at new)

happens : (n : ℕ) (old new : Layers) (line answer : List ℕ) (event : FleetEvent) (reply : Reply)
    → asked line ≡ Does event → answer ≡ line_of event reply → Goes old event reply new
    → Happens n old line answer event new
happens n old new line answer event reply asks says goes =
    let turn : TurnBy AnyCall true one_block disk n (Running old) disk (Does event) answer (at new) = (
      new,
      record { reply = reply; calls = record { calls = []; are = goes; made = refl }; says = says },
      refl,
    ) in
    record {
      asks = asks;
      turns = subst (λ a. TurnBy AnyCall true one_block disk n (Running old) disk a answer (at new)) (sym asks) turn;
    }

six : Happens 6 opened (codes "write32 1 0x24 0x10001") (with_feed (codes "wrote32 1")) (RawWrite32 1 0x24 0x10001)
    (alone world disk sized)
unfolding asked lines_on_literals transcripts.lines_on_literals
six = happens 6 opened (alone world disk sized) (codes "write32 1 0x24 0x10001") (with_feed (codes "wrote32 1"))
    (RawWrite32 1 0x24 0x10001) (plain seen.Wrote) refl refl sizing

seven : Happens 7 (alone world disk sized) (codes "write32 1 0x30 4096") (with_feed (codes "wrote32 1"))
    (RawWrite32 1 0x30 4096) (alone world disk addressed)
unfolding asked lines_on_literals transcripts.lines_on_literals
seven = happens 7 (alone world disk sized) (alone world disk addressed) (codes "write32 1 0x30 4096")
    (with_feed (codes "wrote32 1")) (RawWrite32 1 0x30 4096) (plain seen.Wrote) refl refl addressing

eight : Happens 8 (alone world disk addressed) (codes "write32 1 0x14 0x460001") (with_feed (codes "wrote32 1"))
    (RawWrite32 1 0x14 0x460001) (alone world disk enabled)
unfolding asked lines_on_literals transcripts.lines_on_literals
eight = happens 8 (alone world disk addressed) (alone world disk enabled) (codes "write32 1 0x14 0x460001")
    (with_feed (codes "wrote32 1")) (RawWrite32 1 0x14 0x460001) (plain seen.Wrote) refl refl enabling

-- the line that stores the command
abbrev store_line : List ℕ
store_line = slice_index_or command_lines 0 []

ten : Happens 10 (alone world disk enabled) store_line (with_feed (codes "stored 1")) (RawStore 1 0 (lent get_features))
    (alone world disk stored)
unfolding command_lines asked lines_on_literals transcripts.lines_on_literals
ten = happens 10 (alone world disk enabled) (alone world disk stored) store_line (with_feed (codes "stored 1"))
    (RawStore 1 0 (lent get_features)) (plain seen.Stored) refl refl storing

eleven : Happens 11 (alone world disk stored) (codes "write32 1 0x1000 1") (with_feed (codes "wrote32 1"))
    (RawWrite32 1 0x1000 1) (alone world disk rung)
unfolding asked lines_on_literals transcripts.lines_on_literals
eleven = happens 11 (alone world disk stored) (alone world disk rung) (codes "write32 1 0x1000 1")
    (with_feed (codes "wrote32 1")) (RawWrite32 1 0x1000 1) (plain seen.Wrote) refl refl ringing

twelve : Happens 12 (alone world disk rung) (codes "fetch 1 0") (with_feed (codes "fetch 1 0 took")) (Fetch 1 0)
    (alone world disk fetched)
unfolding asked lines_on_literals transcripts.lines_on_literals
twelve = happens 12 (alone world disk rung) (alone world disk fetched) (codes "fetch 1 0")
    (with_feed (codes "fetch 1 0 took")) (Fetch 1 0) (plain (seen.Fetched Took)) refl refl fetching

thirteen : Happens 13 (alone world disk fetched) (codes "execute 1 0") (with_feed (codes "execute 1 0 posted 0:00 0"))
    (Execute 1 0) (alone world disk posted)
unfolding asked lines_on_literals transcripts.lines_on_literals char_count padded_integral
thirteen = happens 13 (alone world disk fetched) (alone world disk posted) (codes "execute 1 0")
    (with_feed (codes "execute 1 0 posted 0:00 0")) (Execute 1 0) (plain (seen.Executed (Posted four_queues))) refl refl
    executing

fourteen : Happens 14 (alone world disk posted) (codes "ring 1") (with_feed (codes "nodriver 1")) (Ring 1)
    (alone world disk posted)
unfolding asked lines_on_literals transcripts.lines_on_literals
fourteen = happens 14 (alone world disk posted) (alone world disk posted) (codes "ring 1")
    (with_feed (codes "nodriver 1")) (Ring 1) (plain seen.NoDriver) refl refl unheard

fifteen : Happens 15 (alone world disk posted) (codes "powercycle") (with_feed (codes "powercycle")) PowerCycle ended
unfolding asked lines_on_literals transcripts.lines_on_literals
fifteen = happens 15 (alone world disk posted) ended (codes "powercycle") (with_feed (codes "powercycle")) PowerCycle
    (plain seen.Cycled) refl refl cycling

abbrev later_lines : List (List ℕ)
later_lines = codes "?blocks 1 0 1" ∷ codes "start" ∷ enabling_lines ++ (codes "?register 1 0x1c" ∷ command_lines)

abbrev later_answers : List (List ℕ)
later_answers = a_block ∷ with_feed (refusal 5 BeforeStart) ∷ map with_feed enabled_lines
    ++ (a_status ∷ map with_feed executed_lines)

followed : LineByLine Turns 4 (at opened) later_lines later_answers (at ended)
unfolding enabling_lines command_lines enabled_lines executed_lines
followed = (
  at opened,
  looked,
  (
    at opened,
    refused,
    (
      at (alone world disk sized),
      six.turns,
      (
        at (alone world disk addressed),
        seven.turns,
        (
          at (alone world disk enabled),
          eight.turns,
          (
            at (alone world disk enabled),
            shown,
            (
              at (alone world disk stored),
              ten.turns,
              (
                at (alone world disk rung),
                eleven.turns,
                (
                  at (alone world disk fetched),
                  twelve.turns,
                  (
                    at (alone world disk posted),
                    thirteen.turns,
                    (at (alone world disk posted), fourteen.turns, (at ended, fifteen.turns, refl)),
                  ),
                ),
              ),
            ),
          ),
        ),
      ),
    ),
  ),
)

went : LineByLine Turns 1 (over (Setting nothing_set_up) disk) lines answers (at ended)
unfolding lines answers start_lines
went =
    let (a, first, (b, second, (c, third, same))) = started in (
      a,
      first,
      (
        b,
        second,
        (c, third, subst (λ s. LineByLine Turns 4 s later_lines later_answers (at ended)) same followed),
      ),
    )

pub begun : Begun one_block [] disk (over (Setting nothing_set_up) disk) (Some []) (Some [])
unfolding lines_on_literals beginnings_on_literals
begun = (record { spelled = refl; placed = (refl, tt) }, refl, refl)

counted : 16 ≡ 1 + length lines
unfolding lines start_lines enabling_lines command_lines
counted = refl

session : Continues one_block disk (over (Setting nothing_set_up) disk) 16 (at ended) (Some (text_of lines)) (Some [])
    (Some []) (Some (concat answers))
session = record {
  lines = lines;
  answers = answers;
  counted = counted;
  taken = read-all lines of-line;
  went = went;
  sent = send-all answers [];
}

-- an event is no query of blocks
quiet : (n : ℕ) (line answer : List ℕ) (event : FleetEvent) → asked line ≡ Does event → LooksWell true n line answer
quiet n line answer event asks = λ looks. absurd (false≢true (sym (ap is_block_look asks) ∙ looks))

first-well : LookWell true 1 start_lines (an_ok ∷ an_ok ∷ with_feed started_text ∷ [])
unfolding start_lines asked lines_on_literals
first-well = ((λ e. absurd (cc)), ((λ e. absurd (cc)), ((λ e. absurd (cc)), tt)))

block-well : LooksWell true 4 (codes "?blocks 1 0 1") a_block
unfolding asked text_in looking_at looking_word_of lines_on_literals
block-well = λ e. (refl, λ same. absurd (cc))

start-well : LooksWell true 5 (codes "start") (with_feed (refusal 5 BeforeStart))
unfolding asked lines_on_literals
start-well = λ e. absurd (cc)

status-well : LooksWell true 9 (codes "?register 1 0x1c") a_status
unfolding asked text_in looking_at looking_word_of lines_on_literals
status-well = λ e. absurd (cc)

well : LookWell true 1 lines answers
unfolding lines answers start_lines enabling_lines command_lines enabled_lines executed_lines
well =
    let (first, (second, (third, none))) = first-well in (
      first,
      (
        second,
        (
          third,
          (
            block-well,
            (
              start-well,
              (
                quiet 6 _ _ _ six.asks,
                (
                  quiet 7 _ _ _ seven.asks,
                  (
                    quiet 8 _ _ _ eight.asks,
                    (
                      status-well,
                      (
                        quiet 10 _ _ _ ten.asks,
                        (
                          quiet 11 _ _ _ eleven.asks,
                          (
                            quiet 12 _ _ _ twelve.asks,
                            (
                              quiet 13 _ _ _ thirteen.asks,
                              (quiet 14 _ _ _ fourteen.asks, (quiet 15 _ _ _ fifteen.asks, tt)),
                            ),
                          ),
                        ),
                      ),
                    ),
                  ),
                ),
              ),
            ),
          ),
        ),
      ),
    )

saved : (session_text [] lines answers ≡ text) × (event_answers lines answers ≡ transcribed)
unfolding lines answers text transcribed start_lines enabling_lines command_lines enabled_lines executed_lines asked
    lines_on_literals looking_word_of
saved = (refl, refl)

pub saved_at_work : SavedAtWork
unfolding session
saved_at_work = record {
  begun = begun;
  session = session;
  reads = refl;
  says = refl;
  well = well;
  text = saved.0;
  transcript = saved.1;
  script = session_is_a_script AnyCall true whole AnyRead known AnyWrite AnyFlush known one_block [] disk
      (over (Setting nothing_set_up) disk) (at ended) 16 (Some (text_of lines)) (Some []) (Some []) (Some [])
      (Some (concat answers)) begun session well;
}
