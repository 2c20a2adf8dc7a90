-- For `sessions.rt`: the example runs of sessions, by computation.
use Rattle.std.proofs.Common.{
  ◌≡◌,
  ◌<◌,
  ◌≤◌,
  ◌-◌,
  ◌^◌,
  ◌∙◌,
  ℕ,
  true,
  List,
  [],
  ◌∷◌,
  length,
  None,
  Some,
  Err,
  Ok,
  refl,
  sym,
  ap,
  arith,
}
use Rattle.std.specs.Prelude.{codes, replicate}
use Rattle.std.specs.List.{All, concat, prefix_len}
use Rattle.script_text.specs.Lines.{is_of_line}
use Rattle.std.proofs.lemmas.List.Elements.{All-cons, All-nil}
use Rattle.nvme_spec.specs.declared.config.ConfigFault.TheVariants.{DoesNotFit}
use Rattle.nvme_spec.specs.Configuration.{config_fault, script_capacity}
use Rattle.nvme_spec.specs.Configuration.{Configuration}
use Rattle.nvme_spec.specs.Examples.{controller, namespace}
use Rattle.nvme_spec.specs.World.{namespace_of, opening_world}
use Rattle.nvme_ns.specs.Refusals.{refusal_of}
use Rattle.nvme_machine.specs.Subsystems.{opening}
use Rattle.nvme_fleet.specs.FleetStates.{Layers, opening_layers}
use Rattle.nvme_fleet.proofs.Unique.{opening_has_tickets_once}
use Rattle.live_text.specs.Looking.{looking_at, text_in}
use Rattle.live_text.specs.LookingWords.{looking_word_of}
use Rattle.live_views.specs.Looks.{read_text}
use Rattle.nvme_grammar.specs.declared.line.Line.TheVariants.{Start}
use Rattle.nvme_grammar.proofs.OnLiterals.{beginnings_on_literals, lines_on_literals}
use Rattle.live_text.specs.declared.asking.Asked.TheVariants.{Sets}
use Rattle.live_text.specs.Asking.{asked}
use Rattle.nvme_live.specs.Saying.{with_feed}
use Rattle.nvme_live.specs.Taking.{IsOfLine}
use Rattle.nvme_live.specs.SessionLaws.{failures_at}
use Rattle.nvme_live.specs.Conversations.{CanRun, alone}
use Rattle.nvme_live.specs.SessionScripts.{IsRefused, text_of}
use Rattle.nvme_live.specs.SetUps.{SetUp, nothing_set_up, numbered_reason}
use Rattle.nvme_live.specs.SetUpLaws.{IsSettingLine}
use Rattle.nvme_live.specs.Standings.{Over, Running, Session, Setting, TurnOf, refused_text}
use Rattle.nvme_live.proofs.InBytes.{answered_lines_are_a_session}
use Rattle.nvme_live.proofs.SessionLaws.{end_is_unique, session_is_unique}
use Rattle.nvme_live.proofs.SessionScripts.{refused_is_a_fault}
use Rattle.nvme_live.proofs.Starting.{runs_where_accepted}
use Rattle.nvme_live.proofs.Takings.{whole-of_line}
use Rattle.nvme_live.proofs.SetUps.{refusal_names_a_line, set_up_is_numbered}
use Rattle.nvme_session_runs.specs.Sessions.{
  AcceptedAtAnyLine,
  AcceptedAtWork,
  EndAtWork,
  EndOverFaults,
  EndsIn,
  RefusalAtWork,
  RefusalOfAnySetUp,
  ScriptAtWork,
  SessionAtWork,
  SessionOverFaults,
  answers,
  larger,
  lines,
  medium,
  set_up,
  text,
  too_large,
  two_blocks,
}

-- What the setup lines give.

session : Session true two_blocks medium 1 (Setting nothing_set_up) lines answers (Setting set_up)
unfolding lines asked lines_on_literals
session = (_, (refl, refl), (_, (refl, refl), (_, (refl, refl), (_, (refl, refl), refl))))

fault : config_fault set_up.configuration two_blocks ≡ Some DoesNotFit
unfolding config_fault
fault = refl

reason : numbered_reason set_up two_blocks ≡ Some (4, too_large)
unfolding refusal_of
reason = refl

names : IsSettingLine 4 lines
unfolding lines asked lines_on_literals
names = record { place = 3; counted = refl; line = _; at = refl; says = _; sets = refl }

start : Session true two_blocks medium 5 (Setting set_up) (codes "start" ∷ [])
    (with_feed (refused_text 5 DoesNotFit (Some (4, too_large))) ∷ []) (Over 5 DoesNotFit)
unfolding asked lines_on_literals config_fault refusal_of
start = (_, (refl, refl), refl)

pub refusal_at_work : RefusalAtWork
refusal_at_work = record {
  session = session;
  numbered = set_up_is_numbered true two_blocks medium lines answers set_up session;
  fault = fault;
  reason = reason;
  names = names;
  holds = refusal_names_a_line true two_blocks medium lines answers set_up DoesNotFit session fault;
  start = start;
}

abbrev unnumbered : SetUp
unnumbered = record set_up { numbers = record { of_controllers = []; of_namespaces = []; of_attachments = [] } }

no-reason : numbered_reason unnumbered two_blocks ≡ None
unfolding refusal_of
no-reason = refl

pub refusal_needs_a_session : RefusalOfAnySetUp → ⊥
refusal_needs_a_session law =
    let r = law two_blocks [] unnumbered DoesNotFit fault in
    let both = sym no-reason ∙ r.2 in
    absurd (cc)

-- A session has only one list of answers.

few : failures_at medium (Setting nothing_set_up) < 2 ^ 64 - 1
few = omega arith

pub session_at_work : SessionAtWork
session_at_work = record {
  alone = λ other others run calm.
      session_is_unique two_blocks medium 1 (Setting nothing_set_up) (Setting set_up) other lines
      answers others tt session run refl calm few;
}

-- A query of a block, which fails or succeeds.

abbrev looking : List (List ℕ)
looking = codes "?blocks 1 0 1" ∷ []

abbrev pair : Configuration
pair = record { controllers = controller 1 0xa1 ∷ []; namespaces = namespace 1 2 true ∷ []; attached = [] }

abbrev old : Layers
old = opening_layers pair medium

abbrev failed : Layers
failed = record old { subsystem = record old.subsystem { device = record medium { failures = 1 } } }

abbrev told_well : List ℕ
told_well = with_feed (read_text 1 1 0 1 (replicate 512 0) (Ok tt))

abbrev told_fault : List ℕ
told_fault = with_feed (read_text 1 1 0 1 (replicate 512 0) (Err (record {})))

passes : Session true two_blocks medium 1 (Running old) looking (told_well ∷ []) (Running old)
unfolding asked text_in looking_at looking_word_of lines_on_literals opening opening_world namespace_of
passes = (
  Running old,
  (
    old,
    record {
      bytes = replicate 512 0;
      result = Ok tt;
      whole = refl;
      reads = record {
        read = λ told. refl;
        content = λ told. refl;
        count = record { done = λ h. refl; failed = λ h. absurd (cc) };
        world = refl;
        controllers = refl;
      };
      drivers = refl;
      says = refl;
    },
    refl,
  ),
  refl,
)

fails : Session true two_blocks medium 1 (Running old) looking (told_fault ∷ []) (Running failed)
unfolding asked text_in looking_at looking_word_of lines_on_literals opening opening_world namespace_of
fails = (
  Running failed,
  (
    failed,
    record {
      bytes = replicate 512 0;
      result = Err (record {});
      whole = refl;
      reads = record {
        read = tt;
        content = λ told. refl;
        count = record { done = λ h. absurd (cc); failed = λ h. record { later = omega arith; risen = omega arith } };
        world = refl;
        controllers = refl;
      };
      drivers = refl;
      says = refl;
    },
    refl,
  ),
  refl,
)

counts : (failures_at medium (Running failed) ≡ 1) × (failures_at medium (Running old) ≡ 0)
unfolding opening
counts = (refl, refl)

zero-is-one : ◌≡◌ {A = ℕ} 1 0 → ⊥
zero-is-one e = absurd (cc)

pub session_needs_no_fault : SessionOverFaults → ⊥
session_needs_no_fault law =
    let same =
    law two_blocks medium 1 (Running old) (Running old) (Running failed) looking (told_well ∷ []) (told_fault ∷ [])
    (opening_has_tickets_once pair medium) passes fails in
    zero-is-one (sym counts.0 ∙ ap (λ standing. failures_at medium standing) same ∙ counts.1)

-- A session as a script.

refused : IsRefused two_blocks text [] DoesNotFit
unfolding lines lines_on_literals beginnings_on_literals config_fault
refused = record {
  grammar = record { spelled = refl; placed = (refl, (refl, (refl, (refl, (refl, tt))))) };
  starts = (5, refl);
  refused = refl;
  silent = refl;
}

short : length text ≤ 4194304
unfolding lines
short = omega arith

pub script_at_work : ScriptAtWork
unfolding refused
script_at_work = record {
  refused = refused;
  short = short;
  holds = refused_is_a_fault two_blocks text [] DoesNotFit refused short;
  line = refl;
}

-- Whether a session runs after `start`.

is-start : asked (codes "start") ≡ Sets Start
unfolding asked lines_on_literals
is-start = refl

fits : config_fault set_up.configuration (script_capacity 3) ≡ None
unfolding config_fault
fits = refl

a-fault : Some DoesNotFit ≡ None → ⊥
a-fault e = absurd (cc)

pub accepted_at_work : AcceptedAtWork
accepted_at_work = record {
  accepted = fits;
  runs = (runs_where_accepted true (script_capacity 3) larger 5 set_up (codes "start") is-start).1 fits;
  refused = λ runs. a-fault
      (sym fault ∙ (runs_where_accepted true two_blocks medium 5 set_up (codes "start") is-start).0 runs);
}

nothing-runs : CanRun (TurnOf true (script_capacity 3) larger) alone 5 (Setting set_up) [] → ⊥
unfolding asked lines_on_literals
nothing-runs runs = absurd (cc)

pub acceptance_needs_a_start : AcceptedAtAnyLine → ⊥
acceptance_needs_a_start law = nothing-runs ((law true (script_capacity 3) larger 5 set_up []).1 fits)

-- The end of the input.

with-line : (line : List ℕ) (rest : List (List ℕ)) → length line ≤ prefix_len is_of_line line → All IsOfLine rest
    → All IsOfLine (line ∷ rest)
with-line line rest whole others = All-cons IsOfLine line rest (whole-of_line line whole) others

of-line : All IsOfLine lines
unfolding lines
of-line =
    let last : List (List ℕ) = codes "namespace 1 blocks 3 shared" ∷ [] in
    with-line (codes "controller 1 host 0xa1") ([] ∷ codes "# a comment" ∷ last) (omega arith)
    (with-line [] (codes "# a comment" ∷ last) (omega arith)
    (with-line (codes "# a comment") last (omega arith)
    (with-line (codes "namespace 1 blocks 3 shared") [] (omega arith) (All-nil IsOfLine))))

ends : EndsIn (Setting set_up) (Some []) (Some (concat answers))
ends = answered_lines_are_a_session true two_blocks medium 1 (Setting nothing_set_up) (Setting set_up) lines answers []
    of-line session

pub end_at_work : EndAtWork
end_at_work = record {
  ends = ends;
  unique = λ other left after h calm.
      end_is_unique two_blocks medium 1 (Setting nothing_set_up) (Setting set_up) other (text_of lines) [] (Some [])
      left (Some (concat answers)) after tt ends h refl calm few;
}

of-looking : All IsOfLine looking
of-looking = with-line (codes "?blocks 1 0 1") [] (omega arith) (All-nil IsOfLine)

pub end_needs_no_fault : EndOverFaults → ⊥
end_needs_no_fault law =
    let ends-well = answered_lines_are_a_session true two_blocks medium 1 (Running old) (Running old) looking
    (told_well ∷ []) [] of-looking passes in
    let ends-badly = answered_lines_are_a_session true two_blocks medium 1 (Running old) (Running failed) looking
    (told_fault ∷ []) [] of-looking fails in
    let same = law two_blocks medium 1 (Running old) (Running old) (Running failed) (text_of looking) [] (Some [])
    (Some []) _ _ (opening_has_tickets_once pair medium) ends-well ends-badly in
    zero-is-one (sym counts.0 ∙ ap (λ standing. failures_at medium standing) same.0 ∙ counts.1)
