-- For `saved.rt`: a session whose query of blocks fails.
use Rattle.std.proofs.Common.{
  ◌+◌,
  ◌≡◌,
  ◌++◌,
  ◌∙◌,
  ℕ,
  true,
  List,
  [],
  ◌∷◌,
  length,
  Some,
  Err,
  refl,
  sym,
  ap,
  subst,
  arith,
}
use Rattle.std.specs.Prelude.{codes, replicate}
use Rattle.std.specs.List.{All, concat}
use Rattle.nvme_spec.specs.Configuration.{Configuration}
use Rattle.nvme_spec.specs.World.{namespace_of, opening_world}
use Rattle.nvme_machine.specs.Subsystems.{opening}
use Rattle.nvme_event.specs.Replies.{Reply}
use Rattle.nvme_event.specs.declared.event.FleetEvent.{FleetEvent}
use Rattle.nvme_fleet.specs.FleetStates.{Layers, opening_layers}
use Rattle.nvme_fleet.specs.Layers.{Run}
use Rattle.nvme_subsys.specs.OverMedium.{over}
use Rattle.script_text.specs.Lines.{text_lines}
use Rattle.live_text.specs.Asking.{asked}
use Rattle.live_text.specs.Looking.{looking_at, text_in}
use Rattle.live_text.specs.LookingWords.{looking_word_of}
use Rattle.live_views.specs.Looks.{read_text}
use Rattle.nvme_grammar.specs.Script.{configuration_of}
use Rattle.nvme_script.specs.Faults.{events_in}
use Rattle.nvme_grammar.proofs.OnLiterals.{lines_on_literals}
use Rattle.nvme_live.specs.Saying.{with_feed}
use Rattle.nvme_live.specs.SessionScripts.{session_text, text_of}
use Rattle.nvme_live.specs.SetUps.{nothing_set_up}
use Rattle.nvme_live.specs.Standings.{LineByLine, Setting, started_text}
use Rattle.nvme_live.specs.Taking.{IsOfLine}
use Rattle.nvme_session_runs.specs.Replays.{disk, one_block, opened, start_lines}
use Rattle.nvme_session_runs.specs.SavedSessions.{Continues, SavedWithFaults, an_ok}
use Rattle.nvme_session_runs.proofs.KnownStreams.{read-all, send-all, whole-lines}
use Rattle.nvme_session_runs.proofs.SavedRuns.{Turns, at, begun, started}

abbrev looking : List (List ℕ)
looking = start_lines ++ (codes "?blocks 1 0 1" ∷ [])

abbrev failed : Layers
failed = record opened { subsystem = record opened.subsystem { device = record disk { failures = 1 } } }

abbrev a_fault : List ℕ
a_fault = with_feed (read_text 4 1 0 1 (replicate 512 7) (Err (record {})))

fails : Turns 4 (at opened) (codes "?blocks 1 0 1") a_fault (at failed)
unfolding asked text_in looking_at looking_word_of lines_on_literals opening opening_world namespace_of
fails = (
  failed,
  record {
    bytes = replicate 512 7;
    result = Err (record {});
    whole = refl;
    reads = record {
      read = tt;
      content = λ told. refl;
      count = record { done = λ h. absurd (cc); failed = λ h. record { later = omega arith; risen = omega arith } };
      world = refl;
      controllers = refl;
    };
    calls = record { passed = 0; ends = omega arith; made = (disk, tt, refl) };
    drivers = refl;
    says = refl;
  },
  refl,
)

abbrev its-answers : List (List ℕ)
its-answers = an_ok ∷ an_ok ∷ with_feed started_text ∷ a_fault ∷ []

fewer : 5 ≡ 1 + length looking
unfolding start_lines
fewer = refl

of-looking : All IsOfLine looking
unfolding start_lines
of-looking = whole-lines looking (omega arith, (omega arith, (omega arith, (omega arith, tt))))

it-went : LineByLine Turns 1 (over (Setting nothing_set_up) disk) looking its-answers (at failed)
unfolding start_lines
it-went =
    let (a, first, (b, second, (c, third, same))) = started in (
      a,
      first,
      (
        b,
        second,
        (
          c,
          third,
          subst (λ s. LineByLine Turns 4 s (codes "?blocks 1 0 1" ∷ []) (a_fault ∷ []) (at failed)) same
              (at failed, fails, refl),
        ),
      ),
    )

failing : Continues one_block disk (over (Setting nothing_set_up) disk) 5 (at failed)
    (Some (text_of looking)) (Some []) (Some []) (Some (concat its-answers))
failing = record {
  lines = looking;
  answers = its-answers;
  counted = fewer;
  taken = read-all looking of-looking;
  went = it-went;
  sent = send-all its-answers [];
}

no-events : (old new : Layers) (events : List FleetEvent) (replies : List Reply) → events ≡ []
    → Run true old events replies new → new ≡ old
no-events old new [] [] none h = h
no-events old new [] (reply ∷ replies) none h = absurd h
no-events old new (event ∷ events) replies none h = absurd (cc)

silent : events_in (session_text [] looking its-answers) ≡ []
unfolding start_lines asked lines_on_literals looking_word_of
silent = refl

has-no-failures : (c : Configuration) → (opening_layers c disk).subsystem.device.failures ≡ 0
unfolding opening
has-no-failures c = refl

has-one : failed.subsystem.device.failures ≡ 1
has-one = refl

zero-is-one : ◌≡◌ {A = ℕ} 1 0 → ⊥
zero-is-one e = absurd (cc)

pub saving_needs_no_fault : SavedWithFaults → ⊥
unfolding failing
saving_needs_no_fault law =
    let found = law one_block [] disk (over (Setting nothing_set_up) disk) (at failed) 5
    (Some (text_of looking)) (Some []) (Some []) (Some []) (Some (concat its-answers)) begun failing in
    let text : List ℕ = session_text [] looking its-answers in
    let run = (found.kept.ran []).ran in
    let same = no-events (opening_layers (configuration_of (text_lines text)) disk) failed (events_in text)
    (found.kept.ran []).replies silent run in
    zero-is-one (sym has-one ∙ ap (λ (l : Layers). l.subsystem.device.failures) same
    ∙ has-no-failures (configuration_of (text_lines text)))
