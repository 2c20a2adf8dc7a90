-- For the law `kept_lines_are_a_run`: a session that is saved as a script.
use Rattle.std.proofs.Common.{
  ◌≡◌,
  ◌+◌,
  ℕ,
  Bool,
  true,
  false,
  List,
  [],
  ◌∷◌,
  ◌++◌,
  length,
  Option,
  None,
  Some,
  inl,
  inr,
  refl,
  sym,
  ap,
  subst,
  ◌∙◌,
  IsTrue,
  arith,
  suc,
  ◌≤◌,
}
use Rattle.std.specs.Prelude.{◌⊎◌, ◌&&◌, not, nat_lt, Ok, Err, Result, is_some, if◌then◌else◌}
use Rattle.std.proofs.lemmas.Bool.{and_left, and_right, false≢true}
use Rattle.nvme_event.specs.declared.event.FleetEvent.{FleetEvent}
use Rattle.nvme_event.specs.declared.seen.FleetSeen.{FleetSeen}
use Rattle.nvme_event.specs.declared.seen.FleetSeen.TheVariants as seen
use Rattle.nvme_event.specs.Replies.{Reply}
use Rattle.nvme_fleet.specs.FleetStates.{Layers, fleet_in}
use Rattle.nvme_mailbox.specs.Fleets as mailboxes
use Rattle.nvme_fleet.specs.Layers.{Run, Step}
use Rattle.nvme_transcript.specs.Transcript.{line_of, seen_line}
use Rattle.nvme_grammar.specs.Line.{line_at}
use Rattle.nvme_grammar.specs.Script.{events_of, said}
use Rattle.nvme_grammar.specs.declared.line.Line.{Line}
use Rattle.nvme_grammar.specs.declared.line.Line.TheVariants.{Blank, Controller, Namespace, Attached, Start, Event}
use Rattle.nvme_script.proofs.Texts.{event_of_line, events-append, events-one}
use Rattle.live_text.specs.Looking.{is_looking, looking_at, text_in}
use Rattle.live_text.specs.declared.looking.Looking.{Looking}
use Rattle.live_text.specs.declared.looking.Looking.TheVariants as look
use Rattle.live_text.specs.declared.fault.Why.TheVariants.{TooLong, LongText, MediumFailed}
use Rattle.live_text.specs.declared.asking.Asked.{Asked}
use Rattle.live_text.specs.declared.asking.Asked.TheVariants.{Fails, Nothing, Looks, Parses, Sets, Does}
use Rattle.nvme_live.specs.Answers.{AnswersLine, Shows, ShowsBlocks, block_of}
use Rattle.live_text.specs.Asking.{asked, is_mark, line_asked}
use Rattle.live_text.proofs.Marks.{asked-look}
use Rattle.nvme_live.specs.Standings.{Standing, Running, Session}
use Rattle.nvme_live.specs.Keeping.{
  Looked,
  LooksWell,
  RunsOn,
  KeptLinesRunAmidLooks,
  KeptLinesAreARun,
  KeptLinesTranscribe,
  bytes_if,
  event_answers,
  is_block_look,
  is_event,
  is_kept,
  is_refusal,
  kept_lines,
  line_if,
  LookWell,
  RunAmidLooks,
}
use Rattle.nvme_spec.specs.Blocks.{CountsFaults, Device}
use Rattle.nvme_spec.specs.Configuration.{Capacity}
use Rattle.nvme_script.specs.Faults.{Transcribes}
use Rattle.nvme_subsys.specs.Looking.{Reads}
use Rattle.nvme_live.specs.Saying.{with_feed}
use Rattle.live_text.specs.Faults.{refusal}
use Rattle.nvme_spec.specs.declared.medium.MediumFault.{MediumFault}
use Rattle.live_views.specs.Looks.{read_text}
use Rattle.std.specs.List.{list_all}
use Rattle.std.proofs.lemmas.List.{append-nil, append_assoc}
use Rattle.nvme_script.proofs.Running.{IsRun, Transcribes-append}

-- a line that is parsed, as a query or not
pub asked-other : (line : List ℕ)
    → is_looking line ≡ false → (asked line ≡ Fails TooLong) ⊎ (asked line ≡ line_asked line (line_at line))
unfolding asked
asked-other line none_so = by (nat_lt 1048576 (length line)) refl
  where
    by : (t : Bool) → nat_lt 1048576 (length line) ≡ t
        → (asked line ≡ Fails TooLong) ⊎ (asked line ≡ line_asked line (line_at line))
    by true e = inl (rw e refl)
    by false e = inr (rw (e, none_so) refl)

blank-line : (line : List ℕ) (o : Option Line) → line_asked line o ≡ Nothing → o ≡ Some Blank
blank-line line None e = absurd (cc)
blank-line line (Some Blank) e = refl
blank-line line (Some (Controller k)) e = absurd (cc)
blank-line line (Some (Namespace n)) e = absurd (cc)
blank-line line (Some (Attached k n)) e = absurd (cc)
blank-line line (Some Start) e = absurd (cc)
blank-line line (Some (Event event)) e = absurd (cc)

same-event : (a b : FleetEvent) → Does a ≡ Does b → a ≡ b
same-event a b e = cc

event-line : (line : List ℕ) (o : Option Line) (event : FleetEvent)
    → line_asked line o ≡ Does event → o ≡ Some (Event event)
event-line line None event e = absurd (cc)
event-line line (Some Blank) event e = absurd (cc)
event-line line (Some (Controller k)) event e = absurd (cc)
event-line line (Some (Namespace n)) event e = absurd (cc)
event-line line (Some (Attached k n)) event e = absurd (cc)
event-line line (Some Start) event e = absurd (cc)
event-line line (Some (Event other)) event e = ap (λ x. Some (Event x)) (same-event other event e)

-- the lines that are answered with a text of the session
abbrev pub is_shown : Asked → Bool
is_shown (Fails why) = false
is_shown Nothing = false
is_shown (Looks looking) = true
is_shown (Parses says) = true
is_shown (Sets says) = false
is_shown (Does event) = false

line-shown : (line : List ℕ) (o : Option Line) → is_shown (line_asked line o) ≡ false
line-shown line None = refl
line-shown line (Some Blank) = refl
line-shown line (Some (Controller k)) = refl
line-shown line (Some (Namespace n)) = refl
line-shown line (Some (Attached k n)) = refl
line-shown line (Some Start) = refl
line-shown line (Some (Event event)) = refl

other-shown : (line : List ℕ)
    → is_shown (asked line) ≡ true → (asked line ≡ Fails TooLong) ⊎ (asked line ≡ line_asked line (line_at line)) → ⊥
other-shown line shown (inl f) = false≢true (sym (ap is_shown f) ∙ shown)
other-shown line shown (inr f) = false≢true (sym (ap is_shown f ∙ line-shown line (line_at line)) ∙ shown)

pub shows-look : (line : List ℕ) → is_shown (asked line) ≡ true → is_looking line ≡ true
shows-look line shown = by (is_looking line) refl
  where
    by : (t : Bool) → is_looking line ≡ t → is_looking line ≡ true
    by true is = is
    by false is = absurd (other-shown line shown (asked-other line is))

-- no line of an event begins with `!`
no-bang : (event : FleetEvent) (what : FleetSeen) (bytes : List ℕ) → is_refusal (seen_line event what bytes) ≡ false
no-bang event (seen.Up up) bytes = refl
no-bang event (seen.Placed (Ok ticket)) bytes = refl
no-bang event (seen.Placed (Err refusal)) bytes = refl
no-bang event (seen.Rung (Ok rung)) bytes = refl
no-bang event (seen.Rung (Err fault)) bytes = refl
no-bang event (seen.Fetched fetched) bytes = refl
no-bang event (seen.Executed executed) bytes = refl
no-bang event (seen.Polled polled) bytes = refl
no-bang event seen.Reset bytes = refl
no-bang event seen.Stored bytes = refl
no-bang event seen.Outside bytes = refl
no-bang event seen.Wrote bytes = refl
no-bang event seen.Cycled bytes = refl
no-bang event seen.NoController bytes = refl
no-bang event seen.NoDriver bytes = refl
no-bang event seen.NotRaw bytes = refl

-- A line is not saved; or it is, and has no effect; or it is an event, and its answer is its line.
abbrev pub IsBlank : List ℕ → List ℕ → Type 0
IsBlank line answer = (is_kept line answer ≡ true) × (line_at line ≡ Some Blank)

pub record IsEventLine (line answer : List ℕ) (event : FleetEvent) : Type 0 where
  pub kept : is_kept line answer ≡ true
  pub is : line_at line ≡ Some (Event event)

pub refused-line : (line answer : List ℕ) → is_refusal answer ≡ true → is_kept line answer ≡ false
refused-line line answer bang = and_right (not (is_looking line)) (not (is_refusal answer)) (ap not bang)

pub looking-line : (line answer : List ℕ) → is_looking line ≡ true → is_kept line answer ≡ false
looking-line line answer looks = and_left (not (is_looking line)) (not (is_refusal answer)) (ap not looks)

pub kept-line : (line answer : List ℕ) → is_looking line ≡ false → is_refusal answer ≡ false
    → is_kept line answer ≡ true
kept-line line answer none_so none = rw (none_so, none) refl

blank-of : (line : List ℕ) → asked line ≡ Nothing
    → (asked line ≡ Fails TooLong) ⊎ (asked line ≡ line_asked line (line_at line)) → line_at line ≡ Some Blank
blank-of line e (inl f) = absurd (cc)
blank-of line e (inr f) = blank-line line (line_at line) (sym f ∙ e)

-- a line without effect
pub silent-line : (line answer : List ℕ) → asked line ≡ Nothing → is_refusal answer ≡ false
    → (is_kept line answer ≡ false) ⊎ IsBlank line answer
silent-line line answer e none = by (is_looking line) refl
  where
    by : (t : Bool) → is_looking line ≡ t → (is_kept line answer ≡ false) ⊎ IsBlank line answer
    by true looks = inl (looking-line line answer looks)
    by false none_so = inr (kept-line line answer none_so none, blank-of line e (asked-other line none_so))

does-look : (line : List ℕ) (event : FleetEvent) → asked line ≡ Does event → is_mark (asked line) ≡ true → ⊥
does-look line event e mark = false≢true (sym (ap is_mark e) ∙ mark)

event-of : (line : List ℕ) (event : FleetEvent) → asked line ≡ Does event
    → (asked line ≡ Fails TooLong) ⊎ (asked line ≡ line_asked line (line_at line)) → line_at line ≡ Some (Event event)
event-of line event e (inl f) = absurd (cc)
event-of line event e (inr f) = event-line line (line_at line) event (sym f ∙ e)

does-no-look : (line : List ℕ) (event : FleetEvent) → asked line ≡ Does event → is_looking line ≡ false
does-no-look line event e = by (is_looking line) refl
  where
    by : (t : Bool) → is_looking line ≡ t → is_looking line ≡ false
    by true looks = absurd (does-look line event e (asked-look line looks))
    by false none_so = none_so

pub event-line-of : (line answer : List ℕ) (event : FleetEvent) (reply : Reply)
    → asked line ≡ Does event → answer ≡ line_of event reply → IsEventLine line answer event
event-line-of line answer event reply e says =
    let none_so = does-no-look line event e in record {
      kept = kept-line line answer none_so (ap is_refusal says ∙ no-bang event reply.seen reply.bytes);
      is = event-of line event e (asked-other line none_so);
    }

-- The share of a line after `start` in the saved lines, and its effect, by some notion of a run.
pub record AddsNothing (Ran : Layers → List FleetEvent → List Reply → Layers → Type 0) (old : Layers)
    (line answer : List ℕ) (new : Layers) : Type 0 where
  pub ran : Ran old [] [] new
  pub which : (is_kept line answer ≡ false) ⊎ IsBlank line answer

pub record AddsEvent (Ran : Layers → List FleetEvent → List Reply → Layers → Type 0) (old : Layers)
    (line answer : List ℕ) (new : Layers) : Type 0 where
  pub event : FleetEvent
  pub reply : Reply
  pub ran : Ran old (event ∷ []) (reply ∷ []) new
  pub says : answer ≡ line_of event reply
  pub which : IsEventLine line answer event

-- a notion of a run, with requirements on queries of blocks
pub record IsRunOfLines (tells : Bool) (Ran : Layers → List FleetEvent → List Reply → Layers → Type 0)
    (Fine : ℕ → List ℕ → List ℕ → Type 0) : Type 0 where
  pub run : IsRun Ran
  pub one : (old new : Layers) (event : FleetEvent) (reply : Reply)
      → Step tells old event reply new → Ran old (event ∷ []) (reply ∷ []) new
  pub glance : (n : ℕ) (line answer : List ℕ) (m slba count : ℕ) (old new : Layers)
      → asked line ≡ Looks (look.Blocks m slba count) → Fine n line answer
      → Shows tells n (look.Blocks m slba count) old answer new → Ran old [] [] new

abbrev pub AllFine : (ℕ → List ℕ → List ℕ → Type 0) → ℕ → List (List ℕ) → List (List ℕ) → Type 0
AllFine Fine n [] answers = Unit {0}
AllFine Fine n (line ∷ lines) [] = Unit {0}
AllFine Fine n (line ∷ lines) (answer ∷ answers) = Fine n line answer × AllFine Fine (n + 1) lines answers

-- the saved lines after `start`
abbrev pub is_behind : Line → Bool
is_behind Blank = true
is_behind (Event event) = true
is_behind (Controller k) = false
is_behind (Namespace n) = false
is_behind (Attached k n) = false
is_behind Start = false

pub record AreBehind (kept : List (List ℕ)) : Type 0 where
  pub spelled : list_all (λ line. is_some (line_at line)) kept ≡ true
  pub behind : list_all is_behind (said kept) ≡ true

pub record RunsBehind (Ran : Layers → List FleetEvent → List Reply → Layers → Type 0) (old : Layers)
    (lines answers : List (List ℕ)) (new : Standing) : Type 0 where
  pub runs : RunsOn Ran old lines answers new
  pub kept : AreBehind (kept_lines lines answers)

first-line : (line : List ℕ) (rest : List (List ℕ))
    → events_of (line ∷ rest) ≡ event_of_line (line_at line) ++ events_of rest
first-line line rest = events-append (line ∷ []) rest ∙ ap (λ es. es ++ events_of rest) (events-one line)

module _ (line answer : List ℕ) (kept : is_kept line answer ≡ true) (rest : List (List ℕ)) where
  pub events-kept : events_of (line_if (is_kept line answer) line rest) ≡ event_of_line (line_at line) ++ events_of rest
  events-kept = rw kept (first-line line rest)

  pub behind-kept : (says : Line) → line_at line ≡ Some says → is_behind says ≡ true → AreBehind rest
      → AreBehind (line_if (is_kept line answer) line rest)
  behind-kept says is may h = record {
    spelled = rw kept (rw is h.spelled);
    behind = rw kept (rw is (rw may h.behind));
  }

pub behind-dropped : (line answer : List ℕ) (rest : List (List ℕ)) → is_kept line answer ≡ false → AreBehind rest
    → AreBehind (line_if (is_kept line answer) line rest)
behind-dropped line answer rest none h = rw none h

pub events-dropped : (line answer : List ℕ) (rest : List (List ℕ))
    → is_kept line answer ≡ false → events_of (line_if (is_kept line answer) line rest) ≡ events_of rest
events-dropped line answer rest none = rw none refl

pub bytes-dropped : (line answer rest : List ℕ)
    → is_kept line answer ≡ false → bytes_if (is_kept line answer && is_event (line_at line)) answer rest ≡ rest
bytes-dropped line answer rest none = rw none refl

pub bytes-silent : (line answer rest : List ℕ) → is_kept line answer ≡ true → is_event (line_at line) ≡ false
    → bytes_if (is_kept line answer && is_event (line_at line)) answer rest ≡ rest
bytes-silent line answer rest kept none = rw (kept, none) refl

bytes-event : (line answer rest : List ℕ) (event : FleetEvent) → IsEventLine line answer event
    → bytes_if (is_kept line answer && is_event (line_at line)) answer rest ≡ answer ++ rest
bytes-event line answer rest event h = rw (h.kept, h.is) refl

module _ (tells : Bool) (Ran : Layers → List FleetEvent → List Reply → Layers → Type 0)
    (Fine : ℕ → List ℕ → List ℕ → Type 0) (is : IsRunOfLines tells Ran Fine) where
  same-ran : (old new : Layers) → new ≡ old → Ran old [] [] new
  same-ran old new e = subst (λ (l : Layers). Ran old [] [] l) (sym e) (is.run.nothing old)

  look-ran : (n : ℕ) (line answer : List ℕ) (looking : Looking) (old new : Layers)
      → asked line ≡ Looks looking → Fine n line answer → Shows tells n looking old answer new → Ran old [] [] new
  look-ran n line answer look.Help old new e fine h = same-ran old new h.1
  look-ran n line answer (look.HelpOn form) old new e fine h = same-ran old new h.1
  look-ran n line answer look.Namespaces old new e fine h = same-ran old new h.1
  look-ran n line answer look.Attached old new e fine h = same-ran old new h.1
  look-ran n line answer (look.Reservation m) old new e fine h = same-ran old new h.1
  look-ran n line answer (look.Driver k) old new e fine h = same-ran old new h.1
  look-ran n line answer (look.Window k address len) old new e fine h = same-ran old new h.1
  look-ran n line answer (look.Register k offset) old new e fine h = same-ran old new h.1
  look-ran n line answer (look.Registers k) old new e fine h = same-ran old new h.1
  look-ran n line answer (look.Queues k) old new e fine h = same-ran old new h.1
  look-ran n line answer (look.Fetched k) old new e fine h = same-ran old new h.1
  look-ran n line answer (look.Blocks m slba count) old new e fine h =
      is.glance n line answer m slba count old new e fine h

  line-adds : (n : ℕ) (old : Layers) (line answer : List ℕ) (new : Layers) (q : Asked)
      → asked line ≡ q → Fine n line answer → AnswersLine tells n q old answer new
      → AddsNothing Ran old line answer new ⊎ AddsEvent Ran old line answer new
  line-adds n old line answer new (Fails why) e fine h =
      inl (record { ran = same-ran old new h.1; which = inl (refused-line line answer (ap is_refusal h.0)) })
  line-adds n old line answer new Nothing e fine h =
      inl (record { ran = same-ran old new h.1; which = silent-line line answer e (ap is_refusal h.0) })
  line-adds n old line answer new (Looks looking) e fine h = inl (record {
    ran = look-ran n line answer looking old new e fine h;
    which = inl (looking-line line answer (shows-look line (ap is_shown e)));
  })
  line-adds n old line answer new (Parses says) e fine h =
      inl
      (record { ran = same-ran old new h.1; which = inl (looking-line line answer (shows-look line (ap is_shown e))) })
  line-adds n old line answer new (Sets says) e fine h =
      inl (record { ran = same-ran old new h.1; which = inl (refused-line line answer (ap is_refusal h.0)) })
  line-adds n old line answer new (Does event) e fine h =
      inr (record {
        event = event;
        reply = h.reply;
        ran = is.one old new event h.reply h.step;
        says = h.says;
        which = event-line-of line answer event h.reply e h.says;
      })

  -- a line before others
  module _ (old mid : Layers) (line answer : List ℕ) (lines answers : List (List ℕ)) (new : Standing)
      (h : RunsBehind Ran mid lines answers new) where
    abbrev kept : List (List ℕ)
    kept = kept_lines lines answers

    -- it adds nothing
    module _ (ran : Ran old [] [] mid) (same : events_of (line_if (is_kept line answer) line kept) ≡ events_of kept)
        (silent : bytes_if (is_kept line answer && is_event (line_at line)) answer (event_answers lines answers)
        ≡ event_answers lines answers) where
      silent-more : RunsOn Ran old (line ∷ lines) (answer ∷ answers) new
      silent-more = record {
        last = h.runs.last;
        is = h.runs.is;
        ran = λ before.
            subst (λ (fs : List FleetEvent). Transcribes Ran old fs h.runs.last (Some before) (Some (before ++ bytes_if
            (is_kept line answer && is_event (line_at line)) answer (event_answers lines answers)))) (sym same)
            (subst (λ (bs : List ℕ).
            Transcribes Ran old (events_of kept) h.runs.last (Some before) (Some (before ++ bs))) (sym silent)
            (Transcribes-append Ran is.run [] (events_of kept) old mid h.runs.last (Some before) (Some before)
            (Some (before ++ event_answers lines answers))
            (record { replies = []; ran = ran; wrote = sym (append-nil before) }) (h.runs.ran before)));
      }

    nothing-more : AddsNothing Ran old line answer mid → RunsBehind Ran old (line ∷ lines) (answer ∷ answers) new
    nothing-more a = by a.which
      where
        by : (is_kept line answer ≡ false) ⊎ IsBlank line answer
            → RunsBehind Ran old (line ∷ lines) (answer ∷ answers) new
        by (inl none) = record {
          runs = silent-more a.ran (events-dropped line answer kept none)
              (bytes-dropped line answer (event_answers lines answers) none);
          kept = behind-dropped line answer kept none h.kept;
        }
        by (inr (so, blank)) = record {
          runs = silent-more a.ran (events-kept line answer so kept ∙ ap (λ o. event_of_line o ++ events_of kept) blank)
              (bytes-silent line answer (event_answers lines answers) so (ap is_event blank));
          kept = behind-kept line answer so kept Blank blank refl h.kept;
        }

    -- it is an event
    event-more : AddsEvent Ran old line answer mid → RunsBehind Ran old (line ∷ lines) (answer ∷ answers) new
    event-more a =
        let es : events_of (line_if (is_kept line answer) line kept) ≡ a.event ∷ events_of kept =
        events-kept line answer a.which.kept kept ∙ ap (λ o. event_of_line o ++ events_of kept) a.which.is in
        record {
          runs = record {
            last = h.runs.last;
            is = h.runs.is;
            ran = λ before.
                subst
                (λ (fs : List FleetEvent). Transcribes Ran old fs h.runs.last (Some before) (Some (before ++ bytes_if
                (is_kept line answer && is_event (line_at line)) answer (event_answers lines answers)))) (sym es)
                (subst (λ (bs : List ℕ). Transcribes Ran old (a.event ∷ events_of kept) h.runs.last (Some before)
                (Some (before ++ bs))) (sym (bytes-event line answer (event_answers lines answers) a.event a.which))
                (subst (λ (bs : List ℕ). Transcribes Ran old (a.event ∷ events_of kept) h.runs.last (Some before)
                (Some bs)) (append_assoc before answer (event_answers lines answers))
                (Transcribes-append Ran is.run (a.event ∷ []) (events_of kept) old mid h.runs.last (Some before)
                (Some (before ++ answer)) (Some ((before ++ answer) ++ event_answers lines answers))
                (record {
                  replies = a.reply ∷ [];
                  ran = a.ran;
                  wrote = ap (λ bs. before ++ bs) (a.says ∙ sym (append-nil (line_of a.event a.reply)));
                }) (h.runs.ran (before ++ answer)))));
          };
          kept = behind-kept line answer a.which.kept kept (Event a.event) a.which.is refl h.kept;
        }

    more : AddsNothing Ran old line answer mid ⊎ AddsEvent Ran old line answer mid
        → RunsBehind Ran old (line ∷ lines) (answer ∷ answers) new
    more (inl a) = nothing-more a
    more (inr a) = event-more a

  pub runs-behind : (size : Capacity) (d : Device) (n : ℕ) (old : Layers) (lines answers : List (List ℕ))
      (new : Standing) → Session tells size d n (Running old) lines answers new → AllFine Fine n lines answers
      → RunsBehind Ran old lines answers new
  runs-behind size d n old [] [] new h fine = record {
    runs =
        record { last = old; is = h; ran = λ before. record { replies = []; ran = is.run.nothing old; wrote = refl } };
    kept = record { spelled = refl; behind = refl };
  }
  runs-behind size d n old [] (answer ∷ answers) new h fine = absurd h
  runs-behind size d n old (line ∷ lines) [] new h fine = absurd h
  runs-behind size d n old (line ∷ lines) (answer ∷ answers) new (mid, (later, turn, at), rest) fine =
      more old later line answer lines answers new
      (runs-behind size d (n + 1) later lines answers new
      (subst (λ (s : Standing). Session tells size d (n + 1) s lines answers new) at rest) fine.1)
      (line-adds n old line answer later (asked line) refl fine.0 turn)

-- A run of both layers, if no query of blocks has changed anything.
run-behind : (tells : Bool) (es fs : List FleetEvent) (rs qs : List Reply) (a b c : Layers)
    → Run tells a es rs b → Run tells b fs qs c → Run tells a (es ++ fs) (rs ++ qs) c
run-behind tells [] fs [] qs a b c h k = subst (λ (l : Layers). Run tells l fs qs c) h k
run-behind tells [] fs (r ∷ rs) qs a b c h k = absurd h
run-behind tells (e ∷ es) fs [] qs a b c h k = absurd h
run-behind tells (e ∷ es) fs (r ∷ rs) qs a b c (mid, step, rest) k =
    (mid, step, run-behind tells es fs rs qs mid b c rest k)

run-long : (tells : Bool) (es : List FleetEvent) (rs : List Reply) (a b : Layers)
    → Run tells a es rs b → length es ≡ length rs
run-long tells [] [] a b h = refl
run-long tells [] (r ∷ rs) a b h = absurd h
run-long tells (e ∷ es) [] a b h = absurd h
run-long tells (e ∷ es) (r ∷ rs) a b (mid, step, rest) = ap suc (run-long tells es rs mid b rest)

pub is_run : (tells : Bool) → IsRun (Run tells)
is_run tells = record { nothing = λ s. refl; behind = run-behind tells; long = run-long tells }

pub same-layers : (tells : Bool) (first : ℕ) (old new : Layers) (bytes : List ℕ) (done : Unit {0}) → IsTrue tells
    → Reads tells first old.subsystem bytes (Ok done) new.subsystem → new.drivers ≡ old.drivers → new ≡ old
same-layers tells first old new bytes done told h drivers = λ i. record {
  subsystem = record {
    world = h.world i;
    device = record { content = h.content told i; failures = h.count.done refl i };
    controllers = h.controllers i;
  };
  drivers = drivers i;
}

look-leaves : (tells : Bool) (n m slba count : ℕ) (old new : Layers) (answer : List ℕ) (o : Option ℕ) → IsTrue tells
    → (answer ≡ with_feed (refusal n MediumFailed) → ⊥) → ShowsBlocks o tells n m slba count old answer new → new ≡ old
look-leaves tells n m slba count old new answer None told well h = h.1
look-leaves tells n m slba count old new answer (Some first) told well h = by h.result h.reads h.says
  where
    by : (r : Result (Unit {0}) MediumFault) → Reads tells first old.subsystem h.bytes r new.subsystem
        → answer ≡ with_feed (read_text n m slba count h.bytes r) → new ≡ old
    by (Ok done) reads says = same-layers tells first old new h.bytes done told reads h.drivers
    by (Err fault) reads says = absurd (well says)

well-glance : (tells : Bool) (n : ℕ) (line answer : List ℕ) (m slba count : ℕ) (old new : Layers)
    → asked line ≡ Looks (look.Blocks m slba count) → LooksWell tells n line answer
    → Shows tells n (look.Blocks m slba count) old answer new → Run tells old [] [] new
well-glance tells n line answer m slba count old new e well h =
    let fine = well (ap is_block_look e) in
    look-leaves tells n m slba count old new answer (block_of m slba count old) fine.0 fine.1 h

pub runs-well : (tells : Bool) → IsRunOfLines tells (Run tells) (LooksWell tells)
runs-well tells =
    record { run = is_run tells; one = λ old new event reply step. (new, step, refl); glance = well-glance tells }

pub all-well : (tells : Bool) (n : ℕ) (lines answers : List (List ℕ))
    → LookWell tells n lines answers → AllFine (LooksWell tells) n lines answers
all-well tells n [] answers h = tt
all-well tells n (line ∷ lines) [] h = tt
all-well tells n (line ∷ lines) (answer ∷ answers) h = (h.0, all-well tells (n + 1) lines answers h.1)

pub well-behind : (tells : Bool) (size : Capacity) (d : Device) (n : ℕ) (old : Layers) (lines answers : List (List ℕ))
    (new : Standing) → Session tells size d n (Running old) lines answers new → LookWell tells n lines answers
    → RunsBehind (Run tells) old lines answers new
well-behind tells size d n old lines answers new h well = runs-behind tells (Run tells) (LooksWell tells)
    (runs-well tells) size d n old lines answers new h (all-well tells n lines answers well)

pub kept_lines_are_a_run : KeptLinesAreARun
kept_lines_are_a_run tells size d n old lines answers new h well =
    (well-behind tells size d n old lines answers new h well).runs

-- A run with queries of blocks in it.
looked-none : (tells : Bool) (l : Layers) → Looked tells l l
looked-none tells l =
    record { content = λ told. refl; count = omega arith; world = refl; controllers = refl; drivers = refl }

looked-more : (tells : Bool) (a b c : Layers) → Looked tells a b → Looked tells b c → Looked tells a c
looked-more tells a b c h k = record {
  content = λ told. k.content told ∙ h.content told;
  count = omega (arith, h.count, k.count);
  world = k.world ∙ h.world;
  controllers = k.controllers ∙ h.controllers;
  drivers = k.drivers ∙ h.drivers;
}

looked-first : (tells : Bool) (es : List FleetEvent) (rs : List Reply) (a b c : Layers)
    → Looked tells a b → RunAmidLooks tells b es rs c → RunAmidLooks tells a es rs c
looked-first tells [] [] a b c h k = looked-more tells a b c h k
looked-first tells [] (r ∷ rs) a b c h k = absurd k
looked-first tells (e ∷ es) [] a b c h k = absurd k
looked-first tells (e ∷ es) (r ∷ rs) a b c h (seen, mid, looked, step, rest) =
    (seen, mid, looked-more tells a b seen h looked, step, rest)

amid-behind : (tells : Bool) (es fs : List FleetEvent) (rs qs : List Reply) (a b c : Layers)
    → RunAmidLooks tells a es rs b → RunAmidLooks tells b fs qs c → RunAmidLooks tells a (es ++ fs) (rs ++ qs) c
amid-behind tells [] fs [] qs a b c h k = looked-first tells fs qs a b c h k
amid-behind tells [] fs (r ∷ rs) qs a b c h k = absurd h
amid-behind tells (e ∷ es) fs [] qs a b c h k = absurd h
amid-behind tells (e ∷ es) fs (r ∷ rs) qs a b c (seen, mid, looked, step, rest) k =
    (seen, mid, looked, step, amid-behind tells es fs rs qs mid b c rest k)

amid-long : (tells : Bool) (es : List FleetEvent) (rs : List Reply) (a b : Layers)
    → RunAmidLooks tells a es rs b → length es ≡ length rs
amid-long tells [] [] a b h = refl
amid-long tells [] (r ∷ rs) a b h = absurd h
amid-long tells (e ∷ es) [] a b h = absurd h
amid-long tells (e ∷ es) (r ∷ rs) a b (seen, mid, looked, step, rest) = ap suc (amid-long tells es rs mid b rest)

pub amid_is_run : (tells : Bool) → IsRun (RunAmidLooks tells)
amid_is_run tells = record { nothing = looked-none tells; behind = amid-behind tells; long = amid-long tells }

pub looked-at : (tells : Bool) (n m slba count : ℕ) (old new : Layers) (answer : List ℕ) (o : Option ℕ)
    → ShowsBlocks o tells n m slba count old answer new → Looked tells old new
looked-at tells n m slba count old new answer None h =
    subst (λ (l : Layers). Looked tells old l) (sym h.1) (looked-none tells old)
looked-at tells n m slba count old new answer (Some first) h = record {
  content = h.reads.content;
  count = never-less h.result h.reads.count;
  world = h.reads.world;
  controllers = h.reads.controllers;
  drivers = h.drivers;
}
  where
    never-less : (r : Result (Unit {0}) MediumFault)
        → CountsFaults old.subsystem.device.failures new.subsystem.device.failures r
        → old.subsystem.device.failures ≤ new.subsystem.device.failures
    never-less (Ok done) c = omega (arith, c.done refl)
    never-less (Err fault) c = (c.failed refl).later

any-glance : (tells : Bool) (n : ℕ) (line answer : List ℕ) (m slba count : ℕ) (old new : Layers)
    → asked line ≡ Looks (look.Blocks m slba count) → Unit {0}
    → Shows tells n (look.Blocks m slba count) old answer new → RunAmidLooks tells old [] [] new
any-glance tells n line answer m slba count old new e fine h =
    looked-at tells n m slba count old new answer (block_of m slba count old) h

pub runs-amid : (tells : Bool) → IsRunOfLines tells (RunAmidLooks tells) (λ n line answer. Unit {0})
runs-amid tells = record {
  run = amid_is_run tells;
  one = λ old new event reply step. (old, new, looked-none tells old, step, looked-none tells new);
  glance = any-glance tells;
}

pub all-fine : (n : ℕ) (lines answers : List (List ℕ)) → AllFine (λ n line answer. Unit {0}) n lines answers
all-fine n [] answers = tt
all-fine n (line ∷ lines) [] = tt
all-fine n (line ∷ lines) (answer ∷ answers) = (tt, all-fine (n + 1) lines answers)

pub amid-looks-behind : (tells : Bool) (size : Capacity) (d : Device) (n : ℕ) (old : Layers)
    (lines answers : List (List ℕ)) (new : Standing) → Session tells size d n (Running old) lines answers new
    → RunsBehind (RunAmidLooks tells) old lines answers new
amid-looks-behind tells size d n old lines answers new h = runs-behind tells (RunAmidLooks tells)
    (λ n line answer. Unit {0}) (runs-amid tells) size d n old lines answers new h (all-fine n lines answers)

pub kept_lines_run_amid_looks : KeptLinesRunAmidLooks
kept_lines_run_amid_looks tells size d n old lines answers new h =
    (amid-looks-behind tells size d n old lines answers new h).runs

-- A run of both layers is one of the mailboxes.
pub mailboxes-ran : (tells : Bool) (old new : Layers) (events : List FleetEvent) (replies : List Reply)
    → Run tells old events replies new → mailboxes.Run tells (fleet_in old) events replies (fleet_in new)
mailboxes-ran tells old new [] [] h = ap fleet_in h
mailboxes-ran tells old new [] (reply ∷ replies) h = absurd h
mailboxes-ran tells old new (event ∷ events) [] h = absurd h
mailboxes-ran tells old new (event ∷ events) (reply ∷ replies) (mid, step, rest) =
    (fleet_in mid, step.mailboxes, mailboxes-ran tells mid new events replies rest)

same-last : (a b : Layers) → Running a ≡ Running b → b ≡ a
same-last a b e = cc

pub kept_lines_transcribe : KeptLinesTranscribe
kept_lines_transcribe tells size d n old last lines answers h well before =
    let runs = kept_lines_are_a_run tells size d n old lines answers (Running last) h well in
    let ran = runs.ran before in
    record {
      replies = ran.replies;
      ran = subst (λ (l : Layers). mailboxes.Run tells (fleet_in old) (events_of (kept_lines lines answers)) ran.replies
          (fleet_in l)) (same-last last runs.last runs.is)
          (mailboxes-ran tells old runs.last (events_of (kept_lines lines answers)) ran.replies ran.ran);
      wrote = ran.wrote;
    }
