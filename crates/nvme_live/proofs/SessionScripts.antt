-- Proof of the law `session_is_a_script`: a session as a script.
use Rattle.std.proofs.Common.{
  ◌≡◌,
  ◌+◌,
  ℕ,
  Bool,
  true,
  false,
  List,
  [],
  ◌∷◌,
  ◌++◌,
  Option,
  None,
  Some,
  inl,
  inr,
  refl,
  sym,
  ap,
  subst,
  ◌∙◌,
  append_assoc,
  append-nil,
}
use Rattle.std.specs.Prelude.{◌⊎◌, ◌&&◌, ◌||◌, ◌==◌, is_some, codes}
use Rattle.std.specs.List.{list_all, list_any, filter_map}
use Rattle.std.specs.Io.KnownBytes.{Appends, Keeps}
use Rattle.std.proofs.KnownBytes.{Appends-nil}
use Rattle.std.proofs.lemmas.Bool.{false≢true}
use Rattle.std.proofs.lemmas.List.Elements.{filter_map-append}
use Rattle.std.proofs.lemmas.List.Folds.{list_all-append, list_any-append}
use Rattle.script_text.specs.Lines.{text_lines}
use Rattle.nvme_grammar.specs.Line.{line_at}
use Rattle.nvme_grammar.specs.Script.{
  ArePlaced,
  Begins,
  attachment_in,
  configuration_in,
  configuration_of,
  controller_in,
  events_of,
  fits,
  fits_behind,
  is_start,
  namespace_in,
  said,
  start_of,
  event_in,
}
use Rattle.nvme_grammar.specs.declared.line.Line.{Line}
use Rattle.nvme_grammar.specs.declared.line.Line.TheVariants.{Blank, Controller, Namespace, Attached, Start, Event}
use Rattle.nvme_grammar.proofs.ReadingLemmas.{started}
use Rattle.nvme_live.specs.SessionScripts.{behind, session_text, text_of}
use Rattle.nvme_live.specs.Conversations.{ReadsLines}
use Rattle.nvme_live.specs.Streams.{LineCall, ReadsBy}
use Rattle.nvme_live.specs.Taking.{IsOfLine}
use Rattle.script_text.specs.Streams.{WriteCall}
use Rattle.nvme_live.proofs.Lines.{behind-feed, some-line}
use Rattle.nvme_spec.specs.Blocks.{Device}
use Rattle.nvme_spec.specs.Configuration.{Capacity, Configuration, config_fault}
use Rattle.nvme_live.specs.SetUps.{SetUp, nothing_set_up, set_by, with_line}
use Rattle.nvme_spec.specs.declared.config.ConfigFault.{ConfigFault}
use Rattle.nvme_spec.specs.MediumCalls.{MediumCall}
use Rattle.nvme_event.specs.declared.event.FleetEvent.{FleetEvent}
use Rattle.nvme_event.specs.Replies.{Reply}
use Rattle.nvme_fleet.specs.FleetStates.{Layers, fleet_in, opening_layers}
use Rattle.nvme_mailbox.specs.Fleets.{Fleet, opening}
use Rattle.nvme_fleet.proofs.FleetOpening.{opened-mailboxes}
use Rattle.nvme_machine.specs.Subsystems as machine
use Rattle.std.specs.Prelude.{map}
use Rattle.nvme_script.specs.Faults.{IsScript, Runs, Transcribes, events_in}
use Rattle.nvme_fleet.specs.Layers.{Run}
use Rattle.nvme_mailbox.specs.Fleets as mailboxes
use Rattle.nvme_fleet.specs.FleetStates.{opening_driver}
use Rattle.nvme_live.proofs.Kept.{
  AllFine,
  IsBlank,
  IsRunOfLines,
  RunsBehind,
  all-fine,
  all-well,
  asked-other,
  bytes-silent,
  is_behind,
  kept-line,
  looking-line,
  is_shown,
  shows-look,
  mailboxes-ran,
  refused-line,
  runs-amid,
  runs-behind,
  runs-well,
  silent-line,
}
use Rattle.nvme_live.specs.SessionScripts.{
  IsAScript,
  IsKeptAs,
  IsPlayed,
  PlayedIsARun,
  RefusedIsAFault,
  ReplaysAlike,
  SessionIsAScript,
  SessionIsAScriptAmidLooks,
}
use Rattle.nvme_live.specs.Keeping.{
  LooksWell,
  RunAmidLooks,
  bytes_if,
  event_answers,
  is_event,
  is_kept,
  is_refusal,
  kept_lines,
  line_if,
}
use Rattle.nvme_subsys.specs.OverMedium.{OverMedium}
use Rattle.nvme_live.proofs.Alone.{sessions_stand_alone}
use Rattle.nvme_live.specs.Lives.{Opens, RunsTo}
use Rattle.nvme_live.specs.Saying.{with_feed}
use Rattle.nvme_live.specs.Standings.{SetsBy, Over, Running, Session, Setting, Settles, Standing, Starts}
use Rattle.live_text.specs.Looking.{is_looking}
use Rattle.live_text.specs.declared.fault.Why.TheVariants.{TooLong}
use Rattle.live_text.specs.declared.looking.Looking.{Looking}
use Rattle.live_text.specs.declared.asking.Asked.{Asked}
use Rattle.live_text.specs.declared.asking.Asked.TheVariants.{Does, Fails, Looks, Nothing, Parses, Sets}
use Rattle.nvme_transcript.specs.Transcript.{transcript}
use Rattle.live_text.specs.Asking.{asked, is_mark, line_asked}
use Rattle.live_text.proofs.Marks.{asked-look}
use Rattle.nvme_script.proofs.Texts.{events-append}
use Rattle.nvme_script.proofs.Running.{Transcribes-append}
use Rattle.nvme_grammar.proofs.OnLiterals.{lines_on_literals}
use Rattle.nvme_script.proofs.Alone.{transcript_is_unique}
use Rattle.nvme_fleet.proofs.LayerCalls.{layer_calls_are_of_a_run}

-- The lines of texts.
pub lines-joined : (a b : List ℕ) → text_lines (a ++ 10 ∷ b) ≡ text_lines a ++ text_lines b
lines-joined [] b = refl
lines-joined (x ∷ a) b = by (x == 10) refl (some-line a) (lines-joined a b)
  where
    by : (t : Bool) → (x == 10) ≡ t → (next : List ℕ) × (lines : List (List ℕ)) × (text_lines a ≡ next ∷ lines)
        → text_lines (a ++ 10 ∷ b) ≡ text_lines a ++ text_lines b
        → text_lines (x ∷ a ++ 10 ∷ b) ≡ text_lines (x ∷ a) ++ text_lines b
    by true e some more = rw e (ap (λ ls. [] ∷ ls) more)
    by false e (next, lines, is) more = rw e (rw more (rw is refl))

-- lines that have no line feed
abbrev AreOfLine : List (List ℕ) → Type 0
AreOfLine [] = Unit {0}
AreOfLine (line ∷ lines) = IsOfLine line × AreOfLine lines

lines-of : (lines : List (List ℕ)) (rest : List ℕ)
    → AreOfLine lines → text_lines (text_of lines ++ rest) ≡ lines ++ text_lines rest
lines-of [] rest h = refl
lines-of (line ∷ lines) rest h =
    ap text_lines
    (append_assoc (line ++ 10 ∷ []) (text_of lines) rest ∙ append_assoc line (10 ∷ []) (text_of lines ++ rest))
    ∙ behind-feed line (text_of lines ++ rest) h.0 ∙ ap (λ ls. line ∷ ls) (lines-of lines rest h.1)

-- The meanings of consecutive lines.
pub said-append : (a b : List (List ℕ)) → said (a ++ b) ≡ said a ++ said b
said-append a b = filter_map-append line_at a b

placed-append : (front a b : List Line) → ArePlaced front a → ArePlaced (front ++ a) b → ArePlaced front (a ++ b)
placed-append front [] b h k = subst (λ ls. ArePlaced ls b) (append-nil front) k
placed-append front (line ∷ a) b (fit, h) k = (
  fit,
  placed-append (front ++ line ∷ []) a b h (subst (λ ls. ArePlaced ls b) (sym (append_assoc front (line ∷ []) a)) k),
)

-- the configuration of lines, at any place
abbrev pub gathered : List Line → Configuration
gathered lines = record {
  controllers = filter_map controller_in lines;
  namespaces = filter_map namespace_in lines;
  attached = filter_map attachment_in lines;
}

configured : (lines : List Line) → list_any is_start lines ≡ true → configuration_in lines ≡ gathered lines
configured lines so = rw so refl

gathered-append : (a b : List Line) → (c : Configuration) → gathered a ≡ c → filter_map controller_in b ≡ []
    → filter_map namespace_in b ≡ [] → filter_map attachment_in b ≡ [] → gathered (a ++ b) ≡ c
gathered-append a b c e k n m =
    (λ i. record {
      controllers = (filter_map-append controller_in a b ∙ ap (λ t. filter_map controller_in a ++ t) k
          ∙ append-nil (filter_map controller_in a)) i;
      namespaces = (filter_map-append namespace_in a b ∙ ap (λ t. filter_map namespace_in a ++ t) n
          ∙ append-nil (filter_map namespace_in a)) i;
      attached = (filter_map-append attachment_in a b ∙ ap (λ t. filter_map attachment_in a ++ t) m
          ∙ append-nil (filter_map attachment_in a)) i;
    }) ∙ e

-- one line more
gathered-one : (front : List Line) (line : Line) → gathered (front ++ line ∷ []) ≡ set_by (gathered front) line
gathered-one front Blank = gathered-append front (Blank ∷ []) (gathered front) refl refl refl refl
gathered-one front Start = gathered-append front (Start ∷ []) (gathered front) refl refl refl refl
gathered-one front (Event event) = gathered-append front (Event event ∷ []) (gathered front) refl refl refl refl
gathered-one front (Controller k) = λ i. record {
  controllers = filter_map-append controller_in front (Controller k ∷ []) i;
  namespaces =
      (filter_map-append namespace_in front (Controller k ∷ []) ∙ append-nil (filter_map namespace_in front)) i;
  attached =
      (filter_map-append attachment_in front (Controller k ∷ []) ∙ append-nil (filter_map attachment_in front)) i;
}
gathered-one front (Namespace n) = λ i. record {
  controllers =
      (filter_map-append controller_in front (Namespace n ∷ []) ∙ append-nil (filter_map controller_in front)) i;
  namespaces = filter_map-append namespace_in front (Namespace n ∷ []) i;
  attached = (filter_map-append attachment_in front (Namespace n ∷ []) ∙ append-nil (filter_map attachment_in front)) i;
}
gathered-one front (Attached k n) = λ i. record {
  controllers =
      (filter_map-append controller_in front (Attached k n ∷ []) ∙ append-nil (filter_map controller_in front)) i;
  namespaces =
      (filter_map-append namespace_in front (Attached k n ∷ []) ∙ append-nil (filter_map namespace_in front)) i;
  attached = filter_map-append attachment_in front (Attached k n ∷ []) i;
}

-- Lines after `start` change no configuration, and are allowed there.
and-true : (a b : Bool) → (a && b) ≡ true → (a ≡ true) × (b ≡ true)
and-true true b e = (refl, e)
and-true false b e = absurd (false≢true e)

or-left : (a b : Bool) → a ≡ true → (a || b) ≡ true
or-left a b e = rw e refl

still-started : (front : List Line) (line : Line)
    → list_any is_start front ≡ true → list_any is_start (front ++ line ∷ []) ≡ true
still-started front line so =
    list_any-append is_start front (line ∷ []) ∙ or-left (list_any is_start front) (list_any is_start (line ∷ [])) so

fits-behind-start : (front : List Line) (line : Line) → list_any is_start front ≡ true → is_behind line ≡ true
    → fits_behind front line ≡ true
fits-behind-start front Blank so may = refl
fits-behind-start front (Event event) so may = so
fits-behind-start front (Controller k) so may = absurd (false≢true may)
fits-behind-start front (Namespace n) so may = absurd (false≢true may)
fits-behind-start front (Attached k n) so may = absurd (false≢true may)
fits-behind-start front Start so may = absurd (false≢true may)

behind-placed : (front lines : List Line) → list_any is_start front ≡ true → list_all is_behind lines ≡ true
    → ArePlaced front lines
behind-placed front [] so may = tt
behind-placed front (line ∷ lines) so may =
    let each = and-true (is_behind line) (list_all is_behind lines) may in (
      fits-behind-start front line so each.0,
      behind-placed (front ++ line ∷ []) lines (still-started front line so) each.1,
    )

module _ {A : Type 0} (in_line : Line → Option A) (blank : in_line Blank ≡ None)
    (event : (e : FleetEvent) → in_line (Event e) ≡ None) where
  nothing-behind : (lines : List Line) → list_all is_behind lines ≡ true → filter_map in_line lines ≡ []
  nothing-behind [] may = refl
  nothing-behind (Blank ∷ lines) may = rw blank (nothing-behind lines may)
  nothing-behind (Event e ∷ lines) may = rw (event e) (nothing-behind lines may)
  nothing-behind (Controller k ∷ lines) may = absurd (false≢true may)
  nothing-behind (Namespace n ∷ lines) may = absurd (false≢true may)
  nothing-behind (Attached k n ∷ lines) may = absurd (false≢true may)
  nothing-behind (Start ∷ lines) may = absurd (false≢true may)

gathered-behind : (front lines : List Line) → list_all is_behind lines ≡ true
    → gathered (front ++ lines) ≡ gathered front
gathered-behind front lines may =
    gathered-append front lines (gathered front) refl (nothing-behind controller_in refl (λ e. refl) lines may)
    (nothing-behind namespace_in refl (λ e. refl) lines may) (nothing-behind attachment_in refl (λ e. refl) lines may)

-- The saved lines from here on, of a session with these lines so far, and its state then.
abbrev Stands : (Layers → List FleetEvent → List Reply → Layers → Type 0) → Capacity → Device → List Line
    → List (List ℕ) → List ℕ → Standing → Type 0
Stands Ran size d front kept told (Setting s) =
    (s.configuration ≡ gathered (front ++ said kept)) × (list_any is_start (front ++ said kept) ≡ false) × (told ≡ [])
Stands Ran size d front kept told (Running last) =
    (list_any is_start (front ++ said kept) ≡ true) × (config_fault (gathered (front ++ said kept)) size ≡ None)
    × ((before : List ℕ) → Transcribes Ran (opening_layers (gathered (front ++ said kept)) d) (events_of kept) last
    (Some before) (Some (before ++ told)))
Stands Ran size d front kept told (Over k why) =
    (list_any is_start (front ++ said kept) ≡ true)
    × (config_fault (gathered (front ++ said kept)) size ≡ Some why) × (told ≡ [])

pub record Grown (Ran : Layers → List FleetEvent → List Reply → Layers → Type 0) (size : Capacity) (d : Device)
    (front : List Line) (kept : List (List ℕ)) (told : List ℕ) (new : Standing) : Type 0 where
  pub spelled : list_all (λ line. is_some (line_at line)) kept ≡ true
  pub placed : ArePlaced front (said kept)
  pub stands : Stands Ran size d front kept told new

-- one more saved line in front, with this meaning
module _ (Ran : Layers → List FleetEvent → List Reply → Layers → Type 0) (size : Capacity) (d : Device)
    (front : List Line) (line : List ℕ) (says : Line) (is : line_at line ≡ Some says)
    (fit : fits_behind front says ≡ true) (no_event : event_in says ≡ None) (kept : List (List ℕ)) (told : List ℕ) where
  said-one : said (line ∷ kept) ≡ says ∷ said kept
  said-one = rw is refl

  moved : front ++ said (line ∷ kept) ≡ (front ++ says ∷ []) ++ said kept
  moved = ap (λ ls. front ++ ls) said-one ∙ sym (append_assoc front (says ∷ []) (said kept))

  same-events : events_of (line ∷ kept) ≡ events_of kept
  same-events = ap (filter_map event_in) said-one ∙ rw no_event refl

  stands-more : (new : Standing) → Stands Ran size d (front ++ says ∷ []) kept told new
      → Stands Ran size d front (line ∷ kept) told new
  stands-more (Setting s) (e, none, silent) = (e ∙ ap gathered (sym moved), ap (list_any is_start) moved ∙ none, silent)
  stands-more (Running last) (so, accepted, ran) = (
    ap (list_any is_start) moved ∙ so,
    ap (λ ls. config_fault (gathered ls) size) moved ∙ accepted,
    λ before. subst (λ (ls : List Line). Transcribes Ran (opening_layers (gathered ls) d) (events_of (line ∷ kept)) last
        (Some before) (Some (before ++ told))) (sym moved)
        (subst (λ (es : List FleetEvent). Transcribes Ran (opening_layers (gathered ((front ++ says ∷ []) ++ said kept))
        d) es last (Some before) (Some (before ++ told))) (sym same-events) (ran before)),
  )
  stands-more (Over k why) (so, refused, silent) =
      (ap (list_any is_start) moved ∙ so, ap (λ ls. config_fault (gathered ls) size) moved ∙ refused, silent)

  pub grown-more : (new : Standing) → Grown Ran size d (front ++ says ∷ []) kept told new
      → Grown Ran size d front (line ∷ kept) told new
  grown-more new h = record {
    spelled = rw is h.spelled;
    placed = subst (ArePlaced front) (sym said-one) (fit, h.placed);
    stands = stands-more new h.stands;
  }

-- The meaning of a setup line.
same-sets : (a b : Line) → Sets a ≡ Sets b → a ≡ b
same-sets a b e = cc

sets-of : (line : List ℕ) (o : Option Line) (says : Line) → line_asked line o ≡ Sets says → o ≡ Some says
sets-of line None says e = absurd (cc)
sets-of line (Some Blank) says e = absurd (cc)
sets-of line (Some (Controller k)) says e = ap Some (same-sets (Controller k) says e)
sets-of line (Some (Namespace n)) says e = ap Some (same-sets (Namespace n) says e)
sets-of line (Some (Attached k n)) says e = ap Some (same-sets (Attached k n) says e)
sets-of line (Some Start) says e = ap Some (same-sets Start says e)
sets-of line (Some (Event event)) says e = absurd (cc)

sets-line : (line : List ℕ) (says : Line)
    → asked line ≡ Sets says → is_looking line ≡ false × (line_at line ≡ Some says)
sets-line line says e = by (is_looking line) refl
  where
    looks : is_mark (asked line) ≡ true → ⊥
    looks mark = false≢true (sym (ap is_mark e) ∙ mark)

    others : (asked line ≡ Fails TooLong) ⊎ (asked line ≡ line_asked line (line_at line)) → line_at line ≡ Some says
    others (inl f) = absurd (cc)
    others (inr f) = sets-of line (line_at line) says (sym f ∙ e)

    by : (t : Bool) → is_looking line ≡ t → is_looking line ≡ false × (line_at line ≡ Some says)
    by true is = absurd (looks (asked-look line is))
    by false is = (is, others (asked-other line is))

-- a line before `start`, in front of the saved lines after it
module _ (Ran : Layers → List FleetEvent → List Reply → Layers → Type 0) (size : Capacity) (d : Device)
    (front : List Line) (line answer : List ℕ) (kept : List (List ℕ)) (told : List ℕ) (new : Standing) where
  abbrev Goal : Type 0
  Goal = Grown Ran size d front (line_if (is_kept line answer) line kept)
      (bytes_if (is_kept line answer && is_event (line_at line)) answer told) new

  grown-dropped : is_kept line answer ≡ false → Grown Ran size d front kept told new → Goal
  grown-dropped none h = rw none h

  grown-kept : (says : Line)
      → is_kept line answer ≡ true → line_at line ≡ Some says → is_event (Some says) ≡ false → event_in says ≡ None
      → fits_behind front says ≡ true → Grown Ran size d (front ++ says ∷ []) kept told new → Goal
  grown-kept says so is silent none fit h =
      subst (λ (bs : List ℕ). Grown Ran size d front (line_if (is_kept line answer) line kept) bs new)
      (sym (bytes-silent line answer told so (ap is_event is ∙ silent)))
      (rw so (grown-more Ran size d front line says is fit none kept told new h))

  grown-silent : (is_kept line answer ≡ false) ⊎ IsBlank line answer → ((more : List Line) → gathered (front ++ more)
      ≡ gathered front → list_any is_start more ≡ false → Grown Ran size d (front ++ more) kept told new) → Goal
  grown-silent (inl none) h = grown-dropped none (subst (λ (ls : List Line). Grown Ran size d ls kept told new)
      (append-nil front) (h [] (ap gathered (append-nil front)) refl))
  grown-silent (inr (so, blank)) h =
      grown-kept Blank so blank refl refl refl (h (Blank ∷ []) (gathered-one front Blank) refl)

module _ (tells : Bool) (Ran : Layers → List FleetEvent → List Reply → Layers → Type 0)
    (Fine : ℕ → List ℕ → List ℕ → Type 0) (is : IsRunOfLines tells Ran Fine) (size : Capacity) (d : Device) where
  -- the lines after an accepted `start`
  grown-running : (n : ℕ) (front : List Line) (c : Configuration) (lines answers : List (List ℕ)) (new : Standing)
      → c ≡ gathered front → list_any is_start front ≡ true → config_fault c size ≡ None
      → Session tells size d n (Running (opening_layers c d)) lines answers new → AllFine Fine n lines answers
      → Grown Ran size d front (kept_lines lines answers) (event_answers lines answers) new
  grown-running n front c lines answers new sets so accepted went fine =
      let h = runs-behind tells Ran Fine is size d n (opening_layers c d) lines answers new went fine in
      let same : c ≡ gathered (front ++ said (kept_lines lines answers)) =
      sets ∙ sym (gathered-behind front (said (kept_lines lines answers)) h.kept.behind) in
      subst (λ (s : Standing). Grown Ran size d front (kept_lines lines answers) (event_answers lines answers) s)
      (sym h.runs.is) (record {
        spelled = h.kept.spelled;
        placed = behind-placed front (said (kept_lines lines answers)) so h.kept.behind;
        stands = (
          list_any-append is_start front (said (kept_lines lines answers))
              ∙ or-left (list_any is_start front) (list_any is_start (said (kept_lines lines answers))) so,
          ap (λ k. config_fault k size) (sym same) ∙ accepted,
          λ before.
              subst (λ (k : Configuration). Transcribes Ran (opening_layers k d) (events_of (kept_lines lines answers))
              h.runs.last (Some before) (Some (before ++ event_answers lines answers))) same (h.runs.ran before),
        );
      })

  -- no line follows a refused one
  grown-over : (n k : ℕ) (why : ConfigFault) (front : List Line) (c : Configuration) (lines answers : List (List ℕ))
      (new : Standing) → c ≡ gathered front → list_any is_start front ≡ true → config_fault c size ≡ Some why
      → Session tells size d n (Over k why) lines answers new
      → Grown Ran size d front (kept_lines lines answers) (event_answers lines answers) new
  grown-over n k why front c [] [] new sets so refused went =
      subst (λ (s : Standing). Grown Ran size d front [] [] s) (sym went) (record {
        spelled = refl;
        placed = tt;
        stands = (
          ap (list_any is_start) (append-nil front) ∙ so,
          ap (λ ls. config_fault (gathered ls) size) (append-nil front)
              ∙ ap (λ k. config_fault k size) (sym sets) ∙ refused,
          refl,
        );
      })
  grown-over n k why front c [] (answer ∷ answers) new sets so refused went = absurd went
  grown-over n k why front c (line ∷ lines) [] new sets so refused went = absurd went
  grown-over n k why front c (line ∷ lines) (answer ∷ answers) new sets so refused went = absurd (went.1)

  grown-start : (o : Option ConfigFault) (n : ℕ) (front : List Line)
      (s : SetUp) (answer : List ℕ) (mid : Standing) (lines answers : List (List ℕ)) (new : Standing)
      → config_fault s.configuration size ≡ o → Starts o size d n s answer mid → s.configuration ≡ gathered front
      → list_any is_start front ≡ true → Session tells size d (n + 1) mid lines answers new
      → AllFine Fine (n + 1) lines answers
      → (is_refusal answer ≡ false)
      × Grown Ran size d front (kept_lines lines answers) (event_answers lines answers) new
  grown-start None n front s answer mid lines answers new e (says, at) sets so went fine = (
    ap is_refusal says,
    grown-running (n + 1) front s.configuration lines answers new sets so e
        (subst (λ (t : Standing). Session tells size d (n + 1) t lines answers new) at went) fine,
  )
  grown-start (Some why) n front s answer mid lines answers new e (says, at) sets so went fine = (
    ap is_refusal says,
    grown-over (n + 1) n why front s.configuration lines answers new sets so e
        (subst (λ (t : Standing). Session tells size d (n + 1) t lines answers new) at went),
  )

  -- a line before `start`, if the lines after it are known
  module _ (n : ℕ) (front : List Line) (c : SetUp) (sets : c.configuration ≡ gathered front)
      (unstarted : list_any is_start front ≡ false) (line answer : List ℕ) (mid : Standing)
      (lines answers : List (List ℕ))
      (new : Standing)
      (went : Session tells size d (n + 1) mid lines answers new) (fine : AllFine Fine (n + 1) lines answers)
      (later : (more : List Line) (k : SetUp) → k.configuration ≡ gathered more
      → list_any is_start more ≡ false → Session tells size d (n + 1) (Setting k) lines answers new
      → Grown Ran size d more (kept_lines lines answers) (event_answers lines answers) new) where
    stays : (k : SetUp) → mid ≡ Setting k → Session tells size d (n + 1) (Setting k) lines answers new
    stays k at = subst (λ (s : Standing). Session tells size d (n + 1) s lines answers new) at went

    abbrev Grows : Type 0
    Grows = Goal Ran size d front line answer (kept_lines lines answers) (event_answers lines answers) new

    dropped : is_kept line answer ≡ false → mid ≡ Setting c → Grows
    dropped none at = grown-dropped Ran size d front line answer (kept_lines lines answers)
        (event_answers lines answers) new none (later front c sets unstarted (stays c at))

    silent : (is_kept line answer ≡ false) ⊎ IsBlank line answer → mid ≡ Setting c → Grows
    silent which at =
        grown-silent Ran size d front line answer (kept_lines lines answers) (event_answers lines answers) new which
        (λ more same none. later (front ++ more) c (sets ∙ sym same)
        (list_any-append is_start front more ∙ rw (unstarted, none) refl) (stays c at))

    kept-by : (says : Line) → asked line ≡ Sets says → is_refusal answer ≡ false → is_event (Some says) ≡ false
        → event_in says ≡ None → fits false says ≡ true
        → Grown Ran size d (front ++ says ∷ []) (kept_lines lines answers) (event_answers lines answers) new → Grows
    kept-by says e none silent no_event fit h =
        let line_is = sets-line line says e in
        grown-kept Ran size d front line answer (kept_lines lines answers) (event_answers lines answers) new says
        (kept-line line answer line_is.0 none) line_is.1 silent no_event (ap (λ t. fits t says) unstarted ∙ fit) h

    set-up : (says : Line) → asked line ≡ Sets says → answer ≡ with_feed (codes "ok")
        → mid ≡ Setting (with_line n c says) → is_start says ≡ false → is_event (Some says) ≡ false
        → event_in says ≡ None → fits false says ≡ true → Grows
    set-up says e ok at other silent no_event fit =
        kept-by says e (ap is_refusal ok) silent no_event fit
        (later (front ++ says ∷ []) (with_line n c says) (ap (λ k. set_by k says) sets ∙ sym (gathered-one front says))
        (list_any-append is_start front (says ∷ []) ∙ rw (unstarted, other) refl) (stays (with_line n c says) at))

    begun : asked line ≡ Sets Start → Starts (config_fault c.configuration size) size d n c answer mid → Grows
    begun e starts =
        let so : list_any is_start (front ++ Start ∷ []) ≡ true =
        list_any-append is_start front (Start ∷ []) ∙ rw unstarted refl in
        let h = grown-start (config_fault c.configuration size) n (front ++ Start ∷ []) c answer mid lines answers new
        refl starts (sets ∙ sym (gathered-one front Start)) so went fine in
        kept-by Start e h.0 refl refl refl h.1

    sets-by : (says : Line) → asked line ≡ Sets says → SetsBy size d n c says answer mid → Grows
    sets-by Start e h = begun e h
    sets-by (Controller k) e h = set-up (Controller k) e h.0 h.1 refl refl refl refl
    sets-by (Namespace k) e h = set-up (Namespace k) e h.0 h.1 refl refl refl refl
    sets-by (Attached k m) e h = set-up (Attached k m) e h.0 h.1 refl refl refl refl
    sets-by Blank e h = set-up Blank e h.0 h.1 refl refl refl refl
    sets-by (Event event) e h = absurd (never (asked-other line (sets-line line (Event event) e).0))
      where
        never-by : (o : Option Line) → line_asked line o ≡ Sets (Event event) → ⊥
        never-by None f = absurd (cc)
        never-by (Some Blank) f = absurd (cc)
        never-by (Some (Controller k)) f = absurd (cc)
        never-by (Some (Namespace k)) f = absurd (cc)
        never-by (Some (Attached k m)) f = absurd (cc)
        never-by (Some Start) f = absurd (cc)
        never-by (Some (Event other)) f = absurd (cc)

        never : (asked line ≡ Fails TooLong) ⊎ (asked line ≡ line_asked line (line_at line)) → ⊥
        never (inl f) = absurd (cc)
        never (inr f) = never-by (line_at line) (sym f ∙ e)

    settled : (q : Asked) → asked line ≡ q → Settles size d n c q answer mid → Grows
    settled (Fails why) e h = dropped (refused-line line answer (ap is_refusal h.0)) h.1
    settled Nothing e h = silent (silent-line line answer e (ap is_refusal h.0)) h.1
    settled (Looks looking) e h = dropped (looking-line line answer (shows-look line (ap is_shown e))) h.1
    settled (Parses says) e h = dropped (looking-line line answer (shows-look line (ap is_shown e))) h.1
    settled (Sets says) e h = sets-by says e h
    settled (Does event) e h = dropped (refused-line line answer (ap is_refusal h.0)) h.1

  pub grown : (lines answers : List (List ℕ)) (n : ℕ) (front : List Line) (c : SetUp) (new : Standing)
      → c.configuration ≡ gathered front → list_any is_start front ≡ false
      → Session tells size d n (Setting c) lines answers new → AllFine Fine n lines answers
      → Grown Ran size d front (kept_lines lines answers) (event_answers lines answers) new
  grown [] [] n front c new sets unstarted went fine =
      subst (λ (s : Standing). Grown Ran size d front [] [] s) (sym went) (record {
        spelled = refl;
        placed = tt;
        stands =
            (sets ∙ ap gathered (sym (append-nil front)), ap (list_any is_start) (append-nil front) ∙ unstarted, refl);
      })
  grown [] (answer ∷ answers) n front c new sets unstarted went fine = absurd went
  grown (line ∷ lines) [] n front c new sets unstarted went fine = absurd went
  grown (line ∷ lines) (answer ∷ answers) n front c new sets unstarted (mid, turn, rest) fine =
      settled n front c sets unstarted line answer mid lines answers new rest fine.1
      (λ more k same none went. grown lines answers (n + 1) more k new same none went fine.1) (asked line) refl turn

-- The text of a session's lines, which ends with an empty line.
nothing-said : line_at [] ≡ Some Blank
unfolding lines_on_literals
nothing-said = refl

start-said : text_lines (codes "start") ≡ codes "start" ∷ []
start-said = refl

start-line : line_at (codes "start") ≡ Some Start
unfolding lines_on_literals
start-line = refl

some-from : (o : Option ℕ) → is_some o ≡ true → (k : ℕ) × (o ≡ Some k)
some-from None e = absurd (false≢true e)
some-from (Some k) e = (k, refl)

none-from : (o : Option ℕ) → is_some o ≡ false → o ≡ None
none-from None e = refl
none-from (Some k) e = absurd (false≢true (sym e))

module _ (text : List ℕ) (raw : List (List ℕ)) (lines : text_lines text ≡ raw ++ [] ∷ []) where
  text-said : said (text_lines text) ≡ said raw ++ Blank ∷ []
  text-said = ap said lines ∙ said-append raw ([] ∷ []) ∙ ap (λ ls. said raw ++ ls) (rw nothing-said refl)

  text-begins : list_all (λ line. is_some (line_at line)) raw ≡ true → ArePlaced [] (said raw)
      → Begins (text_lines text)
  text-begins spelled placed = record {
    spelled = ap (list_all (λ line. is_some (line_at line))) lines
        ∙ list_all-append (λ line. is_some (line_at line)) raw ([] ∷ []) ∙ rw (spelled, nothing-said) refl;
    placed = subst (ArePlaced []) (sym text-said) (placed-append [] (said raw) (Blank ∷ []) placed (refl, tt));
  }

  text-starts : is_some (start_of (text_lines text)) ≡ list_any is_start (said raw)
  text-starts = started (said (text_lines text)) ∙ ap (list_any is_start) text-said
      ∙ list_any-append is_start (said raw) (Blank ∷ []) ∙ or-none (list_any is_start (said raw))
    where
      or-none : (t : Bool) → (t || false) ≡ t
      or-none true = refl
      or-none false = refl

  text-configured : list_any is_start (said raw) ≡ true → configuration_of (text_lines text) ≡ gathered (said raw)
  text-configured so =
      let also : list_any is_start (said (text_lines text)) ≡ true =
      sym (started (said (text_lines text))) ∙ text-starts ∙ so in
      configured (said (text_lines text)) also ∙ ap gathered text-said ∙ gathered-one (said raw) Blank

  text-events : events_in text ≡ events_of raw
  text-events =
      ap (filter_map event_in) text-said ∙ filter_map-append event_in (said raw) (Blank ∷ [])
      ∙ append-nil (events_of raw)

  -- the saved lines, as a text
  module _ (Ran : Layers → List FleetEvent → List Reply → Layers → Type 0) (size : Capacity) (d : Device)
      (told : List ℕ) where
    kept-played : (last : Layers) → Begins (text_lines text) → list_any is_start (said raw) ≡ true
        → config_fault (gathered (said raw)) size ≡ None
        → ((before : List ℕ) → Transcribes Ran (opening_layers (gathered (said raw)) d) (events_of raw) last
        (Some before) (Some (before ++ told))) → IsPlayed Ran size d text told last
    kept-played last begins so accepted ran = record {
      grammar = begins;
      starts = some-from (start_of (text_lines text)) (text-starts ∙ so);
      accepted = ap (λ k. config_fault k size) (text-configured so) ∙ accepted;
      ran = λ before.
          subst (λ (k : Configuration). Transcribes Ran (opening_layers k d) (events_in text) last (Some before)
          (Some (before ++ told))) (sym (text-configured so))
          (subst (λ (es : List FleetEvent). Transcribes Ran (opening_layers (gathered (said raw)) d) es last
          (Some before) (Some (before ++ told))) (sym text-events) (ran before));
    }

    kept-as : (set : (c : Configuration) → list_any is_start (said raw) ≡ false → c ≡ gathered (said raw)
        → configuration_of (text_lines (text ++ codes "start")) ≡ c)
        → (last : Standing) → Grown Ran size d [] raw told last → IsKeptAs Ran size d text told last
    kept-as set (Setting s) h =
        record {
          grammar = text-begins h.spelled h.placed;
          unstarted = none-from (start_of (text_lines text)) (text-starts ∙ h.stands.1);
          sets = set s.configuration h.stands.1 h.stands.0;
          silent = h.stands.2;
        }
    kept-as set (Running last) h = kept-played last (text-begins h.spelled h.placed) h.stands.0 h.stands.1 h.stands.2
    kept-as set (Over k why) h = record {
      grammar = text-begins h.spelled h.placed;
      starts = some-from (start_of (text_lines text)) (text-starts ∙ h.stands.0);
      refused = ap (λ k. config_fault k size) (text-configured h.stands.0) ∙ h.stands.1;
      silent = h.stands.2;
    }

-- the lines of a session have no line feed
taken-lines : {R : Type 0} (read : R → LineCall → R → Type 0) (remaining : R → Option (List ℕ)) (lines : List (List ℕ))
    (u v : R) → ReadsLines (ReadsBy read remaining) u lines v → AreOfLine lines
taken-lines read remaining [] u v h = tt
taken-lines read remaining (line ∷ lines) u v h = (h.1.1.of_line, taken-lines read remaining lines h.0 v h.2)

kept-of-line : (lines answers : List (List ℕ)) → AreOfLine lines → AreOfLine (kept_lines lines answers)
kept-of-line [] answers h = tt
kept-of-line (line ∷ lines) [] h = tt
kept-of-line (line ∷ lines) (answer ∷ answers) h = by (is_kept line answer) (kept-of-line lines answers h.1)
  where
    by : (t : Bool) → AreOfLine (kept_lines lines answers) → AreOfLine (line_if t line (kept_lines lines answers))
    by true rest = (h.0, rest)
    by false rest = rest

text-lines : (lines : List (List ℕ)) → AreOfLine lines → text_lines (text_of lines) ≡ lines ++ [] ∷ []
text-lines lines h = ap text_lines (sym (append-nil (text_of lines))) ∙ lines-of lines [] h

-- after it a `start`
started-text : (lines : List (List ℕ)) → AreOfLine lines → (c : Configuration) → list_any is_start (said lines) ≡ false
    → c ≡ gathered (said lines) → configuration_of (text_lines (text_of lines ++ codes "start")) ≡ c
started-text lines h c unstarted sets =
    let says : said (text_lines (text_of lines ++ codes "start")) ≡ said lines ++ Start ∷ [] =
    ap said (lines-of lines (codes "start") h ∙ ap (λ ls. lines ++ ls) start-said)
    ∙ said-append lines (codes "start" ∷ []) ∙ ap (λ ls. said lines ++ ls) (rw start-line refl) in
    ap configuration_in says
    ∙ configured (said lines ++ Start ∷ []) (list_any-append is_start (said lines) (Start ∷ []) ∙ rw unstarted refl)
    ∙ gathered-one (said lines) Start ∙ sym sets

-- A session after a script.
ran-from : (tells : Bool) (Ran : Layers → List FleetEvent → List Reply → Layers → Type 0)
    (Fine : ℕ → List ℕ → List ℕ → Type 0) → IsRunOfLines tells Ran Fine
    → (es : List FleetEvent) (rs : List Reply) (a b : Layers) → Run tells a es rs b → Ran a es rs b
ran-from tells Ran Fine is [] [] a b h = subst (λ (l : Layers). Ran a [] [] l) (sym h) (is.run.nothing a)
ran-from tells Ran Fine is [] (r ∷ rs) a b h = absurd h
ran-from tells Ran Fine is (e ∷ es) [] a b h = absurd h
ran-from tells Ran Fine is (e ∷ es) (r ∷ rs) a b (mid, step, rest) =
    is.run.behind (e ∷ []) es (r ∷ []) rs a mid b (is.one a mid e r step) (ran-from tells Ran Fine is es rs mid b rest)

same-running : (a b : Layers) → Running a ≡ Running b → a ≡ b
same-running a b e = cc

keeps-appended : (x y z : Option (List ℕ)) (bytes : List ℕ) → Appends x y bytes → Keeps y z → Appends x z bytes
keeps-appended None y z bytes h k = tt
keeps-appended (Some xs) None z bytes h k = absurd h
keeps-appended (Some xs) (Some ys) None bytes h k = absurd k
keeps-appended (Some xs) (Some ys) (Some zs) bytes h k = k ∙ h

module _ {M W : Type 0} (step : M → MediumCall → M → Type 0) (tells : Bool) (device : M → Device)
    (write : W → WriteCall → W → Type 0) (flush : W → Bool → W → Type 0) (contents : W → Option (List ℕ))
    (size : Capacity)
    (Ran : Layers → List FleetEvent → List Reply → Layers → Type 0) (Fine : ℕ → List ℕ → List ℕ → Type 0)
    (is : IsRunOfLines tells Ran Fine)
    (first : List ℕ) (medium : M) (from : OverMedium Standing M) (last : Standing) (before told : W)
    (lines answers : List (List ℕ)) (of_line : AreOfLine lines)
    (went : Session tells size (device medium) 1 from.state lines answers last)
    (fine : AllFine Fine 1 lines answers) where
  abbrev kept : List (List ℕ)
  kept = kept_lines lines answers

  alone : (text : List ℕ) → text ≡ text_of kept → from.state ≡ Setting nothing_set_up
      → IsKeptAs Ran size (device medium) text (event_answers lines answers) last
  alone text is_text begins =
      let kept_of_line = kept-of-line lines answers of_line in
      let h = grown tells Ran Fine is size (device medium) lines answers 1 [] nothing_set_up last refl refl
      (subst (λ (s : Standing). Session tells size (device medium) 1 s lines answers last) begins went) fine in
      subst (λ (t : List ℕ). IsKeptAs Ran size (device medium) t (event_answers lines answers) last) (sym is_text)
      (kept-as (text_of kept) kept (text-lines kept kept_of_line) Ran size (device medium) (event_answers lines answers)
      (started-text kept kept_of_line) last h)

  -- after the first script, which has a `start`
  module _ (k : ℕ) (starts : start_of (text_lines first) ≡ Some k) (script : IsScript first size)
      (l : Layers) (mid : M) (ran : RunsTo step tells device write flush contents first medium l mid before told)
      (begins : from.state ≡ Running l) where
    abbrev raw : List (List ℕ)
    raw = text_lines first ++ kept

    raw-lines : text_lines (first ++ 10 ∷ text_of kept) ≡ raw ++ [] ∷ []
    raw-lines = lines-joined first (text_of kept) ∙ ap (λ ls. text_lines first ++ ls)
        (text-lines kept (kept-of-line lines answers of_line)) ∙ sym (append_assoc (text_lines first) kept ([] ∷ []))

    first-started : list_any is_start (said (text_lines first)) ≡ true
    first-started = sym (started (said (text_lines first))) ∙ ap is_some starts

    abbrev first-replies : List Reply
    first-replies = ran.transcribed.transcribed.replies

    abbrev first-said : List ℕ
    first-said = transcript (events_in first) first-replies

    first-ran : Run tells (opening_layers (configuration_of (text_lines first)) (device medium))
        (events_in first) first-replies l
    first-ran = layer_calls_are_of_a_run tells (opening_layers (configuration_of (text_lines first)) (device medium)) l
        (events_in first) first-replies ran.transcribed.transcribed.ran.calls ran.transcribed.transcribed.ran.are

    runs : RunsBehind Ran l lines answers last
    runs = runs-behind tells Ran Fine is size (device medium) 1 l lines answers last
        (subst (λ (s : Standing). Session tells size (device medium) 1 s lines answers last) begins went) fine

    raw-said : said raw ≡ said (text_lines first) ++ said kept
    raw-said = said-append (text_lines first) kept

    raw-started : list_any is_start (said raw) ≡ true
    raw-started = ap (list_any is_start) raw-said ∙ list_any-append is_start (said (text_lines first)) (said kept)
        ∙ or-left (list_any is_start (said (text_lines first))) (list_any is_start (said kept)) first-started

    raw-set : configuration_of (text_lines first) ≡ gathered (said raw)
    raw-set = configured (said (text_lines first)) first-started
        ∙ sym (gathered-behind (said (text_lines first)) (said kept) runs.kept.behind) ∙ ap gathered (sym raw-said)

    raw-begins : Begins (text_lines (first ++ 10 ∷ text_of kept))
    raw-begins =
        text-begins (first ++ 10 ∷ text_of kept) raw raw-lines
        (list_all-append (λ line. is_some (line_at line)) (text_lines first) kept
        ∙ rw (script.grammar.spelled, runs.kept.spelled) refl)
        (subst (ArePlaced []) (sym raw-said) (placed-append [] (said (text_lines first)) (said kept)
        script.grammar.placed (behind-placed (said (text_lines first)) (said kept) first-started runs.kept.behind)))

    raw-ran : (b : List ℕ) → Transcribes Ran (opening_layers (gathered (said raw)) (device medium))
        (events_of raw) runs.runs.last (Some b) (Some (b ++ (first-said ++ event_answers lines answers)))
    raw-ran b =
        subst (λ (c : Configuration). Transcribes Ran (opening_layers c (device medium)) (events_of raw) runs.runs.last
        (Some b) (Some (b ++ (first-said ++ event_answers lines answers)))) raw-set
        (subst (λ (es : List FleetEvent). Transcribes Ran (opening_layers (configuration_of (text_lines first))
        (device medium)) es runs.runs.last (Some b) (Some (b ++ (first-said ++ event_answers lines answers))))
        (sym (events-append (text_lines first) kept))
        (subst (λ (t : List ℕ). Transcribes Ran (opening_layers (configuration_of (text_lines first)) (device medium))
        (events_in first ++ events_of kept) runs.runs.last (Some b) (Some t))
        (append_assoc b first-said (event_answers lines answers))
        (Transcribes-append Ran is.run (events_in first) (events_of kept)
        (opening_layers (configuration_of (text_lines first)) (device medium)) l runs.runs.last (Some b)
        (Some (b ++ first-said)) (Some ((b ++ first-said) ++ event_answers lines answers))
        (record {
          replies = first-replies;
          ran = ran-from tells Ran Fine is (events_in first) first-replies
              (opening_layers (configuration_of (text_lines first)) (device medium)) l first-ran;
          wrote = refl;
        })
        (runs.runs.ran (b ++ first-said)))))

    joined : IsKeptAs Ran size (device medium) (first ++ 10 ∷ text_of kept)
        (first-said ++ event_answers lines answers) last
    joined =
        subst (λ (s : Standing). IsKeptAs Ran size (device medium) (first ++ 10 ∷ text_of kept)
        (first-said ++ event_answers lines answers) s) (sym runs.runs.is)
        (kept-played (first ++ 10 ∷ text_of kept) raw raw-lines Ran size (device medium)
        (first-said ++ event_answers lines answers) runs.runs.last raw-begins raw-started
        (ap (λ c. config_fault c size) (sym raw-set) ∙ script.accepted) raw-ran)

  at-once : {start : OverMedium Standing M} → from ≡ start → from.state ≡ start.state
  at-once e = ap (λ (o : OverMedium Standing M). o.state) e

  scripted : (o : Option ℕ) → start_of (text_lines first) ≡ o
      → Opens step tells device write flush contents size first medium o from before told
      → IsAScript Ran size (device medium) first lines answers last (contents before) (contents told)
  scripted None e (grammar, begins, same) = record {
    said = [];
    wrote = subst (λ (x : W). Appends (contents before) (contents x) []) (sym same) (Appends-nil (contents before));
    kept = alone (session_text first lines answers) (ap (λ o. behind o first (text_of kept)) e) (at-once begins);
  }
  scripted (Some k) e (script, l, mid, ran, begins) = record {
    said = first-said k e script l mid ran (at-once begins);
    wrote = keeps-appended (contents before) (contents ran.written) (contents told)
        (first-said k e script l mid ran (at-once begins)) ran.transcribed.transcribed.wrote ran.flushed.1;
    kept = subst (λ (t : List ℕ). IsKeptAs Ran size
        (device medium) t (first-said k e script l mid ran (at-once begins) ++ event_answers lines answers) last)
        (sym (ap (λ o. behind o first (text_of kept)) e))
        (joined k e script l mid ran (at-once begins));
  }

module _ {M R W : Type 0} (step : M → MediumCall → M → Type 0) (tells : Bool) (device : M → Device)
    (read : R → LineCall → R → Type 0) (remaining : R → Option (List ℕ)) (write : W → WriteCall → W → Type 0)
    (flush : W → Bool → W → Type 0)
    (contents : W → Option (List ℕ)) where
  pub session_is_a_script : SessionIsAScript step tells device read remaining write flush contents
  session_is_a_script size first medium from last next unread left before told after opens h well =
      scripted step tells device write flush contents size (Run tells) (LooksWell tells) (runs-well tells) first medium
      from last.state before told h.lines h.answers (taken-lines read remaining h.lines unread left h.taken)
      (sessions_stand_alone step tells size (device medium) 1 from last h.lines h.answers h.went)
      (all-well tells 1 h.lines h.answers well) (start_of (text_lines first)) refl opens

  pub session_is_a_script_amid_looks : SessionIsAScriptAmidLooks step tells device read remaining write flush contents
  session_is_a_script_amid_looks size first medium from last next unread left before told after opens h =
      scripted step tells device write flush contents size (RunAmidLooks tells)
      (λ n line answer. Unit {0}) (runs-amid tells) first medium from last.state before told h.lines h.answers
      (taken-lines read remaining h.lines unread left h.taken)
      (sessions_stand_alone step tells size (device medium) 1 from last h.lines h.answers h.went)
      (all-fine 1 h.lines h.answers) (start_of (text_lines first)) refl opens

fleet-opened : (c : Configuration) (d : Device) → fleet_in (opening_layers c d) ≡ opening c d
fleet-opened c d = opened-mailboxes c d (machine.opening c d) (map opening_driver c.controllers) [] refl refl

runs-of : (tells : Bool) (size : Capacity) (d : Device) (text said : List ℕ) (last : Layers)
    → IsPlayed (Run tells) size d text said last → (before : List ℕ)
    → Runs tells text d last.subsystem.device (Some before) (Some (before ++ said))
unfolding fleet_in
runs-of tells size d text said last h before =
    let ran = h.ran before in record {
      last = fleet_in last;
      transcribed = record {
        replies = ran.replies;
        ran = subst (λ (f : Fleet). mailboxes.Run tells f (events_in text) ran.replies (fleet_in last))
            (fleet-opened (configuration_of (text_lines text)) d)
            (mailboxes-ran tells (opening_layers (configuration_of (text_lines text)) d) last
            (events_in text) ran.replies ran.ran);
        wrote = ran.wrote;
      };
      leaves = refl;
    }

pub played_is_a_run : PlayedIsARun
played_is_a_run tells size d text said last h short =
    (record { short = short; grammar = h.grammar; accepted = h.accepted }, runs-of tells size d text said last h)

pub refused_is_a_fault : RefusedIsAFault
refused_is_a_fault size text said why h short = (short, h.grammar, h.starts.1, h.refused)

pub replays_alike : ReplaysAlike
replays_alike size d new text said last before after h same run other below =
    let ran = h.ran [] in
    let mine : Runs true text d last.subsystem.device (Some []) (Some said) =
    (runs-of true size d text said last h []) in
    let this = transcript_is_unique text d last.subsystem.device (Some []) (Some said) mine same below in
    let that = transcript_is_unique text d new before after run other below in
    (subst (λ (bs : List ℕ). Appends before after bs) (sym this.0) that.0, that.1 ∙ sym this.1)
