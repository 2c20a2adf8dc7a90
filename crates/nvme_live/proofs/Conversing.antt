-- For the answers of `converse`, `set_up` and `settle`: one more line of a session, as its loops process it.
use Rattle.std.proofs.Common.{
  ◌≡◌,
  ◌≤◌,
  ◌<◌,
  ◌+◌,
  ◌-◌,
  ◌^◌,
  ℕ,
  Bool,
  true,
  false,
  List,
  length,
  Ok,
  Err,
  inl,
  inr,
  refl,
  sym,
  ap,
  subst,
  ◌∙◌,
  arith,
}
use Rattle.std.specs.Prelude.{Result, IfOk, IfErr, nat_lt, codes}
use Rattle.std.proofs.lemmas.Bool.{ltb-true, ltb-false, lt-ltb}
use Rattle.std.proofs.lemmas.List.{length-take}
use Rattle.nvme_spec.specs.Blocks.{Device}
use Rattle.nvme_spec.specs.Configuration.{Capacity}
use Rattle.nvme_spec.specs.MediumCalls.{MediumCall}
use Rattle.nvme_subsys.specs.OverMedium.{OverMedium, over}
use Rattle.nvme_live.specs.SetUps.{SetUp, with_line}
use Rattle.nvme_fleet.specs.FleetStates.{Layers}
use Rattle.nvme_grammar.specs.declared.line.Line.{Line}
use Rattle.nvme_grammar.specs.declared.line.Line.TheVariants.{Blank, Controller, Namespace, Attached, Start, Event}
use Rattle.nvme_grammar.specs.Lent.{line_by_value}
use Rattle.nvme_program.specs.declared.fault.ScriptFault.{ScriptFault}
use Rattle.nvme_program.specs.declared.fault.ScriptFault.TheVariants.{Syntax, Config, TooLong, NoMemory, Read, Write}
use Rattle.live_text.specs.declared.fault.Why.TheVariants as why
use Rattle.live_text.specs.declared.asking.Asked.{Asked}
use Rattle.live_text.specs.declared.asking.Asked.TheVariants.{Fails, Sets}
use Rattle.nvme_live.specs.declared.setting.Settled.{Settled}
use Rattle.nvme_live.specs.declared.setting.Settled.TheVariants as settled
use Rattle.nvme_live.specs.Answers.{Answered}
use Rattle.nvme_live.specs.AnswerCalls.{AnswersLineBy, TurnOver}
use Rattle.live_text.specs.Asking.{asked}
use Rattle.nvme_live.specs.Saying.{with_feed}
use Rattle.nvme_live.specs.Settling.{Comes, SettlesAlike}
use Rattle.nvme_live.specs.Standings.{MayLackRoom, Standing, Setting, Running, Turn, TurnOf}
use Rattle.nvme_live.specs.Conversations.{
  CanRun,
  CanStarve,
  ComesToStart,
  Converses,
  Ends,
  EndsBy,
  Starves,
  Stops,
  Uncounted,
  Unread,
  alone,
  standing_over,
}
use Rattle.script_text.specs.Writing.{Sending, Sent}
use Rattle.nvme_live.specs.Streams.{Failed, GivesLine, LineCall, Says}
use Rattle.nvme_live.specs.Taking.{kept}
use Rattle.nvme_live.proofs.Takings.{kept-all, kept-short}
use Rattle.nvme_live.proofs.Sessions.{conversed-one, conversed-more}

-- the stored front of a line is parsed like the whole line
too-long : (xs : List ℕ) → 1048576 < length xs → asked xs ≡ Fails why.TooLong
unfolding asked
too-long xs long = rw (lt-ltb 1048576 (length xs) long) refl

long-kept : (xs : List ℕ) → 1048576 < length xs → 1048576 < length (kept xs)
unfolding kept
long-kept xs long = let short = length-take 1048577 xs in omega (arith, short, long)

pub asked-kept : (line : List ℕ) → asked (kept line) ≡ asked line
asked-kept line = by (nat_lt 1048576 (length line)) refl
  where
    by : (t : Bool) → nat_lt 1048576 (length line) ≡ t → asked (kept line) ≡ asked line
    by true e =
        let long : 1048576 < length line = ltb-true 1048576 (length line) e in
        too-long (kept line) (long-kept line long) ∙ sym (too-long line long)
    by false e =
        let fits = ltb-false 1048576 (length line) e in
        ap asked (kept-all line (omega (arith, fits)))

-- A line before `start`.
pub comes-by : {W : Type 0} (Sends : W → Sending → W → Type 0) (said : Result (Unit {0}) ScriptFault)
    (result : Result Settled ScriptFault) (n : ℕ) (old : SetUp) (asks : Asked) (new : SetUp) (before after : W)
    (answer : List ℕ)
    → (MayBe : List ℕ → Type 0) → (MayBe answer → MayLackRoom (Setting old) asks answer)
    → IfOk said (λ _. result ≡ Ok settled.Answered) → IfErr said (λ fault. result ≡ Err fault)
    → SettlesAlike n old asks answer new → Says Sends MayBe said answer before after
    → Comes Sends result n old asks new before after
comes-by Sends (Ok x) result n old asks new before after answer MayBe may is other alike says =
    subst (λ (r : Result Settled ScriptFault). Comes Sends r n old asks new before after) (sym is) (answer, alike, says)
comes-by Sends (Err Write) result n old asks new before after answer MayBe may other is alike says =
    subst (λ (r : Result Settled ScriptFault). Comes Sends r n old asks new before after) (sym is) (answer, alike, says)
comes-by Sends (Err NoMemory) result n old asks new before after answer MayBe may other is alike says =
    subst (λ (r : Result Settled ScriptFault). Comes Sends r n old asks new before after) (sym is)
    (inr (answer, alike, may says.0, says.1))
comes-by Sends (Err (Syntax k)) result n old asks new before after answer MayBe may other is alike says = absurd says
comes-by Sends (Err (Config k f)) result n old asks new before after answer MayBe may other is alike says = absurd says
comes-by Sends (Err TooLong) result n old asks new before after answer MayBe may other is alike says = absurd says
comes-by Sends (Err Read) result n old asks new before after answer MayBe may other is alike says = absurd says

pub sets-other : (n : ℕ) (c new : SetUp) (line : Line) → (line ≡ Start → ⊥) → new ≡ with_line n c (line_by_value line)
    → SettlesAlike n c (Sets (line_by_value line)) (with_feed (codes "ok")) new
sets-other n c new Start other e = absurd (other refl)
sets-other n c new Blank other e = λ size d. (refl, ap Setting e)
sets-other n c new (Controller k) other e = λ size d. (refl, ap Setting e)
sets-other n c new (Namespace k) other e = λ size d. (refl, ap Setting e)
sets-other n c new (Attached k m) other e = λ size d. (refl, ap Setting e)
sets-other n c new (Event event) other e = λ size d. (refl, ap Setting e)

-- a line, whose front is stored, is parsed like the whole line
module _ {R : Type 0} (Reads : R → LineCall → R → Type 0) where
  pub asks-whole : (v w : R) (line : List ℕ) (asks : Asked) (reads : GivesLine Reads true v w line)
      → asks ≡ asked line → asks ≡ asked reads.0
  asks-whole v w line asks reads is = is ∙ ap asked reads.2 ∙ asked-kept reads.0

  pub short-read : (v w : R) (line : List ℕ) → GivesLine Reads true v w line → length line ≤ 1048577
  short-read v w line reads = let short = kept-short reads.0 in omega (arith, short, ap length reads.2)

module _ {S R W : Type 0} (Turns : ℕ → S → List ℕ → List ℕ → S → Type 0) (Reads : R → LineCall → R → Type 0)
    (Sends : W → Sending → W → Type 0) (a b : S) (first k : ℕ) (u v : R) (x y : W)
    (h : Converses Turns Reads Sends first a k b u v x y) (w : R) where
  module _ (z : W) (line : List ℕ) (reads : GivesLine Reads true v w line) where
    pub line-more : (c : S) (answer : List ℕ) → Turns k b reads.0 answer c → Sends y (Sent answer) z
        → Converses Turns Reads Sends first a (k + 1) c u w x z
    line-more c answer turn sent =
        conversed-more Turns Reads Sends first k (k + 1) a b c u v w x y z h
        (conversed-one Turns Reads Sends k b c v w y z reads.0 answer reads.1 turn sent)

    pub line-stops : (Unsent : S → List ℕ → W → List ℕ → W → Type 0) (c : S) (answer : List ℕ)
        → Turns k b reads.0 answer c → Unsent b reads.0 y answer z → Stops Turns Reads Sends Unsent first a c u w x z
    line-stops Unsent c answer turn unsent = record {
      next = k;
      mid = b;
      between = v;
      written = y;
      conversed = h;
      line = reads.0;
      taken = reads.1;
      answer = answer;
      turn = turn;
      unsent = unsent;
    }

    pub line-starves : (standing : S → Standing) (says : Line)
        → asked reads.0 ≡ Sets says → CanStarve (standing b) says (CanRun Turns standing k b reads.0) → z ≡ y
        → Starves Turns Reads Sends standing first a b u w x z
    line-starves standing says sets starved same = record {
      next = k;
      between = v;
      conversed = subst (λ (t : W). Converses Turns Reads Sends first a k b u v x t) (sym same) h;
      line = reads.0;
      taken = reads.1;
      says = says;
      sets = sets;
      starved = starved;
    }

  pub no-more : (line : List ℕ) → GivesLine Reads false v w line → Ends Turns Reads Sends first a b u w x y
  no-more line (ended, none) = record { next = k; end = v; conversed = h; ended = ended }

  pub not-read : Reads v Failed w → Unread Turns Reads Sends first a b u w x y
  not-read failed = record { next = k; between = v; conversed = h; failed = failed }

-- the session can count no more lines
pub not-counted : {S R W : Type 0} (Turns : ℕ → S → List ℕ → List ℕ → S → Type 0) (Reads : R → LineCall → R → Type 0)
    (Sends : W → Sending → W → Type 0) (a b : S) (first k : ℕ) (u v : R) (x y : W)
    → Converses Turns Reads Sends first a k b u v x y → 2 ^ 64 - 1 ≤ k → Uncounted Turns Reads Sends first a b u v x y
not-counted Turns Reads Sends a b first k u v x y h many = record { next = k; conversed = h; many = many }

-- A line before `start`, by its effect.
module _ {R W : Type 0} (Reads : R → LineCall → R → Type 0) (Sends : W → Sending → W → Type 0) (tells : Bool)
    (size : Capacity) (d : Device) (k : ℕ) (c0 c1 c2 : SetUp) (u v : R) (x y : W)
    (h : Converses (TurnOf tells size d) Reads Sends 1 (Setting c0) k (Setting c1) u v x y)
    (w : R) (z : W) (line : List ℕ) (asks : Asked) (reads : GivesLine Reads true v w line)
    (is : asks ≡ asked line) where
  settles-whole : (answer : List ℕ) → SettlesAlike k c1 asks answer c2
      → TurnOf tells size d k (Setting c1) reads.0 answer (Setting c2)
  settles-whole answer alike = subst (λ (q : Asked). Turn tells size d k (Setting c1) q answer (Setting c2))
      (asks-whole Reads v w line asks reads is) (alike size d)

  pub came-answered : Comes Sends (Ok settled.Answered) k c1 asks c2 y z
      → Converses (TurnOf tells size d) Reads Sends 1 (Setting c0) (k + 1) (Setting c2) u w x z
  came-answered (answer, alike, sent) =
      line-more (TurnOf tells size d) Reads Sends (Setting c0) (Setting c1) 1 k u v x y h w z line reads
      (Setting c2) answer (settles-whole answer alike) sent

  pub came-started : Comes Sends (Ok settled.Started) k c1 asks c2 y z → k < 2 ^ 64 - 1
      → ComesToStart Reads Sends tells size d k c0 c2 u w x z
  came-started (starts, same, unwritten) countable = record {
    between = v;
    conversed = subst (λ (t : W). Converses (TurnOf tells size d) Reads Sends 1 (Setting c0) k (Setting c2) u v x t)
        (sym unwritten)
        (subst (λ (c : SetUp). Converses (TurnOf tells size d) Reads Sends 1 (Setting c0) k (Setting c) u v x y)
        (sym same) h);
    line = reads.0;
    taken = reads.1;
    starts = sym (asks-whole Reads v w line asks reads is) ∙ starts;
    countable = countable;
  }

  pub came-to-fault : (fault : ScriptFault) → Comes Sends (Err fault) k c1 asks c2 y z
      → EndsBy fault (TurnOf tells size d) Reads Sends alone 1 (Setting c0) (Setting c2) u w x z
  came-to-fault Write (answer, alike, broke) =
      line-stops (TurnOf tells size d) Reads Sends (Setting c0) (Setting c1) 1 k u v x y h w z line reads _
      (Setting c2) answer (settles-whole answer alike) broke
  came-to-fault NoMemory (inl (says, sets, crowded, same, unwritten)) =
      inl (subst
      (λ (c : SetUp). Starves (TurnOf tells size d) Reads Sends alone 1 (Setting c0) (Setting c) u w x z) (sym same)
      (line-starves (TurnOf tells size d) Reads Sends (Setting c0) (Setting c1) 1 k u v x y h w z line reads alone says
      (sym (asks-whole Reads v w line asks reads is) ∙ sets) (inr crowded) unwritten))
  came-to-fault NoMemory (inr (answer, alike, may, unwritten)) =
      inr (line-stops (TurnOf tells size d) Reads Sends (Setting c0) (Setting c1) 1 k u v x y h w z line reads _
      (Setting c2) answer (settles-whole answer alike) (
        subst (λ (q : Asked). MayLackRoom (Setting c1) q answer) (asks-whole Reads v w line asks reads is) may,
        unwritten,
      ))
  came-to-fault (Syntax i) q = absurd q
  came-to-fault (Config i f) q = absurd q
  came-to-fault TooLong q = absurd q
  came-to-fault Read q = absurd q

-- A line after it.
module _ {M R W : Type 0} (Reads : R → LineCall → R → Type 0) (Sends : W → Sending → W → Type 0)
    (step : M → MediumCall → M → Type 0) (tells : Bool) (size : Capacity) (d : Device) (first k : ℕ) (l0 : Layers)
    (m0 : M) (l1 : Layers) (m1 : M) (l2 : Layers) (m2 : M)
    (u v : R) (x y : W) (h : Converses (TurnOver step tells size d) Reads Sends first (over (Running l0) m0) k
    (over (Running l1) m1) u v x y)
    (w : R) (z : W) (line : List ℕ) (asks : Asked) (reads : GivesLine Reads true v w line)
    (is : asks ≡ asked line) where
  turned : (answer : List ℕ) → AnswersLineBy step tells k asks (over l1 m1) answer (over l2 m2)
      → TurnOver step tells size d k (over (Running l1) m1) reads.0 answer (over (Running l2) m2)
  turned answer says = (
    l2,
    subst (λ (q : Asked). AnswersLineBy step tells k q (over l1 m1) answer (over l2 m2))
        (asks-whole Reads v w line asks reads is) says,
    refl,
  )

  pub ran-answered : (r : Unit {0}) → Answered Sends (MayLackRoom (Running l1) asks) (Ok r)
      (λ answer. AnswersLineBy step tells k asks (over l1 m1) answer (over l2 m2)) y z
      → Converses (TurnOver step tells size d) Reads Sends first (over (Running l0) m0) (k + 1)
      (over (Running l2) m2) u w x z
  ran-answered r (answer, says, sent) =
      line-more (TurnOver step tells size d) Reads Sends (over (Running l0) m0)
      (over (Running l1) m1) first k u v x y h w z line reads (over (Running l2) m2) answer (turned answer says) sent

  stopped : (Unsent : OverMedium Standing M → List ℕ → W → List ℕ → W → Type 0) (answer : List ℕ)
      → AnswersLineBy step tells k asks (over l1 m1) answer (over l2 m2)
      → Unsent (over (Running l1) m1) reads.0 y answer z
      → Stops (TurnOver step tells size d) Reads Sends Unsent first (over (Running l0) m0)
      (over (Running l2) m2) u w x z
  stopped Unsent answer says unsent =
      line-stops (TurnOver step tells size d) Reads Sends (over (Running l0) m0) (over (Running l1) m1) first k u v x y
      h w z line reads Unsent (over (Running l2) m2) answer (turned answer says) unsent

  pub ran-stopped : (fault : ScriptFault) → Answered Sends (MayLackRoom (Running l1) asks) (Err fault)
      (λ answer. AnswersLineBy step tells k asks (over l1 m1) answer (over l2 m2)) y z
      → EndsBy fault (TurnOver step tells size d) Reads Sends standing_over first (over (Running l0) m0)
      (over (Running l2) m2) u w x z
  ran-stopped Write (answer, says, broke) = stopped _ answer says broke
  ran-stopped NoMemory (answer, says, (may, same)) = inr (stopped _ answer says
      (subst (λ (q : Asked). MayLackRoom (Running l1) q answer) (asks-whole Reads v w line asks reads is) may, same))
  ran-stopped (Syntax i) (answer, says, h) = absurd h
  ran-stopped (Config i f) (answer, says, h) = absurd h
  ran-stopped TooLong (answer, says, h) = absurd h
  ran-stopped Read (answer, says, h) = absurd h
