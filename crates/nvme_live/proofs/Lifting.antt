-- For the answer of `run_from_setting`: the lines before `start` over a medium make no call of it.
use Rattle.std.proofs.Common.{◌≡◌, ◌+◌, ℕ, Bool, List, [], ◌∷◌, inl, inr, refl, ap, subst}
use Rattle.nvme_spec.specs.Blocks.{Device}
use Rattle.nvme_spec.specs.Configuration.{Capacity}
use Rattle.nvme_spec.specs.MediumCalls.{MediumCall}
use Rattle.nvme_spec.specs.declared.config.ConfigFault.{ConfigFault}
use Rattle.nvme_subsys.specs.OverMedium.{over}
use Rattle.nvme_fleet.specs.FleetStates.{Layers}
use Rattle.nvme_program.specs.declared.fault.ScriptFault.{ScriptFault}
use Rattle.nvme_program.specs.declared.fault.ScriptFault.TheVariants.{Syntax, Config, TooLong, NoMemory, Read, Write}
use Rattle.nvme_live.specs.AnswerCalls.{TurnOver}
use Rattle.nvme_grammar.specs.declared.line.Line.{Line}
use Rattle.nvme_live.specs.Conversations.{CanRun, CanStarve, Converses, Ends, EndsBy, Stops, alone, standing_over}
use Rattle.nvme_live.specs.SetUps.{SetUp}
use Rattle.nvme_live.specs.Standings.{LineByLine, Over, Running, Setting, Standing, TurnOf}
use Rattle.script_text.specs.Writing.{Sending}
use Rattle.nvme_live.specs.Streams.{LineCall}

not-running : (s : SetUp) (l : Layers) → Setting s ≡ Running l → ⊥
not-running s l e = cc

not-over : (s : SetUp) (k : ℕ) (fault : ConfigFault) → Setting s ≡ Over k fault → ⊥
not-over s k fault e = cc

module _ {M : Type 0} (step : M → MediumCall → M → Type 0) (tells : Bool) (size : Capacity) (d : Device) (m : M) where
  -- a running session has no more setup lines
  runs-on : (lines answers : List (List ℕ)) (n : ℕ) (l : Layers) (s : SetUp)
      → LineByLine (TurnOf tells size d) n (Running l) lines answers (Setting s) → ⊥
  runs-on [] [] n l s h = not-running s l h
  runs-on [] (answer ∷ answers) n l s h = h
  runs-on (line ∷ lines) [] n l s h = h
  runs-on (line ∷ lines) (answer ∷ answers) n l s (mid, (later, says, is), rest) =
      runs-on lines answers (n + 1) later s
      (subst (λ (t : Standing). LineByLine (TurnOf tells size d) (n + 1) t lines answers (Setting s)) is rest)

  is-over : (lines answers : List (List ℕ)) (n k : ℕ) (fault : ConfigFault) (s : SetUp)
      → LineByLine (TurnOf tells size d) n (Over k fault) lines answers (Setting s) → ⊥
  is-over [] [] n k fault s h = not-over s k fault h
  is-over [] (answer ∷ answers) n k fault s h = h
  is-over (line ∷ lines) [] n k fault s h = h
  is-over (line ∷ lines) (answer ∷ answers) n k fault s h = h.1

  lines-over : (lines answers : List (List ℕ)) (n : ℕ) (a b : SetUp)
      → LineByLine (TurnOf tells size d) n (Setting a) lines answers (Setting b)
      → LineByLine (TurnOver step tells size d) n (over (Setting a) m) lines answers (over (Setting b) m)
  lines-over [] [] n a b h = ap (λ s. over s m) h
  lines-over [] (answer ∷ answers) n a b h = absurd h
  lines-over (line ∷ lines) [] n a b h = absurd h
  lines-over (line ∷ lines) (answer ∷ answers) n a b (mid, turn, rest) =
      by (λ c. lines-over lines answers (n + 1) c b) mid turn rest
    where
      by : ((c : SetUp) → LineByLine (TurnOf tells size d) (n + 1) (Setting c) lines answers (Setting b)
          → LineByLine (TurnOver step tells size d) (n + 1) (over (Setting c) m) lines answers (over (Setting b) m))
          → (mid : Standing) → TurnOf tells size d n (Setting a) line answer mid
          → LineByLine (TurnOf tells size d) (n + 1) mid lines answers (Setting b)
          → LineByLine (TurnOver step tells size d) n (over (Setting a) m) (line ∷ lines) (answer ∷ answers)
          (over (Setting b) m)
      by more (Setting c) turn rest = (over (Setting c) m, (turn, refl), more c rest)
      by more (Running l) turn rest = absurd (runs-on lines answers (n + 1) l b rest)
      by more (Over k fault) turn rest = absurd (is-over lines answers (n + 1) k fault b rest)

  module _ {R W : Type 0} (Reads : R → LineCall → R → Type 0) (Sends : W → Sending → W → Type 0) where
    pub conversed-over : (a b : SetUp) (k : ℕ) (u v : R) (x y : W)
        → Converses (TurnOf tells size d) Reads Sends 1 (Setting a) k (Setting b) u v x y
        → Converses (TurnOver step tells size d) Reads Sends 1 (over (Setting a) m) k (over (Setting b) m) u v x y
    conversed-over a b k u v x y h = record {
      lines = h.lines;
      answers = h.answers;
      counted = h.counted;
      taken = h.taken;
      went = lines-over h.lines h.answers 1 a b h.went;
      sent = h.sent;
    }

    pub ends-over : (a b : SetUp) (u w : R) (x y : W)
        → Ends (TurnOf tells size d) Reads Sends 1 (Setting a) (Setting b) u w x y
        → Ends (TurnOver step tells size d) Reads Sends 1 (over (Setting a) m) (over (Setting b) m) u w x y
    ends-over a b u w x y h = record {
      next = h.next;
      end = h.end;
      conversed = conversed-over a b h.next u h.end x y h.conversed;
      ended = h.ended;
    }

    stops-over : (Unsent : Standing → List ℕ → W → List ℕ → W → Type 0) (a b : SetUp) (u w : R) (x z : W)
        → Stops (TurnOf tells size d) Reads Sends Unsent 1 (Setting a) (Setting b) u w x z
        → Stops (TurnOver step tells size d) Reads Sends (λ s line y answer z. Unsent s.state line y answer z) 1
        (over (Setting a) m) (over (Setting b) m) u w x z
    stops-over Unsent a b u w x z h = by h.mid h.conversed h.turn h.unsent
      where
        by : (mid : Standing)
            → Converses (TurnOf tells size d) Reads Sends 1 (Setting a) h.next mid u h.between x h.written
            → TurnOf tells size d h.next mid h.line h.answer (Setting b) → Unsent mid h.line h.written h.answer z
            → Stops (TurnOver step tells size d) Reads Sends (λ s line y answer z. Unsent s.state line y answer z) 1
            (over (Setting a) m) (over (Setting b) m) u w x z
        by (Setting c) conversed turn unsent = record {
          next = h.next;
          mid = over (Setting c) m;
          between = h.between;
          written = h.written;
          conversed = conversed-over a c h.next u h.between x h.written conversed;
          line = h.line;
          taken = h.taken;
          answer = h.answer;
          turn = (turn, refl);
          unsent = unsent;
        }
        by (Running l) conversed turn unsent = absurd (not-running b turn.0 turn.2)
        by (Over k fault) conversed turn unsent = absurd turn

    starves-over : (n : ℕ) (s : SetUp) (line : List ℕ) (says : Line)
        → CanStarve (Setting s) says (CanRun (TurnOf tells size d) alone n (Setting s) line)
        → CanStarve (Setting s) says (CanRun (TurnOver step tells size d) standing_over n (over (Setting s) m) line)
    starves-over n s line says (inl (is, (answer, later, turn, l, runs))) =
        inl (is, (answer, over later m, (turn, refl), l, runs))
    starves-over n s line says (inr crowded) = inr crowded

    pub ends_by-over : (fault : ScriptFault) (a b : SetUp) (u w : R) (x z : W)
        → EndsBy fault (TurnOf tells size d) Reads Sends alone 1 (Setting a) (Setting b) u w x z
        → EndsBy fault (TurnOver step tells size d) Reads Sends standing_over 1 (over (Setting a) m)
        (over (Setting b) m) u w x z
    ends_by-over (Config k f) a b u w x z (next, conversed, is) = (next, conversed-over a b next u w x z conversed, is)
    ends_by-over Read a b u w x z (inl h) = inl (record {
      next = h.next;
      between = h.between;
      conversed = conversed-over a b h.next u h.between x z h.conversed;
      failed = h.failed;
    })
    ends_by-over Read a b u w x z (inr h) =
        inr (record { next = h.next; conversed = conversed-over a b h.next u w x z h.conversed; many = h.many })
    ends_by-over Write a b u w x z h = stops-over _ a b u w x z h
    ends_by-over NoMemory a b u w x z (inl h) = inl (record {
      next = h.next;
      between = h.between;
      conversed = conversed-over a b h.next u h.between x z h.conversed;
      line = h.line;
      taken = h.taken;
      says = h.says;
      sets = h.sets;
      starved = starves-over h.next b h.line h.says h.starved;
    })
    ends_by-over NoMemory a b u w x z (inr h) = inr (stops-over _ a b u w x z h)
    ends_by-over (Syntax k) a b u w x z h = absurd h
    ends_by-over TooLong a b u w x z h = absurd h
