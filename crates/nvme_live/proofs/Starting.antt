-- For the answers of `start` and `run_from_start`: the effect of `start`.
use Rattle.std.proofs.Common.{
  ◌≡◌,
  ◌≢◌,
  ◌+◌,
  ◌⊎◌,
  ℕ,
  Bool,
  List,
  Option,
  None,
  Some,
  inl,
  inr,
  refl,
  sym,
  ap,
  subst,
  ◌∙◌,
}
use Rattle.std.specs.Prelude.{true, false, if◌then◌else◌, is_some, nat_lt, unwrap_or, Result, Ok, Err, IfOk, IfErr}
use Rattle.std.specs.List.{list_any}
use Rattle.nvme_spec.specs.Blocks.{Device}
use Rattle.nvme_spec.specs.MediumCalls.{MediumCall}
use Rattle.nvme_subsys.specs.OverMedium.{over}
use Rattle.nvme_spec.specs.Configuration.{
  Capacity,
  Configuration,
  empty_configuration,
  config_fault,
  has_bad_id,
  has_bad_size,
  has_too_many,
  total_blocks,
}
use Rattle.nvme_ns.specs.declared.refusal.BrokenRule.{BrokenRule}
use Rattle.nvme_live.specs.SetUps.{SetUp, numbered_reason}
use Rattle.nvme_live.specs.SetUpLaws.{RunsWhereAccepted}
use Rattle.nvme_spec.specs.declared.config.ConfigFault.{ConfigFault}
use Rattle.nvme_spec.specs.declared.config.ConfigFault.TheVariants.{
  BadId,
  BadSize,
  DoesNotFit,
  NoMemory as WantOfMemory,
  TooMany,
}
use Rattle.nvme_machine.specs.Subsystems as machine
use Rattle.nvme_fleet.specs.FleetStates.{Layers, opening_layers}
use Rattle.nvme_ns.specs.Configured.{configuration}
use Rattle.script_text.specs.Lines.{text_lines}
use Rattle.nvme_grammar.specs.Script.{said, is_start, configuration_in}
use Rattle.nvme_grammar.specs.declared.script.Script.{Script}
use Rattle.nvme_grammar.proofs.ReadingLemmas.{started}
use Rattle.nvme_script.specs.Faults.{IsReady}
use Rattle.nvme_script.proofs.Preparing.{same_configuration}
use Rattle.nvme_grammar.specs.declared.line.Line.TheVariants.{Start}
use Rattle.nvme_program.specs.declared.fault.ScriptFault.{ScriptFault}
use Rattle.nvme_program.specs.declared.fault.ScriptFault.TheVariants.{Syntax, Config, TooLong, NoMemory, Read, Write}
use Rattle.live_text.specs.declared.asking.Asked.{Asked}
use Rattle.live_text.specs.declared.asking.Asked.TheVariants.{Sets}
use Rattle.live_text.specs.Asking.{asked}
use Rattle.nvme_live.specs.AnswerCalls.{TurnOver}
use Rattle.nvme_live.specs.Conversations.{CanRun, ComesToStart, Converses, Ends, EndsBy, FromStart, standing_over}
use Rattle.nvme_live.specs.Lives.{Rests, StartFails, StartRefused, device_in}
use Rattle.nvme_live.specs.Saying.{LacksRoom, with_feed}
use Rattle.nvme_live.specs.Standings.{
  MayLackRoom,
  Standing,
  Setting,
  Running,
  Over,
  Starts,
  Turn,
  refused_text,
  started_text,
}
use Rattle.script_text.specs.Writing.{Sending, Sent}
use Rattle.nvme_live.specs.Streams.{Came, LineCall, Says}
use Rattle.nvme_live.proofs.Lifting.{conversed-over}
use Rattle.nvme_live.proofs.Sessions.{conversed-none, conversed-one, ends-behind, ends_by-behind}

pub accepted-start : (o : Option ConfigFault) (size : Capacity) (d : Device) (n : ℕ) (s : SetUp)
    → o ≡ None → Starts o size d n s (with_feed started_text) (Running (opening_layers s.configuration d))
accepted-start o size d n s e = subst (λ (p : Option ConfigFault).
    Starts p size d n s (with_feed started_text) (Running (opening_layers s.configuration d))) (sym e) (refl, refl)

refuses : (o : Option ConfigFault) (fault : ConfigFault) → fault ≡ unwrap_or o WantOfMemory → fault ≢ WantOfMemory
    → o ≡ Some fault
refuses None fault e other = absurd (other e)
refuses (Some f) fault e other = ap Some (sym e)

-- refused memory is not a fault of a configuration
never-wanting : (c : Configuration) (size : Capacity) → config_fault c size ≡ Some WantOfMemory → ⊥
unfolding config_fault
never-wanting c size =
    by (has_too_many c) (has_bad_id c) (has_bad_size size c.namespaces) (nat_lt size.medium (total_blocks c.namespaces))
  where
    by : (many id size room : Bool) → (if many then Some TooMany
        else (if id then Some BadId else (if size then Some BadSize else (if room then Some DoesNotFit else None))))
        ≡ Some WantOfMemory → ⊥
    by true id size room e = cc
    by false true size room e = cc
    by false false true room e = cc
    by false false false true e = cc
    by false false false false e = cc

-- why a `start` is not answered: its configuration has no fault, or the text for the fault is too long
unanswered : (o : Option ConfigFault) (fault : ConfigFault) (says : ConfigFault → List ℕ)
    → (o ≡ Some WantOfMemory → ⊥) → fault ≡ unwrap_or o WantOfMemory
    → (fault ≡ WantOfMemory) ⊎ LacksRoom (says fault)
    → (o ≡ None) ⊎ ((f : ConfigFault) × (o ≡ Some f) × LacksRoom (says f))
unanswered None fault says never is why = inl refl
unanswered (Some f) fault says never is (inl e) = absurd (never (ap Some (sym is ∙ e)))
unanswered (Some f) fault says never is (inr lacks) = inr (f, refl, subst (λ g. LacksRoom (says g)) is lacks)

-- the reason is that of the definition for this fault
pub refused-start : {W : Type 0} (Sends : W → Sending → W → Type 0) (result : ScriptFault) (size : Capacity)
    (d : Device) (n : ℕ) (s : SetUp) (fault : ConfigFault) (reason : Option (ℕ × BrokenRule)) (before after : W)
    → fault ≡ unwrap_or (config_fault s.configuration size) WantOfMemory
    → reason ≡ numbered_reason s size → StartRefused Sends result n fault reason before after
    → StartFails Sends result size d n s before after
refused-start Sends (Config k why) size d n s fault reason before after is because (at, same, other, sent) = (
  at,
  refuses (config_fault s.configuration size) fault is other ∙ ap Some (sym same),
  subst (λ (f : ConfigFault). Sends before (Sent (with_feed (refused_text n f (numbered_reason s size)))) after)
      (sym same)
      (subst (λ (r : Option (ℕ × BrokenRule)). Sends before (Sent (with_feed (refused_text n fault r))) after)
      because sent),
)
refused-start Sends Write size d n s fault reason before after is because (other, broke) = (
  with_feed (refused_text n fault reason),
  Over n fault,
  subst (λ (p : Option ConfigFault). Starts p size d n s (with_feed (refused_text n fault reason)) (Over n fault))
      (sym (refuses (config_fault s.configuration size) fault is other))
      (ap (λ (r : Option (ℕ × BrokenRule)). with_feed (refused_text n fault r)) because, refl),
  broke,
)
refused-start Sends NoMemory size d n s fault reason before after is because (why, same) = (
  unanswered (config_fault s.configuration size) fault (λ f. with_feed (refused_text n f (numbered_reason s size)))
      (never-wanting s.configuration size) is
      (subst (λ (r : Option (ℕ × BrokenRule)). (fault ≡ WantOfMemory) ⊎ LacksRoom (with_feed (refused_text n fault r)))
      because why),
  same,
)
refused-start Sends (Syntax k) size d n s fault reason before after is because h = absurd h
refused-start Sends TooLong size d n s fault reason before after is because h = absurd h
refused-start Sends Read size d n s fault reason before after is because h = absurd h

-- if the answer of an accepted `start` is not sent
pub unsaid-start : {W : Type 0} (Sends : W → Sending → W → Type 0) (fault : ScriptFault) (size : Capacity) (d : Device)
    (n : ℕ) (s : SetUp) (before after : W) → config_fault s.configuration size ≡ None
    → Says Sends (λ _. ⊥) (Err fault) (with_feed started_text) before after
    → StartFails Sends fault size d n s before after
unsaid-start Sends Write size d n s before after accepted broke = (
  with_feed started_text,
  Running (opening_layers s.configuration d),
  accepted-start (config_fault s.configuration size) size d n s accepted,
  broke,
)
unsaid-start Sends NoMemory size d n s before after accepted h = absurd h.0
unsaid-start Sends (Syntax k) size d n s before after accepted h = absurd h
unsaid-start Sends (Config k f) size d n s before after accepted h = absurd h
unsaid-start Sends TooLong size d n s before after accepted h = absurd h
unsaid-start Sends Read size d n s before after accepted h = absurd h

-- the sending of a refused one's answer
pub said-refused : {W : Type 0} (Sends : W → Sending → W → Type 0) (fault : ScriptFault) (n : ℕ) (why : ConfigFault)
    (reason : Option (ℕ × BrokenRule)) (before after : W) → why ≢ WantOfMemory
    → Says Sends LacksRoom (Err fault) (with_feed (refused_text n why reason)) before after
    → StartRefused Sends fault n why reason before after
said-refused Sends Write n why reason before after other broke = (other, broke)
said-refused Sends NoMemory n why reason before after other h = (inr h.0, h.1)
said-refused Sends (Syntax k) n why reason before after other h = absurd h
said-refused Sends (Config k f) n why reason before after other h = absurd h
said-refused Sends TooLong n why reason before after other h = absurd h
said-refused Sends Read n why reason before after other h = absurd h

runs-only : (o : Option ConfigFault) (size : Capacity) (d : Device) (n : ℕ) (s : SetUp) (answer : List ℕ)
    (later : Standing) (l : Layers) → Starts o size d n s answer later → later ≡ Running l → o ≡ None
runs-only None size d n s answer later l says is = refl
runs-only (Some fault) size d n s answer later l says is = absurd (not-running n fault l (sym says.1 ∙ is))
  where
    not-running : (n : ℕ) (fault : ConfigFault) (l : Layers) → Over n fault ≡ Running l → ⊥
    not-running n fault l e = cc

pub runs_where_accepted : RunsWhereAccepted
runs_where_accepted tells size d n s line starts = (
  λ runs. runs-only (config_fault s.configuration size) size d n s runs.0 runs.1 runs.3
      (subst (λ (q : Asked). Turn tells size d n (Setting s) q runs.0 runs.1) starts runs.2) runs.4,
  λ accepted. (
    with_feed started_text,
    Running (opening_layers s.configuration d),
    subst (λ (q : Asked).
        Turn tells size d n (Setting s) q (with_feed started_text) (Running (opening_layers s.configuration d)))
        (sym starts) (accepted-start (config_fault s.configuration size) size d n s accepted),
    opening_layers s.configuration d,
    refl,
  ),
)

opened-device : (c : Configuration) (d : Device) → (opening_layers c d).subsystem.device ≡ d
unfolding machine.opening
opened-device c d = refl

pub starts-device : (o : Option ConfigFault) (size : Capacity) (d : Device) (n : ℕ) (s : SetUp) (answer : List ℕ)
    (new : Standing) → Starts o size d n s answer new → device_in d new ≡ d
starts-device None size d n s answer new (says, is) = ap (device_in d) is ∙ opened-device s.configuration d
starts-device (Some fault) size d n s answer new (says, is) = ap (device_in d) is

module _ {M R W : Type 0} (Reads : R → LineCall → R → Type 0) (Sends : W → Sending → W → Type 0)
    (step : M → MediumCall → M → Type 0) (device : M → Device) (tells : Bool) (size : Capacity) (d : Device) (n : ℕ)
    (c : SetUp) (m : M) (line : List ℕ) (between u : R) (y : W)
    (taken : Reads between (Came line) u) (starts : asked line ≡ Sets Start) where
  turn : (answer : List ℕ) (new : Standing) → Starts (config_fault c.configuration size) size d n c answer new
      → TurnOver step tells size d n (over (Setting c) m) line answer (over new m)
  turn answer new s = (subst (λ (q : Asked). Turn tells size d n (Setting c) q answer new) (sym starts) s, refl)

  can-run : config_fault c.configuration size ≡ None
      → CanRun (TurnOver step tells size d) standing_over n (over (Setting c) m) line
  can-run accepted = (
    with_feed started_text,
    over (Running (opening_layers c.configuration d)) m,
    turn (with_feed started_text) (Running (opening_layers c.configuration d))
        (accepted-start (config_fault c.configuration size) size d n c accepted),
    opening_layers c.configuration d,
    refl,
  )

  module _ (l : Layers) (z : W) (opened : l ≡ opening_layers c.configuration d)
      (accepted : config_fault c.configuration size ≡ None) (said : Sends y (Sent (with_feed started_text)) z) where
    begun : Converses (TurnOver step tells size d) Reads Sends n (over (Setting c) m) (n + 1)
        (over (Running l) m) between u y z
    begun =
        conversed-one (TurnOver step tells size d) Reads Sends n (over (Setting c) m)
        (over (Running l) m) between u y z line (with_feed started_text) taken
        (turn (with_feed started_text) (Running l) (subst
        (λ (m : Layers). Starts (config_fault c.configuration size) size d n c (with_feed started_text) (Running m))
        (sym opened) (accepted-start (config_fault c.configuration size) size d n c accepted))) said

    pub start-ends : (w : R) (x : W) (left : M) → Rests device
        (λ last. Ends (TurnOver step tells size d) Reads Sends (n + 1) (over (Running l) m) last u w z x) d left
        → Rests device
        (λ last. Ends (TurnOver step tells size d) Reads Sends n (over (Setting c) m) last between w y x) d left
    start-ends w x left h = record {
      last = h.last;
      ended = ends-behind (TurnOver step tells size d) Reads Sends n (n + 1) (over (Setting c) m)
          (over (Running l) m) between u y z begun h.last w x h.ended;
      medium = h.medium;
      rests = h.rests;
    }

    pub start-ends-by : (fault : ScriptFault) (w : R) (x : W) (left : M) → Rests device (λ last. EndsBy fault
        (TurnOver step tells size d) Reads Sends standing_over (n + 1) (over (Running l) m) last u w z x) d left
        → Rests device (λ last. EndsBy fault (TurnOver step tells size d) Reads Sends standing_over n
        (over (Setting c) m) last between w y x) d left
    start-ends-by fault w x left h = record {
      last = h.last;
      ended = ends_by-behind (TurnOver step tells size d) Reads Sends n (n + 1) (over (Setting c) m)
          (over (Running l) m) between u y z begun standing_over fault h.last w x h.ended;
      medium = h.medium;
      rests = h.rests;
    }

  pub start-fails : (fault : ScriptFault) (z : W) (left : M) → StartFails Sends fault size d n c y z → left ≡ m
      → device m ≡ d
      → Rests device (λ last. EndsBy fault (TurnOver step tells size d) Reads Sends standing_over n
      (over (Setting c) m) last between u y z) d left
  start-fails (Config k f) z left (at, is, sent) kept told = record {
    last = over (Over k f) m;
    ended = (
      n + 1,
      conversed-one (TurnOver step tells size d) Reads Sends n (over (Setting c) m)
          (over (Over k f) m) between u y z line (with_feed (refused_text n f (numbered_reason c size))) taken
          (turn (with_feed (refused_text n f (numbered_reason c size))) (Over k f) (subst (λ (o : Option ConfigFault).
          Starts o size d n c (with_feed (refused_text n f (numbered_reason c size))) (Over k f)) (sym is)
          (refl, ap (λ i. Over i f) at))) sent,
      refl,
    );
    medium = kept;
    rests = ap device kept ∙ told;
  }
  start-fails Write z left (answer, new, s, broke) kept told = record {
    last = over new m;
    ended = record {
      next = n;
      mid = over (Setting c) m;
      between = between;
      written = y;
      conversed = conversed-none (TurnOver step tells size d) Reads Sends n (over (Setting c) m) between y;
      line = line;
      taken = taken;
      answer = answer;
      turn = turn answer new s;
      unsent = broke;
    };
    medium = kept;
    rests = ap device kept ∙ told ∙ sym (starts-device (config_fault c.configuration size) size d n c answer new s);
  }
  start-fails NoMemory z left (inl accepted, same) kept told = record {
    last = over (Setting c) m;
    ended = inl (record {
      next = n;
      between = between;
      conversed = subst (λ (t : W). Converses (TurnOver step tells size d) Reads Sends n (over (Setting c) m) n
          (over (Setting c) m) between between y t) (sym same)
          (conversed-none (TurnOver step tells size d) Reads Sends n (over (Setting c) m) between y);
      line = line;
      taken = taken;
      says = Start;
      sets = starts;
      starved = inl (refl, can-run accepted);
    });
    medium = kept;
    rests = ap device kept ∙ told;
  }
  start-fails NoMemory z left (inr (fault, is, lacks), same) kept told = record {
    last = over (Over n fault) m;
    ended = inr (record {
      next = n;
      mid = over (Setting c) m;
      between = between;
      written = y;
      conversed = conversed-none (TurnOver step tells size d) Reads Sends n (over (Setting c) m) between y;
      line = line;
      taken = taken;
      answer = with_feed (refused_text n fault (numbered_reason c size));
      turn = turn (with_feed (refused_text n fault (numbered_reason c size))) (Over n fault)
          (subst (λ (o : Option ConfigFault). Starts o size d n c
          (with_feed (refused_text n fault (numbered_reason c size))) (Over n fault)) (sym is) (refl, refl));
      unsent = (
        subst (λ (q : Asked). MayLackRoom (Setting c) q (with_feed (refused_text n fault (numbered_reason c size))))
            (sym starts) lacks,
        same,
      );
    });
    medium = kept;
    rests = ap device kept ∙ told;
  }
  start-fails (Syntax k) z left h kept told = absurd h
  start-fails TooLong z left h kept told = absurd h
  start-fails Read z left h kept told = absurd h

-- after the lines before it
module _ {M R W : Type 0} (Reads : R → LineCall → R → Type 0) (Sends : W → Sending → W → Type 0)
    (step : M → MediumCall → M → Type 0) (device : M → Device) (tells : Bool) (size : Capacity) (d : Device) (k : ℕ)
    (old new : SetUp) (m : M) (u v : R) (x y : W)
    (h : ComesToStart Reads Sends tells size d k old new u v x y) (w : R) (z : W) (left : M) where
  before : Converses (TurnOver step tells size d) Reads Sends 1 (over (Setting old) m) k
      (over (Setting new) m) u h.between x y
  before = conversed-over step tells size d m Reads Sends old new k u h.between x y h.conversed

  pub set-then-ends : Rests device
      (λ last. Ends (TurnOver step tells size d) Reads Sends k (over (Setting new) m) last h.between w y z) d left
      → Rests device
      (λ last. Ends (TurnOver step tells size d) Reads Sends 1 (over (Setting old) m) last u w x z) d left
  set-then-ends g = record {
    last = g.last;
    ended = ends-behind (TurnOver step tells size d) Reads Sends 1 k (over (Setting old) m)
        (over (Setting new) m) u h.between x y before g.last w z g.ended;
    medium = g.medium;
    rests = g.rests;
  }

  pub set-then-fault : (fault : ScriptFault) → Rests device (λ last. EndsBy fault
      (TurnOver step tells size d) Reads Sends standing_over k (over (Setting new) m) last h.between w y z) d left
      → Rests device (λ last.
      EndsBy fault (TurnOver step tells size d) Reads Sends standing_over 1 (over (Setting old) m) last u w x z) d left
  set-then-fault fault g = record {
    last = g.last;
    ended = ends_by-behind (TurnOver step tells size d) Reads Sends 1 k (over (Setting old) m)
        (over (Setting new) m) u h.between x y before standing_over fault g.last w z g.ended;
    medium = g.medium;
    rests = g.rests;
  }

-- The effect of the script before the session.
module _ (text : List ℕ) (script : Script) (ready : IsReady text script) where
  pub nothing-set : script.start ≡ None → configuration script.config ≡ empty_configuration
  nothing-set none =
      let lines = said (text_lines text) in
      let no : list_any is_start lines ≡ false = sym (started lines) ∙ ap is_some (sym ready.says.start ∙ none) in
      let empty : configuration_in lines ≡ empty_configuration = rw no refl in
      same_configuration (text_lines text) script ready.says ∙ empty

-- The result of the lines after `start`, with `start` itself.
module _ {T E R W : Type 0} (Reads : R → LineCall → R → Type 0) (Sends : W → Sending → W → Type 0)
    (step : T → MediumCall → T → Type 0) (device : T → Device) (tells : Bool) (size : Capacity) (d : Device) (n : ℕ)
    (c : SetUp) (l : Layers) (m opened-over : T) (u w : R) (y z x : W)
    (opened : l ≡ opening_layers c.configuration d) (kept : opened-over ≡ m)
    (accepted : config_fault c.configuration size ≡ None) (said : Sends y (Sent (with_feed started_text)) z) where
  pub start-ok : (r : Result T E) → IfOk r (λ after. (size : Capacity) (e : Device) → Rests device (λ last.
      Ends (TurnOver step tells size e) Reads Sends (n + 1) (over (Running l) opened-over) last u w z x) e after)
      → IfOk r (λ after. FromStart Reads u (λ between. Rests device
      (λ last. Ends (TurnOver step tells size d) Reads Sends n (over (Setting c) m) last between w y x) d after))
  start-ok (Ok after) h = λ line between taken starts.
      start-ends Reads Sends step device tells size d n c m line between u y taken starts l z opened accepted
      said w x after
      (subst (λ (o : T). Rests device (λ last.
      Ends (TurnOver step tells size d) Reads Sends (n + 1) (over (Running l) o) last u w z x) d after) kept (h size d))
  start-ok (Err e) h = tt

  pub start-err : (r : Result E (ScriptFault × T))
      → IfErr r (λ e. (size : Capacity) (f : Device) → Rests device (λ last. EndsBy e.0
      (TurnOver step tells size f) Reads Sends standing_over (n + 1) (over (Running l) opened-over) last u w z x) f e.1)
      → IfErr r (λ e. FromStart Reads u (λ between. Rests device (λ last. EndsBy e.0
      (TurnOver step tells size d) Reads Sends standing_over n (over (Setting c) m) last between w y x) d e.1))
  start-err (Ok after) h = tt
  start-err (Err e) h = λ line between taken starts. start-ends-by Reads Sends step device tells size d n c m line
      between u y taken starts l z opened accepted said e.0 w x e.1
      (subst (λ (o : T). Rests device (λ last. EndsBy e.0 (TurnOver step tells size d) Reads Sends standing_over (n + 1)
      (over (Running l) o) last u w z x) d e.1) kept (h size d))

-- The result of the lines after the setup lines.
module _ {T E R W : Type 0} (Reads : R → LineCall → R → Type 0) (Sends : W → Sending → W → Type 0)
    (step : T → MediumCall → T → Type 0) (device : T → Device) (tells : Bool) (size : Capacity) (d : Device) (k : ℕ)
    (old new : SetUp) (m : T) (u v w : R) (x y z : W)
    (h : ComesToStart Reads Sends tells size d k old new u v x y) where
  pub set-ok : (r : Result T E)
      → IfOk r (λ after. FromStart Reads v (λ between. Rests device
      (λ last. Ends (TurnOver step tells size d) Reads Sends k (over (Setting new) m) last between w y z) d after))
      → IfOk r (λ after. Rests device
      (λ last. Ends (TurnOver step tells size d) Reads Sends 1 (over (Setting old) m) last u w x z) d after)
  set-ok (Ok after) g = set-then-ends Reads Sends step device tells size d k old new m u v x y h w z after
      (g h.line h.between h.taken h.starts)
  set-ok (Err e) g = tt

  pub set-err : (r : Result E (ScriptFault × T))
      → IfErr r (λ e. FromStart Reads v (λ between. Rests device (λ last. EndsBy e.0
      (TurnOver step tells size d) Reads Sends standing_over k (over (Setting new) m) last between w y z) d e.1))
      → IfErr r (λ e. Rests device (λ last.
      EndsBy e.0 (TurnOver step tells size d) Reads Sends standing_over 1 (over (Setting old) m) last u w x z) d e.1)
  set-err (Ok after) g = tt
  set-err (Err e) g = set-then-fault Reads Sends step device tells size d k old new m u v x y h w z e.1 e.0
      (g h.line h.between h.taken h.starts)
