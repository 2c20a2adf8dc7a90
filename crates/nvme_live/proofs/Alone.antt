-- For the law `session_stands_alone`: a session over a medium is one of its states alone.
use Rattle.std.proofs.Common.{◌≡◌, ◌+◌, ℕ, Bool, List, [], ◌∷◌, Option, None, Some, ap}
use Rattle.nvme_spec.specs.Blocks.{Device}
use Rattle.nvme_spec.specs.Configuration.{Capacity}
use Rattle.nvme_spec.specs.MediumCalls.{MediumCall}
use Rattle.nvme_subsys.specs.OverMedium.{OverMedium, over}
use Rattle.nvme_fleet.specs.FleetStates.{Layers}
use Rattle.nvme_fleet.proofs.LayerCalls.{layer_calls_are_of_a_step}
use Rattle.live_text.specs.declared.looking.Looking.{Looking}
use Rattle.live_text.specs.declared.looking.Looking.TheVariants as look
use Rattle.live_text.specs.declared.asking.Asked.{Asked}
use Rattle.live_text.specs.declared.asking.Asked.TheVariants.{Fails, Nothing, Looks, Parses, Sets, Does}
use Rattle.nvme_live.specs.Answers.{AnswersLine, Shows, ShowsBlocks, block_of}
use Rattle.nvme_live.specs.AnswerCalls.{AnswersLineBy, ShowsBlocksBy, ShowsBy, TurnBy, TurnOver}
use Rattle.live_text.specs.Asking.{asked}
use Rattle.nvme_live.specs.Conversations.{Converses}
use Rattle.nvme_live.specs.SessionLaws.{SessionsStandAlone, EndsStandAlone}
use Rattle.nvme_live.specs.Standings.{Over, Running, Setting, Standing, Turn, TurnOf}
use Rattle.script_text.specs.Writing.{Sending}
use Rattle.nvme_live.specs.Streams.{LineCall}

module _ {M : Type 0} (step : M → MediumCall → M → Type 0) (tells : Bool) where
  same-state : (a b : OverMedium Layers M) → b ≡ a → b.state ≡ a.state
  same-state a b e = ap (λ (o : OverMedium Layers M). o.state) e

  shows-blocks-alone : (place : Option ℕ) (n m slba count : ℕ) (a b : OverMedium Layers M) (answer : List ℕ)
      → ShowsBlocksBy step place tells n m slba count a answer b
      → ShowsBlocks place tells n m slba count a.state answer b.state
  shows-blocks-alone None n m slba count a b answer h = (h.0, same-state a b h.1)
  shows-blocks-alone (Some first) n m slba count a b answer h =
      record {
        bytes = h.bytes;
        result = h.result;
        whole = h.whole;
        reads = h.reads;
        drivers = h.drivers;
        says = h.says;
      }

  shows-alone : (n : ℕ) (looking : Looking) (a b : OverMedium Layers M) (answer : List ℕ)
      → ShowsBy step tells n looking a answer b → Shows tells n looking a.state answer b.state
  shows-alone n look.Help a b answer h = (h.0, same-state a b h.1)
  shows-alone n (look.HelpOn form) a b answer h = (h.0, same-state a b h.1)
  shows-alone n look.Namespaces a b answer h = (h.0, same-state a b h.1)
  shows-alone n look.Attached a b answer h = (h.0, same-state a b h.1)
  shows-alone n (look.Reservation m) a b answer h = (h.0, same-state a b h.1)
  shows-alone n (look.Driver k) a b answer h = (h.0, same-state a b h.1)
  shows-alone n (look.Window k address len) a b answer h = (h.0, same-state a b h.1)
  shows-alone n (look.Register k offset) a b answer h = (h.0, same-state a b h.1)
  shows-alone n (look.Registers k) a b answer h = (h.0, same-state a b h.1)
  shows-alone n (look.Queues k) a b answer h = (h.0, same-state a b h.1)
  shows-alone n (look.Fetched k) a b answer h = (h.0, same-state a b h.1)
  shows-alone n (look.Blocks m slba count) a b answer h =
      shows-blocks-alone (block_of m slba count a.state) n m slba count a b answer h

  answers-alone : (n : ℕ) (asks : Asked) (a b : OverMedium Layers M) (answer : List ℕ)
      → AnswersLineBy step tells n asks a answer b → AnswersLine tells n asks a.state answer b.state
  answers-alone n (Fails why) a b answer h = (h.0, same-state a b h.1)
  answers-alone n Nothing a b answer h = (h.0, same-state a b h.1)
  answers-alone n (Looks looking) a b answer h = shows-alone n looking a b answer h
  answers-alone n (Parses line) a b answer h = (h.0, same-state a b h.1)
  answers-alone n (Sets line) a b answer h = (h.0, same-state a b h.1)
  answers-alone n (Does event) a b answer h =
      record {
        reply = h.reply;
        step = layer_calls_are_of_a_step tells a.state b.state event h.reply h.calls.calls h.calls.are;
        says = h.says;
      }

  turn-alone : (size : Capacity) (d : Device) (n : ℕ)
      (s : Standing) (m : M) (asks : Asked) (answer : List ℕ) (new : OverMedium Standing M)
      → TurnBy step tells size d n s m asks answer new → Turn tells size d n s asks answer new.state
  turn-alone size d n (Setting s) m asks answer new h = h.0
  turn-alone size d n (Running l) m asks answer new (later, says, is) =
      (later, answers-alone n asks (over l m) (over later new.medium) answer says, is)
  turn-alone size d n (Over k fault) m asks answer new h = absurd h

  pub sessions_stand_alone : SessionsStandAlone step tells
  sessions_stand_alone size d n old new [] [] h = ap (λ (o : OverMedium Standing M). o.state) h
  sessions_stand_alone size d n old new [] (answer ∷ answers) h = absurd h
  sessions_stand_alone size d n old new (line ∷ lines) [] h = absurd h
  sessions_stand_alone size d n old new (line ∷ lines) (answer ∷ answers) (mid, turn, rest) = (
    mid.state,
    turn-alone size d n old.state old.medium (asked line) answer mid turn,
    sessions_stand_alone size d (n + 1) mid new lines answers rest,
  )

  module _ {R W : Type 0} (Reads : R → LineCall → R → Type 0) (Sends : W → Sending → W → Type 0) where
    conversed-alone : (size : Capacity) (d : Device) (n k : ℕ) (old new : OverMedium Standing M) (u v : R) (x y : W)
        → Converses (TurnOver step tells size d) Reads Sends n old k new u v x y
        → Converses (TurnOf tells size d) Reads Sends n old.state k new.state u v x y
    conversed-alone size d n k old new u v x y h = record {
      lines = h.lines;
      answers = h.answers;
      counted = h.counted;
      taken = h.taken;
      went = sessions_stand_alone size d n old new h.lines h.answers h.went;
      sent = h.sent;
    }

    pub ends_stand_alone : EndsStandAlone step tells Reads Sends
    ends_stand_alone size d n old new u w x y h = record {
      next = h.next;
      end = h.end;
      conversed = conversed-alone size d n h.next old new u h.end x y h.conversed;
      ended = h.ended;
    }
