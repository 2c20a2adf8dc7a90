-- For the answers of `nvmesim_look`: query lines leave the subsystem unchanged, except for the medium that they read.
use Rattle.std.proofs.Common.{
  ◌≡◌,
  ◌≤◌,
  ◌*◌,
  ◌/◌,
  ℕ,
  Bool,
  true,
  false,
  List,
  [],
  ◌∷◌,
  ◌++◌,
  length,
  Option,
  None,
  Some,
  refl,
  sym,
  ap,
  subst,
  ◌∙◌,
  inl,
  inr,
  arith,
}
use Rattle.std.specs.Prelude.{Result, ◌==◌, ◌||◌, nat_lt}
use Rattle.std.proofs.lemmas.Bool.{ne_eqb, le-ltb}
use Rattle.nvme_spec.specs.World.{namespace_of}
use Rattle.nvme_spec.specs.declared.medium.MediumFault.{MediumFault}
use Rattle.nvme_lent.specs.OwnOrLent.{step_of}
use Rattle.nvme_subsys.specs.Looking.{Looks, LooksBy, block_in}
use Rattle.live_text.specs.Asking.{asked}
use Rattle.live_text.specs.declared.asking.Asked.{Asked}
use Rattle.live_text.specs.declared.asking.Asked.TheVariants as asks
use Rattle.live_text.specs.declared.looking.Looking.{Looking}
use Rattle.live_text.specs.declared.looking.Looking.TheVariants as look
use Rattle.live_views.specs.Looks.{looked_text, subsystem_text}
use Rattle.nvme_library.specs.Holding.{Inside}
use Rattle.nvme_library.specs.LookingLines.{Answers, AnswersIf, Says, Shows, ShowsUnless}
use Rattle.nvme_library.specs.Whole.{AreWhole}
use Rattle.nvme_library.specs.declared.written.Written.{Written}
use Rattle.nvme_library.proofs.Whole.{looks_whole}

same : (old new : Inside) → new ≡ old → AreWhole old.state → AreWhole new.state
same old new is all = subst (λ (s : Inside). AreWhole s.state) (sym is) all

unless-whole : (b : Bool) (n m slba count : ℕ) (old : Inside) (text : List ℕ) (new : Inside)
    → ShowsUnless b n m slba count old text new → AreWhole old.state → AreWhole new.state
unless-whole true n m slba count old text new h all = same old new h.1 all
unless-whole false n m slba count old text new h all =
    looks_whole true _ old.state new.state h.bytes h.looked h.looks.looks all

shows-whole : (n : ℕ) (looking : Looking) (old : Inside) (text : List ℕ) (new : Inside)
    → Shows n looking old text new → AreWhole old.state → AreWhole new.state
shows-whole n (look.Blocks m slba count) old text new h all =
    unless-whole ((count == 0) || nat_lt 256 count) n m slba count old text new h all
shows-whole n look.Help old text new h all = same old new h.1 all
shows-whole n (look.HelpOn form) old text new h all = same old new h.1 all
shows-whole n look.Namespaces old text new h all = same old new h.1 all
shows-whole n look.Attached old text new h all = same old new h.1 all
shows-whole n (look.Reservation m) old text new h all = same old new h.1 all
shows-whole n (look.Driver k) old text new h all = same old new h.1 all
shows-whole n (look.Window k address len) old text new h all = same old new h.1 all
shows-whole n (look.Register k offset) old text new h all = same old new h.1 all
shows-whole n (look.Registers k) old text new h all = same old new h.1 all
shows-whole n (look.Queues k) old text new h all = same old new h.1 all
shows-whole n (look.Fetched k) old text new h all = same old new h.1 all

says-whole : (n : ℕ) (q : Asked) (old : Inside) (text : List ℕ) (new : Inside)
    → Says n q old text new → AreWhole old.state → AreWhole new.state
says-whole n (asks.Fails why) old text new h all = same old new h.1 all
says-whole n (asks.Looks looking) old text new h all = shows-whole n looking old text new h all
says-whole n (asks.Parses line) old text new h all = same old new h.1 all
says-whole n asks.Nothing old text new h all = absurd h
says-whole n (asks.Sets line) old text new h all = absurd h
says-whole n (asks.Does event) old text new h all = absurd h

answers-by-whole : (n : ℕ) (q : Asked) (old : Inside) (w : Written) (before after : List ℕ) (new : Inside)
    → Answers n q old w before after new → AreWhole old.state → AreWhole new.state
answers-by-whole n q old w before after new (inl h) all = says-whole n q old h.0 new h.1 all
answers-by-whole n q old w before after new (inr h) all = same old new h.2 all

-- after a line is answered, all controllers are as whole as before
pub answers-whole : (b : Bool) (n : ℕ) (line : List ℕ) (old : Inside) (w : Written) (before after : List ℕ)
    (new : Inside) → AnswersIf b n line old w before after new → AreWhole old.state → AreWhole new.state
answers-whole false n line old w before after new h all = same old new h.2 all
answers-whole true n line old w before after new h all = answers-by-whole n (asked line) old w before after new h all

-- a query of anything but blocks
pub shows-other : (n : ℕ) (looking : Looking) (s : Inside) (text : List ℕ)
    → ((m slba count : ℕ) → looking ≡ look.Blocks m slba count → ⊥) → text ≡ subsystem_text n looking s.state
    → Shows n looking s text s
shows-other n look.Help s text other says = (says, refl)
shows-other n (look.HelpOn form) s text other says = (says, refl)
shows-other n look.Namespaces s text other says = (says, refl)
shows-other n look.Attached s text other says = (says, refl)
shows-other n (look.Reservation m) s text other says = (says, refl)
shows-other n (look.Driver k) s text other says = (says, refl)
shows-other n (look.Window k address len) s text other says = (says, refl)
shows-other n (look.Register k offset) s text other says = (says, refl)
shows-other n (look.Registers k) s text other says = (says, refl)
shows-other n (look.Queues k) s text other says = (says, refl)
shows-other n (look.Fetched k) s text other says = (says, refl)
shows-other n (look.Blocks m slba count) s text other says = absurd (other m slba count refl)

-- a query of blocks that fit the buffer
pub shows-blocks : (n m slba count k : ℕ)
    (old new : Inside) (room bytes text : List ℕ) (looked : Option (Result (Unit {0}) MediumFault))
    → (count ≡ 0 → ⊥) → count ≤ 256 → k ≡ count → length bytes ≡ 512 * count
    → Looks true (block_in (namespace_of old.state.world m) slba k) old.state bytes looked new.state
    → LooksBy step_of true old.state.device.content
    (block_in (namespace_of old.state.world m) slba k) k room bytes old.medium looked new.medium
    → text ≡ looked_text n m slba count bytes looked → Shows n (look.Blocks m slba count) old text new
shows-blocks n m slba count k old new room bytes text looked some few equal whole looks calls says =
    let no : ((count == 0) || nat_lt 256 count) ≡ false =
    ap (λ b. b || nat_lt 256 count) (ne_eqb count 0 some) ∙ le-ltb 256 count few in
    subst (λ b. ShowsUnless b n m slba count old text new) (sym no) (record {
      room = room;
      bytes = bytes;
      looked = looked;
      whole = whole;
      looks = record {
        looks =
            subst (λ i. Looks true (block_in (namespace_of old.state.world m) slba i) old.state bytes looked new.state)
            equal looks;
        calls = subst (λ i. LooksBy step_of true old.state.device.content
            (block_in (namespace_of old.state.world m) slba i) i room bytes old.medium looked new.medium) equal calls;
      };
      says = says;
    })

-- a query of no block, or of too many
pub shows-none : (n m slba count : ℕ) (s : Inside) (text : List ℕ) → ((count == 0) || nat_lt 256 count) ≡ true
    → text ≡ looked_text n m slba count [] None → Shows n (look.Blocks m slba count) s text s
shows-none n m slba count s text some says = subst (λ b. ShowsUnless b n m slba count s text s) (sym some) (says, refl)
