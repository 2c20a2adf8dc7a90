-- For the answers of `look`, `look_at_blocks` and `shown_of`: answers to single lines.
use Rattle.std.proofs.Common.{
  ◌≡◌,
  ◌≤◌,
  ◌*◌,
  ℕ,
  Bool,
  false,
  List,
  length,
  Option,
  None,
  Some,
  refl,
  sym,
  ap,
  subst,
  ◌∙◌,
}
use Rattle.std.specs.Prelude.{Result, ◌==◌, ◌||◌, nat_lt}
use Rattle.std.proofs.lemmas.Bool.{ne_eqb, le-ltb}
use Rattle.nvme_spec.specs.World.{namespace_of}
use Rattle.nvme_spec.specs.declared.medium.MediumFault.{MediumFault}
use Rattle.nvme_subsys.specs.Looking.{Looks, LooksBy, block_in}
use Rattle.nvme_subsys.specs.OverMedium.{OverMedium}
use Rattle.nvme_spec.specs.MediumCalls.{MediumCall}
use Rattle.nvme_fleet.specs.FleetStates.{Layers}
use Rattle.live_text.specs.declared.looking.Looking.{Looking}
use Rattle.live_text.specs.declared.looking.Looking.TheVariants as look
use Rattle.nvme_live.specs.Answers.{block_of}
use Rattle.nvme_live.specs.AnswerCalls.{ShowsBlocksBy, ShowsBy}
use Rattle.nvme_live.specs.Saying.{with_feed}
use Rattle.live_views.specs.Looks.{looked_text, subsystem_text}
use Rattle.nvme_live.specs.Looks.{shown_text}

-- the answer to a query of anything but a driver
pub shown-other : (n : ℕ) (looking : Looking) (l : Layers) → ((k : ℕ) → looking ≡ look.Driver k → ⊥)
    → shown_text n looking l ≡ subsystem_text n looking l.subsystem
shown-other n look.Help l other = refl
shown-other n (look.HelpOn form) l other = refl
shown-other n look.Namespaces l other = refl
shown-other n look.Attached l other = refl
shown-other n (look.Reservation m) l other = refl
shown-other n (look.Driver k) l other = absurd (other k refl)
shown-other n (look.Window k address len) l other = refl
shown-other n (look.Register k offset) l other = refl
shown-other n (look.Registers k) l other = refl
shown-other n (look.Queues k) l other = refl
shown-other n (look.Fetched k) l other = refl
shown-other n (look.Blocks m slba count) l other = refl

-- a query of anything but blocks
pub shows-other : {M : Type 0} (step : M → MediumCall → M → Type 0) (tells : Bool) (n : ℕ) (looking : Looking)
    (l : OverMedium Layers M) (answer : List ℕ) → ((m slba count : ℕ) → looking ≡ look.Blocks m slba count → ⊥)
    → answer ≡ with_feed (shown_text n looking l.state) → ShowsBy step tells n looking l answer l
shows-other step tells n look.Help l answer other says = (says, refl)
shows-other step tells n (look.HelpOn form) l answer other says = (says, refl)
shows-other step tells n look.Namespaces l answer other says = (says, refl)
shows-other step tells n look.Attached l answer other says = (says, refl)
shows-other step tells n (look.Reservation m) l answer other says = (says, refl)
shows-other step tells n (look.Driver k) l answer other says = (says, refl)
shows-other step tells n (look.Window k address len) l answer other says = (says, refl)
shows-other step tells n (look.Register k offset) l answer other says = (says, refl)
shows-other step tells n (look.Registers k) l answer other says = (says, refl)
shows-other step tells n (look.Queues k) l answer other says = (says, refl)
shows-other step tells n (look.Fetched k) l answer other says = (says, refl)
shows-other step tells n (look.Blocks m slba count) l answer other says = absurd (other m slba count refl)

-- the result of a query of blocks
module _ {M : Type 0} (step : M → MediumCall → M → Type 0) (tells : Bool) (n m slba count : ℕ)
    (old new : OverMedium Layers M) (room bytes : List ℕ) where
  same : new.state.subsystem ≡ old.state.subsystem → new.state.drivers ≡ old.state.drivers
      → new.medium ≡ old.medium → new ≡ old
  same subsystem drivers medium =
      λ i. record { state = record { subsystem = subsystem i; drivers = drivers i }; medium = medium i }

  looked : (p : Option ℕ) (o : Option (Result (Unit {0}) MediumFault)) (answer : List ℕ)
      → length bytes ≡ 512 * count → Looks tells p old.state.subsystem bytes o new.state.subsystem
      → LooksBy step tells old.state.subsystem.device.content p count room bytes old.medium o new.medium
      → new.state.drivers ≡ old.state.drivers → answer ≡ with_feed (looked_text n m slba count bytes o)
      → ShowsBlocksBy step p tells n m slba count old answer new
  looked None o answer whole look calls drivers says =
      (says ∙ ap (λ r. with_feed (looked_text n m slba count bytes r)) look.0, same look.1 drivers calls.2)
  looked (Some first) None answer whole look calls drivers says = absurd look
  looked (Some first) (Some r) answer whole look calls drivers says =
      record {
        bytes = bytes;
        result = r;
        whole = whole;
        reads = look;
        calls = record { passed = calls.passed; ends = calls.ends; made = calls.made };
        drivers = drivers;
        says = says;
      }

  pub shows-blocks : (k : ℕ) (o : Option (Result (Unit {0}) MediumFault)) (answer : List ℕ)
      → (count ≡ 0 → ⊥) → count ≤ 256 → k ≡ count → length bytes ≡ 512 * count
      → Looks tells (block_in (namespace_of old.state.subsystem.world m) slba k) old.state.subsystem bytes o
      new.state.subsystem
      → LooksBy step tells old.state.subsystem.device.content
      (block_in (namespace_of old.state.subsystem.world m) slba k) k room bytes old.medium o new.medium
      → new.state.drivers ≡ old.state.drivers → answer ≡ with_feed (looked_text n m slba count bytes o)
      → ShowsBlocksBy step (block_of m slba count old.state) tells n m slba count old answer new
  shows-blocks k o answer some few equal whole look calls drivers says =
      let no : ((count == 0) || nat_lt 256 count) ≡ false =
      ap (λ b. b || nat_lt 256 count) (ne_eqb count 0 some) ∙ le-ltb 256 count few in
      let place : block_of m slba count old.state ≡ block_in (namespace_of old.state.subsystem.world m) slba count =
      rw no refl in
      subst (λ (p : Option ℕ). ShowsBlocksBy step p tells n m slba count old answer new) (sym place)
      (looked (block_in (namespace_of old.state.subsystem.world m) slba count) o answer whole
      (subst (λ i. Looks tells (block_in (namespace_of old.state.subsystem.world m) slba i) old.state.subsystem bytes o
      new.state.subsystem) equal look)
      (subst (λ i. LooksBy step tells old.state.subsystem.device.content
      (block_in (namespace_of old.state.subsystem.world m) slba i) i room bytes old.medium o new.medium) equal calls)
      drivers says)
