-- Statements of the laws in `laws.rt`: the effect of a list of calls on a medium of brought blocks.
use Rattle.std.specs.Prelude.{◌≡◌, ◌≤◌, List, [], ◌∷◌}
use Rattle.std.specs.Vec.{vec_len, vec_ptr}
use Rattle.nvme_spec.specs.MediumCalls.{MediumCall, Fails, Calls}
use Rattle.nvme_brought.specs.Brought.{content_of, brought_step, HasNothing}
use Rattle.nvme_brought.specs.declared.medium.BroughtMedium.{BroughtMedium}

-- the room has the same bytes in memory for the same blocks, and those at hand stay at hand
pub record StaysInRoom (old new : BroughtMedium) : Type 0 where
  pub disk : new.disk ≡ old.disk
  pub first : new.room.first ≡ old.room.first
  pub flushes : new.room.flushes ≡ old.room.flushes
  pub at_hand : old.room.at_hand ≤ new.room.at_hand
  pub address : vec_ptr new.room.buffer ≡ vec_ptr old.room.buffer
  pub len : vec_len new.room.buffer ≡ vec_len old.room.buffer

-- Calls reach the room alone.
abbrev pub CallsStayInRoom : Type 0
CallsStayInRoom =
    (old new : BroughtMedium) → (calls : List MediumCall) → Calls brought_step old calls new → StaysInRoom old new

abbrev pub AllFail : List MediumCall → Type 0
AllFail [] = Unit {0}
AllFail (call ∷ calls) = Fails call × AllFail calls

-- Without a block at hand each call fails, and the content is unchanged.
abbrev pub CallsFailWithoutBlocks : Type 0
CallsFailWithoutBlocks =
    (old new : BroughtMedium) → (calls : List MediumCall) → HasNothing old → Calls brought_step old calls new
    → AllFail calls × HasNothing new × (content_of new ≡ content_of old)
