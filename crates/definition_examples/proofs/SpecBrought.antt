-- For `spec_brought_media.rt`: the content of a room, and the answers and effects of calls.
use Rattle.std.proofs.Common.{◌*◌, ap, arith}
use Rattle.std.specs.Prelude.{◌≡◌, ◌≤◌, ℕ, List, take, Some, Ok, true, Result}
use Rattle.nvme_spec.specs.Blocks.{block_at}
use Rattle.nvme_spec.specs.Bytes.{with_bytes}
use Rattle.nvme_spec.specs.MediumCalls.{MediumAnswer}
use Rattle.nvme_spec.specs.declared.medium.MediumFault.{MediumFault as Fault}
use Rattle.nvme_brought.specs.Brought.{
  room_bytes,
  bytes_at_hand,
  with_room,
  Fails,
  PutsAt,
  ReadsFrom,
  WritesTo,
  FlushesIf,
}
use Rattle.nvme_brought.specs.declared.medium.BroughtMedium.{BroughtMedium as Medium}
use Rattle.nvme_brought.specs.declared.room.Room.{Room as BlockRoom}
use Rattle.nvme_spec.specs.Blocks.{HasFailed}

pub rooms_at_hand : (r : BlockRoom) → r.at_hand ≡ 2 → bytes_at_hand r ≡ take 1024 (room_bytes r)
rooms_at_hand r two = ap (λ n. take (512 * n) (room_bytes r)) two

pub rooms_content : (content : List ℕ) → (r : BlockRoom) → r.first ≡ 2
    → with_room content r ≡ with_bytes content 1024 (bytes_at_hand r)
rooms_content content r two = ap (λ n. with_bytes content (512 * n) (bytes_at_hand r)) two

pub brought_answers_failed : (before after : Medium) → Fails before after → before.failures ≡ 3 → 4 ≤ after.failures
brought_answers_failed before after x three =
    let risen : HasFailed before.failures after.failures = x.failures in omega (arith, risen.risen)

pub brought_answers_read : (before after : Medium) → (answer : Result (List ℕ) Fault)
    → ReadsFrom (Some 1) before answer after
    → answer ≡ Ok (block_at (room_bytes before.room) 1)
brought_answers_read before after answer x =
    let both : (answer ≡ Ok (block_at (room_bytes before.room) 1)) × (after ≡ before) = x in both.0

pub brought_answers_write : (before after : Medium) → (block : List ℕ) → (answer : MediumAnswer)
    → WritesTo (Some 1) block before answer after → answer ≡ Ok tt
brought_answers_write before after block answer x = let both : (answer
    ≡ Ok tt) × PutsAt 1 block before after = x in both.0

pub brought_answers_flush : (before after : Medium) → (answer : MediumAnswer) → FlushesIf true before answer after
    → answer ≡ Ok tt
brought_answers_flush before after answer x = let both : (answer ≡ Ok tt) × (after ≡ before) = x in both.0

pub brought_writes_bytes : (before after : Medium) → (block : List ℕ) → PutsAt 1 block before after
    → room_bytes after.room ≡ with_bytes (room_bytes before.room) 512 block
brought_writes_bytes before after block x = x.bytes

pub brought_writes_failures : (before after : Medium) → (block : List ℕ) → PutsAt 1 block before after
    → after.failures ≡ before.failures
brought_writes_failures before after block x = x.failures
