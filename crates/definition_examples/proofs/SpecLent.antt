-- For `spec_lent_media.rt`: rooms that are brought and given back, and calls over borrowed bytes.
use Rattle.std.proofs.Common.{refl, arith}
use Rattle.std.specs.Prelude.{◌≡◌, ◌*◌, List, ℕ, [], ◌∷◌, length, Ok, Result}
use Rattle.nvme_spec.specs.Blocks.{block_at}
use Rattle.nvme_spec.specs.MediumCalls.{MediumAnswer, Reads, Writes, Flushes}
use Rattle.nvme_spec.specs.declared.medium.MediumFault.{MediumFault as Fault}
use Rattle.nvme_brought.specs.Brought.{content_of, with_room, room_bytes, HasNothing, IsEmpty}
use Rattle.nvme_brought.specs.declared.medium.BroughtMedium.{BroughtMedium as OfBlocks}
use Rattle.nvme_brought.specs.declared.room.Room.{Room as BlockRoom}
use Rattle.nvme_medium.specs.declared.memory.MemMedium.{MemMedium as InOwnMemory}
use Rattle.nvme_lent.specs.declared.lent.LentMedium.{LentMedium as InLentMemory}
use Rattle.nvme_lent.specs.declared.either.OwnOrLent.{OwnOrLent as Medium}
use Rattle.nvme_lent.specs.declared.either.OwnOrLent.TheVariants.{Own, Lent, Brought}
use Rattle.nvme_lent.specs.declared.either.NotBrought.TheVariants.{InMemory, Outside}
use Rattle.nvme_lent.specs.Bringing.{BringsTo, Brings, IsRefused, GivesBack, GivesRoom}
use Rattle.nvme_lent.specs.CallLaws.{IsRead, AreReads}
use Rattle.nvme_lent.specs.Lent.{lent_bytes, lent_step, tail_bytes}
use Rattle.nvme_lent.specs.OwnOrLent.{blocks_of, bytes_of, failures_of}
use Rattle.nvme_spec.specs.Bytes.{with_bytes}
use Rattle.nvme_lent.specs.Bytes.{extent}
use Rattle.nvme_lent.specs.Lent.{bytes_lent}
use Rattle.nvme_lent.specs.OwnOrLent.{whole_of}

pub brought_rooms_room : (room earlier : BlockRoom) → (before after : OfBlocks)
    → Brings room (Brought before) earlier (Brought after)
    → after.room ≡ room
brought_rooms_room room earlier before after x = x.room_is

pub brought_rooms_earlier : (room earlier : BlockRoom) → (before after : OfBlocks)
    → Brings room (Brought before) earlier (Brought after) → earlier ≡ before.room
brought_rooms_earlier room earlier before after x = x.earlier_is

pub brought_rooms_content : (room earlier : BlockRoom) → (before after : OfBlocks)
    → Brings room (Brought before) earlier (Brought after) → content_of after ≡ with_room (content_of before) room
brought_rooms_content room earlier before after x = x.content

pub brought_rooms_blocks : (room earlier : BlockRoom) → (before after : OfBlocks)
    → Brings room (Brought before) earlier (Brought after) → after.disk.blocks ≡ before.disk.blocks
brought_rooms_blocks room earlier before after x = x.blocks

pub brought_rooms_failures : (room earlier : BlockRoom) → (before after : OfBlocks)
    → Brings room (Brought before) earlier (Brought after) → after.failures ≡ before.failures
brought_rooms_failures room earlier before after x = x.failures

pub brought_rooms_enough : (room earlier : BlockRoom) → (before after : OfBlocks) → BringsTo room before earlier after
    → Brings room (Brought before) earlier (Brought after)
brought_rooms_enough room earlier before after x = x

pub media_without_rooms_own_after : (room earlier : BlockRoom) → (before : OfBlocks) → (after : InOwnMemory)
    → Brings room (Brought before) earlier (Own after) → ⊥
media_without_rooms_own_after room earlier before after x = x

pub media_without_rooms_lent_after : (room earlier : BlockRoom) → (before : OfBlocks) → (after : InLentMemory)
    → Brings room (Brought before) earlier (Lent after) → ⊥
media_without_rooms_lent_after room earlier before after x = x

pub media_without_rooms_own : (room earlier : BlockRoom) → (before : InOwnMemory) → (after : Medium)
    → Brings room (Own before) earlier after → ⊥
media_without_rooms_own room earlier before after x = x

pub media_without_rooms_lent : (room earlier : BlockRoom) → (before : InLentMemory) → (after : Medium)
    → Brings room (Lent before) earlier after → ⊥
media_without_rooms_lent room earlier before after x = x

pub refused_rooms_own : (room : BlockRoom) → (before : InOwnMemory) → IsRefused room (Own before) (InMemory room)
refused_rooms_own room before = refl

pub refused_rooms_own_outside : (room : BlockRoom) → (before : InOwnMemory)
    → IsRefused room (Own before) (Outside room) → ⊥
refused_rooms_own_outside room before x = absurd (cc (x))

pub refused_rooms_lent : (room : BlockRoom) → (before : InLentMemory) → IsRefused room (Lent before) (InMemory room)
refused_rooms_lent room before = refl

pub refused_rooms_lent_outside : (room : BlockRoom) → (before : InLentMemory)
    → IsRefused room (Lent before) (Outside room) → ⊥
refused_rooms_lent_outside room before x = absurd (cc (x))

pub refused_rooms_over : (room : BlockRoom) → (before : OfBlocks) → before.disk.blocks ≡ 8 → room.first ≡ 7
    → room.at_hand ≡ 2
    → IsRefused room (Brought before) (Outside room)
refused_rooms_over room before eight seven two = (refl, omega arith)

pub refused_rooms_last : (room : BlockRoom) → (before : OfBlocks) → before.disk.blocks ≡ 8 → room.first ≡ 7
    → room.at_hand ≡ 1
    → IsRefused room (Brought before) (Outside room) → ⊥
refused_rooms_last room before eight seven one x = omega arith

pub refused_rooms_not_in_memory : (room : BlockRoom) → (before : OfBlocks)
    → IsRefused room (Brought before) (InMemory room) → ⊥
refused_rooms_not_in_memory room before x = absurd (cc (x.0))

pub returned_rooms_room : (room : BlockRoom) → (before after : OfBlocks)
    → GivesRoom (Brought before) room (Brought after)
    → room ≡ before.room
returned_rooms_room room before after x = x.room_is

pub returned_rooms_nothing : (room : BlockRoom) → (before after : OfBlocks)
    → GivesRoom (Brought before) room (Brought after)
    → HasNothing after
returned_rooms_nothing room before after x = x.nothing

pub returned_rooms_content : (room : BlockRoom) → (before after : OfBlocks)
    → GivesRoom (Brought before) room (Brought after)
    → content_of after ≡ content_of before
returned_rooms_content room before after x = x.content

pub returned_rooms_blocks : (room : BlockRoom) → (before after : OfBlocks)
    → GivesRoom (Brought before) room (Brought after)
    → after.disk.blocks ≡ before.disk.blocks
returned_rooms_blocks room before after x = x.blocks

pub returned_rooms_failures : (room : BlockRoom) → (before after : OfBlocks)
    → GivesRoom (Brought before) room (Brought after)
    → after.failures ≡ before.failures
returned_rooms_failures room before after x = x.failures

pub returned_rooms_enough : (room : BlockRoom) → (before after : OfBlocks) → GivesBack before room after
    → GivesRoom (Brought before) room (Brought after)
returned_rooms_enough room before after x = x

pub empty_rooms_own_after : (room : BlockRoom) → (before : OfBlocks) → (after : InOwnMemory)
    → GivesRoom (Brought before) room (Own after) → ⊥
empty_rooms_own_after room before after x = x

pub empty_rooms_lent_after : (room : BlockRoom) → (before : OfBlocks) → (after : InLentMemory)
    → GivesRoom (Brought before) room (Lent after) → ⊥
empty_rooms_lent_after room before after x = x

pub empty_rooms_own : (room : BlockRoom) → (m : InOwnMemory) → IsEmpty room → GivesRoom (Own m) room (Own m)
empty_rooms_own room m empty = (empty, refl)

pub empty_rooms_own_stays : (room : BlockRoom) → (m : InOwnMemory) → (after : Medium) → GivesRoom (Own m) room after
    → after ≡ Own m
empty_rooms_own_stays room m after x = x.1

pub empty_rooms_own_empty : (room : BlockRoom) → (m : InOwnMemory) → (after : Medium) → GivesRoom (Own m) room after
    → room_bytes room ≡ []
empty_rooms_own_empty room m after x = x.0.bytes

pub empty_rooms_lent : (room : BlockRoom) → (m : InLentMemory) → IsEmpty room → GivesRoom (Lent m) room (Lent m)
empty_rooms_lent room m empty = (empty, refl)

pub empty_rooms_lent_stays : (room : BlockRoom) → (m : InLentMemory) → (after : Medium) → GivesRoom (Lent m) room after
    → after ≡ Lent m
empty_rooms_lent_stays room m after x = x.1

pub empty_rooms_lent_empty : (room : BlockRoom) → (m : InLentMemory) → (after : Medium) → GivesRoom (Lent m) room after
    → room_bytes room ≡ []
empty_rooms_lent_empty room m after x = x.0.bytes

pub reads_read : IsRead (Reads 7 (Ok []))
reads_read = tt

pub reads_write : IsRead (Writes 7 [] (Ok tt)) → ⊥
reads_write x = x

pub reads_flush : IsRead (Flushes (Ok tt)) → ⊥
reads_flush x = x

pub reads_nothing : AreReads []
reads_nothing = tt

pub reads_first : AreReads (Flushes (Ok tt) ∷ []) → ⊥
reads_first x = let both : IsRead (Flushes (Ok tt)) × AreReads [] = x in both.0

pub reads_second : AreReads (Reads 7 (Ok []) ∷ Flushes (Ok tt) ∷ []) → ⊥
reads_second x = x.1.0

pub calls_over_lent_bytes_read : (before after : InLentMemory) → (answer : Result (List ℕ) Fault)
    → lent_step before (Reads 1 answer) after
    → answer ≡ Ok (block_at (lent_bytes before) 1)
calls_over_lent_bytes_read before after answer x =
    let both : (answer ≡ Ok (block_at (lent_bytes before) 1)) × (after ≡ before) = x in both.0

pub calls_over_lent_bytes_flush : (before after : InLentMemory) → (answer : MediumAnswer)
    → lent_step before (Flushes answer) after
    → answer ≡ Ok tt
calls_over_lent_bytes_flush before after answer x = let both : (answer ≡ Ok tt) × (after ≡ before) = x in both.0

pub calls_over_lent_bytes_write : (before after : InLentMemory) → (block : List ℕ) → (answer : MediumAnswer)
    → lent_step before (Writes 1 block answer) after → answer ≡ Ok tt
calls_over_lent_bytes_write before after block answer x =
    let all : (answer ≡ Ok tt) × (lent_bytes after ≡ with_bytes (lent_bytes before) 512 block)
    × (tail_bytes after ≡ tail_bytes before)
    × (extent (bytes_lent after) ≡ extent (bytes_lent before)) × (after.blocks ≡ before.blocks) = x in all.0

pub calls_over_lent_bytes_tail : (before after : InLentMemory) → (block : List ℕ) → (answer : MediumAnswer)
    → lent_step before (Writes 1 block answer) after → tail_bytes after ≡ tail_bytes before
calls_over_lent_bytes_tail before after block answer x = x.2

pub calls_over_lent_bytes_blocks : (before after : InLentMemory) → (block : List ℕ) → (answer : MediumAnswer)
    → lent_step before (Writes 1 block answer) after → after.blocks ≡ before.blocks
calls_over_lent_bytes_blocks before after block answer x = x.4

pub blocks_in_memory_own_failures : (m : InOwnMemory) → failures_of (Own m) ≡ 0
blocks_in_memory_own_failures m = refl

pub blocks_in_memory_lent_failures : (m : InLentMemory) → failures_of (Lent m) ≡ 0
blocks_in_memory_lent_failures m = refl

pub blocks_in_memory_lent_blocks : (m : InLentMemory) → blocks_of (Lent m) ≡ m.blocks
blocks_in_memory_lent_blocks m = refl

pub blocks_in_memory_own_whole : (m : InOwnMemory) → length (bytes_of (Own m)) ≡ 512 * m.blocks
blocks_in_memory_own_whole m = whole_of (Own m)

pub blocks_in_memory_lent_whole : (m : InLentMemory) → length (bytes_of (Lent m)) ≡ 512 * m.blocks
blocks_in_memory_lent_whole m = whole_of (Lent m)
