-- For the answer of `write_blocks`: blocks that are put into the room at once, as writes one after the other.
use Rattle.std.proofs.Common.{
  ◌≡◌,
  ℕ,
  zero,
  suc,
  ◌+◌,
  ◌-◌,
  ◌*◌,
  ◌/◌,
  ◌<◌,
  ◌≤◌,
  List,
  [],
  length,
  take,
  max,
  min,
  Ok,
  refl,
  sym,
  ap,
  subst,
  ◌∙◌,
  rules,
  arith,
}
use Rattle.std.proofs.lemmas.List.{
  length-drop,
  length-take,
  length-take-le,
  places,
  same_lists,
  take_all,
  with_items_is,
}
use Rattle.std.specs.Vec.{vec_len, vec_ptr, with_items}
use Rattle.nvme_spec.proofs.Splices.{length-with_bytes, with_bytes-next}
use Rattle.nvme_spec.specs.Blocks.{block_at}
use Rattle.nvme_spec.specs.Bytes.{with_bytes}
use Rattle.nvme_spec.specs.MediumCalls.{Calls, MakesInOrder, Writes, passing, writes_from}
use Rattle.nvme_medium.proofs.Made.{one-passed}
use Rattle.nvme_brought.proofs.InRoom.{place-there}
use Rattle.nvme_brought.specs.Brought.{PutsAt, WritesTo, brought_step, room_bytes}
use Rattle.nvme_brought.specs.declared.medium.BroughtMedium.{BroughtMedium}

-- These bytes were put into the room from this place on, and these blocks more are at hand.
pub record PutsAll (nth count : ℕ) (part : List ℕ) (old new : BroughtMedium) : Type 0 where
  pub disk : new.disk ≡ old.disk
  pub bytes : room_bytes new.room ≡ with_bytes (room_bytes old.room) (512 * nth) part
  pub at_hand : new.room.at_hand ≡ max old.room.at_hand (nth + count)
  pub first : new.room.first ≡ old.room.first
  pub flushes : new.room.flushes ≡ old.room.flushes
  pub address : vec_ptr new.room.buffer ≡ vec_ptr old.room.buffer
  pub len : vec_len new.room.buffer ≡ vec_len old.room.buffer
  pub failures : new.failures ≡ old.failures

-- no bytes are put there
none-put : (content : List ℕ) (at : ℕ) → at ≤ length content → content ≡ with_bytes content at []
none-put content at fits = same_lists _ _ (search (rules, places)) (λ k d h. grind (arith, places))

-- a block that has a place is written there
writes-there : (old new : BroughtMedium) (i nth : ℕ) (block : List ℕ) → i ≡ old.room.first + nth
    → nth ≤ old.room.at_hand → 512 * nth + 512 ≤ length (room_bytes old.room) → PutsAt nth block old new
    → brought_step old (Writes i block (Ok tt)) new
writes-there old new i nth block is next inside puts =
    let below : nth < min (old.room.at_hand + 1) (length (room_bytes old.room) / 512) = omega (arith, next, inside) in
    subst (λ place. WritesTo place block old (Ok tt) new)
    (sym (place-there old.room.first (min (old.room.at_hand + 1) (length (room_bytes old.room) / 512)) i nth is below))
    (refl, puts)

module _ (m : BroughtMedium) (nth : ℕ) (block : List ℕ) (long : length block ≡ 512)
    (inside : 512 * nth + 512 ≤ length (room_bytes m.room)) (within : m.room.first + nth + 1 ≤ m.disk.blocks) where
  sized : length (with_bytes (room_bytes m.room) (512 * nth) block) ≡ length (room_bytes m.room)
  sized = length-with_bytes (room_bytes m.room) (512 * nth) block (omega (arith, inside, long))

  items : (with_items m.room.buffer (with_bytes (room_bytes m.room) (512 * nth) block)).items
      ≡ with_bytes (room_bytes m.room) (512 * nth) block
  items = with_items_is m.room.buffer (with_bytes (room_bytes m.room) (512 * nth) block)
      (sized ∙ sym m.room.buffer.ok.0)

  -- the medium after one more block was put into its room
  abbrev after : BroughtMedium
  after = record {
    disk = m.disk;
    room = record {
      buffer = with_items m.room.buffer (with_bytes (room_bytes m.room) (512 * nth) block);
      first = m.room.first;
      at_hand = max m.room.at_hand (nth + 1);
      flushes = m.room.flushes;
      fits = omega (arith, m.room.fits, inside, sized, ap length items);
    };
    failures = m.failures;
    countable = m.countable;
    within = omega (arith, m.within, within);
  }

  put : PutsAt nth block m after
  put = record {
    disk = refl;
    bytes = items;
    at_hand = refl;
    first = refl;
    flushes = refl;
    address = refl;
    len = refl;
    failures = refl;
  }

-- The state after some of the writes.
record Put (first nth : ℕ) (bytes : List ℕ) (old : BroughtMedium) (k : ℕ) : Type 0 where
  now : BroughtMedium
  made : Calls brought_step old (passing (writes_from first bytes) k) now
  puts : PutsAll nth k (take (512 * k) bytes) old now

module _ (first nth blocks : ℕ) (bytes : List ℕ) (old : BroughtMedium) (is : first ≡ old.room.first + nth)
    (all : length bytes ≡ 512 * blocks) (next : nth ≤ old.room.at_hand)
    (inside : 512 * (nth + blocks) ≤ length (room_bytes old.room)) (within : first + blocks ≤ old.disk.blocks) where
  -- how long the room is then
  same-length : (k : ℕ) → (h : Put first nth bytes old k) → k ≤ blocks
      → length (room_bytes h.now.room) ≡ length (room_bytes old.room)
  same-length k h below =
      let front : length (take (512 * k) bytes) ≡ 512 * k =
      length-take-le (512 * k) bytes (omega (arith, all, below)) in
      ap length h.puts.bytes
      ∙ length-with_bytes (room_bytes old.room) (512 * nth) (take (512 * k) bytes) (omega (arith, inside, below, front))

  puts-some : (k : ℕ) → k ≤ blocks → Put first nth bytes old k
  puts-some zero below = record {
    now = old;
    made = refl;
    puts = record {
      disk = refl;
      bytes = none-put (room_bytes old.room) (512 * nth) (omega (arith, inside));
      at_hand = omega (arith, next);
      first = refl;
      flushes = refl;
      address = refl;
      len = refl;
      failures = refl;
    };
  }
  puts-some (suc k) below =
      let before = puts-some k (omega (arith, below)) in
      let long : length (block_at bytes k) ≡ 512 = simp (length-take, length-drop) (omega (arith, all, below)) in
      let same = same-length k before (omega (arith, below)) in
      let inside_then : 512 * (nth + k) + 512 ≤ length (room_bytes before.now.room) =
      omega (arith, same, inside, below) in
      let within_then : before.now.room.first + (nth + k) + 1 ≤ before.now.disk.blocks =
      omega (arith, is, within, below, before.puts.first, ap (λ d. d.blocks) before.puts.disk) in
      let block : List ℕ = block_at bytes k in
      let one = put before.now (nth + k) block long inside_then within_then in
      let new : BroughtMedium = after before.now (nth + k) block long inside_then within_then in
      let more : k + 1 ≡ suc k = omega arith in
      subst (λ n. Put first nth bytes old n) more (record {
        now = new;
        made = one-passed brought_step (writes_from first bytes) k (Writes (first + k) block (Ok tt)) old before.now new
            before.made refl
            (writes-there before.now new (first + k) (nth + k) block (omega (arith, is, before.puts.first))
            (omega (arith, before.puts.at_hand)) inside_then one);
        puts = record {
          disk = before.puts.disk;
          bytes = with_bytes-next (room_bytes old.room) nth bytes k blocks (room_bytes before.now.room)
              (room_bytes new.room) block before.puts.bytes one.bytes refl (omega (arith, below)) all inside;
          at_hand = omega (arith, before.puts.at_hand, one.at_hand);
          first = before.puts.first;
          flushes = before.puts.flushes;
          address = before.puts.address;
          len = before.puts.len;
          failures = before.puts.failures;
        };
      })

  -- bytes that were put at once have the effect of the writes
  pub put-at-once : (new : BroughtMedium) → 1 ≤ blocks → PutsAll nth blocks bytes old new
      → MakesInOrder brought_step (writes_from first bytes) blocks old (Ok tt) new
  put-at-once new some puts =
      let k : ℕ = blocks - 1 in
      let one : k + 1 ≡ blocks = omega (arith, some) in
      let before = puts-some k (omega arith) in
      let block : List ℕ = block_at bytes k in
      let same = same-length k before (omega arith) in
      let last = with_bytes-next (room_bytes old.room) nth bytes k blocks (room_bytes before.now.room) _ block
      before.puts.bytes refl refl (omega (arith, some)) all inside in
      let whole : take (512 * (k + 1)) bytes ≡ bytes = take_all (512 * (k + 1)) bytes (omega (arith, all, one)) in
      let step : PutsAt (nth + k) block before.now new = record {
        disk = puts.disk ∙ sym before.puts.disk;
        bytes = puts.bytes ∙ ap (with_bytes (room_bytes old.room) (512 * nth)) (sym whole) ∙ sym last;
        at_hand = omega (arith, puts.at_hand, before.puts.at_hand, one);
        first = puts.first ∙ sym before.puts.first;
        flushes = puts.flushes ∙ sym before.puts.flushes;
        address = puts.address ∙ sym before.puts.address;
        len = puts.len ∙ sym before.puts.len;
        failures = puts.failures ∙ sym before.puts.failures;
      } in
      record {
        passed = blocks;
        ends = refl;
        made = subst (λ n. Calls brought_step old (passing (writes_from first bytes) n) new) one
            (one-passed brought_step (writes_from first bytes) k (Writes (first + k) block (Ok tt)) old before.now new
            before.made refl
            (writes-there before.now new (first + k) (nth + k) block (omega (arith, is, before.puts.first))
            (omega (arith, before.puts.at_hand)) (omega (arith, same, inside, one)) step));
      }
