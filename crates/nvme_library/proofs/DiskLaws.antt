-- For `laws.rt`: executions over blocks that a program brings from its disk.
use Rattle.std.specs.Prelude.{slice_range}
use Rattle.std.proofs.Common.{
  ◌≡◌,
  ℕ,
  ◌+◌,
  ◌*◌,
  ◌≤◌,
  List,
  [],
  ◌∷◌,
  length,
  true,
  Option,
  None,
  Some,
  refl,
  sym,
  ap,
  ◌∙◌,
  subst,
  rules,
  arith,
}
use Rattle.std.proofs.lemmas.List.{length-take-le, places, same_lists}
use Rattle.nvme_spec.specs.Blocks.{Device, blocks_from}
use Rattle.nvme_spec.specs.Bytes.{with_bytes}
use Rattle.nvme_spec.specs.Execution.{no_marks}
use Rattle.nvme_spec.specs.MediumCalls.{MediumCall, Calls}
use Rattle.nvme_spec.proofs.Splices.{with_bytes-same}
use Rattle.nvme_brought.specs.Brought.{bytes_at_hand, room_bytes, content_of, with_room, brought_step, HasNothing}
use Rattle.nvme_brought.specs.CallLaws.{StaysInRoom}
use Rattle.nvme_brought.specs.Whole.{content_is_whole}
use Rattle.nvme_brought.specs.declared.medium.BroughtMedium.{BroughtMedium}
use Rattle.nvme_brought.specs.declared.room.Room.{Room}
use Rattle.nvme_brought.proofs.CallLaws.{calls_stay_in_room}
use Rattle.nvme_lent.specs.Bringing.{Brings, GivesRoom}
use Rattle.nvme_lent.specs.Bytes.{as_lent, extent}
use Rattle.nvme_lent.specs.OwnOrLent.{device_of, step_of, NothingIsAtHand}
use Rattle.nvme_lent.specs.declared.either.OwnOrLent.{OwnOrLent}
use Rattle.nvme_lent.specs.declared.either.OwnOrLent.TheVariants.{Own, Lent, Brought}
use Rattle.nvme_machine.specs.declared.bare.BareSeen.{BareSeen}
use Rattle.nvme_machine.specs.declared.event.Event.{Event}
use Rattle.nvme_machine.specs.declared.event.Event.TheVariants.{Store, Write32, Read32, Fetch, Execute, PowerCycle}
use Rattle.nvme_machine.specs.declared.seen.Seen.{Seen}
use Rattle.nvme_machine.specs.Bare.{seen_with}
use Rattle.nvme_machine.specs.Controllers.{Controller, Reaction, after_store, wrote, has_read, after_fetch}
use Rattle.nvme_machine.specs.EventCalls.{ExecutesNothing}
use Rattle.nvme_machine.specs.Subsystems.{
  Subsystem,
  ReactsAs,
  ExecutesAt,
  Step,
  after_power_cycle,
  controller_at,
  numbered,
  with_controller,
}
use Rattle.nvme_library.specs.DiskLaws.{
  IsAsOn,
  ExecutionsAreInMemory,
  OtherBlocksAreNotInMemory,
  RoomsComeBack,
  Without,
  Over,
  RunsAreInMemory,
}
use Rattle.nvme_library.specs.Holding.{Inside}
use Rattle.nvme_library.specs.Over.{ExecutingOver, over_device}

-- Blocks over blocks.

-- blocks that are there already change nothing
room-same : (content : List ℕ) (room : Room) → 512 * room.first + 512 * room.at_hand ≤ length content
    → IsAsOn content room → with_room content room ≡ content
room-same content room within is =
    ap (λ bytes. with_bytes content (512 * room.first) bytes) is
    ∙ with_bytes-same content (512 * room.first) (512 * room.at_hand) within

-- later blocks hide earlier ones
over-over : (content xs ys : List ℕ) (at : ℕ) → length xs ≤ length ys → at + length ys ≤ length content
    → with_bytes (with_bytes content at xs) at ys ≡ with_bytes content at ys
over-over content xs ys at longer within = same_lists _ _ (search (rules, places)) (λ k d h. grind (arith, places))

length-at-hand : (r : Room) → length (bytes_at_hand r) ≡ 512 * r.at_hand
length-at-hand r = length-take-le (512 * r.at_hand) (room_bytes r) r.fits

-- One execution over a room.

-- the media of an execution, from the room that is brought to the one that comes back
pub record Media (room left : Room) (old before after new : OwnOrLent) : Type 0 where
  pub m : BroughtMedium
  pub b : BroughtMedium
  pub a : BroughtMedium
  pub n : BroughtMedium
  pub old_is : old ≡ Brought m
  pub before_is : before ≡ Brought b
  pub after_is : after ≡ Brought a
  pub new_is : new ≡ Brought n
  pub room_is : b.room ≡ room
  pub content : content_of b ≡ with_room (content_of m) room
  pub blocks : b.disk.blocks ≡ m.disk.blocks
  pub failures : b.failures ≡ m.failures
  pub stays : StaysInRoom b a
  pub left_is : left ≡ a.room
  pub kept : content_of n ≡ content_of a
  pub counted : n.failures ≡ a.failures
  pub nothing : HasNothing n

-- calls of brought blocks are those of the medium inside
pub inside : (b : BroughtMedium) (after : OwnOrLent) (calls : List MediumCall) → Calls step_of (Brought b) calls after
    → (a : BroughtMedium) × (after ≡ Brought a) × Calls brought_step b calls a
inside b after [] made = (b, made, refl)
inside b after (call ∷ calls) made = next made.0 made.1 (λ c h. inside c after calls h) made.2
  where
    next : (mid : OwnOrLent) → step_of (Brought b) call mid
        → ((c : BroughtMedium) → Calls step_of (Brought c) calls after
        → (a : BroughtMedium) × (after ≡ Brought a) × Calls brought_step c calls a)
        → Calls step_of mid calls after
        → (a : BroughtMedium) × (after ≡ Brought a) × Calls brought_step b (call ∷ calls) a
    next (Own c) h go rest = absurd h
    next (Lent c) h go rest = absurd h
    next (Brought c) h go rest = let r = go c rest in (r.0, r.1, (c, h, r.2))

media-of : (room earlier left : Room) (old before after new : OwnOrLent) (calls : List MediumCall)
    → Brings room old earlier before → Calls step_of before calls after → GivesRoom after left new
    → Media room left old before after new
media-of room earlier left (Own m) before after new calls brings made gives = absurd brings
media-of room earlier left (Lent m) before after new calls brings made gives = absurd brings
media-of room earlier left (Brought m) (Own b) after new calls brings made gives = absurd brings
media-of room earlier left (Brought m) (Lent b) after new calls brings made gives = absurd brings
media-of room earlier left (Brought m) (Brought b) after new calls brings made gives =
    let r = inside b after calls made in
    ends r.0 r.1 (calls_stay_in_room b r.0 calls r.2) new (subst (λ x. GivesRoom x left new) r.1 gives)
  where
    ends : (a : BroughtMedium) → after ≡ Brought a → StaysInRoom b a → (new : OwnOrLent)
        → GivesRoom (Brought a) left new → Media room left (Brought m) (Brought b) after new
    ends a is stays (Own n) gives = absurd gives
    ends a is stays (Lent n) gives = absurd gives
    ends a is stays (Brought n) gives = record {
      m = m;
      b = b;
      a = a;
      n = n;
      old_is = refl;
      before_is = refl;
      after_is = is;
      new_is = refl;
      room_is = brings.room_is;
      content = brings.content;
      blocks = brings.blocks;
      failures = brings.failures;
      stays = stays;
      left_is = gives.room_is;
      kept = gives.content;
      counted = gives.failures;
      nothing = gives.nothing;
    }

pub media : (cntlid i : ℕ) (room left : Room) (old new : Inside) (seen : BareSeen)
    (e : ExecutingOver cntlid i room old seen left new)
    → Media room left old.medium e.before.medium e.after.medium new.medium
media cntlid i room left old new seen e =
    media-of room e.earlier left old.medium e.before.medium e.after.medium new.medium e.executes.calls.calls e.brings
    e.executes.calls.made e.gives

pub rooms_come_back : RoomsComeBack
rooms_come_back cntlid i room left old new seen e =
    let x = media cntlid i room left old new seen e in record {
      nothing = subst NothingIsAtHand (sym x.new_is) x.nothing;
      extent_is = ap (λ r. extent (as_lent r.buffer)) x.left_is ∙ (λ j. (x.stays.address j, x.stays.len j))
          ∙ ap (λ r. extent (as_lent r.buffer)) x.room_is;
    }

-- the blocks of a room that comes back hide those that were brought
hides : (b a : BroughtMedium) → StaysInRoom b a
    → with_room (content_of b) a.room ≡ with_room b.disk.content.bytes a.room
hides b a stays =
    let disk = b.disk.content.bytes in let first = a.room.first in
    let xs = bytes_at_hand b.room in let ys = bytes_at_hand a.room in
    ap (λ f. with_bytes (with_bytes disk (512 * f) xs) (512 * first) ys) (sym stays.first)
    ∙ over-over disk xs ys (512 * first)
    (omega (arith, length-at-hand b.room, length-at-hand a.room, stays.at_hand))
    (omega (arith, length-at-hand a.room, a.within, a.disk.whole, ap (λ d. length d.content.bytes) stays.disk))

-- what both laws on one execution use: the content before, the room inside it, and the state after
record Around (room : Room) (old new : Inside) (content_before : List ℕ) (after : Subsystem) : Type 0 where
  within : 512 * room.first + 512 * room.at_hand ≤ length old.state.device.content
  puts : content_before ≡ with_room old.state.device.content room
  ends : new.state ≡ after

around : (cntlid i : ℕ) (room left : Room) (old new : Inside) (seen : BareSeen)
    (e : ExecutingOver cntlid i room old seen left new) (x : Media room left old.medium e.before.medium e.after.medium
    new.medium) → Around room old new (content_of x.b) e.after.state
around cntlid i room left old new seen e x =
    let was : old.state.device.content ≡ content_of x.m =
    ap (λ (d : Device). d.content) (e.old_is ∙ ap device_of x.old_is) in record {
      within = omega (
        arith,
        ap length was,
        content_is_whole x.m,
        x.b.within,
        x.blocks,
        ap (λ (r : Room). r.first) x.room_is,
        ap (λ (r : Room). r.at_hand) x.room_is,
      );
      puts = x.content ∙ ap (λ c. with_room c room) (sym was);
      ends = e.new_is ∙ ap (over_device e.after.state) (ap device_of x.new_is
          ∙ (λ j. record { content = x.kept j; failures = x.counted j }) ∙ sym (ap device_of x.after_is)
          ∙ sym e.after_is);
    }

pub executions_are_in_memory : ExecutionsAreInMemory
executions_are_in_memory cntlid i room left old new seen e is =
    let x = media cntlid i room left old new seen e in let s = around cntlid i room left old new seen e x in
    let content = old.state.device.content in
    let device : old.state.device ≡ device_of (Brought x.m) = e.old_is ∙ ap device_of x.old_is in
    let there : content_of x.b ≡ content = s.puts ∙ room-same content room s.within is in
    let before : e.before.state ≡ old.state = e.before_is ∙ ap (over_device old.state) (ap device_of x.before_is
    ∙ (λ j. record { content = there j; failures = (x.failures ∙ sym (ap (λ (d : Device). d.failures) device)) j }))
    in record {
      marks = e.executes.marks;
      step = subst (λ s. Step true old.state (Execute cntlid i) (seen_with e.executes.marks seen) s) (sym s.ends)
          (subst (λ s. Step true s (Execute cntlid i) (seen_with e.executes.marks seen) e.after.state) before
          e.executes.executes);
      content = ap (λ (s : Subsystem). s.device.content) e.new_is
          ∙ ap (λ m. (device_of m).content) x.new_is ∙ x.kept
          ∙ ap (λ d. with_room d.content.bytes x.a.room) x.stays.disk
          ∙ sym (hides x.b x.a x.stays) ∙ ap (λ c. with_room c x.a.room) there ∙ ap (with_room content) (sym x.left_is);
    }

-- bytes that were put somewhere are there
put-there : (content xs : List ℕ) (at n : ℕ) → length xs ≡ n → at + n ≤ length content
    → xs ≡ slice_range (with_bytes content at xs) at (at + n)
put-there content xs at n long within = same_lists _ _ (search (rules, places)) (λ k d h. grind (arith, places))

-- there is as little a controller as before the blocks were brought
still-none : (old before : Subsystem) (device : Device) (k : ℕ)
    → before ≡ over_device old device → controller_at old k ≡ None → controller_at before k ≡ None
unfolding controller_at
still-none old before device k is none = ap (λ (s : Subsystem). numbered s.controllers k) is ∙ none

pub other_blocks_are_not_in_memory : OtherBlocksAreNotInMemory
other_blocks_are_not_in_memory cntlid i room left old new seen none e is =
    let x = media cntlid i room left old new seen e in let s = around cntlid i room left old new seen e x in
    let content = old.state.device.content in let n = 512 * room.at_hand in
    let nothing : e.after.state ≡ e.before.state =
    (subst (λ its. ExecutesAt its true e.before.state cntlid i (seen_with e.executes.marks seen) e.after.state)
    (still-none old.state e.before.state (device_of e.before.medium) cntlid e.before_is none)
    e.executes.executes).1 in
    let same : new.state ≡ old.state =
    (subst (λ its. ExecutesAt its true old.state cntlid i (seen_with is.marks seen) new.state) none is.step).1 in
    let here : content ≡ with_room content room =
    ap (λ (s : Subsystem). s.device.content) (sym same ∙ s.ends ∙ nothing ∙ e.before_is)
    ∙ ap (λ m. (device_of m).content) x.before_is ∙ s.puts in
    put-there content (bytes_at_hand room) (512 * room.first) n (length-at-hand room) s.within
    ∙ ap (λ c. blocks_from c room.first n) (sym here)

-- Runs.

reacts-keeps : (its : Option Controller) (old new : Subsystem) (k : ℕ) (f : Controller → Reaction) (seen : Seen)
    → ReactsAs its old k f seen new → new.device ≡ old.device
unfolding with_controller
reacts-keeps None old new k f seen h = ap (λ (s : Subsystem). s.device) h.1
reacts-keeps (Some c) old new k f seen h = ap (λ (s : Subsystem). s.device) h.1

quiet-keeps : (event : Event) (old new : Subsystem) (seen : Seen) → ExecutesNothing event → Step true old event seen new
    → new.device ≡ old.device
unfolding after_power_cycle
quiet-keeps (Store k address bytes) old new seen quiet h =
    reacts-keeps (controller_at old k) old new k (after_store address bytes.now) seen h
quiet-keeps (Write32 k offset v) old new seen quiet h =
    reacts-keeps (controller_at old k) old new k (wrote offset v) seen h
quiet-keeps (Read32 k offset) old new seen quiet h =
    reacts-keeps (controller_at old k) old new k (has_read offset) seen h
quiet-keeps (Fetch k q) old new seen quiet h = reacts-keeps (controller_at old k) old new k (after_fetch q) seen h
quiet-keeps (Execute k i) old new seen quiet h = absurd quiet
quiet-keeps PowerCycle old new seen quiet h = ap (λ (s : Subsystem). s.device) h.1

pub runs_are_in_memory : RunsAreInMemory
runs_are_in_memory [] disk disk' old new [] is h = record {
  seen = [];
  are = tt;
  run = ap (λ (s : Inside). s.state) h.1;
  content = ap (λ (s : Inside). s.state.device.content) h.1 ∙ is ∙ sym h.0;
}
runs_are_in_memory [] disk disk' old new (seen ∷ later) is h = absurd h
runs_are_in_memory (one ∷ others) disk disk' old new [] is h = absurd h
runs_are_in_memory (Without event ∷ others) disk disk' old new (seen ∷ later) is h =
    let mid = h.0 in
    let kept = quiet-keeps event old.state mid.state (seen_with no_marks seen) h.2.0 h.2.1.0 in
    let r = runs_are_in_memory others h.1 disk' mid new later (ap (λ (d : Device). d.content) kept ∙ is ∙ sym h.2.2) h.3
    in record {
      seen = seen_with no_marks seen ∷ r.seen;
      are = ((no_marks, refl), r.are);
      run = (mid.state, h.2.1.0, r.run);
      content = r.content;
    }
runs_are_in_memory (Over cntlid i room left ∷ others) disk disk' old new (seen ∷ later) is h =
    let mid = h.0 in
    let one = executions_are_in_memory cntlid i room left old mid seen h.2.1
    (subst (λ c. IsAsOn c room) (sym is) h.2.0) in
    let r = runs_are_in_memory others h.1 disk' mid new later
    (one.content ∙ ap (λ c. with_room c left) is ∙ sym h.2.2) h.3 in record {
      seen = seen_with one.marks seen ∷ r.seen;
      are = ((one.marks, refl), r.are);
      run = (mid.state, one.step, r.run);
      content = r.content;
    }
