-- Proofs of the laws in `laws.rt`.
use Rattle.std.proofs.Common.{
  ◌≡◌,
  ◌≤◌,
  ℕ,
  ◌+◌,
  ◌/◌,
  min,
  List,
  [],
  ◌∷◌,
  length,
  Bool,
  true,
  false,
  Option,
  Some,
  None,
  Result,
  sym,
  ap,
  ◌∙◌,
  subst,
  le_of_eq,
  le_trans,
  arith,
}
use Rattle.std.proofs.Math.Nat.{le-max_left}
use Rattle.std.proofs.lemmas.Grind.{common_steps}
use Rattle.std.specs.Vec.{vec_len, vec_ptr}
use Rattle.nvme_spec.specs.declared.medium.MediumFault.{MediumFault as Fault}
use Rattle.nvme_spec.specs.MediumCalls.{MediumAnswer, MediumCall, Reads, Writes, Flushes, Calls}
use Rattle.nvme_spec.specs.MediumCalls as media
use Rattle.nvme_brought.specs.Brought.{
  place_of,
  place_for,
  with_room,
  content_of,
  brought_step,
  ReadsFrom,
  WritesTo,
  FlushesIf,
  HasNothing,
  IsEmpty,
  Fails,
  PutsAt,
}
use Rattle.nvme_brought.specs.CallLaws.{CallsFailWithoutBlocks, CallsStayInRoom, StaysInRoom}
use Rattle.nvme_brought.specs.Places.{place_in}
use Rattle.nvme_brought.specs.declared.medium.BroughtMedium.{BroughtMedium}
use Rattle.nvme_brought.specs.declared.room.Room.{Room}

-- a failed call keeps the content
pub failed-keeps : (old new : BroughtMedium) → Fails old new → content_of new ≡ content_of old
failed-keeps old new h = λ i. with_room ((h.disk i).content.bytes) (h.room i)

none-in : (i : ℕ) → place_in 0 0 i ≡ None
none-in i = grind (arith, common_steps)

none-of : (r : Room) (i : ℕ) → IsEmpty r → place_of r i ≡ None
none-of r i h = (λ j. place_in (h.first j) (h.at_hand j) i) ∙ none-in i

none-for : (r : Room) (i : ℕ) → IsEmpty r → place_for r i ≡ None
none-for r i h = (λ j. place_in (h.first j) (min (h.at_hand j + 1) (length (h.bytes j) / 512)) i) ∙ none-in i

one-fails : (old new : BroughtMedium) (call : MediumCall) → HasNothing old → brought_step old call new
    → media.Fails call × Fails old new
one-fails old new (Reads i answer) none h =
    subst (λ place. ReadsFrom place old answer new) (none-of old.room i none) h
one-fails old new (Writes i block answer) none h =
    subst (λ place. WritesTo place block old answer new) (none-for old.room i none) h
one-fails old new (Flushes answer) none h = subst (λ flushes. FlushesIf flushes old answer new) none.flushes h

pub calls_fail_without_blocks : CallsFailWithoutBlocks
calls_fail_without_blocks old new [] none made =
    (tt, subst HasNothing (sym made) none, ap content_of made)
calls_fail_without_blocks old new (call ∷ calls) none made =
    let mid = made.0 in
    let one = one-fails old mid call none made.1 in
    let still : HasNothing mid = subst IsEmpty (sym one.1.room) none in
    let rest = calls_fail_without_blocks mid new calls still made.2 in
    ((one.0, rest.0), rest.1, rest.2 ∙ failed-keeps old mid one.1)

-- The room.

stays : (old new : BroughtMedium) → new ≡ old → StaysInRoom old new
stays old new same = record {
  disk = ap (λ m. m.disk) same;
  first = ap (λ m. m.room.first) same;
  flushes = ap (λ m. m.room.flushes) same;
  at_hand = le_of_eq (ap (λ m. m.room.at_hand) (sym same));
  address = ap (λ m. vec_ptr m.room.buffer) same;
  len = ap (λ m. vec_len m.room.buffer) same;
}

failed-stays : (old new : BroughtMedium) → Fails old new → StaysInRoom old new
failed-stays old new h = record {
  disk = h.disk;
  first = ap (λ r. r.first) h.room;
  flushes = ap (λ r. r.flushes) h.room;
  at_hand = le_of_eq (ap (λ r. r.at_hand) (sym h.room));
  address = ap (λ r. vec_ptr r.buffer) h.room;
  len = ap (λ r. vec_len r.buffer) h.room;
}

put-stays : (nth : ℕ) (block : List ℕ) (old new : BroughtMedium) → PutsAt nth block old new → StaysInRoom old new
put-stays nth block old new h = record {
  disk = h.disk;
  first = h.first;
  flushes = h.flushes;
  at_hand = subst (λ n. old.room.at_hand ≤ n) (sym h.at_hand) (le-max_left old.room.at_hand (nth + 1));
  address = h.address;
  len = h.len;
}

read-stays : (place : Option ℕ) (old new : BroughtMedium) (answer : Result (List ℕ) Fault)
    → ReadsFrom place old answer new → StaysInRoom old new
read-stays None old new answer h = failed-stays old new h.1
read-stays (Some nth) old new answer h = stays old new h.1

write-stays : (place : Option ℕ) (block : List ℕ) (old new : BroughtMedium) (answer : MediumAnswer)
    → WritesTo place block old answer new → StaysInRoom old new
write-stays None block old new answer h = failed-stays old new h.1
write-stays (Some nth) block old new answer h = put-stays nth block old new h.1

flush-stays : (flushes : Bool) (old new : BroughtMedium) (answer : MediumAnswer)
    → FlushesIf flushes old answer new → StaysInRoom old new
flush-stays false old new answer h = failed-stays old new h.1
flush-stays true old new answer h = stays old new h.1

one-stays : (old new : BroughtMedium) (call : MediumCall) → brought_step old call new → StaysInRoom old new
one-stays old new (Reads i answer) h = read-stays (place_of old.room i) old new answer h
one-stays old new (Writes i block answer) h = write-stays (place_for old.room i) block old new answer h
one-stays old new (Flushes answer) h = flush-stays old.room.flushes old new answer h

pub calls_stay_in_room : CallsStayInRoom
calls_stay_in_room old new [] made = stays old new made
calls_stay_in_room old new (call ∷ calls) made =
    let one = one-stays old made.0 call made.1 in
    let others = calls_stay_in_room made.0 new calls made.2 in record {
      disk = others.disk ∙ one.disk;
      first = others.first ∙ one.first;
      flushes = others.flushes ∙ one.flushes;
      at_hand = le_trans one.at_hand others.at_hand;
      address = others.address ∙ one.address;
      len = others.len ∙ one.len;
    }
