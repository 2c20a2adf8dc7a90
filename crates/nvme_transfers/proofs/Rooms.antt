-- For `own_data`: a room has the bytes of the parts that were stored in it.
use Rattle.std.proofs.Common.{
  ◌≡◌,
  ℕ,
  ◌+◌,
  ◌≤◌,
  List,
  [],
  ◌∷◌,
  ◌++◌,
  length,
  map,
  take,
  drop,
  arith,
  sym,
  ap,
  append_assoc,
  length-append,
  length-drop,
  ◌∙◌,
}
use Rattle.std.proofs.lemmas.List.{append-nil, length-take-le}
use Rattle.std.proofs.Math.Seq.{take-append_seam}
use Rattle.nvme_transfers.specs.declared.command.Command.{Command}
use Rattle.nvme_transfers.specs.declared.part.Part.{Part}
use Rattle.nvme_transfers.specs.Storing.{with_bytes}
use Rattle.nvme_transfers.specs.Laws.{AreParts, Piece, AreSized, room_after, bytes_of, RoomHasData}

rises : (c : Command) (tag from : ℕ) (ps : List Part) (to : ℕ) → AreParts c tag from ps to → from ≤ to
rises c tag from [] to h = omega (arith, h)
rises c tag from (p ∷ ps) to h = let e = rises c tag (from + p.length) ps to h.1 in omega (arith, e)

same-length : (begin : ℕ) (bytes room : List ℕ) → begin + length bytes ≤ length room
    → length (with_bytes begin bytes room) ≡ length room
same-length begin bytes room fits =
    let a = length-append (take begin room) (bytes ++ drop (length bytes) (drop begin room)) in
    let b = length-append bytes (drop (length bytes) (drop begin room)) in
    let d = length-drop (length bytes) (drop begin room) in
    let e = length-drop begin room in
    let f = length-take-le begin room (omega (arith, fits)) in
    omega (arith, a, b, d, e, f, fits)

front : (begin : ℕ) (bytes room : List ℕ) → begin + length bytes ≤ length room
    → take (begin + length bytes) (with_bytes begin bytes room) ≡ take begin room ++ bytes
front begin bytes room fits =
    let rest : List ℕ = drop (length bytes) (drop begin room) in
    let f = length-take-le begin room (omega (arith, fits)) in
    let a = length-append (take begin room) bytes in
    let n : begin + length bytes ≡ length (take begin room ++ bytes) = omega (arith, f, a) in
    ap (λ k. take k (with_bytes begin bytes room)) n
    ∙ ap (take (length (take begin room ++ bytes))) (sym (append_assoc (take begin room) bytes rest))
    ∙ take-append_seam (take begin room ++ bytes) rest

fills : (c : Command) (tag from : ℕ) (pieces : List Piece) (to : ℕ) (room : List ℕ)
    → AreParts c tag from (map (λ (x : Piece). x.part) pieces) to → AreSized pieces → to ≤ length room
    → take to (room_after pieces room) ≡ take from room ++ bytes_of pieces
fills c tag from [] to room h sized big = ap (λ n. take n room) (sym h) ∙ sym (append-nil (take from room))
fills c tag from (x ∷ xs) to room h sized big =
    let offset : x.part.offset ≡ from = h.0.offset in
    let up = rises c tag (from + x.part.length) (map (λ (x : Piece). x.part) xs) to h.1 in
    let small : from + length x.bytes ≤ length room = omega (arith, up, sized.0, big) in
    let next = fills c tag (from + x.part.length) xs to (with_bytes from x.bytes room) h.1 sized.1
    (let e = same-length from x.bytes room small in omega (arith, e, big)) in
    ap (λ n. take to (room_after xs (with_bytes n x.bytes room))) offset ∙ next
    ∙ ap (λ n. take (from + n) (with_bytes from x.bytes room) ++ bytes_of xs) (sym sized.0)
    ∙ ap (λ ys. ys ++ bytes_of xs) (front from x.bytes room small)
    ∙ append_assoc (take from room) x.bytes (bytes_of xs)

pub room-has-data : RoomHasData
room-has-data c tag pieces room h sized big = fills c tag 0 pieces c.length room h sized big
