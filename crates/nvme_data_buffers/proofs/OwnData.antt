-- For the laws on commands: how many bytes each moves, and that they are its data.
use Rattle.std.proofs.Common.{
  ◌≡◌,
  ◌⊎◌,
  ℕ,
  ◌+◌,
  ◌-◌,
  ◌*◌,
  ◌/◌,
  ◌^◌,
  ◌<◌,
  ◌≤◌,
  ◌&&◌,
  Bool,
  true,
  false,
  List,
  length,
  take,
  drop,
  nat_le,
  cond,
  refl,
  sym,
  ap,
  subst,
  ◌∙◌,
  arith,
  Option,
  None,
  Some,
  inl,
  inr,
  ⊎_elim,
}
use Rattle.std.specs.List.{range_with_len}
use Rattle.std.proofs.lemmas.Bool.{cases_lt, ne_eqb, cond-false, le-ltb}
use Rattle.std.proofs.lemmas.List.{take-take}
use Rattle.nvme_wire.specs.Submission as sqe
use Rattle.nvme_spec.specs.AdminCommands as admin
use Rattle.nvme_spec.specs.Bytes.{with_bytes}
use Rattle.nvme_spec.specs.Commands as io
use Rattle.nvme_spec.specs.DataRules.{data_addresses, data_fault}
use Rattle.nvme_spec.specs.Memory.{window_size}
use Rattle.nvme_spec.specs.Pointer.{transfer, room, pointer_fault}
use Rattle.nvme_spec.specs.Transfers.{gathered_bytes, with_scattered}
use Rattle.nvme_spec.specs.declared.pointer.DataFault.TheVariants.{Outside}
use Rattle.nvme_spec.specs.declared.command.AdminCommand.{AdminCommand}
use Rattle.nvme_spec.specs.declared.command.AdminCommand.TheVariants as admin_command
use Rattle.nvme_spec.specs.declared.command.Command.{Command}
use Rattle.nvme_spec.specs.declared.command.Command.TheVariants as command
use Rattle.nvme_spec.proofs.Splices.{length-with_bytes}
use Rattle.nvme_spec.proofs.Runs.{gathered_bytes-run, with_scattered-run, take-range, with_bytes-is}
use Rattle.nvme_data_buffers.specs.Areas.{Buffer, IsBuffer, extent, LiesIn}
use Rattle.nvme_data_buffers.specs.Buffers.{
  capacity,
  end_of,
  start,
  entry_place,
  second_entry,
  prps,
  HasList,
}
use Rattle.nvme_data_buffers.specs.Entries.{moved, placed}
use Rattle.nvme_data_buffers.specs.Laws.{
  by,
  IsWithin,
  Reaches,
  IsEntry,
  IsWithEntries,
  MovesAsMany,
  MovesItsData,
  CommandsMoveTheirData,
  OtherCommandsAreRefused,
}
use Rattle.nvme_data_buffers.specs.declared.buffer.DataBuffer.{DataBuffer}
use Rattle.nvme_data_buffers.specs.declared.buffer.Prps.{Prps}
use Rattle.nvme_data_buffers.specs.declared.buffer.DataBuffer.TheVariants.{AtOnce, Held}
use Rattle.nvme_data_buffers.proofs.Areas.{
  stored,
  at-most,
  end-within,
  areas-lie-in-window,
  data-lie-in-their-buffer,
  stores-keep-the-list,
  buffer-not-list,
}
use Rattle.nvme_data_buffers.proofs.Pointers.{entries-reach, nothing-beyond}
use Rattle.nvme_data_buffers.proofs.Placed.{other-bytes-stay, double-words}

-- the double words on which the length of data depends
io-length : (c : Option Command) (e new : List ℕ) → sqe.cdw10 new ≡ sqe.cdw10 e → sqe.cdw12 new ≡ sqe.cdw12 e
    → io.data_length_of c new ≡ io.data_length_of c e
unfolding io.block_count io.report_length
io-length None e new ten twelve = refl
io-length (Some command.Flush) e new ten twelve = refl
io-length (Some command.Write) e new ten twelve = omega (arith, twelve)
io-length (Some command.Read) e new ten twelve = omega (arith, twelve)
io-length (Some command.Compare) e new ten twelve = omega (arith, twelve)
io-length (Some command.WriteZeroes) e new ten twelve = refl
io-length (Some command.ReservationRegister) e new ten twelve = refl
io-length (Some command.ReservationReport) e new ten twelve = omega (arith, ten)
io-length (Some command.ReservationAcquire) e new ten twelve = refl
io-length (Some command.ReservationRelease) e new ten twelve = refl

admin-length : (c : Option AdminCommand) (e new : List ℕ) → sqe.cdw10 new ≡ sqe.cdw10 e
    → admin.data_length_of c new ≡ admin.data_length_of c e
unfolding admin.fid
admin-length None e new ten = refl
admin-length (Some admin_command.DeleteSubmissionQueue) e new ten = refl
admin-length (Some admin_command.CreateSubmissionQueue) e new ten = refl
admin-length (Some admin_command.DeleteCompletionQueue) e new ten = refl
admin-length (Some admin_command.CreateCompletionQueue) e new ten = refl
admin-length (Some admin_command.Identify) e new ten = refl
admin-length (Some admin_command.SetFeatures) e new ten = refl
admin-length (Some admin_command.GetFeatures) e new ten = rw (ten) refl
admin-length (Some admin_command.NamespaceAttachment) e new ten = refl

moved-same : (q : Bool) (e new : List ℕ) → sqe.opcode new ≡ sqe.opcode e → sqe.cdw10 new ≡ sqe.cdw10 e
    → sqe.cdw12 new ≡ sqe.cdw12 e → moved q new ≡ moved q e
unfolding moved
moved-same true e new op ten twelve =
    admin-length (admin.command_of (sqe.opcode new)) e new ten
    ∙ ap (λ o. admin.data_length_of (admin.command_of o) e) op
moved-same false e new op ten twelve =
    io-length (io.command_of (sqe.opcode new)) e new ten twelve
    ∙ ap (λ o. io.data_length_of (io.command_of o) e) op

pub moves-as-many-by : (q : Bool) (e new : List ℕ) (p : Prps) → IsWithEntries e p new → moved q new ≡ moved q e
moves-as-many-by q e new p w =
    let d = double-words e new w.back in
    moved-same q e new w.opcode d.0 d.1

-- PRP entries fit their fields
start-within : (b : DataBuffer) (size : ℕ) → start b size ≤ 4194304
start-within b size =
    let end = end-within b in
    at-most (nat_le size (capacity b)) (end_of b - (size + 3) / 4 * 4) 4194304 4194304 (omega (arith, end))
    (omega arith)

second-within : (first bytes : ℕ) → first ≤ 4194304 → second_entry first bytes ≤ 4198400
second-within first bytes h =
    at-most (nat_le bytes (room first)) 4194304
    (cond (nat_le bytes (room first + 4096)) (first + room first) (entry_place (first + room first))) 4198400
    (omega arith)
    (at-most (nat_le bytes (room first + 4096)) (first + room first) (entry_place (first + room first)) 4198400
    (omega (arith, h)) (omega (arith, h)))

record AreFields (p : Prps) : Type 0 where
  first : p.first < 2 ^ 64
  second : p.second < 2 ^ 64

prps-fit : (b : DataBuffer) (size bytes : ℕ) → AreFields (prps b size bytes)
prps-fit b size bytes = by (nat_le bytes size && nat_le size (capacity b)) where
  by : (c : Bool) → AreFields (cond c (record { first = start b size; second = second_entry (start b size) bytes })
      (record { first = 4194304; second = 4194304 }))
  by true =
      let here = start-within b size in
      let there = second-within (start b size) bytes here in
      record { first = omega (arith, here); second = omega (arith, there) }
  by false = record { first = omega arith; second = omega arith }

-- the entry of a command
with-own : (q : Bool) (e : List ℕ) (b : DataBuffer) (size : ℕ) → IsEntry e
    → IsWithEntries e (prps b size (moved q e)) (placed q e b size)
with-own q e b size entry =
    let fit = prps-fit b size (moved q e) in
    other-bytes-stay e (prps b size (moved q e)) entry fit.first fit.second

pub moves-as-many : MovesAsMany
moves-as-many q e b size entry = moves-as-many-by q e _ _ (with-own q e b size entry)

-- a data pointer of these entries
reaches-as : (window e new : List ℕ) (p : Prps) (bytes first : ℕ) → IsWithEntries e p new
    → Reaches (by window p bytes) first → Reaches (transfer window (sqe.prp1 new) (sqe.prp2 new) bytes) first
reaches-as window e new p bytes first w r =
    subst (λ x. Reaches (transfer window x (sqe.prp2 new) bytes) first) (sym w.prp1)
    (subst (λ x. Reaches (transfer window p.first x bytes) first) (sym w.prp2) r)

own-places : (window new : List ℕ) (bytes first : ℕ)
    → Reaches (transfer window (sqe.prp1 new) (sqe.prp2 new) bytes) first
    → data_addresses bytes window new ≡ range_with_len first bytes
unfolding data_addresses
own-places window new bytes first r = r.places

is-buffer : (b : DataBuffer) (size bytes : ℕ) → IsWithin b size bytes → IsBuffer b
is-buffer AtOnce size bytes w = tt
is-buffer (Held n) size bytes w =
    ⊎_elim {C = n < 16}
    (λ (few : n < 16). few)
    (λ (many : 16 ≤ n).
    let none : capacity (Held n) ≡ 0 = cond-false _ _ _ (le-ltb n 16 many) in
    let some = w.some in
    let enough = w.enough in
    let fit = w.fit in
    absurd (omega (arith, none, some, enough, fit)))
    (cases_lt n 16)

-- the list stays when data are stored in their buffer
list-stays : (window sent : List ℕ) (b : DataBuffer) (size : ℕ) → length window ≡ window_size → IsBuffer b
    → size ≤ capacity b → length sent ≡ size → HasList window → HasList (with_bytes window (start b size) sent)
list-stays window sent b size whole is-b fit same has =
    stores-keep-the-list window sent (Buffer b) (start b size) whole is-b buffer-not-list
    (subst (λ n. LiesIn (extent (Buffer b)) (start b size) n) (sym same) (data-lie-in-their-buffer b size fit)) has

gathered-part : (w sent : List ℕ) (at n : ℕ) → at + length sent ≤ length w → n ≤ length sent
    → gathered_bytes (with_bytes w at sent) (range_with_len at n) ≡ take n sent
gathered-part w sent at n fits few =
    let width : at + length sent - at ≡ length sent = omega arith in
    let size = length-with_bytes w at sent fits in
    gathered_bytes-run (with_bytes w at sent) at n (omega (arith, fits, few, size))
    ∙ sym (take-take n (length sent) (drop at (with_bytes w at sent)) few)
    ∙ ap (λ k. take n (take k (drop at (with_bytes w at sent)))) (sym width) ∙ ap (take n) (stored w sent at fits)

scattered-part : (w returned : List ℕ) (at n : ℕ) → at + n ≤ length w → length returned ≤ n
    → with_scattered w (take (length returned) (range_with_len at n)) returned ≡ with_bytes w at returned
scattered-part w returned at n fits few =
    ap (λ xs. with_scattered w xs returned) (take-range (length returned) at n few)
    ∙ with_scattered-run w at (length returned) returned refl (omega (arith, fits, few))
    ∙ sym (with_bytes-is w at returned)

moves-own : (window e : List ℕ) (q : Bool) (b : DataBuffer) (size : ℕ) → length window ≡ window_size → HasList window
    → IsEntry e → IsWithin b size (moved q e)
    → MovesItsData window (placed q e b size) (start b size) size (moved q e)
moves-own window e q b size whole has entry w =
    let n : ℕ = moved q e in
    let new : List ℕ = placed q e b size in
    let own = with-own q e b size entry in
    let some = w.some in
    let lies = data-lie-in-their-buffer b size w.fit in
    let until = lies.until in
    let inside = areas-lie-in-window (Buffer b) (is-buffer b size n w) in
    let fits : start b size + size ≤ length window = omega (arith, until, inside, whole) in
    let enough = w.enough in
    let reach = λ (x : List ℕ) (h : HasList x).
    reaches-as x e new (prps b size n) n (start b size) own (entries-reach x b size n h w) in
    let here = own-places window new n (start b size) (reach window has) in
    record {
      sound =
          cond-false _ _ _ (ne_eqb n 0 (λ none. omega (arith, none, some)))
          ∙ (reach window has).sound;
      places = here;
      gathered = λ sent same.
          ap (gathered_bytes (with_bytes window (start b size) sent))
          (own-places _ new n (start b size) (reach (with_bytes window (start b size) sent)
          (list-stays window sent b size whole (is-buffer b size n w) w.fit same has)))
          ∙ gathered-part window sent (start b size) n (omega (arith, fits, same)) (omega (arith, enough, same));
      scattered = λ returned few.
          ap (λ xs. with_scattered window (take (length returned) xs) returned) here
          ∙ scattered-part window returned (start b size) n (omega (arith, fits, enough)) few;
    }

pub commands-move-their-data : CommandsMoveTheirData
commands-move-their-data window e q b size whole has entry w =
    subst (λ n. MovesItsData window (placed q e b size) (start b size) size n) (sym (moves-as-many q e b size entry))
    (moves-own window e q b size whole has entry w)

refused : (window e : List ℕ) (q : Bool) (b : DataBuffer) (size : ℕ) → IsEntry e → 1 ≤ moved q e
    → (size < moved q e) ⊎ (capacity b < size)
    → data_fault (moved q e) window (placed q e b size) ≡ Some Outside
refused window e q b size entry some h =
    let own = with-own q e b size entry in
    cond-false _ _ _ (ne_eqb (moved q e) 0 (λ none. omega (arith, none, some)))
    ∙ ap (λ x. pointer_fault (transfer window x (sqe.prp2 (placed q e b size)) (moved q e))) own.prp1
    ∙ ap (λ x. pointer_fault (transfer window (prps b size (moved q e)).first x (moved q e))) own.prp2
    ∙ nothing-beyond window b size (moved q e) h

pub others-are-refused : OtherCommandsAreRefused
others-are-refused window e q b size entry h =
    ap (λ n. data_fault n window (placed q e b size)) (moves-as-many q e b size entry) ∙ by h where
      by : (size < moved q e) ⊎ ((capacity b < size) × (1 ≤ moved q e))
          → data_fault (moved q e) window (placed q e b size) ≡ Some Outside
      by (inl more) = refused window e q b size entry (omega (arith, more)) (inl more)
      by (inr long) = refused window e q b size entry long.1 (inr long.0)
