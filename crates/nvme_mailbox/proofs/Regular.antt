-- For laws of secrecy: an opening is regular, and a fleet stays regular.
use Rattle.nvme_mailbox.proofs.Words.{
  false≢true,
  ◌≡◌,
  ℕ,
  ◌==◌,
  ◌≤◌,
  ◌<◌,
  ◌-◌,
  ◌^◌,
  ◌*◌,
  ◌%◌,
  ◌/◌,
  Bool,
  true,
  false,
  [],
  ◌∷◌,
  length,
  Option,
  Some,
  refl,
  sym,
  ap,
  subst,
  ◌∙◌,
  arith,
  submission_entry,
  opcode,
  cdw12,
  most_bytes,
  Command,
  Compare,
  Verdict,
  Allowed,
  Denied,
  Device,
  block_count,
  command_of,
  data_length_of,
  is_one_of,
  IsLaidOut,
  Lane,
  Admin,
  Io,
  Request,
  Asked,
  asked_of,
  is_bad,
  CommandComesTo,
  queues_of,
  scene_in,
  answer-size,
  BringsItsData,
  performed-size,
  FleetEvent,
  Reply,
  Item,
  lane_of,
  RequestComesTo,
  RequestComesToAs,
  IoRequestComesTo,
  RequestExecution,
  Site,
  command_entry,
  io_verdict,
  scene_at,
  Fleet,
  Step,
  opening,
  setting_of,
  IsRegular,
  OpeningIsRegular,
  RegularityStays,
  WasTaken,
}
use Rattle.std.proofs.lemmas.Nat.{from_le_bytes-to_le_bytes_4}
use Rattle.nvme_spec.specs.declared.command.Command.TheVariants.{Write}
use Rattle.nvme_spec.proofs.Openings.{opening_is_laid_out}
use Rattle.nvme_driver.specs.declared.request.Request.TheVariants as request
use Rattle.nvme_driver.proofs.Moving.{whole}
use Rattle.nvme_mailbox.proofs.Existing.{admin-leaves, allowed-passes, lies-still}
use Rattle.nvme_mailbox.proofs.Fenced.{extents-stay, step-acts}
use Rattle.nvme_mailbox.proofs.Numbered as numbered
use Rattle.nvme_mailbox.proofs.IoExecutions.{AsItWas, ByCommand, ByRequest, Leaves, PowerLost, leaves}
use Rattle.nvme_mailbox.proofs.Taken as taken

-- A request that was placed has its data.

-- for any command
abbrev pub BringsItsOwn : Asked → Type 0
BringsItsOwn a = (command : Command) → command_of (opcode (command_entry a)) ≡ Some command
    → BringsItsData command (command_entry a) a.sent

word-12 : (a : Asked) → a.command.cdw12 < 2 ^ 32 → cdw12 (command_entry a) ≡ a.command.cdw12
unfolding command_entry submission_entry cdw12
word-12 a fits = from_le_bytes-to_le_bytes_4 a.command.cdw12 fits

-- only a Write or Compare needs data
unlike : (a : Asked) (o : Option Command) → command_of (opcode (command_entry a)) ≡ o
    → is_one_of o (Write ∷ Compare ∷ []) ≡ false → BringsItsOwn a
unlike a o is other command named one =
    absurd (false≢true (sym other ∙ ap (λ p. is_one_of p (Write ∷ Compare ∷ [])) (sym is ∙ named) ∙ one))

-- it is this command, and has the length for it
alike : (a : Asked) (x : Command) → command_of (opcode (command_entry a)) ≡ Some x
    → length a.sent ≡ data_length_of (Some x) (command_entry a) → BringsItsOwn a
alike a x is long command named one = long ∙ ap (λ o. data_length_of o (command_entry a)) (sym is ∙ named)

-- whole blocks
blocks-brought : (a : Asked) (n : ℕ) → length a.sent ≡ n → n % 512 ≡ 0 → n ≤ most_bytes → 1 ≤ n
    → a.command.cdw12 ≡ n / 512 - 1 → length a.sent ≡ 512 * block_count (command_entry a)
unfolding block_count
blocks-brought a n long parts most some word =
    omega (arith, long, parts, most, some, word, word-12 a (omega (arith, word, most)))

brings-own : (r : Request) → is_bad r ≡ false → BringsItsOwn (asked_of r)
unfolding command_entry submission_entry opcode command_of
brings-own (request.Write nsid slba bytes) good =
    let w = whole bytes.now good in
    let a : Asked = asked_of (request.Write nsid slba bytes) in
    alike a Write refl (blocks-brought a (length bytes.now) refl w.blocks w.most w.some refl)
brings-own (request.Compare nsid slba bytes) good =
    let w = whole bytes.now good in
    let a : Asked = asked_of (request.Compare nsid slba bytes) in
    alike a Compare refl (blocks-brought a (length bytes.now) refl w.blocks w.most w.some refl)
brings-own r good = unlike (asked_of r) (command_of (opcode (command_entry (asked_of r)))) refl refl

pub taken-brings : (i : Item) → WasTaken i → BringsItsOwn i.asked
taken-brings i h = subst BringsItsOwn (sym h.2) (brings-own h.0 h.1)

-- The medium keeps its size.

abbrev SameSize : Site → Site → Type 0
SameSize old new = length new.device.content ≡ length old.device.content

io-size : (v : Verdict) (k : ℕ) (a : Asked) (marked : Bool) (s : Site) (r : RequestExecution)
    → io_verdict s.world k a marked ≡ v → IsLaidOut s.world s.device.content → BringsItsOwn a
    → IoRequestComesTo v true k a s r → SameSize s r.left
io-size (Denied number why) k a marked s r is laid brings h =
    ap (λ (x : RequestExecution). length x.left.device.content) h
io-size (Allowed plan) k a marked s r is laid brings h =
    let p = allowed-passes s k a marked plan is in
    performed-size (scene_at s) k (command_entry a) a.sent plan.kind
    (scene_at r.left) r.outcome.status h.returned laid p (brings plan.kind p.named) h.effect

lane-size : (lane : Lane) (k : ℕ) (a : Asked) (marked : Bool) (s : Site) (r : RequestExecution)
    → IsLaidOut s.world s.device.content → BringsItsOwn a → RequestComesToAs lane true k a marked s r
    → SameSize s r.left
lane-size Admin k a marked s r laid brings h = ap (λ (x : RequestExecution). length x.left.device.content) h
    ∙ ap (λ (d : Device). length d.content) (admin-leaves s k a).device
lane-size Io k a marked s r laid brings h = io-size (io_verdict s.world k a marked) k a marked s r refl laid brings h

size-left : (old new : Fleet) (event : FleetEvent) → IsRegular old → Leaves true old new event
    → SameSize old.site new.site
unfolding RequestComesTo CommandComesTo
size-left old new event regular (AsItWas e) = ap (λ (s : Site). length s.device.content) e
size-left old new event regular (ByRequest k i is m x r at found answers leaves) =
    ap (λ (s : Site). length s.device.content) leaves
    ∙ lane-size (lane_of x.item) k x.item.asked x.marked old.site r regular.laid
    (taken-brings x.item (taken.at-place old k i m x regular.taken at found)) answers
size-left old new event regular (ByCommand k i is c t a at found answers leaves) =
    ap (λ (s : Site). length s.device.content) leaves
    ∙ answer-size (t.queue == 0) (queues_of c) c.cntlid t (scene_in (setting_of old c)) a regular.laid answers
size-left old new event regular (PowerLost is leaves) = ap (λ (s : Site). length s.device.content) leaves

-- One event.
pub step-regular : (old new : Fleet) (event : FleetEvent) (reply : Reply)
    → Step true old event reply new → IsRegular old → IsRegular new
step-regular old new event reply step regular =
    let same = extents-stay old new event (step-acts true old new event reply step) in
    let size = size-left old new event regular (leaves true old new event reply step) in
    record {
      laid = lies-still old.site new.site (record { extents = same.extents; size = omega (arith, size) }) regular.laid;
      numbers = numbered.step true old new event reply step regular.numbers;
      taken = taken.holds-taken new (taken.step true old new event reply step (taken.listed old regular.taken));
    }

pub regularity_stays : RegularityStays
regularity_stays old new [] [] run regular = subst IsRegular (sym run) regular
regularity_stays old new (event ∷ events) (x ∷ later) run regular =
    regularity_stays run.0 new events later run.2 (step-regular old run.0 event x run.1 regular)
regularity_stays old new events later run regular = absurd run

pub opening_is_regular : OpeningIsRegular
unfolding opening
opening_is_regular c d blocks size good = record {
  laid = opening_is_laid_out c blocks d.content size good;
  numbers = numbered.opening_is_numbered c d blocks good;
  taken = taken.holds-taken (opening c d) (taken.opening-holds c d);
}
