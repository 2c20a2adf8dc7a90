-- For the answers of `place` and `place_command`: the window after a request or a command is placed.
use Rattle.std.proofs.Common.{◌≡◌, ℕ, ◌+◌, ◌≤◌, ◌<◌, List, length, refl, sym, ap, ◌∙◌, arith, inl, subst}
use Rattle.nvme_wire.specs.declared.sqe.fields.SqeFields.{SqeFields}
use Rattle.nvme_wire.specs.Submission.{submission_entry, submission_of}
use Rattle.nvme_spec.specs.Limits.{most_bytes}
use Rattle.nvme_spec.specs.Bytes.{with_bytes}
use Rattle.nvme_spec.specs.Memory.{window_size}
use Rattle.nvme_spec.proofs.Splices.{length-with_bytes}
use Rattle.nvme_driver.specs.declared.lane.Lane.{Lane}
use Rattle.nvme_driver.specs.declared.lane.Lane.TheVariants.{Admin, Io}
use Rattle.nvme_driver.specs.declared.request.Request.{Request}
use Rattle.nvme_driver.specs.Layout.{command_place, list_page, data_area}
use Rattle.nvme_driver.specs.Pointers.{stored_list, HasList, IsRequest}
use Rattle.nvme_driver.specs.Requests.{Asked, asked_of}
use Rattle.nvme_driver.specs.Drivers.{Driver, entry_fields, entry_of, entry_place, ends, HoldsRequest}
use Rattle.nvme_driver.specs.HostCommands.{command_entry_place, command_window, HoldsCommand}
use Rattle.nvme_driver.proofs.PageLists.{
  length-stored_list,
  part-apart,
  part-there,
  stored_list_is_there,
  stores_keep_lists,
}
use Rattle.nvme_driver.proofs.SlotPointers.{slots_are_contiguous}

pub length-entry : (f : SqeFields) → length (submission_entry f) ≡ 64
unfolding submission_entry
length-entry f = refl

-- entries are before the list pages
entry-low : (lane : Lane) (n : ℕ) → command_place lane n + 64 ≤ 65536
entry-low Admin n = omega arith
entry-low Io n = omega arith

-- for a command that transfers at most 131,072 bytes, in the window after its three stores
holds-placed : (d : Driver) (window : List ℕ) (a : Asked) (slot : ℕ) → length window ≡ window_size → slot < 24 →
    length a.sent ≤ most_bytes → a.moved ≤ most_bytes →
    submission_of (submission_entry (entry_fields a slot)) ≡ entry_fields a slot →
    HoldsCommand d window (command_window d window a slot) a slot
holds-placed d window a slot whole fits few most say =
    let list : List ℕ = stored_list slot a.moved in
    let entry : List ℕ = submission_entry (entry_fields a slot) in
    let place : ℕ = command_entry_place d a in
    let low : place + 64 ≤ 65536 = entry-low a.command.lane (ends a.command.lane d).tail.put in
    let size : length entry ≡ 64 = length-entry _ in
    let short : length list ≤ 248 = length-stored_list slot a.moved most in
    let one : List ℕ = with_bytes window (data_area slot) a.sent in
    let two : List ℕ = with_bytes one (list_page slot) list in
    let one-size : length one ≡ window_size = length-with_bytes window (data_area slot) a.sent (omega arith) ∙ whole in
    let two-size : length two ≡ window_size = length-with_bytes one (list_page slot) list (omega arith) ∙ one-size in
    let all-size : length (with_bytes two place entry) ≡ window_size =
    length-with_bytes two place entry (omega arith) ∙ two-size in
    record {
      window = refl;
      says = say;
      data_there =
          part-apart two entry place (data_area slot) (length a.sent) (omega arith) (inl (omega arith))
          ∙ part-apart one list (list_page slot) (data_area slot) (length a.sent) (omega arith) (inl (omega arith))
          ∙ part-there window a.sent (data_area slot) (length a.sent) refl (omega arith);
      pointer = λ some.
          (let r : IsRequest two slot a.moved =
          record { whole = two-size; slot_fits = fits; some = some; most = most } in
          let there : HasList two slot a.moved =
          stored_list_is_there one slot a.moved
          (record { whole = one-size; slot_fits = fits; some = some; most = most }) in
          slots_are_contiguous (with_bytes two place entry) slot a.moved
          (record { whole = all-size; slot_fits = fits; some = some; most = most })
          (stores_keep_lists two slot a.moved place entry r (omega arith) (inl (omega arith)) there));
    }

-- after the three stores, as the code makes them
pub holds-command : (d : Driver) (old one two new sent list entry : List ℕ) (a : Asked) (slot x y z : ℕ) →
    length old ≡ window_size → slot < 24 → length sent ≤ most_bytes → a.moved ≤ most_bytes →
    x ≡ data_area slot → sent ≡ a.sent → y ≡ list_page slot → list ≡ stored_list slot a.moved →
    z ≡ command_entry_place d a → entry ≡ submission_entry (entry_fields a slot) →
    one ≡ with_bytes old x sent → two ≡ with_bytes one y list → new ≡ with_bytes two z entry →
    submission_of (submission_entry (entry_fields a slot)) ≡ entry_fields a slot →
    HoldsCommand d old new a slot
holds-command d old one two new sent list entry a slot x y z whole fits few most x-is sent-is y-is list-is z-is entry-is
    one-is two-is new-is say =
    let short : length a.sent ≤ most_bytes = subst (λ xs. length xs ≤ most_bytes) sent-is few in
    let first : one ≡ with_bytes old (data_area slot) a.sent =
    one-is ∙ ap (λ i. with_bytes old i sent) x-is ∙ ap (with_bytes old (data_area slot)) sent-is in
    let second : two ≡ with_bytes (with_bytes old (data_area slot) a.sent) (list_page slot) (stored_list slot a.moved) =
    two-is ∙ ap (λ i. with_bytes one i list) y-is ∙ ap (with_bytes one (list_page slot)) list-is
    ∙ ap (λ w. with_bytes w (list_page slot) (stored_list slot a.moved)) first in
    let third : new ≡ command_window d old a slot =
    new-is ∙ ap (λ i. with_bytes two i entry) z-is ∙ ap (with_bytes two (command_entry_place d a)) entry-is
    ∙ ap (λ w. with_bytes w (command_entry_place d a) (submission_entry (entry_fields a slot))) second in
    subst (λ w. HoldsCommand d old w a slot) (sym third) (holds-placed d old a slot whole fits short most say)

-- the same for a request
pub holds : (d : Driver) (old one two new sent list entry : List ℕ) (request : Request) (slot a b c : ℕ) →
    length old ≡ window_size → slot < 24 → length sent ≤ most_bytes → (asked_of request).moved ≤ most_bytes →
    a ≡ data_area slot → sent ≡ (asked_of request).sent → b ≡ list_page slot →
    list ≡ stored_list slot (asked_of request).moved → c ≡ entry_place d request → entry ≡ entry_of request slot →
    one ≡ with_bytes old a sent → two ≡ with_bytes one b list → new ≡ with_bytes two c entry →
    submission_of (entry_of request slot) ≡ entry_fields (asked_of request) slot →
    HoldsRequest d old new request slot
holds d old one two new sent list entry request slot a b c whole fits few most a-is sent-is b-is list-is c-is entry-is
    one-is two-is new-is say =
    let h : HoldsCommand d old new (asked_of request) slot =
    holds-command d old one two new sent list entry (asked_of request) slot a b c whole fits few most a-is sent-is b-is
    list-is c-is entry-is one-is two-is new-is say in
    record { window = h.window; says = h.says; data_there = h.data_there; pointer = h.pointer }
