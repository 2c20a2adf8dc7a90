-- For the law `opening_is_sound`: a driver that never came up, at a controller that was never enabled.
use Rattle.nvme_refinement.proofs.Words.{
  ◌≡◌,
  ℕ,
  zero,
  suc,
  false,
  List,
  [],
  length,
  None,
  refl,
  sym,
  ap,
  subst,
  arith,
  replicate,
  most_bytes,
  new_driver,
  new_controller,
  ◌≤◌,
  drop,
  length-drop,
  length-take-le,
  window_size,
  Lane,
  Admin,
  Io,
  Ends,
  ends,
  waiting_at,
  empty,
  slot_at,
  live_in,
  received_in,
  AgeIn,
  Resting,
  Holds,
  submission_queue,
  pages_of,
  slots_in,
  host,
  state,
  IsOff,
  EndsFit,
  OpeningIsSound,
}
use Rattle.nvme_spec.specs.Memory.{zeros}
use Rattle.nvme_machine.proofs.Windows.{length-zeros}
use Rattle.nvme_refinement.proofs.Places.{no-way}
use Rattle.nvme_refinement.proofs.Ups.{resting-box}
use Rattle.nvme_refinement.proofs.LaneWindows.{queue-low}
use Rattle.nvme_refinement.proofs.Resetting.{state-off}
use Rattle.nvme_driver.specs.Drivers.{empty_ends}

slot-empty : (l : Lane) (w : List ℕ) (j n k : ℕ) → slot_at (slots_in l w j (replicate n None)) k ≡ empty
slot-empty l w j zero k = refl
slot-empty l w j (suc n) zero = refl
slot-empty l w j (suc n) (suc k) = slot-empty l w (suc j) n k

pages-long : (l : Lane) (w : List ℕ) → submission_queue l ≤ 8192 → length w ≡ window_size → length (pages_of l w) ≡ 8192
unfolding pages_of
pages-long l w b h =
    length-take-le 8192 (drop (submission_queue l) w) (omega (arith, b, h, length-drop (submission_queue l) w))

is-off : (k : ℕ) → IsOff (new_controller k)
is-off k = record { submission = refl; completion = refl; fetched = refl; off = refl; disabled = refl }

no-ends : (first : ℕ) (l : Lane) → ends l (new_driver first) ≡ empty_ends
no-ends first Admin = refl
no-ends first Io = refl

rests : (first k : ℕ) (l : Lane) → Resting (host l (new_driver first) zeros) (state l (new_controller k))
rests first k l =
    let e = no-ends first l in
    record {
      window = pages-long l zeros (omega (arith, queue-low l)) length-zeros;
      slots = refl;
      put = ap (λ (x : Ends). x.tail.put) e;
      unheard = ap (λ (x : Ends). x.tail.unheard) e;
      consumed = ap (λ (x : Ends). x.head.consumed) e;
      off = state-off l (new_controller k) (new_controller k) (is-off k) refl;
      idle = λ slot. ap live_in (slot-empty l zeros 0 24 slot);
    }

holds : (first k : ℕ) (l : Lane) → Holds first (host l (new_driver first) zeros) (state l (new_controller k))
holds first k l = record {
  failed = refl;
  begun = omega arith;
  ages = λ slot. subst (λ s. AgeIn first first s.waiting) (sym (slot-empty l zeros 0 24 slot)) tt;
  up = λ u. absurd (no-way false refl u);
  down = λ u. rests first k l;
}

none-waits : (n k : ℕ) → waiting_at (replicate n None) k ≡ None
none-waits zero k = refl
none-waits (suc n) zero = refl
none-waits (suc n) (suc k) = none-waits n k

pub opening_is_sound : OpeningIsSound
opening_is_sound first k =
    let admin = resting-box _ _ (rests first k Admin) in
    let io = resting-box _ _ (rests first k Io) in
    record {
      sound = record {
        both = record { first = first; window = length-zeros; slots = refl; each = holds first k };
        fits = λ l. subst EndsFit (sym (no-ends first l)) (record { tail = refl; head = refl });
        sizes = λ slot. subst (λ w. received_in w ≤ most_bytes) (sym (none-waits 24 slot)) (omega arith);
        up = λ u. absurd (no-way false refl u);
        down = λ d. is-off k;
      };
      mail = λ i. record { up = false; next = first; admin = admin i; io = io i; fetched = []; aborted = [] };
    }
