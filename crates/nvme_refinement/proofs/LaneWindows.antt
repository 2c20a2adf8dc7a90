-- For `OneLane` and the step of each event: windows that differ in one slot, or in the queue pages of one lane (queue
-- pair), and stores that leave such windows.
use Rattle.nvme_refinement.proofs.Words.{
  list_page,
  data_area,
  ◌≡◌,
  ℕ,
  ◌+◌,
  ◌<◌,
  ◌≤◌,
  List,
  length,
  refl,
  ap,
  ◌∙◌,
  arith,
  true,
  false,
  cond,
  eqb,
  take,
  drop,
  take-take,
  eqb-false,
  most_bytes,
  with_bytes,
  Lane,
  Admin,
  Io,
  same,
  other,
  submission_queue,
  pages_of,
  area,
  listed,
  common_steps,
}
use Rattle.nvme_refinement.proofs.Windows.{stored-apart, stored-in}
use Rattle.std.proofs.Common.{rules}
use Rattle.std.proofs.lemmas.List.{places, same_lists}
use Rattle.nvme_spec.proofs.Splices.{length-with_bytes}

-- a property of a lane and of the other one is one of each
pub each-lane : (lane : Lane) (P : Lane → Type 0) → P lane → P (other lane) → (l : Lane) → P l
each-lane Admin P a b Admin = a
each-lane Admin P a b Io = b
each-lane Io P a b Admin = b
each-lane Io P a b Io = a

pub same-self : (l : Lane) → same l l ≡ true
same-self l = grind (arith, common_steps)

pub same-other : (l : Lane) → same l (other l) ≡ false
same-other l = grind (arith, common_steps)

pub other-same : (l : Lane) → same (other l) l ≡ false
other-same l = grind (arith, common_steps)

-- a slot whose area and list are the same in both windows
pub record Same (w w' : List ℕ) (k : ℕ) : Type 0 where
  pub areas : area w' k ≡ area w k
  pub lists : listed w' k ≡ listed w k

pub same-both : (w v u : List ℕ) (k : ℕ) → Same w v k → Same v u k → Same w u k
same-both w v u k a b = record { areas = b.areas ∙ a.areas; lists = b.lists ∙ a.lists }

area-apart : (w bytes : List ℕ) (at k : ℕ) → at + length bytes ≤ length w
    → (at < data_area k + most_bytes → at + length bytes ≤ data_area k) → area (with_bytes w at bytes) k ≡ area w k
unfolding area
area-apart w bytes at k i h = stored-apart w bytes at (data_area k) most_bytes i h

list-apart : (w bytes : List ℕ) (at k : ℕ) → at + length bytes ≤ length w
    → (at < list_page k + 4096 → at + length bytes ≤ list_page k) → listed (with_bytes w at bytes) k ≡ listed w k
unfolding listed
list-apart w bytes at k i h = stored-apart w bytes at (list_page k) 4096 i h

pub queue-low : (lane : Lane) → submission_queue lane ≤ 8192
queue-low lane = grind (arith, common_steps)

pages-apart : (lane : Lane) (w bytes : List ℕ) (at : ℕ)
    → at + length bytes ≤ length w → (at < submission_queue lane + 8192 → at + length bytes ≤ submission_queue lane)
    → pages_of lane (with_bytes w at bytes) ≡ pages_of lane w
unfolding pages_of
pages-apart lane w bytes at i h = stored-apart w bytes at (submission_queue lane) 8192 i h

pub lists-data : (w bytes : List ℕ) (s : ℕ) → length w ≡ 4194304 → s < 24 → length bytes ≤ most_bytes
    → listed (with_bytes w (data_area s) bytes) s ≡ listed w s
lists-data w bytes s l h b = list-apart w bytes (data_area s) s (omega (arith, l, h, b)) (omega (arith, h))

pub areas-list : (w bytes : List ℕ) (s : ℕ) → length w ≡ 4194304 → s < 24 → length bytes ≤ 4096
    → area (with_bytes w (list_page s) bytes) s ≡ area w s
areas-list w bytes s l h b = area-apart w bytes (list_page s) s (omega (arith, l, h, b)) (omega (arith, h, b))

page-here : (b n : ℕ) (w bytes : List ℕ) (at : ℕ) → at + length bytes ≤ n → b + n ≤ length w
    → take n (drop b (with_bytes w (b + at) bytes)) ≡ with_bytes (take n (drop b w)) at bytes
page-here b n w bytes at within fits = same_lists _ _ (search (rules, places)) (λ k d h. grind (arith, places))

here-of : (lane : Lane) (w bytes : List ℕ) (at : ℕ) → at + length bytes ≤ 8192 → submission_queue lane + 8192 ≤ length w
    → pages_of lane (with_bytes w (submission_queue lane + at) bytes) ≡ with_bytes (pages_of lane w) at bytes
unfolding pages_of
here-of lane w bytes at p q = page-here (submission_queue lane) 8192 w bytes at p q

there-of : (lane : Lane) (w bytes : List ℕ) (at : ℕ) → at + length bytes ≤ 8192 → length w ≡ 4194304
    → pages_of (other lane) (with_bytes w (submission_queue lane + at) bytes) ≡ pages_of (other lane) w
there-of Admin w bytes at p q = pages-apart Io w bytes (0 + at) (omega (arith, p, q)) (omega (arith, p))
there-of Io w bytes at p q = pages-apart Admin w bytes (8192 + at) (omega (arith, p, q)) (omega arith)

-- a store in a lane's pages leaves each slot
pub slot-apart : (lane : Lane) (w bytes : List ℕ) (at k : ℕ) → length w ≡ 4194304 → at + length bytes ≤ 8192 → k < 24
    → Same w (with_bytes w (submission_queue lane + at) bytes) k
slot-apart lane w bytes at k l p g =
    let i : submission_queue lane + at + length bytes ≤ length w = omega (arith, queue-low lane, l, p) in
    record {
      areas = area-apart w bytes (submission_queue lane + at) k i (omega (arith, queue-low lane, p));
      lists = list-apart w bytes (submission_queue lane + at) k i (omega (arith, queue-low lane, p));
    }

-- What stores leave of a window: all slots except one, and each lane's pages by this function.
pub record Stored (w w' : List ℕ) (s : ℕ) (f : Lane → List ℕ → List ℕ) : Type 0 where
  pub size : length w' ≡ 4194304
  pub slots : (k : ℕ) → k < 24 → eqb k s ≡ false → Same w w' k
  pub pages : (lane : Lane) → pages_of lane w' ≡ f lane (pages_of lane w)

pub none-stored : (w : List ℕ) (s : ℕ) → length w ≡ 4194304 → Stored w w s (λ l p. p)
none-stored w s l = record { size = l; slots = λ k g q. record { areas = refl; lists = refl }; pages = λ lane. refl }

-- a store in the slot's data area, in its list, and in a lane's pages
pub data-stored : (w v : List ℕ) (s : ℕ) (f : Lane → List ℕ → List ℕ) (bytes : List ℕ)
    → Stored w v s f → s < 24 → length bytes ≤ most_bytes → Stored w (with_bytes v (data_area s) bytes) s f
data-stored w v s f bytes m h b =
    let i : data_area s + length bytes ≤ length v = omega (arith, m.size, h, b) in
    record {
      size = length-with_bytes v (data_area s) bytes i ∙ m.size;
      slots = λ k g q. same-both w v _ k (m.slots k g q) (record {
        areas = area-apart v bytes (data_area s) k i (omega (arith, b, eqb-false k s q));
        lists = list-apart v bytes (data_area s) k i (omega (arith, g));
      });
      pages = λ lane. pages-apart lane v bytes (data_area s) i (omega (arith, queue-low lane)) ∙ m.pages lane;
    }

pub list-stored : (w v : List ℕ) (s : ℕ) (f : Lane → List ℕ → List ℕ) (bytes : List ℕ)
    → Stored w v s f → s < 24 → length bytes ≤ 4096 → Stored w (with_bytes v (list_page s) bytes) s f
list-stored w v s f bytes m h b =
    let i : list_page s + length bytes ≤ length v = omega (arith, m.size, h, b) in
    record {
      size = length-with_bytes v (list_page s) bytes i ∙ m.size;
      slots = λ k g q. same-both w v _ k (m.slots k g q) (record {
        areas = area-apart v bytes (list_page s) k i (omega (arith, h, b));
        lists = list-apart v bytes (list_page s) k i (omega (arith, b, eqb-false k s q));
      });
      pages = λ lane. pages-apart lane v bytes (list_page s) i (omega (arith, queue-low lane)) ∙ m.pages lane;
    }

pub page-stored : (lane : Lane) (w v : List ℕ) (s : ℕ) (f : Lane → List ℕ → List ℕ) (bytes : List ℕ) (at : ℕ)
    → Stored w v s f → at + length bytes ≤ 8192 →
    Stored w (with_bytes v (submission_queue lane + at) bytes) s
    (λ l p. cond (same l lane) (with_bytes (f l p) at bytes) (f l p))
page-stored lane w v s f bytes at m h =
    record {
      size = length-with_bytes v (submission_queue lane + at) bytes (omega (arith, queue-low lane, m.size, h)) ∙ m.size;
      slots = λ k g q. same-both w v _ k (m.slots k g q) (slot-apart lane v bytes at k m.size h g);
      pages = each-lane lane (λ l. pages_of l (with_bytes v (submission_queue lane + at) bytes)
          ≡ cond (same l lane) (with_bytes (f l (pages_of l w)) at bytes) (f l (pages_of l w)))
          (rw (same-self lane) (here-of lane v bytes at h (omega (arith, queue-low lane, m.size))
          ∙ ap (λ x. with_bytes x at bytes) (m.pages lane)))
          (rw (other-same lane) (there-of lane v bytes at h m.size ∙ m.pages (other lane)));
    }

-- bytes written at the front of an area, and in a list
pub area-front : (w bytes : List ℕ) (s : ℕ) → data_area s ≤ length w → length bytes ≤ most_bytes
    → take (length bytes) (area (with_bytes w (data_area s) bytes) s) ≡ bytes
unfolding area
area-front w bytes s h b = take-take (length bytes) most_bytes (drop (data_area s) (with_bytes w (data_area s) bytes)) b
    ∙ stored-in w bytes (data_area s) h

pub list-front : (w bytes : List ℕ) (s : ℕ) → list_page s ≤ length w → length bytes ≤ 4096
    → take (length bytes) (listed (with_bytes w (list_page s) bytes) s) ≡ bytes
unfolding listed
list-front w bytes s h b = take-take (length bytes) 4096 (drop (list_page s) (with_bytes w (list_page s) bytes)) b
    ∙ stored-in w bytes (list_page s) h
