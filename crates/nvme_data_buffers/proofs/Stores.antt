-- For the laws of stores between a command's placing and its execution.
use Rattle.std.proofs.Common.{
  ◌≡◌,
  ℕ,
  ◌+◌,
  ◌<◌,
  ◌≤◌,
  List,
  [],
  ◌∷◌,
  length,
  slice_range,
  rules,
  refl,
  sym,
  ap,
  ◌∙◌,
  arith,
  ⊎_elim,
}
use Rattle.std.specs.List.{AllByRecursion}
use Rattle.std.proofs.lemmas.Bool.{cases_lt, cond-false, le-ltb}
use Rattle.std.proofs.lemmas.List.{places, same_lists}
use Rattle.nvme_spec.specs.Bytes.{with_bytes}
use Rattle.nvme_spec.specs.DataRules.{data_in}
use Rattle.nvme_spec.proofs.Splices.{length-with_bytes}
use Rattle.nvme_data_buffers.specs.Areas.{Area, Buffer, IsArea, extent, LiesIn}
use Rattle.nvme_data_buffers.specs.Buffers.{capacity, start, HasList}
use Rattle.nvme_data_buffers.specs.Entries.{moved, placed}
use Rattle.nvme_data_buffers.specs.Laws.{IsWithin}
use Rattle.nvme_data_buffers.specs.Stores.{Store, after_stores, IsElsewhere, OwnDataStay, ReturnedDataStay}
use Rattle.nvme_data_buffers.specs.declared.buffer.DataBuffer.{DataBuffer}
use Rattle.nvme_data_buffers.specs.declared.buffer.DataBuffer.TheVariants.{AtOnce, Held}
use Rattle.nvme_data_buffers.proofs.Areas.{
  stored,
  areas-lie-in-window,
  buffer-within,
  buffer-not-list,
  data-lie-in-their-buffer,
  stores-keep-other-areas,
  stores-keep-the-list,
}
use Rattle.nvme_data_buffers.proofs.OwnData.{commands-move-their-data}

-- a store in an area leaves the window's length
fits : (a : Area) (at n : ℕ) → IsArea a → LiesIn (extent a) at n → at + n ≤ 4194304
fits a at n is there =
    let inside = areas-lie-in-window a is in
    let until = there.until in omega (arith, inside, until)

one-length : (w : List ℕ) (b : DataBuffer) (s : Store) → length w ≡ 4194304 → IsElsewhere b s
    → length (with_bytes w s.at s.part) ≡ 4194304
one-length w b s whole other =
    let there = fits s.area s.at (length s.part) other.is other.inside in
    length-with_bytes w s.at s.part (omega (arith, whole, there)) ∙ whole

stores-length : (w : List ℕ) (b : DataBuffer) (stores : List Store) → length w ≡ 4194304
    → AllByRecursion (IsElsewhere b) stores → length (after_stores w stores) ≡ 4194304
stores-length w b [] whole others = whole
stores-length w b (s ∷ later) whole others =
    stores-length (with_bytes w s.at s.part) b later (one-length w b s whole others.0) others.1

stores-list : (w : List ℕ) (b : DataBuffer) (stores : List Store) → length w ≡ 4194304
    → AllByRecursion (IsElsewhere b) stores → HasList w → HasList (after_stores w stores)
stores-list w b [] whole others has = has
stores-list w b (s ∷ later) whole others has =
    stores-list (with_bytes w s.at s.part) b later (one-length w b s whole others.0) others.1
    (stores-keep-the-list w s.part s.area s.at whole others.0.is others.0.no_list others.0.inside has)

-- what is in the buffer stays
stores-keep : (w : List ℕ) (b : DataBuffer) (stores : List Store) (i n : ℕ) → length w ≡ 4194304 → IsArea (Buffer b)
    → AllByRecursion (IsElsewhere b) stores → LiesIn (extent (Buffer b)) i n
    → slice_range (after_stores w stores) i (i + n) ≡ slice_range w i (i + n)
stores-keep w b [] i n whole is others there = refl
stores-keep w b (s ∷ later) i n whole is others there =
    stores-keep (with_bytes w s.at s.part) b later i n (one-length w b s whole others.0) is others.1 there
    ∙ stores-keep-other-areas w s.part s.area (Buffer b) s.at i n whole others.0.is is others.0.no_buffer
    others.0.inside there

pub returned-data-stay : ReturnedDataStay
returned-data-stay window returned b size stores whole is fit few others =
    let here = data-lie-in-their-buffer b size fit in
    let from = here.from in
    let until = here.until in
    let inside = buffer-within b in
    let there : LiesIn (extent (Buffer b)) (start b size) (length returned) =
    record { from = from; until = omega (arith, until, few) } in
    let within : start b size + length returned ≤ length window = omega (arith, until, few, inside, whole) in
    stores-keep (with_bytes window (start b size) returned) b stores (start b size) (length returned)
    (length-with_bytes window (start b size) returned within ∙ whole) is others there
    ∙ stored window returned (start b size) within

-- the same bytes again change nothing
again : (w part : List ℕ) (at : ℕ) → at + length part ≤ length w → slice_range w at (at + length part) ≡ part
    → with_bytes w at part ≡ w
again w part at within there =
    ap (with_bytes w at) (sym there) ∙ same_lists _ _ (search (rules, places)) (λ k d h. grind (arith, places))

pub is-buffer : (b : DataBuffer) → 1 ≤ capacity b → IsArea (Buffer b)
is-buffer AtOnce some = tt
is-buffer (Held n) some =
    ⊎_elim {C = n < 16} (λ (few : n < 16). few)
    (λ (many : 16 ≤ n).
    let none : capacity (Held n) ≡ 0 = cond-false _ _ _ (le-ltb n 16 many) in omega (arith, none, some))
    (cases_lt n 16)

-- the memory when the command is executed
pub record IsReady (w : List ℕ) (b : DataBuffer) (sent : List ℕ) : Type 0 where
  pub whole : length w ≡ 4194304
  pub list : HasList w
  pub same : with_bytes w (start b (length sent)) sent ≡ w

pub ready : (window sent : List ℕ) (bytes : ℕ) (b : DataBuffer) (stores : List Store)
    → length window ≡ 4194304 → HasList window → IsWithin b (length sent) bytes
    → AllByRecursion (IsElsewhere b) stores
    → IsReady (after_stores (with_bytes window (start b (length sent)) sent) stores) b sent
ready window sent bytes b stores whole has within others =
    let some = within.some in
    let enough = within.enough in
    let fit = within.fit in
    let is = is-buffer b (omega (arith, some, enough, fit)) in
    let here = data-lie-in-their-buffer b (length sent) within.fit in
    let until = here.until in
    let inside = buffer-within b in
    let place : start b (length sent) + length sent ≤ length window = omega (arith, until, inside, whole) in
    let first : List ℕ = with_bytes window (start b (length sent)) sent in
    let long : length first ≡ 4194304 = length-with_bytes window (start b (length sent)) sent place ∙ whole in
    let list : HasList first = stores-keep-the-list window sent (Buffer b) (start b (length sent)) whole is
    buffer-not-list here has in
    let last : List ℕ = after_stores first stores in
    let length_is : length last ≡ 4194304 = stores-length first b stores long others in
    let there : slice_range last (start b (length sent)) (start b (length sent) + length sent) ≡ sent =
    returned-data-stay window sent b (length sent) stores whole is within.fit (omega arith) others in
    record {
      whole = length_is;
      list = stores-list first b stores long others list;
      same = again last sent (start b (length sent)) (omega (arith, until, inside, length_is)) there;
    }

pub own-data-stay : OwnDataStay
own-data-stay window e sent is_admin b stores whole has entry within others =
    let r = ready window sent (moved is_admin e) b stores whole has within others in
    let moves = commands-move-their-data (after_stores (with_bytes window (start b (length sent)) sent) stores) e
    is_admin b (length sent) r.whole r.list entry within in
    ap (λ w. data_in (moved is_admin (placed is_admin e b (length sent))) w (placed is_admin e b (length sent)))
    (sym r.same)
    ∙ moves.gathered sent refl
