-- For `own_data`: where the data of a command are, by cases.
use Rattle.std.proofs.Common.{◌≡◌, ℕ, ◌+◌, ◌≤◌, Bool, true, false, cond, List, Result, Ok, Err, arith, refl}
use Rattle.std.specs.Prelude.{◌==◌, ◌||◌, nat_lt}
use Rattle.std.proofs.lemmas.Bool.{eqb-false, eqb-true, ltb-false}
use Rattle.std.proofs.lemmas.Nat.{mod_below}
use Rattle.nvme_wire.specs.declared.status.Status.{Status}
use Rattle.nvme_capsules.specs.declared.data_place.DataPlace.{DataPlace}
use Rattle.nvme_capsules.specs.declared.data_place.DataPlace.TheVariants as place
use Rattle.nvme_capsules.specs.DataPlaces.{
  at_offset,
  data_place,
  direction_of,
  from_controller,
  has_no_data,
  most_data,
  operation,
  psdt_of,
  sgl_address_of,
  sgl_identifier_of,
  sgl_length_of,
  to_controller,
}
use Rattle.nvme_capsules.specs.Laws.{IsSized}
use Rattle.nvme_capsules.specs.Statuses.{
  data_sgl_length_invalid,
  invalid_field_in_command,
  sgl_descriptor_type_invalid,
  sgl_offset_invalid,
}

-- the SGL breaks a rule, or the data are here
pub data Placed (e : List ℕ) (n : ℕ) (r : Result DataPlace Status) : Type 0 where
  Wrong : (status : Status) → r ≡ Err status → Placed e n r
  Nothing : r ≡ Ok (place.FromController 0) → Placed e n r
  Returned : direction_of e ≡ 2 → sgl_length_of e ≤ most_data → r ≡ Ok (place.FromController (sgl_length_of e))
      → Placed e n r
  Inside : IsSized e (sgl_length_of e) → sgl_identifier_of e ≡ 0x01 → sgl_address_of e + sgl_length_of e ≤ n
      → r ≡ Ok (place.InCapsule (sgl_address_of e) (sgl_length_of e)) → Placed e n r
  Asked : IsSized e (sgl_length_of e) → sgl_identifier_of e ≡ 0x5a → r ≡ Ok (place.OnRequest (sgl_length_of e))
      → Placed e n r

neither : (a b : Bool) → (a || b) ≡ false → (a ≡ false) × (b ≡ false)
neither false false h = (refl, refl)
neither false true h = absurd (cc)
neither true b h = absurd (cc)

inside : (e : List ℕ) (n : ℕ) → IsSized e (sgl_length_of e) → sgl_identifier_of e ≡ 0x01
    → Placed e n (at_offset (sgl_address_of e) (sgl_length_of e) n)
inside e n sized identifier = by-offset (nat_lt n (sgl_address_of e)) where
  by-end : (b : Bool) → nat_lt n (sgl_address_of e + sgl_length_of e) ≡ b
      → Placed e n (cond b (Err data_sgl_length_invalid)
      (Ok (place.InCapsule (sgl_address_of e) (sgl_length_of e))))
  by-end true h = Wrong data_sgl_length_invalid refl
  by-end false h = Inside sized identifier (ltb-false n (sgl_address_of e + sgl_length_of e) h) refl

  by-offset : (b : Bool) → Placed e n (cond b (Err sgl_offset_invalid)
      (cond (nat_lt n (sgl_address_of e + sgl_length_of e)) (Err data_sgl_length_invalid)
      (Ok (place.InCapsule (sgl_address_of e) (sgl_length_of e)))))
  by-offset true = Wrong sgl_offset_invalid refl
  by-offset false = by-end (nat_lt n (sgl_address_of e + sgl_length_of e)) refl

sent : (e : List ℕ) (n : ℕ) → IsSized e (sgl_length_of e) → Placed e n (to_controller e n)
sent e n sized = by-first (sgl_identifier_of e == 0x01) refl where
  by-second : (b : Bool) → (sgl_identifier_of e == 0x5a) ≡ b
      → Placed e n (cond b (Ok (place.OnRequest (sgl_length_of e))) (Err sgl_descriptor_type_invalid))
  by-second true h = Asked sized (eqb-true (sgl_identifier_of e) 0x5a h) refl
  by-second false h = Wrong sgl_descriptor_type_invalid refl

  by-first : (b : Bool) → (sgl_identifier_of e == 0x01) ≡ b
      → Placed e n (cond b (at_offset (sgl_address_of e) (sgl_length_of e) n)
      (cond (sgl_identifier_of e == 0x5a) (Ok (place.OnRequest (sgl_length_of e)))
      (Err sgl_descriptor_type_invalid)))
  by-first true h = inside e n sized (eqb-true (sgl_identifier_of e) 0x01 h)
  by-first false h = by-second (sgl_identifier_of e == 0x5a) refl

returned : (e : List ℕ) (n : ℕ) → direction_of e ≡ 2 → sgl_length_of e ≤ most_data → Placed e n (from_controller e)
returned e n direction most = by (sgl_identifier_of e == 0x5a) where
  by : (b : Bool) → Placed e n (cond b (Ok (place.FromController (sgl_length_of e)))
      (Err sgl_descriptor_type_invalid))
  by true = Returned direction most refl
  by false = Wrong sgl_descriptor_type_invalid refl

pub place-of : (e : List ℕ) (n : ℕ) → Placed e n (data_place e n)
unfolding data_place
place-of e n = by-psdt (psdt_of e == 1) where
  by-direction : (direction_of e ≡ 0 → ⊥) → (direction_of e ≡ 3 → ⊥) → 1 ≤ sgl_length_of e
      → sgl_length_of e ≤ most_data → (b : Bool) → (direction_of e == 1) ≡ b
      → Placed e n (cond b (to_controller e n) (from_controller e))
  by-direction no0 no3 some most true h = sent e n (record {
    direction = eqb-true (direction_of e) 1 h;
    size = refl;
    some = some;
    most = most;
  })
  by-direction no0 no3 some most false h =
      let below = mod_below (operation e) 4 (omega arith) in
      let no1 = eqb-false (direction_of e) 1 h in
      returned e n (omega (arith, below, no0, no1, no3)) most

  by-length : (direction_of e ≡ 0 → ⊥) → (direction_of e ≡ 3 → ⊥) → (sgl_length_of e ≡ 0 → ⊥) → (b : Bool)
      → nat_lt most_data (sgl_length_of e) ≡ b
      → Placed e n (cond b (Err data_sgl_length_invalid)
      (cond (direction_of e == 1) (to_controller e n) (from_controller e)))
  by-length no0 no3 some true h = Wrong data_sgl_length_invalid refl
  by-length no0 no3 some false h =
      by-direction no0 no3 (omega (arith, some)) (ltb-false most_data (sgl_length_of e) h) (direction_of e == 1) refl

  by-none : (b : Bool) → has_no_data e ≡ b
      → Placed e n (cond b (Ok (place.FromController 0))
      (cond (nat_lt most_data (sgl_length_of e)) (Err data_sgl_length_invalid)
      (cond (direction_of e == 1) (to_controller e n) (from_controller e))))
  by-none true h = Nothing refl
  by-none false h =
      let a = neither _ _ h in
      let b = neither _ _ a.1 in
      by-length (eqb-false (direction_of e) 0 a.0) (eqb-false (direction_of e) 3 b.0)
      (eqb-false (sgl_length_of e) 0 b.1) (nat_lt most_data (sgl_length_of e)) refl

  by-psdt : (b : Bool) → Placed e n (cond b (cond (has_no_data e) (Ok (place.FromController 0))
      (cond (nat_lt most_data (sgl_length_of e)) (Err data_sgl_length_invalid)
      (cond (direction_of e == 1) (to_controller e n) (from_controller e)))) (Err invalid_field_in_command))
  by-psdt true = by-none (has_no_data e) refl
  by-psdt false = Wrong invalid_field_in_command refl
