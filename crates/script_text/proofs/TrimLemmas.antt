-- For the answers of `trimmed`: a list without its trailing zeros, from its end.
use Rattle.std.proofs.Common.{◌≡◌, ◌≢◌, ℕ, List, [], ◌∷◌, ◌++◌, true, false, ◌&&◌, ◌==◌, refl, sym, ap, ◌∙◌}
use Rattle.std.specs.List.{list_all}
use Rattle.std.proofs.lemmas.Bool.{and_parts, and_right, eqb-true, ne_eqb}
use Rattle.std.proofs.lemmas.List.{append_assoc, append-nil}
use Rattle.script_text.specs.HexText.{without_trailing_zeros}

zeros-zero : (bs : List ℕ) → list_all (λ x. x == 0) (bs ++ (0 ∷ [])) ≡ list_all (λ x. x == 0) bs
zeros-zero [] = refl
zeros-zero (b ∷ bs) = ap (λ t. (b == 0) && t) (zeros-zero bs)

zeros-other : (bs : List ℕ) (b : ℕ) → b ≢ 0 → list_all (λ x. x == 0) (bs ++ (b ∷ [])) ≡ false
zeros-other [] b h = ap (λ t. t && true) (ne_eqb b 0 h)
zeros-other (c ∷ bs) b h = and_right (c == 0) _ (zeros-other bs b h)

-- a zero at the end is removed
pub trailing-zero : (bs : List ℕ) → without_trailing_zeros (bs ++ (0 ∷ [])) ≡ without_trailing_zeros bs
trailing-zero [] = refl
trailing-zero (b ∷ bs) = rw (zeros-zero bs, trailing-zero bs) refl

-- any other element stays, and all before it
pub trailing-other : (bs : List ℕ) (b : ℕ) → b ≢ 0 → without_trailing_zeros (bs ++ (b ∷ [])) ≡ bs ++ (b ∷ [])
trailing-other [] b h = rw (ne_eqb b 0 h) refl
trailing-other (c ∷ bs) b h = rw (and_right (c == 0) _ (zeros-other bs b h), trailing-other bs b h) refl

-- zeros at the end are removed
pub trailing-zeros : (bs zs : List ℕ) → list_all (λ x. x == 0) zs ≡ true
    → without_trailing_zeros (bs ++ zs) ≡ without_trailing_zeros bs
trailing-zeros bs [] h = ap without_trailing_zeros (append-nil bs)
trailing-zeros bs (z ∷ zs) h =
    let parts = and_parts (z == 0) (list_all (λ x. x == 0) zs) h in
    let zero_here : z ≡ 0 = eqb-true z 0 parts.0 in
    ap without_trailing_zeros (sym (append_assoc bs (z ∷ []) zs)) ∙ trailing-zeros (bs ++ z ∷ []) zs parts.1
    ∙ ap (λ x. without_trailing_zeros (bs ++ x ∷ [])) zero_here ∙ trailing-zero bs
