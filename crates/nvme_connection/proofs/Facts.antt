-- What holds of the layout of each PDU of a host.
use Rattle.std.proofs.Common.{
  ◌≡◌,
  ℕ,
  ◌≤◌,
  Bool,
  true,
  false,
  List,
  [],
  ◌∷◌,
  Result,
  Ok,
  Err,
  refl,
  sym,
  ap,
  subst,
  arith,
}
use Rattle.std.specs.Prelude.{◌&&◌, if◌then◌else◌, nat_le, ◌==◌}
use Rattle.nvme_pdu.specs.declared.agreed.Agreed.{Agreed}
use Rattle.nvme_pdu.specs.declared.fatal.Fatal.{Fatal}
use Rattle.nvme_pdu.specs.declared.kind.Kind.{Kind}
use Rattle.nvme_pdu.specs.declared.kind.Kind.TheVariants.{IcReq, H2cTermReq, CapsuleCmd, H2cData}
use Rattle.nvme_pdu.specs.declared.layout.Head.{Head}
use Rattle.nvme_pdu.specs.declared.layout.PduLayout.{PduLayout}
use Rattle.nvme_pdu.specs.Checking.{checked, invalid}
use Rattle.nvme_pdu.specs.Layouts.{
  layout_of,
  request_layout,
  termination_layout,
  data_layout,
  head_of,
  least,
  data_rules,
  form_rules,
  has_data,
  without_data,
}

pub record Facts (l : PduLayout) : Type 0 where
  pub begins : 24 ≤ l.data_offset
  pub long : 24 ≤ l.length
  pub request : l.kind ≡ IcReq → l.length ≡ 128

abbrev Fails : {A : Type 0} → Result A Fatal → Type 0
Fails (Ok x) = ⊥
Fails (Err f) = Unit {0}

err-ok : {A : Type 0} (f : Fatal) (x : A) → Err f ≡ Ok x → ⊥
err-ok f x e = subst Fails e tt

abbrev value : {A : Type 0} → A → Result A Fatal → A
value x (Ok y) = y
value x (Err f) = x

ok-same : {A : Type 0} (x y : A) → ◌≡◌ {A = Result A Fatal} (Ok x) (Ok y) → x ≡ y
ok-same x y e = ap (value x) e

abbrev Hold : List (Fatal × Bool) → Type 0
Hold [] = Unit {0}
Hold (r ∷ rules) = (r.1 ≡ true) × Hold rules

passed : {A : Type 0} (t : Bool) (f : Fatal) (next : Result A Fatal) (l : A) → (if t then next else Err f) ≡ Ok l
    → (t ≡ true) × (next ≡ Ok l)
passed true f next l e = (refl, e)
passed false f next l e = absurd (err-ok f l e)

checked-is : {A : Type 0} (rules : List (Fatal × Bool)) (x l : A) → checked rules x ≡ Ok l → (x ≡ l) × Hold rules
checked-is [] x l e = (ok-same x l e, tt)
checked-is (r ∷ rules) x l e =
    let p = passed r.1 r.0 (checked rules x) l e in
    let rest = checked-is rules x l p.1 in
    (rest.0, (p.0, rest.1))

either : {P : Type 0} (t : Bool) (a b : Result PduLayout Fatal) (l : PduLayout) → (a ≡ Ok l → P) → (b ≡ Ok l → P)
    → (if t then a else b) ≡ Ok l → P
either true a b l p q e = p e
either false a b l p q e = q e

abbrev IsRequest : Kind → Type 0
IsRequest IcReq = Unit {0}
IsRequest other = ⊥

request-facts : (h : Head) (l : PduLayout) → request_layout h ≡ Ok l → Facts l
unfolding request_layout
request-facts h l e = subst Facts (checked-is ((invalid 2, h.hlen == 128) ∷ (invalid 1, h.flags == 0) ∷
    (invalid 4, h.plen == 128) ∷ []) (without_data IcReq 128 false false) l e).0 (record {
      begins = omega arith;
      long = omega arith;
      request = λ k. refl;
    })

no-request : (k : Kind) → (IsRequest k → ⊥) → k ≡ IcReq → ⊥
no-request k other e = other (subst IsRequest (sym e) tt)

and-first : (a b : Bool) → (a && b) ≡ true → a ≡ true
and-first true b e = refl
and-first false b e = e

termination-facts : (h : Head) (l : PduLayout) → termination_layout h ≡ Ok l → Facts l
unfolding termination_layout
termination-facts h l e =
    let c = checked-is ((invalid 2, h.hlen == 24) ∷ (invalid 4, nat_le 24 h.plen && nat_le h.plen 152) ∷ []) _ l e in
    let least-is : 24 ≤ h.plen = grind (arith, and-first (nat_le 24 h.plen) (nat_le h.plen 152) c.1.1.0) in
    subst Facts c.0 (record {
      begins = omega arith;
      long = least-is;
      request = λ k. absurd (no-request H2cTermReq (λ x. x) k);
    })

data-facts : (kind : Kind) (n most : ℕ) (a : Agreed) (h : Head) (l : PduLayout) → (IsRequest kind → ⊥) → 24 ≤ n
    → data_layout kind n most a h ≡ Ok l → Facts l
unfolding data_layout
data-facts kind n most a h l other far =
    either (has_data n a h) _ _ l
    (λ e.
    let c = checked-is (data_rules kind n most a h) _ l e in
    let place : least n a ≤ h.pdo = grind (arith, and-first (nat_le (least n a) h.pdo) _ c.1.1.1.1.0) in
    let size : least n a ≤ h.plen = grind (arith, c.1.1.1.0) in
    subst Facts c.0 (record {
      begins = omega (arith, far, place);
      long = omega (arith, far, size);
      request = λ k. absurd (no-request kind other k);
    }))
    (λ e. subst Facts (checked-is (form_rules kind n a h) _ l e).0 (record {
      begins = omega (arith, far);
      long = omega (arith, far);
      request = λ k. absurd (no-request kind other k);
    }))

pub facts : (a : Agreed) (h : List ℕ) (l : PduLayout) → layout_of a h ≡ Ok l → Facts l
unfolding layout_of
facts a h l =
    let k = (head_of h).kind in
    either (k == 0) _ _ l (request-facts (head_of h) l)
    (either (k == 2) _ _ l (termination-facts (head_of h) l)
    (either (k == 4) _ _ l (data-facts CapsuleCmd 72 8192 a (head_of h) l (λ x. x) (omega arith))
    (either (k == 6) _ (Err (invalid 0)) l (data-facts H2cData 24 131072 a (head_of h) l (λ x. x) (omega arith))
    (λ e. absurd (err-ok (invalid 0) l e)))))
