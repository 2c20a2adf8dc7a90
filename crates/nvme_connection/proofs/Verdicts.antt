-- A whole PDU is judged.
use Rattle.std.proofs.Common.{◌≡◌, ℕ, ◌≤◌, Bool, length, take, Ok, refl, sym, ap, ◌∙◌, subst, arith}
use Rattle.std.proofs.lemmas.List.{take_all}
use Rattle.nvme_pdu.specs.declared.agreed.Agreed.{Agreed}
use Rattle.nvme_pdu.specs.declared.kind.Kind.{Kind}
use Rattle.nvme_pdu.specs.declared.kind.Kind.TheVariants.{
  IcReq,
  H2cTermReq,
  H2cData,
  CapsuleCmd,
  IcResp,
  C2hTermReq,
  CapsuleResp,
  C2hData,
  R2t,
}
use Rattle.nvme_pdu.specs.declared.layout.PduLayout.{PduLayout}
use Rattle.nvme_connection.specs.declared.connection.Connection.{Connection as Value}
use Rattle.nvme_connection.specs.declared.judged.Judged.{Judged}
use Rattle.nvme_connection.specs.declared.judged.Verdict.{Verdict}
use Rattle.nvme_connection.specs.declared.stage.Stage.{Stage}
use Rattle.nvme_connection.specs.declared.stage.Stage.TheVariants.{Taking, Whole, Complete, Ended}
use Rattle.nvme_connection.specs.Connections.{Connection, Step, complete, completed, judged, judged_by, judged_in}
use Rattle.nvme_connection.specs.Holding.{Holds, Judges}
use Rattle.nvme_connection.proofs.Facts.{facts}
use Rattle.nvme_connection.proofs.Kept.{some-kept}

-- a stage that takes nothing of this PDU any more
abbrev pub IsOver : Stage → Type 0
IsOver Taking = ⊥
IsOver Whole = ⊥
IsOver Complete = Unit {0}
IsOver Ended = Unit {0}

pub over-holds : (v : Value) (c : Connection) (s : Stage) (o : Bool) (a : Agreed) (o' : Bool) (a' : Agreed)
    → Holds v c → IsOver s → o ≡ o' → a ≡ a'
    → Holds (record { stage = s; is_open = o; agreed = a; count = v.count; kept = v.kept; layout = v.layout })
    (record { stage = s; is_open = o'; agreed = a'; unit = c.unit })
over-holds v c s o a o' a' h over opens agrees = record {
  stage = refl;
  is_open = opens;
  agreed = agrees;
  count = h.count;
  kept = h.kept;
  laid = λ stage long. absurd (subst IsOver stage over);
  whole = λ stage. absurd (subst IsOver stage over);
}

-- the header that is kept of a whole PDU
pub whole-kept : (v : Value) (c : Connection) (n : ℕ) → Holds v c → c.stage ≡ Whole → n ≤ 24
    → take n v.kept ≡ take n c.unit
whole-kept v c n h stage few =
    let whole = h.whole stage in
    some-kept v.kept c.unit v.count n (omega (arith, few, h.count, whole.1, (facts _ _ _ whole.0.is).long)) (omega
    (arith, few)) h.kept

pub request-kept : (v : Value) (c : Connection) → Holds v c → c.stage ≡ Whole → v.layout.kind ≡ IcReq
    → length v.kept ≡ 128 → v.kept ≡ take 128 c.unit
request-kept v c h stage kind size =
    let whole = h.whole stage in
    sym (take_all v.count v.kept (omega (arith, size, h.count, whole.1, (facts _ _ _ whole.0.is).request kind)))
    ∙ h.kept

pub judges-by : (s t : Step) (c : Connection) (verdict : Verdict) (v : Value) → s ≡ t → Judges t c verdict v
    → Judges s c verdict v
judges-by s t c verdict v e p = subst (λ x. Judges x c verdict v) (sym e) p

pub judged-whole : (v : Value) (c : Connection) (j : Judged) → Holds v c → v.stage ≡ Whole
    → judged c j ≡ judged_by c j (Ok v.layout)
judged-whole v c j h stage =
    let there : c.stage ≡ Whole = sym h.stage ∙ stage in
    ap (λ (s : Stage). judged_in s c j) there ∙ ap (judged_by c j) (h.whole there).0.is

pub other-kind : (k : Kind) (c : Connection) (l : PduLayout) (sound : Bool) → (k ≡ IcReq → ⊥) → (k ≡ H2cTermReq → ⊥)
    → (k ≡ H2cData → ⊥) → completed k c l sound ≡ complete c l sound
other-kind IcReq c l sound a b d = absurd (a refl)
other-kind H2cTermReq c l sound a b d = absurd (b refl)
other-kind H2cData c l sound a b d = absurd (d refl)
other-kind CapsuleCmd c l sound a b d = refl
other-kind IcResp c l sound a b d = refl
other-kind C2hTermReq c l sound a b d = refl
other-kind CapsuleResp c l sound a b d = refl
other-kind C2hData c l sound a b d = refl
other-kind R2t c l sound a b d = refl
