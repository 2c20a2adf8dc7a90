-- The fields of an entry are where the standard has them.
use Rattle.std.proofs.Common.{
  ◌≡◌,
  ◌+◌,
  ◌*◌,
  ◌%◌,
  ◌^◌,
  ◌<◌,
  suc,
  Bool,
  true,
  false,
  List,
  [],
  ◌∷◌,
  refl,
  sym,
  subst,
  arith,
}
use Rattle.std.specs.Prelude.{◌||◌, not, Contains}
use Rattle.std.specs.List.{list_any}
use Rattle.std.proofs.lemmas.Bool.{eqb-true, and_parts}
use Rattle.std.specs.Prelude.{if◌then◌else◌}
use Rattle.std.proofs.Math.Nat.{mod-eq_of_lt}
use Rattle.std.proofs.lemmas.Nat.{from_le_bytes-to_le_bytes_4}
use Rattle.nvme_wire.specs.declared.status.Status.{Status}
use Rattle.nvme_responses.specs.Entries.{entry, is_same, without_do_not_retry, has_do_not_retry}
use Rattle.nvme_responses.specs.Laws.{EntriesAreReadBack, IsStatus, StatusesAreReadBack, FewMayRetry}

pub entries-are-read-back : EntriesAreReadBack
unfolding entry
entries-are-read-back e fits = record {
  size = refl;
  dw0 = from_le_bytes-to_le_bytes_4 e.dw0 fits.dw0;
  dw1 = from_le_bytes-to_le_bytes_4 e.dw1 fits.dw1;
  sqhd = omega (arith, fits.sqhd);
  sqid = refl;
  cid = omega (arith, fits.cid);
  status = omega (arith, fits.status);
}

-- with Do Not Retry or without it
status-parts : (s : Status) (b : Bool) → s.sct < 2 ^ 3 → s.sc < 2 ^ 8 → has_do_not_retry s ≡ b
    → IsStatus s (2 * s.sc + 2 ^ 9 * s.sct + (if b then 2 ^ 15 else 0))
status-parts s true sct sc e = record {
  fits = omega (arith, sct, sc);
  phase = omega (arith, sct, sc);
  sc = omega (arith, sct, sc);
  sct = omega (arith, sct, sc);
  retry = omega (arith, sct, sc);
  do_not_retry = rw e (omega (arith, sct, sc));
}
status-parts s false sct sc e = record {
  fits = omega (arith, sct, sc);
  phase = omega (arith, sct, sc);
  sc = omega (arith, sct, sc);
  sct = omega (arith, sct, sc);
  retry = omega (arith, sct, sc);
  do_not_retry = rw e (omega (arith, sct, sc));
}

pub statuses-are-read-back : StatusesAreReadBack
statuses-are-read-back s sct sc =
    let three : s.sct % 8 ≡ s.sct = mod-eq_of_lt sct in
    subst (λ n. IsStatus s (2 * s.sc + 2 ^ 9 * n
    + (if has_do_not_retry (record { sct = n; sc = s.sc }) then 2 ^ 15 else 0))) (sym three)
    (status-parts s (has_do_not_retry s) sct sc refl)

-- ---- the table of Do Not Retry

same-status : (x s : Status) → is_same s x ≡ true → x ≡ s
same-status x s h =
    let p = and_parts _ _ h in
    let sct : x.sct ≡ s.sct = sym (eqb-true s.sct x.sct p.0) in
    let sc : x.sc ≡ s.sc = sym (eqb-true s.sc x.sc p.1) in
    λ i. record { sct = sct i; sc = sc i }

in-list : (xs : List Status) (s : Status) → list_any (is_same s) xs ≡ true → Contains xs s
in-list [] s h = absurd (cc)
in-list (x ∷ xs) s h = by (is_same s x) refl h (in-list xs s) where
  by : (b : Bool) → is_same s x ≡ b → (b || list_any (is_same s) xs) ≡ true
      → (list_any (is_same s) xs ≡ true → Contains xs s) → Contains (x ∷ xs) s
  by true e h rest = (0, omega arith, same-status x s e)
  by false e h rest = let r = rest h in (suc r.0, omega (arith, r.1), r.2)

was-true : (b : Bool) → not b ≡ false → b ≡ true
was-true true h = refl
was-true false h = absurd (cc)

pub few-may-retry : FewMayRetry
few-may-retry s h = in-list without_do_not_retry s (was-true (list_any (is_same s) without_do_not_retry) h)
