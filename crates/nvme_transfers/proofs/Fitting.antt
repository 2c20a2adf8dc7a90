-- What is known of a part that fits.
use Rattle.std.proofs.Common.{◌≡◌, ◌+◌, ◌<◌, ◌≤◌, Bool, true, false, cond, arith, refl, sym}
use Rattle.std.specs.Prelude.{not}
use Rattle.std.proofs.lemmas.Bool.{eqb-true, eq-eqb, ltb-true, lt-ltb, leb-true, le-leb, and_parts, and_from}
use Rattle.nvme_transfers.specs.declared.part.Part.{Part}
use Rattle.nvme_transfers.specs.declared.transfer.Transfer.{Transfer}
use Rattle.nvme_transfers.specs.Parts.{cid_of, ends, fits}

pub record Fit (x : Transfer) (p : Part) : Type 0 where
  pub cid : p.cid ≡ cid_of x.command
  pub offset : p.offset ≡ x.count
  pub some : 0 < p.length
  pub within : p.offset + p.length ≤ x.command.length
  pub last : p.is_last ≡ ends x p

agrees : (a b : Bool) → cond a b (not b) ≡ true → a ≡ b
agrees true b e = sym e
agrees false true e = absurd (cc)
agrees false false e = refl

agreed : (a b : Bool) → a ≡ b → cond a b (not b) ≡ true
agreed true b e = sym e
agreed false true e = absurd (cc)
agreed false false e = refl

pub fit : (x : Transfer) (p : Part) → fits x p ≡ true → Fit x p
unfolding fits
fit x p h =
    let a = and_parts _ _ h in
    let b = and_parts _ _ a.0 in
    let c = and_parts _ _ b.0 in
    let d = and_parts _ _ c.0 in
    record {
      cid = eqb-true p.cid (cid_of x.command) d.0;
      offset = eqb-true p.offset x.count d.1;
      some = ltb-true 0 p.length c.1;
      within = leb-true (p.offset + p.length) x.command.length b.1;
      last = agrees p.is_last (ends x p) a.1;
    }

pub fits-if : (x : Transfer) (p : Part) → Fit x p → fits x p ≡ true
unfolding fits
fits-if x p f =
    and_from _ _
    (and_from _ _
    (and_from _ _
    (and_from _ _ (eq-eqb p.cid (cid_of x.command) f.cid) (eq-eqb p.offset x.count f.offset))
    (lt-ltb 0 p.length f.some))
    (le-leb (p.offset + p.length) x.command.length f.within))
    (agreed p.is_last (ends x p) f.last)

pub fits_within : (x : Transfer) (p : Part) → fits x p ≡ true → x.count + p.length ≤ x.command.length
fits_within x p h = let f : Fit x p = fit x p h in omega (arith, f.offset, f.within)
