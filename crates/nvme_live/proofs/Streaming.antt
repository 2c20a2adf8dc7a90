-- For the answers of `run_first` and `take_line`: calls of a session's streams.
use Rattle.std.proofs.Common.{◌≡◌, Bool, true, false, ℕ, List, Option, Ok, Err, refl, sym}
use Rattle.std.specs.Prelude.{Result, IfErr, IfOk, OnErr, OnOk, is_err, is_ok}
use Rattle.std.proofs.lemmas.Bool.{false≢true}
use Rattle.nvme_live.specs.Streams.{Failed, GivesLine, LineCall, ReadsBy, TakesKnown}
use Rattle.nvme_live.specs.Taking.{ReadsLine, TakesFront}

module _ {R : Type 0} (remaining : R → Option (List ℕ)) where
  abbrev known : R → LineCall → R → Type 0
  known old call new = TakesKnown (remaining old) call (remaining new)

  gives : (some : Bool) (a b : R) (line : List ℕ) → ReadsLine some (remaining a) (remaining b) line
      → GivesLine (ReadsBy known remaining) some a b line
  gives true a b line (whole, taken, is) = (whole, (taken, taken), is)
  gives false a b line (end, keeps, none) = (((end, keeps), (end, keeps)), none)

  -- one call reads a line from any reader of bytes
  pub reads-line : {E : Type 0} (result : Result Bool E) (a b : R) (line : List ℕ)
      → IfOk result (λ some. ReadsLine some (remaining a) (remaining b) line)
      → IfOk result (λ some. GivesLine (ReadsBy known remaining) some a b line)
  reads-line (Ok some) a b line h = gives some a b line h
  reads-line (Err e) a b line h = tt

  pub reads-front : {T E : Type 0} (result : Result T E) (a b : R)
      → IfErr result (λ _. TakesFront (remaining a) (remaining b))
      → IfErr result (λ _. ReadsBy known remaining a Failed b)
  reads-front (Ok x) a b h = tt
  reads-front (Err e) a b h = (h, h)

-- a result in both forms
pub from-err : {T E : Type 0} (r : Result T E) (P : Type 0) → is_err r ≡ true → OnErr r P → P
from-err (Ok x) P e h = absurd (false≢true e)
from-err (Err x) P e h = h

pub from-ok : {T E : Type 0} (r : Result T E) (P : Type 0) → is_err r ≡ false → OnOk r P → P
from-ok (Ok x) P e h = h
from-ok (Err x) P e h = absurd (false≢true (sym e))

pub err-not-ok : {T E : Type 0} (r : Result T E) → is_err r ≡ true → is_ok r ≡ false
err-not-ok (Ok x) e = absurd (false≢true e)
err-not-ok (Err x) e = refl
