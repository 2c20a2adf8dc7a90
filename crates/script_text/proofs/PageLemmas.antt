-- For the answers of all `put_..` functions: texts that are put onto a page in parts.
use Rattle.std.proofs.Common.{
  ◌≡◌,
  ◌∙◌,
  ℕ,
  ◌+◌,
  ◌<◌,
  IsErr,
  Result,
  Ok,
  Err,
  List,
  ◌++◌,
  length,
  sym,
  ap,
  append_assoc,
  length-append,
  arith,
}
use Rattle.std.proofs.lemmas.Bool.{false≢true}
use Rattle.script_text.specs.Pages.{Adds}

-- the front does not fit
pub lacks_front : {E : Type 0} (room : ℕ) (result : Result (Unit {0}) E) (old front behind whole new : List ℕ)
    → IsErr result → whole ≡ front ++ behind → room < length old + length front → Adds room result old whole new
lacks_front room (Ok done) old front behind whole new failed parts lacks = absurd (false≢true failed)
lacks_front room (Err fault) old front behind whole new failed parts lacks =
    omega (arith, length-append front behind, ap length parts)

-- the front was put, and then the rest
pub puts_behind : {E : Type 0} (room : ℕ) (result : Result (Unit {0}) E) (old mid front behind whole new : List ℕ)
    → mid ≡ old ++ front → whole ≡ front ++ behind → Adds room result mid behind new → Adds room result old whole new
puts_behind room (Ok done) old mid front behind whole new put parts adds =
    adds ∙ ap (λ t. t ++ behind) put ∙ append_assoc old front behind ∙ ap (λ t. old ++ t) (sym parts)
puts_behind room (Err fault) old mid front behind whole new put parts lacks =
    omega (arith, length-append old front, length-append front behind, ap length put, ap length parts)

-- Loops that put a list: what is on the page, and what is still to be put, are the whole text.
pub next_piece : (page next piece rest left all : List ℕ) → next ≡ page ++ piece → left ≡ piece ++ rest
    → page ++ left ≡ all → next ++ rest ≡ all
next_piece page next piece rest left all put split whole =
    ap (λ t. t ++ rest) put ∙ append_assoc page piece rest ∙ ap (λ t. page ++ t) (sym split) ∙ whole

pub lacks_piece : {E : Type 0} (room : ℕ) (result : Result (Unit {0}) E) (page piece rest left old all new : List ℕ)
    → IsErr result → room < length page + length piece → left ≡ piece ++ rest → page ++ left ≡ old ++ all
    → Adds room result old all new
lacks_piece room (Ok done) page piece rest left old all new failed lacks split whole = absurd (false≢true failed)
lacks_piece room (Err fault) page piece rest left old all new failed lacks split whole =
    omega
    (arith, length-append page left, length-append old all, length-append piece rest, ap length split, ap length whole)

pub puts_last : {E : Type 0} (room : ℕ) (result : Result (Unit {0}) E) (page left old all new : List ℕ)
    → page ++ left ≡ old ++ all → Adds room result page left new → Adds room result old all new
puts_last room (Ok done) page left old all new whole put = put ∙ whole
puts_last room (Err fault) page left old all new whole lacks =
    omega (arith, length-append page left, length-append old all, ap length whole)
