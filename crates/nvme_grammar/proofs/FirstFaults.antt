-- For the answer of `read_lines`: the fault of the first line outside the grammar.
use Rattle.std.proofs.Common.{
  ◌≡◌,
  ◌<◌,
  ◌+◌,
  ◌-◌,
  ℕ,
  zero,
  suc,
  Bool,
  true,
  false,
  List,
  [],
  ◌∷◌,
  length,
  take,
  get_or,
  Option,
  Some,
  None,
  refl,
  sym,
  ap,
  subst,
  ◌∙◌,
  arith,
}
use Rattle.std.specs.Prelude.{◌||◌, is_some, option_map, if◌then◌else◌}
use Rattle.std.specs.List.{list_any}
use Rattle.nvme_grammar.specs.Line.{line_at}
use Rattle.nvme_grammar.specs.LineFaults.{IsParseFault, IsRefusal, fault_by_value, fault_in, fault_of, is_start_line}
use Rattle.nvme_grammar.specs.Script.{IsFirstOutside, is_start, said, start_in}
use Rattle.nvme_grammar.specs.declared.line.Line.{Line}
use Rattle.nvme_grammar.specs.declared.script.ParseFault.{ParseFault}
use Rattle.nvme_grammar.specs.declared.script.ParseFault.TheVariants.{Syntax, NoMemory}

or-false : (a : Bool) → (a || false) ≡ a
or-false true = refl
or-false false = refl

-- whether `start` is among lines
pub has-start : (lines : List Line) → is_some (start_in lines) ≡ list_any is_start lines
has-start [] = refl
has-start (line ∷ lines) = by (is_start line) refl (has-start lines)
  where
    mapped : (o : Option ℕ) → is_some (option_map (λ n. n + 1) o) ≡ is_some o
    mapped None = refl
    mapped (Some n) = refl

    by : (t : Bool) → is_start line ≡ t → is_some (start_in lines) ≡ list_any is_start lines
        → is_some (start_in (line ∷ lines)) ≡ list_any is_start (line ∷ lines)
    by true e rest = rw e refl
    by false e rest = rw e (mapped (start_in lines) ∙ rest)

-- the fault of a line of a text, by the lines before it
line-fault : (started : Bool) (i : ℕ) (raw : List (List ℕ)) (bytes : List ℕ)
    → i < length raw → bytes ≡ get_or raw i bytes
    → fault_in started i raw ≡ fault_of (list_any is_start (said (take i raw)) || started) bytes
line-fault started i [] bytes below is = absurd (omega (arith, below))
line-fault started zero (line ∷ raw) bytes below is = ap (fault_of started) (sym is)
line-fault started (suc n) (line ∷ raw) bytes below is =
    line-fault (is_start_line (line_at line) || started) n raw bytes (omega (arith, below)) is
    ∙ ap (λ t. fault_of t bytes) (by (line_at line) refl)
  where
    turned : (a b c : Bool) → (a || (b || c)) ≡ ((b || a) || c)
    turned true true c = refl
    turned true false c = refl
    turned false true c = refl
    turned false false c = refl

    by : (o : Option Line) → line_at line ≡ o
        → (list_any is_start (said (take n raw)) || (is_start_line (line_at line) || started))
        ≡ (list_any is_start (said (line ∷ take n raw)) || started)
    by None e = rw e refl
    by (Some l) e = rw e (turned (list_any is_start (said (take n raw))) (is_start l) started)

-- the first line outside the grammar, counted from 0, is refused with this fault
pub first_refused : (raw : List (List ℕ)) (i : ℕ) (bytes : List ℕ) (start : Option ℕ) (fault : ParseFault)
    → i < length raw → bytes ≡ get_or raw i bytes
    → start ≡ start_in (said (take i raw)) → IsFirstOutside (i + 1) raw
    → IsRefusal fault (i + 1) (fault_of (is_some start) bytes) → IsParseFault raw fault
first_refused raw i bytes start NoMemory below is at outside refusal = tt
first_refused raw i bytes start (Syntax n fault) below is at outside refusal =
    let number : n - 1 ≡ i = omega (arith, refusal.0) in
    let started : (list_any is_start (said (take i raw)) || false) ≡ is_some start =
    or-false _ ∙ sym (has-start (said (take i raw))) ∙ ap is_some (sym at) in (
      subst (λ k. IsFirstOutside k raw) (sym refusal.0) outside,
      ap (λ k. fault_in false k raw) number ∙ line-fault false i raw bytes below is
          ∙ ap (λ t. fault_of t bytes) started ∙ refusal.1,
    )
