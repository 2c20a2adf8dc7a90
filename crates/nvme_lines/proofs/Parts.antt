-- For the answer of `put_controller`: lines that are put in parts.
use Rattle.std.proofs.Common.{
  ◌≡◌,
  ◌∙◌,
  ℕ,
  Bool,
  false,
  List,
  [],
  ◌∷◌,
  ◌++◌,
  ap,
  append_assoc,
  append-nil,
  codes,
  decimal,
  sym,
}
use Rattle.std.specs.Fmt.{digits}
use Rattle.nvme_grammar.specs.declared.keyword.Keyword.TheVariants as keyword
use Rattle.nvme_lines.specs.LineTexts.{controller_line, decimals, keyword_line, raw_words, spaced}

pub after : (old page next text piece : List ℕ) → page ≡ old ++ text → next ≡ page ++ piece
    → next ≡ old ++ (text ++ piece)
after old page next text piece before put = put ∙ ap (λ t. t ++ piece) before ∙ append_assoc old text piece

abbrev pub controller_front : ℕ → List ℕ
controller_front c = keyword_line keyword.Controller (decimals (c ∷ []))

pub controller-parts : (c h : ℕ) (raw : Bool) → controller_line c h raw
    ≡ ((controller_front c ++ codes " host 0x") ++ digits 16 false h) ++ spaced (raw_words raw)
controller-parts c h raw =
    let d = decimal c in
    let ds = digits 16 false h in
    let end = spaced (raw_words raw) in
    ap (λ t. codes "controller " ++ t)
    (sym (ap (λ x. ((x ++ codes " host 0x") ++ ds) ++ end) (append-nil d) ∙ append_assoc (d ++ codes " host 0x") ds end
    ∙ append_assoc d (codes " host 0x") (ds ++ end)))
