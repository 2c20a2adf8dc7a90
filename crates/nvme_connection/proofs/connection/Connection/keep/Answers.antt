use Rattle.std.proofs.Common.{◌≡◌, ◌-◌, ◌+◌, length, take, drop, ◌++◌, refl, arith, subst, sym, ap, ◌∙◌, rules}
use Rattle.std.proofs.lemmas.List.{drop-drop}
use Rattle.nvme_connection.proofs.Kept.{kept_with}
use Rattle.nvme_connection.proofs.connection.Connection.keep.Goals as goal

pub returns-clause-kept : goal.returns-clause-kept
returns-clause-kept c = record {
  counted = refl;
  first = λ unit is same.
      let size : length c.args.self.now.kept ≡ 128 = search rules in
      let put : c.copy_from_slice.new.self ≡ take
      (c.min-last.result - c.min-first.result) c.args.bytes.now = c.copy_from_slice.ensures.after in
      let sum : c.min-first.result + (c.min-last.result - c.min-first.result)
      ≡ c.min-last.result = omega (arith, c.min-first.ensures, c.min-last.ensures) in
      let rest : drop (c.min-last.result - c.min-first.result) (drop c.min-first.result c.args.self.now.kept)
      ≡ drop c.min-last.result c.args.self.now.kept = drop-drop _ _ c.args.self.now.kept
      ∙ ap (λ k. drop k c.args.self.now.kept) sum in
      let whole = kept_with c.args.self.now.kept unit c.args.bytes.now c.args.self.now.count c.min-first.result
      c.min-last.result size is c.min-first.ensures c.min-last.ensures same in
      rw put (subst (λ xs. take (c.args.self.now.count + length c.args.bytes.now)
      (take c.min-first.result c.args.self.now.kept
      ++ (take (c.min-last.result - c.min-first.result) c.args.bytes.now ++ xs)) ≡ take 128 (unit
      ++ c.args.bytes.now)) (sym rest) whole);
}
