use Rattle.std.proofs.Common.{◌≡◌, ℕ, List, ◌+◌, ◌-◌, ap, ◌∙◌, arith, length, replicate}
use Rattle.std.proofs.lemmas.List.{length-replicate}
use Rattle.nvme_spec.specs.Bytes.{with_bytes}
use Rattle.nvme_spec.proofs.Splices.{with_bytes-append}
use Rattle.nvme_admin.proofs.structure.put_text.Goals as goal

pub returns : goal.returns
returns c =
    let text = c.args.text.now in
    let spaces : List ℕ = replicate (c.args.size - length text) 0x20 in
    let count : length spaces ≡ c.args.size - length text = length-replicate {A = ℕ} (c.args.size - length text) 0x20 in
    c.put_spaces.ensures
    ∙ ap (λ s. with_bytes s (c.args.at + length text) spaces) c.put_bytes.ensures
    ∙ with_bytes-append c.args.structure.now c.args.at text spaces
    (omega (arith, c.requires.short, c.requires.inside, count))
