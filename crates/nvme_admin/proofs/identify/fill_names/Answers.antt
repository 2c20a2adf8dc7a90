use Rattle.std.proofs.Common.{ap, ◌∙◌, codes}
use Rattle.nvme_spec.specs.Identify.{text_field}
use Rattle.nvme_admin.proofs.Structures.{with_field}
use Rattle.nvme_admin.proofs.identify.fill_names.Goals as goal

pub returns-clause-filled : goal.returns-clause-filled
returns-clause-filled c =
    let one = c.put_text.ensures in
    let two = c.put_text-2.ensures ∙ ap (λ x. with_field x (text_field 24 40 (codes "Multi-Host Subsystem"))) one in
    c.put_text-3.ensures ∙ ap (λ x. with_field x (text_field 64 8 (codes "1.0"))) two
