use Rattle.std.proofs.Common.{ap, ◌∙◌}
use Rattle.nvme_spec.specs.Identify.{byte_field, word_field, dword_field}
use Rattle.nvme_admin.proofs.Structures.{with_field}
use Rattle.nvme_admin.proofs.identify.fill_kind.Goals as goal

pub returns-clause-filled : goal.returns-clause-filled
returns-clause-filled c =
    let one = c.put_u8.ensures in
    let two = c.put_u8-2.ensures ∙ ap (λ x. with_field x (byte_field 77 5)) one in
    let three = c.put_u16.ensures ∙ ap (λ x. with_field x (word_field 78 c.args.cntlid)) two in
    let four = c.put_u32.ensures ∙ ap (λ x. with_field x (dword_field 80 0x00020000)) three in
    let five = c.put_u32-2.ensures ∙ ap (λ x. with_field x (dword_field 96 0x00000001)) four in
    let six = c.put_u8-3.ensures ∙ ap (λ x. with_field x (byte_field 111 1)) five in
    c.put_u16-2.ensures ∙ ap (λ x. with_field x (word_field 256 0x0008)) six
