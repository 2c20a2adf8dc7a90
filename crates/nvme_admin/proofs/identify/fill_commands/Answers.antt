use Rattle.std.proofs.Common.{ap, ◌∙◌}
use Rattle.nvme_spec.specs.Commands.{optional_commands}
use Rattle.nvme_spec.specs.Identify.{byte_field, word_field, dword_field}
use Rattle.nvme_admin.proofs.Structures.{with_field}
use Rattle.nvme_admin.proofs.identify.fill_commands.Goals as goal

pub returns-clause-filled : goal.returns-clause-filled
returns-clause-filled c =
    let one = c.put_u8.ensures in
    let two = c.put_u8-2.ensures ∙ ap (λ x. with_field x (byte_field 513 0x44)) one in
    let three = c.put_u32.ensures ∙ ap (λ x. with_field x (dword_field 516 8)) two in
    let four = c.put_u16.ensures ∙ ap (λ x. with_field x (word_field 520 optional_commands)) three in
    let five = c.put_u8-3.ensures ∙ ap (λ x. with_field x (byte_field 525 0x04)) four in
    c.put_u8-4.ensures ∙ ap (λ x. with_field x (byte_field 531 3)) five
