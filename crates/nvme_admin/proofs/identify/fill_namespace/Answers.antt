use Rattle.std.proofs.Common.{◌≡◌, ap, ◌∙◌, rules}
use Rattle.nvme_spec.specs.World.{forbids_writing}
use Rattle.nvme_spec.specs.Identify.{bit_of, byte_field, qword_field}
use Rattle.nvme_admin.proofs.Structures.{with_field}
use Rattle.nvme_admin.proofs.identify.fill_namespace.Goals as goal

pub returns-clause-filled : goal.returns-clause-filled
returns-clause-filled c =
    let n = c.args.namespace.now in
    let one = c.put_u64.ensures ∙ ap (λ v. with_field c.args.structure.now (qword_field 0 v)) c.blocks-2.ensures in
    let two = c.put_u64-2.ensures ∙ ap (λ v. with_field c.put_u64.new.structure (qword_field 8 v)) c.blocks-3.ensures
    ∙ ap (λ x. with_field x (qword_field 8 n.blocks)) one in
    let three =
    c.put_u64-3.ensures ∙ ap (λ v. with_field c.put_u64-2.new.structure (qword_field 16 v)) c.blocks-4.ensures
    ∙ ap (λ x. with_field x (qword_field 16 n.blocks)) two in
    let shared : c.from.result ≡ bit_of n.shared = search rules in
    let four = c.put_u8.ensures ∙ ap (λ v. with_field c.put_u64-3.new.structure (byte_field 30 v)) shared
    ∙ ap (λ x. with_field x (byte_field 30 (bit_of n.shared))) three in
    let five = c.put_u8-2.ensures ∙ ap (λ x. with_field x (byte_field 31 0xff)) four in
    let protected : c.from-2.result ≡ bit_of (forbids_writing n.protection) = search rules in
    let six = c.put_u8-3.ensures ∙ ap (λ v. with_field c.put_u8-2.new.structure (byte_field 99 v)) protected
    ∙ ap (λ x. with_field x (byte_field 99 (bit_of (forbids_writing n.protection)))) five in
    c.put_u8-4.ensures ∙ ap (λ x. with_field x (byte_field 130 9)) six
