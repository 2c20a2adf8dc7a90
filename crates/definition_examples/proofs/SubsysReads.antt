-- For `subsys_block_reads.rt`: reads of a namespace's blocks.
use Rattle.std.proofs.Common.{◌≡◌, ℕ, length, Ok, refl, sym, ap, ◌∙◌}
use Rattle.nvme_spec.specs.Blocks.{CountsFaults, blocks_from}
use Rattle.nvme_spec.specs.declared.medium.MediumFault.{MediumFault as Fault}
use Rattle.definition_examples.specs.SubsysReads.{
  BlockReadsAreDetermined,
  BlockReadsHaveCalls,
  BlockReadsHaveResults,
}

pub block_reads_have_results : BlockReadsHaveResults
block_reads_have_results = record {
  no_block = λ old new bytes result h. h;
  no_result = λ old new bytes h. h;
  a_result = λ old new bytes h. h;
}

-- the count of failures after a success
same-count : (before now : ℕ) → CountsFaults {T = Unit {0}} {E = Fault} before now (Ok tt) → now ≡ before
same-count before now h = h.done refl

pub block_reads_are_determined : BlockReadsAreDetermined
block_reads_are_determined first old left also bytes other long p q =
    let one : bytes ≡ blocks_from old.device.content first (length bytes) = p.read refl in
    let two : other ≡ blocks_from old.device.content first (length other) = q.read refl in
    let content : left.device.content ≡ also.device.content = p.content refl ∙ sym (q.content refl) in
    let count : left.device.failures ≡ also.device.failures =
    same-count old.device.failures left.device.failures p.count
    ∙ sym (same-count old.device.failures also.device.failures q.count) in
    let world : left.world ≡ also.world = p.world ∙ sym q.world in
    let controllers : left.controllers ≡ also.controllers = p.controllers ∙ sym q.controllers in
    record {
      same_bytes = one ∙ (ap (blocks_from old.device.content first) long ∙ sym two);
      same_subsystem = λ i. record {
        world = world i;
        device = record { content = content i; failures = count i };
        controllers = controllers i;
      };
    }

pub block_reads_have_calls : BlockReadsHaveCalls
block_reads_have_calls = record {
  no_block = λ content old new buffer left result h. h;
  no_result = λ content old new buffer left h. h;
  a_result = λ content old new buffer left answer h. h;
}
