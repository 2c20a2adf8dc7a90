-- For `examples/opening_results.rt`: the codes of openings.
use Rattle.std.proofs.Common.{◌≡◌, ◌⊎◌, ◌/◌, length, Option, None, Some, refl, sym, ap, ◌∙◌, inl, inr}
use Rattle.std.proofs.lemmas.Option.{none-some}
use Rattle.nvme_spec.specs.declared.config.ConfigFault.{ConfigFault}
use Rattle.nvme_spec.specs.declared.config.ConfigFault.TheVariants.{NoMemory}
use Rattle.nvme_spec.specs.Configuration.{Capacity, capacity, config_fault}
use Rattle.nvme_medium.specs.Memory.{whole_blocks}
use Rattle.nvme_library.specs.Opening.{IsFault, OpensOver, OpensWithout, fault_number}
use Rattle.nvme_library.specs.OpeningResults.{OpeningsAreRefused, OpeningsCanSucceed, OpenOnesHaveTheirMedium}

pub openings_can_succeed : OpeningsCanSucceed
openings_can_succeed = record {
  over_bytes = λ most c bytes lent new is. (refl, is);
  over_disk = λ most c disk new is. (refl, is);
  no_memory = λ most c bytes lent. (NoMemory, refl, inr refl);
}

-- the fault of a configuration that has none
without-fault : (found : Option ConfigFault) (fault : ConfigFault) → found ≡ None
    → (found ≡ Some fault) ⊎ (fault ≡ NoMemory) → fault ≡ NoMemory
without-fault found fault fine (inl h) = absurd (none-some fault (sym fine ∙ h))
without-fault found fault fine (inr h) = h

pub openings_are_refused : OpeningsAreRefused
openings_are_refused = record {
  older = λ held new most c bytes lent answer h. h;
  newer = λ held new most c disk answer h. h;
  open_over_bytes = λ old new most c bytes lent answer h. h;
  open_over_disk = λ old new most c disk answer h. h;
  accepted = λ most c bytes lent answer fine h.
      let size : Capacity = capacity most (length bytes / 512) in
      let p : (fault : ConfigFault) × (answer ≡ fault_number fault) × IsFault c size fault = h in
      p.1 ∙ ap fault_number (without-fault (config_fault c size) p.0 fine p.2);
}

pub open_ones_have_their_medium : OpenOnesHaveTheirMedium
open_ones_have_their_medium = record {
  over_bytes = λ most c bytes lent answer new h.
      let p : (answer ≡ 0) × OpensOver c (whole_blocks bytes) (capacity most (length bytes / 512)) lent new = h in
      (p.0, p.1.over);
  over_disk = λ most c disk answer new h.
      let p : (answer ≡ 0) × OpensWithout c disk.content.bytes (capacity most disk.blocks) new = h in
      (p.0, p.1.unfailed);
  returned = λ s bytes h. h;
}
