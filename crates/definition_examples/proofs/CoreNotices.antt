-- For `core_notices.rt`: notices that a controller keeps for its host.
use Rattle.std.proofs.Common.{arith, ap}
use Rattle.std.specs.Prelude.{[], ◌∷◌, ◌≡◌, take}
use Rattle.nvme_notices.specs.declared.notice.Notice.{Notice}
use Rattle.nvme_notices.specs.declared.raw.RawNotices.{RawNotices}
use Rattle.nvme_notices.specs.Keeping.{notices_of}
use Rattle.nvme_notices.specs.Runs.{CountsRise}
use Rattle.std.specs.Prelude.{min}

pub core_kept_notices_most : (raw : RawNotices) → raw.kept ≡ 70 → (notices_of raw).kept ≡ take 64 raw.places
core_kept_notices_most raw many = ap (λ n. take (min n 64) raw.places) many

pub core_kept_notices_fewer : (raw : RawNotices) → raw.kept ≡ 3 → (notices_of raw).kept ≡ take 3 raw.places
core_kept_notices_fewer raw few = ap (λ n. take (min n 64) raw.places) few

pub core_notice_counts_rise : (n : Notice) → n.count ≡ 6 → CountsRise 5 (n ∷ []) 7
core_notice_counts_rise n six = (omega (arith, six), omega (arith, six))

pub core_notice_counts_equal : (n : Notice) → n.count ≡ 5 → CountsRise 5 (n ∷ []) 7 → ⊥
core_notice_counts_equal n five x = omega (arith, five, x.0)

pub core_notice_counts_above_last : (n : Notice) → n.count ≡ 8 → CountsRise 5 (n ∷ []) 7 → ⊥
core_notice_counts_above_last n eight x = omega (arith, eight, x.1)
