use Rattle.nvme_medium.proofs.CallLaws.{calls-behind, calls-within, writes_and_flushes_go_on}
use Rattle.nvme_medium.proofs.laws.cached_calls_go_on.Goals as goal

pub returns-clause-behind : goal.returns-clause-behind
returns-clause-behind g c =
    λ old new calls made. calls-behind g.M.Medium.step (λ m. m.kept) (λ m. m.inner) old new calls made

pub returns-clause-changes : goal.returns-clause-changes
returns-clause-changes g c = writes_and_flushes_go_on

pub returns-clause-bounded : goal.returns-clause-bounded
returns-clause-bounded g c =
    λ old new calls made. calls-within g.M.Medium.step (λ m. m.kept) (λ m. m.inner) (λ m. m.fits.1) old new calls made
