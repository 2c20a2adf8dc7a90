-- For `examples/result_codes.rt`: what is known of a device after a question, and the code of a controller without RDY.
use Rattle.std.proofs.Common.{◌≡◌, ℕ, [], ◌∷◌, None, Some, refl}
use Rattle.nvme_host.specs.Examples.{facts}
use Rattle.nvme_host.specs.Facts.{asked, forgotten}
use Rattle.nvme_host.specs.Health.{health}

pub controller_unknown : (forgotten (facts 0) 0).controller ≡ None
controller_unknown = refl

pub namespace_unknown : (forgotten (facts 0) 1).namespaces ≡ None ∷ None ∷ None ∷ []
namespace_unknown = refl

pub question_noted : (asked (facts 0) 12 1).asked ≡ Some (record { ticket = 12; nsid = 1 })
question_noted = refl

pub reset_by_itself : health 0 ≡ 23
reset_by_itself = refl
