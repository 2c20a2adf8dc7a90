use Rattle.std.proofs.Common.{◌≡◌, ◌+◌, sym, ◌∙◌, refl, arith}
use Rattle.nvme_fabrics.specs.declared.session.Session.TheVariants as session
use Rattle.nvme_fabrics.specs.Examples.{entry, any_of}
use Rattle.nvme_fabrics.specs.Requests.{request_fields}
use Rattle.nvme_target.proofs.ExampleSessions.{waits-7, waits-8, fits-7, queue-7}
use Rattle.nvme_target.proofs.examples.proves.Goals as goal

pub returns-clause-own : goal.returns-clause-own
returns-clause-own c = record {
  request = request_fields (entry 0 31) (any_of 0xa1);
  index = 0;
  waits = waits-7;
  fits = fits-7;
  at = refl;
}

pub returns-clause-of_another : goal.returns-clause-of_another
returns-clause-of_another c p =
    let same : session.Authenticating (request_fields (entry 0 31) (any_of 0xa1)) 0
    ≡ session.Authenticating p.request p.index = sym waits-7 ∙ p.waits in
    let here : 0 ≡ p.index = cc in
    let at : 2 ≡ p.index + 1 = p.at in omega (arith, here, at)

pub returns-clause-not_this : goal.returns-clause-not_this
returns-clause-not_this c p =
    let same : session.NotConnected ≡ session.Authenticating p.request p.index = sym waits-8 ∙ p.waits in absurd (cc)

pub returns-clause-without_keys : goal.returns-clause-without_keys
returns-clause-without_keys c p =
    let same : session.Queue 0 0 ≡ session.Authenticating p.request p.index = sym queue-7 ∙ p.waits in absurd (cc)
