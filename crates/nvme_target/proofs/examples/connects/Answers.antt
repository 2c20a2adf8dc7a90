use Rattle.std.proofs.Common.{◌≡◌, ℕ, ◌+◌, true, false, Result, Ok, Err, ap, refl, arith}
use Rattle.nvme_fabrics.specs.declared.answer.Answer.{Answer}
use Rattle.nvme_fabrics.specs.declared.request.Request.{Request}
use Rattle.nvme_fabrics.specs.declared.session.Place.{Place}
use Rattle.nvme_fabrics.specs.declared.session.Place.TheVariants as place
use Rattle.nvme_fabrics.specs.Examples.{entry, any_of}
use Rattle.nvme_fabrics.specs.Requests.{request_fields}
use Rattle.nvme_target.proofs.ExampleSessions.{granted-2, refused-3}
use Rattle.nvme_target.proofs.examples.connects.Goals as goal

granted : (x y : Request × Place) → (o : Result (Request × Place) Answer) → o ≡ Ok x → o ≡ Ok y → x ≡ y
granted x y o one other = cc

places : (i j : ℕ) → place.Controller i ≡ place.Controller j → i ≡ j
places i j h = cc

neither : (o : Result (Request × Place) Answer) (a : Answer) (x : Request × Place) → o ≡ Err a → o ≡ Ok x → ⊥
neither o a x one other = absurd (cc)

pub returns-clause-own : goal.returns-clause-own
returns-clause-own c = record {
  request = request_fields (entry 0 31) (any_of 0xb2);
  index = 1;
  without_keys = refl;
  admits = granted-2;
  at = refl;
}

pub returns-clause-of_another : goal.returns-clause-of_another
returns-clause-of_another c q =
    let same = granted _ _ _ granted-2 q.admits in
    let here : 1 ≡ q.index = places 1 q.index (ap (λ (p : Request × Place). p.1) same) in
    let at : 1 ≡ q.index + 1 = q.at in omega (arith, here, at)

pub returns-clause-refused : goal.returns-clause-refused
returns-clause-refused c q = neither _ _ _ refused-3 q.admits

pub returns-clause-with_keys : goal.returns-clause-with_keys
returns-clause-with_keys c q = let keys : true ≡ false = q.without_keys in absurd (cc)
