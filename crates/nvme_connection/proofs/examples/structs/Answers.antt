use Rattle.std.proofs.Common.{refl, arith}
use Rattle.nvme_connection.proofs.examples.structs.Goals as goal

pub returns : goal.returns
returns c = record {
  zeros = record {
    stage = refl;
    is_open = refl;
    agreed = refl;
    count = refl;
    kept = refl;
    laid = λ stage long. absurd (omega (arith, long));
    whole = λ stage. absurd (cc stage);
  };
  whole = refl;
  other = refl;
  bytes = refl;
  unknown = refl;
}
