use Rattle.std.proofs.Common.{refl}
use Rattle.nvme_library.proofs.examples.data_are_apart.Goals as goal

pub returns : goal.returns
returns c = record { none = refl; before = refl; after = refl; first = refl; last = refl; past = refl }
