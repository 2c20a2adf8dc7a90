use Rattle.std.proofs.Common.{Err, refl}
use Rattle.library_text.specs.declared.putting.Unput.TheVariants.{NoMemory}
use Rattle.nvme_library.proofs.lines.nvmesim_configuration_lines.Goals as goal

pub returns-in-Err : goal.returns-in-Err
returns-in-Err c = (Err NoMemory, c.without.ensures, refl)
