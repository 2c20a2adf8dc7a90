use Rattle.script_text.proofs.DecodeLemmas.{Decoded}
use Rattle.script_text.proofs.decoding.decode.Given as goal

abbrev pub invariant-loop-i : goal.invariant-loop-i
invariant-loop-i l = Decoded l.digits l.bytes l.i l.good
