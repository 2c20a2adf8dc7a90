use Rattle.script_text.proofs.hex_number.+put_wide_hex.Given as goal

abbrev pub decreases-put_wide_hex : goal.decreases-put_wide_hex
decreases-put_wide_hex g l = l.number
