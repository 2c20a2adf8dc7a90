-- The places of a line: their names, and the numbers that each takes.
use Rattle.std.specs.Prelude.{ℕ, zero, suc, ◌==◌, nat_le, Bool, true, List, ◌++◌, codes, Option, Some, None, is_some}
use Rattle.std.specs.Fmt.{decimal}
use Rattle.script_text.specs.Numbers.{number_at}
use Rattle.nvme_grammar.specs.declared.place.Operand.{Operand}
use Rattle.nvme_grammar.specs.declared.place.Operand.TheVariants as operand
use Rattle.nvme_grammar.specs.declared.place.Place.{Place}
use Rattle.nvme_grammar.specs.declared.place.Place.TheVariants.{Number, Iekey, Host, Blocks, Sharing, Raw, Data, Bytes}
use Rattle.nvme_grammar.specs.declared.place.Behind.{Behind}
use Rattle.nvme_grammar.specs.declared.place.Behind.TheVariants as behind

abbrev pub operand_name : Operand → List ℕ
operand_name operand.Cntlid = codes "C"
operand_name operand.Queue = codes "Q"
operand_name operand.Index = codes "I"
operand_name operand.Nsid = codes "N"
operand_name operand.AnyNsid = codes "NSID"
operand_name operand.Host = codes "H"
operand_name operand.Size = codes "B"
operand_name operand.Slba = codes "SLBA"
operand_name operand.Blocks = codes "BLOCKS"
operand_name operand.Dwords = codes "DWORDS"
operand_name operand.Action = codes "ACTION"
operand_name operand.Cptpl = codes "CPTPL"
operand_name operand.Rtype = codes "RTYPE"
operand_name operand.Cns = codes "CNS"
operand_name operand.State = codes "STATE"
operand_name operand.Crkey = codes "CRKEY"
operand_name operand.Nrkey = codes "NRKEY"
operand_name operand.Prkey = codes "PRKEY"
operand_name operand.Address = codes "ADDR"
operand_name operand.Offset = codes "OFF"
operand_name operand.Value = codes "V"

-- the width of an operand in bits
abbrev pub operand_bits : Operand → ℕ
operand_bits operand.Cntlid = 16
operand_bits operand.Queue = 16
operand_bits operand.Index = 16
operand_bits operand.Nsid = 32
operand_bits operand.AnyNsid = 32
operand_bits operand.Host = 128
operand_bits operand.Size = 64
operand_bits operand.Slba = 64
operand_bits operand.Blocks = 32
operand_bits operand.Dwords = 32
operand_bits operand.Action = 8
operand_bits operand.Cptpl = 8
operand_bits operand.Rtype = 8
operand_bits operand.Cns = 8
operand_bits operand.State = 8
operand_bits operand.Crkey = 64
operand_bits operand.Nrkey = 64
operand_bits operand.Prkey = 64
operand_bits operand.Address = 64
operand_bits operand.Offset = 64
operand_bits operand.Value = 32

-- whether a word is such a number
abbrev pub spells : Operand → List ℕ → Bool
spells operand word = is_some (number_at (operand_bits operand) word)

-- what may follow the words that each line of a keyword has: nothing, `raw` or nothing, or controllers
abbrev pub place_behind : Behind → ℕ → Option Place
place_behind behind.Nothing index = None
place_behind behind.Raw zero = Some Raw
place_behind behind.Raw (suc index) = None
place_behind behind.Controllers index = Some (Number operand.Cntlid)

-- whether this many words may follow
abbrev pub takes_behind : Behind → ℕ → Bool
takes_behind behind.Nothing words = words == 0
takes_behind behind.Raw words = nat_le words 1
takes_behind behind.Controllers words = true

-- a place in the form of a line
abbrev pub place_name : Place → List ℕ
place_name (Number operand) = operand_name operand
place_name Iekey = codes "IEKEY"
place_name Host = codes "host"
place_name Blocks = codes "blocks"
place_name Sharing = codes "shared|private"
place_name Raw = codes "[raw]"
place_name Data = codes "DATA"
place_name Bytes = codes "hex:DIGITS"

abbrev pub behind_name : Behind → List ℕ
behind_name behind.Nothing = codes ""
behind_name behind.Raw = codes " [raw]"
behind_name behind.Controllers = codes " C1 C2 .."

-- the kind of word for a place
abbrev pub wanted_text : Place → List ℕ
wanted_text (Number operand) = operand_name operand ++ codes ", a number below 2^" ++ decimal (operand_bits operand)
wanted_text Iekey = codes "IEKEY, 0 or 1"
wanted_text Host = codes "the word 'host'"
wanted_text Blocks = codes "the word 'blocks'"
wanted_text Sharing = codes "'shared' or 'private'"
wanted_text Raw = codes "'raw' or nothing"
wanted_text Data =
    codes "DATA, fill: and two hexadecimal digits, or hex: and pairs of them that BLOCKS have room for"
wanted_text Bytes = codes "hex: and pairs of hexadecimal digits"
