-- Words of lines, and why lines are refused, for worked examples of the grammar.
use Rattle.std.specs.Prelude.{ℕ, None, codes}
use Rattle.nvme_grammar.specs.Lent.{lent}
use Rattle.nvme_grammar.specs.declared.fault.LineFault.{LineFault}
use Rattle.nvme_grammar.specs.declared.fault.Why.{Why}
use Rattle.nvme_grammar.specs.declared.fault.Why.TheVariants.{Byte, Unknown, Count, Misfit, TooEarly, TooLate}
use Rattle.nvme_grammar.specs.declared.keyword.Keyword.TheVariants.{
  Attach,
  Fetch,
  Namespace,
  PowerCycle,
  Start,
  Up,
}
use Rattle.nvme_grammar.specs.declared.place.Operand.TheVariants as operand
use Rattle.nvme_grammar.specs.declared.place.Place.{Place}
use Rattle.nvme_grammar.specs.declared.place.Place.TheVariants.{
  Number,
  Iekey,
  Host,
  Blocks,
  Sharing,
  Raw,
  Data,
  Bytes,
}

-- the places of words
abbrev pub word_cntlid : Place
word_cntlid = Number operand.Cntlid

abbrev pub word_queue : Place
word_queue = Number operand.Queue

abbrev pub word_index : Place
word_index = Number operand.Index

abbrev pub word_slba : Place
word_slba = Number operand.Slba

abbrev pub word_host_number : Place
word_host_number = Number operand.Host

abbrev pub word_iekey : Place
word_iekey = Iekey

abbrev pub word_host : Place
word_host = Host

abbrev pub word_blocks : Place
word_blocks = Blocks

abbrev pub word_sharing : Place
word_sharing = Sharing

abbrev pub word_raw : Place
word_raw = Raw

abbrev pub word_data : Place
word_data = Data

abbrev pub word_bytes : Place
word_bytes = Bytes

-- why a line is refused
abbrev pub refusal_byte : Why
refusal_byte = Byte 7

abbrev pub refusal_misfit : Why
refusal_misfit = Misfit 3 Host (lent (codes "hots"))

abbrev pub refusal_count_one : Why
refusal_count_one = Count PowerCycle

abbrev pub refusal_count : Why
refusal_count = Count Fetch

abbrev pub refusal_early : Why
refusal_early = TooEarly Up

abbrev pub refusal_early_attach : Why
refusal_early_attach = TooEarly Attach

abbrev pub refusal_late : Why
refusal_late = TooLate Namespace

abbrev pub refusal_late_start : Why
refusal_late_start = TooLate Start

-- a refusal with its column
abbrev pub byte_fault : ℕ → ℕ → LineFault
byte_fault column byte = record { column = column; why = Byte byte }

abbrev pub number_fault : ℕ → LineFault
number_fault column = record { column = column; why = Misfit 3 (Number operand.Nsid) (lent (codes "x")) }

abbrev pub unknown_fault : ℕ → LineFault
unknown_fault column = record { column = column; why = Unknown (lent (codes "go")) None }

abbrev pub count_fault : ℕ → LineFault
count_fault column = record { column = column; why = refusal_count }

abbrev pub early_up_fault : ℕ → LineFault
early_up_fault column = record { column = column; why = refusal_early }

abbrev pub late_fault : ℕ → LineFault
late_fault column = record { column = column; why = refusal_late_start }
