-- The sentence for each broken rule of a configuration.
use Rattle.std.specs.Prelude.{ℕ, List, ◌++◌, codes}
use Rattle.std.specs.Fmt.{decimal}
use Rattle.nvme_ns.specs.declared.refusal.BrokenRule.{BrokenRule}
use Rattle.nvme_ns.specs.declared.refusal.BrokenRule.TheVariants as broken
use Rattle.nvme_program.specs.declared.sentence.Sentence.{Sentence}
use Rattle.nvme_program.specs.declared.sentence.Sentence.TheVariants.{Plain, One, Two, Three}

-- a broken rule in a sentence
unfoldable pub rule_text : BrokenRule → List ℕ
rule_text broken.TooManyControllers = codes "this is controller 17; at most 16 are allowed"
rule_text broken.TooManyNamespaces = codes "this is the ninth namespace; at most 8 are allowed"
rule_text broken.TooManyAttachments = codes "this is attachment 129; at most 128 are allowed"
rule_text (broken.Misnumbered k cntlid) =
    codes "this must be controller " ++ decimal k ++ codes ", not " ++ decimal cntlid
    ++ codes ": controllers are numbered from 1"
rule_text (broken.NoHost cntlid) =
    codes "controller " ++ decimal cntlid ++ codes " has host 0, which is no host identifier"
rule_text (broken.ForeignNsid nsid) =
    codes "namespace " ++ decimal nsid ++ codes " is out of range: identifiers are 1 to 8"
rule_text (broken.RepeatedNsid nsid) = codes "namespace " ++ decimal nsid ++ codes " is defined twice"
rule_text (broken.UnknownController cntlid) = codes "controller " ++ decimal cntlid ++ codes " is not configured"
rule_text (broken.UnknownNamespace nsid) = codes "namespace " ++ decimal nsid ++ codes " is not configured"
rule_text (broken.RepeatedAttachment cntlid nsid) =
    codes "controller " ++ decimal cntlid ++ codes " is attached to namespace " ++ decimal nsid ++ codes " twice"
rule_text (broken.NotShared cntlid nsid) =
    codes "namespace " ++ decimal nsid ++ codes " is private, but controller " ++ decimal cntlid
    ++ codes " is the second that is attached to it"
rule_text (broken.NoBlocks nsid) = codes "namespace " ++ decimal nsid ++ codes " has no blocks"
rule_text (broken.TooLarge nsid blocks most) =
    codes "namespace " ++ decimal nsid ++ codes " has " ++ decimal blocks ++ codes " blocks; at most " ++ decimal most
    ++ codes " are allowed"
rule_text (broken.DoesNotFit nsid medium_blocks) =
    codes "namespace " ++ decimal nsid ++ codes " ends after the " ++ decimal medium_blocks
    ++ codes " blocks of the medium, on which namespaces follow one another"

-- the text of a sentence in parts
abbrev pub sentence_text : Sentence → List ℕ
sentence_text (Plain text) = text.now
sentence_text (One front number end) = front.now ++ decimal number ++ end.now
sentence_text (Two front first between second end) =
    front.now ++ decimal first ++ between.now ++ decimal second ++ end.now
sentence_text (Three front first after second last third end) =
    front.now ++ decimal first ++ after.now ++ decimal second ++ last.now ++ decimal third ++ end.now
