-- For the answers of `run_ready` and of sessions: the fleet of a script that was read, and what the refusal of its
-- configuration implies.
use Rattle.std.proofs.Common.{◌≡◌, ◌≤◌, ℕ, false, length, List, Option, Some, None, refl, sym, arith}
use Rattle.std.specs.Prelude.{unwrap_or, is_some}
use Rattle.std.specs.List.{list_any}
use Rattle.std.proofs.lemmas.Bool.{le-ltb}
use Rattle.nvme_spec.specs.declared.config.ConfigFault.{ConfigFault}
use Rattle.nvme_spec.specs.Configuration.{Capacity, config_fault, empty_configuration}
use Rattle.nvme_spec.specs.declared.config.ConfigFault.TheVariants as fault_of
use Rattle.nvme_spec.specs.declared.config.ConfigFault.TheVariants.{NoMemory as WantOfMemory}
use Rattle.nvme_ns.specs.Configured.{configuration}
use Rattle.script_text.specs.Lines.{text_lines}
use Rattle.script_text.specs.Reading.{longest}
use Rattle.nvme_grammar.specs.declared.line.Line.{Line}
use Rattle.nvme_grammar.specs.declared.script.Script.{Script}
use Rattle.nvme_grammar.specs.Script.{said, Says, is_start, start_in, configuration_in, configuration_of}
use Rattle.nvme_grammar.specs.LineFaults.{IsParseFault}
use Rattle.nvme_grammar.specs.declared.script.ParseFault.{ParseFault}
use Rattle.nvme_grammar.specs.declared.script.ParseFault.TheVariants.{Syntax, NoMemory}
use Rattle.nvme_grammar.proofs.ReadingLemmas.{started}
use Rattle.nvme_program.specs.declared.fault.ScriptFault.TheVariants.{Config}
use Rattle.nvme_program.specs.FaultKinds.{of_grammar, of_opening}
use Rattle.nvme_script.specs.Faults.{IsScript, IsReady, IsEarlyFault}

pub same_configuration : (raw : List (List ℕ)) (script : Script)
    → Says (said raw) script → configuration script.config ≡ configuration_of raw
same_configuration raw script says =
    λ i. record { controllers = says.controllers i; namespaces = says.namespaces i; attached = says.attached i }

-- a script that was read, and whose configuration is accepted
pub accepted_script : (text : List ℕ) (size : Capacity) (script : Script)
    → IsReady text script → config_fault (configuration script.config) size ≡ None → IsScript text size
accepted_script text size script ready accepted =
    let same = same_configuration (text_lines text) script ready.says in record {
      short = ready.short;
      grammar = ready.grammar;
      accepted = rw same at accepted;
    }

-- the empty configuration has no fault
empty_accepted : (size : Capacity) → config_fault empty_configuration size ≡ None
unfolding config_fault
empty_accepted size = rw (le-ltb size.medium 0 (omega arith)) refl

-- a fault is that of a configuration with `start`
started_line : (lines : List Line) (size : Capacity) (fault : ConfigFault)
    → config_fault (configuration_in lines) size ≡ Some fault → start_in lines ≡ Some (unwrap_or (start_in lines) 0)
started_line lines size fault h = by (start_in lines) (started lines)
  where
    by : (o : Option ℕ) → is_some o ≡ list_any is_start lines → o ≡ Some (unwrap_or o 0)
    by (Some n) e = refl
    by None e =
        let not_started : list_any is_start lines ≡ false = sym e in
        let accepted : config_fault (configuration_in lines) size ≡ None = rw not_started (empty_accepted size) in
        absurd (cc)

-- what a fleet's refusal implies for the text
pub refused_script : (text : List ℕ) (size : Capacity) (script : Script) (fault : ConfigFault) → IsReady text script
    → fault ≡ unwrap_or (config_fault (configuration script.config) size) WantOfMemory
    → IsEarlyFault (of_opening script.start fault) text size
refused_script text size script fault ready is = by (config_fault (configuration script.config) size) refl is
  where
    told : (f : ConfigFault) → config_fault (configuration_of (text_lines text)) size ≡ Some f
        → IsEarlyFault (Config (unwrap_or script.start 0) f) text size
    told f here =
        (ready.short, ready.grammar, rw ready.says.start (started_line (said (text_lines text)) size f here), here)

    of : (f : ConfigFault) → config_fault (configuration_of (text_lines text)) size ≡ Some f
        → IsEarlyFault (of_opening script.start f) text size
    of fault_of.BadId here = told fault_of.BadId here
    of fault_of.BadSize here = told fault_of.BadSize here
    of fault_of.TooMany here = told fault_of.TooMany here
    of fault_of.DoesNotFit here = told fault_of.DoesNotFit here
    of fault_of.NoMemory here = tt

    by : (o : Option ConfigFault) → config_fault (configuration script.config) size ≡ o
        → fault ≡ unwrap_or o WantOfMemory → IsEarlyFault (of_opening script.start fault) text size
    by None e k = rw k tt
    by (Some f) e k =
        let same = same_configuration (text_lines text) script ready.says in
        rw k (of f (rw same at e))

-- what a refusal of the grammar implies for the text
pub grammar_fault : (text : List ℕ) (size : Capacity) (fault : ParseFault)
    → length text ≤ longest → IsParseFault (text_lines text) fault → IsEarlyFault (of_grammar fault) text size
grammar_fault text size (Syntax n line) short is = (short, is.0)
grammar_fault text size NoMemory short is = tt
