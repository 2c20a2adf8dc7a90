-- Why lines of sessions are refused, for worked examples.
use Rattle.std.specs.Prelude.{None, Some, codes}
use Rattle.nvme_grammar.specs.Lent.{lent}
use Rattle.nvme_grammar.specs.declared.fault.Why.TheVariants.{Misfit}
use Rattle.nvme_grammar.specs.declared.place.Place.TheVariants.{Host}
use Rattle.live_text.specs.declared.fault.Why.{Why}
use Rattle.live_text.specs.declared.fault.Why.TheVariants as why
use Rattle.live_text.specs.declared.looking_word.LookingWord.TheVariants.{Window}

-- of the line as a whole
abbrev pub why_too_long : Why
why_too_long = why.TooLong

abbrev pub why_misfit : Why
why_misfit = why.Line (Misfit 3 Host (lent (codes "hots")))

abbrev pub why_query_form : Why
why_query_form = why.Looking Window

abbrev pub why_unlike : Why
why_unlike = why.NoLine (lent (codes "?who")) None

abbrev pub why_similar : Why
why_similar = why.NoLine (lent (codes "?windo")) (Some Window)

abbrev pub why_before_start : Why
why_before_start = why.BeforeStart

abbrev pub why_after_start : Why
why_after_start = why.BehindStart

abbrev pub why_medium_failed : Why
why_medium_failed = why.MediumFailed

-- of what a query names
abbrev pub why_no_controller : Why
why_no_controller = why.NoController

abbrev pub why_no_driver : Why
why_no_driver = why.NoDriver

abbrev pub why_no_namespace : Why
why_no_namespace = why.NoNamespace

abbrev pub why_long_text : Why
why_long_text = why.LongText

abbrev pub why_outside_window : Why
why_outside_window = why.OutsideWindow

abbrev pub why_outside_namespace : Why
why_outside_namespace = why.OutsideNamespace
