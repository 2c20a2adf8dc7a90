use Rattle.live_text.proofs.fault.WhySpell.spell.Goals as goal

pub returns-in-Looking : goal.returns-in-Looking
returns-in-Looking g c = rw (c.in-Looking.is, ← c.form.ensures) c.put_both.ensures

pub returns-in-BeforeStart : goal.returns-in-BeforeStart
returns-in-BeforeStart g c = rw c.in-BeforeStart.is c.put_str-in-BeforeStart.ensures

pub returns-in-NoController : goal.returns-in-NoController
returns-in-NoController g c = rw c.in-NoController.is c.put_str-in-NoController.ensures

pub returns-in-NoDriver : goal.returns-in-NoDriver
returns-in-NoDriver g c = rw c.in-NoDriver.is c.put_str-in-NoDriver.ensures

pub returns-in-NoNamespace : goal.returns-in-NoNamespace
returns-in-NoNamespace g c = rw c.in-NoNamespace.is c.put_str-in-NoNamespace.ensures

pub returns-in-OutsideNamespace : goal.returns-in-OutsideNamespace
returns-in-OutsideNamespace g c = rw c.in-OutsideNamespace.is c.put_str-in-OutsideNamespace.ensures
