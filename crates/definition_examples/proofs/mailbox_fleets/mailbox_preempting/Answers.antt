use Rattle.definition_examples.proofs.MailboxFleets.{mailbox_preempting_command}
use Rattle.definition_examples.proofs.mailbox_fleets.mailbox_preempting.Goals as goal

pub returns : goal.returns
returns c = record { command = mailbox_preempting_command }
