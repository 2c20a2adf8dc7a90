-- A lane of a mailbox, and an answer in it, for worked examples.
use Rattle.std.specs.Prelude.{[]}
use Rattle.nvme_spec.specs.Statuses.{successful_completion}
use Rattle.nvme_mailbox.specs.Mailboxes.{LaneBox, PostedAnswer}

-- nothing waits, five placed requests may not be fetched yet, and three were fetched since the last answer
abbrev pub mailbox_box : LaneBox
mailbox_box = record { placed = []; rung = []; posted = []; unheard = 5; since = 3 }

-- two requests were fetched before it
abbrev pub mailbox_answer : PostedAnswer
mailbox_answer = record { ticket = 9; status = successful_completion; dw0 = 0; bytes = []; step = 2 }
