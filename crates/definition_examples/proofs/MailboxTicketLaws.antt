-- For `mailbox_ticket_laws.rt`: tickets of results, and what is known of each ticket after a run.
use Rattle.std.specs.Prelude.{◌+◌, ◌≤◌, ℕ, List}
use Rattle.nvme_mailbox.specs.Mailboxes.{Mailbox}
use Rattle.nvme_mailbox.specs.Tickets.{total, times, held_tickets, answered_tickets, Balance, GoesOnce}

pub mailbox_balanced_tickets_answered : (weight : ℕ → ℕ) → (before after : Mailbox)
    → (given executed done aborted : List ℕ) → Balance weight before after given executed done aborted
    → total weight (answered_tickets after) + total weight done
    ≤ total weight (answered_tickets before) + total weight executed
mailbox_balanced_tickets_answered weight before after given executed done aborted x = x.answered

pub mailbox_single_tickets_given : (t : ℕ) → (m : Mailbox) → (given executed done aborted : List ℕ)
    → GoesOnce t m given executed done aborted → times t given ≤ 1
mailbox_single_tickets_given t m given executed done aborted x = x.given_once

pub mailbox_single_tickets_executed : (t : ℕ) → (m : Mailbox) → (given executed done aborted : List ℕ)
    → GoesOnce t m given executed done aborted → times t executed ≤ 1
mailbox_single_tickets_executed t m given executed done aborted x = x.executed_once

pub mailbox_single_tickets_delivered : (t : ℕ) → (m : Mailbox) → (given executed done aborted : List ℕ)
    → GoesOnce t m given executed done aborted → times t (held_tickets m) + times t done + times t aborted ≤ 1
mailbox_single_tickets_delivered t m given executed done aborted x = x.handed_up_once

pub mailbox_single_tickets_kept : (t : ℕ) → (m : Mailbox) → (given executed done aborted : List ℕ)
    → GoesOnce t m given executed done aborted → times t given
    ≤ times t (held_tickets m) + times t done + times t aborted
mailbox_single_tickets_kept t m given executed done aborted x = x.kept
