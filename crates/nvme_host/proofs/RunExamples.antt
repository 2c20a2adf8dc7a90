-- Proofs of the computed runs of the laws on tickets.
use Rattle.std.proofs.Common.{
  ◌≡◌,
  ℕ,
  zero,
  suc,
  true,
  false,
  List,
  [],
  ◌∷◌,
  length,
  take,
  Option,
  Some,
  None,
  Ok,
  refl,
  sym,
  ap,
  subst,
  ◌∙◌,
  arith,
}
use Rattle.std.specs.Prelude.{replicate, if◌then◌else◌}
use Rattle.nvme_wire.specs.Submission.{submission_entry}
use Rattle.nvme_wire.specs.Submission as entry
use Rattle.nvme_wire.specs.Completion.{sq_head, sq_id, cid, phase, status, dw0}
use Rattle.nvme_driver.specs.Pointers.{page_entries}
use Rattle.nvme_driver.specs.declared.answer.Answer.TheVariants.{Done, Aborted}
use Rattle.nvme_driver.specs.declared.slots.Waiting.{Waiting}
use Rattle.nvme_driver.specs.declared.ticket.Ticket.{Ticket}
use Rattle.nvme_driver.specs.Layout.{data_area, list_page}
use Rattle.nvme_driver.specs.Polls.{IsOldest, IsNotBelow, aborted_at, aborted_ticket}
use Rattle.nvme_host.specs.declared.open_driver.OpenDriver.{OpenDriver}
use Rattle.nvme_host.specs.declared.recording_port.RecordingPort.{RecordingPort}
use Rattle.nvme_host.specs.Calls.{TakingActions}
use Rattle.nvme_host.specs.Recording.{IsSamePort, after_store, after_register, with_actions}
use Rattle.nvme_host.specs.RunExamples.{
  idle,
  flushing,
  flushed,
  reset,
  disabled,
  aborted,
  answered,
  delivered,
  expired,
  AFlushExpires,
  ResetAbortsAFlush,
  WithoutAResetItIsDone,
  WithoutIdlenessNoneGaveIt,
}

itself : (p : RecordingPort) → IsSamePort p p
itself p = record {
  window = refl;
  actions = refl;
  doorbells = refl;
  stride = refl;
  reports = refl;
  reports_read = refl;
  need = refl;
  handed_out = refl;
}

abbrev ticket : Ticket
ticket = record { 0 = 7 }

-- all actions are taken
takes-all : (h : OpenDriver)
    → TakingActions h h.port.actions.items (length h.port.actions.items) h.port.actions.items
    (record h { port = with_actions h.port [] })
takes-all h = record {
  taken = λ fits. (refl, all h.port.actions.items, refl, itself (with_actions h.port []));
  refused = λ short. absurd (omega (arith, short));
  kept = refl;
}
  where
    all : {A : Type 0} (xs : List A) → take (length xs) xs ≡ xs
    all [] = refl
    all (x ∷ xs) = ap (λ ys. x ∷ ys) (all xs)

none-aborted : (n k : ℕ) → aborted_at (replicate n None) k ≡ None
none-aborted zero k = refl
none-aborted (suc n) zero = refl
none-aborted (suc n) (suc k) = none-aborted n k

first-aborted : (w : Waiting) → w.ticket ≡ ticket → w.live ≡ false → IsOldest (Some w ∷ replicate 23 None) (Some 0)
first-aborted w is gone =
    (ticket, is-first, λ k. below k)
  where
    is-first : aborted_ticket (Some w) ≡ Some ticket
    is-first = ap (λ b. if b then None else Some w.ticket) gone ∙ ap (λ (t : Ticket). Some t) is

    below : (k : ℕ) → IsNotBelow ticket (aborted_at (Some w ∷ replicate 23 None) k)
    below zero = subst (λ (o : Option Ticket). IsNotBelow ticket o) (sym is-first) (omega arith)
    below (suc k) = subst (λ (o : Option Ticket). IsNotBelow ticket o) (sym (none-aborted 23 k)) tt

no-aborted : (w : Waiting) → w.live ≡ true → IsOldest (Some w ∷ replicate 23 None) None
no-aborted w live zero = ap (λ b. if b then None else Some w.ticket) live
no-aborted w live (suc k) = none-aborted 23 k

-- the port after the first store, and after the second one
abbrev one : RecordingPort
one = after_store idle.port (data_area 0) []

abbrev two : RecordingPort
two = after_store one (list_page 0) []

pub reset_aborts_a_flush : ResetAbortsAFlush
unfolding submission_entry page_entries entry.opcode entry.cid entry.nsid entry.prp1 entry.prp2 entry.cdw10
    entry.cdw11 entry.cdw12 entry.cdw13 entry.cdw14 entry.cdw15
reset_aborts_a_flush = (
  refl,
  (
    flushing,
    _,
    _,
    (
      record { ticket = 7; code = 0 },
      record {
        result = Ok ticket;
        gives = refl;
        refused = tt;
        unchanged = tt;
        issued = (refl, refl);
        placed = (0, refl, refl, (_, itself one, (_, itself two, (_, itself flushing.port, refl))));
        holds = (
          0,
          refl,
          record {
            window = refl;
            says = refl;
            data_there = refl;
            pointer = λ some. absurd (omega (arith, some));
          },
        );
        stage = refl;
        capabilities = refl;
        facts = refl;
      },
      refl,
    ),
    refl,
    (flushed, _, _, ((_, _, _, takes-all flushing), refl), refl, (refl, refl)),
  ),
  record {
    gives = refl;
    driver = refl;
    mid = after_register flushed.port 0x14 0;
    calls = (after_register flushed.port 0x14 0, itself _, refl);
    port = itself reset.port;
    stage = refl;
    capabilities = refl;
    facts = refl;
  },
  (
    disabled,
    _,
    _,
    ((_, _, _, takes-all reset), refl),
    refl,
    (
      aborted,
      _,
      _,
      (
        [],
        _,
        [],
        record {
          answer = Ok (Some (Aborted ticket));
          gives = refl;
          polled = (Some 0, first-aborted _ refl refl, refl, refl, refl, refl);
          behind = refl;
          facts = refl;
          stage = refl;
          capabilities = refl;
        },
        refl,
      ),
      refl,
      (refl, refl),
    ),
  ),
)

pub without_a_reset_it_is_done : WithoutAResetItIsDone
unfolding sq_head sq_id cid phase status dw0
without_a_reset_it_is_done = (
  answered,
  _,
  _,
  (
    [],
    _,
    [],
    record {
      answer = Ok (Some (Done ticket (record { sct = 0; sc = 0 }) 0 0));
      gives = refl;
      polled = (None, no-aborted _ refl, refl, refl, (answered.port, itself _, refl), refl);
      behind = refl;
      facts = refl;
      stage = refl;
      capabilities = refl;
    },
    refl,
  ),
  refl,
  (refl, refl),
)

pub without_idleness_none_gave_it : WithoutIdlenessNoneGaveIt
without_idleness_none_gave_it = (
  delivered,
  _,
  _,
  (
    [],
    _,
    [],
    record {
      answer = Ok (Some (Aborted ticket));
      gives = refl;
      polled = (Some 0, first-aborted _ refl refl, refl, refl, refl, refl);
      behind = refl;
      facts = refl;
      stage = refl;
      capabilities = refl;
    },
    refl,
  ),
  refl,
  (refl, refl),
)

pub a_flush_expires : AFlushExpires
a_flush_expires = (
  (refl, refl),
  (refl, refl),
  (expired, _, _, (record { ticket = 0; code = 65 }, (refl, refl), refl), refl, (refl, refl)),
)
