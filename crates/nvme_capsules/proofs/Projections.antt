-- The commands of a connection are those of its calls on responses and on data.
use Rattle.std.proofs.Common.{◌≡◌, List, [], ◌∷◌, refl, ap}
use Rattle.nvme_responses.specs.Responses.{
  after_accept,
  after_connect,
  after_end,
  after_forget,
  after_respond,
  after_stop,
}
use Rattle.nvme_responses.specs.Runs as responses
use Rattle.nvme_transfers.specs.States.{State as Transfers}
use Rattle.nvme_transfers.specs.Transfers.{after_begin, after_part, after_request}
use Rattle.nvme_transfers.specs.Runs as transfers
use Rattle.nvme_capsules.specs.declared.capsule.Capsule.{Capsule}
use Rattle.nvme_capsules.specs.declared.outcome.Outcome.{Outcome}
use Rattle.nvme_capsules.specs.declared.outcome.Outcome.TheVariants as outcome
use Rattle.nvme_capsules.specs.Capsules.{cid_of}
use Rattle.nvme_capsules.specs.Outcomes.{command_of, transfers_after}
use Rattle.nvme_capsules.specs.Runs.{
  Brings,
  Call,
  Comes,
  Connects,
  Ends,
  Forgets,
  Requests,
  Responds,
  Stops,
  after,
  begins,
  planned_at,
  response_calls,
  state_after,
  transfer_calls,
}

pub same-responses : (run : List Call) → (state_after run).responses ≡ responses.state_after (response_calls run)
same-responses [] = refl
same-responses (call ∷ run) = by call (same-responses run) where
  by : (call : Call) → (state_after run).responses ≡ responses.state_after (response_calls run)
      → (after (state_after run) call).responses ≡ responses.state_after (response_calls (call ∷ run))
  by (Comes now c) h = ap (λ s. after_accept s (cid_of c.entry)) h
  by (Brings p) h = h
  by Requests h = h
  by (Responds r) h = ap (λ s. after_respond s r) h
  by (Forgets cid) h = ap (λ s. after_forget s cid) h
  by (Connects sqsize disabled) h = ap (λ s. after_connect s sqsize disabled) h
  by Ends h = ap after_end h
  by Stops h = ap after_stop h

same-begins : (o : Outcome) (c : Capsule) (t : Transfers) (calls : List transfers.Call)
    → t ≡ transfers.state_after calls → transfers_after t o c ≡ transfers.state_after (begins o c calls)
same-begins (outcome.Breaks fatal) c t calls h = h
same-begins (outcome.Refused status) c t calls h = h
same-begins (outcome.Waits bytes) c t calls h = ap (λ s. after_begin s (command_of c bytes)) h
same-begins (outcome.Ready d) c t calls h = h

pub same-transfers : (run : List Call) → (state_after run).transfers ≡ transfers.state_after (transfer_calls run)
same-transfers [] = refl
same-transfers (call ∷ run) = by call (same-transfers run) where
  by : (call : Call) → (state_after run).transfers ≡ transfers.state_after (transfer_calls run)
      → (after (state_after run) call).transfers ≡ transfers.state_after (transfer_calls (call ∷ run))
  by (Comes now c) h =
      same-begins (planned_at (state_after run) now c) c (state_after run).transfers (transfer_calls run) h
  by (Brings p) h = ap (λ s. after_part s p) h
  by Requests h = ap after_request h
  by (Responds r) h = h
  by (Forgets cid) h = h
  by (Connects sqsize disabled) h = h
  by Ends h = refl
  by Stops h = refl
