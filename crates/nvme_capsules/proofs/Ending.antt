-- For `refused_keeps`: refusals change nothing, and nothing comes after the end.
use Rattle.std.proofs.Common.{◌≡◌, Bool, List, [], ◌∷◌, ◌++◌, Result, refl, ap, sym, ◌∙◌}
use Rattle.std.proofs.lemmas.List.{append-nil}
use Rattle.nvme_responses.specs.declared.refused.Refused.{Refused}
use Rattle.nvme_responses.specs.declared.stage.Stage.{Stage}
use Rattle.nvme_responses.specs.declared.stage.Stage.TheVariants as stage
use Rattle.nvme_responses.specs.Responses.{accepted_by, with_command}
use Rattle.nvme_responses.specs.Runs as responses
use Rattle.nvme_responses.proofs.Ending.{Closed, ended-closed, stays-closed}
use Rattle.nvme_transfers.specs.declared.part.Part.{Part}
use Rattle.nvme_transfers.specs.Transfers.{after_part, after_request, ended}
use Rattle.nvme_transfers.specs.Runs as transfers
use Rattle.nvme_transfers.specs.Runs.{completes}
use Rattle.nvme_transfers.proofs.Ending.{none-whole}
use Rattle.nvme_transfers.proofs.Ordered.{stays-ended}
use Rattle.nvme_capsules.specs.declared.capsule.Capsule.{Capsule}
use Rattle.nvme_capsules.specs.declared.connect_stage.ConnectStage.{ConnectStage}
use Rattle.nvme_capsules.specs.declared.outcome.Outcome.TheVariants as outcome
use Rattle.nvme_capsules.specs.Capsules.{cid_of}
use Rattle.nvme_capsules.specs.Outcomes.{out_of_sequence, planned, settled, transfers_after}
use Rattle.nvme_capsules.specs.Laws.{EndIsFinal, NoRoomKeeps}
use Rattle.nvme_capsules.specs.Runs.{
  Brings,
  Call,
  Comes,
  Connects,
  Ends,
  Forgets,
  Requests,
  Responds,
  State,
  Stops,
  after,
  planned_at,
  ready,
  ready_if,
  readies,
  refused,
  refused_if,
  refuses,
  sound,
  state_after,
  transfer_calls,
  unsound,
}
use Rattle.nvme_capsules.proofs.Projections.{same-transfers}

-- ---- a command that the queue has no room for

abbrev with-result : State → ConnectStage → Capsule → Result Bool Refused → State
with-result s now c r = record {
  responses = with_command r s.responses (cid_of c.entry);
  transfers = transfers_after s.transfers (planned r now c) c;
}

pub no-room-keeps : NoRoomKeeps
no-room-keeps s now c e h = ap (with-result s now c) h

-- ---- after the end

record IsClosed (s : State) : Type 0 where
  responses : Closed s.responses.stage
  transfers : s.transfers ≡ ended

none-planned : (s : State) (now : ConnectStage) (c : Capsule) → Closed s.responses.stage
    → planned_at s now c ≡ outcome.Breaks out_of_sequence
none-planned s now c h = by s.responses.stage h where
  by : (g : Stage) → Closed g
      → planned (accepted_by g s.responses (cid_of c.entry)) now c ≡ outcome.Breaks out_of_sequence
  by stage.Open h = absurd h
  by stage.Ending h = refl
  by stage.Ended h = refl

stays : (s : State) (call : Call) → IsClosed s → IsClosed (after s call)
stays s (Comes now c) h = record {
  responses = stays-closed s.responses (responses.Accepts (cid_of c.entry)) h.responses;
  transfers = ap (λ o. transfers_after s.transfers o c) (none-planned s now c h.responses) ∙ h.transfers;
}
stays s (Brings p) h = record {
  responses = h.responses;
  transfers = ap (λ t. after_part t p) h.transfers ∙ stays-ended (transfers.Takes p);
}
stays s Requests h = record {
  responses = h.responses;
  transfers = ap after_request h.transfers ∙ stays-ended transfers.Requests;
}
stays s (Responds r) h = record {
  responses = stays-closed s.responses (responses.Responds r) h.responses;
  transfers = h.transfers;
}
stays s (Forgets cid) h = record { responses = h.responses; transfers = h.transfers }
stays s (Connects sqsize disabled) h = record { responses = h.responses; transfers = h.transfers }
stays s Ends h = record { responses = ended-closed s.responses.stage; transfers = refl }
stays s Stops h = record { responses = tt; transfers = refl }

closed-after : (later run : List Call) → IsClosed (state_after run) → IsClosed (state_after (later ++ run))
closed-after [] run h = h
closed-after (call ∷ later) run h = stays (state_after (later ++ run)) call (closed-after later run h)

none-complete : (run : List Call) (p : Part) → IsClosed (state_after run)
    → completes (transfer_calls run) (transfers.Takes p) ≡ []
none-complete run p h = none-whole (transfer_calls run) (transfers.Takes p) (sym (same-transfers run) ∙ h.transfers)

none-ready : (run : List Call) (call : Call) → IsClosed (state_after run) → readies run call ≡ []
none-ready run (Comes now c) h =
    ap (λ o. ready_if (settled (state_after run).transfers o c) c) (none-planned (state_after run) now c h.responses)
none-ready run (Brings p) h = ap sound (none-complete run p h)
none-ready run Requests h = refl
none-ready run (Responds r) h = refl
none-ready run (Forgets cid) h = refl
none-ready run (Connects sqsize disabled) h = refl
none-ready run Ends h = refl
none-ready run Stops h = refl

none-refused : (run : List Call) (call : Call) → IsClosed (state_after run) → refuses run call ≡ []
none-refused run (Comes now c) h =
    ap (λ o. refused_if (settled (state_after run).transfers o c) c) (none-planned (state_after run) now c h.responses)
none-refused run (Brings p) h = ap unsound (none-complete run p h)
none-refused run Requests h = refl
none-refused run (Responds r) h = refl
none-refused run (Forgets cid) h = refl
none-refused run (Connects sqsize disabled) h = refl
none-refused run Ends h = refl
none-refused run Stops h = refl

no-more-ready : (later run : List Call) → IsClosed (state_after run) → ready (later ++ run) ≡ ready run
no-more-ready [] run h = refl
no-more-ready (call ∷ later) run h =
    ap (λ xs. ready (later ++ run) ++ xs) (none-ready (later ++ run) call (closed-after later run h))
    ∙ append-nil (ready (later ++ run)) ∙ no-more-ready later run h

no-more-refused : (later run : List Call) → IsClosed (state_after run) → refused (later ++ run) ≡ refused run
no-more-refused [] run h = refl
no-more-refused (call ∷ later) run h =
    ap (λ xs. refused (later ++ run) ++ xs) (none-refused (later ++ run) call (closed-after later run h))
    ∙ append-nil (refused (later ++ run)) ∙ no-more-refused later run h

pub end-is-final : EndIsFinal
end-is-final later run =
    let closed : IsClosed (state_after (Ends ∷ run)) =
    record { responses = ended-closed (state_after run).responses.stage; transfers = refl } in
    record {
      ready_then = no-more-ready later (Ends ∷ run) closed ∙ append-nil (ready run);
      refused_then = no-more-refused later (Ends ∷ run) closed ∙ append-nil (refused run);
    }
