-- For `refused_keeps`: nothing happens after the end.
use Rattle.std.proofs.Common.{◌≡◌, List, [], ◌∷◌, ◌++◌, refl, ap, ◌∙◌}
use Rattle.std.proofs.lemmas.List.{append-nil}
use Rattle.nvme_transfers.specs.Transfers.{ended, taken_by, taken}
use Rattle.nvme_transfers.specs.Runs.{
  Call,
  Begins,
  Requests,
  Takes,
  Ends,
  after,
  state_after,
  begins,
  begun,
  asks,
  requested,
  part_if,
  takes,
  parts,
  parts_at,
  whole_if,
  completes,
  complete,
}
use Rattle.nvme_transfers.specs.Laws.{IsOver, EndIsFinal}
use Rattle.nvme_transfers.proofs.Ordered.{no-transfer, stays-ended}

none-begins : (call : Call) → begins ended call ≡ []
none-begins (Begins c) = refl
none-begins Requests = refl
none-begins (Takes p) = refl
none-begins Ends = refl

none-asked : (call : Call) → asks ended call ≡ []
none-asked (Begins c) = refl
none-asked Requests = refl
none-asked (Takes p) = refl
none-asked Ends = refl

none-taken : (call : Call) → takes ended call ≡ []
none-taken (Begins c) = refl
none-taken Requests = refl
none-taken (Takes p) = ap (λ o. part_if (taken_by o p) p) (no-transfer p.tag)
none-taken Ends = refl

pub none-whole : (run : List Call) (call : Call) → state_after run ≡ ended → completes run call ≡ []
none-whole run (Begins c) over = refl
none-whole run Requests over = refl
none-whole run (Takes p) over =
    ap (λ s. whole_if (taken s p) p (parts_at run p.tag)) over
    ∙ ap (λ o. whole_if (taken_by o p) p (parts_at run p.tag)) (no-transfer p.tag)
none-whole run Ends over = refl

one-more : (call : Call) (later run : List Call) → IsOver later run → IsOver (call ∷ later) run
one-more call later run h = record {
  state = ap (λ s. after s call) h.state ∙ stays-ended call;
  begun_then = ap (λ s. begun (later ++ (Ends ∷ run)) ++ begins s call) h.state
      ∙ ap (λ xs. begun (later ++ (Ends ∷ run)) ++ xs) (none-begins call)
      ∙ append-nil (begun (later ++ (Ends ∷ run))) ∙ h.begun_then;
  requested_then = ap (λ s. requested (later ++ (Ends ∷ run)) ++ asks s call) h.state
      ∙ ap (λ xs. requested (later ++ (Ends ∷ run)) ++ xs) (none-asked call)
      ∙ append-nil (requested (later ++ (Ends ∷ run))) ∙ h.requested_then;
  parts_then = ap (λ s. parts (later ++ (Ends ∷ run)) ++ takes s call) h.state
      ∙ ap (λ xs. parts (later ++ (Ends ∷ run)) ++ xs) (none-taken call)
      ∙ append-nil (parts (later ++ (Ends ∷ run))) ∙ h.parts_then;
  complete_then = ap (λ xs. complete (later ++ (Ends ∷ run)) ++ xs)
      (none-whole (later ++ (Ends ∷ run)) call h.state)
      ∙ append-nil (complete (later ++ (Ends ∷ run))) ∙ h.complete_then;
}

pub end-is-final : EndIsFinal
end-is-final [] run = record {
  state = refl;
  begun_then = append-nil (begun run);
  requested_then = append-nil (requested run);
  parts_then = append-nil (parts run);
  complete_then = append-nil (complete run);
}
end-is-final (call ∷ later) run = one-more call later run (end-is-final later run)
