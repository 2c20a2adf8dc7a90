-- For `examples/looking_results.rt`: loads, reads of blocks and query lines.
use Rattle.std.proofs.Common.{◌≡◌, ◌⊎◌, ℕ, List, [], ◌∷◌, ◌++◌, Option, None, true, ap, subst, ◌∙◌, inl, inr}
use Rattle.std.specs.Prelude.{Result, replicate}
use Rattle.nvme_spec.specs.declared.medium.MediumFault.{MediumFault}
use Rattle.nvme_lent.specs.OwnOrLent.{step_of}
use Rattle.nvme_subsys.specs.Looking.{Looks, LooksBy, block_in}
use Rattle.nvme_subsys.specs.OverMedium.{over}
use Rattle.live_text.specs.Faults.{refusal}
use Rattle.live_text.specs.declared.asking.Asked.TheVariants.{Fails}
use Rattle.live_text.specs.declared.fault.Why.{Why}
use Rattle.nvme_library.specs.Holding.{Inside}
use Rattle.nvme_library.specs.Looking.{LoadsFrom, LooksAt, look_number}
use Rattle.nvme_library.specs.LookingLines.{AnswersIf, Says}
use Rattle.nvme_library.specs.LookingResults.{LinesHaveCodes, LoadsHaveCodes, LooksHaveCodes}
use Rattle.nvme_library.specs.Written.{Writes, without_text}
use Rattle.nvme_library.specs.declared.written.Written.{Written}

pub loads_have_codes : LoadsHaveCodes
loads_have_codes = record {
  closed = λ k at answer before after h. h;
  no_controller = λ s k at answer before after none h. subst (λ c. LoadsFrom c at before answer after) none h;
  inside = λ c answer after h. h;
  outside = λ c answer after h. h;
}

nothing-looked : (s new : Inside) (slba : ℕ) (buffer after : List ℕ) (result : Option (Result (Unit {0}) MediumFault))
    → (result ≡ None) × (new.state ≡ s.state) → (result ≡ None) × (after ≡ buffer) × (new.medium ≡ s.medium)
    → (look_number result ≡ 18) × (after ≡ buffer) × (new ≡ s)
nothing-looked s new slba buffer after result p q =
    (ap look_number p.0, q.1, λ i. over (p.1 i) (q.2 i))

pub looks_have_codes : LooksHaveCodes
looks_have_codes = record {
  not_whole = λ held new nsid slba answer after h. h;
  closed = λ new nsid slba answer after h. h;
  stays_open = λ s nsid slba answer after h. h;
  no_namespace = λ s new nsid slba answer after none h.
      let buffer : List ℕ = replicate 512 7 in
      let p : (result : Option (Result (Unit {0}) MediumFault)) × (answer ≡ look_number result)
      × LooksAt nsid slba 1 s buffer after result new = h in
      let q = nothing-looked s new slba buffer after p.0
      (subst (λ n. Looks true (block_in n slba 1) s.state after p.0 new.state) none p.2.looks)
      (subst (λ n. LooksBy step_of true s.state.device.content (block_in n slba 1) 1 buffer after s.medium p.0
      new.medium) none p.2.calls) in
      (p.1 ∙ q.0, q.1, q.2);
}

-- the text of a refused query, with its line feed
with-line-feed : (n : ℕ) (why : Why) (old new : Inside) (w : Written) (before after : List ℕ)
    → ((text : List ℕ) × Says n (Fails why) old text new × Writes (text ++ 10 ∷ []) w before after)
    ⊎ ((w ≡ without_text 27) × (after ≡ before) × (new ≡ old))
    → Writes (refusal n why ++ 10 ∷ []) w before after ⊎ (w ≡ without_text 27)
with-line-feed n why old new w before after (inl h) =
    let p : (h.0 ≡ refusal n why) × (new ≡ old) = h.1 in
    inl (subst (λ text. Writes (text ++ 10 ∷ []) w before after) p.0 h.2)
with-line-feed n why old new w before after (inr h) = inr h.0

pub lines_have_codes : LinesHaveCodes
lines_have_codes = record {
  refused = λ n why old new text h. h;
  parsed = λ n line old new text h. h;
  with_line_feed = with-line-feed;
  no_query = λ n line old new w before after other h.
      subst (λ b. AnswersIf b n line old w before after new) other h;
  closed = λ n line new w before after h. h;
  stays_open = λ n line old w before after h. h;
}
