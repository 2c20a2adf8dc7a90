-- Which commands wait, and that they are answered.
use Rattle.std.proofs.Common.{
  ◌≡◌,
  ◌⊎◌,
  inl,
  inr,
  ℕ,
  ◌+◌,
  ◌<◌,
  ◌≤◌,
  Bool,
  true,
  false,
  cond,
  List,
  [],
  ◌∷◌,
  length,
  Option,
  None,
  Some,
  Result,
  Ok,
  Err,
  arith,
  refl,
  sym,
  ap,
  ◌∙◌,
}
use Rattle.std.specs.Prelude.{◌||◌, nat_le, nat_lt}
use Rattle.std.proofs.lemmas.Bool.{leb-true, leb-false, ltb-true, ltb-false}
use Rattle.std.proofs.lemmas.Option.{same_Some}
use Rattle.nvme_responses.specs.declared.refused.Refused.{Refused}
use Rattle.nvme_responses.specs.declared.refused.Refused.TheVariants as refused
use Rattle.nvme_responses.specs.declared.reply.Reply.{Reply}
use Rattle.nvme_responses.specs.declared.reply.Response.{Response}
use Rattle.nvme_responses.specs.declared.stage.Stage.{Stage}
use Rattle.nvme_responses.specs.declared.stage.Stage.TheVariants as stage
use Rattle.nvme_responses.specs.States.{State}
use Rattle.nvme_responses.specs.Responses.{
  has,
  is_full,
  accepted,
  accepted_by,
  after_accept,
  place,
  is_there,
  response_of,
  response_by,
  response,
  after_respond,
}
use Rattle.nvme_responses.specs.Runs.{
  Call,
  Accepts,
  Responds,
  Forgets,
  Connects,
  Ends,
  Stops,
  state_after,
  commands,
  responses,
  dropped,
}
use Rattle.nvme_responses.specs.Laws.{
  tally,
  is,
  came,
  done,
  Waits,
  IsOwn,
  OwnResponses,
  WaitingAreAnswered,
  all_done,
  HasRoom,
  RoomIsGiven,
  NoneBeyond,
  AtMost64,
  ConflictsAreFound,
}
use Rattle.nvme_responses.proofs.EachOnce.{each-once, respond-weight, forget-weight}
use Rattle.nvme_responses.proofs.Stages.{sizes, Talks, talks, opens}
use Rattle.nvme_responses.proofs.Steps.{
  Came,
  Refuses,
  Takes,
  comes,
  Answered,
  Nothing,
  Gives,
  answers,
}
use Rattle.nvme_responses.proofs.Tallies.{
  tally-append,
  tally-ones,
  found-counts,
  counts-found,
  has-counts,
  hasnt-counts,
}

counted-waits : (run : List Call) (cid : ℕ) → 0 < tally (is cid) (state_after run).outstanding → Waits run cid
counted-waits run cid h = let a = each-once run (is cid) in omega (arith, a, h)

waits-counted : (run : List Call) (cid : ℕ) → Waits run cid → 0 < tally (is cid) (state_after run).outstanding
waits-counted run cid h = let a = each-once run (is cid) in omega (arith, a, h)

pub own-responses : OwnResponses
own-responses run r e h = by (response (state_after run) r) (after_respond (state_after run) r)
    (answers (state_after run) r) h where
      by : (o : Option Response) (t : State) → Answered (state_after run) r o t → o ≡ Some e → IsOwn run r e
      by o t (Nothing oi ti) h = absurd (cc)
      by o t (Gives i found oi ti) h =
          let same : response_of (state_after run) r ≡ e = same_Some _ _ (sym oi ∙ h) in
          record {
            waits = counted-waits run r.cid (found-counts (state_after run).outstanding r.cid i found);
            cid = sym (ap (λ (e : Response). e.cid) same);
            dw0 = sym (ap (λ (e : Response). e.dw0) same);
            dw1 = sym (ap (λ (e : Response). e.dw1) same);
            status = sym (ap (λ (e : Response). e.status) same);
          }

given : (g : Stage) (s : State) (r : Reply) (i : ℕ) → Talks g → place s.outstanding r.cid ≡ Some i
    → (e : Response) × (response_by g s r ≡ Some e)
given stage.Open s r i h found =
    (response_of s r, ap (λ o. cond (is_there o) (Some (response_of s r)) None) found)
given stage.Ending s r i h found =
    (response_of s r, ap (λ o. cond (is_there o) (Some (response_of s r)) None) found)
given stage.Ended s r i h found = absurd h

pub waiting-are-answered : WaitingAreAnswered
waiting-are-answered run r waits speaks =
    let p = counts-found (state_after run).outstanding r.cid (waits-counted run r.cid waits) in
    given (state_after run).stage (state_after run) r p.0 (talks run speaks) p.1

-- ---- how many wait

-- the lengths of what became of commands
lengths : (run : List Call) → length (commands run) ≡ all_done run + length (state_after run).outstanding
lengths run =
    let a = each-once run (λ c. 1) in
    let b = tally-ones (commands run) in
    let d = tally-ones (responses run) in
    let e = tally-ones (dropped run) in
    let f = tally-ones (state_after run).outstanding in
    omega (arith, a, b, d, e, f)

not-full : (s : State) → length s.outstanding < 64 → length s.outstanding < s.sqsize + 1 → is_full s ≡ false
not-full s small fits = by (nat_le 64 (length s.outstanding)) (nat_lt s.sqsize (length s.outstanding)) refl refl where
  by : (a b : Bool) → nat_le 64 (length s.outstanding) ≡ a → nat_lt s.sqsize (length s.outstanding) ≡ b
      → (a || b) ≡ false
  by true b ai bi = let n = leb-true 64 (length s.outstanding) ai in absurd (omega (arith, n, small))
  by false true ai bi = let n = ltb-true s.sqsize (length s.outstanding) bi in absurd (omega (arith, n, fits))
  by false false ai bi = refl

room-of : (s : State) → is_full s ≡ false → (length s.outstanding < 64) × (length s.outstanding < s.sqsize + 1)
room-of s h = by (nat_le 64 (length s.outstanding)) (nat_lt s.sqsize (length s.outstanding)) refl refl h where
  by : (a b : Bool) → nat_le 64 (length s.outstanding) ≡ a → nat_lt s.sqsize (length s.outstanding) ≡ b
      → (a || b) ≡ false → (length s.outstanding < 64) × (length s.outstanding < s.sqsize + 1)
  by true b ai bi h = absurd (cc)
  by false true ai bi h = absurd (cc)
  by false false ai bi h =
      let m = leb-false 64 (length s.outstanding) ai in
      let n = ltb-false s.sqsize (length s.outstanding) bi in
      (omega (arith, m), omega (arith, n))

pub room-is-given : RoomIsGiven
room-is-given run cid listens room =
    let s : State = state_after run in
    let n = lengths run in
    let size = sizes run in
    let free = not-full (state_after run) (omega (arith, n, room.in_list)) (omega (arith, n, size, room.in_queue)) in (
      has (state_after run).outstanding cid,
      ap (λ g. accepted_by g (state_after run) cid) (opens run listens)
          ∙ ap (λ b. cond b (Err refused.Full) (Ok (has (state_after run).outstanding cid))) free,
    )

pub none-beyond : NoneBeyond
none-beyond run cid is_conflict h = by (accepted (state_after run) cid) (after_accept (state_after run) cid)
    (comes (state_after run) cid) h where
      by : (r : Result Bool Refused) (t : State) → Came (state_after run) cid r t → r ≡ Ok is_conflict → HasRoom run
      by r t (Refuses e ri ti) h = absurd (cc)
      by r t (Takes is-open free ri ti) h =
          let p = room-of (state_after run) free in
          let n = lengths run in
          let size = sizes run in
          record { in_queue = omega (arith, n, size, p.1); in_list = omega (arith, n, p.0) }

few : (run : List Call) → tally (λ c. 1) (state_after run).outstanding ≤ 64
few [] = omega arith
few (call ∷ run) = by call (few run) where
  comes-few : (cid : ℕ) (r : Result Bool Refused) (t : State) → Came (state_after run) cid r t
      → tally (λ c. 1) (state_after run).outstanding ≤ 64 → tally (λ c. 1) t.outstanding ≤ 64
  comes-few cid r t (Refuses e ri ti) h = rw ti h
  comes-few cid r t (Takes is-open free ri ti) h =
      let p = room-of (state_after run) free in
      let a = tally-append (λ c. 1) (state_after run).outstanding (cid ∷ []) in
      let b = tally-ones (state_after run).outstanding in
      rw ti (omega (arith, a, b, p.0))

  by : (call : Call) → tally (λ c. 1) (state_after run).outstanding ≤ 64
      → tally (λ c. 1) (state_after (call ∷ run)).outstanding ≤ 64
  by (Accepts cid) h =
      comes-few cid (accepted (state_after run) cid) (after_accept (state_after run) cid)
      (comes (state_after run) cid) h
  by (Responds r) h = let a = respond-weight (λ c. 1) (state_after run) r in omega (arith, a, h)
  by (Forgets cid) h =
      let a = forget-weight (λ c. 1) (state_after run).outstanding cid (place (state_after run).outstanding cid) refl in
      omega (arith, a, h)
  by (Connects sqsize disabled) h = h
  by Ends h = h
  by Stops h = omega arith

pub at-most-64 : AtMost64
at-most-64 run =
    let n = lengths run in
    let a = few run in
    let b = tally-ones (state_after run).outstanding in
    omega (arith, n, a, b)

-- ---- conflicts

abbrev conflict : Result Bool Refused → Bool
conflict (Ok b) = b
conflict (Err e) = false

same-ok : (r : Result Bool Refused) (a b : Bool) → r ≡ Ok a → r ≡ Ok b → a ≡ b
same-ok r a b h k = ap conflict (sym h ∙ k)

pub conflicts-are-found : ConflictsAreFound
conflicts-are-found run cid is_conflict h = by (accepted (state_after run) cid) (after_accept (state_after run) cid)
    (comes (state_after run) cid) h where
      by-has : (b : Bool) → has (state_after run).outstanding cid ≡ b → is_conflict ≡ b
          → ((is_conflict ≡ true) × Waits run cid) ⊎ ((is_conflict ≡ false) × (came run cid ≡ done run cid))
      by-has true e same =
          inl (same, counted-waits run cid (has-counts (state_after run).outstanding cid e))
      by-has false e same =
          let a = each-once run (is cid) in
          let b = hasnt-counts (state_after run).outstanding cid e in
          inr (same, omega (arith, a, b))

      by : (r : Result Bool Refused) (t : State) → Came (state_after run) cid r t → r ≡ Ok is_conflict
          → ((is_conflict ≡ true) × Waits run cid) ⊎ ((is_conflict ≡ false) × (came run cid ≡ done run cid))
      by r t (Refuses e ri ti) h = absurd (cc)
      by r t (Takes is-open free ri ti) h =
          by-has (has (state_after run).outstanding cid) refl
          (same-ok r is_conflict (has (state_after run).outstanding cid) h ri)
