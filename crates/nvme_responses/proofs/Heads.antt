-- SQHD counts the commands since Connect.
use Rattle.std.proofs.Common.{
  ◌≡◌,
  ℕ,
  suc,
  ◌+◌,
  ◌%◌,
  ◌<◌,
  Bool,
  true,
  false,
  cond,
  List,
  [],
  ◌∷◌,
  Option,
  Some,
  Result,
  Ok,
  Err,
  arith,
  refl,
  sym,
  ap,
  ◌∙◌,
}
use Rattle.std.specs.Prelude.{nat_lt}
use Rattle.std.proofs.lemmas.Bool.{ltb-true, ltb-false}
use Rattle.std.proofs.lemmas.Option.{same_Some}
use Rattle.std.proofs.Math.Nat.{mod-eq_of_lt, mod-lt, mod_self, suc-mod, zero-mod}
use Rattle.nvme_responses.specs.declared.refused.Refused.{Refused}
use Rattle.nvme_responses.specs.declared.reply.Reply.{Reply}
use Rattle.nvme_responses.specs.declared.reply.Response.{Response}
use Rattle.nvme_responses.specs.States.{State}
use Rattle.nvme_responses.specs.Responses.{
  following,
  sqhd,
  accepted,
  with_command,
  response_of,
  response,
  after_respond,
}
use Rattle.nvme_responses.specs.Runs.{
  Call,
  Accepts,
  Responds,
  Forgets,
  Connects,
  Ends,
  Stops,
  state_after,
  sqsize_after,
  is_disabled_after,
  one_if,
  counted,
}
use Rattle.nvme_responses.specs.Laws.{HeadIsCounted}
use Rattle.nvme_responses.proofs.Stages.{sizes, disabled-is, respond-keeps}
use Rattle.nvme_responses.proofs.Steps.{Answered, Nothing, Gives, answers}

-- the next entry of a queue is that of one command more
pub next-counts : (n k : ℕ) → following n (k % suc n) ≡ suc k % suc n
next-counts n k = by (nat_lt (k % suc n) n) refl where
  by : (b : Bool) → nat_lt (k % suc n) n ≡ b → cond b (k % suc n + 1) 0 ≡ suc k % suc n
  by true e =
      let less = ltb-true (k % suc n) n e in
      let small : suc (k % suc n) < suc n = omega (arith, less) in
      let one : k % suc n + 1 ≡ suc (k % suc n) = omega arith in
      one ∙ sym (suc-mod k (suc n) ∙ mod-eq_of_lt small)
  by false e =
      let more = ltb-false (k % suc n) n e in
      let some : 0 < suc n = omega arith in
      let below = mod-lt k some in
      let last : suc (k % suc n) ≡ suc n = omega (arith, more, below) in
      sym (suc-mod k (suc n) ∙ ap (λ m. m % suc n) last ∙ mod_self (suc n))

-- at the size that Connect has said
abbrev Heads : List Call → Type 0
Heads run = (state_after run).head ≡ counted run % suc (sqsize_after run)

accept-heads : (s : State) (cid k n : ℕ) (r : Result Bool Refused) → s.sqsize ≡ n → s.head ≡ k % suc n
    → (with_command r s cid).head ≡ (k + one_if r) % suc n
accept-heads s cid k n (Ok b) size h =
    let one : suc k ≡ k + 1 = omega arith in
    ap (λ m. following m s.head) size ∙ ap (λ m. following n m) h ∙ next-counts n k ∙ ap (λ m. m % suc n) one
accept-heads s cid k n (Err e) size h =
    let same : k ≡ k + 0 = omega arith in
    h ∙ ap (λ m. m % suc n) same

heads : (run : List Call) → Heads run
heads [] = refl
heads (Accepts cid ∷ run) =
    accept-heads (state_after run) cid (counted run) (sqsize_after run) (accepted (state_after run) cid) (sizes run)
    (heads run)
heads (Responds r ∷ run) =
    respond-keeps (λ s. s.head) (λ s xs. refl) (response (state_after run) r) (state_after run) r.cid ∙ heads run
heads (Forgets cid ∷ run) = heads run
heads (Connects sqsize disabled ∷ run) =
    sym (ap (following sqsize) (zero-mod (suc sqsize))) ∙ next-counts sqsize 0
heads (Ends ∷ run) = heads run
heads (Stops ∷ run) = heads run

one-more : (run : List Call) → counted run % suc (sqsize_after run) ≡ counted run % (sqsize_after run + 1)
one-more run =
    let e : suc (sqsize_after run) ≡ sqsize_after run + 1 = omega arith in
    ap (λ n. counted run % n) e

sqhd-of : (run : List Call) → sqhd (state_after run)
    ≡ cond (is_disabled_after run) 0xffff (counted run % (sqsize_after run + 1))
sqhd-of run =
    ap (λ b. cond b 0xffff (state_after run).head) (disabled-is run)
    ∙ ap (λ n. cond (is_disabled_after run) 0xffff n) (heads run ∙ one-more run)

pub head-is-counted : HeadIsCounted
head-is-counted run = record {
  head = heads run ∙ one-more run;
  sqhd = λ r e h. by r e (response (state_after run) r) (after_respond (state_after run) r)
      (answers (state_after run) r) h;
} where
  by : (r : Reply) (e : Response) (o : Option Response) (t : State) → Answered (state_after run) r o t → o ≡ Some e
      → e.sqhd ≡ cond (is_disabled_after run) 0xffff (counted run % (sqsize_after run + 1))
  by r e o t (Nothing oi ti) h = absurd (cc)
  by r e o t (Gives i found oi ti) h =
      let same : response_of (state_after run) r ≡ e = same_Some _ _ (sym oi ∙ h) in
      sym (ap (λ (e : Response). e.sqhd) same) ∙ sqhd-of run
