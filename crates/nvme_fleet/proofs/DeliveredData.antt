-- For the answer of `call_over`: a poll returns the number of bytes that it delivers, and they are at the front of
-- the buffer.
use Rattle.nvme_fleet.proofs.Words.{
  ◌≡◌,
  ◌≤◌,
  ℕ,
  List,
  length,
  take,
  Option,
  Result,
  refl,
  sym,
  ap,
  subst,
  ◌∙◌,
  arith,
  Answer,
  PollFault,
  Driver,
  Controller,
  Polled,
  Reply,
  data_len,
  Mailbox,
  MailboxReaction,
  reply_in,
  IsStep,
}
use Rattle.nvme_mailbox.proofs.Moves.{Move, Stay, Clear, May, reply_of, polls}
use Rattle.nvme_mailbox.specs.Deliveries.{polled}
use Rattle.std.proofs.lemmas.List.{length-take}

counted : (v : Move) (m : Mailbox) → May v m → data_len (reply_of v m).seen ≡ length (reply_of v m).bytes
counted (Stay what) m q = q.bytes
counted (Clear what) m q = q.bytes
counted other m q = refl

-- as many bytes as it returns
handed-count : (m : Mailbox) (d : Driver) (c : Controller) (result : Result (Option Answer) PollFault)
    → IsStep (polled m) d c (record { seen = Polled result; bytes = (polled m).reply.bytes })
    → data_len (Polled result) ≡ length (polled m).reply.bytes
handed-count m d c result s =
    let v = polls (λ v. Unit {0}) (λ v p. tt) (λ lane first rest. tt) m in
    sym (ap (λ (r : Reply). data_len r.seen) s.gives)
    ∙ subst (λ (r : MailboxReaction). data_len r.reply.seen ≡ length r.reply.bytes) (sym v.is) (counted v.move m v.may)

pub handed-step : (m : Mailbox) (d : Driver) (c : Controller) (result : Result (Option Answer) PollFault)
    (buffer : List ℕ) → IsStep (polled m) d c (record { seen = Polled result; bytes = (polled m).reply.bytes })
    → take (length (polled m).reply.bytes) buffer ≡ (polled m).reply.bytes
    → IsStep (polled m) d c (reply_in (Polled result) buffer)
handed-step m d c result buffer s front =
    subst (λ xs. IsStep (polled m) d c (record { seen = Polled result; bytes = xs }))
    (sym (ap (λ n. take n buffer) (handed-count m d c result s) ∙ front)) s

pub handed-fits : (m : Mailbox) (d : Driver) (c : Controller) (result : Result (Option Answer) PollFault)
    (buffer : List ℕ) → IsStep (polled m) d c (record { seen = Polled result; bytes = (polled m).reply.bytes })
    → take (length (polled m).reply.bytes) buffer ≡ (polled m).reply.bytes → data_len (Polled result) ≤ length buffer
handed-fits m d c result buffer s front =
    let n = handed-count m d c result s in
    omega (arith, length-take (data_len (Polled result)) buffer, ap length (ap (λ k. take k buffer) n ∙ front), n)
