-- Proof of the law `trouble_never_comes`: results that no event of a host with a driver has.
use Rattle.nvme_mailbox.proofs.Words.{
  inl,
  inr,
  [],
  ◌∷◌,
  subst,
  Reply,
  Mailbox,
  OwnStep,
  MailboxStep,
  IsUnseen,
  UnseenNeverComes,
}
use Rattle.nvme_mailbox.proofs.Apart.{hosts_are_apart}
use Rattle.nvme_mailbox.proofs.Moves.{Move, Stay, Clear, May, reply_of, own-moved}

spares : (v : Move) (m : Mailbox) → May v m → IsUnseen (reply_of v m).seen → ⊥
spares (Stay what) m q u = q.spares u
spares (Clear what) m q u = q.spares u
spares other m q u = u

pub unseen_never_comes : UnseenNeverComes
unseen_never_comes tells old new [] [] run k m at h = h
unseen_never_comes tells old new (event ∷ events) (x ∷ later) run k m at (inl h) =
    let one = hosts_are_apart tells old run.0 event x run.1 k m at in
    let own : OwnStep event tells k old.site m x run.0.site one.mailbox =
    subst (λ b. MailboxStep b event tells k old.site m x run.0.site one.mailbox) h.host one.moves in
    let v = own-moved event tells k old.site run.0.site m one.mailbox x h.host own in
    spares v.move m v.may (subst (λ (r : Reply). IsUnseen r.seen) v.gives h.seen)
unseen_never_comes tells old new (event ∷ events) (x ∷ later) run k m at (inr h) =
    let one = hosts_are_apart tells old run.0 event x run.1 k m at in
    unseen_never_comes tells run.0 new events later run.2 k one.mailbox one.host h
unseen_never_comes tells old new events later run k m at h = h
