-- Changes and queues of the worked examples.
use Rattle.std.specs.Prelude.{ℕ, zero, suc, List, [], ◌∷◌, map, Option}
use Rattle.nvme_spec.specs.Reservation.{Reservation}
use Rattle.nvme_notices.specs.declared.notice.NoticeType.{NoticeType}
use Rattle.nvme_notices.specs.declared.hearing.Action.{Action}
use Rattle.nvme_notices.specs.Hearing.{heard_by}
use Rattle.nvme_notices.specs.Keeping.{Notices, no_notices, queued}

-- what the hosts a1h, b2h, c3h and d4h hear after a command of the issuer
abbrev pub heard : Action → ℕ → Reservation → Reservation → List (Option NoticeType)
heard action issuer before after =
    heard_by action issuer before after 0xa1 ∷ heard_by action issuer before after 0xb2
    ∷ heard_by action issuer before after 0xc3 ∷ heard_by action issuer before after 0xd4 ∷ []

-- a queue after a number of notices of this type of namespace 1
abbrev pub filled : NoticeType → ℕ → Notices
filled kind zero = no_notices
filled kind (suc n) = queued (filled kind n) 1 kind

abbrev pub counts : Notices → List ℕ
counts n = map (λ notice. notice.count) n.kept

-- a queue whose last notice had this count, and was read
abbrev pub read_up_to : ℕ → Notices
read_up_to count = record no_notices { count = count }
