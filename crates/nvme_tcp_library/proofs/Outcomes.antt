-- What C sees of commands whose data a host sends loses nothing.
use Rattle.std.proofs.Common.{
  ◌≡◌,
  ◌∙◌,
  ℕ,
  ◌==◌,
  if◌then◌else◌,
  refl,
  sym,
  ap,
  Option,
  Some,
  None,
  Result,
  Ok,
  Err,
}
use Rattle.nvme_transfers.specs.declared.command.Refused.{Refused}
use Rattle.nvme_transfers.specs.declared.command.Refused.TheVariants as refused
use Rattle.nvme_transfers.specs.declared.part.Completed.{Completed}
use Rattle.nvme_tcp_library.specs.Laws.{PartsDiffer, RefusalsDiffer, RequestsDiffer}
use Rattle.nvme_tcp_library.specs.Transfers.{begun_code, completes_at}

success : (begin : ℕ) (c : Option Completed) → (completes_at begin c).what ≡ 0
success begin None = refl
success begin (Some c) = refl

begins : (m n : ℕ) (c d : Option Completed) → completes_at m c ≡ completes_at n d → m ≡ n
begins m n None None e = ap (λ t. t.begin) e
begins m n None (Some d) e = ap (λ t. t.begin) e
begins m n (Some c) None e = ap (λ t. t.begin) e
begins m n (Some c) (Some d) e = ap (λ t. t.begin) e

completions : (m n : ℕ) (c d : Option Completed) → completes_at m c ≡ completes_at n d → c ≡ d
completions m n None None e = refl
completions m n None (Some d) e = absurd (cc (ap (λ t. t.is_complete) e))
completions m n (Some c) None e = absurd (cc (ap (λ t. t.is_complete) e))
completions m n (Some c) (Some d) e = λ i. Some (record {
  command = record { entry = (e i).entry; length = (e i).length };
  is_sound = (e i).is_sound;
})

pub parts_differ : PartsDiffer
parts_differ (Err f) (Err g) e = λ i. Err (record { status = (e i).status; field = (e i).field })
parts_differ (Err f) (Ok b) e = absurd (cc (ap (λ t. t.what) e ∙ success b.begin b.completed))
parts_differ (Ok a) (Err g) e = absurd (cc (sym (success a.begin a.completed) ∙ ap (λ t. t.what) e))
parts_differ (Ok a) (Ok b) e = λ i. Ok (record {
  begin = begins a.begin b.begin a.completed b.completed e i;
  completed = completions a.begin b.begin a.completed b.completed e i;
})

-- the outcome with a code
abbrev back : ℕ → Result (Unit {0}) Refused
back n =
    if n == 0 then Ok tt
    else (if n == 42 then Err refused.Ended
    else (if n == 43 then Err refused.NoData
    else (if n == 44 then Err refused.InFlight else Err refused.NoRoom)))

there-and-back : (r : Result (Unit {0}) Refused) → back (begun_code r) ≡ r
there-and-back (Ok u) = refl
there-and-back (Err refused.Ended) = refl
there-and-back (Err refused.NoData) = refl
there-and-back (Err refused.InFlight) = refl
there-and-back (Err refused.NoRoom) = refl

pub refusals_differ : RefusalsDiffer
refusals_differ a b e = sym (there-and-back a) ∙ (ap back e ∙ there-and-back b)

pub requests_differ : RequestsDiffer
requests_differ None None e = refl
requests_differ None (Some r) e = absurd (cc (ap (λ t. t.what) e))
requests_differ (Some r) None e = absurd (cc (ap (λ t. t.what) e))
requests_differ (Some r) (Some q) e =
    λ i. Some (record { cid = (e i).cid; tag = (e i).tag; length = (e i).length })
