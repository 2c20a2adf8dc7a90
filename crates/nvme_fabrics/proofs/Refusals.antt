-- For `refused_keeps`: a refused Connect changes nothing.
use Rattle.std.proofs.Common.{◌≡◌, ℕ, ◌+◌, true, false, cond, Result, Ok, Err, refl}
use Rattle.nvme_wire.specs.declared.status.Status.{Status}
use Rattle.nvme_fabrics.specs.declared.answer.Answer.{Answer}
use Rattle.nvme_fabrics.specs.declared.fabrics.Fabrics.{Fabrics}
use Rattle.nvme_fabrics.specs.declared.request.Request.{Request}
use Rattle.nvme_fabrics.specs.declared.session.Place.{Place}
use Rattle.nvme_fabrics.specs.declared.session.Place.TheVariants as place
use Rattle.nvme_fabrics.specs.declared.session.Session.{Session}
use Rattle.nvme_fabrics.specs.declared.session.Session.TheVariants as session
use Rattle.nvme_fabrics.specs.Answers.{with_cntlid}
use Rattle.nvme_fabrics.specs.Sessions.{
  Outcome,
  is_successful,
  creation,
  entered,
  authreq_atr,
  put,
  answered,
  admitted,
}
use Rattle.nvme_fabrics.specs.Laws.{RefusedKeeps}

-- what is left if the answer is a refusal
abbrev Keeps : Fabrics → Session → Outcome → Type 0
Keeps f s o = is_successful o.answer.status ≡ false → (o.fabrics ≡ f) × (o.session ≡ s)

enters : (f : Fabrics) (k : ℕ) (r : Request) (i n : ℕ) (x : Result (Unit {0}) Answer)
    → Keeps f session.NotConnected (entered f k r i session.NotConnected (with_cntlid n) x)
enters f k r i n (Ok u) e = absurd (cc)
enters f k r i n (Err a) e = (refl, refl)

puts : (f : Fabrics) (k : ℕ) (created : Status) (r : Request) (p : Place)
    → Keeps f session.NotConnected (put f k created r p)
puts f k created r place.Discovery = λ e. absurd (cc)
puts f k created r (place.Controller i) = elim (f.has_keys) as (λ b. Keeps f session.NotConnected (cond b (record {
  fabrics = f;
  session = session.Authenticating r i;
  answer = with_cntlid (i + 1 + authreq_atr);
}) (entered f k r i session.NotConnected (with_cntlid (i + 1)) (creation r created)))) [
  | true ↦ λ e. absurd (cc)
  | false ↦ enters f k r i (i + 1) (creation r created)
]

answers : (f : Fabrics) (k : ℕ) (created : Status) (x : Result (Request × Place) Answer)
    → Keeps f session.NotConnected (answered f session.NotConnected k created x)
answers f k created (Ok p) = puts f k created p.0 p.1
answers f k created (Err a) = λ e. (refl, refl)

pub refused-keeps : RefusedKeeps
refused-keeps f session.NotConnected k e d j = answers f k j.created (admitted f session.NotConnected e d j)
refused-keeps f (session.Authenticating r i) k e d j = λ e. (refl, refl)
refused-keeps f (session.Queue i q) k e d j = λ e. (refl, refl)
refused-keeps f session.Discovery k e d j = λ e. (refl, refl)
refused-keeps f session.Ended k e d j = λ e. (refl, refl)
