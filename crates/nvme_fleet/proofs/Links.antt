-- For the answers of `LinkPort`: a link stays valid, and its calls are stated for the identifier of its controller.
use Rattle.nvme_fleet.proofs.Words.{
  ◌≡◌,
  ℕ,
  ◌+◌,
  ◌-◌,
  ◌≤◌,
  Bool,
  subst,
  arith,
  Call,
  Event,
  Seen,
  Subsystem,
  step-count,
  CallStep,
  IsThere,
  CallOverMedium,
  List,
  MediumCall,
  ReachesMedium,
  events_of,
  refl,
}
use Rattle.std.specs.Borrow.{GName}
use Rattle.nvme_machine.specs.Subsystems.{Run, Step}
use Rattle.nvme_fleet.specs.DriverEvents.{ReturnsWhatIsSeen, window_at}

pub there-after : (tells : Bool) (old new : Subsystem) (event : Event) (given : Seen) (k : ℕ)
    → Step tells old event given new → IsThere old k → IsThere new k
there-after tells old new event given k step h = let e = step-count tells old new event given step in
    (h.0, omega (arith, e, h.1))

-- a call that is these events of the controller
pub called-over : {M : Type 0} (step : M → MediumCall → M → Type 0)
    (tells : Bool) (k : ℕ) (call : Call) (given : List Seen) (old new : Subsystem) (name : GName) (before after : M)
    → 1 ≤ k → Run tells old (events_of k call) given new → ReturnsWhatIsSeen call (window_at old k) given
    → ReachesMedium step tells k old new call before after
    → CallOverMedium step tells
    (record { state = record { subsystem = old; place = k - 1; name = name }; medium = before }) call
    (record { state = record { subsystem = new; place = k - 1; name = name }; medium = after })
called-over step tells k call given old new name before after h run answers reaches =
    let e : k ≡ k - 1 + 1 = omega (arith, h) in
    record {
      over = record {
        step = subst (λ n. CallStep tells n old call new) e (record { given = given; run = run; answers = answers });
        place = refl;
        name = refl;
      };
      medium = subst (λ n. ReachesMedium step tells n old new call before after) e reaches;
    }
