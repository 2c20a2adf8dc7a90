-- For programs that run events: no line shows the marks of an execution.
use Rattle.std.proofs.Common.{◌≡◌, ℕ, List, [], ◌∷◌, ◌++◌, refl, ap}
use Rattle.nvme_spec.specs.declared.outcome.Marks.{Marks}
use Rattle.nvme_machine.specs.declared.bare.BareExecuted.TheVariants as executed
use Rattle.nvme_event.specs.declared.bare.BareFleetSeen.{BareFleetSeen}
use Rattle.nvme_event.specs.declared.bare.BareFleetSeen.TheVariants as bare
use Rattle.nvme_event.specs.declared.event.FleetEvent.{FleetEvent}
use Rattle.nvme_event.specs.Bare.{seen_with, seen_of}
use Rattle.nvme_transcript.specs.Transcript.{controller_text, seen_line, seen_text, subject_text}

text-unmarked : (m : Marks) (c s : List ℕ) (x : BareFleetSeen) (bytes : List ℕ)
    → seen_text c s (seen_with m x) bytes ≡ seen_text c s (seen_of x) bytes
text-unmarked m c s (bare.Up up) bytes = refl
text-unmarked m c s (bare.Placed placed) bytes = refl
text-unmarked m c s (bare.Rung rung) bytes = refl
text-unmarked m c s (bare.Fetched fetched) bytes = refl
text-unmarked m c s (bare.Executed (executed.Posted o)) bytes = refl
text-unmarked m c s (bare.Executed executed.NoSuch) bytes = refl
text-unmarked m c s (bare.Executed executed.CqFull) bytes = refl
text-unmarked m c s (bare.Polled polled) bytes = refl
text-unmarked m c s bare.Reset bytes = refl
text-unmarked m c s bare.Stored bytes = refl
text-unmarked m c s bare.Outside bytes = refl
text-unmarked m c s bare.Wrote bytes = refl
text-unmarked m c s bare.Cycled bytes = refl
text-unmarked m c s bare.NoController bytes = refl
text-unmarked m c s bare.NoDriver bytes = refl
text-unmarked m c s bare.NotRaw bytes = refl

pub line-unmarked : (m : Marks) (e : FleetEvent) (x : BareFleetSeen) (bytes : List ℕ)
    → seen_line e (seen_with m x) bytes ≡ seen_line e (seen_of x) bytes
line-unmarked m e x bytes = ap (λ t. t ++ 10 ∷ []) (text-unmarked m (controller_text e) (subject_text e) x bytes)
