-- For `one_outcome`: each command that was accepted is ready, refused, waits, or is lost.
use Rattle.std.proofs.Common.{
  ◌≡◌,
  ℕ,
  ◌+◌,
  Bool,
  true,
  false,
  cond,
  List,
  [],
  ◌∷◌,
  ◌++◌,
  map,
  Result,
  Ok,
  Err,
  arith,
  refl,
  sym,
  ap,
  subst,
  ◌∙◌,
}
use Rattle.nvme_responses.specs.declared.refused.Refused.{Refused}
use Rattle.nvme_responses.specs.Laws.{is, tally}
use Rattle.nvme_responses.specs.Responses.{accepted, response}
use Rattle.nvme_responses.specs.Runs as responses
use Rattle.nvme_responses.proofs.Tallies.{tally-append}
use Rattle.nvme_responses.proofs.Waiting.{waiting-are-answered}
use Rattle.nvme_transfers.specs.declared.command.Command.{Command}
use Rattle.nvme_transfers.specs.declared.command.Refused.{Refused as Unwanted}
use Rattle.nvme_transfers.specs.Laws.{tally as sum}
use Rattle.nvme_transfers.specs.States.{State as Transfers}
use Rattle.nvme_transfers.specs.Transfers.{admitted}
use Rattle.nvme_transfers.specs.Runs as transfers
use Rattle.nvme_transfers.specs.Runs.{Whole, begun, begun_if, complete, completes, dropped, in_flight}
use Rattle.nvme_transfers.proofs.Flights.{commands-once}
use Rattle.nvme_capsules.specs.declared.capsule.Capsule.{Capsule}
use Rattle.nvme_capsules.specs.declared.connect_stage.ConnectStage.{ConnectStage}
use Rattle.nvme_capsules.specs.declared.outcome.Outcome.{Outcome}
use Rattle.nvme_capsules.specs.declared.outcome.Outcome.TheVariants as outcome
use Rattle.nvme_capsules.specs.Capsules.{cid_of}
use Rattle.nvme_capsules.specs.Outcomes.{begun as begun_outcome, command_of, planned, settled}
use Rattle.nvme_capsules.specs.Laws.{EachCanBeAnswered, OneOutcome}
use Rattle.nvme_capsules.specs.Runs.{
  Brings,
  Call,
  Comes,
  Connects,
  Ends,
  Forgets,
  Later,
  Ready,
  Refusal,
  Requests,
  Responds,
  Stops,
  begins,
  cid_of_command,
  cid_of_ready,
  commands,
  planned_at,
  ready,
  ready_if,
  readies,
  refused,
  refused_if,
  refuses,
  response_calls,
  sound,
  state_after,
  transfer_calls,
  unsound,
  unwanted,
  unwanted_by,
  unwanted_if,
  unwants,
  waiting,
}
use Rattle.nvme_capsules.specs.Statuses.{transient_transport_error}
use Rattle.nvme_capsules.proofs.Plans.{HasInCapsule, IsRefused, Plan, Returns, WaitsFor, plan}
use Rattle.nvme_capsules.proofs.Projections.{same-responses, same-transfers}

-- ---- sums

abbrev of_ready : (ℕ → ℕ) → List Ready → ℕ
of_ready w rs = tally (λ (r : Ready). w (cid_of_ready r)) rs

abbrev of_refused : (ℕ → ℕ) → List Refusal → ℕ
of_refused w rs = tally (λ (r : Refusal). w r.cid) rs

abbrev of_commands : (ℕ → ℕ) → List Command → ℕ
of_commands w cs = tally (λ (c : Command). w (cid_of_command c)) cs

abbrev of_whole : (ℕ → ℕ) → List Whole → ℕ
of_whole w ws = tally (λ (x : Whole). w (cid_of_command x.command)) ws

pub sum-tally : {A : Type 0} (w : A → ℕ) (xs : List A) → sum w xs ≡ tally w xs
sum-tally w [] = refl
sum-tally w (x ∷ xs) = ap (λ n. w x + n) (sum-tally w xs)

tally-map : (w : ℕ → ℕ) (cs : List Command) → tally w (map cid_of_command cs) ≡ of_commands w cs
tally-map w [] = refl
tally-map w (c ∷ cs) = ap (λ n. w (cid_of_command c) + n) (tally-map w cs)

-- commands that have all their data are ready or refused
whole-weight : (w : ℕ → ℕ) (ws : List Whole) → of_whole w ws ≡ of_ready w (sound ws) + of_refused w (unsound ws)
whole-weight w [] = refl
whole-weight w (x ∷ ws) = by x.is_sound (whole-weight w ws) where
  by : (b : Bool) → of_whole w ws ≡ of_ready w (sound ws) + of_refused w (unsound ws)
      → of_whole w (x ∷ ws)
      ≡ of_ready w (cond b (Later x ∷ sound ws) (sound ws))
      + of_refused w (cond b (unsound ws) (record {
        cid = cid_of x.command.entry;
        status = transient_transport_error;
      } ∷ unsound ws))
  by true h = omega (arith, h)
  by false h = omega (arith, h)

-- ---- a capsule comes

abbrev begun_by : Transfers → Outcome → Capsule → List Command
begun_by t (outcome.Breaks fatal) c = []
begun_by t (outcome.Refused status) c = []
begun_by t (outcome.Waits bytes) c = begun_if (admitted t (command_of c bytes)) (command_of c bytes)
begun_by t (outcome.Ready d) c = []

begins-weight : (w : ℕ → ℕ) (o : Outcome) (c : Capsule) (calls : List transfers.Call)
    → of_commands w (begun (begins o c calls))
    ≡ of_commands w (begun calls) + of_commands w (begun_by (transfers.state_after calls) o c)
begins-weight w (outcome.Breaks fatal) c calls = omega arith
begins-weight w (outcome.Refused status) c calls = omega arith
begins-weight w (outcome.Waits bytes) c calls =
    tally-append (λ (c : Command). w (cid_of_command c)) (begun calls)
    (begun_if (admitted (transfers.state_after calls) (command_of c bytes)) (command_of c bytes))
begins-weight w (outcome.Ready d) c calls = omega arith

begins-complete : (w : ℕ → ℕ) (o : Outcome) (c : Capsule) (calls : List transfers.Call)
    → of_whole w (complete (begins o c calls)) ≡ of_whole w (complete calls)
begins-complete w (outcome.Breaks fatal) c calls = refl
begins-complete w (outcome.Refused status) c calls = refl
begins-complete w (outcome.Waits bytes) c calls =
    let a = tally-append (λ (x : Whole). w (cid_of_command x.command)) (complete calls) [] in omega (arith, a)
begins-complete w (outcome.Ready d) c calls = refl

-- what an accepted command is
abbrev Weighs : (ℕ → ℕ) → Transfers → Outcome → Capsule → ℕ → Type 0
Weighs w t o c n =
    n ≡ of_ready w (ready_if (settled t o c) c) + (of_refused w (refused_if (settled t o c) c)
    + (tally w (unwanted_by t o c) + of_commands w (begun_by t o c)))

waits-weigh : (w : ℕ → ℕ) (c : Capsule) (bytes : ℕ) (r : Result (Unit {0}) Unwanted)
    → w (cid_of c.entry) + 0
    ≡ of_ready w (ready_if (begun_outcome r bytes) c) + (of_refused w (refused_if (begun_outcome r bytes) c)
    + (tally w (unwanted_if r c) + of_commands w (begun_if r (command_of c bytes))))
waits-weigh w c bytes (Ok u) = omega arith
waits-weigh w c bytes (Err e) = omega arith

plan-weighs : (w : ℕ → ℕ) (t : Transfers) (now : ConnectStage) (c : Capsule) (b : Bool) (o : Outcome) → Plan now c b o
    → Weighs w t o c (w (cid_of c.entry) + 0)
plan-weighs w t now c b o (IsRefused status e) =
    subst (λ o. Weighs w t o c (w (cid_of c.entry) + 0)) (sym e) (omega arith)
plan-weighs w t now c b o (WaitsFor bytes none at e) =
    subst (λ o. Weighs w t o c (w (cid_of c.entry) + 0)) (sym e)
    (waits-weigh w c bytes (admitted t (command_of c bytes)))
plan-weighs w t now c b o (HasInCapsule begin bytes none at e) =
    subst (λ o. Weighs w t o c (w (cid_of c.entry) + 0)) (sym e) (omega arith)
plan-weighs w t now c b o (Returns bytes none at e) =
    subst (λ o. Weighs w t o c (w (cid_of c.entry) + 0)) (sym e) (omega arith)

comes-weighs : (w : ℕ → ℕ) (t : Transfers) (now : ConnectStage) (c : Capsule) (r : Result Bool Refused)
    → Weighs w t (planned r now c) c (tally w (responses.accepted_if r (cid_of c.entry)))
comes-weighs w t now c (Ok b) = plan-weighs w t now c b (planned (Ok b) now c) (plan now c b)
comes-weighs w t now c (Err e) = refl

-- ---- runs

abbrev Balanced : (ℕ → ℕ) → List Call → Type 0
Balanced w run =
    tally w (commands run) + of_whole w (complete (transfer_calls run))
    ≡ of_ready w (ready run) + (of_refused w (refused run)
    + (tally w (unwanted run) + of_commands w (begun (transfer_calls run))))

-- a call that brings nothing
quiet : (w : ℕ → ℕ) (run : List Call) → Balanced w run
    → tally w (commands run) + of_whole w (complete (transfer_calls run))
    ≡ of_ready w (ready run ++ []) + (of_refused w (refused run ++ [])
    + (tally w (unwanted run ++ []) + of_commands w (begun (transfer_calls run))))
quiet w run h =
    let a = tally-append (λ (r : Ready). w (cid_of_ready r)) (ready run) [] in
    let b = tally-append (λ (r : Refusal). w r.cid) (refused run) [] in
    let d = tally-append w (unwanted run) [] in
    omega (arith, a, b, d, h)

balanced : (w : ℕ → ℕ) (run : List Call) → Balanced w run
balanced w [] = refl
balanced w (call ∷ run) = by call (balanced w run) where
  no-command : tally w (commands run ++ []) ≡ tally w (commands run)
  no-command = let a = tally-append w (commands run) [] in omega (arith, a)

  no-whole : of_whole w (complete (transfer_calls run) ++ []) ≡ of_whole w (complete (transfer_calls run))
  no-whole =
      let a = tally-append (λ (x : Whole). w (cid_of_command x.command)) (complete (transfer_calls run)) [] in
      omega (arith, a)

  no-begun : of_commands w (begun (transfer_calls run) ++ []) ≡ of_commands w (begun (transfer_calls run))
  no-begun =
      let a = tally-append (λ (c : Command). w (cid_of_command c)) (begun (transfer_calls run)) [] in
      omega (arith, a)

  by : (call : Call) → Balanced w run → Balanced w (call ∷ run)
  by (Comes now c) h =
      let s = state_after run in
      let r = accepted s.responses (cid_of c.entry) in
      let o = planned_at s now c in
      let a = comes-weighs w s.transfers now c r in
      let b : tally w (commands (Comes now c ∷ run))
      ≡ tally w (commands run) + tally w (responses.accepted_if r (cid_of c.entry)) =
      subst (λ s. tally w (commands (Comes now c ∷ run))
      ≡ tally w (commands run) + tally w (responses.accepted_if (accepted s (cid_of c.entry)) (cid_of c.entry)))
      (sym (same-responses run))
      (tally-append w (commands run)
      (responses.accepted_if (accepted (responses.state_after (response_calls run)) (cid_of c.entry))
      (cid_of c.entry))) in
      let d : of_commands w (begun (begins o c (transfer_calls run)))
      ≡ of_commands w (begun (transfer_calls run)) + of_commands w (begun_by s.transfers o c) =
      subst (λ t. of_commands w (begun (begins o c (transfer_calls run)))
      ≡ of_commands w (begun (transfer_calls run)) + of_commands w (begun_by t o c))
      (sym (same-transfers run)) (begins-weight w o c (transfer_calls run)) in
      let e = begins-complete w o c (transfer_calls run) in
      let f = tally-append (λ (r : Ready). w (cid_of_ready r)) (ready run) (readies run (Comes now c)) in
      let g = tally-append (λ (r : Refusal). w r.cid) (refused run) (refuses run (Comes now c)) in
      let i = tally-append w (unwanted run) (unwants run (Comes now c)) in
      omega (arith, a, b, d, e, f, g, i, h)
  by (Brings p) h =
      let ws = completes (transfer_calls run) (transfers.Takes p) in
      let a = whole-weight w ws in
      let b = tally-append (λ (x : Whole). w (cid_of_command x.command)) (complete (transfer_calls run)) ws in
      let f = tally-append (λ (r : Ready). w (cid_of_ready r)) (ready run) (sound ws) in
      let g = tally-append (λ (r : Refusal). w r.cid) (refused run) (unsound ws) in
      let i = tally-append w (unwanted run) [] in
      let j = no-begun in
      omega (arith, a, b, f, g, i, j, h)
  by Requests h = let q = quiet w run h in let a = no-whole in let b = no-begun in omega (arith, q, a, b)
  by (Responds r) h = let q = quiet w run h in let a = no-command in omega (arith, q, a)
  by (Forgets cid) h = let q = quiet w run h in let a = no-command in omega (arith, q, a)
  by (Connects sqsize disabled) h = let q = quiet w run h in let a = no-command in omega (arith, q, a)
  by Ends h =
      let q = quiet w run h in let a = no-command in let b = no-whole in let d = no-begun in
      omega (arith, q, a, b, d)
  by Stops h =
      let q = quiet w run h in let a = no-command in let b = no-whole in let d = no-begun in
      omega (arith, q, a, b, d)

pub one-outcome : OneOutcome
one-outcome run w =
    let h = balanced w run in
    let t = transfer_calls run in
    let a = commands-once t (λ (c : Command). w (cid_of_command c)) in
    let b = sum-tally (λ (c : Command). w (cid_of_command c)) (begun t) in
    let d = sum-tally (λ (x : Whole). w (cid_of_command x.command)) (complete t) in
    let e = sum-tally (λ (c : Command). w (cid_of_command c)) (in_flight (transfers.state_after t)) in
    let f = sum-tally (λ (c : Command). w (cid_of_command c)) (dropped t) in
    let g : tally w (waiting (state_after run)) ≡ of_commands w (in_flight (transfers.state_after t)) =
    tally-map w (in_flight (state_after run).transfers)
    ∙ ap (λ t. of_commands w (in_flight t)) (same-transfers run) in
    let i = tally-append w (map cid_of_command (dropped t)) (unwanted run) in
    let j = tally-map w (dropped t) in
    omega (arith, h, a, b, d, e, f, g, i, j)

pub each-can-be-answered : EachCanBeAnswered
each-can-be-answered run r fewer speaks =
    let a = one-outcome run (is r.cid) in
    let waits = waiting-are-answered (response_calls run) r (omega (arith, a, fewer)) speaks in
    (waits.0, ap (λ s. response s r) (same-responses run) ∙ waits.1)
