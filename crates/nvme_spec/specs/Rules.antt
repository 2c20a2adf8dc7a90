-- Rules for commands: a rule has a number and a list of tests. The first test that fails gives the status.
use Rattle.std.specs.Prelude.{ℕ, Bool, true, if◌then◌else◌, List, [], ◌∷◌, Option, None, Some, Result, Ok, Err}
use Rattle.nvme_wire.specs.declared.status.Status.{Status}
use Rattle.nvme_spec.specs.declared.verdict.Denial.{Denial}

-- A test: whether it fails, and the status for that.
pub record Test : Type 0 where
  pub fails : Bool
  pub status : Status

pub record Rule : Type 0 where
  pub number : ℕ
  pub tests : List Test

-- the result of one or several rules: all pass, or the denial by the first test that fails
abbrev pub Judgement : Type 0
Judgement = Result (Unit {0}) Denial

abbrev pub test : Bool → Status → Test
test fails status = record { fails = fails; status = status }

-- a rule of one test
abbrev pub rule : ℕ → Bool → Status → Rule
rule number fails status = record { number = number; tests = test fails status ∷ [] }

-- a test that fails with the status of a refusal
abbrev pub refusal_tests : {T : Type 0} → Result T Status → List Test
refusal_tests (Ok next) = []
refusal_tests (Err refusal) = test true refusal ∷ []

-- the status of the first test that fails
abbrev pub first_failure : List Test → Option Status
first_failure [] = None
first_failure (t ∷ rest) = if t.fails then Some t.status else first_failure rest

abbrev pub denial_by : ℕ → Option Status → Judgement
denial_by number None = Ok tt
denial_by number (Some why) = Err (record { rule = number; status = why })

-- the result of a rule
unfoldable pub judgement_by : Rule → Judgement
judgement_by r = denial_by r.number (first_failure r.tests)

-- if a judgement passes, the later one counts
abbrev pub else_by : Judgement → Judgement → Judgement
else_by (Ok u) later = later
else_by (Err denial) later = Err denial

-- the first rule that fails
abbrev pub first_failing : List Rule → Judgement
first_failing [] = Ok tt
first_failing (r ∷ rest) = else_by (judgement_by r) (first_failing rest)
