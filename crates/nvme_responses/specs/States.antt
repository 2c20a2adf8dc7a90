-- The commands of a connection that have no response yet.
use Rattle.std.specs.Prelude.{ℕ, Bool, List}
use Rattle.nvme_responses.specs.declared.stage.Stage.{Stage}

pub record State : Type 0 where
  -- SQSIZE, the number of entries of the submission queue, less one
  pub sqsize : ℕ
  pub head : ℕ
  pub is_flow_control_disabled : Bool
  pub stage : Stage
  -- their identifiers
  pub outstanding : List ℕ
