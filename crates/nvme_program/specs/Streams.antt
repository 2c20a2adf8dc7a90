-- The streams of a program, except the one for its messages, and the size limit of a namespace.
use Rattle.std.specs.Prelude.{ℕ}
use Rattle.std.specs.Borrow.{GName}

-- a stream that is borrowed, in the state that it has now, and which stream it is
pub record Stream (T : Type 0) : Type 0 where
  pub state : T
  pub name : GName

-- the input and the output, which streams they are, and the most blocks that a namespace may have
pub record Streams (I O : Type 0) : Type 0 where
  pub input : I
  pub output : O
  pub input_name : GName
  pub output_name : GName
  pub max_blocks : ℕ

-- two streams that are borrowed, and that limit
abbrev pub streams : {I O : Type 0} → Stream I → Stream O → ℕ → Streams I O
streams input output max_blocks = record {
  input = input.state;
  output = output.state;
  input_name = input.name;
  output_name = output.name;
  max_blocks = max_blocks;
}
