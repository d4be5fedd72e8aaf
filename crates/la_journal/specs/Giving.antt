-- What was given out, and when.
use Rattle.std.specs.Prelude.{ℕ, List}

-- a text, and the disk's moment when it was given out
pub record GivenAt : Type 0 where
  pub moment : ℕ
  pub text : List ℕ
