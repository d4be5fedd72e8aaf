-- What a new process may take for granted of the file that an earlier one left.
use Rattle.std.specs.Prelude.{ℕ, List}

-- The one premise over a start. `left` is what the earlier process might have left: the new one reads such
-- a file, and until it has written one anew a crash leaves such a file.
pub record IsStart {D : Type 0} (seen : D → List ℕ) (may_leave : D → List ℕ → Type 0) (left : List ℕ → Type 0)
    (disk : D) : Type 0 where
  pub read : left (seen disk)
  pub crash : (c : List ℕ) → may_leave disk c → left c
