-- What a run leaves its caller (01, What the promises say: every number returned and every lent word afterwards).
use Rattle.std.specs.Prelude.{ℕ, List}

-- The answer's number, the lent lists as they stand afterwards, and what the caller is told.
pub record Called : Type 0 where
  pub answer : ℕ
  pub registers : List ℕ
  pub state : List ℕ
  pub memory : List ℕ
  pub log : List ℕ
  pub told : List ℕ
