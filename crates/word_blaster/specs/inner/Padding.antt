-- Bits with zeros behind them.
use Rattle.std.specs.Prelude.{◌≡◌, ℕ, ◌<◌, Bool, List, length, max, pos}
use Rattle.sat_formula.specs.declared.cnf.Cnf.{Cnf}
use Rattle.sat_formula.specs.declared.lit.Lit.{Lit}
use Rattle.sat_formula.specs.Formula.{Satisfies}
use Rattle.word_blaster.specs.Word.{WordBelow, number, signed, values}

-- bits of the same number, n or as many as there were; the number of a word, where zeros were added
pub record IsPadded (f : Cnf) (x : List Lit) (n : ℕ) (r : List Lit) : Type 0 where
  pub below : WordBelow f.vars x → WordBelow f.vars r
  pub len : length r ≡ max (length x) n
  pub value : (a : List Bool) → Satisfies a f → number (values r a) ≡ number (values x a)
  pub plain : (a : List Bool) → length x < n → Satisfies a f → signed (values r a) ≡ pos (number (values x a))
