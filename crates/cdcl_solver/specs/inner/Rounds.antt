-- How long a search can go on. Each step is another set of literals, and there are finitely many.
use Rattle.std.specs.Prelude.{ℕ, ◌+◌, ◌-◌, ◌*◌, Bool, true, false, List}
use Rattle.std.specs.List.{list_any}
use Rattle.std.proofs.Common.{zero, suc, eqb}

-- how many sets of numbers below n there are
unfoldable pub subsets : ℕ → ℕ
subsets zero = 1
subsets (suc n) = subsets n + subsets n

abbrev pub digit : Bool → ℕ
digit true = 1
digit false = 0

-- the number of the set of those below n that stand in the list
unfoldable pub set_number : List ℕ → ℕ → ℕ
set_number ks zero = 0
set_number ks (suc n) = set_number ks n + set_number ks n + digit (list_any (eqb n) ks)

unfoldable pub times : ℕ → ℕ → ℕ
times zero m = 0
times (suc n) m = times n m + m

-- what may come yet, over so many variables, where so many steps are derived and so many variables have a value
abbrev pub rounds_left : ℕ → ℕ → ℕ → ℕ
rounds_left vars steps entries = times (subsets (2 * vars) - steps) (vars + 1) + (vars - entries)
