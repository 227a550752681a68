-- Literals as numbers from 0 on, two for each variable.
use Rattle.std.specs.Prelude.{ℕ, ◌+◌, ◌*◌, ◌/◌, ◌%◌, nat_eq, if◌then◌else◌}
use Rattle.sat_formula.specs.declared.lit.Lit.{Lit}

-- twice the variable, and one more for the negation
abbrev pub code : Lit → ℕ
code l = 2 * l.var + (if l.neg then 1 else 0)

-- the literal of a code
abbrev pub literal : ℕ → Lit
literal n = record { var = n / 2; neg = nat_eq (n % 2) 1 }
