-- Literals and their values. A literal is a variable or the negation of one (DIMACS Challenge,
-- "Satisfiability: Suggested Format", 1993).
use Rattle.std.specs.Prelude.{ℕ, ◌<◌, Bool, false, not, List, map, slice_index_or, if◌then◌else◌}
use Rattle.sat_formula.specs.declared.lit.Lit.{Lit}

-- the value of a literal under an assignment; a variable past its end counts as false
abbrev pub lit_value : Lit → List Bool → Bool
lit_value l a = if l.neg then not (slice_index_or a l.var false) else slice_index_or a l.var false

-- the values of literals under an assignment
abbrev pub values : List Lit → List Bool → List Bool
values ls a = map (λ l. lit_value l a) ls

-- the variable is one of the first n
abbrev pub IsBelow : ℕ → Lit → Type 0
IsBelow n l = l.var < n

-- variable 0
abbrev pub top_lit : Lit
top_lit = record { var = 0; neg = false }

-- exclusive or
abbrev pub differ : Bool → Bool → Bool
differ x y = if x then not y else y
