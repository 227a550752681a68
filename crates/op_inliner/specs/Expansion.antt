-- The expanded trees of a flat module.
use Rattle.std.specs.Prelude.{ℕ, Bool, true, List, [], ◌∷◌, filter, length, map, nat_lt}
use Rattle.tla_meaning.specs.declared.expr.Decl.{Decl}
use Rattle.tla_meaning.specs.declared.expr.Expr.{Expr, roll-Expr}
use Rattle.tla_meaning.specs.declared.modules.Flat.{Flat}
use Rattle.tla_meaning.specs.declared.op.Op.{Op}
use Rattle.tla_meaning.specs.declared.op.Op.TheVariants as op
use Rattle.tla_meaning.specs.declared.place.Place.{Place}
use Rattle.tla_meaning.specs.Folds.{with_lambdas}
use Rattle.op_inliner.specs.Inlining.{names_of_module, written, written_of}
use Rattle.op_inliner.specs.NamesBack.{with_names_back}
use Rattle.op_inliner.specs.Primes.{turned}
use Rattle.op_inliner.specs.declared.parts.PartKind.{PartKind}
use Rattle.op_inliner.specs.declared.parts.PartKind.TheVariants.{Constants}

-- the number of a declared name is that of a constant: these stand first
abbrev pub is_constant : Flat → ℕ → Bool
is_constant flat i = nat_lt i (length (filter (λ (d : Decl). d.constant) flat.decls))

-- a tree with its primes at the variables, its UNCHANGED as equations and its bound names given back
abbrev pub finish : PartKind → Flat → Expr → Expr
finish part flat e = with_names_back ((turned part (is_constant flat) e).tree 0)

-- the place of what no module wrote
abbrev pub first_place : Place
first_place = record { file = 0; line = 1; col = 1 }

-- what a name of the module becomes in a part
abbrev pub expansion : PartKind → Flat → List ℕ → Expr
expansion part flat x = finish part flat (written_of flat first_place x)

abbrev pub at_first : Op → List Expr → Expr
at_first o es = roll-Expr (record { place = first_place; op = o; args = es; binds = [] })

-- TRUE where there is no assumption, the one where there is one, else their conjunction
abbrev pub conjunction_of : List Expr → Expr
conjunction_of [] = at_first (op.Bool true) []
conjunction_of (e ∷ []) = e
conjunction_of es = at_first op.And es

-- the assumptions as one expression of the module
abbrev pub assumed : Flat → Expr
assumed flat = conjunction_of (map with_lambdas flat.assumes)

-- and what they become
abbrev pub assumptions_expanded : Flat → Expr
assumptions_expanded flat = finish Constants flat (written (assumed flat) (names_of_module flat) 0)
