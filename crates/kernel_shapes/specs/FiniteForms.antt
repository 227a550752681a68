-- Set forms in which no infinite set stands.
use Rattle.std.specs.Prelude.{Bool, true, false, List, [], ◌∷◌}
use Rattle.std.specs.List.{list_all}
use Rattle.tla_meaning.specs.declared.expr.Expr.{Expr}
use Rattle.tla_meaning.specs.declared.expr.Expr.TheFolds.{fold-Expr}
use Rattle.tla_meaning.specs.declared.op.Op.{Op}
use Rattle.tla_meaning.specs.declared.op.Op.TheVariants as op

abbrev first_is : List Bool → Bool
first_is [] = true
first_is (b ∷ bs) = b

-- by what its parts are; the domain of a set of functions is no part
abbrev pub is_finite_at : Op → List Bool → Bool
is_finite_at op.IntSet bs = false
is_finite_at op.NatSet bs = false
is_finite_at op.StringSet bs = false
is_finite_at op.SeqSet bs = false
is_finite_at op.FunSet (b ∷ bs) = list_all (λ c. c) bs
is_finite_at op.Powerset bs = list_all (λ c. c) bs
is_finite_at (op.RecSet names) bs = list_all (λ c. c) bs
is_finite_at op.Product bs = list_all (λ c. c) bs
is_finite_at (op.Noted x) bs = first_is bs
is_finite_at o bs = true

unfoldable pub is_finite_form : Expr → Bool
is_finite_form = fold-Expr Bool (λ x. is_finite_at x.op x.args)
