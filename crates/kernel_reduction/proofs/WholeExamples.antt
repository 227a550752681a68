-- Which trees are whole, by computing.
use Rattle.std.proofs.Common.{◌≡◌, ℕ, Bool, true, false, List, [], ◌∷◌, pos}
use Rattle.tla_meaning.specs.declared.expr.Expr.{Expr, roll-Expr}
use Rattle.tla_meaning.specs.declared.expr.Expr.TheOpen.{Expr-F}
use Rattle.tla_meaning.specs.declared.expr.Expr.TheFolds.{fold-roll-Expr, map-Expr}
use Rattle.tla_meaning.specs.declared.op.Op.{Op}
use Rattle.tla_meaning.specs.declared.op.Op.TheVariants as op
use Rattle.kernel_reduction.specs.Whole.{whole_node, is_whole}

whole-roll : (m : ℕ) (x : Expr-F Expr) →
    is_whole m (roll-Expr x) ≡ whole_node m (map-Expr Expr Bool (is_whole m) x)
unfolding is_whole
whole-roll m x = fold-roll-Expr Bool (whole_node m) x

abbrev tree : Op → List Expr → List (List ℕ) → Expr
tree o es xs = roll-Expr (record { place = record { file = 0; line = 1; col = 1 }; op = o; args = es; binds = xs })

abbrev one : Expr
one = tree (op.Int (pos 1)) [] []

abbrev yes : Expr
yes = tree (op.Bool true) [] []

-- `1 + 1`, and with one operand too few
sum_whole : is_whole 0 (tree op.Add (one ∷ one ∷ []) []) ≡ true
sum_whole = simp (whole-roll)

sum_short : is_whole 0 (tree op.Add (one ∷ []) []) ≡ false
sum_short = simp (whole-roll)

-- a record with a name twice, whose type has it once
twice_named : is_whole 0 (tree (op.Record ((97 ∷ []) ∷ (97 ∷ []) ∷ [])) (one ∷ one ∷ []) []) ≡ false
twice_named = simp (whole-roll)

-- a filter of two names, of which the type table knows the first
two_filtered : is_whole 0 (tree op.Filter (one ∷ one ∷ yes ∷ []) ((97 ∷ []) ∷ (98 ∷ []) ∷ [])) ≡ false
two_filtered = simp (whole-roll)

-- a name beyond the declared ones
undeclared : is_whole 1 (tree (op.Name 1 false) [] []) ≡ false
undeclared = simp (whole-roll)
