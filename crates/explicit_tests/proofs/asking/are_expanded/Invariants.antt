use Rattle.std.proofs.Common.{ℕ, ◌<◌, slice_index_or}
use Rattle.std.specs.Prelude.{IsTrue}
use Rattle.tla_evaluator.specs.Trees.{is_expanded}
use Rattle.tla_meaning.specs.declared.expr.Expr.{Expr}
use Rattle.tla_values.specs.declared.text.Text.{Text}
use Rattle.explicit_tests.proofs.asking.are_expanded.Given as goal

abbrev pub invariant-loop-named : goal.invariant-loop-named
invariant-loop-named l =
    (k : ℕ) (d : Text × Expr) → k < l.named-index → IsTrue (is_expanded (slice_index_or l.invs k d).1)
