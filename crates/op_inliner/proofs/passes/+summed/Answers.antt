use Rattle.std.proofs.Common.{List, ℕ, ◌++◌, ◌∷◌, [], map, sym, ap, ap₂, ◌∙◌}
use Rattle.tla_meaning.specs.declared.expr.Expr.{Expr, out-Expr}
use Rattle.tla_meaning.specs.Scopes.{find_last}
use Rattle.op_inliner.specs.declared.scope.Entry.{Entry}
use Rattle.op_inliner.proofs.PassSteps.{child_is, defined_is, let_is, let_kept, named_summed, no_child, operands_summed, trees_used}
use Rattle.op_inliner.specs.inner.Sums.{Scope, called_sums, node_sums, scope_of, summed, sums_at, sums_of_child}
use Rattle.op_inliner.proofs.passes.+summed.Goals as goal

pub child_summed-returns-in_ok-counted-clause-counted : goal.child_summed-returns-in_ok-counted-clause-counted
child_summed-returns-in_ok-counted-clause-counted t c =
    c.in_ok-counted.ensures.counted ∙ sym (rw c.index-trees-i.is (child_is c.args.i c.args.trees.now _ c.args.unknown (scope_of c.args.scope.now.items) c.if-i-trees.true))

pub child_summed-returns-else-i-trees-clause-counted : goal.child_summed-returns-else-i-trees-clause-counted
child_summed-returns-else-i-trees-clause-counted t c =
    c.no_sums.ensures ∙ sym (no_child c.args.i c.args.trees.now c.args.unknown (scope_of c.args.scope.now.items) c.if-i-trees.false)

pub define-returns : goal.define-returns
define-returns t c =
    ap scope_of (c.in_ok-push.ensures.items
    ∙ ap₂ (λ (es : List Entry) (x : List ℕ). es ++ (record { name = x; below = c.args.unknown; counted = c.in_ok-counted.counted }) ∷ [])
    c.truncate.ensures.items c.in_ok-name.ensures)
    ∙ defined_is c.args.scope.now.items c.summed.new.scope.items c.args.name.now c.args.parameters.now c.args.body.now c.args.unknown c.len-outside.result c.in_ok-counted.counted
    (c.len-outside.ensures ∙ c.args.scope.now.ok.0) (c.in_ok-counted.ensures.kept ∙ c.in_ok-all.ensures.pushed)
    (c.in_ok-counted.ensures.counted ∙ ap₂ (λ (k : ℕ) (sc : Scope). summed c.args.body.now k sc) c.in_ok-all.ensures.end c.in_ok-all.ensures.pushed)

pub define_all-returns-else-i-trees : goal.define_all-returns-else-i-trees
define_all-returns-else-i-trees t c =
    trees_used c.args.lets.now c.args.names.now c.args.trees.now c.args.unknown c.loop-i.i c.loop-i.first c.args.scope.now.items c.loop-i.scope.items c.loop-i.invariant c.if-i-trees.false

pub summed-returns-in_ok-counted-in-Use-clause-counted : goal.summed-returns-in_ok-counted-in-Use-clause-counted
summed-returns-in_ok-counted-in-Use-clause-counted t c =
    c.in_ok-counted-in-Use.ensures
    ∙ ap₂ called_sums
    (ap (λ (es : List Entry). find_last c.in-Use.name (scope_of es)) c.as_slice-in-Use.ensures.value ∙ ap (find_last c.in-Use.name) c.in_ok-arguments-in-Use.ensures.kept)
    (c.in_ok-arguments-in-Use.ensures.counted
    ∙ ap (λ (es : List Expr). sums_at (map summed es) c.args.unknown (scope_of c.args.scope.now.items)) c.as_slice-operands.ensures)
    ∙ sym (named_summed c.args.e.now c.in-Use.name c.args.unknown (scope_of c.args.scope.now.items) c.in-Use.is)

pub summed-returns-in_ok-counted-in-Let-clause-counted : goal.summed-returns-in_ok-counted-in-Let-clause-counted
summed-returns-in_ok-counted-in-Let-clause-counted t c =
    c.in_ok-counted-in-Let.ensures.counted
    ∙ ap (λ (sc : Scope). sums_of_child c.len.result (map summed c.as_slice-operands.result.now) c.args.unknown sc) c.in_ok-define_all-in-Let.ensures
    ∙ let_is c.args.e.now c.in-Let.lets c.as_slice.result.now c.args.unknown c.len.result (scope_of c.args.scope.now.items) c.as_slice-operands.result.now c.as_slice-in-Let.result.now
    c.len.ensures c.as_slice.ensures c.as_slice-operands.ensures c.as_slice-in-Let.ensures c.in-Let.is

pub summed-returns-in_ok-counted-in-Let-clause-kept : goal.summed-returns-in_ok-counted-in-Let-clause-kept
summed-returns-in_ok-counted-in-Let-clause-kept t c =
    ap scope_of c.truncate.ensures.items
    ∙ let_kept c.args.scope.now.items c.child_summed.new.scope.items c.as_slice.result.now c.as_slice-in-Let.result.now (map summed c.as_slice-operands.result.now) c.args.unknown c.len-outside.result
    (c.len-outside.ensures ∙ c.args.scope.now.ok.0) (c.in_ok-counted-in-Let.ensures.kept ∙ c.in_ok-define_all-in-Let.ensures)

pub summed-returns-in_ok-counted-in_default : goal.summed-returns-in_ok-counted-in_default
summed-returns-in_ok-counted-in_default t c = record {
  counted =
      c.in_ok-counted-in_default.ensures
      ∙ ap (node_sums (out-Expr c.args.e.now).op) (c.as_slice-in_default.ensures ∙ c.in_ok-counts-in_default.ensures.counted
      ∙ ap (λ (es : List Expr). sums_at (map summed es) c.args.unknown (scope_of c.args.scope.now.items)) c.as_slice-operands.ensures)
      ∙ sym (operands_summed c.args.e.now c.args.unknown (scope_of c.args.scope.now.items) c.in_default.not-Use c.in_default.not-Param c.in_default.not-Let);
  kept = c.in_ok-counts-in_default.ensures.kept;
}
