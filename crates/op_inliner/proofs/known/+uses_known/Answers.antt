use Rattle.std.proofs.Common.{◌≡◌, ◌∙◌, ap, sym, subst, Bool, IfOk, length}
use Rattle.tla_meaning.specs.Scopes.{find_last}
use Rattle.op_inliner.specs.Known.{Arities, wants}
use Rattle.op_inliner.proofs.KnowSteps.{lets_fail, other_known, use_known}
use Rattle.op_inliner.proofs.known.+uses_known.Goals as goal

pub lets_known-returns-then-i-trees-clause-known : goal.lets_known-returns-then-i-trees-clause-known
lets_known-returns-then-i-trees-clause-known t c =
    lets_fail c.args.lets.now c.index-lets-i.result _ c.args.trees.now c.loop-i.i c.loop-i.scope.items _ c.loop-i-test.true c.if-i-trees.true c.loop-i.invariant.left

pub uses_known-returns-else-not-is_shaped : goal.uses_known-returns-else-not-is_shaped
uses_known-returns-else-not-is_shaped t c = record {
  known =
      subst (λ (v : Bool). IfOk c.all_use.result (λ b. b ≡ v))
      (other_known c.args.e.now c.as_slice-args.result.now c.args.scope.now.items (c.in_default.not-Use, c.in_default.not-Param, c.in_default.not-Let) c.as_slice-args.ensures
      (sym c.is_shaped.ensures ∙ c.if-not-is_shaped.false)) c.all_use.ensures.known;
  kept = c.all_use.ensures.kept;
}

pub uses_known-returns-else-not-is_wanted-clause-known : goal.uses_known-returns-else-not-is_wanted-clause-known
uses_known-returns-else-not-is_wanted-clause-known t c =
    subst (λ (v : Bool). IfOk c.all_use-in-Use.result (λ b. b ≡ v))
    (use_known c.args.e.now c.in-Use.name c.as_slice-args.result.now c.args.scope.now.items c.in-Use.is c.as_slice-args.ensures
    (ap (λ (sc : Arities). wants (length c.as_slice-args.result.now) (find_last c.in-Use.name sc)) (sym c.as_slice-in-Use.ensures.value) ∙ sym c.is_wanted.ensures ∙ c.if-not-is_wanted.false)) c.all_use-in-Use.ensures.known
