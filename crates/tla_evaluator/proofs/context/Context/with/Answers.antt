use Rattle.std.proofs.Common.{◌≡◌, ◌++◌, ◌∙◌, ap, arith}
use Rattle.tla_evaluator.proofs.Words.{bound_to, common_steps}
use Rattle.tla_evaluator.specs.inner.Bound.{bindings}
use Rattle.tla_evaluator.proofs.NormalBinds.{longer_normal}
use Rattle.tla_evaluator.proofs.context.Context.with.Goals as goal

pub new-requires-clause-normal : goal.new-requires-clause-normal
new-requires-clause-normal c =
    let all : c.in_ok-bound.bound.items ≡ c.self.inside.bound.items = grind (arith, common_steps) in
    longer_normal (bindings c.self.inside.bound.items) _ c.args.names.now c.args.values.now _ _
    (c.in_ok-bind_onto.ensures ∙ ap (λ l. bindings l ++ bound_to c.args.names.now c.args.values.now) all) c.self.invariant.normal c.requires
