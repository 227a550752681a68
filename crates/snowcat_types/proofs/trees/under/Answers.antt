use Rattle.std.proofs.Common.{◌∙◌, ap, subst, sym}
use Rattle.snowcat_types.specs.inner.Built.{scope_of}
use Rattle.snowcat_types.specs.inner.Named.{ScopeNamed}
use Rattle.snowcat_types.proofs.NamedSteps.{operand_at_named}
use Rattle.snowcat_types.proofs.TreeSteps.{under_at}
use Rattle.snowcat_types.proofs.trees.under.Goals as goal

pub returns-then-i-operands-clause-scope : goal.returns-then-i-operands-clause-scope
returns-then-i-operands-clause-scope c =
    ap scope_of (c.as_slice.ensures ∙ ap (λ o. o.under) (sym c.index-operands-i.is))
    ∙ under_at c.args.operands.now c.args.i c.index-operands-i.result c.if-i-operands.true c.index-operands-i.is

pub returns-then-i-operands-clause-named : goal.returns-then-i-operands-clause-named
returns-then-i-operands-clause-named c = λ h.
    subst ScopeNamed (sym (c.as_slice.ensures ∙ ap (λ o. o.under) (sym c.index-operands-i.is)))
    (operand_at_named c.args.operands.now c.args.i c.index-operands-i.result c.if-i-operands.true c.index-operands-i.is h)
