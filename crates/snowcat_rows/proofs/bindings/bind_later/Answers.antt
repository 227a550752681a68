use Rattle.std.proofs.Common.{ap, ◌∙◌}
use Rattle.snowcat_rows.specs.Types.{mean}
use Rattle.snowcat_rows.specs.Codes.{bindings_of}
use Rattle.snowcat_rows.proofs.Means.{mean-Var}
use Rattle.snowcat_rows.proofs.Steps.{type_left, type_right}
use Rattle.snowcat_rows.proofs.bindings.bind_later.Goals as goal

pub returns-then-v-w-clause-ok : goal.returns-then-v-w-clause-ok
returns-then-v-w-clause-ok c =
    type_right (mean c.args.x.now) (mean c.args.y.now) c.in-Var.w c.args.issued (bindings_of c.args.bindings.now.items) _ c.requires.unequal
    (ap mean c.in-Var.is ∙ mean-Var c.in-Var.w) c.in_ok-other.other c.in_ok-other.ensures.ok

pub returns-clause-ok : goal.returns-clause-ok
returns-clause-ok c =
    type_left (mean c.args.x.now) (mean c.args.y.now) c.args.v c.args.issued (bindings_of c.args.bindings.now.items) _ c.requires.unequal c.requires.first
    c.in_ok-bound.bound c.in_ok-bound.ensures.ok
