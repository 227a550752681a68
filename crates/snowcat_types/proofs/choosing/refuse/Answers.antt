use Rattle.snowcat_rows.specs.declared.types.Ty.{Var}
use Rattle.snowcat_rows.specs.Types.{mean}
use Rattle.snowcat_rows.specs.Views.{issued_of}
use Rattle.snowcat_rows.proofs.Means.{mean-Var}
use Rattle.snowcat_types.proofs.Chosen.{refused_by, refused_named, refused_within}
use Rattle.snowcat_types.proofs.choosing.refuse.Goals as goal
use Rattle.std.proofs.Common.{◌∙◌}

pub equate-requires-clause-within : goal.equate-requires-clause-within
equate-requires-clause-within c =
    refused_within (issued_of c.args.subst.now) c.args.wait.now (Var c.decider.result) c.in_ok-default.default (mean-Var c.decider.result ∙ c.decider.ensures) c.in_ok-default.ensures c.requires.within

pub equate-requires-clause-names : goal.equate-requires-clause-names
equate-requires-clause-names c =
    refused_named (issued_of c.args.subst.now) c.args.wait.now (Var c.decider.result) c.in_ok-default.default (mean-Var c.decider.result ∙ c.decider.ensures) c.in_ok-default.ensures c.requires.within

pub returns-clause-excluded : goal.returns-clause-excluded
returns-clause-excluded c =
    refused_by c.args.wait.now c.args.subst.now c.equate.new.subst c.equate.result (mean (Var c.decider.result)) (mean c.in_ok-default.default) (mean-Var c.decider.result ∙ c.decider.ensures)
    c.in_ok-default.ensures c.requires.other c.equate.ensures.met
