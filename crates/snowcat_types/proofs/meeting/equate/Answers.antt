use Rattle.snowcat_rows.specs.Types.{mean}
use Rattle.snowcat_types.proofs.EqualMet.{equal_told}
use Rattle.snowcat_types.proofs.meeting.equate.Goals as goal

pub returns-clause-met : goal.returns-clause-met
returns-clause-met c = λ n l rs h f g.
    equal_told n l rs c.args.subst.now (mean c.args.a.now) (mean c.args.b.now) h f g c.unify.new.self c.unify.result c.unify.ensures.more c.unify.ensures.ok c.unify.ensures.err
