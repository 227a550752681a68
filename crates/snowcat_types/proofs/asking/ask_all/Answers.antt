use Rattle.snowcat_types.specs.Systems.{Asks}
use Rattle.snowcat_types.specs.inner.Gathered.{requirements_of}
use Rattle.snowcat_types.proofs.Asked.{row_suits}
use Rattle.snowcat_types.proofs.asking.ask_all.Goals as goal

pub returns-clause-tried : goal.returns-clause-tried
returns-clause-tried c = λ n l rs p h f g.
    c.ask_each.ensures.tried n l rs (Asks p (requirements_of c.args.asked.now)) h f g (row_suits p (requirements_of c.args.asked.now) (requirements_of c.args.asked.now))
