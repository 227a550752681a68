use Rattle.kera_reducer.proofs.ExceptSteps.{paths_by}
use Rattle.kera_reducer.proofs.excepts.are_paths.Goals as goal

pub returns-then-not-is_empty : goal.returns-then-not-is_empty
returns-then-not-is_empty c =
    paths_by c.args.counts.now c.is_empty.result c.have_indexes.result c.is_empty.ensures c.if-not-is_empty.true
    c.have_indexes.ensures
