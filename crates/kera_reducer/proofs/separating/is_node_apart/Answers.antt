use Rattle.kernel_reduction.proofs.Apart.{many_bound, none_bound}
use Rattle.kera_reducer.proofs.separating.is_node_apart.Goals as goal

pub returns-in_default-2 : goal.returns-in_default-2
returns-in_default-2 c = none_bound c.args.e.now c.as_slice.result.now c.as_slice.ensures c.in_default-2.len_below

pub returns-in_default-2-3 : goal.returns-in_default-2-3
returns-in_default-2-3 c = many_bound c.args.e.now c.as_slice.result.now c.as_slice.ensures c.in_default-2.len_at_least
