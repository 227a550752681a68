use Rattle.kernel_reduction.proofs.SizesKept.{each_keeps_sizes, each_part_keeps_sizes, typed_keeps_sizes}
use Rattle.kernel_reduction.proofs.size_theorems.built_trees_keep_shapes_and_refusals.Goals as goal

pub returns-clause-trees : goal.returns-clause-trees
returns-clause-trees c = each_keeps_sizes

pub returns-clause-parts : goal.returns-clause-parts
returns-clause-parts c = each_part_keeps_sizes

pub returns-clause-typed : goal.returns-clause-typed
returns-clause-typed c = typed_keeps_sizes
