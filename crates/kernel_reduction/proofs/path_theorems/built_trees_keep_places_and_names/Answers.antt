use Rattle.kernel_reduction.proofs.NodesKept.{keeps_places, keeps_texts}
use Rattle.kernel_reduction.proofs.PathLaws.{keeps_reads}
use Rattle.kernel_reduction.proofs.path_theorems.built_trees_keep_places_and_names.Goals as goal

pub returns-clause-places : goal.returns-clause-places
returns-clause-places c = keeps_places

pub returns-clause-texts : goal.returns-clause-texts
returns-clause-texts c = keeps_texts

pub returns-clause-reads : goal.returns-clause-reads
returns-clause-reads c = keeps_reads
