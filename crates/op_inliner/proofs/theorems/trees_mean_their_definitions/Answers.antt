use Rattle.op_inliner.proofs.Answered.{answer_means, answer_tree}
use Rattle.op_inliner.proofs.theorems.trees_mean_their_definitions.Goals as goal

pub returns-clause-means : goal.returns-clause-means
returns-clause-means c = λ flat x part e known h. answer_means flat known x part e h

pub returns-clause-trees : goal.returns-clause-trees
returns-clause-trees c = λ flat x part e known h. answer_tree flat known x part e h
