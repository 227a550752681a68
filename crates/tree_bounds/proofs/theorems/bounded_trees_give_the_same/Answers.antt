use Rattle.tree_bounds.proofs.SameExpressions.{same_forms, same_outcomes}
use Rattle.tree_bounds.proofs.SameShapes.{same_names, same_shapes}
use Rattle.tree_bounds.proofs.theorems.bounded_trees_give_the_same.Goals as goal

pub returns-clause-outcomes : goal.returns-clause-outcomes
returns-clause-outcomes c = same_outcomes

pub returns-clause-forms : goal.returns-clause-forms
returns-clause-forms c = same_forms

pub returns-clause-names : goal.returns-clause-names
returns-clause-names c = same_names

pub returns-clause-shapes : goal.returns-clause-shapes
returns-clause-shapes c = same_shapes
