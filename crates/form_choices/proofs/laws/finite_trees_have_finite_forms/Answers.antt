use Rattle.form_choices.proofs.TreeForms.{tree-finite}
use Rattle.form_choices.proofs.laws.finite_trees_have_finite_forms.Goals as goal

pub returns : goal.returns
returns c = λ w k sc s t f n e. tree-finite k w sc s t f n e
