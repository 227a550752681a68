use Rattle.form_cells.proofs.FormsLater.{is-set-form}
use Rattle.form_cells.proofs.laws.forms_of_sorts_are_set_forms.Goals as goal

pub returns : goal.returns
returns c = λ d a s f built h. is-set-form d a built s f h
