use Rattle.form_cells.proofs.SetForms.{set-shown, set-sort}
use Rattle.form_cells.proofs.form.FormCells.of_set.Goals as goal

pub returns-clause-shows : goal.returns-clause-shows
returns-clause-shows c = λ d a o h. set-shown d a c.args.x o h

pub returns-clause-sort : goal.returns-clause-sort
returns-clause-sort c = λ b s h. set-sort b s c.args.x h
