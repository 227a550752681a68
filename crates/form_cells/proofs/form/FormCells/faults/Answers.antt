use Rattle.form_cells.proofs.SetForms.{fault-shown}
use Rattle.form_cells.proofs.form.FormCells.faults.Goals as goal

pub returns : goal.returns
returns c = λ d a o h. fault-shown d a c.args.self.now o h
