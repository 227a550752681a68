use Rattle.form_cells.proofs.PartLemmas.{not-negative}
use Rattle.form_cells.proofs.parts.is_not_negative.Goals as goal

pub returns : goal.returns
returns c = not-negative c.args.b.now c.args.x _ c.in-Word.word _ _ _ c.requires.0 c.kind.ensures.same c.kind.ensures.held c.in-Word.is c.lits-bits.ensures c.negated.ensures
