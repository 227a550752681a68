use Rattle.std.proofs.Common.{arith, refl}
use Rattle.form_cells.proofs.PartLemmas.{items-listed}
use Rattle.form_cells.proofs.parts.places_of.Goals as goal

pub returns-clause-items : goal.returns-clause-items
returns-clause-items c = items-listed c.args.b.now _ c.args.s _ _ c.requires refl (omega arith) c.in_ok-places.ensures.places
