use Rattle.shape_bounds.proofs.NamesRead.{name_sized}
use Rattle.shape_bounds.proofs.names.Names.name.Goals as goal

pub returns : goal.returns
returns c = name_sized c.args.self.now c.count.new.self c.args.k.now c.in_ok-shape.shape c.args.i c.args.primed c.requires.named c.in_ok-shape.ensures c.count.ensures
