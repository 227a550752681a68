use Rattle.shape_bounds.proofs.NamesRead.{bound_sized}
use Rattle.shape_bounds.proofs.names.Names.bound_name.Goals as goal

pub returns : goal.returns
returns c = bound_sized c.args.self.now c.count.new.self c.args.k.now c.in_ok-shape.shape c.args.n c.requires.named c.in_ok-shape.ensures c.count.ensures
