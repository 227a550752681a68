use Rattle.function_rewriter.proofs.Composites.{stands-at}
use Rattle.function_rewriter.proofs.fields.place_of.Goals as goal

pub returns-in-Rec : goal.returns-in-Rec
returns-in-Rec c = stands-at c.args.arena.now.kinds c.args.r c.args.name.now _ _ c.in-Rec.fields _ c.requires c.kind.ensures.same c.in-Rec.is c.as_slice.ensures c.find.ensures
