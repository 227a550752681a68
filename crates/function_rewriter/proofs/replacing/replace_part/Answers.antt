use Rattle.std.proofs.Common.{List, set, ap}
use Rattle.cell_arena.specs.declared.kinds.CellId.{CellId}
use Rattle.function_rewriter.proofs.Composites.{fits-set}
use Rattle.function_rewriter.proofs.replacing.replace_part.Goals as goal

pub with_parts-requires : goal.with_parts-requires
with_parts-requires c =
    fits-set c.args.b.now.arena c.args.id c.args.place c.args.part _ c.args.b.now.built c.requires.place c.requires.there (ap (λ (ps : List CellId). set ps c.args.place c.args.part) c.in_ok-parts.ensures)
