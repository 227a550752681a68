use Rattle.std.proofs.Common.{◌≡◌, ℕ, ◌<◌, Bool, List, get_or}
use Rattle.sat_formula.specs.declared.lit.Lit.{Lit}
use Rattle.cell_arena.specs.declared.kinds.CellId.{CellId}
use Rattle.cell_arena.specs.Cells.{kind_at}
use Rattle.cell_arena.specs.Decode.{decode}
use Rattle.cell_merge.specs.Arrows.{arrows_of}
use Rattle.cell_merge.proofs.arrows.common_front.Given as goal

abbrev pub invariant-loop-i : goal.invariant-loop-i
invariant-loop-i l = (a : List Bool) (j : ℕ) (d : Lit × CellId × CellId) → j < l.i →
    decode l.arena a (get_or (arrows_of (kind_at l.arena.kinds l.x)) j d).1 ≡ decode l.arena a (get_or (arrows_of (kind_at l.arena.kinds l.y)) j d).1
