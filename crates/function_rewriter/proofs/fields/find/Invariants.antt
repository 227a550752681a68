use Rattle.std.proofs.Common.{◌≡◌, ◌<◌, ℕ, List, get_or}
use Rattle.cell_arena.specs.declared.kinds.CellId.{CellId}
use Rattle.function_rewriter.proofs.fields.find.Given as goal

abbrev pub invariant-loop-i : goal.invariant-loop-i
invariant-loop-i l = (j : ℕ) (d : List ℕ × CellId) → j < l.i → (get_or l.fields j d).0 ≡ l.name → ⊥
