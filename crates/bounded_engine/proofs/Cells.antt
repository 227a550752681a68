-- Cells that are of the kinds of the names.
use Rattle.std.proofs.Common.{◌<◌, List, [], ◌∷◌, map, length, arith}
use Rattle.std.specs.Prelude.{All}
use Rattle.std.proofs.lemmas.List.Elements.{All-cons}
use Rattle.cell_arena.specs.declared.kinds.CellId.{CellId}
use Rattle.cell_arena.specs.declared.kinds.CellKind.{CellKind}
use Rattle.cell_merge.proofs.Edges.{sort-there}
use Rattle.branch_cells.specs.Branches.{AreOfKinds}
use Rattle.kernel_trees.specs.TypeKinds.{Kind}
use Rattle.typed_cells.specs.KindSorts.{OfSorts, sort_of}
use Rattle.step_encoder.specs.Encoders.{IsEncoder}
use Rattle.step_encoder.specs.declared.encoder.Encoder.{Encoder}
use Rattle.bounded_engine.specs.inner.Finding.{AreCellsOf}

kinds_there : (ks : List CellKind) (names : List Kind) (ids : List CellId) → AreOfKinds ks names ids → All (λ id. id.index < length ks) ids
kinds_there ks [] [] are = λ i d lt. absurd (omega arith)
kinds_there ks [] (id ∷ ids) are = absurd are
kinds_there ks (a ∷ as') [] are = absurd are
kinds_there ks (a ∷ as') (id ∷ ids) are =
    All-cons (λ x. x.index < length ks) id ids (sort-there ks (sort_of a) id are.0) (kinds_there ks as' ids are.1)

pub of_sorts : (ks : List CellKind) (names : List Kind) (ids : List CellId) → AreOfKinds ks names ids → OfSorts ks (map sort_of names) ids
of_sorts ks [] [] are = tt
of_sorts ks [] (id ∷ ids) are = absurd are
of_sorts ks (a ∷ as') [] are = absurd are
of_sorts ks (a ∷ as') (id ∷ ids) are = (are.0, of_sorts ks as' ids are.1)

pub cells_there : (e : Encoder) (ids : List CellId) → IsEncoder e → AreCellsOf e ids → All (λ id. id.index < length e.build.arena.kinds) ids
cells_there e ids is are = kinds_there e.build.arena.kinds is.system.names ids (are is.system.names is.system.kinds)
