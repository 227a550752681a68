use Rattle.std.proofs.Common.{◌<◌, [], ◌∷◌, All, length}
use Rattle.std.proofs.lemmas.List.Elements.{All-nil, All-cons}
use Rattle.sat_formula.specs.declared.lit.Lit.{Lit}
use Rattle.cell_arena.specs.declared.kinds.CellId.{CellId}
use Rattle.cell_merge.specs.Sorts.{OfSort}
use Rattle.cell_merge.proofs.Edges.{sort-there}
use Rattle.cell_merge.proofs.SortLaws.{sort-set}
use Rattle.cell_tests.proofs.sets.two_edges.Goals as goal

pub set-requires-clause-older : goal.set-requires-clause-older
set-requires-clause-older c =
    let t = c.requires.types in
    let ks = c.args.b.now.arena.kinds in
    let P : Lit × CellId → Type 0 = λ e. e.1.index < length ks in
    let both : All P (c.args.x ∷ c.args.y ∷ []) =
    All-cons P c.args.x (c.args.y ∷ []) (sort-there ks t.sort c.args.x.1 t.left) (All-cons P c.args.y [] (sort-there ks t.sort c.args.y.1 t.right) (All-nil P)) in
    rw (c.from_vec.ensures, c.in_ok-edges.ensures.items) both

pub returns-clause-sort : goal.returns-clause-sort
returns-clause-sort c = λ s left right.
    let P : Lit × CellId → Type 0 = λ e. OfSort c.args.b.now.arena.kinds s e.1 in
    let both : All P (c.args.x ∷ c.args.y ∷ []) = All-cons P c.args.x (c.args.y ∷ []) left (All-cons P c.args.y [] right (All-nil P)) in
    sort-set _ _ _ s _ c.in_ok-id.ensures.cell c.in_ok-id.ensures.grows (rw (c.from_vec.ensures, c.in_ok-edges.ensures.items) both)
