use Rattle.std.proofs.Common.{[], ◌∷◌, All}
use Rattle.std.proofs.lemmas.List.Elements.{All-nil, All-cons}
use Rattle.sat_formula.specs.declared.lit.Lit.{Lit}
use Rattle.cell_arena.specs.declared.kinds.CellId.{CellId}
use Rattle.cell_merge.specs.Sorts.{OfSort, number}
use Rattle.cell_merge.proofs.SortLaws.{OfSort-later, sort-set}
use Rattle.cell_tests.proofs.equality.pair.Goals as goal

pub returns-clause-sort : goal.returns-clause-sort
returns-clause-sort c =
    let ks = c.int-2.new.b.arena.kinds in
    let P : Lit × CellId → Type 0 = λ e. OfSort ks number e.1 in
    let one : Lit × CellId = (c.args.p, c.in_ok-x.x) in
    let two : Lit × CellId = (c.args.q, c.in_ok-y.y) in
    let first : P one = OfSort-later _ _ number c.in_ok-x.x c.in_ok-x.ensures.sort c.in_ok-y.ensures.grows in
    let second : P two = c.in_ok-y.ensures.sort in
    let both : All P (one ∷ two ∷ []) = All-cons P one (two ∷ []) first (All-cons P two [] second (All-nil P)) in
    sort-set _ _ _ number _ c.in_ok-id.ensures.cell c.in_ok-id.ensures.grows (rw (c.from_vec.ensures, c.in_ok-edges.ensures.items) both)
