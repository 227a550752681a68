use Rattle.std.proofs.Common.{refl}
use Rattle.cell_arena.proofs.Growing.{Grows-trans}
use Rattle.cell_merge.specs.Sorts.{number}
use Rattle.cell_merge.proofs.SortLaws.{OfSort-later, sort-set}
use Rattle.function_tests.proofs.Shaped.{both-edges}
use Rattle.function_tests.proofs.Arrowed.{both-numbers, edges-counted}
use Rattle.function_tests.proofs.arrows.images.Goals as goal

pub returns-clause-set : goal.returns-clause-set
returns-clause-set c =
    let x = OfSort-later _ _ number _ (OfSort-later _ _ number _ (OfSort-later _ _ number _ c.in_ok-x.ensures.sort c.in_ok-y.ensures.grows) c.in_ok-v.ensures.grows) c.in_ok-w.ensures.grows in
    let y = OfSort-later _ _ number _ (OfSort-later _ _ number _ c.in_ok-y.ensures.sort c.in_ok-v.ensures.grows) c.in_ok-w.ensures.grows in
    sort-set _ _ _ number _ c.in_ok-id.ensures.cell c.in_ok-id.ensures.grows (rw (c.from_vec.ensures, c.in_ok-edges.ensures.items) (both-edges _ number (c.literal_of-l.result, c.in_ok-x.x) (c.literal_of-m.result, c.in_ok-y.y) x y))

pub returns-clause-count : goal.returns-clause-count
returns-clause-count c = edges-counted _ _ _ _ _ c.in_ok-id.ensures.cell (rw (c.from_vec.ensures, c.in_ok-edges.ensures.items, c.in_ok-results.ensures.items) refl)

pub returns-clause-results : goal.returns-clause-results
returns-clause-results c =
    let v = OfSort-later _ _ number _ (OfSort-later _ _ number _ c.in_ok-v.ensures.sort c.in_ok-w.ensures.grows) c.in_ok-id.ensures.grows in
    let w = OfSort-later _ _ number _ c.in_ok-w.ensures.sort c.in_ok-id.ensures.grows in
    rw c.in_ok-results.ensures.items (both-numbers _ _ _ v w)

pub returns-in_err-id-clause-grows : goal.returns-in_err-id-clause-grows
returns-in_err-id-clause-grows c =
    Grows-trans _ _ _ (Grows-trans _ _ _ (Grows-trans _ _ _ c.in_ok-x.ensures.grows c.in_ok-y.ensures.grows) (Grows-trans _ _ _ c.in_ok-v.ensures.grows c.in_ok-w.ensures.grows)) c.in_err-id.ensures.grows

pub returns-clause-grows : goal.returns-clause-grows
returns-clause-grows c =
    Grows-trans _ _ _ (Grows-trans _ _ _ (Grows-trans _ _ _ c.in_ok-x.ensures.grows c.in_ok-y.ensures.grows) (Grows-trans _ _ _ c.in_ok-v.ensures.grows c.in_ok-w.ensures.grows)) c.in_ok-id.ensures.grows
