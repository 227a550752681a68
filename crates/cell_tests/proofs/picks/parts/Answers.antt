use Rattle.std.proofs.Common.{[], ◌∷◌, length, ap, ◌∙◌, sym}
use Rattle.std.proofs.lemmas.List.Elements.{All-nil, All-cons}
use Rattle.cell_arena.specs.declared.kinds.CellId.{CellId}
use Rattle.cell_arena.specs.declared.kinds.CellKind.{CellKind}
use Rattle.cell_arena.proofs.Growing.{kind-before, Grows-trans}
use Rattle.cell_merge.specs.Sorts.{OfSort, number, set_of}
use Rattle.cell_merge.proofs.SortLaws.{OfSort-later}
use Rattle.cell_merge.specs.Edges.{edges_of}
use Rattle.cell_tests.proofs.picks.parts.Goals as goal

pub map-requires-clause-set : goal.map-requires-clause-set
map-requires-clause-set c = record { sort = number; is = OfSort-later _ _ (set_of number) _ c.in_ok-x.ensures.sort c.in_ok-kept.ensures.grows }

pub map-requires-clause-images : goal.map-requires-clause-images
map-requires-clause-images c =
    let y = c.in_ok-x.y in
    let P : CellId → Type 0 = OfSort c.filter.new.b.arena.kinds number in
    let last : P y = OfSort-later _ _ number y c.in_ok-x.ensures.last c.in_ok-kept.ensures.grows in
    let items = c.as_slice-2.ensures.value ∙ c.in_ok-images.ensures.items in
    let kind = kind-before _ _ c.in_ok-x.x c.in_ok-kept.ensures.grows c.in_ok-x.ensures.sort.0 in
    record {
      count = ap length items ∙ sym (ap (λ (k : CellKind). length (edges_of k)) kind ∙ c.in_ok-x.ensures.count);
      sort = number;
      cells = rw items (All-cons P y (y ∷ []) last (All-cons P y [] last (All-nil P)));
    }

pub member-requires : goal.member-requires
member-requires c =
    let grows = Grows-trans _ _ _ c.in_ok-kept.ensures.grows c.in_ok-imaged.ensures.grows in
    record { sort = number; left = OfSort-later _ _ number _ c.in_ok-x.ensures.last grows; right = OfSort-later _ _ (set_of number) _ c.in_ok-x.ensures.sort grows }
