use Rattle.std.proofs.Common.{List, ℕ, ◌∙◌, sym, subst, arith}
use Rattle.cell_arena.specs.declared.kinds.CellId.{CellId}
use Rattle.typed_cells.specs.inner.Places.{IsFieldPlace}
use Rattle.typed_cells.proofs.composites.put_field.Goals as goal

pub insert-requires : goal.insert-requires
insert-requires c = let h = c.place_of-at.ensures.within in omega (arith, h, c.as_slice.ensures.len)

pub returns : goal.returns
returns c =
    let P : List (List ℕ × CellId) → Type 0 = λ fs. IsFieldPlace c.args.name fs c.place_of-at.result in
    let place = subst P c.as_slice.ensures.value c.place_of-at.ensures in
    c.in_ok-insert.ensures.items ∙ sym (place.put c.args.cell)
