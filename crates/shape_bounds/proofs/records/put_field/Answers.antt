use Rattle.std.proofs.Common.{List, ℕ, subst, arith}
use Rattle.shape_bounds.specs.inner.Table.{IsPlace}
use Rattle.kernel_shapes.specs.declared.bounds.Shape.{Shape as Code}
use Rattle.shape_bounds.proofs.Fielded.{fields_put}
use Rattle.shape_bounds.proofs.records.put_field.Goals as goal

pub insert-requires : goal.insert-requires
insert-requires c = let h = c.place_of-at.ensures.within in omega (arith, h, c.as_slice.ensures.len)

pub returns : goal.returns
returns c =
    let P : List (List ℕ × Code) → Type 0 = λ fs. IsPlace c.args.name fs c.place_of-at.result in
    fields_put c.args.name c.args.value c.args.fields.now.items c.insert.new.self.items c.place_of-at.result
    (subst P c.as_slice.ensures.value c.place_of-at.ensures) c.in_ok-insert.ensures.items
