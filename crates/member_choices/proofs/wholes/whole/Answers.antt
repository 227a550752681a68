use Rattle.std.proofs.Common.{false, true, ◌≡◌, sym, ◌∙◌}
use Rattle.typed_cells.proofs.PartSorts.{sorts-there}
use Rattle.member_choices.proofs.Tupled.{whole-one, whole-several}
use Rattle.member_choices.proofs.wholes.whole.Goals as goal
use Rattle.member_choices.proofs.wholes.whole.Goals.{else-alone-via-then-alone+else-cells-eq1}
use Rattle.member_choices.proofs.wholes.whole.Goals.{else-alone-via-else-alone}

pub returns-then-cells-eq1-clause-whole : goal.returns-then-cells-eq1-clause-whole
returns-then-cells-eq1-clause-whole c = whole-one c.args.b.now c.args.alone c.args.cells.now _ c.requires
    c.if-alone.true c.if-cells-eq1.true

pub tuple_of_cells-requires : goal.tuple_of_cells-requires
tuple_of_cells-requires c = rw c.in_ok-parts.ensures.items
    (sorts-there _ c.requires.sorts c.args.cells.now c.requires.are)

pub returns-clause-whole : goal.returns-clause-whole
returns-clause-whole c =
    whole-several c.args.b.now _ c.args.alone c.args.cells.now _ _
    (λ e n. elim c.else-alone.branch [
      | else-alone-via-then-alone+else-cells-eq1 w ↦ w.if-cells-eq1.false n
      | else-alone-via-else-alone w ↦ let f : true ≡ false = sym e ∙ w.if-alone.false in absurd (cc)
    ])
    c.in_ok-parts.ensures.items c.in_ok-id.ensures.value c.in_ok-id.ensures.sort
