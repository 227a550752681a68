use Rattle.std.proofs.Common.{List, ℕ, [], subst, sym}
use Rattle.cell_arena.proofs.Growing.{Grows-trans}
use Rattle.cell_merge.proofs.SortLaws.{OfSort-later}
use Rattle.typed_cells.specs.Known.{IsTextAmong}
use Rattle.function_rewriter.proofs.KnownValues.{texts-later}
use Rattle.function_operators.proofs.Firsts.{first_shown, first_sorts, place_gives}
use Rattle.typed_cells.specs.KindSorts.{sort_of}
use Rattle.cell_merge.specs.Sorts.{sequence_of}
use Rattle.function_operators.proofs.sequences.first.Goals as goal

pub at_place-requires : goal.at_place-requires
at_place-requires c = record {
  sort = c.requires.sequence.sort;
  sequence = OfSort-later c.args.b.now c.known_number.new.b
      (sequence_of c.requires.sequence.sort) c.args.s c.requires.sequence.is c.in_ok-one.ensures.grows;
  index = c.in_ok-one.ensures.cell.sort;
}

pub or_default-requires-clause-text : goal.or_default-requires-clause-text
or_default-requires-clause-text c =
    subst (λ (ts : List (List ℕ)). IsTextAmong ts [])
    (sym (texts-later c.args.b.now _
    (Grows-trans _ _ _ c.in_ok-one.ensures.grows c.in_ok-found.ensures.grows))) c.requires.text

pub returns-clause-row : goal.returns-clause-row
returns-clause-row c =
    let b = c.args.b.now in
    let d = c.known_number.new.b in
    let g = c.in_ok-one.ensures.grows in
    let later = Grows-trans _ _ _ c.in_ok-found.ensures.grows c.in_ok-cells.ensures.grows in
    let one = c.in_ok-one.ensures.cell in
    first_shown b d _ c.args.s c.in_ok-one.one c.in_ok-one.field-0-1 _ c.requires.sequence g later one
    (c.in_ok-cells.ensures.shows _ (place_gives b d c.at_place.new.b c.args.s c.in_ok-one.one _ c.requires.sequence g
    c.in_ok-found.ensures.none.0 c.in_ok-found.ensures.applies))

pub returns-clause-cells : goal.returns-clause-cells
returns-clause-cells c = λ k h e. c.in_ok-cells.ensures.cells k e
    (first_sorts c.args.b.now c.known_number.new.b c.at_place.new.b c.args.s c.in_ok-one.one
    (sort_of k) c.in_ok-found.found
    c.in_ok-one.ensures.grows h c.in_ok-found.ensures.applies)
