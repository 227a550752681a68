use Rattle.std.proofs.Common.{◌≡◌, ◌∙◌, ap, ◌<◌, arith, ℤ, pos, ◌+ℤ◌}
use Rattle.std.proofs.lemmas.Int.{to_z-of_z}
use mir.Syntax.{w128}
use Rattle.cell_arena.proofs.Growing.{Grows-trans}
use Rattle.cell_merge.specs.Sorts.{number}
use Rattle.cell_merge.proofs.SortLaws.{sort-set}
use Rattle.set_rewriter.proofs.Numbers.{numbers-later, row-fits, candidates-more, candidates-passed, count-same, range-value}
use Rattle.set_rewriter.proofs.ranges.range.Goals as goal

pub candidate-requires-clause-types : goal.candidate-requires-clause-types
candidate-requires-clause-types c = numbers-later _ _ _ _ c.requires.numbers c.loop-i.invariant.grows

pub candidate-requires-clause-fits : goal.candidate-requires-clause-fits
candidate-requires-clause-fits c =
    let lt : c.loop-i.i < c.in_ok-count.count = omega arith in
    let low = to_z-of_z w128 c.args.low c.ranges.low in
    let high = to_z-of_z w128 c.args.high c.ranges.high in
    row-fits c.args.b.now c.loop-i.b c.args.low c.args.high _ _ c.loop-i.i c.in_ok-count.count c.loop-i.invariant.grows c.requires.low_fits c.requires.high_fits (count-same _ _ _ _ _ c.in_ok-count.ensures low high) lt
    (c.number_at-n.ensures ∙ ap (λ (z : ℤ). z +ℤ pos c.loop-i.i) low) (to_z-of_z w128 c.number_at-n.result (record { sfits = c.number_at-n.type_inv }))

pub loop-i-preserved-in-Some-false : goal.loop-i-preserved-in-Some-false
loop-i-preserved-in-Some-false c =
    let i = c.loop-i.invariant in
    record {
      grows = Grows-trans _ _ _ i.grows c.in_ok-edge.ensures.grows;
      candidates = candidates-passed _ _ _ c.args.x c.args.y _ _ c.loop-i.i _ _ c.requires.numbers i.grows c.in_ok-edge.ensures.grows (to_z-of_z w128 c.number_at-n.result (record { sfits = c.number_at-n.type_inv }) ∙ c.number_at-n.ensures) i.candidates c.in_ok-edge.ensures.candidate
          (λ a s. c.in-Some-false.ensures.value a s ∙ c.in-Some-false.field-0-test);
    }

pub loop-i-preserved : goal.loop-i-preserved
loop-i-preserved c =
    let i = c.loop-i.invariant in
    record {
      grows = Grows-trans _ _ _ i.grows c.in_ok-edge.ensures.grows;
      candidates = candidates-more _ _ _ c.args.x c.args.y _ _ c.loop-i.i _ _ _ c.requires.numbers i.grows c.in_ok-edge.ensures.grows (to_z-of_z w128 c.number_at-n.result (record { sfits = c.number_at-n.type_inv }) ∙ c.number_at-n.ensures) i.candidates c.in_ok-edge.ensures.candidate c.in_ok-push.ensures.items;
    }

pub returns-clause-value : goal.returns-clause-value
returns-clause-value c =
    let low = to_z-of_z w128 c.args.low c.ranges.low in
    let high = to_z-of_z w128 c.args.high c.ranges.high in
    let all : c.loop-i.i ≡ c.in_ok-count.count = omega arith in
    range-value _ c.loop-i.b _ c.args.x c.args.y _ _ _ _ _ _ _ _ _ c.from_vec.ensures all c.in_ok-count.ensures low high c.loop-i.invariant.candidates c.in_ok-id.ensures.grows c.in_ok-id.ensures.value

pub returns-clause-sort : goal.returns-clause-sort
returns-clause-sort c = sort-set _ _ _ number _ c.in_ok-id.ensures.cell c.in_ok-id.ensures.grows (rw c.from_vec.ensures c.loop-i.invariant.candidates.cells)
