use Rattle.std.proofs.Common.{arith}
use Rattle.std.proofs.lemmas.List.Elements.{All-weaker}
use Rattle.sat_formula.specs.Lit.{IsBelow}
use Rattle.cell_arena.proofs.Growing.{Grows-trans}
use Rattle.cell_merge.specs.Sorts.{truth}
use Rattle.function_tests.proofs.Shaped.{places-more}
use Rattle.function_tests.proofs.sequences.truths.Goals as goal

pub loop-i-preserved : goal.loop-i-preserved
loop-i-preserved c =
    let i = c.loop-i.invariant in
    let r = c.in_ok-place.ensures in
    let more = r.grows.formula.vars in
    record {
      grows = Grows-trans _ _ _ i.grows r.grows;
      bits = All-weaker (IsBelow _) (IsBelow _) (λ l h. omega arith) c.args.bits.now i.bits;
      cells = places-more truth _ _ _ _ _ i.cells r.grows r.sort c.in_ok-push.ensures.items;
    }
