use Rattle.std.proofs.Common.{arith}
use Rattle.std.proofs.lemmas.List.Elements.{All-weaker}
use Rattle.sat_formula.specs.Lit.{IsBelow}
use Rattle.cell_arena.proofs.Growing.{Grows-trans}
use Rattle.cell_merge.specs.Sorts.{number, truth}
use Rattle.cell_merge.proofs.SortLaws.{sort-function}
use Rattle.cell_merge.proofs.Ends.{arrows-there}
use Rattle.function_tests.proofs.Shaped.{arrows-more, arrow-names-more}
use Rattle.function_tests.proofs.equalities.function.Goals as goal

pub loop-i-preserved : goal.loop-i-preserved
loop-i-preserved c =
    let i = c.loop-i.invariant in
    let r = c.in_ok-one.ensures in
    let more = r.grows.formula.vars in
    record {
      grows = Grows-trans _ _ _ i.grows r.grows;
      bits = All-weaker (IsBelow _) (IsBelow _) (λ l h. omega arith) c.args.bits.now i.bits;
      cells = arrows-more _ _ _ _ _ i.cells r.grows r.arrow c.in_ok-push.ensures.items;
      named = arrow-names-more _ _ _ _ _ i.named r.grows r.arrow c.in_ok-push.ensures.items;
    }

pub fun-requires-clause-named : goal.fun-requires-clause-named
fun-requires-clause-named c = rw c.from_vec.ensures c.loop-i.invariant.named

pub fun-requires-clause-older : goal.fun-requires-clause-older
fun-requires-clause-older c = rw c.from_vec.ensures (arrows-there _ number truth _ c.loop-i.invariant.cells)

pub returns-clause-sort : goal.returns-clause-sort
returns-clause-sort c = sort-function _ _ _ number truth _ c.in_ok-id.ensures.cell c.in_ok-id.ensures.grows (rw c.from_vec.ensures c.loop-i.invariant.cells)
