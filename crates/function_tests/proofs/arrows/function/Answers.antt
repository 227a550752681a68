use Rattle.std.proofs.Common.{◌≤◌, arith}
use Rattle.std.proofs.lemmas.List.Elements.{All-weaker}
use Rattle.sat_formula.specs.Lit.{IsBelow}
use Rattle.cell_arena.proofs.Growing.{Grows-trans}
use Rattle.cell_merge.specs.Sorts.{number}
use Rattle.cell_merge.proofs.SortLaws.{sort-function}
use Rattle.function_tests.proofs.Arrowed.{arrow-pushed, arrow-named, arrows-there}
use Rattle.function_tests.proofs.arrows.function.Goals as goal

pub loop-i-preserved : goal.loop-i-preserved
loop-i-preserved c =
    let i = c.loop-i.invariant in
    let r = c.in_ok-x.ensures in
    let s = c.in_ok-y.ensures in
    let b = c.number-in-loop-i.new.b in
    let m = c.loop-i.b.formula.vars in
    let n = b.formula.vars in
    let first : m ≤ c.number.new.b.formula.vars = r.grows.formula.vars in
    let second : c.number.new.b.formula.vars ≤ n = s.grows.formula.vars in
    let more : m ≤ n = omega arith in
    record {
      grows = Grows-trans _ _ _ i.grows (Grows-trans _ _ _ r.grows s.grows);
      bits = All-weaker (IsBelow m) (IsBelow n) (λ l h. omega arith) c.args.bits.now i.bits;
      cells = arrow-pushed _ _ b c.loop-i.list.items _ _ i.cells r.grows r.sort s.grows s.sort c.in_ok-push.ensures.items;
      named = arrow-named m n c.loop-i.list.items _ _ i.named more c.literal_of-l.ensures c.in_ok-push.ensures.items;
    }

pub fun-requires-clause-older : goal.fun-requires-clause-older
fun-requires-clause-older c = rw c.from_vec.ensures (arrows-there _ _ c.loop-i.invariant.cells)

pub returns-clause-sort : goal.returns-clause-sort
returns-clause-sort c = sort-function _ _ _ number number _ c.in_ok-id.ensures.cell c.in_ok-id.ensures.grows (rw c.from_vec.ensures c.loop-i.invariant.cells)
