use Rattle.std.proofs.Common.{◌≤◌, arith}
use Rattle.std.proofs.lemmas.List.Elements.{All-push, All-weaker}
use Rattle.sat_formula.specs.Lit.{IsBelow}
use Rattle.cell_arena.proofs.Growing.{Grows-trans}
use Rattle.cell_merge.specs.Sorts.{OfSort}
use Rattle.cell_tests.specs.Kinds.{sort_of}
use Rattle.cell_tests.proofs.MemberSorts.{sorts-later}
use Rattle.cell_tests.proofs.sets.elements.Goals as goal

pub loop-code-preserved : goal.loop-code-preserved
loop-code-preserved c =
    let i = c.loop-code.invariant in
    let r = c.in_ok-cell.ensures in
    let b = c.element.new.b in
    let m = c.loop-code.b.formula.vars in
    let n = b.formula.vars in
    let more : m ≤ n = r.grows.formula.vars in
    record {
      grows = Grows-trans _ _ _ i.grows r.grows;
      bits = All-weaker (IsBelow m) (IsBelow n) (λ l h. omega arith) c.args.bits.now i.bits;
      sorts = rw c.in_ok-push.ensures.items (All-push (OfSort b.arena.kinds (sort_of c.args.kind)) c.loop-code.list.items c.in_ok-cell.cell (sorts-later c.loop-code.b b (sort_of c.args.kind) c.loop-code.list.items i.sorts r.grows) r.sort);
    }
