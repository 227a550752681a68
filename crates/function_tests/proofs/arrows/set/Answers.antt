use Rattle.std.proofs.Common.{◌≤◌, arith}
use Rattle.std.proofs.lemmas.List.Elements.{All-push, All-weaker}
use Rattle.sat_formula.specs.declared.lit.Lit.{Lit}
use Rattle.sat_formula.specs.Lit.{IsBelow}
use Rattle.cell_arena.specs.declared.kinds.CellId.{CellId}
use Rattle.cell_arena.proofs.Growing.{Grows-trans}
use Rattle.cell_merge.specs.Sorts.{OfSort, number}
use Rattle.cell_merge.proofs.SortLaws.{sort-set}
use Rattle.cell_merge.proofs.Layering.{LeadTo-later}
use Rattle.cell_merge.proofs.Unions.{AreNamed-later}
use Rattle.function_tests.proofs.arrows.set.Goals as goal

pub loop-i-preserved : goal.loop-i-preserved
loop-i-preserved c =
    let i = c.loop-i.invariant in
    let r = c.in_ok-cell.ensures in
    let b = c.number.new.b in
    let m = c.loop-i.b.formula.vars in
    let n = b.formula.vars in
    let more : m ≤ n = r.grows.formula.vars in
    let list = c.loop-i.list.items in
    let edge : Lit × CellId = (c.literal_of-l.result, c.in_ok-cell.cell) in
    record {
      grows = Grows-trans _ _ _ i.grows r.grows;
      bits = All-weaker (IsBelow m) (IsBelow n) (λ l h. omega arith) c.args.bits.now i.bits;
      cells = rw c.in_ok-push.ensures.items (All-push (λ (e : Lit × CellId). OfSort b.arena.kinds number e.1) list edge (LeadTo-later c.loop-i.b b number list i.cells r.grows) r.sort);
      named = rw c.in_ok-push.ensures.items (All-push (λ (e : Lit × CellId). IsBelow n e.0) list edge (AreNamed-later m n list i.named more) c.literal_of-l.ensures);
    }

pub returns-clause-sort : goal.returns-clause-sort
returns-clause-sort c = sort-set _ _ _ number _ c.in_ok-id.ensures.cell c.in_ok-id.ensures.grows (rw c.from_vec.ensures c.loop-i.invariant.cells)
