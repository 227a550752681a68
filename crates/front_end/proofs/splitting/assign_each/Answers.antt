use Rattle.std.proofs.Common.{List, [], ◌∷◌, ◌++◌, ◌∙◌, ap}
use Rattle.std.proofs.lemmas.Result.{err_from_is_err_and}
use Rattle.kernel_trees.specs.declared.path.Assigned.{Assigned}
use Rattle.front_end.proofs.Splits.{next_assigned, refused_at}
use Rattle.front_end.proofs.splitting.assign_each.Goals as goal

pub returns-in_err-reserve : goal.returns-in_err-reserve
returns-in_err-reserve c =
    let p = err_from_is_err_and c.from_residual.result c.from_residual.ensures.1 in
    rw (p.1, p.2) (refused_at c.args.kind c.args.names.now c.args.paths.now c.as_slice-given.result.now c.loop-path.path-index c.path-item.result
    c.loop-path.found.items _ c.as_slice-given.ensures c.loop-path-test.true c.path-item.is c.loop-path.invariant tt)

pub returns-in_err-next : goal.returns-in_err-next
returns-in_err-next c =
    let p = err_from_is_err_and c.from_residual-in_err-next.result c.from_residual-in_err-next.ensures.1 in
    rw (p.1, p.2) (refused_at c.args.kind c.args.names.now c.args.paths.now c.as_slice-given.result.now c.loop-path.path-index c.path-item.result
    c.loop-path.found.items c.in_err-next.field-0.0 c.as_slice-given.ensures c.loop-path-test.true c.path-item.is c.loop-path.invariant c.in_err-next.ensures)

pub loop-path-preserved : goal.loop-path-preserved
loop-path-preserved c =
    next_assigned c.args.kind c.args.names.now c.as_slice-given.result.now c.loop-path.path-index c.path-item.result c.in_ok-next.next
    c.loop-path.found.items c.push_reserved.new.self.items c.loop-path-test.true c.path-item.is c.loop-path.invariant c.in_ok-next.ensures
    (c.push_reserved.ensures.items ∙ ap (λ (zs : List Assigned). zs ++ c.in_ok-next.next ∷ []) c.in_ok-reserve.ensures.items)
