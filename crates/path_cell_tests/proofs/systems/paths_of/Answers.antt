use Rattle.std.proofs.Common.{List, [], ◌∷◌, ◌++◌, All, ◌∙◌, ap, subst, sym}
use Rattle.std.proofs.lemmas.List.Elements.{All-push}
use Rattle.kernel_trees.specs.declared.path.Assigned.{Assigned}
use Rattle.kernel_trees.specs.ActionNames.{marks_of}
use Rattle.path_cell_tests.specs.Tested.{IsPathOf}
use Rattle.path_cell_tests.proofs.TestedPaths.{path-of}
use Rattle.path_cell_tests.proofs.systems.paths_of.Goals as goal

pub loop-i-preserved : goal.loop-i-preserved
loop-i-preserved c =
    subst (All (IsPathOf (marks_of c.args.kind c.args.names.now) c.args.part.now))
    (sym (c.push_reserved.ensures.items ∙ ap (λ (zs : List Assigned). zs ++ c.in_ok-next.next ∷ [])
    c.in_ok-reserve.ensures.items))
    (All-push (IsPathOf (marks_of c.args.kind c.args.names.now) c.args.part.now) c.loop-i.assigned.items
    c.in_ok-next.next c.loop-i.invariant
    (path-of (marks_of c.args.kind c.args.names.now) c.args.part.now c.as_slice-split.result.now c.loop-i.i
    c.index-split-i.result c.in_ok-next.next
    (c.as_slice-split.ensures ∙ c.in_ok-paths.ensures.0) c.loop-i-test.true c.index-split-i.is c.in_ok-next.ensures))

pub returns : goal.returns
returns c = subst (All (IsPathOf (marks_of c.args.kind c.args.names.now) c.args.part.now)) (sym c.from_vec.ensures)
    c.loop-i.invariant
