use Rattle.std.proofs.Common.{◌∙◌, ap, map}
use Rattle.kernel_trees.specs.Paths.{path_of}
use Rattle.kernel_trees.specs.ActionNames.{marks, marks_of}
use Rattle.transition_splitter.specs.inner.Routes.{ways_by}
use Rattle.transition_splitter.proofs.Answering.{answered, refused, same_marks}
use Rattle.transition_splitter.proofs.splitter.split.Goals as goal

pub returns-then-number-gt-MOST_PATHS : goal.returns-then-number-gt-MOST_PATHS
returns-then-number-gt-MOST_PATHS c =
    let same = same_marks c.marks_of-marked.result c.args.kind c.as_slice-declared.result.now c.args.names.now c.as_slice-declared.ensures
    c.marks_of-marked.ensures.declared c.marks_of-marked.ensures.assignable in
    refused (marks c.marks_of-marked.result) (marks_of c.args.kind c.args.names.now) c.args.part.now c.count.result
    c.total-number.result same c.count.ensures c.total-number.ensures c.if-number-gt-MOST_PATHS.true

pub returns : goal.returns
returns c =
    let same = same_marks c.marks_of-marked.result c.args.kind c.as_slice-declared.result.now c.args.names.now c.as_slice-declared.ensures
    c.marks_of-marked.ensures.declared c.marks_of-marked.ensures.assignable in
    answered (marks c.marks_of-marked.result) (marks_of c.args.kind c.args.names.now) c.args.part.now c.count.result
    c.total-number.result same c.count.ensures c.total-number.ensures c.in_ok-paths.paths
    c.if-number-gt-MOST_PATHS.false
    (c.in_ok-paths.ensures
    ∙ ap (map (path_of c.args.part.now)) (ap ways_by c.as_slice-found.ensures.value ∙ c.in_ok-made.ensures))
