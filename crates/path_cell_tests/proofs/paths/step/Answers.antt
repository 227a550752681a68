use Rattle.std.proofs.Common.{◌∙◌}
use Rattle.path_cell_tests.proofs.ReadyPaths.{kept-extent, none-kept, ready-step}
use Rattle.path_cell_tests.proofs.paths.step.Goals as goal

pub rewritten-requires-clause-ready : goal.rewritten-requires-clause-ready
rewritten-requires-clause-ready c =
    let k = none-kept _ c.from_vec-none.result (c.from_vec-none.ensures ∙ c.in_ok-empty.ensures) in
    let e = kept-extent c.args.shapes.now c.from_vec-none.result c.requires.path.1 k in
    ready-step c.args.b.now.arena.kinds c.args.types.now c.args.state.now _ c.args.path.now c.in_ok-bounded.bounded _
    _ e.0 (c.in_ok-bounded.ensures e.0 e.1)
    c.requires.path.0 c.requires.state (c.from_vec-now.ensures ∙ c.in_ok-current.ensures.items)
    (c.from_vec-next.ensures ∙ c.in_ok-blank.ensures) c.new-bound.ensures
