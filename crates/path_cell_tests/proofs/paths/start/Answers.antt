use Rattle.std.proofs.Common.{◌∙◌}
use Rattle.path_cell_tests.proofs.ReadyPaths.{kept-extent, none-kept, ready-start, start-sorts}
use Rattle.path_cell_tests.proofs.paths.start.Goals as goal

pub rewritten-requires-clause-ready : goal.rewritten-requires-clause-ready
rewritten-requires-clause-ready c =
    let k = none-kept _ c.from_vec-none.result (c.from_vec-none.ensures ∙ c.in_ok-empty.ensures) in
    let e = kept-extent c.from_vec-none.result c.from_vec-none.result k k in
    ready-start c.args.b.now.arena.kinds c.args.types.now _ c.args.path.now c.in_ok-bounded.bounded _ _ e.0
    (c.in_ok-bounded.ensures e.0 e.1)
    c.requires.tested c.new-now.ensures (c.from_vec-next.ensures ∙ c.in_ok-blank.ensures) c.new-bound.ensures

pub returns-clause-sorts : goal.returns-clause-sorts
returns-clause-sorts c =
    let k = none-kept _ c.from_vec-none.result (c.from_vec-none.ensures ∙ c.in_ok-empty.ensures) in
    let e = kept-extent c.from_vec-none.result c.from_vec-none.result k k in
    start-sorts c.rewritten.new.b c.args.types.now _ c.args.path.now c.in_ok-bounded.bounded _ _ e.0
    (c.in_ok-bounded.ensures e.0 e.1)
    c.requires.tested (c.from_vec-next.ensures ∙ c.in_ok-blank.ensures) _ c.in_ok-x.ensures.sorts
