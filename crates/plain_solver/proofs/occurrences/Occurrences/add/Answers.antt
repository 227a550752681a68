use Rattle.std.proofs.Common.{◌≡◌, ℕ, ◌+◌, ◌*◌, ◌<◌, ◌∙◌, [], length, take, get_or, arith, ap}
use Rattle.std.proofs.lemmas.List.{take_more, get_or_default}
use Rattle.sat_formula.specs.declared.lit.Lit.{Lit}
use Rattle.plain_solver.specs.inner.Occurrences.{code_of, places_at}
use Rattle.watched_search.proofs.TrailLemmas.{no_entry}
use Rattle.plain_solver.proofs.OccurrenceLemmas.{adds_more, code_below}
use Rattle.plain_solver.proofs.occurrences.Occurrences.add.Goals as goal

pub loop-l-preserved : goal.loop-l-preserved
loop-l-preserved c =
    let lists = c.loop-l.self-inside.lists.items in
    let l : Lit = get_or c.args.lits.now c.loop-l.l-index no_entry.lit in
    let more = take_more c.args.lits.now c.loop-l.l-index no_entry.lit c.loop-l-test.true in
    let within : 2 * l.var + 1 < length c.self.inside.lists.items = rw (← c.self.view_is) at (c.requires c.loop-l.l-index no_entry.lit c.loop-l-test.true) in
    let size = c.loop-l.invariant.size in
    let below : code_of l < length lists = code_below l (length lists) (omega arith) in
    let here : c.code.result < length lists = rw c.code.ensures below in
    let read : c.index_mut.result.now ≡ places_at lists l = c.index_mut.ensures.value ∙ get_or_default lists c.code.result _ [] here ∙ ap (λ (n : ℕ). get_or lists n []) c.code.ensures in
    rw (more, c.in_ok-push.ensures.added, read, c.code.ensures)
    (adds_more c.self.inside.lists.items lists (take c.loop-l.l-index c.args.lits.now) l c.args.place c.loop-l.invariant below)
