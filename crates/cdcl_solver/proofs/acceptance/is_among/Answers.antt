use Rattle.std.proofs.Common.{◌∙◌, lt-ltb, ltb-true, sym, ◌<◌, arith}
use Rattle.std.proofs.lemmas.Bool.{false≢true}
use Rattle.watched_search.proofs.TrailLemmas.{no_entry}
use Rattle.cdcl_solver.proofs.AcceptanceLemmas.{among_here, among_none, among_place, same_test, same_tested}
use Rattle.cdcl_solver.proofs.acceptance.is_among.Goals as goal

pub returns-in-None : goal.returns-in-None
returns-in-None c = (λ t. absurd (false≢true t), λ has. absurd (among_none c.args.search.now.entries c.args.l c.args.count c.in-None.ensures has))

pub returns-then-k-count : goal.returns-then-k-count
returns-then-k-count c =
    let at = c.in-Some.ensures in
    let test = rw c.entries-entries.ensures.same at c.eq.ensures in (
      λ t. among_here c.args.search.now.entries c.args.l c.in-Some.k c.args.count no_entry at.0 c.if-k-count.true (same_test _ _ (sym test ∙ t)),
      λ has. test ∙ same_tested _ _ (among_place c.args.search.now.entries c.args.l c.in-Some.k c.args.count c.entries-entries.ensures.sound.distinct at has).1,
    )

pub returns-else-k-count : goal.returns-else-k-count
returns-else-k-count c =
    let at = c.in-Some.ensures in (
      λ t. let lt : c.in-Some.k < c.args.count = ltb-true c.in-Some.k c.args.count t in let ge = c.if-k-count.false in absurd (omega arith),
      λ has.
          let here = among_place c.args.search.now.entries c.args.l c.in-Some.k c.args.count c.entries-entries.ensures.sound.distinct at has in
          lt-ltb c.in-Some.k c.args.count here.0,
    )
