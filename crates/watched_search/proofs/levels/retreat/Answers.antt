use Rattle.watched_search.proofs.LevelLemmas.{back_to_cut, back_to_start, back_to_none}
use Rattle.watched_search.proofs.levels.retreat.Goals as goal

pub returns-then-start-keep-clause-kept : goal.returns-then-start-keep-clause-kept
returns-then-start-keep-clause-kept c = λ w kept.
    rw c.back.ensures.kept (back_to_cut w c.args.trail.now c.args.progress c.args.keep c.in-Some.start c.requires c.in-Some.ensures.first c.if-start-keep.true kept)

pub returns-in-Some-top_start-clause-kept : goal.returns-in-Some-top_start-clause-kept
returns-in-Some-top_start-clause-kept c = λ w kept.
    rw c.back.ensures.kept (back_to_start w c.args.trail.now c.args.progress c.args.keep c.in-Some-top_start.start c.requires
    (rw c.back.ensures.kept at c.in-Some-top_start.ensures.sound).starts.rising (rw c.back.ensures.kept at c.in-Some-top_start.ensures.last) kept)

pub returns-in-None-clause-kept : goal.returns-in-None-clause-kept
returns-in-None-clause-kept c = λ w kept.
    rw c.back.ensures.kept (back_to_none w c.args.trail.now c.args.keep (rw c.back.ensures.kept at c.in-None.ensures.last))
