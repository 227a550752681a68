use Rattle.std.proofs.Common.{◌-◌, ◌++◌, ◌∷◌, [], None, length, ap, arith}
use Rattle.std.proofs.lemmas.List.{length_push}
use Rattle.watched_search.specs.declared.entry.Entry.{Entry}
use Rattle.watched_search.proofs.KeepLemmas.{IsKept-push}
use Rattle.watched_search.proofs.LevelLemmas.{IsKept-start}
use Rattle.watched_search.proofs.levels.decide.Goals as goal

pub returns-then-head-count-clause-kept : goal.returns-then-head-count-clause-kept
returns-then-head-count-clause-kept c = λ w p at kept.
    let e : Entry = record { lit = c.args.l; reason = None } in
    let t = c.args.trail.now in
    let size = length_push t.entries e in
    let same = ap length c.entries-count.ensures.same in
    let start = length (t.entries ++ e ∷ []) - 1 in
    rw (c.note_start.ensures, c.push.ensures) (IsKept-push w (record t { starts = t.starts ++ start ∷ [] }) p e (IsKept-start w t p start (omega arith) (omega arith) kept))

pub returns-else-head-count-clause-kept : goal.returns-else-head-count-clause-kept
returns-else-head-count-clause-kept c = λ w p at kept. rw c.push.ensures (IsKept-push w c.args.trail.now p (record { lit = c.args.l; reason = None }) kept)
