use Rattle.std.proofs.Common.{◌+◌, List, drop, map, subst, sym, take}
use Rattle.std.proofs.lemmas.Result.{err_from_is_err_and}
use Rattle.snowcat_types.specs.Systems.{Entry}
use Rattle.snowcat_types.specs.inner.Gathered.{entries_of, entry_of, system_of_built}
use Rattle.snowcat_types.specs.inner.Runs.{HasVisited}
use Rattle.snowcat_types.proofs.Listed.{all_taken, apart_of, taken_of}
use Rattle.snowcat_types.proofs.Naming.{entry_named}
use Rattle.snowcat_types.proofs.Reaching.{all_visited, entry_issued}
use Rattle.snowcat_types.proofs.solving.visit_all.Goals as goal

pub visit-requires-clause-inside : goal.visit-requires-clause-inside
visit-requires-clause-inside c =
    entry_issued (system_of_built c.args.system.now) (take c.loop-i.i (entries_of c.args.system.now.entries))
    (drop (c.loop-i.i + 1) (entries_of c.args.system.now.entries)) (entry_of c.index-entries-i.result) _ c.loop-i.subst
    (apart_of entry_of c.args.system.now.entries c.as_slice-entries.result.now c.loop-i.i c.index-entries-i.result c.as_slice-entries.ensures
    c.loop-i-test.true c.index-entries-i.is) c.loop-i.invariant

pub visit-requires-clause-named : goal.visit-requires-clause-named
visit-requires-clause-named c =
    entry_named c.args.system.now.entries c.as_slice-entries.result.now c.loop-i.i c.index-entries-i.result c.requires.named
    c.as_slice-entries.ensures c.loop-i-test.true c.index-entries-i.is

pub returns-in_err-visit-clause-fault : goal.returns-in_err-visit-clause-fault
returns-in_err-visit-clause-fault c =
    let p = err_from_is_err_and c.from_residual.result c.from_residual.ensures.1 in
    rw (p.1, p.2)
    (c.in_err-visit.ensures (system_of_built c.args.system.now) (take c.loop-i.i (entries_of c.args.system.now.entries))
    (drop (c.loop-i.i + 1) (entries_of c.args.system.now.entries))
    (apart_of entry_of c.args.system.now.entries c.as_slice-entries.result.now c.loop-i.i c.index-entries-i.result c.as_slice-entries.ensures
    c.loop-i-test.true c.index-entries-i.is) c.loop-i.invariant)

pub loop-i-preserved : goal.loop-i-preserved
loop-i-preserved c =
    let P : List Entry → Type 0 = λ z. HasVisited (system_of_built c.args.system.now) z (map (λ w. w.now) c.visit.new.waits.items) c.visit.new.subst in
    subst P
    (sym (taken_of entry_of c.args.system.now.entries c.as_slice-entries.result.now c.loop-i.i c.index-entries-i.result c.as_slice-entries.ensures
    c.loop-i-test.true c.index-entries-i.is))
    (c.in_ok-visit.ensures (system_of_built c.args.system.now) (take c.loop-i.i (entries_of c.args.system.now.entries))
    (drop (c.loop-i.i + 1) (entries_of c.args.system.now.entries))
    (apart_of entry_of c.args.system.now.entries c.as_slice-entries.result.now c.loop-i.i c.index-entries-i.result c.as_slice-entries.ensures
    c.loop-i-test.true c.index-entries-i.is) c.loop-i.invariant)

pub returns-clause-visited : goal.returns-clause-visited
returns-clause-visited c =
    let P : List Entry → Type 0 = λ z. HasVisited (system_of_built c.args.system.now) z (map (λ w. w.now) c.loop-i.waits.items) c.loop-i.subst in
    all_visited (system_of_built c.args.system.now) (map (λ w. w.now) c.loop-i.waits.items) c.loop-i.subst
    (subst P (all_taken entry_of c.args.system.now.entries c.as_slice-entries.result.now c.loop-i.i c.as_slice-entries.ensures c.loop-i-test.false)
    c.loop-i.invariant)
