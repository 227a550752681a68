use Rattle.std.proofs.Common.{◌<◌, ◌∙◌, length, arith, length-set, None}
use Rattle.watched_search.proofs.TrailLemmas.{Marked-pop, take-pop}
use Rattle.watched_search.proofs.TruthLemmas.{truths_popped, last_code}
use Rattle.watched_search.proofs.trail.take_back.Goals as goal

pub loop-entries-preserved-in-Some : goal.loop-entries-preserved-in-Some
loop-entries-preserved-in-Some c =
    let i = c.in-Some.ensures.items in
    let lt : c.args.keep < length c.loop-entries.entries.items = omega arith in
    record {
      marked = Marked-pop c.loop-entries.values.items _ c.in-Some.e (rw i at c.loop-entries.invariant.marked);
      truths = rw c.code_of.ensures (truths_popped c.loop-entries.values.items c.loop-entries.truths.items _ c.in-Some.e (rw i at c.loop-entries.invariant.marked) (rw i at c.loop-entries.invariant.truths));
      room = omega (arith, length-set c.loop-entries.values.items c.in-Some.e.lit.var None, c.loop-entries.invariant.room);
      front = take-pop c.args.keep _ c.in-Some.e (rw i at lt) ∙ (rw i at c.loop-entries.invariant.front);
      capacity = c.in-Some.ensures.capacity ∙ c.loop-entries.invariant.capacity;
    }

pub index_mut-requires-in-Some : goal.index_mut-requires-in-Some
index_mut-requires-in-Some c =
    let i = c.in-Some.ensures.items in
    let lt = last_code c.loop-entries.values.items c.loop-entries.truths.items _ c.in-Some.e (rw i at c.loop-entries.invariant.marked) (rw i at c.loop-entries.invariant.truths) in
    let at = c.code_of.ensures in
    let long = c.loop-entries.truths.ok.0 in
    omega arith
