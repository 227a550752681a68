use Rattle.std.proofs.Common.{◌≡◌, ◌*◌, ◌+◌, Bool, List, map, take}
use Rattle.cell_arena.specs.Decode.{decode, field_pairs, present, present_pairs}
use Rattle.cell_merge.proofs.likeness.+alike.Given as goal

abbrev pub decreases-alike : goal.decreases-alike
decreases-alike l = 2 * l.x.index + 1

abbrev pub decreases-alike_sets : goal.decreases-alike_sets
decreases-alike_sets l = 2 * l.x.index

abbrev pub invariant-alike_sets-loop-i : goal.invariant-alike_sets-loop-i
invariant-alike_sets-loop-i l = (a : List Bool) → present a (decode l.arena a) (take l.i l.es) ≡ present a (decode l.arena a) (take l.i l.fs)

abbrev pub decreases-alike_records : goal.decreases-alike_records
decreases-alike_records l = 2 * l.x.index

abbrev pub decreases-alike_tuples : goal.decreases-alike_tuples
decreases-alike_tuples l = 2 * l.x.index

abbrev pub invariant-alike_records-loop-i : goal.invariant-alike_records-loop-i
invariant-alike_records-loop-i l = (a : List Bool) → field_pairs (decode l.arena a) (take l.i l.es) ≡ field_pairs (decode l.arena a) (take l.i l.fs)

abbrev pub invariant-alike_tuples-loop-i : goal.invariant-alike_tuples-loop-i
invariant-alike_tuples-loop-i l = (a : List Bool) → map (decode l.arena a) (take l.i l.ps) ≡ map (decode l.arena a) (take l.i l.qs)

abbrev pub decreases-alike_functions : goal.decreases-alike_functions
decreases-alike_functions l = 2 * l.x.index

abbrev pub decreases-alike_sequences : goal.decreases-alike_sequences
decreases-alike_sequences l = 2 * l.x.index

abbrev pub invariant-alike_functions-loop-i : goal.invariant-alike_functions-loop-i
invariant-alike_functions-loop-i l = (a : List Bool) → present_pairs a (decode l.arena a) (take l.i l.es) ≡ present_pairs a (decode l.arena a) (take l.i l.fs)

abbrev pub invariant-alike_sequences-loop-i : goal.invariant-alike_sequences-loop-i
invariant-alike_sequences-loop-i l = (a : List Bool) → map (decode l.arena a) (take l.i l.ps) ≡ map (decode l.arena a) (take l.i l.qs)
