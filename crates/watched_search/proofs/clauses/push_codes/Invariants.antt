use Rattle.std.proofs.Common.{◌≡◌, ◌++◌, map, take}
use Rattle.std.specs.Vec.{vec_capacity}
use Rattle.watched_search.specs.Codes.{code}
use Rattle.watched_search.proofs.clauses.push_codes.Given as goal

abbrev pub invariant-loop-l : goal.invariant-loop-l
invariant-loop-l l = record {
  items : l.codes.items ≡ l.initial.codes.items ++ map code (take l.l-index l.clause);
  capacity : vec_capacity l.codes ≡ vec_capacity l.initial.codes;
}
