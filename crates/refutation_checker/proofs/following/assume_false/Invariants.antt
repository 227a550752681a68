use Rattle.std.proofs.Common.{◌≡◌, map, take}
use Rattle.refutation_checker.specs.Follows.{negation, HasNoOpposites}
use Rattle.refutation_checker.proofs.following.assume_false.Given as goal

abbrev pub invariant-loop-l : goal.invariant-loop-l
invariant-loop-l l = record {
  made : l.trail ≡ map negation (take l.l-index l.lits);
  apart : HasNoOpposites (take l.l-index l.lits);
}
