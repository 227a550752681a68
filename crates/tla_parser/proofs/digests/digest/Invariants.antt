use Rattle.std.proofs.Common.{◌≡◌, fold}
use Rattle.tla_parser.specs.Trees.{empty_digest, taken_in}
use Rattle.tla_parser.proofs.digests.digest.Given as goal

abbrev pub invariant-loop-item : goal.invariant-loop-item
invariant-loop-item l = l.found ≡ fold taken_in (empty_digest l.fn.heads) l.yielded
