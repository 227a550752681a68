use Rattle.std.proofs.Common.{None}
use Rattle.std.specs.Prelude.{map}
use Rattle.watched_search.specs.Trail.{lits_of}
use Rattle.watched_search.specs.Codes.{literal}
use Rattle.watched_search.specs.inner.Visiting.{IsReplacementIn}
use Rattle.watched_search.proofs.status.replacement_in.Given as goal

abbrev pub invariant-loop-k : goal.invariant-loop-k
invariant-loop-k l = IsReplacementIn (lits_of l.trail.entries) (map (λ n. literal n) l.codes) l.other l.from l.k None
