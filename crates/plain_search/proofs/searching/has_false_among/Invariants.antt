use Rattle.std.proofs.Common.{◌≡◌, ℕ, [], take, false, get_or}
use Rattle.std.specs.List.{list_any}
use Rattle.plain_search.specs.inner.Search.{is_false}
use Rattle.plain_search.proofs.searching.has_false_among.Given as goal

abbrev pub invariant-loop-number : goal.invariant-loop-number
invariant-loop-number l = list_any (λ (k : ℕ). is_false l.values (get_or l.cnf.clauses k [])) (take l.number-index l.numbers) ≡ false
