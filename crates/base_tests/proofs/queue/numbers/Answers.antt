use Rattle.std.proofs.Common.{ℕ, ◌∙◌, arith}
use Rattle.std.specs.List.{range_with_len}
use Rattle.std.proofs.lemmas.List.{map-id}
use Rattle.std.proofs.lemmas.List.FromFn.{fill_by_all}
use Rattle.base_tests.proofs.queue.numbers.Goals as goal

pub returns : goal.returns
returns c =
    fill_by_all (λ (k : ℕ). k) c.loop-i.numbers.items c.args.n 0 (omega (arith, c.loop-i.invariant.size)) (λ k lt. c.loop-i.invariant.each k (omega arith))
    ∙ map-id (range_with_len 0 c.args.n)
