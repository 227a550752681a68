use Rattle.std.proofs.Common.{arith, rules, ◌∙◌, ◌+◌, ◌++◌, ◌-◌, ◌∷◌, ◌≡◌, [], ap, ap₂, sym}
use Rattle.kernel_reduction.specs.Reduction.{upward}
use Rattle.kernel_reduction.proofs.Counting.{upward_more}
use Rattle.kera_reducer.proofs.nodes.upward.Goals as goal

pub loop-preserved : goal.loop-preserved
loop-preserved c =
    let next : c.in_ok-next.next ≡ c.args.first + (c.loop.counter + 1) = search rules in
    let pushed : c.push.new.self.items ≡ c.loop.numbers.items ++ (c.args.first + c.loop.counter) ∷ [] = search rules in (
      next,
      ap₂ (λ z n. z ++ upward n (c.args.count - (c.loop.counter + 1))) pushed next
          ∙ upward_more c.args.first c.args.count c.loop.counter c.loop.numbers.items (let h = c.loop-test.true in omega (arith, h))
          (ap (λ n. c.loop.numbers.items ++ upward n (c.args.count - c.loop.counter)) (sym c.loop.invariant.0) ∙ c.loop.invariant.1),
    )
