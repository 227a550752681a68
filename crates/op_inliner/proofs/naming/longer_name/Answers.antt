use Rattle.std.proofs.Common.{arith, ◌≡◌, ◌∙◌, ◌++◌, ap, replicate, ℕ, List, ◌-◌, length}
use Rattle.op_inliner.specs.inner.Naming.{longest_from}
use Rattle.op_inliner.proofs.NamingSteps.{longer_is}
use Rattle.op_inliner.proofs.naming.longer_name.Goals as goal

pub returns : goal.returns
returns c =
    let k : c.loop.counter ≡ c.saturating_sub-missing.result = let a = c.loop-test.false in let b = c.loop.auto.counter-end in omega (arith, a, b) in
    longer_is c.args.name.now c.from_vec.result c.args.taken.now c.args.there.now c.longest_from-longest.result c.in-Some.wanted c.saturating_sub-missing.result
    (c.longest_from-longest.ensures ∙ ap (λ (n : ℕ). longest_from n c.args.taken.now) c.longest_from.ensures) c.in-Some.ensures.1 (c.saturating_sub-missing.ensures ∙ ap (λ (x : List ℕ). c.in-Some.wanted - length x) c.bytes.ensures) (c.from_vec.ensures ∙ c.loop.invariant ∙ ap (λ (n : ℕ). c.args.name.now ++ replicate n 39) k)
