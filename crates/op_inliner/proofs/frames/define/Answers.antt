use Rattle.std.proofs.Common.{◌∙◌, ap₂, arith, ℕ}
use Rattle.op_inliner.specs.Inlining.{define_name}
use Rattle.op_inliner.specs.inner.Frames.{closed, names_at}
use Rattle.op_inliner.proofs.FrameLemmas.{back_again, one_opens}
use Rattle.op_inliner.proofs.frames.define.Goals as goal

pub returns : goal.returns
returns c =
    let count = c.len-count.ensures ∙ c.args.frames.now.ok.0 in
    one_opens c.args.frames.now.items c.push.new.self.items _ c.len.result c.len-count.result _ c.in_ok-push.ensures.items count (c.len.ensures ∙ c.push.new.self.ok.0)
    (ap₂ (λ (a b : ℕ). define_name c.args.name.now (closed c.args.closure.params.now c.args.closure.body.now (names_at c.args.frames.now.items b)) (names_at c.args.frames.now.items a))
    (back_again c.len-count.result c.args.scope (let h = c.requires.scope in omega (arith, h, count)))
    (back_again c.len-count.result c.args.closure.scope (let h = c.requires.closure in omega (arith, h, count))))
