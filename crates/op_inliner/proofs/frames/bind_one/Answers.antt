use Rattle.std.proofs.Common.{◌∙◌, ◌∷◌, [], ap, arith, ℕ}
use Rattle.op_inliner.specs.Inlining.{bind_names}
use Rattle.op_inliner.specs.inner.Frames.{names_at}
use Rattle.op_inliner.proofs.FrameLemmas.{back_again, one_opens}
use Rattle.op_inliner.proofs.frames.bind_one.Goals as goal

pub returns : goal.returns
returns c =
    let count = c.len-count.ensures ∙ c.args.frames.now.ok.0 in
    one_opens c.args.frames.now.items c.push.new.self.items _ c.len.result c.len-count.result _ c.in_ok-push.ensures.items count (c.len.ensures ∙ c.push.new.self.ok.0)
    (ap (λ (a : ℕ). bind_names c.args.level (c.args.name.now ∷ []) (names_at c.args.frames.now.items a))
    (back_again c.len-count.result c.args.scope (let h = c.requires.scope in omega (arith, h, count))))
