use Rattle.std.proofs.Common.{◌∙◌, ap, Vec, Global, List, ℕ}
use Rattle.op_inliner.proofs.NamingSteps.{without_kept, without_pushed, without_step}
use Rattle.op_inliner.proofs.naming.push_without.Goals.{then-not-is_among+in_ok-copy_text+in_ok-push, else-not-is_among}
use Rattle.op_inliner.proofs.naming.push_without.Goals as goal

pub loop-name-preserved : goal.loop-name-preserved
loop-name-preserved c =
    without_step c.args.binds.now c.args.names.now c.loop-name.all.items c.args.all.now.items c.if-not-is_among.all.items c.loop-name.name-index c.name-item.result c.is_among.result c.loop-name-test.true c.name-item.is
    c.loop-name.invariant c.is_among.ensures
    (elim c.if-not-is_among.branch [
      | then-not-is_among+in_ok-copy_text+in_ok-push w ↦ without_pushed c.is_among.result c.name-item.result w.in_ok-copy_text.field-0 c.loop-name.all.items _ w.if-not-is_among.true (ap (λ (v : Vec (List ℕ) Global). v.items) w.all-is ∙ w.in_ok-push.ensures.items) w.in_ok-copy_text.ensures
      | else-not-is_among w ↦ without_kept c.is_among.result c.name-item.result c.loop-name.all.items _ w.if-not-is_among.false (ap (λ (v : Vec (List ℕ) Global). v.items) w.all-is)
    ])
