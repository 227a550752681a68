use Rattle.std.proofs.Common.{arith, ◌<◌, length, ◌∙◌, sym}
use Rattle.std.proofs.lemmas.List.{get_or_read}
use Rattle.refutation_checker.proofs.MarksLemmas.{mark_near, mark_far}
use Rattle.refutation_checker.proofs.marks.Marks.get.Goals as goal

pub returns-then-var-len : goal.returns-then-var-len
returns-then-var-len c =
    let below : c.args.var < length c.self.inside.near.items = omega arith in
    rw (← c.self.view_is) (get_or_read _ _ _ below c.index.ensures _ ∙ sym (mark_near _ _ c.args.var below))

pub returns-else-var-len : goal.returns-else-var-len
returns-else-var-len c =
    rw (← c.self.view_is) (c.copied.ensures ∙ (c.get.ensures.value ∙ sym (mark_far _ _ c.args.var (λ lt. absurd (omega arith)))))
