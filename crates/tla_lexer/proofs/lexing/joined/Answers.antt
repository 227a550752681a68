use Rattle.std.proofs.Common.{◌∙◌, ap}
use Rattle.tla_lexer.proofs.Notes.{join_first, join_next}
use Rattle.tla_lexer.proofs.lexing.joined.Goals as goal
use Rattle.tla_lexer.proofs.lexing.joined.Goals.{then-i-gt0+in_ok-push, else-i-gt0}

pub loop-i-preserved : goal.loop-i-preserved
loop-i-preserved c =
    c.in_ok-extend_from_slice.ensures.items
    ∙ elim c.if-i-gt0.branch [
      | then-i-gt0+in_ok-push w ↦
          join_next (λ s. s.now) c.args.notes.now c.loop-i.i _ c.loop-i.text.items c.if-i-gt0.text.items c.loop-i-test.true w.if-i-gt0.true c.loop-i.invariant
          (ap (λ t. t.items) w.text-is ∙ w.in_ok-push.ensures.items)
      | else-i-gt0 w ↦
          join_first (λ s. s.now) c.args.notes.now c.loop-i.i _ c.if-i-gt0.text.items c.loop-i-test.true w.if-i-gt0.false (ap (λ t. t.items) w.text-is ∙ c.loop-i.invariant)
    ]
