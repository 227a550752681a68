use Rattle.std.proofs.Common.{◌∙◌, sym}
use Rattle.std.proofs.lemmas.Bool.{false≢true}
use Rattle.cdcl_solver.proofs.checking.is_forced.Goals as goal
use Rattle.cdcl_solver.proofs.checking.is_forced.Goals.{then-is_next, else-is_next}

pub returns-then-assume_false-clause-follows : goal.returns-then-assume_false-clause-follows
returns-then-assume_false-clause-follows c = λ worked.
    elim c.if-is_next.branch [
      | then-is_next w ↦
          (let made = w.assume_false.ensures.assumed (sym w.value-is ∙ c.if-assume_false.true) in
          record {
            next = c.is_next.ensures w.if-is_next.true;
            apart = rw w.lits.ensures at made.apart;
            works = rw (c.as_slice.ensures, w.trail-is, made.made, w.lits.ensures) at (c.hints_work.ensures.works worked);
          })
      | else-is_next w ↦ absurd (false≢true (sym w.if-is_next.false ∙ sym w.value-is ∙ c.if-assume_false.true))
    ]
