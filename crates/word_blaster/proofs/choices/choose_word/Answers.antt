use Rattle.std.proofs.Common.{◌≡◌, Bool, true, false, List, refl, ap, ◌∙◌}
use Rattle.std.specs.Prelude.{if◌then◌else◌}
use Rattle.sat_formula.specs.declared.lit.Lit.{Lit}
use Rattle.word_blaster.specs.Word.{values, signed}
use Rattle.word_blaster.proofs.choices.choose_word.Goals as goal

chosen : (c : Bool) (xs ys : List Bool) → signed (if c then xs else ys) ≡ (if c then signed xs else signed ys)
chosen true xs ys = refl
chosen false xs ys = refl

pub returns-clause-value : goal.returns-clause-value
returns-clause-value c = λ a s.
    let bits = rw (c.lits.ensures, c.lits-2.ensures) at (c.in_ok-bits.ensures.value a s) in
    ap (λ (w : List Lit). signed (values w a)) c.from_vec.ensures ∙ ap signed bits ∙ chosen _ _ _
