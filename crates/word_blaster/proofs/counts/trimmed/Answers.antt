use Rattle.std.proofs.Common.{◌<◌, List, length, pos, ap, arith, subst, sym, ◌∙◌}
use Rattle.sat_formula.specs.declared.lit.Lit.{Lit}
use Rattle.word_blaster.specs.Word.{WordBelow, number, signed, values}
use Rattle.word_blaster.proofs.counts.trimmed.Goals as goal

pub returns-clause-value : goal.returns-clause-value
returns-clause-value c = λ a n s e le.
    let bits = c.in_ok-bits.bits.items in
    let same = c.deref.ensures.value in
    let short : length c.deref.result.now < length c.lits.result.now = omega (arith, ap length same, ap length c.lits.ensures, c.in_ok-bits.ensures.few.short) in
    ap (λ (w : List Lit). signed (values w a)) c.from_vec.ensures ∙ c.in_ok-all.ensures.plain a short s
    ∙ ap (λ (w : List Lit). pos (number (values w a))) same ∙ ap pos (c.in_ok-bits.ensures.value a n e le)

pub returns-clause-word : goal.returns-clause-word
returns-clause-word c =
    let same = c.deref.ensures.value in
    let low = subst (λ (w : List Lit). WordBelow c.args.f.now.vars w) (sym same) (c.in_ok-bits.ensures.below _ c.requires.x_below) in
    record {
      below = subst (λ (w : List Lit). WordBelow c.args.f.now.vars w) (sym c.from_vec.ensures) (c.in_ok-all.ensures.below low);
      width = ap length c.from_vec.ensures ∙ c.in_ok-all.ensures.len ∙ omega (arith, ap length same, ap length c.lits.ensures, c.in_ok-bits.ensures.few.short);
    }
