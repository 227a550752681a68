use Rattle.std.proofs.Common.{List, length, ap, ◌∙◌}
use Rattle.std.specs.Prelude.{◌*ℤ◌}
use Rattle.sat_formula.specs.declared.lit.Lit.{Lit}
use Rattle.sat_formula.proofs.Extension.{Satisfies-older}
use Rattle.word_blaster.specs.Word.{signed, values}
use Rattle.word_blaster.proofs.Exact.{IsExact-same}
use Rattle.word_blaster.proofs.products.mul.Goals as goal

pub returns-clause-exact : goal.returns-clause-exact
returns-clause-exact c =
    IsExact-same _ _ _ _ _ _ _ (ap length c.lits-3.ensures) c.in_ok-exact.ensures.exact (λ a s1.
    let s0 = Satisfies-older _ _ a c.in_ok-exact.ensures.grows s1 in
    ap (λ (w : List Lit). signed (values w a)) c.as_slice.ensures.value
    ∙ c.in_ok-product.ensures.value a s0
    ∙ ap (λ (w : List Lit). signed (values w a) *ℤ signed (values c.lits-2.result.now a)) c.lits.ensures
    ∙ ap (λ (w : List Lit). signed (values c.args.x.now a) *ℤ signed (values w a)) c.lits-2.ensures)
