use Rattle.std.proofs.Common.{◌≡◌, not, List, length, ap, arith, ◌∙◌}
use Rattle.sat_formula.specs.Lit.{lit_value}
use Rattle.sat_formula.specs.declared.lit.Lit.{Lit}
use Rattle.sat_formula.proofs.Extension.{Satisfies-older}
use Rattle.word_blaster.specs.Word.{bit, signed, values}
use Rattle.word_blaster.proofs.Words.{turned-value}
use Rattle.word_blaster.proofs.Exact.{IsExact-same}
use Rattle.word_blaster.proofs.Signs.{signed_sum}
use Rattle.word_blaster.proofs.adders.add.Goals as goal

pub returns-clause-exact : goal.returns-clause-exact
returns-clause-exact c =
    let e = c.in_ok-exact.ensures.exact in
    IsExact-same _ _ _ _ _ _ _ (ap length c.lits-3.ensures) e (λ a s2.
    let s1 = Satisfies-older _ _ a c.in_ok-exact.ensures.grows s2 in
    let s0 = Satisfies-older _ _ a c.in_ok-sum.ensures.grows s1 in
    let z : bit (lit_value c.negated-zero.result a) ≡ 0 = ap bit (turned-value c.top.result c.negated-zero.result a c.negated-zero.ensures ∙ ap not (c.top.ensures.forced a s0)) in
    let r : values c.as_slice.result.now a ≡ values c.in_ok-sum.sum.items a = ap (λ (w : List Lit). values w a) c.as_slice.ensures.value in
    let v = c.in_ok-sum.ensures.value a s1 in
    let x : c.lits.result.now ≡ c.args.x.now = c.lits.ensures in
    let y : c.lits-2.result.now ≡ c.args.y.now = c.lits-2.ensures in
    ap signed r ∙ signed_sum (values c.args.x.now a) (values c.args.y.now a) (values c.in_ok-sum.sum.items a)
    (let w = rw (x, y) at v in omega (arith, w, z)))
