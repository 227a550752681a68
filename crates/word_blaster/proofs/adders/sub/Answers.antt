use Rattle.std.proofs.Common.{◌≡◌, List, length, ap, ◌∙◌}
use Rattle.sat_formula.specs.declared.lit.Lit.{Lit}
use Rattle.sat_formula.proofs.Extension.{Satisfies-older}
use Rattle.word_blaster.specs.Word.{signed, values}
use Rattle.word_blaster.proofs.Exact.{IsExact-same}
use Rattle.word_blaster.proofs.Signs.{signed_difference}
use Rattle.word_blaster.proofs.adders.sub.Goals as goal

pub returns-clause-exact : goal.returns-clause-exact
returns-clause-exact c =
    let e = c.in_ok-exact.ensures.exact in
    IsExact-same _ _ _ _ _ _ _ (ap length c.lits-3.ensures) e (λ a s1.
    let s0 = Satisfies-older _ _ a c.in_ok-exact.ensures.grows s1 in
    let r : values c.as_slice.result.now a ≡ values c.in_ok-difference.difference.items a = ap (λ (w : List Lit). values w a) c.as_slice.ensures.value in
    let v = c.in_ok-difference.ensures.value a s0 in
    let x : c.lits.result.now ≡ c.args.x.now = c.lits.ensures in
    let y : c.lits-2.result.now ≡ c.args.y.now = c.lits-2.ensures in
    ap signed r ∙ signed_difference (values c.args.x.now a) (values c.args.y.now a) (values c.in_ok-difference.difference.items a) (rw (x, y) at v))
