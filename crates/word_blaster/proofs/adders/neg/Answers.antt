use Rattle.std.proofs.Common.{◌≡◌, ◌<◌, false, not, List, length, replicate, ap, arith, sym, ◌∙◌, subst}
use Rattle.std.proofs.lemmas.List.{length-replicate}
use Rattle.sat_formula.specs.Lit.{lit_value}
use Rattle.sat_formula.specs.declared.lit.Lit.{Lit}
use Rattle.sat_formula.proofs.Extension.{Satisfies-older}
use Rattle.word_blaster.specs.Word.{number, taken, signed, values, WordBelow}
use Rattle.word_blaster.proofs.Words.{turned-value, WordBelow-replicate}
use Rattle.word_blaster.proofs.Exact.{IsExact-same, number-zeros, taken-zeros}
use Rattle.word_blaster.proofs.Signs.{signed_negation}
use Rattle.word_blaster.proofs.adders.neg.Goals as goal

pub wide_difference-requires-clause-words : goal.wide_difference-requires-clause-words
wide_difference-requires-clause-words c =
    let zeros = c.as_slice.ensures.value ∙ c.in_ok-zero.ensures in
    record {
      left = subst (λ (w : List Lit). WordBelow c.args.f.now.vars w) (sym zeros)
          (WordBelow-replicate _ _ _ (subst (λ (l : Lit). l.var < c.args.f.now.vars) (sym c.negated.ensures) c.top.ensures.below));
      right = subst (λ (w : List Lit). WordBelow c.args.f.now.vars w) (sym c.lits-2.ensures) c.requires.x_below;
      same = omega (arith, ap length zeros, length-replicate (length c.lits.result.now) c.negated.result, ap length c.lits.ensures, ap length c.lits-2.ensures);
    }

pub returns-clause-exact : goal.returns-clause-exact
returns-clause-exact c =
    let e = c.in_ok-exact.ensures.exact in
    IsExact-same _ _ _ _ _ _ _ (ap length c.lits-3.ensures) e (λ a s2.
    let s1 = Satisfies-older _ _ a c.in_ok-exact.ensures.grows s2 in
    let s0 = Satisfies-older _ _ a c.in_ok-difference.ensures.grows s1 in
    let b : lit_value c.negated.result a ≡ false = turned-value c.top.result c.negated.result a c.negated.ensures ∙ ap not (c.top.ensures.forced a s0) in
    let n = length c.lits.result.now in
    let z : values c.as_slice.result.now a ≡ values (replicate n c.negated.result) a = ap (λ (w : List Lit). values w a) (c.as_slice.ensures.value ∙ c.in_ok-zero.ensures) in
    let zn : number (values c.as_slice.result.now a) ≡ 0 = ap number z ∙ number-zeros n c.negated.result a b in
    let zt : taken (values c.as_slice.result.now a) ≡ 0 = ap taken z ∙ taken-zeros n c.negated.result a (omega (arith, ap length c.lits.ensures)) b in
    let r : values c.as_slice-2.result.now a ≡ values c.in_ok-difference.difference.items a = ap (λ (w : List Lit). values w a) c.as_slice-2.ensures.value in
    let v = c.in_ok-difference.ensures.value a s1 in
    let y : c.lits-2.result.now ≡ c.args.x.now = c.lits-2.ensures in
    ap signed r ∙ signed_negation (values c.args.x.now a) (values c.in_ok-difference.difference.items a) (let w = rw y at v in omega (arith, w, zn, zt)))
