use Rattle.std.proofs.Common.{◌≡◌, ◌-◌, ◌<◌, Bool, false, length, List, [], ◌∷◌, ◌++◌, take, ap, arith, sym, ◌∙◌, get_or, subst}
use Rattle.std.proofs.lemmas.List.{length-take-le}
use Rattle.std.specs.Prelude.{int_lt, if◌then◌else◌}
use Rattle.sat_formula.specs.Lit.{lit_value, differ}
use Rattle.sat_formula.specs.declared.lit.Lit.{Lit}
use Rattle.sat_formula.proofs.Extension.{Satisfies-older}
use Rattle.word_blaster.specs.Word.{signed, values, WordBelow}
use Rattle.word_blaster.proofs.Words.{WordBelow-get, WordBelow-take, values-last, length-values-take}
use Rattle.word_blaster.proofs.Signs.{signed_less}
use Rattle.word_blaster.proofs.comparisons.less.Goals as goal

pub number_below-requires : goal.number_below-requires
number_below-requires c =
    let p = c.lits-p.result.now in
    let q = c.lits-q.result.now in
    let lengths : length p ≡ length q = ap length c.lits-p.ensures ∙ c.requires.words.same ∙ sym (ap length c.lits-q.ensures) in
    record {
      words = record {
        left = WordBelow-take _ _ _ (subst (λ (w : List Lit). WordBelow c.args.f.now.vars w) (sym c.lits-p.ensures) c.requires.words.left);
        right = WordBelow-take _ _ _ (subst (λ (w : List Lit). WordBelow c.args.f.now.vars w) (sym c.lits-q.ensures) c.requires.words.right);
        same = length-take-le (length p - 1) p (omega arith) ∙ sym (length-take-le (length p - 1) q (omega (arith, lengths)));
      };
    }

pub xor-requires-clause-x_below : goal.xor-requires-clause-x_below
xor-requires-clause-x_below c =
    WordBelow-get c.args.f.now.vars _ _ _ _ (subst (λ (w : List Lit). WordBelow c.args.f.now.vars w) (sym c.lits-p.ensures) c.requires.words.left) (omega (arith, ap length c.lits-p.ensures)) c.in_ok-below.ensures.grows.vars

pub xor-requires-clause-y_below : goal.xor-requires-clause-y_below
xor-requires-clause-y_below c =
    WordBelow-get c.args.f.now.vars _ _ _ _ (subst (λ (w : List Lit). WordBelow c.args.f.now.vars w) (sym c.lits-q.ensures) c.requires.words.right)
    (omega (arith, ap length c.lits-p.ensures, ap length c.lits-q.ensures)) c.in_ok-below.ensures.grows.vars

pub mux-requires-clause-y_below : goal.mux-requires-clause-y_below
mux-requires-clause-y_below c =
    WordBelow-get c.args.f.now.vars _ _ _ _ (subst (λ (w : List Lit). WordBelow c.args.f.now.vars w) (sym c.lits-p.ensures) c.requires.words.left) (omega (arith, ap length c.lits-p.ensures))
    (omega (arith, c.in_ok-below.ensures.grows.vars, c.in_ok-apart.ensures.grows.vars))

pub returns-clause-value : goal.returns-clause-value
returns-clause-value c = record {
  below = c.in_ok-less.ensures.value.below;
  value = λ a s2.
      let s1 = Satisfies-older _ _ a c.in_ok-less.ensures.grows s2 in
      let s0 = Satisfies-older _ _ a c.in_ok-apart.ensures.grows s1 in
      let d : Lit = record { var = 0; neg = false } in
      let p = c.lits-p.result.now in
      let q = c.lits-q.result.now in
      let i = length p - 1 in
      let pl = ap length c.lits-p.ensures in
      let ql = ap length c.lits-q.ensures in
      let same : length p ≡ length q = pl ∙ c.requires.words.same ∙ sym ql in
      let some : 0 < length p = omega (arith, pl) in
      let s = lit_value (get_or p i d) a in
      let t = lit_value (get_or q i d) a in
      let xs = values (take i p) a in
      let ys = values (take i q) a in
      let x : values p a ≡ xs ++ s ∷ [] = values-last p d a i (omega arith) in
      let y : values q a ≡ ys ++ t ∷ [] = values-last q d a i (omega arith) in
      let e : length xs ≡ length ys = length-values-take p a i (omega arith) ∙ sym (length-values-take q a i (omega arith)) in
      c.in_ok-less.ensures.value.value a s2
      ∙ ap (λ (b : Bool). if b then s else lit_value c.in_ok-below.below a) (c.in_ok-apart.ensures.value.value a s1)
      ∙ ap (λ (b : Bool). if differ s t then s else b) (c.in_ok-below.ensures.value.value a s0)
      ∙ signed_less xs ys s t e
      ∙ ap (λ (v : List Bool). int_lt (signed v) (signed (ys ++ t ∷ []))) (sym x)
      ∙ ap (λ (v : List Bool). int_lt (signed (values p a)) (signed v)) (sym y)
      ∙ ap (λ (w : List Lit). int_lt (signed (values w a)) (signed (values q a))) c.lits-p.ensures
      ∙ ap (λ (w : List Lit). int_lt (signed (values c.args.x.now a)) (signed (values w a))) c.lits-q.ensures;
}
