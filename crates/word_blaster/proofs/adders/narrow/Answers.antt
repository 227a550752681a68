use Rattle.std.proofs.Common.{◌≡◌, ◌+◌, ◌<◌, ◌≤◌, Bool, false, not, length, List, [], ◌∷◌, ◌++◌, take, ap, arith, sym, ◌∙◌, get_or, subst, refl}
use Rattle.std.specs.Prelude.{◌||◌}
use Rattle.std.proofs.lemmas.List.{take_all, length-take-le}
use Rattle.sat_formula.specs.Lit.{lit_value, differ}
use Rattle.sat_formula.specs.declared.lit.Lit.{Lit}
use Rattle.sat_formula.specs.Formula.{Satisfies}
use Rattle.sat_formula.proofs.Extension.{Satisfies-older, Grows-refl, Grows-trans}
use Rattle.word_blaster.specs.Word.{signed, sign, values, fits_width, WordBelow}
use Rattle.word_blaster.proofs.Words.{WordBelow-get, WordBelow-later, WordBelow-take, values-more, length-values-take, sign-values-take, turned-value}
use Rattle.word_blaster.proofs.Signs.{outside_more, inside_more, fits_own, or-false_left, or-false_right}
use Rattle.word_blaster.proofs.adders.narrow.Goals as goal

pub loop-i-init : goal.loop-i-init
loop-i-init c = record {
  grows = Grows-refl _;
  outside = record {
    below = subst (λ (l : Lit). l.var < c.args.f.now.vars) (sym c.negated-outside.ensures) c.top.ensures.below;
    value = λ a sat.
        turned-value c.top.result c.negated-outside.result a c.negated-outside.ensures ∙ ap not (c.top.ensures.forced a sat)
        ∙ sym (ap not (fits_own c.args.width (values (take c.args.width c.args.x.now) a) c.requires.some (length-values-take c.args.x.now a c.args.width c.requires.enough)));
  };
  inside = λ a sat e. refl;
}

pub xor-requires-clause-x_below : goal.xor-requires-clause-x_below
xor-requires-clause-x_below c = WordBelow-get c.args.f.now.vars _ c.args.x.now _ _ c.requires.x_below (omega arith) c.loop-i.invariant.grows.vars

pub xor-requires-clause-y_below : goal.xor-requires-clause-y_below
xor-requires-clause-y_below c = WordBelow-get c.args.f.now.vars _ c.args.x.now _ _ c.requires.x_below (omega arith) c.loop-i.invariant.grows.vars

pub loop-i-preserved : goal.loop-i-preserved
loop-i-preserved c =
    let d : Lit = record { var = 0; neg = false } in
    let x = c.args.x.now in
    let i = c.loop-i.i in
    let w = c.args.width in
    let changes : (a : List Bool) → Satisfies a c.xor.new.self → lit_value c.in_ok-changed.changed a ≡ differ (lit_value (get_or x i d) a) (sign (values (take i x) a)) =
    λ a s. c.in_ok-changed.ensures.value.value a s ∙ ap (λ (b : Bool). differ (lit_value (get_or x i d) a) b) (sym (sign-values-take x d a i (omega arith) (omega arith))) in
    let more : (a : List Bool) → values (take (i + 1) x) a ≡ values (take i x) a ++ lit_value (get_or x i d) a ∷ [] = λ a. values-more x d a i (omega arith) in
    record {
      grows = Grows-trans _ _ _ c.loop-i.invariant.grows (Grows-trans _ _ _ c.in_ok-changed.ensures.grows c.in_ok-outside.ensures.grows);
      outside = record {
        below = c.in_ok-outside.ensures.value.below;
        value = λ a s2.
            let s1 = Satisfies-older _ _ a c.in_ok-outside.ensures.grows s2 in
            let s0 = Satisfies-older _ _ a c.in_ok-changed.ensures.grows s1 in
            let len : w ≤ length (values (take i x) a) = omega (arith, length-values-take x a i (omega arith)) in
            c.in_ok-outside.ensures.value.value a s2
            ∙ ap (λ (b : Bool). b || lit_value c.in_ok-changed.changed a) (c.loop-i.invariant.outside.value a s0)
            ∙ ap (λ (b : Bool). not (fits_width w (signed (values (take i x) a))) || b) (changes a s1)
            ∙ sym (ap (λ (v : List Bool). not (fits_width w (signed v))) (more a) ∙ outside_more (values (take i x) a) (lit_value (get_or x i d) a) w c.requires.some len);
      };
      inside = λ a s2 e.
          let s1 = Satisfies-older _ _ a c.in_ok-outside.ensures.grows s2 in
          let s0 = Satisfies-older _ _ a c.in_ok-changed.ensures.grows s1 in
          let o : (lit_value c.loop-i.outside a || lit_value c.in_ok-changed.changed a) ≡ false = sym (c.in_ok-outside.ensures.value.value a s2) ∙ e in
          ap signed (more a)
          ∙ inside_more (values (take i x) a) (lit_value (get_or x i d) a) (sym (changes a s1) ∙ or-false_right _ _ o)
          ∙ c.loop-i.invariant.inside a s0 (or-false_left _ _ o);
    }

pub returns-clause-exact : goal.returns-clause-exact
returns-clause-exact c =
    let x = c.args.x.now in
    let w = c.args.width in
    let word : c.from_vec-word.result ≡ take w x = c.from_vec-word.ensures ∙ c.in_ok-from_slice.ensures.items in
    let all : take c.loop-i.i x ≡ x = take_all c.loop-i.i x (omega arith) in
    record {
      below = subst (λ (v : List Lit). WordBelow c.loop-i.f.vars v) (sym word) (WordBelow-take _ w x (WordBelow-later _ _ x c.requires.x_below c.loop-i.invariant.grows.vars));
      width = ap length word ∙ length-take-le w x c.requires.enough;
      outside = record {
        below = c.loop-i.invariant.outside.below;
        value = λ a s. c.loop-i.invariant.outside.value a s ∙ ap (λ (v : List Lit). not (fits_width w (signed (values v a)))) all;
      };
      value = λ a s e.
          ap (λ (v : List Lit). signed (values v a)) word ∙ sym (c.loop-i.invariant.inside a s e) ∙ ap (λ (v : List Lit). signed (values v a)) all;
    }
