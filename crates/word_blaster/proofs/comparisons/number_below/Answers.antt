use Rattle.std.proofs.Common.{◌≡◌, ℕ, ◌+◌, ◌*◌, ◌^◌, Bool, false, take, ap, arith, sym, ◌∙◌, get_or}
use Rattle.std.specs.Prelude.{nat_lt, if◌then◌else◌}
use Rattle.sat_formula.specs.Lit.{lit_value, differ}
use Rattle.sat_formula.specs.declared.lit.Lit.{Lit}
use Rattle.sat_formula.proofs.Extension.{Satisfies-older, Grows-trans}
use Rattle.word_blaster.specs.Word.{bit, number, values}
use Rattle.word_blaster.proofs.Words.{WordBelow-get, number-values-more, number-values-lt}
use Rattle.word_blaster.proofs.Signs.{below_more_place}
use Rattle.word_blaster.proofs.comparisons.number_below.Goals as goal

pub xor-requires-clause-x_below : goal.xor-requires-clause-x_below
xor-requires-clause-x_below c = WordBelow-get c.args.f.now.vars _ c.args.x.now _ _ c.requires.words.left (omega arith) c.loop-i.invariant.grows.vars

pub xor-requires-clause-y_below : goal.xor-requires-clause-y_below
xor-requires-clause-y_below c = WordBelow-get c.args.f.now.vars _ c.args.y.now _ _ c.requires.words.right (omega arith) c.loop-i.invariant.grows.vars

pub mux-requires-clause-y_below : goal.mux-requires-clause-y_below
mux-requires-clause-y_below c = WordBelow-get c.args.f.now.vars _ c.args.y.now _ _ c.requires.words.right (omega arith) (omega (arith, c.loop-i.invariant.grows.vars, c.in_ok-apart.ensures.grows.vars))

pub loop-i-preserved : goal.loop-i-preserved
loop-i-preserved c = record {
  grows = Grows-trans _ _ _ c.loop-i.invariant.grows (Grows-trans _ _ _ c.in_ok-apart.ensures.grows c.in_ok-below.ensures.grows);
  value = record {
    below = c.in_ok-below.ensures.value.below;
    value = λ a s2.
        let s1 = Satisfies-older _ _ a c.in_ok-below.ensures.grows s2 in
        let s0 = Satisfies-older _ _ a c.in_ok-apart.ensures.grows s1 in
        let d : Lit = record { var = 0; neg = false } in
        let i = c.loop-i.i in
        let x = c.args.x.now in
        let y = c.args.y.now in
        let p = lit_value (get_or x i d) a in
        let q = lit_value (get_or y i d) a in
        let n = number (values (take i x) a) in
        let m = number (values (take i y) a) in
        let xs : number (values (take (i + 1) x) a) ≡ n + bit p * 2 ^ i = number-values-more x d a i (omega arith) in
        let ys : number (values (take (i + 1) y) a) ≡ m + bit q * 2 ^ i = number-values-more y d a i (omega arith) in
        c.in_ok-below.ensures.value.value a s2
        ∙ ap (λ (b : Bool). if b then q else lit_value c.loop-i.below a) (c.in_ok-apart.ensures.value.value a s1)
        ∙ ap (λ (b : Bool). if differ p q then q else b) (c.loop-i.invariant.value.value a s0)
        ∙ below_more_place p q n m (2 ^ i) (number-values-lt x a i (omega arith)) (number-values-lt y a i (omega arith))
        ∙ sym (ap (λ (k : ℕ). nat_lt k (number (values (take (i + 1) y) a))) xs ∙ ap (λ (k : ℕ). nat_lt (n + bit p * 2 ^ i) k) ys);
  };
}
