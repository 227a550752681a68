use Rattle.std.proofs.Common.{◌≡◌, ℕ, ◌+◌, ◌*◌, ◌^◌, Bool, true, false, List, [], ◌∷◌, ◌&&◌, take, ap, arith, sym, ◌∙◌, get_or, subst, refl}
use Rattle.std.specs.Prelude.{◌==◌}
use Rattle.std.specs.List.{list_all}
use Rattle.std.proofs.lemmas.List.Folds.{list_all-append}
use Rattle.sat_formula.specs.Lit.{lit_value}
use Rattle.sat_formula.specs.declared.lit.Lit.{Lit}
use Rattle.sat_formula.proofs.Extension.{Satisfies-older, Grows-trans}
use Rattle.word_blaster.specs.Word.{bit, number, values, WordBelow}
use Rattle.word_blaster.proofs.Words.{WordBelow-get, WordBelow-push, WordBelow-later, number-values-more, number-values-lt}
use Rattle.word_blaster.proofs.Signs.{same_more}
use Rattle.word_blaster.proofs.comparisons.agreements.Goals as goal

pub iff-requires-clause-x_below : goal.iff-requires-clause-x_below
iff-requires-clause-x_below c = WordBelow-get c.args.f.now.vars _ c.args.x.now _ _ c.requires.words.left (omega arith) c.loop-i.invariant.grows.vars

pub iff-requires-clause-y_below : goal.iff-requires-clause-y_below
iff-requires-clause-y_below c = WordBelow-get c.args.f.now.vars _ c.args.y.now _ _ c.requires.words.right (omega arith) c.loop-i.invariant.grows.vars

one_more : (p b : Bool) → (p && (b && true)) ≡ (p && b)
one_more p true = refl
one_more p false = refl

pub loop-i-preserved : goal.loop-i-preserved
loop-i-preserved c =
    let s = c.in_ok-same.same in
    let old = c.loop-i.agree.items in
    record {
      grows = Grows-trans _ _ _ c.loop-i.invariant.grows c.in_ok-same.ensures.grows;
      below = subst (λ (w : List Lit). WordBelow c.iff.new.self.vars w) (sym c.in_ok-push.ensures.items)
          (WordBelow-push _ _ s (WordBelow-later _ _ _ c.loop-i.invariant.below c.in_ok-same.ensures.grows.vars) c.in_ok-same.ensures.value.below);
      value = λ a s1.
          let s0 = Satisfies-older _ _ a c.in_ok-same.ensures.grows s1 in
          let d : Lit = record { var = 0; neg = false } in
          let i = c.loop-i.i in
          let x = c.args.x.now in
          let y = c.args.y.now in
          let p = lit_value (get_or x i d) a in
          let q = lit_value (get_or y i d) a in
          let n = number (values (take i x) a) in
          let m = number (values (take i y) a) in
          let xs : number (values (take (i + 1) x) a) ≡ n + bit p * 2 ^ i = number-values-more x d a i (omega arith) in
          let ys : number (values (take (i + 1) y) a) ≡ m + bit q * 2 ^ i = number-values-more y d a i (omega arith) in
          ap (λ (w : List Lit). list_all (λ l. lit_value l a) w) c.in_ok-push.ensures.items
          ∙ list_all-append (λ (l : Lit). lit_value l a) old (s ∷ [])
          ∙ one_more (list_all (λ (l : Lit). lit_value l a) old) (lit_value s a)
          ∙ ap (λ (b : Bool). b && lit_value s a) (c.loop-i.invariant.value a s0)
          ∙ ap (λ (b : Bool). (n == m) && b) (c.in_ok-same.ensures.value.value a s1)
          ∙ same_more p q n m (2 ^ i) (number-values-lt x a i (omega arith)) (number-values-lt y a i (omega arith))
          ∙ sym (ap (λ (k : ℕ). k == number (values (take (i + 1) y) a)) xs ∙ ap (λ (k : ℕ). (n + bit p * 2 ^ i) == k) ys);
    }
