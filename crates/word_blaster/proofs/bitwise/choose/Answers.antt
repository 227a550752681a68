use Rattle.std.proofs.Common.{◌≡◌, ℕ, ◌+◌, Bool, true, false, length, List, [], ◌∷◌, ◌++◌, take, ap, arith, sym, ◌∙◌, refl, get_or, subst}
use Rattle.std.specs.Prelude.{if◌then◌else◌}
use Rattle.std.proofs.lemmas.List.{length_push}
use Rattle.sat_formula.specs.Lit.{lit_value}
use Rattle.sat_formula.specs.declared.lit.Lit.{Lit}
use Rattle.sat_formula.proofs.Extension.{Satisfies-older, Grows-trans}
use Rattle.word_blaster.specs.Word.{values, WordBelow}
use Rattle.word_blaster.proofs.Words.{WordBelow-get, WordBelow-push, WordBelow-later, values-more, values-push}
use Rattle.word_blaster.proofs.bitwise.choose.Goals as goal

pub mux-requires-clause-y_below : goal.mux-requires-clause-y_below
mux-requires-clause-y_below c = WordBelow-get c.args.f.now.vars _ c.args.x.now _ _ c.requires.words.left (omega arith) c.loop-i.invariant.grows.vars

pub mux-requires-clause-z_below : goal.mux-requires-clause-z_below
mux-requires-clause-z_below c = WordBelow-get c.args.f.now.vars _ c.args.y.now _ _ c.requires.words.right (omega arith) c.loop-i.invariant.grows.vars

chosen_push : (c p q : Bool) (xs ys : List Bool) → (if c then xs else ys) ++ (if c then p else q) ∷ [] ≡ (if c then xs ++ p ∷ [] else ys ++ q ∷ [])
chosen_push true p q xs ys = refl
chosen_push false p q xs ys = refl

pub loop-i-preserved : goal.loop-i-preserved
loop-i-preserved c =
    let b = c.in_ok-bit.bit in
    let i = c.loop-i.i in
    let x = c.args.x.now in
    let y = c.args.y.now in
    let d : Lit = record { var = 0; neg = false } in
    record {
      grows = Grows-trans _ _ _ c.loop-i.invariant.grows c.in_ok-bit.ensures.grows;
      below = subst (λ (w : List Lit). WordBelow c.mux.new.self.vars w) (sym c.in_ok-push.ensures.items)
          (WordBelow-push _ _ b (WordBelow-later _ _ _ c.loop-i.invariant.below c.in_ok-bit.ensures.grows.vars) c.in_ok-bit.ensures.value.below);
      len = ap length c.in_ok-push.ensures.items ∙ length_push c.loop-i.bits.items b ∙ ap (λ (k : ℕ). k + 1) c.loop-i.invariant.len;
      value = λ a s1.
          let s0 = Satisfies-older _ _ a c.in_ok-bit.ensures.grows s1 in
          let m = lit_value c.args.c a in
          let p = lit_value (get_or x i d) a in
          let q = lit_value (get_or y i d) a in
          let xs : List Bool = values (take i x) a in
          let ys : List Bool = values (take i y) a in
          ap (λ (w : List Lit). values w a) c.in_ok-push.ensures.items
          ∙ values-push c.loop-i.bits.items b a
          ∙ ap (λ (v : List Bool). v ++ lit_value b a ∷ []) (c.loop-i.invariant.value a s0)
          ∙ ap (λ (t : Bool). (if m then xs else ys) ++ t ∷ []) (c.in_ok-bit.ensures.value.value a s1)
          ∙ chosen_push m p q xs ys
          ∙ sym (ap (λ (v : List Bool). if m then v else values (take (i + 1) y) a) (values-more x d a i (omega arith))
          ∙ ap (λ (v : List Bool). if m then xs ++ p ∷ [] else v) (values-more y d a i (omega arith)));
    }
