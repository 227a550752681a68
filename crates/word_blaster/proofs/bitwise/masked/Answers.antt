use Rattle.std.proofs.Common.{ℕ, ◌+◌, Bool, false, ◌&&◌, length, List, [], ◌∷◌, ◌++◌, map, take, ap, arith, sym, ◌∙◌, get_or, subst}
use Rattle.std.proofs.lemmas.List.{length_push, map_push}
use Rattle.sat_formula.specs.Lit.{lit_value}
use Rattle.sat_formula.specs.declared.lit.Lit.{Lit}
use Rattle.sat_formula.proofs.Extension.{Satisfies-older, Grows-trans}
use Rattle.word_blaster.specs.Word.{values, WordBelow}
use Rattle.word_blaster.proofs.Words.{WordBelow-get, WordBelow-push, WordBelow-later, values-more, values-push}
use Rattle.word_blaster.proofs.bitwise.masked.Goals as goal

pub and-requires-clause-x_below : goal.and-requires-clause-x_below
and-requires-clause-x_below c = WordBelow-get c.args.f.now.vars _ c.args.x.now _ _ c.requires.x_below (omega arith) c.loop-i.invariant.grows.vars

pub loop-i-preserved : goal.loop-i-preserved
loop-i-preserved c =
    let b = c.in_ok-bit.bit in
    let i = c.loop-i.i in
    let x = c.args.x.now in
    let d : Lit = record { var = 0; neg = false } in
    record {
      grows = Grows-trans _ _ _ c.loop-i.invariant.grows c.in_ok-bit.ensures.grows;
      below = subst (λ (w : List Lit). WordBelow c.and.new.self.vars w) (sym c.in_ok-push.ensures.items)
          (WordBelow-push _ _ b (WordBelow-later _ _ _ c.loop-i.invariant.below c.in_ok-bit.ensures.grows.vars) c.in_ok-bit.ensures.value.below);
      len = ap length c.in_ok-push.ensures.items ∙ length_push c.loop-i.bits.items b ∙ ap (λ (k : ℕ). k + 1) c.loop-i.invariant.len;
      value = λ a s1.
          let s0 = Satisfies-older _ _ a c.in_ok-bit.ensures.grows s1 in
          let m = lit_value c.args.l a in
          let p = lit_value (get_or x i d) a in
          let old : List Bool = values c.loop-i.bits.items a in
          let bs : List Bool = values (take i x) a in
          ap (λ (w : List Lit). values w a) c.in_ok-push.ensures.items
          ∙ values-push c.loop-i.bits.items b a
          ∙ ap (λ (v : List Bool). v ++ lit_value b a ∷ []) (c.loop-i.invariant.value a s0)
          ∙ ap (λ (t : Bool). map (λ b. b && m) bs ++ t ∷ []) (c.in_ok-bit.ensures.value.value a s1)
          ∙ sym (map_push (λ b. b && m) bs p)
          ∙ sym (ap (λ (v : List Bool). map (λ b. b && m) v) (values-more x d a i (omega arith)));
    }
