use Rattle.std.proofs.Common.{◌≡◌, ◌-◌, ◌<◌, List, length, map, not, take, drop, ap, arith, subst, sym, ◌∙◌, inr}
use Rattle.std.specs.List.{list_all}
use Rattle.std.proofs.lemmas.List.{take_rest}
use Rattle.sat_formula.specs.declared.lit.Lit.{Lit}
use Rattle.sat_formula.specs.Lit.{lit_value}
use Rattle.word_blaster.specs.Word.{WordBelow, number, values}
use Rattle.word_blaster.proofs.Words.{WordBelow-drop, WordBelow-not, turned-value}
use Rattle.word_blaster.proofs.CountLemmas.{beyond-word, low-word}
use Rattle.word_blaster.proofs.counts.index_bits.Goals as goal

others_are : (c : goal.After-as_slice) → c.as_slice.result.now ≡ map (λ (l : Lit). record { var = l.var; neg = not l.neg }) (drop c.args.k c.args.word.now)
others_are c =
    c.as_slice.ensures.value ∙ c.in_ok-others.ensures
    ∙ ap (λ (w : List Lit). map (λ (l : Lit). record { var = l.var; neg = not l.neg }) (take (length w - c.args.k) (drop c.args.k w))) c.lits-lits.ensures
    ∙ ap (map (λ (l : Lit). record { var = l.var; neg = not l.neg })) (take_rest c.args.word.now c.args.k)

pub and_all-requires : goal.and_all-requires
unfolding WordBelow
and_all-requires c = subst (λ (w : List Lit). WordBelow c.args.f.now.vars w) (sym (others_are c)) (WordBelow-not _ _ (WordBelow-drop _ _ _ c.requires.x_below))

pub returns-clause-value : goal.returns-clause-value
returns-clause-value c = λ a n e lt.
    ap (λ (w : List Lit). number (values w a)) (c.in_ok-low.ensures.items ∙ ap (take c.args.k) c.lits-lits.ensures)
    ∙ low-word c.args.word.now a c.args.k n (omega arith) (omega arith) e (inr lt)

pub returns-clause-beyond : goal.returns-clause-beyond
returns-clause-beyond c = record {
  below = subst (λ (l : Lit). l.var < c.and_all.new.self.vars) (sym c.negated.ensures) c.in_ok-none.ensures.value.below;
  value = λ a s.
      turned-value c.in_ok-none.none c.negated.result a c.negated.ensures
      ∙ ap not (c.in_ok-none.ensures.value.value a s ∙ ap (λ (w : List Lit). list_all (λ l. lit_value l a) w) (others_are c.before.before.before.before.before) ∙ beyond-word c.args.word.now a c.args.k c.requires.few);
}
