use Rattle.std.proofs.Common.{◌≡◌, true, Bool, List, All, not, length, ap, sym, subst, ◌∙◌, arith, eqb-true}
use Rattle.std.proofs.lemmas.List.Elements.{All-filter}
use Rattle.std.specs.Prelude.{nat_eq}
use Rattle.sat_formula.specs.declared.lit.Lit.{Lit}
use Rattle.sat_formula.specs.declared.cnf.Cnf.{Cnf}
use Rattle.sat_formula.specs.Lit.{lit_value, IsBelow, top_lit}
use Rattle.sat_formula.specs.Formula.{HasValue}
use Rattle.sat_formula.proofs.Extension.{HasValue-same, Satisfies-older}
use Rattle.sat_formula.proofs.GateClauses.{lit_value-negation}
use Rattle.sat_formula.proofs.Conjunctions.{all_true, others, others_same, bottom_false, all_of_none, all_of_one}
use Rattle.sat_formula.proofs.formula.Formula.and_all.Goals as goal

-- variable 0 is true
top_true : (l : Lit) (a : List Bool) → l ≡ top_lit → lit_value l a ≡ true → lit_value top_lit a ≡ true
top_true l a e t = subst (λ (x : Lit). lit_value x a ≡ true) e t

pub returns-then-has_bottom-clause-value : goal.returns-then-has_bottom-clause-value
returns-then-has_bottom-clause-value c =
    let top = c.top-top.result in
    let w = c.args.lits.now in
    subst (λ (l : Lit). HasValue c.args.self.now l (λ a. all_true w a)) (sym c.negated.ensures)
    (record {
      below = c.top-top.ensures.below;
      value = λ a s.
          let t = c.top-top.ensures.forced a s in
          lit_value-negation top a ∙ ap not t ∙ sym (bottom_false w a (top_true top a c.top-top.ensures.same t) (sym c.has_bottom.ensures ∙ c.if-has_bottom.true));
    })

pub returns-then-is_empty-clause-value : goal.returns-then-is_empty-clause-value
returns-then-is_empty-clause-value c =
    let top = c.top-top.result in
    let w = c.args.lits.now in
    let same : c.as_slice-rest.result.now ≡ others w = c.as_slice-rest.ensures.value ∙ c.in_ok-open.ensures in
    let none : length c.as_slice-rest.result.now ≡ 0 = eqb-true _ _ (sym c.is_empty.ensures ∙ c.if-is_empty.true) in
    record {
      below = c.top-top.ensures.below;
      value = λ a s.
          let t = c.top-top.ensures.forced a s in
          t ∙ sym (all_of_none c.as_slice-rest.result.now a (omega arith)) ∙ ap (λ (v : List Lit). all_true v a) same
          ∙ others_same w a (top_true top a c.top-top.ensures.same t) (sym c.has_bottom.ensures ∙ c.if-has_bottom.false);
    }

-- those that are left are literals of the formula
below_others : (f : Cnf) (w v : List Lit) → v ≡ others w → All (IsBelow f.vars) w → All (IsBelow f.vars) v
below_others f w v e h = subst (λ (v : List Lit). All (IsBelow f.vars) v) (sym e) (All-filter (λ (l : Lit). not (nat_eq l.var 0)) (IsBelow f.vars) w h)

pub shared_all-requires : goal.shared_all-requires
shared_all-requires c = below_others c.args.self.now c.args.lits.now c.as_slice-rest.result.now (c.as_slice-rest.ensures.value ∙ c.in_ok-open.ensures) c.requires

pub returns-then-rest-eq1-clause-value : goal.returns-then-rest-eq1-clause-value
returns-then-rest-eq1-clause-value c =
    let top = c.top-top.result in
    let w = c.args.lits.now in
    let v = c.as_slice-rest.result.now in
    let same : v ≡ others w = c.as_slice-rest.ensures.value ∙ c.in_ok-open.ensures in
    let one : length v ≡ 1 = c.if-rest-eq1.true in
    record {
      below = below_others c.args.self.now w v same c.requires 0 top_lit (omega arith);
      value = λ a s.
          let t = c.top-top.ensures.forced a s in
          all_of_one v top_lit a (omega arith) (omega arith) ∙ ap (λ (v : List Lit). all_true v a) same
          ∙ others_same w a (top_true top a c.top-top.ensures.same t) (sym c.has_bottom.ensures ∙ c.if-has_bottom.false);
    }

pub returns-clause-value : goal.returns-clause-value
returns-clause-value c =
    let top = c.top-top.result in
    let w = c.args.lits.now in
    let v = c.as_slice-rest.result.now in
    let same : v ≡ others w = c.as_slice-rest.ensures.value ∙ c.in_ok-open.ensures in
    HasValue-same c.shared_all.new.self c.in_ok-all.all (λ a. all_true v a) (λ a. all_true w a) c.in_ok-all.ensures.value
    (λ a s.
    let t = c.top-top.ensures.forced a (Satisfies-older _ _ a c.in_ok-all.ensures.grows s) in
    ap (λ (v : List Lit). all_true v a) same ∙ others_same w a (top_true top a c.top-top.ensures.same t) (sym c.has_bottom.ensures ∙ c.if-has_bottom.false))
