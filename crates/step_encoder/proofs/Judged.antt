-- What is judged of outcomes, as a formula grows.
use Rattle.std.proofs.Common.{◌≡◌, ℕ, ◌<◌, ◌≤◌, ◌&&◌, List, arith, subst}
use Rattle.sat_formula.specs.declared.cnf.Cnf.{Cnf}
use Rattle.sat_formula.specs.declared.lit.Lit.{Lit}
use Rattle.sat_formula.specs.Formula.{Grows, HasValue}
use Rattle.sat_formula.specs.Lit.{lit_value}
use Rattle.sat_formula.proofs.Extension.{Grows-trans, HasValue-later, Satisfies-older}
use Rattle.branch_cells.specs.declared.branch.Ends.{Ends}
use Rattle.branch_cells.specs.Ends.{AreJudged}
use Rattle.step_encoder.specs.inner.Asked.{AreJudgedWith}

less : (i m n : ℕ) → i < m → m ≤ n → i < n
less i m n p q = omega (arith, p, q)

judged_later : (f g : Cnf) (xs : List Ends) (r : Lit × Lit) → Grows f g → AreJudged f xs r → AreJudged g xs r
judged_later f g xs r gr h = record {
  below = (less r.0.var f.vars g.vars h.below.0 gr.vars, less r.1.var f.vars g.vars h.below.1 gr.vars);
  says = λ a s. h.says a (Satisfies-older f g a gr s);
}

pub judged_made : (f g h : Cnf) (xs : List Ends) (run : Lit) (r : Lit × Lit) (l m : Lit) → Grows f g → Grows g h →
    AreJudged f xs r →
    HasValue g l (λ a. lit_value run a && lit_value r.0 a) → HasValue h m (λ a. lit_value run a && lit_value r.1 a) →
    AreJudgedWith h xs run (l, m)
judged_made f g h xs run r l m p q j k v = record {
  judged = r;
  judges = judged_later f h xs r (Grows-trans f g h p q) j;
  not_true = HasValue-later g h l (λ a. lit_value run a && lit_value r.0 a) k q;
  inv_big = v;
}

pub judged_as : (f : Cnf) (xs ys : List Ends) (run : Lit) (r : Lit × Lit) → xs ≡ ys → AreJudgedWith f xs run r →
    AreJudgedWith f ys run r
judged_as f xs ys run r e h = subst (λ (zs : List Ends). AreJudgedWith f zs run r) e h
