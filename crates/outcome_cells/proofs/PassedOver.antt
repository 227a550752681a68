-- Operands that cannot have a fault are passed over.
use Rattle.std.proofs.Common.{◌≡◌, Bool, true, false, cond, not, ◌&&◌, List, [], ◌∷◌, length, get_or, filter, refl, sym, ◌∙◌, ap, subst, arith}
use Rattle.sat_formula.specs.declared.cnf.Cnf.{Cnf}
use Rattle.sat_formula.specs.declared.lit.Lit.{Lit}
use Rattle.sat_formula.specs.Formula.{Satisfies}
use Rattle.sat_formula.specs.Lit.{lit_value, top_lit}
use Rattle.tla_meaning.specs.declared.outcome.Fault.TheVariants.{NoFault}
use Rattle.tla_meaning.specs.declared.outcome.Outcome.{Outcome}
use Rattle.tla_meaning.specs.declared.outcome.Outcome.TheVariants.{Val, Wrong, Big}
use Rattle.tla_meaning.specs.Outcomes.{fault_of, join_faults, joined}
use Rattle.cell_arena.specs.Cells.{Cells as Arena}
use Rattle.outcome_cells.specs.declared.cells.Cells.{Cells}
use Rattle.outcome_cells.specs.declared.cells.Faults.{Faults}
use Rattle.outcome_cells.specs.inner.Fallible.{is_never, may_fail}
use Rattle.outcome_cells.specs.Joins.{JoinsOperands}
use Rattle.outcome_cells.proofs.Joins.{own_fault}
use Rattle.outcome_cells.specs.Shows.{AllShow, FaultsBelow, Shows, ShowsFault, faults_of}

never-false : (l : Lit) (a : List Bool) → lit_value top_lit a ≡ true → is_never l ≡ true → lit_value l a ≡ false
never-false l a forced e = grind arith

-- what shows an outcome by such literals shows no fault
calm : (c : Arena) (a : List Bool) (x : Cells) (o : Outcome) → lit_value top_lit a ≡ true → may_fail x ≡ false →
    Shows c a x o → fault_of o ≡ NoFault
calm c a x o forced e h = by (both (is_never x.wrong) (is_never x.big) e) o h
  where
    both : (p q : Bool) → not (p && q) ≡ false → (p ≡ true) × (q ≡ true)
    both true true e = (refl, refl)
    both true false e = absurd (cc)
    both false q e = absurd (cc)

    by : (is_never x.wrong ≡ true) × (is_never x.big ≡ true) → (o : Outcome) → Shows c a x o → fault_of o ≡ NoFault
    by k (Val v) h = refl
    by k (Wrong p) h = absurd (let e : false ≡ true = sym (never-false x.wrong a forced k.0) ∙ h.shown.wrong in cc)
    by k (Big p) h = absurd (let e : false ≡ true = sym (never-false x.big a forced k.1) ∙ h.shown.big in cc)

-- the others show outcomes whose faults join to the same
others_show : (c : Arena) (a : List Bool) (xs : List Cells) (os : List Outcome) → lit_value top_lit a ≡ true →
    AllShow c a xs os →
    (ps : List Outcome) × (AllShow c a (filter may_fail xs) ps × (joined ps ≡ joined os))
others_show c a [] [] forced h = ([], (tt, refl))
others_show c a [] (o ∷ os) forced h = absurd h
others_show c a (x ∷ xs) [] forced h = absurd h
others_show c a (x ∷ xs) (o ∷ os) forced h = split (may_fail x) refl (others_show c a xs os forced h.1)
  where
    split : (t : Bool) → may_fail x ≡ t →
        (ps : List Outcome) × (AllShow c a (filter may_fail xs) ps × (joined ps ≡ joined os)) →
        (ps : List Outcome) × (AllShow c a (cond t (x ∷ filter may_fail xs) (filter may_fail xs)) ps × (joined ps ≡ join_faults (fault_of o) (joined os)))
    split true e k = (o ∷ k.0, ((h.0, k.1.0), ap (join_faults (fault_of o)) k.1.1))
    split false e k = (k.0, (k.1.0, k.1.1 ∙ sym (ap (λ f. join_faults f (joined os)) (calm c a x o forced e h.0))))

pub passed_over : (f : Cnf) (xs : List Cells) (r : Faults) →
    ((a : List Bool) → Satisfies a f → lit_value top_lit a ≡ true) → JoinsOperands f (filter may_fail xs) r →
    JoinsOperands f xs r
passed_over f xs r forced h = record {
  below = h.below;
  shows = λ a s c os all.
      let k = others_show c a xs os (forced a s) all in
      subst (ShowsFault a r) k.1.1 (h.shows a s c k.0 k.1.0);
}

one_shown : (c : Arena) (a : List Bool) (x : Cells) (os : List Outcome) → AllShow c a (x ∷ []) os →
    ShowsFault a (faults_of x) (joined os)
one_shown c a x [] h = absurd h
one_shown c a x (Val v ∷ []) h = own_fault c a x (Val v) h.0
one_shown c a x (Wrong p ∷ []) h = own_fault c a x (Wrong p) h.0
one_shown c a x (Big p ∷ []) h = own_fault c a x (Big p) h.0
one_shown c a x (o ∷ q ∷ os) h = absurd h.1

-- one operand has its own faults
pub one_joined : (f : Cnf) (xs : List Cells) (d : Cells) → length xs ≡ 1 →
    FaultsBelow f.vars (faults_of (get_or xs 0 d)) → JoinsOperands f xs (faults_of (get_or xs 0 d))
one_joined f [] d n h = absurd (let e : 0 ≡ 1 = n in cc)
one_joined f (x ∷ []) d n h = record { below = h; shows = λ a s c os all. one_shown c a x os all }
one_joined f (x ∷ y ∷ xs) d n h = absurd (omega arith)
