-- The faults of sets and forms that are all evaluated.
use Rattle.std.proofs.Common.{◌≡◌, ℕ, zero, suc, ◌<◌, ◌≤◌, ◌+◌, Bool, List, [], ◌∷◌, ◌++◌, take, drop, length, get_or}
use Rattle.std.proofs.Common.{refl, sym, ◌∙◌, ap, subst, arith}
use Rattle.sat_formula.specs.declared.cnf.Cnf.{Cnf}
use Rattle.sat_formula.specs.Formula.{Grows, Satisfies}
use Rattle.sat_formula.proofs.Extension.{Satisfies-older}
use Rattle.tla_meaning.specs.declared.outcome.Outcome.{Outcome}
use Rattle.tla_meaning.specs.Forms.{Formed, form_fault, form_faults}
use Rattle.tla_meaning.specs.Outcomes.{join_faults, joined}
use Rattle.tla_meaning.proofs.Joins.{both_assoc, both_unit}
use Rattle.cell_arena.specs.Cells.{Cells as Arena}
use Rattle.outcome_cells.specs.declared.cells.Cells.{Cells}
use Rattle.outcome_cells.specs.declared.cells.Faults.{Faults}
use Rattle.outcome_cells.specs.Joins.{JoinsOperands, JoinsTwo}
use Rattle.outcome_cells.specs.Shows.{AllShow, ShowsFault}
use Rattle.form_cells.specs.declared.form.FormCells.{FormCells}
use Rattle.form_cells.specs.FormValues.{AllFormsShow, ShowsForm}
use Rattle.expr_rewriter.specs.inner.Forming.{JoinsForms, literals_of}
use denote.Param.Weighed.{most}

-- ---- lists

most-take : {X : Type 0} (f : X → ℕ) (n : ℕ) (xs : List X) → most f (take n xs) ≤ most f xs
most-take f zero xs = omega arith
most-take f (suc n) [] = omega arith
most-take f (suc n) (x ∷ xs) = omega (arith, most-take f n xs)

most-drop : {X : Type 0} (f : X → ℕ) (n : ℕ) (xs : List X) → most f (drop n xs) ≤ most f xs
most-drop f zero xs = omega arith
most-drop f (suc n) [] = omega arith
most-drop f (suc n) (x ∷ xs) = omega (arith, most-drop f n xs)

pub most-part : {X : Type 0} (f : X → ℕ) (m n : ℕ) (xs : List X) → most f (take m (drop n xs)) ≤ most f xs
most-part f m n xs = omega (arith, most-take f m (drop n xs), most-drop f n xs)

pub take-next : {X : Type 0} (xs : List X) (i : ℕ) (x : X) → i < length xs → x ≡ get_or xs i x →
    take (suc i) xs ≡ take i xs ++ x ∷ []
take-next [] i x lt e = absurd (omega arith)
take-next (y ∷ xs) zero x lt e = ap (λ z. z ∷ []) (sym e)
take-next (y ∷ xs) (suc i) x lt e = ap (λ l. y ∷ l) (take-next xs i x (omega arith) e)

-- ---- one more

fault_last : (fs : List Formed) (g : Formed) → form_faults (fs ++ g ∷ []) ≡ join_faults (form_faults fs) (form_fault g)
fault_last [] g = both_unit (form_fault g)
fault_last (f ∷ fs) g =
    ap (join_faults (form_fault f)) (fault_last fs g) ∙ sym (both_assoc (form_fault f) (form_faults fs) (form_fault g))

record Split (c : Arena) (a : List Bool) (ys : List FormCells) (y : FormCells) (fs : List Formed) : Type 0 where
  pub front : List Formed
  pub last : Formed
  pub whole : fs ≡ front ++ last ∷ []
  pub fronts : AllFormsShow c a ys front
  pub lasts : ShowsForm c a y last

split_last : (c : Arena) (a : List Bool) (ys : List FormCells) (y : FormCells) (fs : List Formed) →
    AllFormsShow c a (ys ++ y ∷ []) fs → Split c a ys y fs
split_last c a [] y [] h = absurd h
split_last c a [] y (f ∷ []) h = record { front = []; last = f; whole = refl; fronts = tt; lasts = h.0 }
split_last c a [] y (f ∷ g ∷ fs) h = absurd h.1
split_last c a (x ∷ ys) y [] h = absurd h
split_last c a (x ∷ ys) y (f ∷ fs) h =
    let z = split_last c a ys y fs h.1 in
    record {
      front = f ∷ z.front;
      last = z.last;
      whole = ap (λ l. f ∷ l) z.whole;
      fronts = (h.0, z.fronts);
      lasts = z.lasts;
    }

pub faults_start : (f : Cnf) (xs : List Cells) (r : Faults) → JoinsOperands f xs r → JoinsForms f xs [] r
faults_start f xs r h = record { below = h.below; shows = λ a m c os fs p q. by a m c os fs p q }
  where
    by : (a : List Bool) → Satisfies a f → (c : Arena) (os : List Outcome) (fs : List Formed) → AllShow c a xs os →
        AllFormsShow c a [] fs →
        ShowsFault a r (join_faults (joined os) (form_faults fs))
    by a m c os [] p q = subst (ShowsFault a r) (sym (both_unit (joined os))) (h.shows a m c os p)
    by a m c os (g ∷ fs) p q = absurd q

faults_more : (f g : Cnf) (xs : List Cells) (ys : List FormCells) (y : FormCells) (r q : Faults) → Grows f g →
    JoinsForms f xs ys r →
    JoinsTwo g r (literals_of y) q → JoinsForms g xs (ys ++ y ∷ []) q
faults_more f g xs ys y r q e h j = record {
  below = j.below;
  shows = λ a m c os fs p l.
      let z = split_last c a ys y fs l in
      subst (ShowsFault a q)
      (both_assoc (joined os) (form_faults z.front) (form_fault z.last)
      ∙ ap (join_faults (joined os)) (sym (fault_last z.front z.last) ∙ sym (ap form_faults z.whole)))
      (j.shows a m (join_faults (joined os) (form_faults z.front)) (form_fault z.last)
      (h.shows a (Satisfies-older f g a e m) c os z.front p z.fronts)
      (record { shown = record { wrong = z.lasts.shown.wrong; big = z.lasts.shown.big } }));
}

pub faults_turn : (f g : Cnf) (xs : List Cells) (ys : List FormCells) (i : ℕ) (y : FormCells) (r q : Faults) →
    i < length ys →
    y ≡ get_or ys i y → Grows f g → JoinsForms f xs (take i ys) r → JoinsTwo g r (literals_of y) q →
    JoinsForms g xs (take (i + 1) ys) q
faults_turn f g xs ys i y r q lt e grown h j =
    subst (λ l. JoinsForms g xs l q) (sym (ap (λ (n : ℕ). take n ys) one ∙ take-next ys i y lt e))
    (faults_more f g xs (take i ys) y r q grown h j)
  where
    one : i + 1 ≡ suc i
    one = omega arith

pub faults_end : (f : Cnf) (xs : List Cells) (ys : List FormCells) (i : ℕ) (r : Faults) → take i ys ≡ ys →
    JoinsForms f xs (take i ys) r → JoinsForms f xs ys r
faults_end f xs ys i r e h = subst (λ l. JoinsForms f xs l r) e h
