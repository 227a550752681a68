-- Bindings say nothing of a variable that is not issued, and hold none.
use Rattle.std.proofs.Common.{◌≡◌, ℕ, ◌<◌, inl, inr, List, [], ◌∷◌, ap, ◌∙◌, refl, subst, arith, Some}
use Rattle.std.proofs.lemmas.Bool.Decides.{eqb_tells}
use Rattle.snowcat_rows.specs.declared.substitution.Subst.{Subst}
use Rattle.snowcat_rows.specs.Views.{IsIssued, issued_of, kept_by}
use Rattle.snowcat_rows.specs.Types.{Term, var, fields, none}
use Rattle.snowcat_rows.specs.Substitutions.{apply, apply_row, same_sub}
use Rattle.snowcat_rows.specs.Chains.{Absent, Binding, OccursRow, Variable, key, number, row_var, single, sub_of, to_row, to_type, type_var}
use Rattle.snowcat_rows.specs.Sorting.{AllWithin, Within}
use Rattle.snowcat_rows.proofs.RowTheory.{solved_is}
use Rattle.snowcat_rows.proofs.Solving.{within_solved}

-- what a substitution keeps
pub keeps_issued : (s : Subst) → IsIssued (issued_of s) (kept_by s)
keeps_issued s = (s.sound.0, s.sound.1.0)

single_type : (b : Binding) (m : ℕ) → number (key b) < m → (single b).type_of m ≡ var m
single_type (to_type v t) m lt = elim (eqb_tells m v) [ inl h ↦ (let e = h.1 in absurd (omega (arith, lt, e))) | inr h ↦ rw h.0 refl ]
single_type (to_row r w) m lt = refl

single_row : (b : Binding) (m : ℕ) → number (key b) < m → (single b).row_of m ≡ same_sub.row_of m
single_row (to_type v t) m lt = refl
single_row (to_row r w) m lt = elim (eqb_tells m r) [ inl h ↦ (let e = h.1 in absurd (omega (arith, lt, e))) | inr h ↦ rw h.0 refl ]

pub own_type : (bs : List Binding) (m : ℕ) → AllWithin m bs → (sub_of bs).type_of m ≡ var m
own_type [] m h = refl
own_type (b ∷ bs) m h = ap (apply (sub_of bs)) (single_type b m h.0.0) ∙ own_type bs m h.1

pub own_row : (bs : List Binding) (m : ℕ) → AllWithin m bs → (sub_of bs).row_of m ≡ same_sub.row_of m
own_row [] m h = refl
own_row (b ∷ bs) m h = ap (apply_row (sub_of bs)) (single_row b m h.0.0) ∙ own_row bs m h.1

pub types_below : (bs : List Binding) (m : ℕ) → AllWithin m bs → (v : ℕ) → v < m → Within m ((sub_of bs).type_of v)
types_below bs m h v lt =
    let P : Term → Type 0 = λ z. Within m z in
    subst P (solved_is bs (var v)) (within_solved m bs (var v) h (of_one v lt))
  where
    of_one : (v : ℕ) → v < m → Within m (var v)
    of_one v lt (type_var w) o = let e = o in omega (arith, lt, e)
    of_one v lt (row_var w) o = absurd o

pub rows_below : (bs : List Binding) (m : ℕ) → AllWithin m bs → (v : ℕ) → v < m → (x : Variable) → OccursRow x ((sub_of bs).row_of v) → number x < m
rows_below bs m h v lt x o =
    let P : Term → Type 0 = λ z. Within m z in
    subst P (solved_is bs (fields (λ n. none) (Some v))) (within_solved m bs (fields (λ n. none) (Some v)) h (of_end v lt)) x o
  where
    same_end : (i j : ℕ) → Some i ≡ Some j → i ≡ j
    same_end i j e = cc

    of_end : (v : ℕ) → v < m → Within m (fields (λ n. none) (Some v))
    of_end v lt w (inl (n, e)) = absurd e
    of_end v lt (type_var w) (inr e) = absurd e
    of_end v lt (row_var w) (inr e) = let q = same_end v w e in omega (arith, lt, q)

-- a variable that is not issued stands nowhere
pub absent_new : (bs : List Binding) (m : ℕ) → AllWithin m bs → Absent (row_var m) bs
absent_new [] m h = tt
absent_new (b ∷ bs) m h =
    ((λ e. let lt = h.0.0 in let q : m ≡ number (key b) = ap number e in absurd (omega (arith, lt, q))), ((λ o. let lt : m < m = h.0.1 (row_var m) o in absurd (omega (arith, lt))), absent_new bs m h.1))
