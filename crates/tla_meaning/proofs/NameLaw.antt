-- Which numbers are those of constants.
use Rattle.std.proofs.Common.{ℕ, zero, suc, ◌≡◌, ◌++◌, Bool, true, false, not, cond, nat_lt, List, [], ◌∷◌, filter, length, Some, slice_get, refl, ap, ◌∙◌, sym, arith}
use Rattle.std.proofs.lemmas.Bool.Decides.{nat_tests}
use Rattle.std.specs.List.{AllByRecursion}
use Rattle.tla_meaning.specs.declared.expr.Decl.{Decl}
use Rattle.tla_meaning.specs.declared.job.Job.{Job}
use Rattle.tla_meaning.specs.Executions.{constants}
use Rattle.tla_meaning.specs.Jobs.{IsJob}

abbrev Are : Bool → List Decl → Type 0
Are b ds = AllByRecursion (λ (d : Decl). d.constant ≡ b) ds

some_same : (c d : Decl) → Some c ≡ Some d → c ≡ d
some_same c d e = cc

constants_are : (ds : List Decl) → Are true (filter (λ d. d.constant) ds)
constants_are [] = tt
constants_are (d ∷ ds) = kept (constants_are ds) d.constant refl
  where
    kept : Are true (filter (λ d. d.constant) ds) → (b : Bool) → d.constant ≡ b →
        Are true (cond b (d ∷ filter (λ d. d.constant) ds) (filter (λ d. d.constant) ds))
    kept h true e = (e, h)
    kept h false e = h

variables_are : (ds : List Decl) → Are false (filter (λ d. not d.constant) ds)
variables_are [] = tt
variables_are (d ∷ ds) = kept (variables_are ds) d.constant refl
  where
    kept : Are false (filter (λ d. not d.constant) ds) → (b : Bool) → d.constant ≡ b →
        Are false (cond (not b) (d ∷ filter (λ d. not d.constant) ds) (filter (λ d. not d.constant) ds))
    kept h true e = h
    kept h false e = (e, h)

none_of : (vs : List Decl) → Are false vs → filter (λ d. d.constant) vs ≡ []
none_of [] h = refl
none_of (v ∷ vs) h = ap (λ b. cond b (v ∷ filter (λ d. d.constant) vs) (filter (λ d. d.constant) vs)) h.0 ∙ none_of vs h.1

one_of : (vs : List Decl) → Are false vs → (i : ℕ) (d : Decl) → slice_get vs i ≡ Some d → d.constant ≡ false
one_of [] h i d e = cc
one_of (v ∷ vs) h zero d e = ap (λ (x : Decl). x.constant) (sym (some_same v d e)) ∙ h.0
one_of (v ∷ vs) h (suc i) d e = one_of vs h.1 i d e

below_none : (i : ℕ) → nat_lt i zero ≡ false
below_none i = grind (arith, nat_tests)

below_more : (i n : ℕ) → nat_lt (suc i) (suc n) ≡ nat_lt i n
below_more i n = grind (arith, nat_tests)

first_below : (n : ℕ) → nat_lt zero (suc n) ≡ true
first_below n = grind (arith, nat_tests)

stand : (cs vs : List Decl) → Are true cs → Are false vs → (i : ℕ) (d : Decl) → slice_get (cs ++ vs) i ≡ Some d →
    d.constant ≡ nat_lt i (length (filter (λ d. d.constant) (cs ++ vs)))
stand [] vs g h i d e = one_of vs h i d e ∙ sym (ap (λ xs. nat_lt i (length xs)) (none_of vs h) ∙ below_none i)
stand (c ∷ cs) vs g h i d e =
    by_number (λ j k. stand cs vs g.1 h j d k) i e ∙ ap (λ b. nat_lt i (length (cond b (c ∷ filter (λ d. d.constant) (cs ++ vs)) (filter (λ d. d.constant) (cs ++ vs))))) (sym g.0)
  where
    by_number : ((j : ℕ) → slice_get (cs ++ vs) j ≡ Some d → d.constant ≡ nat_lt j (length (filter (λ d. d.constant) (cs ++ vs)))) →
        (j : ℕ) → slice_get (c ∷ cs ++ vs) j ≡ Some d → d.constant ≡ nat_lt j (suc (length (filter (λ d. d.constant) (cs ++ vs))))
    by_number r zero k = ap (λ (x : Decl). x.constant) (sym (some_same c d k)) ∙ g.0 ∙ sym (first_below (length (filter (λ d. d.constant) (cs ++ vs))))
    by_number r (suc j) k = r j k ∙ sym (below_more j (length (filter (λ d. d.constant) (cs ++ vs))))

pub constants_stand : (job : Job) → IsJob job → (i : ℕ) (d : Decl) → slice_get job.names i ≡ Some d → d.constant ≡ nat_lt i (constants job)
constants_stand job is i d e =
    let cs : List Decl = filter (λ d. d.constant) job.names in
    let vs : List Decl = filter (λ d. not d.constant) job.names in
    stand cs vs (constants_are job.names) (variables_are job.names) i d (ap (λ ds. slice_get ds i) (sym is.names) ∙ e)
    ∙ ap (λ ds. nat_lt i (length (filter (λ (d : Decl). d.constant) ds))) (sym is.names)
