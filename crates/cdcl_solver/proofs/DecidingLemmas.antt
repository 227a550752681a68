use Rattle.std.proofs.Common.{◌≡◌, ℕ, ◌+◌, ◌<◌, ◌⊎◌, inl, inr, true, List, Option, Some, None, get_or, ap, subst, arith}
use Rattle.std.specs.Prelude.{Contains, is_some}
use Rattle.std.proofs.lemmas.Bool.{cases_lt}
use Rattle.sat_formula.specs.declared.lit.Lit.{Lit}
use Rattle.refutation_checker.specs.Follows.{negation}
use Rattle.watched_search.specs.declared.entry.Entry.{Entry}
use Rattle.watched_search.specs.Trail.{lits_of, IsFree, IsPlaceOf}
use Rattle.watched_search.proofs.TrailLemmas.{no_entry, lit_of-entry, entry_of, same_or_opposite}
use Rattle.cdcl_solver.specs.inner.Deciding.{AreDecided, IsUndecided}

-- a variable that has a place has an entry
pub decided_at : (es : List Entry) (v : ℕ) (place : Option ℕ) → IsPlaceOf es v place → is_some place ≡ true → (k : ℕ) × IsPlaceOf es v (Some k)
decided_at es v None none e = cc
decided_at es v (Some k) at e = (k, at)

-- one variable more
pub decided_more : (es : List Entry) (v : ℕ) → AreDecided es v → (k : ℕ) × IsPlaceOf es v (Some k) → AreDecided es (v + 1)
decided_more es v all last = λ w lt. elim (cases_lt w v) [
  | inl older ↦ all w older
  | inr ge ↦ (let same : v ≡ w = omega arith in subst (λ (u : ℕ). (k : ℕ) × IsPlaceOf es u (Some k)) same last)
]

-- a literal whose variable has no entry is free
pub undecided_free : (vars : ℕ) (es : List Entry) (l : Lit) → IsUndecided vars es l.var → IsFree (lits_of es) l
undecided_free vars es l h = (
  λ t. let i = entry_of es l no_entry t in h.none i.0 no_entry i.1 (ap (λ (m : Lit). m.var) i.2),
  λ t. let i = entry_of es (negation l) no_entry t in h.none i.0 no_entry i.1 (ap (λ (m : Lit). m.var) i.2),
)

-- where each variable has an entry, each has a value
pub decided_full : (es : List Entry) (vars : ℕ) (l : Lit) → AreDecided es vars → l.var < vars → Contains (lits_of es) l ⊎ Contains (lits_of es) (negation l)
decided_full es vars l all lt =
    let i = all l.var lt in
    elim (same_or_opposite (get_or es i.0 no_entry).lit l (i.1.1 no_entry)) [
      | inl same ↦ inl (subst (λ (m : Lit). Contains (lits_of es) m) same (lit_of-entry es i.0 no_entry i.1.0))
      | inr other ↦ inr (subst (λ (m : Lit). Contains (lits_of es) m) other (lit_of-entry es i.0 no_entry i.1.0))
    ]
