-- One step more at the end of a path.
use Rattle.std.proofs.Common.{◌≡◌, ◌⊎◌, inl, inr, List, [], ◌∷◌, ◌++◌, refl, ap}
use Rattle.tla_values.specs.declared.value.Value.{Value}
use Rattle.tla_meaning.specs.declared.job.State.{State}
use Rattle.tla_meaning.specs.declared.outcome.Fault.{Fault}
use Rattle.tla_meaning.specs.Numbers.{Width}
use Rattle.tla_meaning.specs.Scopes.{Scope}
use Rattle.kernel_trees.specs.declared.path.AssignedStep.{AssignedStep}
use Rattle.kernel_trees.specs.declared.path.AssignedStep.TheVariants as mark
use Rattle.kernel_trees.specs.Assignments.{AssignedHolds, AssignedMeets}
use Rattle.kernel_trees.specs.Picks.{picking}
use Rattle.path_walks.specs.Steps.{Along, Takes, own_picks, scope_past, step_fault}
use Rattle.path_walks.specs.inner.Walks.{scope_after}

-- what a path that holds is in its last step
pub record HoldsLast (w : Width) (s t : State) (zs : List AssignedStep) (z : AssignedStep) (vss : List (List Value)) (sc : Scope) : Type 0 where
  pub front : List (List Value)
  pub own : List Value
  pub is : vss ≡ front ++ own_picks z own
  pub before : AssignedHolds w s t zs front sc
  pub here : Takes w s t z own (scope_after zs front sc)

-- a fault of the last step
pub record MeetsLast (w : Width) (s t : State) (zs : List AssignedStep) (z : AssignedStep) (sc : Scope) (f : Fault) : Type 0 where
  pub front : List (List Value)
  pub before : AssignedHolds w s t zs front sc
  pub here : step_fault w s t z (scope_after zs front sc) ≡ f

module _ (w : Width) (s t : State) where
  pub holds_more : (zs : List AssignedStep) (z : AssignedStep) (vss : List (List Value)) (vs : List Value) (sc : Scope) →
      AssignedHolds w s t zs vss sc → Takes w s t z vs (scope_after zs vss sc) →
      AssignedHolds w s t (zs ++ z ∷ []) (vss ++ own_picks z vs) sc
  holds_more [] z (us ∷ vss) vs sc h k = absurd (cc)
  holds_more [] (mark.Guard e b) [] vs sc h k = (k, refl)
  holds_more [] (mark.Pick ps) [] vs sc h k = (k, refl)
  holds_more [] (mark.Equals i e) [] vs sc h k = (k, refl)
  holds_more [] (mark.Among i e) [] vs sc h k = (k, refl)
  holds_more (mark.Guard e b ∷ ys) z vss vs sc h k = (h.0, holds_more ys z vss vs sc h.1 k)
  holds_more (mark.Pick ps ∷ ys) z [] vs sc h k = absurd h
  holds_more (mark.Pick ps ∷ ys) z (us ∷ vss) vs sc h k = (h.0, holds_more ys z vss vs (picking ps us sc) h.1 k)
  holds_more (mark.Equals i e ∷ ys) z vss vs sc h k = (h.0, holds_more ys z vss vs sc h.1 k)
  holds_more (mark.Among i e ∷ ys) z vss vs sc h k = (h.0, holds_more ys z vss vs sc h.1 k)

  pub holds_last : (zs : List AssignedStep) (z : AssignedStep) (vss : List (List Value)) (sc : Scope) →
      AssignedHolds w s t (zs ++ z ∷ []) vss sc → HoldsLast w s t zs z vss sc
  holds_last [] (mark.Guard e b) vss sc h = record { front = []; own = []; is = h.1; before = refl; here = h.0 }
  holds_last [] (mark.Pick ps) [] sc h = absurd h
  holds_last [] (mark.Pick ps) (vs ∷ vss) sc h = record { front = []; own = vs; is = ap (λ l. vs ∷ l) h.1; before = refl; here = h.0 }
  holds_last [] (mark.Equals i e) vss sc h = record { front = []; own = []; is = h.1; before = refl; here = h.0 }
  holds_last [] (mark.Among i e) vss sc h = record { front = []; own = []; is = h.1; before = refl; here = h.0 }
  holds_last (mark.Guard e b ∷ ys) z vss sc h =
      let r = holds_last ys z vss sc h.1 in
      record { front = r.front; own = r.own; is = r.is; before = (h.0, r.before); here = r.here }
  holds_last (mark.Pick ps ∷ ys) z [] sc h = absurd h
  holds_last (mark.Pick ps ∷ ys) z (us ∷ vss) sc h =
      let r = holds_last ys z vss (picking ps us sc) h.1 in
      record { front = us ∷ r.front; own = r.own; is = ap (λ l. us ∷ l) r.is; before = (h.0, r.before); here = r.here }
  holds_last (mark.Equals i e ∷ ys) z vss sc h =
      let r = holds_last ys z vss sc h.1 in
      record { front = r.front; own = r.own; is = r.is; before = (h.0, r.before); here = r.here }
  holds_last (mark.Among i e ∷ ys) z vss sc h =
      let r = holds_last ys z vss sc h.1 in
      record { front = r.front; own = r.own; is = r.is; before = (h.0, r.before); here = r.here }

  -- ---- faults

  pub meets_before : (zs : List AssignedStep) (z : AssignedStep) (vss more : List (List Value)) (sc : Scope) (f : Fault) →
      AssignedMeets w s t zs vss sc f → AssignedMeets w s t (zs ++ z ∷ []) (vss ++ more) sc f
  meets_before [] z vss more sc f h = absurd h
  meets_before (mark.Guard e b ∷ ys) z vss more sc f (inl h) = inl h
  meets_before (mark.Guard e b ∷ ys) z vss more sc f (inr h) = inr (h.0, meets_before ys z vss more sc f h.1)
  meets_before (mark.Pick ps ∷ ys) z vss more sc f (inl h) = inl h
  meets_before (mark.Pick ps ∷ ys) z [] more sc f (inr h) = absurd h
  meets_before (mark.Pick ps ∷ ys) z (us ∷ vss) more sc f (inr h) = inr (h.0, meets_before ys z vss more (picking ps us sc) f h.1)
  meets_before (mark.Equals i e ∷ ys) z vss more sc f (inl h) = inl h
  meets_before (mark.Equals i e ∷ ys) z vss more sc f (inr h) = inr (h.0, meets_before ys z vss more sc f h.1)
  meets_before (mark.Among i e ∷ ys) z vss more sc f (inl h) = inl h
  meets_before (mark.Among i e ∷ ys) z vss more sc f (inr h) = inr (h.0, meets_before ys z vss more sc f h.1)

  pub meets_here : (zs : List AssignedStep) (z : AssignedStep) (vss more : List (List Value)) (sc : Scope) (f : Fault) →
      AssignedHolds w s t zs vss sc → step_fault w s t z (scope_after zs vss sc) ≡ f →
      AssignedMeets w s t (zs ++ z ∷ []) (vss ++ more) sc f
  meets_here [] (mark.Guard e b) vss more sc f h k = inl k
  meets_here [] (mark.Pick ps) vss more sc f h k = inl k
  meets_here [] (mark.Equals i e) vss more sc f h k = inl k
  meets_here [] (mark.Among i e) vss more sc f h k = inl k
  meets_here (mark.Guard e b ∷ ys) z vss more sc f h k = inr (h.0, meets_here ys z vss more sc f h.1 k)
  meets_here (mark.Pick ps ∷ ys) z [] more sc f h k = absurd h
  meets_here (mark.Pick ps ∷ ys) z (us ∷ vss) more sc f h k = inr (h.0, meets_here ys z vss more (picking ps us sc) f h.1 k)
  meets_here (mark.Equals i e ∷ ys) z vss more sc f h k = inr (h.0, meets_here ys z vss more sc f h.1 k)
  meets_here (mark.Among i e ∷ ys) z vss more sc f h k = inr (h.0, meets_here ys z vss more sc f h.1 k)

  -- either before the last step or there
  abbrev Split : List AssignedStep → AssignedStep → List (List Value) → Scope → Fault → Type 0
  Split zs z vss sc f = AssignedMeets w s t zs vss sc f ⊎ MeetsLast w s t zs z sc f

  pub meets_last : (zs : List AssignedStep) (z : AssignedStep) (vss : List (List Value)) (sc : Scope) (f : Fault) →
      AssignedMeets w s t (zs ++ z ∷ []) vss sc f → AssignedMeets w s t zs vss sc f ⊎ MeetsLast w s t zs z sc f
  meets_last [] (mark.Guard e b) vss sc f (inl h) = inr (record { front = []; before = refl; here = h })
  meets_last [] (mark.Guard e b) vss sc f (inr h) = absurd h.1
  meets_last [] (mark.Pick ps) vss sc f (inl h) = inr (record { front = []; before = refl; here = h })
  meets_last [] (mark.Pick ps) [] sc f (inr h) = absurd h
  meets_last [] (mark.Pick ps) (us ∷ vss) sc f (inr h) = absurd h.1
  meets_last [] (mark.Equals i e) vss sc f (inl h) = inr (record { front = []; before = refl; here = h })
  meets_last [] (mark.Equals i e) vss sc f (inr h) = absurd h.1
  meets_last [] (mark.Among i e) vss sc f (inl h) = inr (record { front = []; before = refl; here = h })
  meets_last [] (mark.Among i e) vss sc f (inr h) = absurd h.1
  meets_last (mark.Guard e b ∷ ys) z vss sc f (inl h) = inl (inl h)
  meets_last (mark.Guard e b ∷ ys) z vss sc f (inr h) = by (meets_last ys z vss sc f h.1)
    where
      by : Split ys z vss sc f → Split (mark.Guard e b ∷ ys) z vss sc f
      by (inl m) = inl (inr (h.0, m))
      by (inr m) = inr (record { front = m.front; before = (h.0, m.before); here = m.here })
  meets_last (mark.Pick ps ∷ ys) z vss sc f (inl h) = inl (inl h)
  meets_last (mark.Pick ps ∷ ys) z [] sc f (inr h) = absurd h
  meets_last (mark.Pick ps ∷ ys) z (us ∷ vss) sc f (inr h) = by (meets_last ys z vss (picking ps us sc) f h.1)
    where
      by : Split ys z vss (picking ps us sc) f → Split (mark.Pick ps ∷ ys) z (us ∷ vss) sc f
      by (inl m) = inl (inr (h.0, m))
      by (inr m) = inr (record { front = us ∷ m.front; before = (h.0, m.before); here = m.here })
  meets_last (mark.Equals i e ∷ ys) z vss sc f (inl h) = inl (inl h)
  meets_last (mark.Equals i e ∷ ys) z vss sc f (inr h) = by (meets_last ys z vss sc f h.1)
    where
      by : Split ys z vss sc f → Split (mark.Equals i e ∷ ys) z vss sc f
      by (inl m) = inl (inr (h.0, m))
      by (inr m) = inr (record { front = m.front; before = (h.0, m.before); here = m.here })
  meets_last (mark.Among i e ∷ ys) z vss sc f (inl h) = inl (inl h)
  meets_last (mark.Among i e ∷ ys) z vss sc f (inr h) = by (meets_last ys z vss sc f h.1)
    where
      by : Split ys z vss sc f → Split (mark.Among i e ∷ ys) z vss sc f
      by (inl m) = inl (inr (h.0, m))
      by (inr m) = inr (record { front = m.front; before = (h.0, m.before); here = m.here })

  -- ---- what is so at each step

  module _ (Q : AssignedStep → Scope → Type 0) where
    pub along_before : (zs : List AssignedStep) (z : AssignedStep) (sc : Scope) → Along Q w s t (zs ++ z ∷ []) sc → Along Q w s t zs sc
    along_before [] z sc h = tt
    along_before (y ∷ ys) z sc h = (h.0, λ vs k. along_before ys z (scope_past y vs sc) (h.1 vs k))

    pub along_last : (zs : List AssignedStep) (z : AssignedStep) (vss : List (List Value)) (sc : Scope) → Along Q w s t (zs ++ z ∷ []) sc →
        AssignedHolds w s t zs vss sc → Q z (scope_after zs vss sc)
    along_last [] z vss sc h l = h.0
    along_last (mark.Guard e b ∷ ys) z vss sc h l = along_last ys z vss sc (h.1 [] l.0) l.1
    along_last (mark.Pick ps ∷ ys) z [] sc h l = absurd l
    along_last (mark.Pick ps ∷ ys) z (us ∷ vss) sc h l = along_last ys z vss (picking ps us sc) (h.1 us l.0) l.1
    along_last (mark.Equals i e ∷ ys) z vss sc h l = along_last ys z vss sc (h.1 [] l.0) l.1
    along_last (mark.Among i e ∷ ys) z vss sc h l = along_last ys z vss sc (h.1 [] l.0) l.1

    pub along_more : (zs : List AssignedStep) (z : AssignedStep) (sc : Scope) → Along Q w s t zs sc →
        ((vss : List (List Value)) → AssignedHolds w s t zs vss sc → Q z (scope_after zs vss sc)) → Along Q w s t (zs ++ z ∷ []) sc
    along_more [] z sc h k = (k [] refl, λ vs q. tt)
    along_more (mark.Guard e b ∷ ys) z sc h k = (h.0, λ vs q. along_more ys z sc (h.1 vs q) (λ vss l. k vss (q, l)))
    along_more (mark.Pick ps ∷ ys) z sc h k = (h.0, λ vs q. along_more ys z (picking ps vs sc) (h.1 vs q) (λ vss l. k (vs ∷ vss) (q, l)))
    along_more (mark.Equals i e ∷ ys) z sc h k = (h.0, λ vs q. along_more ys z sc (h.1 vs q) (λ vss l. k vss (q, l)))
    along_more (mark.Among i e ∷ ys) z sc h k = (h.0, λ vs q. along_more ys z sc (h.1 vs q) (λ vss l. k vss (q, l)))
