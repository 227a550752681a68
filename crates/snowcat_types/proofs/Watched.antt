-- Nodes on lists by variables: what is held stays held.
use Rattle.std.proofs.Common.{◌≡◌, ℕ, ◌+◌, ◌-◌, ◌<◌, ◌≤◌, inl, inr, ◌⊎◌, List, [], ◌∷◌, ◌++◌, Option, Some, None, length, suc, zero, refl, ap, sym, ◌∙◌, subst, arith, take}
use Rattle.std.specs.Prelude.{get_or}
use Rattle.std.specs.List.{Contains}
use Rattle.std.proofs.lemmas.Bool.{cases_eq, cases_lt}
use Rattle.std.proofs.lemmas.Bool.Decides.{eqb_tells}
use Rattle.std.proofs.lemmas.List.Elements.{Contains-append_left, Contains-append_right, Contains-push, Contains-push_cases}
use Rattle.snowcat_rows.specs.Types.{Term, var}
use Rattle.snowcat_rows.specs.Substitutions.{apply}
use Rattle.snowcat_rows.specs.Chains.{Binding, single, solved, sub_of, to_row, to_type}
use Rattle.snowcat_rows.specs.Views.{type_bound, type_bound_at}
use Rattle.snowcat_rows.proofs.RowTheory.{solved_is}
use Rattle.snowcat_types.specs.declared.watching.Watching.{Watching}
use Rattle.snowcat_types.specs.inner.Awaited.{HasFrom, Holds, IsHeld, IsListed, IsReleased, IsTaken, IsWatched}

-- ---- one binding more, of another variable

single_kept : (b : Binding) (u : ℕ) → (type_bound b ≡ Some u → ⊥) → apply (single b) (var u) ≡ var u
single_kept (to_type v t) u n = elim (eqb_tells u v) [ inl h ↦ absurd (n (ap Some (sym h.1))) | inr h ↦ rw h.0 refl ]
single_kept (to_row r w) u n = refl

solved_on : (bs : List Binding) (i u : ℕ) (t : Term) → (type_bound_at bs i ≡ Some u → ⊥) → solved (take i bs) t ≡ var u → solved (take (suc i) bs) t ≡ var u
solved_on [] zero u t n e = e
solved_on [] (suc i) u t n e = e
solved_on (b ∷ bs) zero u t n e = ap (apply (single b)) e ∙ single_kept b u n
solved_on (b ∷ bs) (suc i) u t n e = solved_on bs i u (apply (single b) t) n e

next_take : (bs : List Binding) (i : ℕ) → take (i + 1) bs ≡ take (suc i) bs
next_take bs i = let e : i + 1 ≡ suc i = omega arith in ap (λ z. take z bs) e

leads_on : (bs : List Binding) (i u : ℕ) (t : Term) → (type_bound_at bs i ≡ Some u → ⊥) → apply (sub_of (take i bs)) t ≡ var u
    → apply (sub_of (take (i + 1) bs)) t ≡ var u
leads_on bs i u t n e =
    let P : List Binding → Type 0 = λ z. apply (sub_of z) t ≡ var u in
    subst P (sym (next_take bs i)) (sym (solved_is (take (suc i) bs) t) ∙ solved_on bs i u t n (solved_is (take i bs) t ∙ e))

-- ---- lists

in_same : (xs ys : List ℕ) (i : ℕ) → ys ≡ xs → Contains xs i → Contains ys i
in_same xs ys i e c = let P : List ℕ → Type 0 = λ z. Contains z i in subst P (sym e) c

-- ---- the agenda

pub from_more : (n i x : ℕ) (xs ys : List ℕ) → i < n → x ≡ n - 1 - i → ys ≡ xs ++ x ∷ [] → HasFrom (n - i) n xs → HasFrom (n - (i + 1)) n ys
from_more n i x xs ys lt is e h = let P : List ℕ → Type 0 = λ z. HasFrom (n - (i + 1)) n z in
    subst P (sym e) (record { has = λ j le below. one j le below (cases_lt j (n - i)) })
  where
    one : (j : ℕ) → n - (i + 1) ≤ j → j < n → (j < n - i) ⊎ (n - i ≤ j) → Contains (xs ++ x ∷ []) j
    one j le below (inl l) =
        let k : x ≡ j = omega (arith, lt, is, le, l) in
        let P : ℕ → Type 0 = λ z. Contains (xs ++ x ∷ []) z in subst P k (Contains-push xs x)
    one j le below (inr g) = Contains-append_left xs (x ∷ []) j (h.has j g below)

-- ---- a list went to the agenda

not_other : (o : Option ℕ) (v u : ℕ) → o ≡ Some v → (u ≡ v → ⊥) → o ≡ Some u → ⊥
not_other o v u e n h = n (let k : Some u ≡ Some v = sym h ∙ e in cc)

not_none : (o : Option ℕ) (u : ℕ) → o ≡ None → o ≡ Some u → ⊥
not_none o u e h = absurd (let k : Some u ≡ None = sym h ∙ e in cc)

module _ (xs bs : List Binding) (i : ℕ) (f g : Watching) (k : Holds xs f (take i bs) g) where
  pub holds_released : (v : ℕ) (h : Watching) → Some v ≡ type_bound_at bs i → IsReleased g v h → Holds xs f (take (i + 1) bs) h
  holds_released v h is r = record { held = λ j t x. step j t (k.held j t x) }
    where
      step : (j : ℕ) (t : Term) → IsHeld (take i bs) g j t → IsHeld (take (i + 1) bs) h j t
      step j t (inl c) = inl (in_same _ h.agenda.items j r.agenda (Contains-append_left g.agenda.items (get_or g.lists.items v []) j c))
      step j t (inr l) = elim (cases_eq l.variable v) [
        | inl e ↦ (let P : ℕ → Type 0 = λ z. Contains (get_or g.lists.items z []) j in
            inl (in_same _ h.agenda.items j r.agenda (Contains-append_right g.agenda.items (get_or g.lists.items v []) j (subst P e l.on))))
        | inr n ↦ inr (record {
          variable = l.variable;
          leads = leads_on bs i l.variable t (not_other (type_bound_at bs i) v l.variable (sym is) n) l.leads;
          on = in_same _ _ j (r.others.others l.variable n) l.on;
        })
      ]

  pub holds_on : None ≡ type_bound_at bs i → Holds xs f (take (i + 1) bs) g
  holds_on is = record { held = λ j t x. step j t (k.held j t x) }
    where
      step : (j : ℕ) (t : Term) → IsHeld (take i bs) g j t → IsHeld (take (i + 1) bs) g j t
      step j t (inl c) = inl c
      step j t (inr l) = inr (record {
        variable = l.variable;
        leads = leads_on bs i l.variable t (not_none (type_bound_at bs i) l.variable (sym is)) l.leads;
        on = l.on;
      })

-- ---- a number is taken off the agenda

pub taken_other : (bs : List Binding) (g h : Watching) (i j : ℕ) (t : Term) → IsTaken g (Some i) h → (j ≡ i → ⊥) → IsHeld bs g j t → IsHeld bs h j t
taken_other bs g h i j t k n (inl c) = elim (Contains-push_cases h.agenda.items i j (in_same _ _ j (sym k.0) c)) [ inl d ↦ inl d | inr e ↦ absurd (n (sym e)) ]
taken_other bs g h i j t k n (inr l) = inr (record { variable = l.variable; leads = l.leads; on = in_same _ _ j (ap (λ z. get_or z l.variable []) k.1) l.on })

pub taken_none : (bs : List Binding) (g : Watching) (i : ℕ) (t : Term) → g.agenda.items ≡ [] → IsHeld bs g i t → IsListed bs g i t
taken_none bs g i t e (inl c) = absurd (let lt = c.1 in let l : length g.agenda.items ≡ 0 = ap length e in omega (arith, lt, l))
taken_none bs g i t e (inr l) = l

pub taken_same : (bs : List Binding) (g h : Watching) (j : ℕ) (t : Term) → IsTaken g None h → IsHeld bs g j t → IsHeld bs h j t
taken_same bs g h j t k x =
    let l = taken_none bs g j t k.0 x in
    inr (record { variable = l.variable; leads = l.leads; on = in_same _ _ j (ap (λ z. get_or z l.variable []) k.2) l.on })

-- ---- a list has a number more

module _ (bs : List Binding) (g h : Watching) (v i : ℕ) (w : IsWatched g v i h) where
  pub watched_other : (j : ℕ) (t : Term) → IsHeld bs g j t → IsHeld bs h j t
  watched_other j t (inl c) = inl (in_same _ _ j w.agenda c)
  watched_other j t (inr l) = elim (cases_eq l.variable v) [
    | inl e ↦ (let P : ℕ → Type 0 = λ z. Contains (get_or g.lists.items z []) j in
        inr (record {
          variable = v;
          leads = l.leads ∙ ap var e;
          on = in_same _ _ j w.own (Contains-append_left (get_or g.lists.items v []) (i ∷ []) j (subst P e l.on));
        }))
    | inr n ↦ inr (record { variable = l.variable; leads = l.leads; on = in_same _ _ j (w.others.others l.variable n) l.on })
  ]

  pub watched_it : (t : Term) → apply (sub_of bs) t ≡ var v → IsHeld bs h i t
  watched_it t e = inr (record { variable = v; leads = e; on = in_same _ _ i w.own (Contains-push (get_or g.lists.items v []) i) })
