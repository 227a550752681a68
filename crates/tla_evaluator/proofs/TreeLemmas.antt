-- What an evaluation computes at a node, by the outcomes of its children.
use Rattle.tla_evaluator.proofs.Words.{Denotation, Expr, Expr-F, Formed, Meaning, Op, Outcome, Place, Scope, State, Value, Width, absent, child, denotation_of, denotations, fold_out-Expr, forms, inner, list_all, map-Expr, node, out-Expr, outcomes, outer, role, view}
use Rattle.std.proofs.lemmas.List.Folds.{list_all-map}
use Rattle.std.proofs.Common.{◌&&◌, ◌≡◌, ℕ, zero, suc, Bool, true, false, IsTrue, List, [], ◌∷◌, ◌++◌, map, take, drop, replicate, length, refl, ap, ◌∙◌, sym, Some}
use Rattle.tla_evaluator.specs.Trees.{first_at, forms_at, form_at, is_expanded, expanded_meaning, expanded_node, outcomes_at, scope_at, is_expanded_op, value_at}

pub expanded_meaning-out : (w : Width) (e : Expr) → expanded_meaning w e ≡ expanded_node w (map-Expr Expr Meaning (expanded_meaning w) (out-Expr e))
unfolding expanded_meaning
expanded_meaning-out w e = fold_out-Expr Meaning (expanded_node w) e

-- the sense of a node that is_expanded_op
pub sense_at : (w : Width) (e : Expr) (sc : Scope) (o : Op) → (out-Expr e).op ≡ o → IsTrue (is_expanded_op o) →
    expanded_meaning w e sc ≡ denotation_of w (out-Expr e).place o (length (out-Expr e).binds)
    (view (out-Expr e).place (role o (length (out-Expr e).binds)) (out-Expr e).binds (map (expanded_meaning w) (out-Expr e).args) sc)
sense_at w e sc o is h =
    let x : Expr-F Meaning = map-Expr Expr Meaning (expanded_meaning w) (out-Expr e) in
    ap (λ (m : Meaning). m sc) (expanded_meaning-out w e)
    ∙ ap (λ (b : Bool). elim b as (λ _. Denotation) [ true ↦ node w x sc | false ↦ absent x.place ]) (ap is_expanded_op is ∙ h)
    ∙ ap (λ (o : Op). denotation_of w x.place o (length x.binds) (view x.place (role o (length x.binds)) x.binds x.args sc)) is

-- the sense of every other node
pub sense_gone : (w : Width) (e : Expr) (sc : Scope) → is_expanded_op (out-Expr e).op ≡ false → expanded_meaning w e sc ≡ absent (out-Expr e).place
sense_gone w e sc h =
    let x : Expr-F Meaning = map-Expr Expr Meaning (expanded_meaning w) (out-Expr e) in
    ap (λ (m : Meaning). m sc) (expanded_meaning-out w e)
    ∙ ap (λ (b : Bool). elim b as (λ _. Denotation) [ true ↦ node w x sc | false ↦ absent x.place ]) h

-- ---- expanded trees

-- a node that is_expanded_op is expanded where its children are
pub expanded_then : (e : Expr) (es : List Expr) → es ≡ (out-Expr e).args → IsTrue (is_expanded_op (out-Expr e).op) → list_all is_expanded es ≡ is_expanded e
expanded_then e es same h =
    ap (list_all is_expanded) same
    ∙ sym (fold_out-Expr Bool (λ x. is_expanded_op x.op && list_all (λ b. b) x.args) e
    ∙ ap (λ b. b && list_all (λ b. b) (map is_expanded (out-Expr e).args)) h
    ∙ list_all-map (λ b. b) is_expanded (out-Expr e).args)

-- ---- the children of a node

pub outer_all : (p : Place) (ks : List Meaning) (sc : Scope) → outer p [] ks sc ≡ denotations ks sc
outer_all p [] sc = refl
outer_all p (k ∷ ks) sc = ap (λ (as' : List Denotation). k sc ∷ as') (outer_all p ks sc)

-- those before a marked one
pub outer_front : (p : Place) (n : ℕ) (ms : List Bool) (ks : List Meaning) (sc : Scope) →
    take n (outer p (replicate n false ++ true ∷ ms) ks sc) ≡ denotations (take n ks) sc
outer_front p zero ms ks sc = refl
outer_front p (suc n) ms [] sc = refl
outer_front p (suc n) ms (k ∷ ks) sc = ap (λ (as' : List Denotation). k sc ∷ as') (outer_front p n ms ks sc)

-- those behind it
pub outer_back : (p : Place) (n : ℕ) (ms : List Bool) (ks : List Meaning) (sc : Scope) →
    drop (suc n) (outer p (replicate n false ++ true ∷ ms) ks sc) ≡ outer p ms (drop (suc n) ks) sc
outer_back p zero ms [] sc = refl
outer_back p zero ms (k ∷ ks) sc = refl
outer_back p (suc n) ms [] sc = refl
outer_back p (suc n) ms (k ∷ ks) sc = outer_back p n ms ks sc

pub inner_back : (p : Place) (n : ℕ) (ms : List Bool) (ks : List Meaning) (sc : Scope) →
    drop (suc n) (inner p (replicate n false ++ true ∷ ms) ks sc) ≡ inner p ms (drop (suc n) ks) sc
inner_back p zero ms [] sc = refl
inner_back p zero ms (k ∷ ks) sc = refl
inner_back p (suc n) ms [] sc = refl
inner_back p (suc n) ms (k ∷ ks) sc = inner_back p n ms ks sc

-- the marked one
pub inner_child : (p : Place) (n : ℕ) (ms : List Bool) (ks : List Meaning) (sc : Scope) →
    child p n (inner p (replicate n false ++ true ∷ ms) ks sc) ≡ child p 0 (denotations (drop n ks) sc)
inner_child p zero ms [] sc = refl
inner_child p zero ms (k ∷ ks) sc = refl
inner_child p (suc n) ms [] sc = refl
inner_child p (suc n) ms (k ∷ ks) sc = inner_child p n ms ks sc

module _ (w : ℕ) (vars : List (List ℕ × Value)) (s t : State) where
  abbrev pub given : List Expr → List Denotation
  given es = denotations (map (expanded_meaning (Some w)) es) (scope_at vars)

  pub outcomes_given : (es : List Expr) → outcomes (given es) s t ≡ outcomes_at w es vars s t
  outcomes_given [] = refl
  outcomes_given (e ∷ es) = ap (λ (os : List Outcome). value_at w e vars s t ∷ os) (outcomes_given es)

  pub forms_given : (es : List Expr) → forms (given es) s t ≡ forms_at w es vars s t
  forms_given [] = refl
  forms_given (e ∷ es) = ap (λ (fs : List Formed). form_at w e vars s t ∷ fs) (forms_given es)

  pub first_given : (p : Place) (es : List Expr) → (child p 0 (given es)).value s t ≡ first_at w p es vars s t
  first_given p [] = refl
  first_given p (e ∷ es) = refl

  -- the children of a node without bound names
  pub here_given : (p : Place) (es : List Expr) → outer p [] (map (expanded_meaning (Some w)) es) (scope_at vars) ≡ given es
  here_given p es = outer_all p (map (expanded_meaning (Some w)) es) (scope_at vars)
