-- The steps of reading annotations and writing them into bodies.
use Rattle.std.proofs.Common.{◌≡◌, ◌≤◌, ◌<◌, ◌-◌, ℕ, zero, suc, ◌+◌, List, [], ◌∷◌, ◌++◌, length, map, take, drop, Option, Some, None, arith, refl, ap, ap₂, ◌∙◌, sym, subst}
use Rattle.std.proofs.lemmas.List.{drop_all, take_rest}
use Rattle.tla_meaning.specs.declared.expr.Expr.{Expr, out-Expr, out-roll-Expr, roll-Expr, roll-out-Expr}
use Rattle.tla_meaning.specs.declared.expr.Expr.TheOpen.{Expr-F}
use Rattle.tla_meaning.specs.declared.place.Place.{Place}
use Rattle.tla_meaning.specs.Folds.{lambda_at, with_lambdas}
use Rattle.tla_meaning.proofs.MeaningLemmas.{with_lambdas-roll}
use Rattle.tla_meaning.specs.Scopes.{or_else}
use Rattle.op_inliner.specs.Annotations.{annotation_at, annotation_of, behind, noted, noted_use, numbered, parameter, parameters_noted}
use Rattle.op_inliner.proofs.Notes.{parameters-roll}

-- ---- the annotation of a note

pub record Matching (beginning text : List ℕ) (i : ℕ) : Type 0 where
  pub first : i ≤ length beginning
  pub second : i ≤ length text
  pub left : behind (drop i beginning) (drop i text) ≡ behind beginning text

pub too_short : (beginning text : List ℕ) (i : ℕ) → Matching beginning text i → i < length beginning → length text ≤ i → behind beginning text ≡ None
too_short beginning text i m h k = sym m.left ∙ ap (behind (drop i beginning)) (drop_all i text k) ∙ nothing beginning i h
  where
    nothing : (bs : List ℕ) (i : ℕ) → i < length bs → behind (drop i bs) [] ≡ None
    nothing [] i h = absurd (omega (arith, h))
    nothing (b ∷ bs) zero h = refl
    nothing (b ∷ bs) (suc i) h = nothing bs i (omega (arith, h))

-- what stands behind a front of the text
abbrev pub behind_front : List ℕ → Option (List ℕ) → Option (List ℕ)
behind_front xs None = None
behind_front xs (Some t) = Some (xs ++ t)

-- ---- bodies

pub with_lambdas_node : (e : Expr) (es : List Expr) (r : Expr) →
    (let f = out-Expr (roll-Expr (record (out-Expr e) { args = es })) in r ≡ lambda_at f.place f.op f.binds f.args) → es ≡ map with_lambdas (out-Expr e).args → r ≡ with_lambdas e
with_lambdas_node e es r k h =
    k
    ∙ ap (λ (f : Expr-F Expr). lambda_at f.place f.op f.binds f.args) (out-roll-Expr (record (out-Expr e) { args = es }))
    ∙ ap (lambda_at (out-Expr e).place (out-Expr e).op (out-Expr e).binds) h
    ∙ sym (with_lambdas-roll (out-Expr e)) ∙ ap with_lambdas (roll-out-Expr e)

pub noted_node : (p : Place) (params : List (List ℕ)) (t : List ℕ) (e : Expr) (es : List Expr) (o : Option ℕ) → o ≡ parameter params (out-Expr e).op →
    es ≡ map (parameters_noted p params t) (out-Expr e).args →
    noted_use p t o (roll-Expr (record (out-Expr e) { args = es })) ≡ parameters_noted p params t e
noted_node p params t e es o k h =
    ap₂ (λ (n : Option ℕ) (fs : List Expr). noted_use p t n (roll-Expr (record (out-Expr e) { args = fs }))) k h
    ∙ sym (parameters-roll p params t (out-Expr e)) ∙ ap (parameters_noted p params t) (roll-out-Expr e)

-- ---- looking for the annotation

annotation_step : (note : List ℕ) (i : ℕ) → i < length note →
    annotation_of (drop i note) ≡ or_else (annotation_at (drop i note)) (annotation_of (drop (suc i) note))
unfolding annotation_of
annotation_step [] i h = absurd (omega (arith, h))
annotation_step (b ∷ note) zero h = refl
annotation_step (b ∷ note) (suc i) h = annotation_step note i (omega (arith, h))

pub annotation_found : (note t : List ℕ) (i : ℕ) → i < length note → annotation_of (drop i note) ≡ annotation_of note →
    annotation_at (take (length note - i) (drop i note)) ≡ Some t → annotation_of note ≡ Some t
annotation_found note t i h k e =
    sym k ∙ annotation_step note i h ∙ ap (λ o. or_else o (annotation_of (drop (suc i) note))) (ap annotation_at (sym (take_rest note i)) ∙ e)

annotation_missed : (note : List ℕ) (i : ℕ) → i < length note → annotation_of (drop i note) ≡ annotation_of note →
    annotation_at (take (length note - i) (drop i note)) ≡ None → annotation_of (drop (suc i) note) ≡ annotation_of note
annotation_missed note i h k e =
    sym (ap (λ o. or_else o (annotation_of (drop (suc i) note))) (ap annotation_at (sym (take_rest note i)) ∙ e)) ∙ sym (annotation_step note i h) ∙ k

pub annotation_next : (note : List ℕ) (i : ℕ) → i < length note → annotation_of (drop i note) ≡ annotation_of note →
    annotation_at (take (length note - i) (drop i note)) ≡ None → annotation_of (drop (i + 1) note) ≡ annotation_of note
annotation_next note i h k e =
    let up : suc i ≡ i + 1 = omega arith in subst (λ j. annotation_of (drop j note) ≡ annotation_of note) up (annotation_missed note i h k e)

annotation_nowhere : annotation_of [] ≡ None
unfolding annotation_of
annotation_nowhere = refl

pub annotation_none : (note : List ℕ) (i : ℕ) → length note ≤ i → annotation_of (drop i note) ≡ annotation_of note → annotation_of note ≡ None
annotation_none note i h k = sym k ∙ ap annotation_of (drop_all i note h) ∙ annotation_nowhere

pub noted_parameter : (p : Place) (params : List (List ℕ)) (t : List ℕ) (e : Expr) (es : List Expr) (i : ℕ) (r : Expr) →
    r ≡ noted p (numbered (i + 1) t) (roll-Expr (record (out-Expr e) { args = es })) → Some i ≡ parameter params (out-Expr e).op →
    es ≡ map (parameters_noted p params t) (out-Expr e).args → r ≡ parameters_noted p params t e
noted_parameter p params t e es i r k l h =
    let up : i + 1 ≡ suc i = omega arith in
    k ∙ ap (λ (n : ℕ). noted p (numbered n t) (roll-Expr (record (out-Expr e) { args = es }))) up ∙ noted_node p params t e es (Some i) l h
