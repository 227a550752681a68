-- A note changes nothing of what is meant, nor of which names are used.
use Rattle.std.proofs.Common.{◌≡◌, ℕ, suc, Bool, true, false, ◌&&◌, ◌||◌, length, List, [], ◌∷◌, map, refl, ap, ap₂, ◌∙◌, sym, subst, Option, Some, None}
use Rattle.tla_meaning.specs.declared.expr.Def.{Def}
use Rattle.tla_meaning.specs.declared.expr.Expr.{Expr, roll-Expr}
use Rattle.tla_meaning.specs.declared.expr.Expr.TheOpen.{Expr-F}
use Rattle.tla_meaning.specs.declared.expr.Expr.TheFolds.{fold-roll-Expr, map-Expr, ind-Expr}
use Rattle.tla_meaning.specs.declared.place.Place.{Place}
use Rattle.tla_meaning.specs.Actions.{meaning, node}
use Rattle.tla_meaning.specs.Folds.{with_lambdas}
use Rattle.tla_meaning.specs.Meaning.{Meaning, role}
use Rattle.tla_meaning.specs.Numbers.{Width}
use Rattle.tla_meaning.specs.declared.op.Op.TheVariants as op
use Rattle.tla_meaning.proofs.MeaningLemmas.{meaning-roll}
use Rattle.op_inliner.specs.Known.{Uses, node_uses, uses_known}
use Rattle.op_inliner.proofs.Rolls.{uses-roll}
use Rattle.op_inliner.specs.Annotations.{annotation_of, body_noted, body_of, noted, noted_use, numbered, parameter, parameters_noted}

pub parameters-roll : (p : Place) (params : List (List ℕ)) (t : List ℕ) (x : Expr-F Expr) →
    parameters_noted p params t (roll-Expr x) ≡ noted_use p t (parameter params x.op) (roll-Expr (map-Expr Expr Expr (parameters_noted p params t) x))
unfolding parameters_noted
parameters-roll p params t x = fold-roll-Expr Expr (λ x. noted_use p t (parameter params x.op) (roll-Expr x)) x

padded : (b : Bool) → ((b || false) || false) ≡ b
padded true = refl
padded false = refl

pub noted_means : (w : Width) (p : Place) (t : List ℕ) (e : Expr) → meaning w (noted p t e) ≡ meaning w e
noted_means w p t e =
    meaning-roll w (record { place = p; op = op.Noted t; args = e ∷ []; binds = [] })
    ∙ (λ i. λ sc. let a = meaning w e sc in record {
      value = a.value;
      form = a.form;
      act = a.act;
      unchanged = a.unchanged;
      mentions = λ m. padded (a.mentions m) i;
    })

use_means : (w : Width) (p : Place) (t : List ℕ) (o : Option ℕ) (e : Expr) → meaning w (noted_use p t o e) ≡ meaning w e
use_means w p t None e = refl
use_means w p t (Some i) e = noted_means w p (numbered (suc i) t) e

abbrev Same : Width → Place → List (List ℕ) → List ℕ → Expr → Type 0
Same w p params t e = meaning w (parameters_noted p params t e) ≡ meaning w e

abbrev Part : Width → Place → List (List ℕ) → List ℕ → Type 0
Part w p params t = (e : Expr) × Same w p params t e

parts_mean : (w : Width) (p : Place) (params : List (List ℕ)) (t : List ℕ) (ys : List (Part w p params t)) →
    map (meaning w) (map (parameters_noted p params t) (map (λ y. y.0) ys)) ≡ map (meaning w) (map (λ y. y.0) ys)
parts_mean w p params t [] = refl
parts_mean w p params t (y ∷ ys) = ap₂ (λ (k : Meaning) (ks : List Meaning). k ∷ ks) y.1 (parts_mean w p params t ys)

parameters_mean : (w : Width) (p : Place) (params : List (List ℕ)) (t : List ℕ) (e : Expr) → Same w p params t e
parameters_mean w p params t = ind-Expr (Same w p params t) (λ x y is.
    subst (λ (z : Expr-F Expr). Same w p params t (roll-Expr z)) is (
    let z : Expr-F Expr = map-Expr (Part w p params t) Expr (λ e. e.0) y in
    let noted_z : Expr-F Expr = map-Expr Expr Expr (parameters_noted p params t) z in
    ap (meaning w) (parameters-roll p params t z)
    ∙ use_means w p t (parameter params z.op) (roll-Expr noted_z)
    ∙ meaning-roll w noted_z
    ∙ ap (λ (ks : List Meaning). node w (record { place = z.place; op = z.op; args = ks; binds = z.binds })) (parts_mean w p params t y.args)
    ∙ sym (meaning-roll w z)))

-- the body that each use stands for means what the definition's body means
pub body_means : (w : Width) (d : Def) → meaning w (body_of d) ≡ meaning w (with_lambdas d.body)
body_means w d = by_note (annotation_of d.note)
  where
    by_note : (o : Option (List ℕ)) → meaning w (body_noted o d (with_lambdas d.body)) ≡ meaning w (with_lambdas d.body)
    by_note None = refl
    by_note (Some t) =
        noted_means w d.place (numbered 0 t) (parameters_noted d.place d.params t (with_lambdas d.body))
        ∙ parameters_mean w d.place d.params t (with_lambdas d.body)

-- ---- the names that are used

and_true : (b : Bool) → (b && true) ≡ b
and_true true = refl
and_true false = refl

noted_uses : (p : Place) (t : List ℕ) (e : Expr) → uses_known (noted p t e) ≡ uses_known e
noted_uses p t e =
    uses-roll (record { place = p; op = op.Noted t; args = e ∷ []; binds = [] }) ∙ (λ i. λ as'. and_true (uses_known e as') i)

use_uses : (p : Place) (t : List ℕ) (o : Option ℕ) (e : Expr) → uses_known (noted_use p t o e) ≡ uses_known e
use_uses p t None e = refl
use_uses p t (Some i) e = noted_uses p (numbered (suc i) t) e

abbrev SameUses : Place → List (List ℕ) → List ℕ → Expr → Type 0
SameUses p params t e = uses_known (parameters_noted p params t e) ≡ uses_known e

abbrev Used : Place → List (List ℕ) → List ℕ → Type 0
Used p params t = (e : Expr) × SameUses p params t e

uses_same : (p : Place) (params : List (List ℕ)) (t : List ℕ) (ys : List (Used p params t)) →
    map uses_known (map (parameters_noted p params t) (map (λ y. y.0) ys)) ≡ map uses_known (map (λ y. y.0) ys)
uses_same p params t [] = refl
uses_same p params t (y ∷ ys) = ap₂ (λ (k : Uses) (ks : List Uses). k ∷ ks) y.1 (uses_same p params t ys)

parameters_use : (p : Place) (params : List (List ℕ)) (t : List ℕ) (e : Expr) → SameUses p params t e
parameters_use p params t = ind-Expr (SameUses p params t) (λ x y is.
    subst (λ (z : Expr-F Expr). SameUses p params t (roll-Expr z)) is (
    let z : Expr-F Expr = map-Expr (Used p params t) Expr (λ e. e.0) y in
    let noted_z : Expr-F Expr = map-Expr Expr Expr (parameters_noted p params t) z in
    ap uses_known (parameters-roll p params t z)
    ∙ use_uses p t (parameter params z.op) (roll-Expr noted_z)
    ∙ uses-roll noted_z
    ∙ ap (λ (ks : List Uses). node_uses (record { place = z.place; op = z.op; args = ks; binds = z.binds }) (role z.op (length z.binds))) (uses_same p params t y.args)
    ∙ sym (uses-roll z)))

pub body_uses : (d : Def) → uses_known (body_of d) ≡ uses_known (with_lambdas d.body)
body_uses d = by_note (annotation_of d.note)
  where
    by_note : (o : Option (List ℕ)) → uses_known (body_noted o d (with_lambdas d.body)) ≡ uses_known (with_lambdas d.body)
    by_note None = refl
    by_note (Some t) =
        noted_uses d.place (numbered 0 t) (parameters_noted d.place d.params t (with_lambdas d.body))
        ∙ parameters_use d.place d.params t (with_lambdas d.body)
