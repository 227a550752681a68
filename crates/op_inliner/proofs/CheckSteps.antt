-- The levels of a tree, and its first form.
use Rattle.std.proofs.Common.{◌≡◌, ◌≤◌, ◌<◌, ◌↔◌, ℕ, zero, suc, ◌+◌, ◌-◌, Bool, true, false, IsTrue, nat_lt, List, [], ◌∷◌, ◌++◌, length, map, take, get_or, Option, Some, None, arith, refl, ap, ◌∙◌, sym, subst, if◌then◌else◌}
use Rattle.std.proofs.lemmas.Bool.{ltb-true, ltb-false}
use Rattle.std.proofs.lemmas.List.{take_more}
use Rattle.tla_meaning.specs.declared.expr.Expr.{Expr, out-Expr, roll-Expr, roll-out-Expr}
use Rattle.tla_meaning.specs.declared.expr.Expr.TheOpen.{Expr-F}
use Rattle.tla_meaning.specs.declared.expr.Expr.TheFolds.{fold-roll-Expr}
use Rattle.tla_meaning.specs.declared.op.Form.{Form}
use Rattle.tla_meaning.specs.declared.place.Place.{Place}
use Rattle.op_inliner.specs.Answers.{depth, first_form, forms, greatest, own_form}
use Rattle.op_inliner.specs.Places.{joined}
use Rattle.op_inliner.proofs.Answered.{forms-roll}

-- ---- levels

pub depth-roll : (x : Expr-F Expr) → depth (roll-Expr x) ≡ suc (greatest (map depth x.args))
unfolding depth
depth-roll x = fold-roll-Expr ℕ (λ x. suc (greatest x.args)) x

pub depth_out : (e : Expr) → depth e ≡ suc (greatest (map depth (out-Expr e).args))
depth_out e = ap depth (sym (roll-out-Expr e)) ∙ depth-roll (out-Expr e)

pub greatest_first : (n : ℕ) (ns : List ℕ) → n ≤ greatest (n ∷ ns)
greatest_first n ns = at (nat_lt (greatest ns) n) refl
  where
    at : (b : Bool) → nat_lt (greatest ns) n ≡ b → n ≤ (if b then n else greatest ns)
    at true e = omega arith
    at false e = let k = ltb-false (greatest ns) n e in omega (arith, k)

pub greatest_rest : (n : ℕ) (ns : List ℕ) → greatest ns ≤ greatest (n ∷ ns)
greatest_rest n ns = at (nat_lt (greatest ns) n) refl
  where
    at : (b : Bool) → nat_lt (greatest ns) n ≡ b → greatest ns ≤ (if b then n else greatest ns)
    at true e = let k = ltb-true (greatest ns) n e in omega (arith, k)
    at false e = omega arith

greatest_both : (k n : ℕ) (ns : List ℕ) → n ≤ k → greatest ns ≤ k → greatest (n ∷ ns) ≤ k
greatest_both k n ns h l = at (nat_lt (greatest ns) n)
  where
    at : (b : Bool) → (if b then n else greatest ns) ≤ k
    at true = h
    at false = l

greatest_last : (k : ℕ) (es : List Expr) (e : Expr) → greatest (map depth es) ≤ k → depth e ≤ k → greatest (map depth (es ++ e ∷ [])) ≤ k
greatest_last k [] e h l = greatest_both k (depth e) [] l (omega arith)
greatest_last k (d ∷ es) e h l =
    let a = greatest_first (depth d) (map depth es) in
    let b = greatest_rest (depth d) (map depth es) in
    greatest_both k (depth d) (map depth (es ++ e ∷ [])) (omega (arith, a, h)) (greatest_last k es e (omega (arith, b, h)) l)

greatest_is : (es : List Expr) (d : Expr) (i : ℕ) → i < length es → depth (get_or es i d) ≤ greatest (map depth es)
greatest_is [] d i h = absurd (omega (arith, h))
greatest_is (e ∷ es) d zero h = greatest_first (depth e) (map depth es)
greatest_is (e ∷ es) d (suc i) h =
    let a = greatest_rest (depth e) (map depth es) in let b = greatest_is es d i (omega (arith, h)) in omega (arith, a, b)

-- one tree more is within the levels
pub one_within : (k : ℕ) (es : List Expr) (i : ℕ) (e : Expr) → i < length es → e ≡ get_or es i e → depth e ≤ k → greatest (map depth (take i es)) ≤ k →
    greatest (map depth (take (i + 1) es)) ≤ k
one_within k es i e h is l m =
    subst (λ (ds : List Expr). greatest (map depth ds) ≤ k) (sym (take_more es i e h))
    (greatest_last k (take i es) (get_or es i e) m (subst (λ (d : Expr). depth d ≤ k) is l))

-- a tree past the levels
pub one_past : (k : ℕ) (es : List Expr) (i : ℕ) (e : Expr) → i < length es → e ≡ get_or es i e → (depth e ≤ k → ⊥) → greatest (map depth es) ≤ k → ⊥
one_past k es i e h is past within =
    past (let a = greatest_is es e i h in let b : depth e ≡ depth (get_or es i e) = ap depth is in omega (arith, a, b, within))

pub within_node : (e : Expr) (es : List Expr) (k : ℕ) (b : Bool) → 0 < k → es ≡ (out-Expr e).args → IsTrue b ↔ (greatest (map depth es) ≤ k - 1) → IsTrue b ↔ (depth e ≤ k)
within_node e es k b h is r =
    let d = depth_out e in
    let g : greatest (map depth es) ≡ greatest (map depth (out-Expr e).args) = ap (λ (fs : List Expr). greatest (map depth fs)) is in (
      λ t. let a = r.0 t in omega (arith, a, d, g, h),
      λ l. r.1 (omega (arith, l, d, g, h)),
    )

no_level : (e : Expr) (k : ℕ) → k ≤ 0 → depth e ≤ k → ⊥
no_level e k h l = let d = depth_out e in absurd (omega (arith, d, h, l))

-- ---- forms

forms_out : (e : Expr) → forms e ≡ own_form (out-Expr e).op (out-Expr e).place ++ joined (map forms (out-Expr e).args)
forms_out e = ap forms (sym (roll-out-Expr e)) ∙ forms-roll (out-Expr e)

first_some : (f : Form × Place) (fs gs : List (Form × Place)) → Some f ≡ first_form fs → Some f ≡ first_form (fs ++ gs)
first_some f [] gs h = absurd (cc)
first_some f (g ∷ fs) gs h = h

first_none : (fs gs : List (Form × Place)) → None ≡ first_form fs → first_form gs ≡ first_form (fs ++ gs)
first_none [] gs h = refl
first_none (f ∷ fs) gs h = absurd (cc)

pub own_first : (e : Expr) (f : Form × Place) → Some f ≡ first_form (own_form (out-Expr e).op (out-Expr e).place) → Some f ≡ first_form (forms e)
own_first e f h = first_some f (own_form (out-Expr e).op (out-Expr e).place) (joined (map forms (out-Expr e).args)) h ∙ ap first_form (sym (forms_out e))

pub later_first : (e : Expr) (es : List Expr) (r : Option (Form × Place)) → None ≡ first_form (own_form (out-Expr e).op (out-Expr e).place) → es ≡ (out-Expr e).args →
    r ≡ first_form (joined (map forms es)) → r ≡ first_form (forms e)
later_first e es r h is k =
    k ∙ ap (λ (fs : List Expr). first_form (joined (map forms fs))) is
    ∙ first_none (own_form (out-Expr e).op (out-Expr e).place) (joined (map forms (out-Expr e).args)) h ∙ ap first_form (sym (forms_out e))

pub no_levels : (e : Expr) (k : ℕ) → k ≤ 0 → IsTrue (nat_lt 0 k) ↔ (depth e ≤ k)
no_levels e k h = (λ t. let a = ltb-true 0 k t in absurd (omega (arith, a, h)), λ l. absurd (no_level e k h l))
