-- The steps of the passes over bodies.
use Rattle.std.proofs.Common.{◌≡◌, ◌≤◌, ◌<◌, ℕ, zero, suc, List, [], ◌∷◌, ◌++◌, length, map, take, drop, get_or, ◌⊎◌, inl, inr, arith, refl, ap, ap₂, ◌∙◌, sym}
use Rattle.std.proofs.lemmas.List.{append-nil, append_assoc, drop_all}
use Rattle.tla_meaning.specs.declared.expr.Expr.{Expr, out-Expr, roll-out-Expr}
use Rattle.tla_meaning.specs.declared.expr.Expr.TheOpen.{Expr-F}
use Rattle.tla_meaning.specs.declared.expr.Expr.TheFolds.{map-Expr}
use Rattle.tla_meaning.specs.declared.op.Op.{Op}
use Rattle.tla_meaning.specs.declared.op.Op.TheVariants as op
use Rattle.tla_meaning.specs.Meaning.{role}
use Rattle.tla_meaning.specs.Scopes.{find_last}
use Rattle.op_inliner.specs.declared.sums.Counted.{Counted}
use Rattle.op_inliner.specs.declared.scope.Entry.{Entry}
use Rattle.op_inliner.specs.inner.Sums.{Scope, Summing, behind_all, called_sums, defined_sums, entry_of, let_sums, no_sums, node_sums, parameters, scope_of, sum_node, summed, sums_at, sums_of_child}
use Rattle.op_inliner.proofs.Summed.{summed-roll}

-- the definitions of a LET that are added, and those that are left
pub record Defining (lets : List (List ℕ × ℕ)) (names : List (List ℕ)) (trees : List Expr) (unknown i from : ℕ) (before now : List Entry) : Type 0 where
  pub first : i ≤ length lets
  pub second : i ≤ length trees
  pub third : from ≤ length names
  pub left : let_sums (drop i lets) (drop from names) (map summed (drop i trees)) unknown (scope_of now)
      ≡ let_sums lets names (map summed trees) unknown (scope_of before)

lets_done : (ds : List (List ℕ × ℕ)) (xs : List (List ℕ)) (n : ℕ) (sc : Scope) → let_sums ds xs [] n sc ≡ sc
lets_done [] xs n sc = refl
lets_done (d ∷ ds) xs n sc = refl

pub trees_used : (lets : List (List ℕ × ℕ)) (names : List (List ℕ)) (trees : List Expr) (unknown i from : ℕ) (before now : List Entry) →
    Defining lets names trees unknown i from before now → length trees ≤ i → scope_of now ≡ let_sums lets names (map summed trees) unknown (scope_of before)
trees_used lets names trees unknown i from before now d h =
    sym (ap (λ (es : List Expr). let_sums (drop i lets) (drop from names) (map summed es) unknown (scope_of now)) (drop_all i trees h)
    ∙ lets_done (drop i lets) (drop from names) unknown (scope_of now))
    ∙ d.left

-- ---- what is kept of a scope

scope_taken : (n : ℕ) (es : List Entry) → scope_of (take n es) ≡ take n (scope_of es)
scope_taken zero es = refl
scope_taken (suc n) [] = refl
scope_taken (suc n) (e ∷ es) = ap (λ (sc : Scope). entry_of e ∷ sc) (scope_taken n es)

scope_length : (es : List Entry) → length (scope_of es) ≡ length es
scope_length [] = refl
scope_length (e ∷ es) = ap suc (scope_length es)

front_of : (sc td : Scope) → take (length sc) (sc ++ td) ≡ sc
front_of [] td = refl
front_of (e ∷ sc) td = ap (λ (s : Scope). e ∷ s) (front_of sc td)

-- what stands at the front of a longer scope
record Begins (sc td : Scope) : Type 0 where
  rest : Scope
  is : td ≡ sc ++ rest

lets_begin : (ds : List (List ℕ × ℕ)) (xs : List (List ℕ)) (ks : List Summing) (n : ℕ) (sc : Scope) → Begins sc (let_sums ds xs ks n sc)
lets_begin [] xs ks n sc = record { rest = []; is = sym (append-nil sc) }
lets_begin (d ∷ ds) xs [] n sc = record { rest = []; is = sym (append-nil sc) }
lets_begin (d ∷ ds) xs (k ∷ ks) n sc =
    let later : Scope = defined_sums d.0 (take d.1 xs) k n sc in
    let b : Begins later (let_sums ds (drop d.1 xs) ks n later) = lets_begin ds (drop d.1 xs) ks n later in
    record { rest = (d.0, (n, k (behind_all (take d.1 xs) n) (sc ++ parameters (take d.1 xs) n))) ∷ b.rest; is = b.is ∙ append_assoc sc _ b.rest }

cut_back : (before now : List Entry) (td : Scope) → Begins (scope_of before) td → scope_of now ≡ td → scope_of (take (length before) now) ≡ scope_of before
cut_back before now td b e =
    scope_taken (length before) now
    ∙ ap (take (length before)) (e ∙ b.is)
    ∙ ap (λ n. take n (scope_of before ++ b.rest)) (sym (scope_length before))
    ∙ front_of (scope_of before) b.rest

pub let_kept : (before now : List Entry) (ds : List (List ℕ × ℕ)) (xs : List (List ℕ)) (ks : List Summing) (n k : ℕ) → k ≡ length before →
    scope_of now ≡ let_sums ds xs ks n (scope_of before) → scope_of (take k now) ≡ scope_of before
let_kept before now ds xs ks n k l e = ap (λ m. scope_of (take m now)) l ∙ cut_back before now (let_sums ds xs ks n (scope_of before)) (lets_begin ds xs ks n (scope_of before)) e

scope_more : (es : List Entry) (e : Entry) → scope_of (es ++ e ∷ []) ≡ scope_of es ++ entry_of e ∷ []
scope_more [] e = refl
scope_more (d ∷ es) e = ap (λ (sc : Scope). entry_of d ∷ sc) (scope_more es e)

pub defined_is : (before now : List Entry) (name : List ℕ) (ps : List (List ℕ)) (body : Expr) (n k : ℕ) (counted : Counted) → k ≡ length before →
    scope_of now ≡ scope_of before ++ parameters ps n → counted ≡ summed body (behind_all ps n) (scope_of before ++ parameters ps n) →
    scope_of (take k now ++ (record { name = name; below = n; counted = counted }) ∷ []) ≡ defined_sums name ps (summed body) n (scope_of before)
defined_is before now name ps body n k counted l e f =
    scope_more (take k now) (record { name = name; below = n; counted = counted })
    ∙ ap₂ (λ (sc : Scope) (c : Counted). sc ++ (name, (n, c)) ∷ [])
    (ap (λ m. scope_of (take m now)) l ∙ cut_back before now (scope_of before ++ parameters ps n) (record { rest = parameters ps n; is = refl }) e) f

-- ---- nodes

summed_node : (e : Expr) → summed e ≡ sum_node (map-Expr Expr Summing summed (out-Expr e)) (role (out-Expr e).op (length (out-Expr e).binds))
summed_node e = ap summed (sym (roll-out-Expr e)) ∙ summed-roll (out-Expr e)

use_summed : (e : Expr) (x : List ℕ) (n : ℕ) (sc : Scope) → (out-Expr e).op ≡ op.Use x →
    summed e n sc ≡ called_sums (find_last x sc) (sums_at (map summed (out-Expr e).args) n sc)
use_summed e x n sc h =
    ap (λ (s : Summing). s n sc) (summed_node e)
    ∙ ap (λ (o : Op). sum_node (map-Expr Expr Summing summed (out-Expr e)) (role o (length (out-Expr e).binds)) n sc) h

param_summed : (e : Expr) (x : List ℕ) (n : ℕ) (sc : Scope) → (out-Expr e).op ≡ op.Param x →
    summed e n sc ≡ called_sums (find_last x sc) (sums_at (map summed (out-Expr e).args) n sc)
param_summed e x n sc h =
    ap (λ (s : Summing). s n sc) (summed_node e)
    ∙ ap (λ (o : Op). sum_node (map-Expr Expr Summing summed (out-Expr e)) (role o (length (out-Expr e).binds)) n sc) h

pub named_summed : (e : Expr) (x : List ℕ) (n : ℕ) (sc : Scope) → ((out-Expr e).op ≡ op.Use x) ⊎ ((out-Expr e).op ≡ op.Param x) →
    summed e n sc ≡ called_sums (find_last x sc) (sums_at (map summed (out-Expr e).args) n sc)
named_summed e x n sc h = elim h [ inl k ↦ use_summed e x n sc k | inr k ↦ param_summed e x n sc k ]

let_summed : (e : Expr) (ds : List (List ℕ × ℕ)) (n : ℕ) (sc : Scope) → (out-Expr e).op ≡ op.Let ds →
    summed e n sc ≡ sums_of_child (length ds) (map summed (out-Expr e).args) n (let_sums ds (out-Expr e).binds (map summed (out-Expr e).args) n sc)
let_summed e ds n sc h =
    ap (λ (s : Summing). s n sc) (summed_node e)
    ∙ ap (λ (o : Op). sum_node (map-Expr Expr Summing summed (out-Expr e)) (role o (length (out-Expr e).binds)) n sc) h

pub let_is : (e : Expr) (ds ls : List (List ℕ × ℕ)) (n k : ℕ) (sc : Scope) (es : List Expr) (xs : List (List ℕ)) → k ≡ length ds → ls ≡ ds → es ≡ (out-Expr e).args → xs ≡ (out-Expr e).binds →
    (out-Expr e).op ≡ op.Let ds → sums_of_child k (map summed es) n (let_sums ls xs (map summed es) n sc) ≡ summed e n sc
let_is e ds ls n k sc es xs a b c d h =
    (λ i. sums_of_child (a i) (map summed (c i)) n (let_sums (b i) (d i) (map summed (c i)) n sc)) ∙ sym (let_summed e ds n sc h)

by_operands : (x : Expr-F Summing) (o : Op) (k n : ℕ) (sc : Scope) → ((y : List ℕ) → o ≡ op.Use y → ⊥) → ((y : List ℕ) → o ≡ op.Param y → ⊥) →
    ((ds : List (List ℕ × ℕ)) → o ≡ op.Let ds → ⊥) → sum_node x (role o k) n sc ≡ node_sums x.op (sums_at x.args n sc)
by_operands x (op.Use y) k n sc a b d = absurd (a y refl)
by_operands x (op.Param y) k n sc a b d = absurd (b y refl)
by_operands x (op.Let ds) k n sc a b d = absurd (d ds refl)
by_operands x o k n sc a b d = refl

pub operands_summed : (e : Expr) (n : ℕ) (sc : Scope) → ((y : List ℕ) → (out-Expr e).op ≡ op.Use y → ⊥) → ((y : List ℕ) → (out-Expr e).op ≡ op.Param y → ⊥) →
    ((ds : List (List ℕ × ℕ)) → (out-Expr e).op ≡ op.Let ds → ⊥) → summed e n sc ≡ node_sums (out-Expr e).op (sums_at (map summed (out-Expr e).args) n sc)
operands_summed e n sc a b d =
    ap (λ (s : Summing). s n sc) (summed_node e)
    ∙ by_operands (map-Expr Expr Summing summed (out-Expr e)) (out-Expr e).op (length (out-Expr e).binds) n sc a b d

-- ---- children

pub child_is : (i : ℕ) (es : List Expr) (d : Expr) (n : ℕ) (sc : Scope) → i < length es → sums_of_child i (map summed es) n sc ≡ summed (get_or es i d) n sc
child_is i [] d n sc h = absurd (omega (arith, h))
child_is zero (e ∷ es) d n sc h = refl
child_is (suc i) (e ∷ es) d n sc h = child_is i es d n sc (omega (arith, h))

pub no_child : (i : ℕ) (es : List Expr) (n : ℕ) (sc : Scope) → length es ≤ i → sums_of_child i (map summed es) n sc ≡ no_sums
no_child i [] n sc h = refl
no_child zero (e ∷ es) n sc h = absurd (omega (arith, h))
no_child (suc i) (e ∷ es) n sc h = no_child i es n sc (omega (arith, h))
