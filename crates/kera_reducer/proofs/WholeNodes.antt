-- How many operands the rows of operators have whose number goes by the node.
use Rattle.std.proofs.Common.{◌≡◌, ◌⊎◌, inl, inr, ℕ, zero, suc, ◌+◌, ◌-◌, ◌≤◌, Bool, true, false, not, ◌&&◌, List, [], ◌∷◌, ◌++◌, map, replicate, length, refl, sym, ◌∙◌, ap, subst, arith, true≢false}
use Rattle.std.specs.Prelude.{nat_eq, ◌≢◌}
use Rattle.std.specs.List.{list_all}
use Rattle.std.proofs.lemmas.Bool.{eqb-true, eq-eqb}
use Rattle.std.proofs.lemmas.Bool.Decides.{eqb_tells}
use Rattle.std.proofs.lemmas.List.{length-map}
use Rattle.std.proofs.lemmas.List.Folds.{list_all-map}
use Rattle.tla_meaning.specs.declared.expr.Expr.{Expr, out-Expr}
use Rattle.tla_meaning.specs.declared.expr.Expr.TheOpen.{Expr-F}
use Rattle.tla_meaning.specs.declared.expr.Expr.TheFolds.{fold-Expr, fold_out-Expr}
use Rattle.tla_meaning.specs.declared.op.Op.{Op}
use Rattle.tla_meaning.specs.declared.op.Op.TheVariants as op
use Rattle.snowcat_rows.specs.Types.{Term}
use Rattle.snowcat_types.specs.Rows.{Operand, branches, from_type, index_types, plain, reached_after, sets_of, typed_names, update_operands}
use Rattle.snowcat_types.specs.TypeForms.{bool_type}
use Rattle.kernel_reduction.specs.Whole.{is_whole, operand_count, whole_node}
use Rattle.kera_reducer.specs.inner.Wholes.{is_node_whole, update_count, updates_count}

pub so_many : (n : ℕ) (t : Term) → length (map plain (replicate n t)) ≡ n
so_many zero t = refl
so_many (suc n) t = ap suc (so_many n t)

pub types_count : (a : ℕ → Term) (i n : ℕ) → length (map plain (from_type a i n)) ≡ n
types_count a i zero = refl
types_count a i (suc n) = ap suc (types_count a (i + 1) n)

pub sets_count : (a : ℕ → Term) (i n : ℕ) → length (map plain (sets_of (from_type a i n))) ≡ n
sets_count a i zero = refl
sets_count a i (suc n) = ap suc (sets_count a (i + 1) n)

pub branches_count : (t : Term) (n : ℕ) → length (map plain (branches t n)) ≡ n
branches_count t zero = refl
branches_count t (suc zero) = refl
branches_count t (suc (suc n)) = ap (λ k. suc (suc k)) (branches_count t n)

pub domains_count : (a : ℕ → Term) (i n : ℕ) (o : Operand) →
    length (map plain (sets_of (from_type a i n)) ++ o ∷ []) ≡ suc n
domains_count a i zero o = refl
domains_count a i (suc n) o = ap suc (domains_count a (i + 1) n o)

indexes_count : (a : ℕ → Term) (i n : ℕ) (os : List Operand) →
    length (map plain (index_types a i n) ++ os) ≡ n + length os
indexes_count a i zero os = omega arith
indexes_count a i (suc n) os =
    let h : length (map plain (index_types a (i + 1) n) ++ os) ≡ n + length os = indexes_count a (i + 1) n os in
    omega (arith, h)

pub updates_are : (names : List (List ℕ)) (a : ℕ → Term) (i : ℕ) (ns : List ℕ) →
    length (update_operands names a i ns) ≡ updates_count ns
updates_are names a i [] = refl
updates_are names a i (n ∷ ns) =
    indexes_count a i n
    (record { type = reached_after a i n; under = typed_names names (reached_after a i n ∷ []) }
    ∷ update_operands names a (i + n) ns)
    ∙ ap (λ k. n + suc k) (updates_are names a (i + n) ns)

-- ---- steps of the code

pub as_many : (m n : ℕ) → m ≡ n → true ≡ nat_eq m n
as_many m n e = sym (eq-eqb m n e)

pub one_domain_each : (n k : ℕ) → (not (nat_eq k 0) && nat_eq n (k - 1)) ≡ nat_eq (suc n) k
one_domain_each n k = by (nat_eq k 0) refl (eqb_tells n (k - 1)) (eqb_tells (suc n) k)
  where
    by : (b : Bool) → nat_eq k 0 ≡ b →
        ((nat_eq n (k - 1) ≡ true) × (n ≡ k - 1)) ⊎ ((nat_eq n (k - 1) ≡ false) × (n ≢ k - 1)) →
        ((nat_eq (suc n) k ≡ true) × (suc n ≡ k)) ⊎ ((nat_eq (suc n) k ≡ false) × (suc n ≢ k)) →
        (not b && nat_eq n (k - 1)) ≡ nat_eq (suc n) k
    by true e p (inl q) = absurd (let a = eqb-true k 0 e in let d = q.1 in omega (arith, a, d))
    by true e p (inr q) = sym q.0
    by false e (inl p) (inl q) = p.0 ∙ sym q.0
    by false e (inr p) (inr q) = p.0 ∙ sym q.0
    by false e (inl p) (inr q) = absurd (q.1 (let a = p.1 in let d : k ≢ 0 = λ z. true≢false (sym (eq-eqb k 0 z) ∙ e) in omega (arith, a, d)))
    by false e (inr p) (inl q) = absurd (p.1 (let a = q.1 in omega (arith, a)))

-- not enough is left for an update
pub too_few : (n m left : ℕ) → left ≤ n → nat_eq (n + suc m) left ≡ false
too_few n m left h = by (eqb_tells (n + suc m) left)
  where
    by : ((nat_eq (n + suc m) left ≡ true) × (n + suc m ≡ left)) ⊎ ((nat_eq (n + suc m) left ≡ false) × (n + suc m ≢ left)) →
        nat_eq (n + suc m) left ≡ false
    by (inl p) = absurd (let q = p.1 in omega (arith, h, q))
    by (inr p) = p.0

-- an update less
pub one_fewer : (n m left rest : ℕ) → left ≡ rest + suc n → nat_eq (n + suc m) left ≡ nat_eq m rest
one_fewer n m left rest h = by (eqb_tells (n + suc m) left) (eqb_tells m rest)
  where
    by : ((nat_eq (n + suc m) left ≡ true) × (n + suc m ≡ left)) ⊎ ((nat_eq (n + suc m) left ≡ false) × (n + suc m ≢ left)) →
        ((nat_eq m rest ≡ true) × (m ≡ rest)) ⊎ ((nat_eq m rest ≡ false) × (m ≢ rest)) →
        nat_eq (n + suc m) left ≡ nat_eq m rest
    by (inl p) (inl q) = p.0 ∙ sym q.0
    by (inr p) (inr q) = p.0 ∙ sym q.0
    by (inl p) (inr q) = absurd (q.1 (let e = p.1 in omega (arith, h, e)))
    by (inr p) (inl q) = absurd (p.1 (let e = q.1 in omega (arith, h, e)))

-- ---- rows whose number of operands goes by the node

abbrev Fits : Op → Type 0
Fits o = (names : List (List ℕ)) (n : ℕ) → operand_count o names n ≡ n

abbrev Binds : Op → Type 0
Binds o = (names : List (List ℕ)) (n : ℕ) → operand_count o names n ≡ suc (length names)

as_is : (P : Op → Type 0) {o p : Op} → P p → o ≡ p → P o
as_is P h e = subst P (sym e) h

tuple_count : Fits op.Tuple
tuple_count names zero = refl
tuple_count names (suc n) = types_count (λ k. bool_type) 2 (suc n)

pub and_count : (o : Op) → (o ≡ op.And) ⊎ ((o ≡ op.Or) ⊎ ((o ≡ op.SetEnum) ⊎ (o ≡ op.Product))) → Fits o
and_count o (inl e) = as_is Fits (λ names n. so_many n bool_type) e
and_count o (inr (inl e)) = as_is Fits (λ names n. so_many n bool_type) e
and_count o (inr (inr (inl e))) = as_is Fits (λ names n. so_many n bool_type) e
and_count o (inr (inr (inr e))) = as_is Fits (λ names n. sets_count (λ k. bool_type) 0 n) e

pub record_count : (o : Op) →
    ((fs : List (List ℕ)) × (o ≡ op.Record fs)) ⊎ (((fs : List (List ℕ)) × (o ≡ op.RecSet fs)) ⊎ ((o ≡ op.Tuple) ⊎ ((b : Bool) × (o ≡ op.Case b)))) →
    Fits o
record_count o (inl e) = as_is Fits (λ names n. types_count (λ k. bool_type) 0 n) e.1
record_count o (inr (inl e)) = as_is Fits (λ names n. sets_count (λ k. bool_type) 0 n) e.1
record_count o (inr (inr (inl e))) = as_is Fits tuple_count e
record_count o (inr (inr (inr e))) = as_is Fits (λ names n. branches_count bool_type n) e.1

binder_operands : (names : List (List ℕ)) (o : Operand) →
    length (map plain (sets_of (from_type (λ k. bool_type) 0 (length names))) ++ o ∷ []) ≡ suc (length names)
binder_operands names o = domains_count (λ k. bool_type) 0 (length names) o

pub binder_count : (o : Op) →
    (o ≡ op.Exists) ⊎ ((o ≡ op.Forall) ⊎ ((o ≡ op.Filter) ⊎ ((o ≡ op.MapTo) ⊎ (o ≡ op.Lambda)))) → Binds o
binder_count o (inl e) = as_is Binds (λ names n. binder_operands names _) e
binder_count o (inr (inl e)) = as_is Binds (λ names n. binder_operands names _) e
binder_count o (inr (inr (inl e))) = as_is Binds (λ names n. binder_operands names _) e
binder_count o (inr (inr (inr (inl e)))) = as_is Binds (λ names n. binder_operands names _) e
binder_count o (inr (inr (inr (inr e)))) = as_is Binds (λ names n. binder_operands names _) e

pub except_count : (o : Op) (ns : List ℕ) → o ≡ op.Except ns → (names : List (List ℕ)) (n : ℕ) →
    operand_count o names n ≡ update_count ns
except_count o ns e names n =
    subst (λ z. operand_count z names n ≡ update_count ns) (sym e) (ap suc (updates_are names (λ k. bool_type) 0 ns))

-- ---- trees

pub whole_out : (m : ℕ) (e : Expr) →
    is_whole m e
    ≡ (is_node_whole m (out-Expr e).op (out-Expr e).binds (length (out-Expr e).args) && list_all (is_whole m) (out-Expr e).args)
unfolding is_whole
whole_out m e =
    let x : Expr-F Expr = out-Expr e in
    let f : Expr → Bool = fold-Expr Bool (whole_node m) in
    fold_out-Expr Bool (whole_node m) e
    ∙ ap (λ n. is_node_whole m x.op x.binds n && list_all (λ b. b) (map f x.args)) (length-map x.args f)
    ∙ ap (λ b. is_node_whole m x.op x.binds (length x.args) && b) (list_all-map (λ b. b) f x.args)
