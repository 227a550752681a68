-- Children that are built each in its setting: one more, some of them, and all in the same.
use Rattle.std.proofs.Common.{◌≡◌, ℕ, zero, suc, ◌+◌, ◌<◌, ◌≤◌, get_or, length-take, true, false, List, [], ◌∷◌, ◌++◌, length, take, drop, refl, sym, ap, subst, Option, Some, None, arith}
use Rattle.std.specs.Prelude.{nat_le}
use Rattle.tla_meaning.specs.declared.actions.Assignable.{Assignable}
use Rattle.tla_meaning.specs.declared.expr.Expr.{Expr, out-Expr}
use Rattle.tla_meaning.specs.declared.op.Op.TheVariants as op
use Rattle.tla_meaning.specs.Scopes.{find_last}
use Rattle.snowcat_rows.specs.declared.types.Ty.{Ty}
use Rattle.kernel_trees.specs.declared.kernel.Ker.{Ker}
use Rattle.kernel_reduction.specs.Builds.{passes_on}
use Rattle.kernel_reduction.specs.BuildsTyped.{BuildsTyped, EachTyped, TypedNode, as_value, bound_name, none_left, one_more}
use Rattle.kernel_reduction.specs.Rows.{bound}
use Rattle.kernel_reduction.specs.inner.Settings.{AreBuilt, counted}
use Rattle.kera_reducer.specs.inner.Standing.{IsBoundName, NodeTyped}
use Rattle.kernel_reduction.proofs.Listing.{take_more}

module _ (f : ℕ → Option Assignable) (g : ℕ → List (List ℕ)) where
  -- ---- one more

  pub one_more_built : (n : ℕ) (es : List Expr) (ts : List Ty) (ks : List Ker) (us : List Ty) (e : Expr) (k : Ker)
      (vs : List Ty) (m : ℕ) → m ≡ n + length es → AreBuilt f g n es ts ks us →
      BuildsTyped (f m) (counted (g m)) e us k vs → AreBuilt f g n (es ++ e ∷ []) ts (ks ++ k ∷ []) vs
  one_more_built n [] ts [] us e k vs m q h d =
      let same : m ≡ n = omega (arith, q) in (
        vs,
        subst (λ z. BuildsTyped (f z) (counted (g z)) e ts k vs) same
            (subst (λ z. BuildsTyped (f m) (counted (g m)) e z k vs) (sym h) d),
        refl,
      )
  one_more_built n [] ts (j ∷ ks) us e k vs m q h d = absurd h
  one_more_built n (c ∷ es) ts [] us e k vs m q h d = absurd h
  one_more_built n (c ∷ es) ts (j ∷ ks) us e k vs m q h d =
      let same : m ≡ suc n + length es = omega (arith, q) in
      (h.0, h.1, one_more_built (suc n) es h.0 ks us e k vs m same h.2 d)

  pub next_built : (es : List Expr) (i : ℕ) (e : Expr) (ts : List Ty) (ks : List Ker) (us : List Ty) (k : Ker)
      (vs : List Ty) → i < length es → e ≡ get_or es i e → AreBuilt f g 0 (take i es) ts ks us →
      BuildsTyped (f i) (counted (g i)) e us k vs → AreBuilt f g 0 (take (i + 1) es) ts (ks ++ k ∷ []) vs
  next_built es i e ts ks us k vs lt at h d =
      let l : i ≡ 0 + length (take i es) = omega (arith, length-take i es, lt) in
      subst (λ z. AreBuilt f g 0 z ts (ks ++ k ∷ []) vs) (sym (take_more es i e lt at))
      (one_more_built 0 (take i es) ts ks us e k vs i l h d)

  -- ---- the first ones, and the others

  pub parted : (c n : ℕ) (es : List Expr) (ts : List Ty) (ks : List Ker) (us : List Ty) → AreBuilt f g n es ts ks us →
      (vs : List Ty) × AreBuilt f g n (take c es) ts (take c ks) vs × AreBuilt f g (n + c) (drop c es) vs (drop c ks) us
  parted zero n es ts ks us h =
      let same : n ≡ n + 0 = omega arith in (ts, refl, subst (λ z. AreBuilt f g z es ts ks us) same h)
  parted (suc c) n [] ts [] us h = (us, h, refl)
  parted (suc c) n [] ts (k ∷ ks) us h = absurd h
  parted (suc c) n (e ∷ es) ts [] us h = absurd h
  parted (suc c) n (e ∷ es) ts (k ∷ ks) us h =
      let r = parted c (suc n) es h.0 ks us h.2 in
      let same : suc n + c ≡ n + suc c = omega arith in
      (r.0, (h.0, h.1, r.1), subst (λ z. AreBuilt f g z (drop c es) r.0 (drop c ks) us) same r.2)

  pub as_many : (n : ℕ) (es : List Expr) (ts : List Ty) (ks : List Ker) (us : List Ty) → AreBuilt f g n es ts ks us →
      length es ≡ length ks
  as_many n [] ts [] us h = refl
  as_many n [] ts (k ∷ ks) us h = absurd h
  as_many n (e ∷ es) ts [] us h = absurd h
  as_many n (e ∷ es) ts (k ∷ ks) us h = ap suc (as_many (suc n) es h.0 ks us h.2)

  -- ---- all in one setting

  module _ (i : Option Assignable) (names : List (List ℕ)) where
    here_built : (n : ℕ) (e : Expr) (ts : List Ty) (k : Ker) (us : List Ty) → f n ≡ i → g n ≡ names →
        BuildsTyped (f n) (counted (g n)) e ts k us → BuildsTyped i (counted names) e ts k us
    here_built n e ts k us p q d =
        subst (λ z. BuildsTyped z (counted names) e ts k us) p
        (subst (λ z. BuildsTyped (f n) (counted z) e ts k us) q d)

    -- those before a number
    pub front_built : (c : ℕ) → ((m : ℕ) → nat_le c m ≡ false → f m ≡ i) → ((m : ℕ) → nat_le c m ≡ false → g m ≡ names) →
        (n : ℕ) (es : List Expr) (ts : List Ty) (ks : List Ker) (us : List Ty) → n + length es ≤ c →
        AreBuilt f g n es ts ks us → EachTyped i (counted names) es ts ks us
    front_built c p q n [] ts [] us l h = subst (λ z. EachTyped i (counted names) [] ts [] z) h (none_left i (counted names) ts)
    front_built c p q n [] ts (k ∷ ks) us l h = absurd h
    front_built c p q n (e ∷ es) ts [] us l h = absurd h
    front_built c p q n (e ∷ es) ts (k ∷ ks) us l h =
        let before : nat_le c n ≡ false = grind (arith) in
        let rest : suc n + length es ≤ c = omega (arith, l) in
        one_more i (counted names) e k es ks ts h.0 us (here_built n e ts k h.0 (p n before) (q n before) h.1)
        (front_built c p q (suc n) es h.0 ks us rest h.2)

    -- those from a number on
    pub back_built : (c : ℕ) → ((m : ℕ) → nat_le c m ≡ true → f m ≡ i) → ((m : ℕ) → nat_le c m ≡ true → g m ≡ names) →
        (n : ℕ) (es : List Expr) (ts : List Ty) (ks : List Ker) (us : List Ty) → c ≤ n →
        AreBuilt f g n es ts ks us → EachTyped i (counted names) es ts ks us
    back_built c p q n [] ts [] us l h = subst (λ z. EachTyped i (counted names) [] ts [] z) h (none_left i (counted names) ts)
    back_built c p q n [] ts (k ∷ ks) us l h = absurd h
    back_built c p q n (e ∷ es) ts [] us l h = absurd h
    back_built c p q n (e ∷ es) ts (k ∷ ks) us l h =
        let from : nat_le c n ≡ true = grind (arith) in
        let rest : c ≤ suc n = omega (arith, l) in
        one_more i (counted names) e k es ks ts h.0 us (here_built n e ts k h.0 (p n from) (q n from) h.1)
        (back_built c p q (suc n) es h.0 ks us rest h.2)

    pub each_built : ((m : ℕ) → f m ≡ i) → ((m : ℕ) → g m ≡ names) → (n : ℕ) (es : List Expr) (ts : List Ty)
        (ks : List Ker) (us : List Ty) → AreBuilt f g n es ts ks us → EachTyped i (counted names) es ts ks us
    each_built p q n es ts ks us h =
        let le : 0 ≤ n = omega arith in back_built 0 (λ m l. p m) (λ m l. q m) n es ts ks us le h

-- ---- a bound name

-- no children, and its number
pub name_bound : (x : List ℕ) (e : Expr) (names : List (List ℕ)) (t : Ty) (n : ℕ) → (out-Expr e).args ≡ [] →
    find_last x (counted names) ≡ Some n → IsBoundName x e names t (bound (out-Expr e).place t n)
name_bound x e names t n a f o i ts = by i
  where
    value : NodeTyped None names t e ts (bound (out-Expr e).place t n) ts
    value =
        subst (λ z. TypedNode None (counted names) (out-Expr e).place t z (out-Expr e).args (out-Expr e).binds ts
        (bound (out-Expr e).place t n) ts) (sym o)
        (subst (λ z. TypedNode None (counted names) (out-Expr e).place t (op.Bound x) z (out-Expr e).binds ts
        (bound (out-Expr e).place t n) ts) (sym a)
        (bound_name (counted names) (out-Expr e).place t x n (out-Expr e).binds ts f))

    by : (i : Option Assignable) → NodeTyped i names t e ts (bound (out-Expr e).place t n) ts
    by None = value
    by (Some m) =
        as_value m (counted names) (out-Expr e).place t (out-Expr e).op (out-Expr e).args (out-Expr e).binds
        (bound (out-Expr e).place t n) ts ts (ap (λ z. passes_on m z (out-Expr e).args) o) value
