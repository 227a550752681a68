-- Trees of nodes that pass an action position on.
use Rattle.std.proofs.Common.{◌≡◌, ℕ, zero, suc, ◌+◌, ◌≤◌, Bool, true, false, not, ◌||◌, List, [], ◌∷◌, length, take, drop, refl, sym, ◌∙◌, ap, ap₂, subst, Option, Some, None, if◌then◌else◌, arith}
use Rattle.std.specs.Prelude.{nat_eq, nat_le, nat_lt}
use Rattle.std.proofs.lemmas.List.{append-nil}
use Rattle.tla_meaning.specs.declared.actions.Assignable.{Assignable}
use Rattle.tla_meaning.specs.declared.expr.Expr.{Expr}
use Rattle.tla_meaning.specs.declared.op.Op.{Op}
use Rattle.tla_meaning.specs.declared.op.Op.TheVariants as op
use Rattle.tla_meaning.proofs.Laws.{none≢some}
use Rattle.tla_meaning.proofs.Views.{false≢true}
use Rattle.snowcat_rows.specs.declared.types.Ty.{Ty}
use Rattle.snowcat_rows.specs.declared.types.Ty.TheVariants as ty
use Rattle.kernel_trees.specs.declared.kernel.Ker.{Ker}
use Rattle.kernel_trees.specs.declared.kernel.KerOp.TheVariants as ker
use Rattle.kera_reducer.specs.declared.making.Made.{Made}
use Rattle.kernel_reduction.specs.Reduction.{any_mentioned, upward}
use Rattle.kernel_reduction.specs.Builds.{passes_on}
use Rattle.kernel_reduction.specs.BuildsTyped as typed
use Rattle.kernel_reduction.specs.BuildsTyped.{ArmsTyped, BuildsTyped, EachTyped, TypedNode, no_arms, other_arm, one_arm}
use Rattle.kernel_reduction.specs.Rows.{guard_of, node, tree}
use Rattle.kernel_reduction.specs.inner.Settings.{AreBuilt, ChildrenBuilt, counted, is_odd, passing, positions, scopes}
use Rattle.kera_reducer.specs.inner.Standing.{IsBranching, IsSplitCase, Makes, flat}
use Rattle.kernel_reduction.proofs.Counting.{long_counted}
use Rattle.kera_reducer.proofs.ChildNumbers.{not_not}
use Rattle.kera_reducer.proofs.Children.{back_built, each_built}
use Rattle.kera_reducer.proofs.ScopesMade.{behind_sets, take_drop}

-- ---- arms

-- a guard at an even number, a branch at an odd one or at the end
abbrev arm_at : Assignable → ℕ → ℕ → Option Assignable
arm_at a count n = if is_odd n || nat_eq (suc n) count then Some a else None

module _ (a : Assignable) (g : ℕ → List (List ℕ)) (names : List (List ℕ)) (q : (n : ℕ) → g n ≡ names) where
  at_names : (i : Option Assignable) (j : Option Assignable) (n : ℕ) (e : Expr) (ts : List Ty) (k : Ker) (us : List Ty) →
      i ≡ j → BuildsTyped i (counted (g n)) e ts k us → BuildsTyped j (counted names) e ts k us
  at_names i j n e ts k us p d =
      subst (λ z. BuildsTyped z (counted names) e ts k us) p (subst (λ z. BuildsTyped i (counted z) e ts k us) (q n) d)

  guard_at : (count n : ℕ) → is_odd n ≡ false → suc (suc n) ≤ count → arm_at a count n ≡ None
  guard_at count n h l =
      let no : nat_eq (suc n) count ≡ false = grind (arith) in
      ap₂ (λ b c. if b || c then Some a else None) h no

  branch_at : (count n : ℕ) → is_odd n ≡ true → arm_at a count n ≡ Some a
  branch_at count n h = ap (λ b. if b || nat_eq (suc n) count then Some a else None) h

  last_at : (count n : ℕ) → is_odd n ≡ false → suc n ≡ count → arm_at a count n ≡ Some a
  last_at count n h l =
      let yes : nat_eq (suc n) count ≡ true = grind (arith) in
      ap₂ (λ b c. if b || c then Some a else None) h yes

  pub arms_built : (count : ℕ) (xs : List (Ker × Ker)) (o : Option Ker) (n : ℕ) (es : List Expr) (ts us : List Ty) →
      is_odd n ≡ false → n + length es ≡ count → AreBuilt (arm_at a count) g n es ts (flat xs o) us →
      ArmsTyped a (counted names) es ts xs o us
  arms_built count [] None n [] ts us h l d = subst (λ z. ArmsTyped a (counted names) [] ts [] None z) d (no_arms a (counted names) ts)
  arms_built count [] None n (e ∷ es) ts us h l d = absurd d
  arms_built count [] (Some k) n [] ts us h l d = absurd d
  arms_built count [] (Some k) n (e ∷ []) ts us h l d =
      let end : suc n ≡ count = omega (arith, l) in
      subst (λ z. ArmsTyped a (counted names) (e ∷ []) ts [] (Some k) z) d.2
      (other_arm a (counted names) e k ts d.0
      (at_names (arm_at a count n) (Some a) n e ts k d.0 (last_at count n h end) d.1))
  arms_built count [] (Some k) n (e ∷ c ∷ es) ts us h l d = absurd d.2
  arms_built count (x ∷ xs) o n [] ts us h l d = absurd d
  arms_built count (x ∷ xs) o n (c ∷ []) ts us h l d = absurd d.2
  arms_built count (x ∷ xs) o n (c ∷ e ∷ es) ts us h l d =
      let more : suc (suc n) ≤ count = omega (arith, l) in
      let rest : suc (suc n) + length es ≡ count = omega (arith, l) in
      one_arm a (counted names) c e x.0 x.1 es xs o ts d.0 d.2.0 us
      (at_names (arm_at a count n) None n c ts x.0 d.0 (guard_at count n h more) d.1)
      (at_names (arm_at a count (suc n)) (Some a) (suc n) e d.0 x.1 d.2.0 (branch_at count (suc n) (ap not h)) d.2.1)
      (arms_built count xs o (suc (suc n)) es d.2.0 us (not_not (is_odd n) ∙ h) rest d.2.2)

-- ---- nodes

module _ (m : Made) (a : Assignable) where
  abbrev Row : List (List ℕ) → Op → List Expr → List (List ℕ) → List Ty → Ker → List Ty → Type 0
  Row names o es xs ts k us = TypedNode (Some a) (counted names) m.place m.ty.now o es xs ts k us

  -- it is enough to look at a node that stands in the position which it passes on
  pub in_position : (o : Op) (ks : List Ker) (k : Ker) →
      ((names : List (List ℕ)) (es : List Expr) (xs : List (List ℕ)) (ts us : List Ty) → length names ≡ m.depth →
      length xs ≡ m.bound → passes_on a o es ≡ true → ChildrenBuilt (Some a) names o es xs ts ks us →
      Row names o es xs ts k us) → Makes m (Some a) o ks k
  in_position o ks k h = λ i names es xs ts us l e p c. by i names es xs ts us l e p c
    where
      some_same : {x y : Assignable} → Some x ≡ Some y → x ≡ y
      some_same e = cc

      holds : (b : Bool) (c : Assignable) → (if b then Some c else None) ≡ Some a → (b ≡ true) × (c ≡ a)
      holds true c e = (refl, some_same e)
      holds false c e = absurd (none≢some e)

      by : (i : Option Assignable) (names : List (List ℕ)) (es : List Expr) (xs : List (List ℕ)) (ts us : List Ty) →
          length names ≡ m.depth → length xs ≡ m.bound → passing i o es ≡ Some a →
          ChildrenBuilt (Some a) names o es xs ts ks us →
          TypedNode i (counted names) m.place m.ty.now o es xs ts k us
      by None names es xs ts us l e p c = absurd (none≢some p)
      by (Some b) names es xs ts us l e p c =
          let s = holds (passes_on b o es) b p in
          subst (λ z. TypedNode (Some z) (counted names) m.place m.ty.now o es xs ts k us) (sym s.1)
          (h names es xs ts us l e (subst (λ z. passes_on z o es ≡ true) s.1 s.0) c)

  -- where all children get the position
  all_in : (o : Op) (names : List (List ℕ)) (es : List Expr) (xs : List (List ℕ)) (ts us : List Ty) (ks : List Ker) →
      ((n : ℕ) → positions (Some a) o es xs n ≡ Some a) → ((n : ℕ) → scopes names o xs n ≡ names) →
      ChildrenBuilt (Some a) names o es xs ts ks us → EachTyped (Some a) (counted names) es ts ks us
  all_in o names es xs ts us ks p q c =
      each_built (positions (Some a) o es xs) (scopes names o xs) (Some a) names p q 0 es ts ks us c

  pub and_makes : (ks : List Ker) (k : Ker) → k ≡ node m.place ty.Bool ker.And ks → Makes m (Some a) op.And ks k
  and_makes ks k e = in_position op.And ks k (λ names es xs ts us l b p c.
      subst (λ z. Row names op.And es xs ts z us) (sym e)
      (typed.conjunction a (counted names) m.place m.ty.now es xs ks ts us
      (all_in op.And names es xs ts us ks (λ n. refl) (λ n. append-nil names) c)))

  pub or_makes : (ks : List Ker) (k : Ker) → k ≡ node m.place ty.Bool ker.Or ks → Makes m (Some a) op.Or ks k
  or_makes ks k e = in_position op.Or ks k (λ names es xs ts us l b p c.
      subst (λ z. Row names op.Or es xs ts z us) (sym e)
      (typed.disjunction a (counted names) m.place m.ty.now es xs ks ts us
      (all_in op.Or names es xs ts us ks (λ n. refl) (λ n. append-nil names) c)))

  pub noted_makes : (x : List ℕ) (ks : List Ker) (k : Ker) → ks ≡ k ∷ [] → Makes m (Some a) (op.Noted x) ks k
  noted_makes x ks k e = in_position (op.Noted x) ks k (λ names es xs ts us l b p c.
      typed.noted (Some a) (counted names) m.place m.ty.now x es xs k ts us
      (subst (λ z. EachTyped (Some a) (counted names) es ts z us) e
      (all_in (op.Noted x) names es xs ts us ks (λ n. refl) (λ n. append-nil names) c)))

  pub exists_makes : (ks : List Ker) (ns : List ℕ) (k : Ker) → ns ≡ upward m.depth m.bound →
      k ≡ tree m.place ty.Bool ker.Some ks ns → Makes m (Some a) op.Exists ks k
  exists_makes ks ns k n e = in_position op.Exists ks k (λ names es xs ts us l b p c.
      let r = behind_sets (Some a) (positions (Some a) op.Exists es xs) names xs op.Exists m.depth es ts ks us refl l
      (λ j h. ap (λ z. if z then Some a else None) h) (λ j h. ap (λ z. if z then Some a else None) h) c in
      let numbers : ns ≡ upward m.depth (length xs) = n ∙ ap (upward m.depth) (sym b) in
      subst (λ z. Row names op.Exists es xs ts z us)
      (ap₂ (λ z w. tree m.place ty.Bool ker.Some z w) (take_drop (length xs) ks) (sym numbers) ∙ sym e)
      (typed.choice a (counted names) m.place m.ty.now es xs (take (length xs) ks) (drop (length xs) ks)
      (upward m.depth (length xs)) ts r.between us r.fresh
      (ap (λ n. upward n (length xs)) (sym l ∙ sym (long_counted 0 names))) r.sets r.inside))

  if_rest : (n : ℕ) → nat_le 1 n ≡ true → (if nat_lt 0 n then Some a else None) ≡ Some a
  if_rest zero h = absurd (false≢true h)
  if_rest (suc n) h =
      let e : nat_lt 0 (suc n) ≡ true = grind (arith) in ap (λ b. if b then Some a else None) e

  pub if_makes : (ks : List Ker) (k : Ker) → IsBranching m ks k → Makes m (Some a) op.If ks k
  if_makes ks k b = in_position op.If ks k (λ names es xs ts us l e p c.
      subst (λ z. Row names op.If es xs ts z us) (sym b.4)
      (by names es xs ts us p (subst (λ z. ChildrenBuilt (Some a) names op.If es xs ts z us) b.3 c)))
    where
      by : (names : List (List ℕ)) (es : List Expr) (xs : List (List ℕ)) (ts us : List Ty) → any_mentioned a es ≡ true →
          ChildrenBuilt (Some a) names op.If es xs ts (b.0 ∷ b.1 ∷ b.2 ∷ []) us →
          Row names op.If es xs ts (node m.place ty.Bool ker.If (guard_of m.place ty.Bool b.0 ∷ b.1 ∷ b.2 ∷ [])) us
      by names [] xs ts us p c = absurd c
      by names (x ∷ es) xs ts us p c =
          let here = append-nil names in
          typed.branches a (counted names) m.place m.ty.now x es xs b.0 b.1 b.2 ts c.0 us p
          (subst (λ z. BuildsTyped None (counted z) x ts b.0 c.0) here c.1)
          (back_built (positions (Some a) op.If (x ∷ es) xs) (scopes names op.If xs) (Some a) names 1 if_rest
          (λ n h. here) 1 es c.0 (b.1 ∷ b.2 ∷ []) us (let h : 1 ≤ 1 = omega arith in h) c.2)

  pub case_makes : (other : Bool) (ks : List Ker) (k : Ker) → IsSplitCase m ks k → Makes m (Some a) (op.Case other) ks k
  case_makes other ks k b = in_position (op.Case other) ks k (λ names es xs ts us l e p c.
      subst (λ z. Row names (op.Case other) es xs ts z us) (sym b.3)
      (typed.split_cases a (counted names) m.place m.ty.now other es xs b.0 b.1 ts us p
      (arms_built a (scopes names (op.Case other) xs) names (λ n. append-nil names) (length es) b.0 b.1 0 es ts us refl (let l : 0 + length es ≡ length es = omega arith in l)
      (subst (λ z. ChildrenBuilt (Some a) names (op.Case other) es xs ts z us) (sym b.2) c))))
