-- Trees of nodes that bind names, and what is made as a value in any position.
use Rattle.std.proofs.Common.{◌≡◌, ℕ, zero, suc, ◌+◌, ◌≤◌, Bool, true, false, true≢false, List, [], ◌∷◌, ◌++◌, length, take, drop, refl, sym, ◌∙◌, ap, ap₂, subst, Option, Some, None, if◌then◌else◌, arith}
use Rattle.std.specs.Prelude.{nat_eq, nat_le}
use Rattle.std.proofs.lemmas.List.{append-nil}
use Rattle.tla_meaning.specs.declared.actions.Assignable.{Assignable}
use Rattle.tla_meaning.specs.declared.expr.Expr.{Expr}
use Rattle.tla_meaning.specs.declared.op.Op.{Op}
use Rattle.tla_meaning.specs.declared.op.Op.TheVariants as op
use Rattle.tla_meaning.proofs.Laws.{none≢some}
use Rattle.tla_meaning.proofs.Views.{false≢true}
use Rattle.snowcat_rows.specs.declared.types.Ty.{Ty}
use Rattle.kernel_trees.specs.declared.kernel.Ker.{Ker}
use Rattle.kernel_trees.specs.declared.kernel.KerOp.{KerOp}
use Rattle.kernel_trees.specs.declared.kernel.KerOp.TheVariants as ker
use Rattle.kera_reducer.specs.declared.making.Made.{Made}
use Rattle.kernel_reduction.specs.Reduction.{all_fresh, numbered, upward}
use Rattle.kernel_reduction.specs.Builds.{passes_on}
use Rattle.kernel_reduction.specs.BuildsTyped as typed
use Rattle.kernel_reduction.specs.BuildsTyped.{BuildsTyped, EachTyped, TypedNode}
use Rattle.kernel_reduction.specs.Rows.{tree}
use Rattle.kernel_reduction.specs.inner.Settings.{AreBuilt, binds_behind, binds_some, counted, passing, position_at, positions, scopes, is_passed}
use Rattle.kera_reducer.specs.inner.Standing.{IsBinderOf, Makes, MakesOf, MakesValue}
use Rattle.kera_reducer.proofs.Children.{back_built, each_built, front_built, parted}
use Rattle.kernel_reduction.proofs.Counting.{all_new, numbered_up}
use Rattle.kera_reducer.proofs.ChildNumbers.{names_behind, names_none}

abbrev position_by : Bool → Option Assignable
position_by b = if b then None else None

-- no position is passed on
pub no_position : (o : Op) (names count n : ℕ) → position_at None o names count n ≡ None
no_position o names count n = by (is_passed o names count n)
  where
    by : (b : Bool) → position_by b ≡ None
    by true = refl
    by false = refl

-- under the names that a binder adds
pub under_names : (i : Option Assignable) (names xs : List (List ℕ)) (d : ℕ) (es : List Expr) (ts : List Ty)
    (ks : List Ker) (us : List Ty) → length names ≡ d → EachTyped i (counted (names ++ xs)) es ts ks us →
    EachTyped i (numbered xs (upward d (length xs)) (counted names)) es ts ks us
under_names i names xs d es ts ks us l h =
    subst (λ z. EachTyped i (numbered xs (upward z (length xs)) (counted names)) es ts ks us) l
    (subst (λ z. EachTyped i z es ts ks us) (sym (numbered_up names xs)) h)

-- what comes behind the sets of a binder, and these
pub take_drop : {X : Type 0} (n : ℕ) (xs : List X) → take n xs ++ drop n xs ≡ xs
take_drop zero xs = refl
take_drop (suc n) [] = refl
take_drop (suc n) (x ∷ xs) = ap (λ l. x ∷ l) (take_drop n xs)

pub take_short : {X : Type 0} (n : ℕ) (xs : List X) → 0 + length (take n xs) ≤ n
take_short zero xs = omega arith
take_short (suc n) [] = omega arith
take_short (suc n) (x ∷ xs) = let h = take_short n xs in omega (arith, h)

pub no_less : (n : ℕ) → n ≤ 0 + n
no_less n = omega arith

-- the children of a node that binds these names behind their sets: the sets, and what is built under the names
pub record Behind (i : Option Assignable) (names xs : List (List ℕ)) (d : ℕ) (es : List Expr) (ts : List Ty)
    (ks : List Ker) (us : List Ty) : Type 0 where
  pub between : List Ty
  pub sets : EachTyped None (counted names) (take (length xs) es) ts (take (length xs) ks) between
  pub inside : EachTyped i (numbered xs (upward d (length xs)) (counted names)) (drop (length xs) es) between
      (drop (length xs) ks) us
  pub fresh : all_fresh xs (upward d (length xs)) (counted names) ≡ true

pub behind_sets : (i : Option Assignable) (f : ℕ → Option Assignable) (names xs : List (List ℕ)) (o : Op) (d : ℕ)
    (es : List Expr) (ts : List Ty) (ks : List Ker) (us : List Ty) → binds_behind o ≡ true → length names ≡ d →
    ((n : ℕ) → nat_le (length xs) n ≡ false → f n ≡ None) → ((n : ℕ) → nat_le (length xs) n ≡ true → f n ≡ i) →
    AreBuilt f (scopes names o xs) 0 es ts ks us → Behind i names xs d es ts ks us
behind_sets i f names xs o d es ts ks us b l p q h =
    let g = scopes names o xs in
    let r = parted f g (length xs) 0 es ts ks us h in
    let before = λ (n : ℕ) (e : nat_le (length xs) n ≡ false). (ap (λ z. names ++ z) (names_behind o xs n b ∙ ap (λ c. if c then xs else []) e) ∙ append-nil names) in
    let from = λ (n : ℕ) (e : nat_le (length xs) n ≡ true). (ap (λ z. names ++ z) (names_behind o xs n b ∙ ap (λ c. if c then xs else []) e)) in
    record {
      between = r.0;
      sets = front_built f g None names (length xs) p before 0 (take (length xs) es) ts (take (length xs) ks) r.0
          (take_short (length xs) es) r.1;
      inside = under_names i names xs d (drop (length xs) es) r.0 (drop (length xs) ks) us l
          (back_built f g i (names ++ xs) (length xs) q from (0 + length xs) (drop (length xs) es) r.0
          (drop (length xs) ks) us (no_less (length xs)) r.2);
      fresh = subst (λ z. all_fresh xs (upward z (length xs)) (counted names) ≡ true) l (all_new names xs);
    }

module _ (m : Made) where
  -- what is made of operands that are built alike is made of the children
  pub of_makes : (o : Op) (ks : List Ker) (k : Ker) → binds_some o ≡ false → MakesOf m o ks k → MakesValue m o ks k
  of_makes o ks k b h = λ names es xs ts us l e c.
      h names es xs ts us l
      (each_built (positions None o es xs) (scopes names o xs) None names
      (λ n. no_position o (length xs) (length es) n)
      (λ n. ap (λ z. names ++ z) (names_none o xs n b) ∙ append-nil names) 0 es ts ks us c)

  -- a value is made in any position that is not passed on
  pub value_makes : (o : Op) (ks : List Ker) (k : Ker) → MakesValue m o ks k → Makes m None o ks k
  value_makes o ks k h = λ i names es xs ts us l e p c.
      by i names es xs ts us p (h names es xs ts us l e c)
    where
      by : (i : Option Assignable) (names : List (List ℕ)) (es : List Expr) (xs : List (List ℕ)) (ts us : List Ty) →
          passing i o es ≡ None → TypedNode None (counted names) m.place m.ty.now o es xs ts k us →
          TypedNode i (counted names) m.place m.ty.now o es xs ts k us
      by None names es xs ts us p d = d
      by (Some a) names es xs ts us p d =
          typed.as_value a (counted names) m.place m.ty.now o es xs k ts us (closed (passes_on a o es) p) d
        where
          closed : (b : Bool) → (if b then Some a else None) ≡ None → b ≡ false
          closed true q = absurd (none≢some (sym q))
          closed false q = refl

  pub binder_makes : (o : Op) (ko : KerOp) (ks : List Ker) (ns : List ℕ) (k : Ker) → IsBinderOf o ko →
      ns ≡ upward m.depth m.bound → k ≡ tree m.place m.ty.now ko ks ns → MakesValue m o ks k
  binder_makes o ko ks ns k b n e = λ names es xs ts us l q c.
      let r = behind_sets None (positions None o es xs) names xs o m.depth es ts ks us b.behind l
      (λ j h. no_position o (length xs) (length es) j) (λ j h. no_position o (length xs) (length es) j) c in
      let numbers : ns ≡ upward m.depth (length xs) = n ∙ ap (upward m.depth) (sym q) in
      subst (λ z. TypedNode None (counted names) m.place m.ty.now o es xs ts z us)
      (ap₂ (λ z w. tree m.place m.ty.now ko z w) (take_drop (length xs) ks) (sym numbers) ∙ sym e)
      (typed.binder (counted names) m.place m.ty.now o ko es xs (take (length xs) ks) (drop (length xs) ks)
      (upward m.depth (length xs)) ts r.between us b.stands b.binds r.fresh r.sets r.inside)

  fold_names : (names xs : List (List ℕ)) (n : ℕ) → nat_le 1 n ≡ false → scopes names op.Fold xs n ≡ names ++ xs
  fold_names names xs zero h = refl
  fold_names names xs (suc n) h = let e : nat_le 1 (suc n) ≡ true = grind (arith) in absurd (true≢false (sym e ∙ h))

  fold_rest : (names xs : List (List ℕ)) (n : ℕ) → nat_le 1 n ≡ true → scopes names op.Fold xs n ≡ names
  fold_rest names xs zero h = absurd (false≢true h)
  fold_rest names xs (suc n) h =
      let e : nat_eq (suc n) 0 ≡ false = grind (arith) in
      ap (λ b. names ++ (if b then xs else [])) e ∙ append-nil names

  pub fold_makes : (ks : List Ker) (ns : List ℕ) (k : Ker) →
      ns ≡ upward m.depth m.bound → k ≡ tree m.place m.ty.now ker.FoldLeft ks ns → MakesValue m op.Fold ks k
  fold_makes ks ns k n e = λ names es xs ts us l q c.
      let f = positions None op.Fold es xs in
      let g = scopes names op.Fold xs in
      let r = parted f g 1 0 es ts ks us c in
      let fresh = subst (λ z. all_fresh xs (upward z (length xs)) (counted names) ≡ true) l (all_new names xs) in
      let body = under_names None names xs m.depth (take 1 es) ts (take 1 ks) r.0 l
      (front_built f g None (names ++ xs) 1 (λ j h. no_position op.Fold (length xs) (length es) j)
      (fold_names names xs) 0 (take 1 es) ts (take 1 ks) r.0 (take_short 1 es) r.1) in
      let rest = back_built f g None names 1 (λ j h. no_position op.Fold (length xs) (length es) j)
      (fold_rest names xs) (0 + 1) (drop 1 es) r.0 (drop 1 ks) us (no_less 1) r.2 in
      let numbers : ns ≡ upward m.depth (length xs) = n ∙ ap (upward m.depth) (sym q) in
      subst (λ z. TypedNode None (counted names) m.place m.ty.now op.Fold es xs ts z us)
      (ap₂ (λ z w. tree m.place m.ty.now ker.FoldLeft z w) (take_drop 1 ks) (sym numbers) ∙ sym e)
      (typed.fold (counted names) m.place m.ty.now es xs (take 1 ks) (drop 1 ks) (upward m.depth (length xs)) ts r.0 us
      fresh body rest)
