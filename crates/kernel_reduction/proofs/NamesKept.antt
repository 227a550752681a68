-- What is built holds the names of its expression, at the same places.
use Rattle.std.proofs.Common.{◌≡◌, ℕ, suc, Bool, true, false, ◌||◌, List, [], ◌∷◌, ◌++◌, map, take, drop, length, refl, sym, ◌∙◌, ap, ap₂, Option}
use Rattle.std.specs.List.{list_any}
use Rattle.tla_meaning.specs.declared.actions.Assignable.{Assignable}
use Rattle.tla_meaning.specs.declared.expr.Expr.{Expr, out-Expr, roll-out-Expr}
use Rattle.tla_meaning.specs.declared.op.Op.{Op}
use Rattle.tla_meaning.specs.declared.place.Place.{Place}
use Rattle.tla_meaning.proofs.Views.{false≢true}
use Rattle.kernel_trees.specs.declared.kernel.Ker.{Ker}
use Rattle.kernel_trees.specs.declared.kernel.KerOp.{KerOp}
use Rattle.kernel_trees.specs.declared.kernel.KerOp.TheVariants as ker
use Rattle.kernel_trees.specs.Trees.{op_of}
use Rattle.kernel_reduction.specs.JobPaths.{has_name, has_name_at}
use Rattle.kernel_reduction.specs.Reduction.{Numbering}
use Rattle.kernel_reduction.specs.Rows.{Level, Change, is_nil, op_at}
use Rattle.kernel_reduction.specs.Builds.{Builds, BuildsEach, BuildsArms, BuildsPath, BuildsChanges, BuildsNode, at_node, none_left, one_more, no_arms, other_arm, one_arm, last_level, one_level, no_changes, one_change, boolean, integer, text, declared, bound_name, same, range, binder, fold, noted, assign, implies, unequal, no_member, greater, at_most, at_least, negative, finite, truth_values, equivalent, one_pair, power, high_power, field, low_item, high_item, except, except_let, cases, as_value, conjunction, disjunction, choice, branches, split_cases, is_same, is_binder}
use Rattle.kernel_reduction.proofs.Basics.{or_none, any_append, map_append, in_parts}
use Rattle.kernel_reduction.proofs.JobTrees.{has_name-roll}
use Rattle.kernel_reduction.proofs.KernelNames.{ker_has, ker_has_at, has-roll, no_names_in_constant}
use Rattle.kernel_reduction.proofs.RowNames.{any_has, case_children, change_has, Indexed, changed_has, equivalence_has, except_let_has, guard_has, implication_has, item_has, large_power_has, negation_has, nested_has, single_has, small_power_has, split_has, swapped_has}

-- ---- lists in two parts

module _ (test : ℕ → Bool → Place → Bool) where
  abbrev any_name : List Expr → Bool
  any_name es = list_any (λ b. b) (map (has_name test) es)

  -- ---- operators

  same_names : (p : Place) (o : KerOp) (bs : List Bool) → is_same o ≡ true → has_name_at test p (op_of o) bs ≡ ker_has_at test p o bs
  same_names p (ker.Const v) bs h = absurd (false≢true h)
  same_names p (ker.Name i primed) bs h = absurd (false≢true h)
  same_names p ker.Range bs h = absurd (false≢true h)
  same_names p ker.NoCase bs h = absurd (false≢true h)
  same_names p o bs h = refl

  binder_names : (p : Place) (o : KerOp) (bs : List Bool) → is_binder o ≡ true → has_name_at test p (op_of o) bs ≡ ker_has_at test p o bs
  binder_names p ker.Filter bs h = refl
  binder_names p ker.MapOver bs h = refl
  binder_names p ker.FunOf bs h = refl
  binder_names p ker.Some bs h = refl
  binder_names p ker.Every bs h = refl
  binder_names p o bs h = absurd (false≢true h)

  -- operands in two parts
  two_parts : (n : ℕ) (es : List Expr) (ks bs : List Ker) → map (has_name test) (take n es) ≡ map (ker_has test) ks → map (has_name test) (drop n es) ≡ map (ker_has test) bs →
      map (has_name test) es ≡ map (ker_has test) (ks ++ bs)
  two_parts n es ks bs f g =
      ap (map (has_name test)) (sym (in_parts n es))
      ∙ map_append (has_name test) (take n es) (drop n es)
      ∙ ap₂ (λ (us vs : List Bool). us ++ vs) f g
      ∙ sym (map_append (ker_has test) ks bs)

  any_parts : (n : ℕ) (es : List Expr) → any_name es ≡ (any_name (take n es) || any_name (drop n es))
  any_parts n es =
      ap any_name (sym (in_parts n es))
      ∙ ap (list_any (λ b. b)) (map_append (has_name test) (take n es) (drop n es))
      ∙ any_append (map (has_name test) (take n es)) (map (has_name test) (drop n es))

  -- two operands, the second of which is a constant
  with_constant : (k m : Ker) (bs : List Bool) {v : _} → op_at m ≡ ker.Const v → bs ≡ ker_has test k ∷ ker_has test m ∷ [] → list_any (λ b. b) bs ≡ ker_has test k
  with_constant k m bs {v = v} h q =
      ap (list_any (λ b. b)) q
      ∙ ap (λ (b : Bool). ker_has test k || (b || false)) (no_names_in_constant test m v h)
      ∙ or_none (ker_has test k)

  path_bools : (a i r : Bool) → (a || (i || r)) ≡ ((a || i) || r)
  path_bools true i r = refl
  path_bools false i r = refl

  -- ---- trees

  mutual
    pub names_kept : {i : Option Assignable} {ρ : Numbering} {e : Expr} {k : Ker} → Builds i ρ e k → has_name test e ≡ ker_has test k
    names_kept (at_node i ρ e k h) =
        ap (has_name test) (sym (roll-out-Expr e)) ∙ has_name-roll test (out-Expr e) ∙ node_names h

    pub each_names : {i : Option Assignable} {ρ : Numbering} {es : List Expr} {ks : List Ker} → BuildsEach i ρ es ks → map (has_name test) es ≡ map (ker_has test) ks
    each_names (none_left i ρ) = refl
    each_names (one_more i ρ e k es ks h g) = ap₂ (λ (b : Bool) (bs : List Bool). b ∷ bs) (names_kept h) (each_names g)

    arm_names : {m : Assignable} {ρ : Numbering} {es : List Expr} {xs : List (Ker × Ker)} {o : Option Ker} → BuildsArms m ρ es xs o →
        map (has_name test) es ≡ map (ker_has test) (case_children test xs o)
    arm_names (no_arms m ρ) = refl
    arm_names (other_arm m ρ e k h) = ap (λ (b : Bool). b ∷ []) (names_kept h)
    arm_names (one_arm m ρ c e g k es xs o h f r) =
        λ i. names_kept h i ∷ names_kept f i ∷ arm_names r i

    pub path_names : {ρ : Numbering} {x : List ℕ} {n : ℕ} {es : List Expr} {ls : List Level} {k : Ker} → BuildsPath ρ x n es ls k →
        (any_name es ≡ (any_has test (map (λ l. l.index) ls) || ker_has test k)) × (is_nil ls ≡ false)
    path_names (last_level ρ x e f l k h g) =
        ((λ i. names_kept h i || (names_kept g i || false)) ∙ by (ker_has test l.index) (ker_has test k), refl)
      where
        by : (a b : Bool) → (a || (b || false)) ≡ ((a || false) || b)
        by true b = refl
        by false b = or_none b
    path_names (one_level ρ x n e es l m ls k h g) =
        ((λ i. names_kept h i || (path_names g).0 i) ∙ path_bools (ker_has test l.index) (any_has test (map (λ l. l.index) (m ∷ ls))) (ker_has test k), refl)

    pub change_names : {ρ : Numbering} {x : List ℕ} {ns : List ℕ} {es : List Expr} {us : List Change} → BuildsChanges ρ x ns es us →
        (any_name es ≡ list_any (change_has test) us) × Indexed test us
    change_names (no_changes ρ x) = (refl, tt)
    change_names (one_change ρ x n ns es u us h g) =
        (any_parts (suc n) es ∙ (λ i. (path_names h).0 i || (change_names g).0 i), ((path_names h).1, (change_names g).1))

    pub node_names : {i : Option Assignable} {ρ : Numbering} {p : Place} {o : Op} {es : List Expr} {xs : List (List ℕ)} {k : Ker} → BuildsNode i ρ p o es xs k →
        has_name_at test p o (map (has_name test) es) ≡ ker_has test k
    node_names (boolean ρ p b xs a) = sym (has-roll test _)
    node_names (integer ρ p n xs a) = sym (has-roll test _)
    node_names (text ρ p s xs a) = sym (has-roll test _)
    node_names (declared ρ p n primed es xs a) = sym (has-roll test _)
    node_names (bound_name ρ p x n xs a q) = sym (has-roll test _)
    node_names (same ρ p o ko es xs a ks q h g) =
        (λ i. has_name_at test p (sym q i) (each_names g i)) ∙ same_names p ko (map (ker_has test) ks) h ∙ sym (has-roll test _)
    node_names (range ρ p es xs a k l g) = ap (list_any (λ b. b)) (each_names g) ∙ sym (has-roll test _)
    node_names (binder ρ p o ko es xs a ks bs ns q h f g r) =
        (λ i. has_name_at test p (sym q i) (two_parts (length xs) es ks bs (each_names g) (each_names r) i))
        ∙ binder_names p ko (map (ker_has test) (ks ++ bs)) h ∙ sym (has-roll test _)
    node_names (fold ρ p es xs a bs ks ns f g r) =
        ap (list_any (λ b. b)) (two_parts 1 es bs ks (each_names g) (each_names r)) ∙ sym (has-roll test _)
    node_names (noted i ρ p x es xs k g) = ap (list_any (λ b. b)) (each_names g) ∙ or_none (ker_has test k)
    node_names (assign ρ p es xs a ks g) = ap (list_any (λ b. b)) (each_names g) ∙ sym (has-roll test _)
    node_names (implies ρ p es xs a k l g) = ap (list_any (λ b. b)) (each_names g) ∙ sym (implication_has test p a k l)
    node_names (unequal ρ p es xs a ks g) =
        ap (list_any (λ b. b)) (each_names g) ∙ sym (negation_has test p a _ ∙ has-roll test _)
    node_names (no_member ρ p es xs a ks g) =
        ap (list_any (λ b. b)) (each_names g) ∙ sym (negation_has test p a _ ∙ has-roll test _)
    node_names (greater ρ p es xs a k l g) = ap (list_any (λ b. b)) (each_names g) ∙ sym (has-roll test _ ∙ swapped_has test k l)
    node_names (at_most ρ p es xs a k l g) =
        ap (list_any (λ b. b)) (each_names g) ∙ sym (negation_has test p a _ ∙ has-roll test _ ∙ swapped_has test k l)
    node_names (at_least ρ p es xs a ks g) =
        ap (list_any (λ b. b)) (each_names g) ∙ sym (negation_has test p a _ ∙ has-roll test _)
    node_names (negative ρ p es xs a ks g) =
        ap (list_any (λ b. b)) (each_names g) ∙ sym (has-roll test _ ∙ ap (λ (b : Bool). b || any_has test ks) (has-roll test _))
    node_names (finite ρ p es xs a k n g) =
        ap (list_any (λ b. b)) (each_names g) ∙ sym (has-roll test _ ∙ ap (λ (b : Bool). ker_has test k || (b || false)) (has-roll test _))
    node_names (truth_values ρ p xs a b) =
        sym (has-roll test _ ∙ ap₂ (λ (c d : Bool). c || (d || false)) (has-roll test _) (has-roll test _))
    node_names (equivalent ρ p es xs l t k m h g) = ap (list_any (λ b. b)) (each_names g) ∙ sym (equivalence_has test p l t k m)
    node_names (one_pair ρ p es xs l t s z k m h q g) = ap (list_any (λ b. b)) (each_names g) ∙ sym (single_has test p l t s z k m)
    node_names (power ρ p es xs l b k m n h q r g) =
        with_constant k m (map (has_name test) es) q (each_names g) ∙ sym (small_power_has test p l b k n)
    node_names (high_power ρ p es xs l t b k m n h q r g) =
        ap (list_any (λ b. b)) (each_names g) ∙ sym (large_power_has test p l t b k m n)
    node_names (field ρ p es xs a k m x q g) =
        with_constant k m (map (has_name test) es) q (each_names g) ∙ sym (has-roll test _ ∙ or_none (ker_has test k))
    node_names (low_item ρ p es xs a k m n q h g) =
        with_constant k m (map (has_name test) es) q (each_names g) ∙ sym (has-roll test _ ∙ or_none (ker_has test k))
    node_names (high_item ρ p es xs l t k m n h q r g) = ap (list_any (λ b. b)) (each_names g) ∙ sym (item_has test p l t n k m)
    node_names (except ρ p cs e es x a f u us h q g r) =
        (λ i. names_kept g i || (change_names r).0 i) ∙ sym (changed_has test p a f (u ∷ us) (change_names r).1)
    node_names (except_let ρ p cs e es x l t f us h q g r) =
        (λ i. names_kept g i || (change_names r).0 i) ∙ sym (except_let_has test p l t f us (change_names r).1)
    node_names (cases ρ p other es xs a ks h g) = ap (list_any (λ b. b)) (each_names g) ∙ sym (nested_has test p a ks)
    node_names (as_value m ρ p o es xs k q h) = node_names h
    node_names (conjunction m ρ p es xs a ks g) = ap (list_any (λ b. b)) (each_names g) ∙ sym (has-roll test _)
    node_names (disjunction m ρ p es xs a ks g) = ap (list_any (λ b. b)) (each_names g) ∙ sym (has-roll test _)
    node_names (choice m ρ p es xs a ks bs ns h g r) =
        ap (list_any (λ b. b)) (two_parts (length xs) es ks bs (each_names g) (each_names r)) ∙ sym (has-roll test _)
    node_names (branches m ρ p c es xs a b g k l q h r) =
        (λ i. names_kept h i || list_any (λ b. b) (each_names r i))
        ∙ sym (has-roll test _ ∙ ap (λ (b : Bool). b || (ker_has test k || (ker_has test l || false))) (guard_has test p b g))
    node_names (split_cases m ρ p other es xs a ys o q g) =
        ap (list_any (λ b. b)) (arm_names g) ∙ sym (split_has test p a ys o)
