-- What is built has no place and no text that its expression does not have.
use Rattle.std.proofs.Common.{◌≡◌, ℕ, zero, suc, Bool, true, false, ◌||◌, IsTrue, List, [], ◌∷◌, ◌++◌, map, take, drop, length, true≢false, refl, sym, ◌∙◌, ap, Option}
use Rattle.std.specs.List.{list_any}
use Rattle.std.specs.Ordering.{is_eq}
use Rattle.tla_values.specs.declared.value.Value.TheVariants as value
use Rattle.tla_meaning.specs.Outcomes.{place_cmp}
use Rattle.tla_meaning.specs.Scopes.{same_text}
use Rattle.tla_meaning.specs.declared.actions.Assignable.{Assignable}
use Rattle.tla_meaning.specs.declared.expr.Expr.{Expr, roll-Expr, out-Expr, roll-out-Expr}
use Rattle.tla_meaning.specs.declared.expr.Expr.TheOpen.{Expr-F}
use Rattle.tla_meaning.specs.declared.expr.Expr.TheFolds.{fold-roll-Expr}
use Rattle.tla_meaning.specs.declared.op.Op.{Op}
use Rattle.tla_meaning.specs.declared.place.Place.{Place}
use Rattle.tla_meaning.proofs.Views.{false≢true}
use Rattle.kernel_trees.specs.declared.kernel.Ker.{Ker}
use Rattle.kernel_trees.specs.declared.kernel.KerOp.{KerOp}
use Rattle.kernel_trees.specs.declared.kernel.KerOp.TheVariants as ker
use Rattle.kernel_reduction.specs.Origins.{KeepsPlaces, KeepsTexts, has_node, is_text_constant, is_text_op, is_text_value}
use Rattle.kernel_reduction.specs.Reduction.{Numbering}
use Rattle.kernel_reduction.specs.Rows.{Change, Level}
use Rattle.kernel_reduction.specs.Builds.{Builds, BuildsEach, BuildsArms, BuildsPath, BuildsChanges, BuildsNode, at_node, none_left, one_more, no_arms, other_arm, one_arm, last_level, one_level, no_changes, one_change, boolean, integer, text, declared, bound_name, same, range, binder, fold, noted, assign, implies, unequal, no_member, greater, at_most, at_least, negative, finite, truth_values, equivalent, one_pair, power, high_power, field, low_item, high_item, except, except_let, cases, as_value, conjunction, disjunction, choice, branches, split_cases, is_same, is_binder}
use Rattle.kernel_reduction.proofs.Basics.{or_left, or_right}
use Rattle.kernel_reduction.proofs.RowNodes.{AllArms, AllChanges, AllFree, AllLevels, Free, FreeOther, append_free, changed_free, equivalence_free, except_let_free, guard_free, implication_free, item_let_free, large_power_free, made, negation_free, nested_free, number_free, single_free, small_power_free, split_free, truth_free}

module _ (P : Place → Bool) (T : List ℕ → Bool) where
  pub node-roll : (x : Expr-F Expr) → has_node P T (roll-Expr x) ≡ ((P x.place || is_text_op T x.op) || list_any (λ b. b) (map (has_node P T) x.args))
  unfolding has_node
  node-roll x = fold-roll-Expr Bool (λ x. (P x.place || is_text_op T x.op) || list_any (λ b. b) x.args) x

  abbrev AllTrees : List Expr → Type 0
  AllTrees [] = Unit {0}
  AllTrees (e ∷ es) = (has_node P T e ≡ false) × AllTrees es

  all_trees : (es : List Expr) → list_any (λ b. b) (map (has_node P T) es) ≡ false → AllTrees es
  all_trees [] h = tt
  all_trees (e ∷ es) h = (or_left (has_node P T e) _ h, all_trees es (or_right (has_node P T e) _ h))

  first_trees : (n : ℕ) (es : List Expr) → AllTrees es → AllTrees (take n es)
  first_trees zero es h = tt
  first_trees (suc n) [] h = tt
  first_trees (suc n) (e ∷ es) h = (h.0, first_trees n es h.1)

  last_trees : (n : ℕ) (es : List Expr) → AllTrees es → AllTrees (drop n es)
  last_trees zero es h = h
  last_trees (suc n) [] h = tt
  last_trees (suc n) (e ∷ es) h = last_trees n es h.1

  same_text_free : (o : KerOp) → is_same o ≡ true → is_text_constant T o ≡ false
  same_text_free (ker.Const v) h = absurd (false≢true h)
  same_text_free o h = refl

  binder_text_free : (o : KerOp) → is_binder o ≡ true → is_text_constant T o ≡ false
  binder_text_free (ker.Const v) h = absurd (false≢true h)
  binder_text_free o h = refl

  mutual
    pub free_kept : {i : Option Assignable} {ρ : Numbering} {e : Expr} {k : Ker} → Builds i ρ e k → has_node P T e ≡ false → Free P T k
    free_kept (at_node i ρ e k h) q =
        let z = sym (node-roll (out-Expr e)) ∙ ap (has_node P T) (roll-out-Expr e) ∙ q in
        let own = or_left (P (out-Expr e).place || is_text_op T (out-Expr e).op) _ z in
        node_free h (or_left (P (out-Expr e).place) (is_text_op T (out-Expr e).op) own) (or_right (P (out-Expr e).place) (is_text_op T (out-Expr e).op) own)
        (all_trees (out-Expr e).args (or_right (P (out-Expr e).place || is_text_op T (out-Expr e).op) _ z))

    each_free : {i : Option Assignable} {ρ : Numbering} {es : List Expr} {ks : List Ker} → BuildsEach i ρ es ks → AllTrees es → AllFree P T ks
    each_free (none_left i ρ) q = tt
    each_free (one_more i ρ e k es ks h g) q = (free_kept h q.0, each_free g q.1)

    arms_free : {m : Assignable} {ρ : Numbering} {es : List Expr} {xs : List (Ker × Ker)} {o : Option Ker} → BuildsArms m ρ es xs o → AllTrees es →
        AllArms P T xs × FreeOther P T o
    arms_free (no_arms m ρ) q = (tt, tt)
    arms_free (other_arm m ρ e k h) q = (tt, free_kept h q.0)
    arms_free (one_arm m ρ c e g k es xs o h f r) q = (((free_kept h q.0, free_kept f q.1.0), (arms_free r q.1.1).0), (arms_free r q.1.1).1)

    path_free : {ρ : Numbering} {x : List ℕ} {n : ℕ} {es : List Expr} {ls : List Level} {k : Ker} → BuildsPath ρ x n es ls k → AllTrees es →
        AllLevels P T ls × Free P T k
    path_free (last_level ρ x e f l k h g) q = ((free_kept h q.0, tt), free_kept g q.1.0)
    path_free (one_level ρ x n e es l m ls k h g) q = ((free_kept h q.0, (path_free g q.1).0), (path_free g q.1).1)

    changes_free : {ρ : Numbering} {x : List ℕ} {ns : List ℕ} {es : List Expr} {us : List Change} → BuildsChanges ρ x ns es us → AllTrees es → AllChanges P T us
    changes_free (no_changes ρ x) q = tt
    changes_free (one_change ρ x n ns es u us h g) q = (path_free h (first_trees (suc n) es q), changes_free g (last_trees (suc n) es q))

    node_free : {i : Option Assignable} {ρ : Numbering} {p : Place} {o : Op} {es : List Expr} {xs : List (List ℕ)} {k : Ker} → BuildsNode i ρ p o es xs k →
        P p ≡ false → is_text_op T o ≡ false → AllTrees es → Free P T k
    node_free (boolean ρ p b xs a) hp ht q = truth_free P T p a b hp
    node_free (integer ρ p n xs a) hp ht q = made P T p a _ [] [] hp (ap (is_text_value T) (value.outs-Int n)) tt
    node_free (text ρ p s xs a) hp ht q = made P T p a _ [] [] hp (ap (is_text_value T) (value.outs-Text s) ∙ ht) tt
    node_free (declared ρ p n primed es xs a) hp ht q = made P T p a (ker.Name n primed) [] [] hp refl tt
    node_free (bound_name ρ p x n xs a z) hp ht q = made P T p a (ker.Bound n) [] [] hp refl tt
    node_free (same ρ p o ko es xs a ks z h g) hp ht q = made P T p a ko ks [] hp (same_text_free ko h) (each_free g q)
    node_free (range ρ p es xs a k l g) hp ht q = made P T p a ker.Range _ [] hp refl (each_free g q)
    node_free (binder ρ p o ko es xs a ks bs ns z h f g r) hp ht q =
        made P T p a ko (ks ++ bs) ns hp (binder_text_free ko h)
        (append_free P T ks bs (each_free g (first_trees (length xs) es q)) (each_free r (last_trees (length xs) es q)))
    node_free (fold ρ p es xs a bs ks ns f g r) hp ht q =
        made P T p a ker.FoldLeft (bs ++ ks) ns hp refl (append_free P T bs ks (each_free g (first_trees 1 es q)) (each_free r (last_trees 1 es q)))
    node_free (noted i ρ p x es xs k g) hp ht q = (each_free g q).0
    node_free (assign ρ p es xs a ks g) hp ht q = made P T p a ker.Equal ks [] hp refl (each_free g q)
    node_free (implies ρ p es xs a k l g) hp ht q = implication_free P T p a k l hp (each_free g q).0 (each_free g q).1.0
    node_free (unequal ρ p es xs a ks g) hp ht q = negation_free P T p a _ hp (made P T p a ker.Equal ks [] hp refl (each_free g q))
    node_free (no_member ρ p es xs a ks g) hp ht q = negation_free P T p a _ hp (made P T p a ker.Member ks [] hp refl (each_free g q))
    node_free (greater ρ p es xs a k l g) hp ht q = made P T p a ker.Less _ [] hp refl ((each_free g q).1.0, ((each_free g q).0, tt))
    node_free (at_most ρ p es xs a k l g) hp ht q =
        negation_free P T p a _ hp (made P T p a ker.Less _ [] hp refl ((each_free g q).1.0, ((each_free g q).0, tt)))
    node_free (at_least ρ p es xs a ks g) hp ht q = negation_free P T p a _ hp (made P T p a ker.Less ks [] hp refl (each_free g q))
    node_free (negative ρ p es xs a ks g) hp ht q = made P T p a ker.Minus _ [] hp refl (number_free P T p a 0 hp, each_free g q)
    node_free (finite ρ p es xs a k n g) hp ht q = made P T p a ker.Every _ _ hp refl ((each_free g q).0, (truth_free P T p a true hp, tt))
    node_free (truth_values ρ p xs a b) hp ht q = made P T p a ker.SetOf _ [] hp refl (truth_free P T p b false hp, (truth_free P T p b true hp, tt))
    node_free (equivalent ρ p es xs l t k m h g) hp ht q = equivalence_free P T p l t k m hp (each_free g q).0 (each_free g q).1.0
    node_free (one_pair ρ p es xs l t s z k m h y g) hp ht q = single_free P T p l t s z k m hp (each_free g q).0 (each_free g q).1.0
    node_free (power ρ p es xs l b k m n h y r g) hp ht q = small_power_free P T p l b k n hp (each_free g q).0
    node_free (high_power ρ p es xs l t b k m n h y r g) hp ht q = large_power_free P T p l t b k m n hp (each_free g q).0 (each_free g q).1.0
    node_free (field ρ p es xs a k m x y g) hp ht q = made P T p a (ker.FieldOf x) _ [] hp refl ((each_free g q).0, tt)
    node_free (low_item ρ p es xs a k m n y h g) hp ht q = made P T p a (ker.Item n) _ [] hp refl ((each_free g q).0, tt)
    node_free (high_item ρ p es xs l t k m n h y r g) hp ht q = item_let_free P T p l t n k m hp (each_free g q).0 (each_free g q).1.0
    node_free (except ρ p cs e es x a f u us h z g r) hp ht q = changed_free P T p a f (u ∷ us) hp (free_kept g q.0) (changes_free r q.1)
    node_free (except_let ρ p cs e es x l t f us h z g r) hp ht q = except_let_free P T p l t f us hp (free_kept g q.0) (changes_free r q.1)
    node_free (cases ρ p other es xs a ks h g) hp ht q = nested_free P T p a ks hp (each_free g q)
    node_free (as_value m ρ p o es xs k z h) hp ht q = node_free h hp ht q
    node_free (conjunction m ρ p es xs a ks g) hp ht q = made P T p a ker.And ks [] hp refl (each_free g q)
    node_free (disjunction m ρ p es xs a ks g) hp ht q = made P T p a ker.Or ks [] hp refl (each_free g q)
    node_free (choice m ρ p es xs a ks bs ns h g r) hp ht q =
        made P T p a ker.Some (ks ++ bs) ns hp refl
        (append_free P T ks bs (each_free g (first_trees (length xs) es q)) (each_free r (last_trees (length xs) es q)))
    node_free (branches m ρ p c es xs a b g k l z h r) hp ht q =
        made P T p a ker.If _ [] hp refl (guard_free P T p b g hp (free_kept h q.0), each_free r q.1)
    node_free (split_cases m ρ p other es xs a ys o z g) hp ht q = split_free P T p a ys o hp (arms_free g q).0 (arms_free g q).1

-- ---- one place, and one text

contrary : (a b : Bool) → (a ≡ false → b ≡ false) → IsTrue b → IsTrue a
contrary true b f h = refl
contrary false b f h = absurd (true≢false (sym h ∙ f refl))

pub keeps_places : (i : Option Assignable) (ρ : Numbering) (e : Expr) (k : Ker) (p : Place) → KeepsPlaces i ρ e k p
keeps_places i ρ e k p h = contrary _ _ (free_kept (λ q. is_eq (place_cmp p q)) (λ x. false) h)

pub keeps_texts : (i : Option Assignable) (ρ : Numbering) (e : Expr) (k : Ker) (x : List ℕ) → KeepsTexts i ρ e k x
keeps_texts i ρ e k x h = contrary _ _ (free_kept (λ q. false) (same_text x) h)
