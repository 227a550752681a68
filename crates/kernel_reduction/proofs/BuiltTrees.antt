-- What is built is expanded; and what is built in an action position and holds no name that may be assigned is built as a
-- value.
use Rattle.std.proofs.Common.{◌≡◌, ℕ, suc, Bool, true, false, ◌&&◌, ◌||◌, IsTrue, List, [], ◌∷◌, ◌++◌, map, take, drop, length, true≢false, refl, sym, ◌∙◌, ap, subst, Option, Some, None}
use Rattle.std.specs.List.{list_all, list_any}
use Rattle.tla_meaning.specs.declared.actions.Assignable.{Assignable}
use Rattle.tla_meaning.specs.declared.expr.Expr.{Expr, out-Expr, roll-out-Expr}
use Rattle.tla_meaning.specs.declared.op.Op.{Op}
use Rattle.tla_meaning.specs.declared.op.Op.TheVariants as op
use Rattle.tla_meaning.specs.declared.place.Place.{Place}
use Rattle.tla_meaning.proofs.Views.{and_both, false≢true}
use Rattle.kernel_trees.specs.declared.kernel.Ker.{Ker}
use Rattle.kernel_trees.specs.declared.kernel.KerOp.{KerOp}
use Rattle.kernel_trees.specs.declared.kernel.KerOp.TheVariants as ker
use Rattle.kernel_trees.specs.Trees.{op_of}
use Rattle.kernel_reduction.specs.Reduction.{Numbering, any_mentioned, mentioned, mentioned_at}
use Rattle.kernel_reduction.specs.Rows.{Change, Level}
use Rattle.kernel_reduction.specs.Builds.{Builds, BuildsEach, BuildsArms, BuildsPath, BuildsChanges, BuildsNode, at_node, none_left, one_more, no_arms, other_arm, one_arm, last_level, one_level, no_changes, one_change, boolean, integer, text, declared, bound_name, same, range, binder, fold, noted, assign, implies, unequal, no_member, greater, at_most, at_least, negative, finite, truth_values, equivalent, one_pair, power, high_power, field, low_item, high_item, except, except_let, cases, as_value, conjunction, disjunction, choice, branches, split_cases, is_same, is_binder}
use Rattle.kernel_reduction.proofs.Basics.{or_left, or_right, map_append, in_parts}
use Rattle.kernel_reduction.proofs.Mentioned.{is_readable, mentioned-roll, readable-roll, readable_at}

-- ---- expanded

abbrev pub all_readable : List Expr → Bool
all_readable es = list_all (λ b. b) (map is_readable es)

all_append : (bs cs : List Bool) → IsTrue (list_all (λ b. b) bs) → IsTrue (list_all (λ b. b) cs) → IsTrue (list_all (λ b. b) (bs ++ cs))
all_append [] cs f g = g
all_append (true ∷ bs) cs f g = all_append bs cs f g
all_append (false ∷ bs) cs f g = absurd (false≢true f)

all_parts : (n : ℕ) (es : List Expr) → IsTrue (all_readable (take n es)) → IsTrue (all_readable (drop n es)) → IsTrue (all_readable es)
all_parts n es f g =
    subst (λ l. IsTrue (all_readable l)) (in_parts n es)
    (subst (λ l. IsTrue (list_all (λ b. b) l)) (sym (map_append is_readable (take n es) (drop n es)))
    (all_append (map is_readable (take n es)) (map is_readable (drop n es)) f g))

same_readable : (o : KerOp) (bs : List Bool) → is_same o ≡ true → IsTrue (list_all (λ b. b) bs) → IsTrue (readable_at (op_of o) bs)
same_readable (ker.Const v) bs h q = absurd (false≢true h)
same_readable (ker.Name i primed) bs h q = absurd (false≢true h)
same_readable o bs h q = q

binder_readable : (o : KerOp) (bs : List Bool) → is_binder o ≡ true → IsTrue (list_all (λ b. b) bs) → IsTrue (readable_at (op_of o) bs)
binder_readable ker.Filter bs h q = q
binder_readable ker.MapOver bs h q = q
binder_readable ker.FunOf bs h q = q
binder_readable ker.Some bs h q = q
binder_readable ker.Every bs h q = q
binder_readable o bs h q = absurd (false≢true h)

mutual
  pub built_readable : {i : Option Assignable} {ρ : Numbering} {e : Expr} {k : Ker} → Builds i ρ e k → IsTrue (is_readable e)
  built_readable (at_node i ρ e k h) =
      subst IsTrue (sym (readable-roll (out-Expr e)) ∙ ap is_readable (roll-out-Expr e)) (node_readable h)

  each_readable : {i : Option Assignable} {ρ : Numbering} {es : List Expr} {ks : List Ker} → BuildsEach i ρ es ks → IsTrue (all_readable es)
  each_readable (none_left i ρ) = refl
  each_readable (one_more i ρ e k es ks h g) = and_both (is_readable e) (all_readable es) (built_readable h) (each_readable g)

  arms_readable : {m : Assignable} {ρ : Numbering} {es : List Expr} {xs : List (Ker × Ker)} {o : Option Ker} → BuildsArms m ρ es xs o → IsTrue (all_readable es)
  arms_readable (no_arms m ρ) = refl
  arms_readable (other_arm m ρ e k h) = and_both (is_readable e) true (built_readable h) refl
  arms_readable (one_arm m ρ c e g k es xs o h f r) =
      and_both (is_readable c) (is_readable e && all_readable es) (built_readable h) (and_both (is_readable e) (all_readable es) (built_readable f) (arms_readable r))

  path_readable : {ρ : Numbering} {x : List ℕ} {n : ℕ} {es : List Expr} {ls : List Level} {k : Ker} → BuildsPath ρ x n es ls k → IsTrue (all_readable es)
  path_readable (last_level ρ x e f l k h g) =
      and_both (is_readable e) (is_readable f && true) (built_readable h) (and_both (is_readable f) true (built_readable g) refl)
  path_readable (one_level ρ x n e es l m ls k h g) = and_both (is_readable e) (all_readable es) (built_readable h) (path_readable g)

  changes_readable : {ρ : Numbering} {x : List ℕ} {ns : List ℕ} {es : List Expr} {us : List Change} → BuildsChanges ρ x ns es us → IsTrue (all_readable es)
  changes_readable (no_changes ρ x) = refl
  changes_readable (one_change ρ x n ns es u us h g) = all_parts (suc n) es (path_readable h) (changes_readable g)

  pub node_readable : {i : Option Assignable} {ρ : Numbering} {p : Place} {o : Op} {es : List Expr} {xs : List (List ℕ)} {k : Ker} → BuildsNode i ρ p o es xs k →
      IsTrue (readable_at o (map is_readable es))
  node_readable (boolean ρ p b xs a) = refl
  node_readable (integer ρ p n xs a) = refl
  node_readable (text ρ p s xs a) = refl
  node_readable (declared ρ p n primed es xs a) = refl
  node_readable (bound_name ρ p x n xs a q) = refl
  node_readable (same ρ p o ko es xs a ks q h g) = subst (λ z. IsTrue (readable_at z (map is_readable es))) q (same_readable ko (map is_readable es) h (each_readable g))
  node_readable (range ρ p es xs a k l g) = each_readable g
  node_readable (binder ρ p o ko es xs a ks bs ns q h f g r) =
      subst (λ z. IsTrue (readable_at z (map is_readable es))) q (binder_readable ko (map is_readable es) h (all_parts (length xs) es (each_readable g) (each_readable r)))
  node_readable (fold ρ p es xs a bs ks ns f g r) = all_parts 1 es (each_readable g) (each_readable r)
  node_readable (noted i ρ p x es xs k g) = each_readable g
  node_readable (assign ρ p es xs a ks g) = each_readable g
  node_readable (implies ρ p es xs a k l g) = each_readable g
  node_readable (unequal ρ p es xs a ks g) = each_readable g
  node_readable (no_member ρ p es xs a ks g) = each_readable g
  node_readable (greater ρ p es xs a k l g) = each_readable g
  node_readable (at_most ρ p es xs a k l g) = each_readable g
  node_readable (at_least ρ p es xs a ks g) = each_readable g
  node_readable (negative ρ p es xs a ks g) = each_readable g
  node_readable (finite ρ p es xs a k n g) = each_readable g
  node_readable (truth_values ρ p xs a b) = refl
  node_readable (equivalent ρ p es xs l t k m h g) = each_readable g
  node_readable (one_pair ρ p es xs l t s z k m h q g) = each_readable g
  node_readable (power ρ p es xs l b k m n h q r g) = each_readable g
  node_readable (high_power ρ p es xs l t b k m n h q r g) = each_readable g
  node_readable (field ρ p es xs a k m x q g) = each_readable g
  node_readable (low_item ρ p es xs a k m n q h g) = each_readable g
  node_readable (high_item ρ p es xs l t k m n h q r g) = each_readable g
  node_readable (except ρ p cs e es x a f u us h q g r) = and_both (is_readable e) (all_readable es) (built_readable g) (changes_readable r)
  node_readable (except_let ρ p cs e es x l t f us h q g r) = and_both (is_readable e) (all_readable es) (built_readable g) (changes_readable r)
  node_readable (cases ρ p other es xs a ks h g) = each_readable g
  node_readable (as_value m ρ p o es xs k q h) = node_readable h
  node_readable (conjunction m ρ p es xs a ks g) = each_readable g
  node_readable (disjunction m ρ p es xs a ks g) = each_readable g
  node_readable (choice m ρ p es xs a ks bs ns h g r) = all_parts (length xs) es (each_readable g) (each_readable r)
  node_readable (branches m ρ p c es xs a b g k l q h r) = and_both (is_readable c) (all_readable es) (built_readable h) (each_readable r)
  node_readable (split_cases m ρ p other es xs a ys o q g) = arms_readable g

-- ---- without a name that may be assigned

any_is : (m : Assignable) (es : List Expr) → list_any (λ b. b) (map (mentioned m) es) ≡ any_mentioned m es
any_is m [] = refl
any_is m (e ∷ es) = ap (λ b. mentioned m e || b) (any_is m es)

any_append : (m : Assignable) (es fs : List Expr) → any_mentioned m (es ++ fs) ≡ (any_mentioned m es || any_mentioned m fs)
any_append m [] fs = refl
any_append m (e ∷ es) fs = ap (λ b. mentioned m e || b) (any_append m es fs) ∙ by (mentioned m e)
  where
    by : (a : Bool) → (a || (any_mentioned m es || any_mentioned m fs)) ≡ ((a || any_mentioned m es) || any_mentioned m fs)
    by true = refl
    by false = refl

any_parts : (m : Assignable) (n : ℕ) (es : List Expr) → any_mentioned m es ≡ (any_mentioned m (take n es) || any_mentioned m (drop n es))
any_parts m n es = ap (any_mentioned m) (sym (in_parts n es)) ∙ any_append m (take n es) (drop n es)

module _ (m : Assignable) where
  mutual
    pub built_value : {ρ : Numbering} {e : Expr} {k : Ker} → Builds (Some m) ρ e k → mentioned m e ≡ false → Builds None ρ e k
    built_value (at_node i ρ e k h) q =
        at_node None ρ e k (node_value h (sym (mentioned-roll m (out-Expr e)) ∙ ap (mentioned m) (roll-out-Expr e) ∙ q))

    each_value : {ρ : Numbering} {es : List Expr} {ks : List Ker} → BuildsEach (Some m) ρ es ks → any_mentioned m es ≡ false → BuildsEach None ρ es ks
    each_value (none_left i ρ) q = none_left None ρ
    each_value (one_more i ρ e k es ks h g) q =
        one_more None ρ e k es ks (built_value h (or_left (mentioned m e) (any_mentioned m es) q)) (each_value g (or_right (mentioned m e) (any_mentioned m es) q))

    pub node_value : {ρ : Numbering} {p : Place} {o : Op} {es : List Expr} {xs : List (List ℕ)} {k : Ker} → BuildsNode (Some m) ρ p o es xs k →
        mentioned_at m o (map (mentioned m) es) ≡ false → BuildsNode None ρ p o es xs k
    node_value (noted i ρ p x es xs k g) q = noted None ρ p x es xs k (each_value g (sym (any_is m es) ∙ q))
    node_value (as_value n ρ p o es xs k z h) q = h
    node_value (conjunction n ρ p es xs a ks g) q = same ρ p op.And ker.And es xs a ks refl refl (each_value g (sym (any_is m es) ∙ q))
    node_value (disjunction n ρ p es xs a ks g) q = same ρ p op.Or ker.Or es xs a ks refl refl (each_value g (sym (any_is m es) ∙ q))
    node_value (choice n ρ p es xs a ks bs ns f g r) q =
        binder ρ p op.Exists ker.Some es xs a ks bs ns refl refl f g
        (each_value r (or_right (any_mentioned m (take (length xs) es)) (any_mentioned m (drop (length xs) es)) (sym (any_parts m (length xs) es) ∙ sym (any_is m es) ∙ q)))
    node_value (branches n ρ p c es xs a b g k l z h r) q = absurd (true≢false (sym z ∙ sym (any_is m (c ∷ es)) ∙ q))
    node_value (split_cases n ρ p other es xs a ys o z g) q = absurd (true≢false (sym z ∙ sym (any_is m es) ∙ q))
