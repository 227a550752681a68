-- The trees of the rows have no place and no text but those of the operator and of the operands.
use Rattle.std.proofs.Common.{◌≡◌, ℕ, zero, suc, Bool, true, false, not, ◌&&◌, ◌||◌, List, [], ◌∷◌, ◌++◌, map, refl, sym, ◌∙◌, ap, ap₂, pos, Option, Some, None, if◌then◌else◌}
use Rattle.std.specs.List.{list_any}
use Rattle.tla_values.specs.declared.value.Value.TheVariants as value
use Rattle.tla_meaning.specs.declared.place.Place.{Place}
use Rattle.snowcat_rows.specs.declared.types.Ty.{Ty}
use Rattle.kernel_trees.specs.declared.kernel.Ker.{Ker, roll-Ker, out-Ker, roll-out-Ker}
use Rattle.kernel_trees.specs.declared.kernel.Ker.TheOpen.{Ker-F}
use Rattle.kernel_trees.specs.declared.kernel.Ker.TheFolds.{fold-roll-Ker}
use Rattle.kernel_trees.specs.declared.kernel.KerOp.{KerOp}
use Rattle.kernel_trees.specs.declared.kernel.KerOp.TheVariants as ker
use Rattle.kernel_trees.specs.Paths.{is_end}
use Rattle.kernel_reduction.specs.Origins.{is_text_constant, is_text_value, kernel_has_node}
use Rattle.kernel_reduction.specs.Rows.{tree, node, place_of, type_of, op_at, number, truth, bound, negation, item, pair, is_literal, Let, let_in, named_one, named_first, named_second, implication, equivalence, single, item_by_let, product, tested, power_body, small_power, large_power, Level, Change, changed_at, changed, all_levels, pairs, behind, is_nil, operand_at, index_at, read_levels, read_changes, except_by_let, nested_ifs, twice_negated, case_branches, split_case, may_assign, guard_of}
use Rattle.kernel_reduction.proofs.Basics.{or_left}

or_both : {a b : Bool} → a ≡ false → b ≡ false → (a || b) ≡ false
or_both h g = ap₂ (λ (a b : Bool). a || b) h g

module _ (P : Place → Bool) (T : List ℕ → Bool) where
  abbrev has : Ker → Bool
  has k = kernel_has_node P T k

  abbrev any_node : List Ker → Bool
  any_node ks = list_any (λ b. b) (map (kernel_has_node P T) ks)

  -- no node of it passes
  abbrev pub Free : Ker → Type 0
  Free k = kernel_has_node P T k ≡ false

  abbrev pub AllFree : List Ker → Type 0
  AllFree [] = Unit {0}
  AllFree (k ∷ ks) = Free k × AllFree ks

  any_free : (ks : List Ker) → AllFree ks → any_node ks ≡ false
  any_free [] h = refl
  any_free (k ∷ ks) h = or_both h.0 (any_free ks h.1)

  pub node-roll : (x : Ker-F Ker) → kernel_has_node P T (roll-Ker x) ≡ ((P x.place || is_text_constant T x.op) || list_any (λ b. b) (map (kernel_has_node P T) x.args))
  unfolding kernel_has_node
  node-roll x = fold-roll-Ker Bool (λ x. (P x.place || is_text_constant T x.op) || list_any (λ b. b) x.args) x

  pub append_free : (ks ls : List Ker) → AllFree ks → AllFree ls → AllFree (ks ++ ls)
  append_free [] ls h g = g
  append_free (k ∷ ks) ls h g = (h.0, append_free ks ls h.1 g)

  -- a node by its children
  pub made : (p : Place) (a : Ty) (ko : KerOp) (ks : List Ker) (xs : List ℕ) → P p ≡ false → is_text_constant T ko ≡ false → AllFree ks → Free (tree p a ko ks xs)
  made p a ko ks xs h g f = node-roll _ ∙ or_both (or_both h g) (any_free ks f)

  -- the place of its root
  pub root_free : (k : Ker) → Free k → P (place_of k) ≡ false
  root_free k h =
      or_left (P (place_of k)) (is_text_constant T (op_at k)) (or_left (P (place_of k) || is_text_constant T (op_at k)) _ (sym (node-roll (out-Ker k)) ∙ ap (kernel_has_node P T) (roll-out-Ker k) ∙ h))

  pub number_free : (p : Place) (a : Ty) (n : ℕ) → P p ≡ false → Free (number p a n)
  number_free p a n h = made p a _ [] [] h (ap (is_text_value T) (value.outs-Int (pos n))) tt

  pub truth_free : (p : Place) (a : Ty) (b : Bool) → P p ≡ false → Free (truth p a b)
  truth_free p a b h = made p a _ [] [] h (ap (is_text_value T) (value.outs-Bool b)) tt

  pub negation_free : (p : Place) (a : Ty) (k : Ker) → P p ≡ false → Free k → Free (negation p a k)
  negation_free p a k h g = made p a ker.Not (k ∷ []) [] h refl (g, tt)

  bound_free : (q : Place) (a : Ty) (n : ℕ) → P q ≡ false → Free (bound q a n)
  bound_free q a n h = made q a (ker.Bound n) [] [] h refl tt

  item_free : (q : Place) (a : Ty) (n : ℕ) (k : Ker) → P q ≡ false → Free k → Free (item q a n k)
  item_free q a n k h g = made q a (ker.Item n) (k ∷ []) [] h refl (g, tt)

  pair_free : (p : Place) (t : Ty) (k m : Ker) → P p ≡ false → Free k → Free m → Free (pair p t k m)
  pair_free p t k m h f g = made p t ker.TupOf (k ∷ m ∷ []) [] h refl (f, (g, tt))

  let_free : (p : Place) (l : Let) (d e : Ker) → P p ≡ false → Free d → Free e → Free (let_in p l d e)
  let_free p l d e h f g =
      made p l.type ker.First _ [] h refl (
        (made p l.wholes ker.FoldLeft _ _ h refl
            ((made p l.wholes ker.Push _ [] h refl ((bound_free p l.wholes l.unread h), (g, tt))), ((made p l.wholes ker.SeqOf [] [] h refl tt), ((made p l.items ker.SeqOf (d ∷ []) [] h refl (f, tt)), tt)))),
        tt,
      )

  -- what stands for an operand stands at its place
  first_free : (l : Let) (t : Ty) (k : Ker) → Free k → Free (named_first l t k)
  first_free l t k h = item_free (place_of k) (type_of k) 1 _ (root_free k h) (bound_free (place_of k) t l.named (root_free k h))

  second_free : (l : Let) (t : Ty) (k : Ker) → Free k → Free (named_second l t k)
  second_free l t k h = item_free (place_of k) (type_of k) 2 _ (root_free k h) (bound_free (place_of k) t l.named (root_free k h))

  pub implication_free : (p : Place) (a : Ty) (k l : Ker) → P p ≡ false → Free k → Free l → Free (implication p a k l)
  implication_free p a k l h f g = negation_free p a _ h (made p a ker.And _ [] h refl (f, ((negation_free p a l h g), tt)))

  pub equivalence_free : (p : Place) (l : Let) (t : Ty) (k m : Ker) → P p ≡ false → Free k → Free m → Free (equivalence p l t k m)
  equivalence_free p l t k m h f g =
      let_free p l (pair p t k m) _ h (pair_free p t k m h f g)
      (made p l.type ker.Equal _ [] h refl ((negation_free p l.type _ h (first_free l t k f)), ((negation_free p l.type _ h (second_free l t m g)), tt)))

  pub single_free : (p : Place) (l : Let) (t s : Ty) (z : ℕ) (k m : Ker) → P p ≡ false → Free k → Free m → Free (single p l t s z k m)
  single_free p l t s z k m h f g =
      let_free p l (pair p t k m) _ h (pair_free p t k m h f g)
      (made p l.type ker.FunOf _ _ h refl ((made p s ker.SetOf _ [] h refl ((first_free l t k f), tt)), ((second_free l t m g), tt)))

  pub item_let_free : (p : Place) (l : Let) (t : Ty) (i : ℕ) (k m : Ker) → P p ≡ false → Free k → Free m → Free (item_by_let p l t i k m)
  item_let_free p l t i k m h f g =
      let_free p l (pair p t k m) _ h (pair_free p t k m h f g) (item_free p l.type i _ h (first_free l t k f))

  -- ---- powers

  product_free : (p : Place) (a : Ty) (y : Ker) → P p ≡ false → Free y → (n : ℕ) → Free (product p a y n)
  product_free p a y h f zero = f
  product_free p a y h f (suc n) = made p a ker.Times _ [] h refl ((product_free p a y h f n), (f, tt))

  tested_free : (p : Place) (a b : Ty) (x y z : Ker) → P p ≡ false → Free x → Free y → Free z → Free (tested p a b x y z)
  tested_free p a b x y z h f g e = made p a ker.If _ [] h refl ((made p b ker.Less _ [] h refl (f, (g, tt))), (e, (e, tt)))

  body_free : (p : Place) (a b : Ty) (y : Ker) → P p ≡ false → Free y → (n : ℕ) → Free (power_body p a b y n)
  body_free p a b y h f zero = tested_free p a b y y (number p a 1) h f f (number_free p a 1 h)
  body_free p a b y h f (suc zero) = tested_free p a b _ y y h (made p a ker.Times _ [] h refl ((number_free p a 1 h), (f, tt))) f f
  body_free p a b y h f (suc (suc n)) = product_free p a y h f (suc n)

  pub small_power_free : (p : Place) (l : Let) (b : Ty) (k : Ker) (n : ℕ) → P p ≡ false → Free k → Free (small_power p l b k n)
  small_power_free p l b k n h f =
      let_free p l k _ h f (body_free p l.type b (named_one l k) h (bound_free (place_of k) (type_of k) l.named (root_free k f)) n)

  pub large_power_free : (p : Place) (l : Let) (t b : Ty) (k m : Ker) (n : ℕ) → P p ≡ false → Free k → Free m → Free (large_power p l t b k m n)
  large_power_free p l t b k m n h f g =
      let_free p l (pair p t k m) _ h (pair_free p t k m h f g) (body_free p l.type b (named_first l t k) h (first_free l t k f) n)

  -- ---- CASE and IF

  pub nested_free : (p : Place) (a : Ty) (ks : List Ker) → P p ≡ false → AllFree ks → Free (nested_ifs p a ks)
  nested_free p a [] h f = made p a ker.NoCase [] [] h refl tt
  nested_free p a (k ∷ []) h f = f.0
  nested_free p a (g ∷ k ∷ ks) h f = made p a ker.If _ [] h refl (f.0, (f.1.0, (nested_free p a ks h f.1.1, tt)))

  pub guard_free : (p : Place) (b : Ty) (g : Ker) → P p ≡ false → Free g → Free (guard_of p b g)
  guard_free p b g h f = by (may_assign (op_at g) || is_end (op_at g))
    where
      by : (c : Bool) → Free (if c then twice_negated p b g else g)
      by true = negation_free p b (negation p b g) h (negation_free p b g h f)
      by false = f

  -- guards with their branches
  abbrev pub AllArms : List (Ker × Ker) → Type 0
  AllArms [] = Unit {0}
  AllArms (x ∷ xs) = (Free x.0 × Free x.1) × AllArms xs

  abbrev pub FreeOther : Option Ker → Type 0
  FreeOther None = Unit {0}
  FreeOther (Some k) = Free k

  negations_free : (p : Place) (a : Ty) (gs : List Ker) → P p ≡ false → AllFree gs → AllFree (map (negation p a) gs)
  negations_free p a [] h f = tt
  negations_free p a (g ∷ gs) h f = (negation_free p a g h f.0, negations_free p a gs h f.1)

  branch_free : (q p : Place) (a : Ty) (gs ks : List Ker) → P q ≡ false → P p ≡ false → AllFree gs → AllFree ks → Free (node q a ker.And (map (negation p a) gs ++ ks))
  branch_free q p a gs ks i h f g = made q a ker.And _ [] i refl (append_free (map (negation p a) gs) ks (negations_free p a gs h f) g)

  branches_free : (p : Place) (a : Ty) (front : List Ker) (xs : List (Ker × Ker)) (o : Option Ker) → P p ≡ false → AllFree front → AllArms xs → FreeOther o →
      AllFree (case_branches p a front xs o)
  branches_free p a front [] (Some o) h f x y = ((branch_free (place_of o) p a front (o ∷ []) (root_free o y) h f (y, tt)), tt)
  branches_free p a front [] None h f x y = ((branch_free p p a front _ h h f ((made p a ker.NoCase [] [] h refl tt), tt)), tt)
  branches_free p a front (z ∷ zs) o h f x y =
      ((branch_free (place_of z.1) p a front _ (root_free z.1 x.0.1) h f ((negation_free p a _ h (negation_free p a z.0 h x.0.0)), (x.0.1, tt))), (branches_free p a (front ++ z.0 ∷ []) zs o h (append_free front (z.0 ∷ []) f (x.0.0, tt)) x.1 y))

  pub split_free : (p : Place) (a : Ty) (xs : List (Ker × Ker)) (o : Option Ker) → P p ≡ false → AllArms xs → FreeOther o → Free (split_case p a xs o)
  split_free p a xs o h x y = made p a ker.Or _ [] h refl (branches_free p a [] xs o h tt x y)

  -- ---- EXCEPT

  abbrev pub AllLevels : List Level → Type 0
  AllLevels [] = Unit {0}
  AllLevels (l ∷ ls) = Free l.index × AllLevels ls

  abbrev pub AllChanges : List Change → Type 0
  AllChanges [] = Unit {0}
  AllChanges (u ∷ us) = (AllLevels u.levels × Free u.right) × AllChanges us

  changed_at_free : (p : Place) (a : Ty) (f : Ker) (ls : List Level) (e : Ker) → P p ≡ false → Free f → AllLevels ls → Free e → Free (changed_at p a f ls e)
  changed_at_free p a f [] e h g x y = g
  changed_at_free p a f (l ∷ []) e h g x y = made p a ker.Update _ _ h refl (g, (x.0, (y, tt)))
  changed_at_free p a f (l ∷ m ∷ ls) e h g x y =
      made p a ker.Update _ _ h refl (g, (x.0, ((changed_at_free p l.inner (bound p l.inner l.number) (m ∷ ls) e h (bound_free p l.inner l.number h) x.1 y), tt)))

  pub changed_free : (p : Place) (a : Ty) (f : Ker) (us : List Change) → P p ≡ false → Free f → AllChanges us → Free (changed p a f us)
  changed_free p a f [] h g x = g
  changed_free p a f (u ∷ us) h g x = changed_free p a (changed_at p a f u.levels u.right) us h (changed_at_free p a f u.levels u.right h g x.0.0 x.0.1) x.1

  levels_append : (ls ms : List Level) → AllLevels ls → AllLevels ms → AllLevels (ls ++ ms)
  levels_append [] ms f g = g
  levels_append (l ∷ ls) ms f g = (f.0, levels_append ls ms f.1 g)

  all_levels_free : (us : List Change) → AllChanges us → AllLevels (all_levels us)
  all_levels_free [] x = tt
  all_levels_free (u ∷ us) x = levels_append u.levels (all_levels us) x.0.0 (all_levels_free us x.1)

  pairs_free : (p : Place) (t : Ty) (k : Ker) (ls : List Level) → P p ≡ false → Free k → AllLevels ls → Free (pairs p t k ls)
  pairs_free p t k [] h f x = f
  pairs_free p t k (l ∷ ls) h f x = pair_free p t k _ h f (pairs_free p l.rest l.index ls h x.0 x.1)

  behind_free : (q : Place) (y : Ker) (rs : List Ty) → P q ≡ false → Free y → Free (behind q y rs)
  behind_free q y [] h f = f
  behind_free q y (r ∷ rs) h f = behind_free q (item q r 2 y) rs h (item_free q r 2 y h f)

  operand_free : (l : Let) (t : Ty) (rs : List Ty) (last : Bool) (k : Ker) → Free k → Free (operand_at l t rs last k)
  operand_free l t rs last k f = by last
    where
      h : P (place_of k) ≡ false
      h = root_free k f

      left : Free (behind (place_of k) (bound (place_of k) t l.named) rs)
      left = behind_free (place_of k) (bound (place_of k) t l.named) rs h (bound_free (place_of k) t l.named h)

      by : (c : Bool) → Free (operand_at l t rs c k)
      by true = left
      by false = item_free (place_of k) (type_of k) 1 _ h left

  index_free : (l : Let) (t : Ty) (rs : List Ty) (last : Bool) (k : Ker) → Free k → Free (index_at l t rs last k)
  index_free l t rs last k f = by (is_literal k)
    where
      by : (c : Bool) → Free (if c then k else operand_at l t rs last k)
      by true = f
      by false = operand_free l t rs last k f

  read_levels_free : (l : Let) (t : Ty) (rs : List Ty) (b : Bool) (ls : List Level) → AllLevels ls → AllLevels (read_levels l t rs b ls)
  read_levels_free l t rs b [] f = tt
  read_levels_free l t rs b (x ∷ xs) f = (index_free l t (rs ++ x.rest ∷ []) (is_nil xs && not b) x.index f.0, read_levels_free l t (rs ++ x.rest ∷ []) b xs f.1)

  read_changes_free : (l : Let) (t : Ty) (rs : List Ty) (us : List Change) → AllChanges us → AllChanges (read_changes l t rs us)
  read_changes_free l t rs [] f = tt
  read_changes_free l t rs (u ∷ us) f =
      ((read_levels_free l t rs (not (is_nil us)) u.levels f.0.0, f.0.1), read_changes_free l t (rs ++ map (λ x. x.rest) u.levels) us f.1)

  pub except_let_free : (p : Place) (l : Let) (t : Ty) (f : Ker) (us : List Change) → P p ≡ false → Free f → AllChanges us → Free (except_by_let p l t f us)
  except_let_free p l t f us h g x =
      let_free p l (pairs p t f (all_levels us)) _ h (pairs_free p t f (all_levels us) h g (all_levels_free us x))
      (changed_free p l.type (operand_at l t [] false f) (read_changes l t [] us) h (operand_free l t [] false f g) (read_changes_free l t [] us x))
