-- The names that the trees of the rows hold: those of the operands.
use Rattle.std.proofs.Common.{◌≡◌, ℕ, zero, suc, Bool, true, false, not, ◌&&◌, ◌||◌, List, [], ◌∷◌, ◌++◌, map, refl, sym, ◌∙◌, ap, ap₂, Option, Some, None, if◌then◌else◌}
use Rattle.std.specs.List.{list_any}
use Rattle.tla_meaning.specs.declared.place.Place.{Place}
use Rattle.tla_meaning.proofs.Views.{false≢true}
use Rattle.snowcat_rows.specs.declared.types.Ty.{Ty}
use Rattle.kernel_trees.specs.declared.kernel.Ker.{Ker}
use Rattle.kernel_trees.specs.declared.kernel.KerOp.{KerOp}
use Rattle.kernel_trees.specs.declared.kernel.KerOp.TheVariants as ker
use Rattle.kernel_trees.specs.Paths.{is_end}
use Rattle.kernel_reduction.specs.Rows.{node, place_of, op_at, number, bound, negation, item, pair, is_literal, is_literal_op, Let, let_in, named_one, named_first, implication, equivalence, single, item_by_let, product, tested, power_body, small_power, large_power, Level, Change, changed_at, changed, all_levels, pairs, behind, is_nil, operand_at, index_at, read_levels, read_changes, except_by_let, nested_ifs, twice_negated, case_branches, split_case, may_assign, guard_of}
use Rattle.kernel_reduction.proofs.Basics.{or_none, or_assoc, any_append, map_append}
use Rattle.kernel_reduction.proofs.KernelNames.{ker_has, has-roll, no_names_in_constant}

-- ---- truth values

or_front : (a b c : Bool) → (a || (b || c)) ≡ (b || (a || c))
or_front true true c = refl
or_front true false c = refl
or_front false b c = refl

or_true : (a : Bool) → (a || true) ≡ true
or_true true = refl
or_true false = refl

-- a || x and b || y
or_four : (a b c d : Bool) → ((a || b) || (c || d)) ≡ ((a || c) || (b || d))
or_four true b c d = refl
or_four false true c d = sym (or_true c)
or_four false false c d = refl

let_bools : (d e : Bool) → (((e || false) || ((d || false) || false)) || false) ≡ (d || e)
let_bools true true = refl
let_bools true false = refl
let_bools false true = refl
let_bools false false = refl

implied_bools : (k l : Bool) → ((k || ((l || false) || false)) || false) ≡ (k || (l || false))
implied_bools true l = refl
implied_bools false true = refl
implied_bools false false = refl

swapped_bools : (k l : Bool) → (l || (k || false)) ≡ (k || (l || false))
swapped_bools true true = refl
swapped_bools true false = refl
swapped_bools false true = refl
swapped_bools false false = refl

-- ---- the rows

module _ (test : ℕ → Bool → Place → Bool) where
  abbrev has : Ker → Bool
  has k = ker_has test k

  abbrev pub any_has : List Ker → Bool
  any_has ks = list_any (λ b. b) (map (ker_has test) ks)

  any_both : (ks ls : List Ker) → any_has (ks ++ ls) ≡ (any_has ks || any_has ls)
  any_both ks ls = ap (list_any (λ b. b)) (map_append (ker_has test) ks ls) ∙ any_append (map (ker_has test) ks) (map (ker_has test) ls)

  pub negation_has : (p : Place) (a : Ty) (k : Ker) → ker_has test (negation p a k) ≡ ker_has test k
  negation_has p a k = has-roll test _ ∙ or_none (has k)

  pub twice_has : (p : Place) (a : Ty) (k : Ker) → ker_has test (twice_negated p a k) ≡ ker_has test k
  twice_has p a k = negation_has p a (negation p a k) ∙ negation_has p a k

  pub let_has : (p : Place) (l : Let) (d e : Ker) → ker_has test (let_in p l d e) ≡ (ker_has test d || ker_has test e)
  let_has p l d e = simp (has-roll) (let_bools (has d) (has e))

  pub implication_has : (p : Place) (a : Ty) (k l : Ker) → ker_has test (implication p a k l) ≡ any_has (k ∷ l ∷ [])
  implication_has p a k l = simp (has-roll) (implied_bools (has k) (has l))

  pub swapped_has : (k l : Ker) → any_has (l ∷ k ∷ []) ≡ any_has (k ∷ l ∷ [])
  swapped_has k l = swapped_bools (has k) (has l)

  pair_has : (p : Place) (t : Ty) (k m : Ker) → has (pair p t k m) ≡ any_has (k ∷ m ∷ [])
  pair_has p t k m = has-roll test _

  -- a LET over a pair, in which no name is read again
  let_pair_has : (p : Place) (l : Let) (t : Ty) (k m e : Ker) → has e ≡ false → has (let_in p l (pair p t k m) e) ≡ any_has (k ∷ m ∷ [])
  let_pair_has p l t k m e h =
      let_has p l (pair p t k m) e ∙ ap₂ (λ (b c : Bool). b || c) (pair_has p t k m) h ∙ or_none (any_has (k ∷ m ∷ []))

  pub equivalence_has : (p : Place) (l : Let) (t : Ty) (k m : Ker) → ker_has test (equivalence p l t k m) ≡ any_has (k ∷ m ∷ [])
  equivalence_has p l t k m = let_pair_has p l t k m _ (simp (has-roll))

  pub single_has : (p : Place) (l : Let) (t s : Ty) (z : ℕ) (k m : Ker) → ker_has test (single p l t s z k m) ≡ any_has (k ∷ m ∷ [])
  single_has p l t s z k m = let_pair_has p l t k m _ (simp (has-roll))

  pub item_has : (p : Place) (l : Let) (t : Ty) (i : ℕ) (k m : Ker) → ker_has test (item_by_let p l t i k m) ≡ any_has (k ∷ m ∷ [])
  item_has p l t i k m = let_pair_has p l t k m _ (simp (has-roll))

  -- ---- powers

  product_has : (p : Place) (a : Ty) (y : Ker) → has y ≡ false → (n : ℕ) → has (product p a y n) ≡ false
  product_has p a y h zero = h
  product_has p a y h (suc n) = has-roll test _ ∙ ap₂ (λ (b c : Bool). b || (c || false)) (product_has p a y h n) h

  tested_has : (p : Place) (a b : Ty) (x y z : Ker) → has x ≡ false → has y ≡ false → has z ≡ false → has (tested p a b x y z) ≡ false
  tested_has p a b x y z f g h =
      has-roll test _
      ∙ ap₂ (λ (c d : Bool). c || (d || (d || false))) (has-roll test _ ∙ ap₂ (λ (c d : Bool). c || (d || false)) f g) h

  body_has : (p : Place) (a b : Ty) (y : Ker) → has y ≡ false → (n : ℕ) → has (power_body p a b y n) ≡ false
  body_has p a b y h zero = tested_has p a b y y (number p a 1) h h (has-roll test _)
  body_has p a b y h (suc zero) =
      tested_has p a b _ y y (has-roll test _ ∙ ap₂ (λ (c d : Bool). c || (d || false)) (has-roll test _) h) h h
  body_has p a b y h (suc (suc n)) = product_has p a y h (suc n)

  pub small_power_has : (p : Place) (l : Let) (b : Ty) (k : Ker) (n : ℕ) → ker_has test (small_power p l b k n) ≡ ker_has test k
  small_power_has p l b k n =
      let_has p l k _ ∙ ap (λ (c : Bool). has k || c) (body_has p l.type b (named_one l k) (has-roll test _) n) ∙ or_none (has k)

  pub large_power_has : (p : Place) (l : Let) (t b : Ty) (k m : Ker) (n : ℕ) → ker_has test (large_power p l t b k m n) ≡ any_has (k ∷ m ∷ [])
  large_power_has p l t b k m n = let_pair_has p l t k m _ (body_has p l.type b (named_first l t k) (simp (has-roll)) n)

  -- ---- CASE and IF

  pub nested_has : (p : Place) (a : Ty) (ks : List Ker) → ker_has test (nested_ifs p a ks) ≡ any_has ks
  nested_has p a [] = has-roll test _
  nested_has p a (k ∷ []) = sym (or_none (has k))
  nested_has p a (g ∷ k ∷ ks) =
      has-roll test _ ∙ ap (λ (b : Bool). has g || (has k || b)) (or_none (has (nested_ifs p a ks)) ∙ nested_has p a ks)

  pub guard_has : (p : Place) (b : Ty) (g : Ker) → ker_has test (guard_of p b g) ≡ ker_has test g
  guard_has p b g = by (may_assign (op_at g) || is_end (op_at g))
    where
      by : (c : Bool) → has (if c then twice_negated p b g else g) ≡ has g
      by true = twice_has p b g
      by false = refl

  -- the guards and branches of a CASE, in order
  abbrev pub case_children : List (Ker × Ker) → Option Ker → List Ker
  case_children [] None = []
  case_children [] (Some o) = o ∷ []
  case_children (x ∷ xs) o = x.0 ∷ x.1 ∷ case_children xs o

  negations_have : (p : Place) (a : Ty) (gs : List Ker) → map (ker_has test) (map (negation p a) gs) ≡ map (ker_has test) gs
  negations_have p a [] = refl
  negations_have p a (g ∷ gs) = ap₂ (λ (b : Bool) (bs : List Bool). b ∷ bs) (negation_has p a g) (negations_have p a gs)

  -- a branch behind guards
  behind_guards : (q p : Place) (a : Ty) (gs ks : List Ker) → has (node q a ker.And (map (negation p a) gs ++ ks)) ≡ (any_has gs || any_has ks)
  behind_guards q p a gs ks =
      has-roll test _
      ∙ any_both (map (negation p a) gs) ks
      ∙ ap (λ bs. list_any (λ b. b) bs || any_has ks) (negations_have p a gs)

  case_bools : (f g k r : Bool) → ((f || (g || (k || false))) || ((f || (g || false)) || r)) ≡ (f || (g || (k || r)))
  case_bools true g k r = refl
  case_bools false true k r = refl
  case_bools false false true r = refl
  case_bools false false false r = refl

  branches_have : (p : Place) (a : Ty) (front : List Ker) (xs : List (Ker × Ker)) (o : Option Ker) →
      any_has (case_branches p a front xs o) ≡ (any_has front || any_has (case_children xs o))
  branches_have p a front [] (Some o) = or_none _ ∙ behind_guards (place_of o) p a front (o ∷ [])
  branches_have p a front [] None =
      or_none _ ∙ behind_guards p p a front (node p a ker.NoCase [] ∷ []) ∙ ap (λ (b : Bool). any_has front || (b || false)) (has-roll test _)
  branches_have p a front (x ∷ xs) o =
      ap₂ (λ (b c : Bool). b || c)
      (behind_guards (place_of x.1) p a front (twice_negated p a x.0 ∷ x.1 ∷ []) ∙ ap (λ (b : Bool). any_has front || (b || (has x.1 || false))) (twice_has p a x.0))
      (branches_have p a (front ++ x.0 ∷ []) xs o ∙ ap (λ (b : Bool). b || any_has (case_children xs o)) (any_both front (x.0 ∷ [])))
      ∙ case_bools (any_has front) (has x.0) (has x.1) (any_has (case_children xs o))

  pub split_has : (p : Place) (a : Ty) (xs : List (Ker × Ker)) (o : Option Ker) → ker_has test (split_case p a xs o) ≡ any_has (case_children xs o)
  split_has p a xs o = has-roll test _ ∙ branches_have p a [] xs o

  -- ---- EXCEPT

  abbrev pub change_has : Change → Bool
  change_has u = any_has (map (λ l. l.index) u.levels) || ker_has test u.right

  -- each path has an index
  abbrev pub Indexed : List Change → Type 0
  Indexed [] = Unit {0}
  Indexed (u ∷ us) = (is_nil u.levels ≡ false) × Indexed us

  path_bools : (f i r e : Bool) → (f || (i || ((false || (r || e)) || false))) ≡ (f || ((i || r) || e))
  path_bools true i r e = refl
  path_bools false true r e = refl
  path_bools false false r e = or_none (r || e)

  last_bools : (f i e : Bool) → (f || (i || (e || false))) ≡ (f || ((i || false) || e))
  last_bools true i e = refl
  last_bools false true e = refl
  last_bools false false e = or_none e

  changed_at_has : (p : Place) (a : Ty) (f : Ker) (l : Level) (ls : List Level) (e : Ker) →
      has (changed_at p a f (l ∷ ls) e) ≡ (has f || (any_has (map (λ l. l.index) (l ∷ ls)) || has e))
  changed_at_has p a f l [] e = has-roll test _ ∙ last_bools (has f) (has l.index) (has e)
  changed_at_has p a f l (m ∷ ls) e =
      has-roll test _
      ∙ ap (λ (b : Bool). has f || (has l.index || (b || false)))
      (changed_at_has p l.inner (bound p l.inner l.number) m ls e
      ∙ ap (λ (b : Bool). b || (any_has (map (λ l. l.index) (m ∷ ls)) || has e)) (has-roll test _))
      ∙ path_bools (has f) (has l.index) (any_has (map (λ l. l.index) (m ∷ ls))) (has e)

  changed_by : (p : Place) (a : Ty) (f : Ker) (u : Change) → is_nil u.levels ≡ false → has (changed_at p a f u.levels u.right) ≡ (has f || change_has u)
  changed_by p a f u h = by u.levels h
    where
      by : (ls : List Level) → is_nil ls ≡ false → has (changed_at p a f ls u.right) ≡ (has f || (any_has (map (λ l. l.index) ls) || has u.right))
      by [] q = absurd (false≢true (sym q))
      by (l ∷ ls) q = changed_at_has p a f l ls u.right

  pub changed_has : (p : Place) (a : Ty) (f : Ker) (us : List Change) → Indexed us → ker_has test (changed p a f us) ≡ (ker_has test f || list_any change_has us)
  changed_has p a f [] h = sym (or_none (has f))
  changed_has p a f (u ∷ us) h =
      changed_has p a (changed_at p a f u.levels u.right) us h.1
      ∙ ap (λ (b : Bool). b || list_any change_has us) (changed_by p a f u h.0)
      ∙ or_assoc (has f) (change_has u) (list_any change_has us)

  pairs_have : (p : Place) (t : Ty) (k : Ker) (ls : List Level) → has (pairs p t k ls) ≡ (has k || any_has (map (λ l. l.index) ls))
  pairs_have p t k [] = sym (or_none (has k))
  pairs_have p t k (l ∷ ls) =
      has-roll test _ ∙ ap (λ (b : Bool). has k || b) (or_none (has (pairs p l.rest l.index ls)) ∙ pairs_have p l.rest l.index ls)

  -- what reads the pairs holds no name, and a literal neither
  behind_has : (q : Place) (y : Ker) (rs : List Ty) → has y ≡ false → has (behind q y rs) ≡ false
  behind_has q y [] h = h
  behind_has q y (r ∷ rs) h = behind_has q (item q r 2 y) rs (has-roll test _ ∙ ap (λ (b : Bool). b || false) h)

  operand_has : (l : Let) (t : Ty) (rs : List Ty) (last : Bool) (k : Ker) → has (operand_at l t rs last k) ≡ false
  operand_has l t rs last k = by last
    where
      left : has (behind (place_of k) (bound (place_of k) t l.named) rs) ≡ false
      left = behind_has (place_of k) (bound (place_of k) t l.named) rs (has-roll test _)

      by : (c : Bool) → has (operand_at l t rs c k) ≡ false
      by true = left
      by false = has-roll test _ ∙ ap (λ (b : Bool). b || false) left

  literal_has : (k : Ker) → is_literal k ≡ true → has k ≡ false
  literal_has k h = by (op_at k) refl h
    where
      by : (o : KerOp) → op_at k ≡ o → is_literal_op o ≡ true → has k ≡ false
      by (ker.Const v) q i = no_names_in_constant test k v q
      by o q i = absurd (false≢true i)

  index_has : (l : Let) (t : Ty) (rs : List Ty) (last : Bool) (k : Ker) → has (index_at l t rs last k) ≡ false
  index_has l t rs last k = by (is_literal k) refl
    where
      by : (c : Bool) → is_literal k ≡ c → has (if c then k else operand_at l t rs last k) ≡ false
      by true q = literal_has k q
      by false q = operand_has l t rs last k

  levels_have : (l : Let) (t : Ty) (rs : List Ty) (more : Bool) (ls : List Level) → any_has (map (λ l. l.index) (read_levels l t rs more ls)) ≡ false
  levels_have l t rs more [] = refl
  levels_have l t rs more (x ∷ xs) =
      ap₂ (λ (b c : Bool). b || c) (index_has l t (rs ++ x.rest ∷ []) (is_nil xs && not more) x.index) (levels_have l t (rs ++ x.rest ∷ []) more xs)

  read_indexed : (l : Let) (t : Ty) (rs : List Ty) (us : List Change) → Indexed us → Indexed (read_changes l t rs us)
  read_indexed l t rs [] h = tt
  read_indexed l t rs (u ∷ us) h = (by u.levels h.0, read_indexed l t (rs ++ map (λ x. x.rest) u.levels) us h.1)
    where
      by : (ls : List Level) → is_nil ls ≡ false → is_nil (read_levels l t rs (not (is_nil us)) ls) ≡ false
      by [] q = q
      by (x ∷ xs) q = refl

  changes_have : (l : Let) (t : Ty) (rs : List Ty) (us : List Change) → list_any change_has (read_changes l t rs us) ≡ list_any (λ (u : Change). ker_has test u.right) us
  changes_have l t rs [] = refl
  changes_have l t rs (u ∷ us) =
      ap₂ (λ (b c : Bool). (b || has u.right) || c) (levels_have l t rs (not (is_nil us)) u.levels) (changes_have l t (rs ++ map (λ x. x.rest) u.levels) us)

  -- indexes first, right sides behind them
  parted_have : (us : List Change) → (any_has (map (λ l. l.index) (all_levels us)) || list_any (λ (u : Change). ker_has test u.right) us) ≡ list_any change_has us
  parted_have [] = refl
  parted_have (u ∷ us) =
      ap (λ (b : Bool). b || (has u.right || list_any (λ (u : Change). ker_has test u.right) us))
      (ap any_has (map_append (λ (l : Level). l.index) u.levels (all_levels us)) ∙ any_both (map (λ l. l.index) u.levels) (map (λ l. l.index) (all_levels us)))
      ∙ or_four (any_has (map (λ l. l.index) u.levels)) (any_has (map (λ l. l.index) (all_levels us))) (has u.right) (list_any (λ (u : Change). ker_has test u.right) us)
      ∙ ap (λ (b : Bool). change_has u || b) (parted_have us)

  pub except_let_has : (p : Place) (l : Let) (t : Ty) (f : Ker) (us : List Change) → Indexed us → ker_has test (except_by_let p l t f us) ≡ (ker_has test f || list_any change_has us)
  except_let_has p l t f us h =
      let_has p l (pairs p t f (all_levels us)) (changed p l.type (operand_at l t [] false f) (read_changes l t [] us))
      ∙ ap₂ (λ (b c : Bool). b || c) (pairs_have p t f (all_levels us))
      (changed_has p l.type (operand_at l t [] false f) (read_changes l t [] us) (read_indexed l t [] us h)
      ∙ ap₂ (λ (b c : Bool). b || c) (operand_has l t [] false f) (changes_have l t [] us))
      ∙ or_assoc (has f) (any_has (map (λ l. l.index) (all_levels us))) (list_any (λ (u : Change). ker_has test u.right) us)
      ∙ ap (λ (b : Bool). has f || b) (parted_have us)
