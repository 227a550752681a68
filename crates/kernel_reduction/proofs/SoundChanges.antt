-- Powers, updates and CASE: the trees that rows make are sound, if their operands are and the types of the nodes that are
-- made say what they should.
use Rattle.std.proofs.Common.{◌≡◌, ℕ, zero, suc, Bool, true, false, ◌&&◌, ◌||◌, true≢false, List, [], ◌∷◌, ◌++◌, map, refl, ◌∙◌, ap, subst, Option, Some, None, if◌then◌else◌}
use Rattle.std.specs.Prelude.{option_and_then}
use Rattle.tla_meaning.specs.declared.place.Place.{Place}
use Rattle.tla_meaning.proofs.Views.{and_both, false≢true}
use Rattle.snowcat_rows.specs.declared.types.Ty.{Ty}
use Rattle.kernel_trees.specs.declared.kernel.Ker.{Ker}
use Rattle.kernel_trees.specs.declared.kernel.KerOp.TheVariants as ker
use Rattle.kernel_trees.specs.TypeKinds.{Kind, Truth, Number, Tup, kinds, kind_of, is_kind, each_is}
use Rattle.kernel_trees.specs.Sound.{Context, kind_at, kind_in, literal_of, passes, sound, updated_kind}
use Rattle.kernel_reduction.specs.Rows.{tree, node, number, negation, bound, item, pairs, place_of, type_of, op_at, is_nil, Let, named_one, named_first, product, tested, power_body, small_power, large_power, Level, Change, changed_at, changed, behind, operand_at, nested_ifs, twice_negated, case_branches, split_case, guard_of, may_assign}
use Rattle.kernel_trees.specs.Paths.{is_end}
use Rattle.kernel_trees.proofs.Reading.{nat_same}
use Rattle.kernel_trees.proofs.SoundWider.{kind_append}
use Rattle.tla_meaning.specs.Scopes.{or_else}
use Rattle.kernel_reduction.proofs.SoundMade.{Is, AllAre, made, plain_is, number_is, bound_is, negation_is, pair_is, item_is, if_is, kind_so, IsLetOf, let_context, let_is, named_there, first_is, by_pair}

-- several in pairs: the first, and a pair of the others
abbrev pub nested_kind : List Kind → Kind
nested_kind [] = Truth
nested_kind (a ∷ []) = a
nested_kind (a ∷ b ∷ as') = Tup (kinds (a ∷ nested_kind (b ∷ as') ∷ []))

module _ (names : List Kind) where
  -- ---- powers

  product_is : (c : Context) (p : Place) (a : Ty) (y : Ker) (n : ℕ) → kind_of a ≡ Some Number → Is names c Number y →
      Is names c Number (product p a y n)
  product_is c p a y zero q h = h
  product_is c p a y (suc n) q h =
      plain_is names c p a ker.Times (Number ∷ Number ∷ []) (product p a y n ∷ y ∷ []) [] Number (λ ps. refl)
      (λ n. refl) refl q refl (product_is c p a y n q h, (h, tt))

  tested_is : (c : Context) (p : Place) (a b : Ty) (x y z : Ker) → kind_of a ≡ Some Number → kind_of b ≡ Some Truth →
      Is names c Number x → Is names c Number y → Is names c Number z → Is names c Number (tested p a b x y z)
  tested_is c p a b x y z q r h i j =
      if_is names c p a (node p b ker.Less (x ∷ y ∷ [])) z z Number q
      (plain_is names c p b ker.Less (Number ∷ Number ∷ []) (x ∷ y ∷ []) [] Truth (λ ps. refl) (λ n. refl) refl r refl
      (h, (i, tt))) j j

  power_body_is : (c : Context) (p : Place) (a b : Ty) (y : Ker) (n : ℕ) → kind_of a ≡ Some Number →
      kind_of b ≡ Some Truth → Is names c Number y →
      Is names c Number (power_body p a b y n)
  power_body_is c p a b y zero q r h = tested_is c p a b y y (number p a 1) q r h h (number_is names c p a 1 q)
  power_body_is c p a b y (suc zero) q r h =
      tested_is c p a b (node p a ker.Times (number p a 1 ∷ y ∷ [])) y y q r
      (plain_is names c p a ker.Times (Number ∷ Number ∷ []) (number p a 1 ∷ y ∷ []) [] Number (λ ps. refl)
      (λ n. refl) refl q refl (number_is names c p a 1 q, (h, tt))) h h
  power_body_is c p a b y (suc (suc n)) q r h = product_is c p a y (suc n) q h

  pub small_power_is : (c : Context) (p : Place) (l : Let) (b : Ty) (k : Ker) (n : ℕ) → IsLetOf names l Number Number →
      kind_of b ≡ Some Truth → Is names c Number k →
      Is names c Number (small_power p l b k n)
  small_power_is c p l b k n q r h =
      let_is names c p l k (power_body p l.type b (named_one l k) n) Number Number q h
      (power_body_is (let_context names c l Number Number) p l.type b (named_one l k) n q.type r
      (bound_is names (let_context names c l Number Number) (place_of k) (type_of k) l.named Number h.0
      (named_there names c l Number Number)))

  pub large_power_is : (c : Context) (p : Place) (l : Let) (ty b : Ty) (k m : Ker) (n : ℕ) →
      kind_of ty ≡ Some (Tup (kinds (Number ∷ Number ∷ []))) →
      IsLetOf names l Number (Tup (kinds (Number ∷ Number ∷ []))) → kind_of b ≡ Some Truth → Is names c Number k →
      Is names c Number m →
      Is names c Number (large_power p l ty b k m n)
  large_power_is c p l ty b k m n e q r h g =
      by_pair names c p l ty k m Number Number Number e q h g (power_body p l.type b (named_first l ty k) n)
      (power_body_is (let_context names c l Number (Tup (kinds (Number ∷ Number ∷ [])))) p l.type b
      (named_first l ty k) n q.type r
      (first_is names l ty (let_context names c l Number (Tup (kinds (Number ∷ Number ∷ [])))) Number Number e
      (named_there names c l Number (Tup (kinds (Number ∷ Number ∷ [])))) k h.0))

  -- ---- updates

  pub update_is : (c : Context) (p : Place) (t : Ty) (f i e : Ker) (x : ℕ) (a j d : Kind) → kind_of t ≡ Some a →
      Is names c a f → Is names c j i →
      updated_kind a j (literal_of (op_at i)) ≡ Some d → Is names (c ++ (x, d) ∷ []) d e →
      Is names c a (tree p t ker.Update (f ∷ i ∷ e ∷ []) (x ∷ []))
  update_is c p t f i e x a j d q h g u k =
      made names c p t ker.Update (f ∷ i ∷ e ∷ []) (x ∷ []) a q
      (and_both (is_kind a (kind_at f) && (sound names f c false && sound names i c false))
      (passes (λ b. is_kind b (kind_at e) && sound names e (c ++ (x, b) ∷ []) false)
      (option_and_then (λ k. updated_kind a k (literal_of (op_at i))) (kind_at i)))
      (and_both (is_kind a (kind_at f)) (sound names f c false && sound names i c false) (kind_so names c a f h)
      (and_both (sound names f c false) (sound names i c false) h.1 g.1))
      (ap (λ o. passes (λ b. is_kind b (kind_at e) && sound names e (c ++ (x, b) ∷ []) false)
      (option_and_then (λ k. updated_kind a k (literal_of (op_at i))) o)) g.0
      ∙ ap (passes (λ b. is_kind b (kind_at e) && sound names e (c ++ (x, b) ∷ []) false)) u
      ∙ and_both (is_kind d (kind_at e)) (sound names e (c ++ (x, d) ∷ []) false)
      (kind_so names (c ++ (x, d) ∷ []) d e k) k.1))

  -- an update along a path of a value of kind a: each index leads to a kind, the last one to that of the right side
  abbrev pub PathIs : Context → Kind → List Level → Ker → Type 0
  PathIs c a [] e = ⊥
  PathIs c a (l ∷ []) e =
      (j : Kind) × (d : Kind) × Is names c j l.index ×
      (updated_kind a j (literal_of (op_at l.index)) ≡ Some d) × Is names (c ++ (l.number, d) ∷ []) d e
  PathIs c a (l ∷ m ∷ ls) e =
      (j : Kind) × (d : Kind) × Is names c j l.index × (updated_kind a j (literal_of (op_at l.index)) ≡ Some d) ×
      (kind_of l.inner ≡ Some d)
      × PathIs (c ++ (l.number, d) ∷ []) d (m ∷ ls) e

  pub changed_at_is : (c : Context) (p : Place) (t : Ty) (f : Ker) (ls : List Level) (e : Ker) (a : Kind) →
      kind_of t ≡ Some a → Is names c a f →
      PathIs c a ls e → Is names c a (changed_at p t f ls e)
  changed_at_is c p t f [] e a q h g = absurd g
  changed_at_is c p t f (l ∷ []) e a q h g = update_is c p t f l.index e l.number a g.0 g.1 q h g.2 g.3 g.4
  changed_at_is c p t f (l ∷ m ∷ ls) e a q h g =
      let d : Kind = g.1 in
      let z : Context = c ++ (l.number, d) ∷ [] in
      update_is c p t f l.index
      (changed_at p l.inner (bound p l.inner l.number) (m ∷ ls) e) l.number a g.0 d q h g.2 g.3
      (changed_at_is z p l.inner (bound p l.inner l.number) (m ∷ ls) e d g.4
      (bound_is names z p l.inner l.number d g.4 (one_there c l.number d)) g.5)
    where
      one_there : (c : Context) (n : ℕ) (d : Kind) → kind_in (c ++ (n, d) ∷ []) n ≡ Some d
      one_there c n d =
          kind_append c ((n, d) ∷ []) n
          ∙ ap (λ b. or_else (or_else None (if b then Some d else None)) (kind_in c n)) (nat_same n)

  abbrev pub ChangesAre : Context → Kind → List Change → Type 0
  ChangesAre c a [] = Unit {0}
  ChangesAre c a (u ∷ us) = PathIs c a u.levels u.right × ChangesAre c a us

  pub changed_is : (c : Context) (p : Place) (t : Ty) (f : Ker) (us : List Change) (a : Kind) → kind_of t ≡ Some a →
      Is names c a f → ChangesAre c a us →
      Is names c a (changed p t f us)
  changed_is c p t f [] a q h g = h
  changed_is c p t f (u ∷ us) a q h g =
      changed_is c p t (changed_at p t f u.levels u.right) us a q (changed_at_is c p t f u.levels u.right a q h g.0) g.1

  -- ---- operands in pairs

  -- the indexes have these kinds, and what begins with each has that of the pairs of it and those behind it
  abbrev pub IndexesAre : Context → List Level → List Kind → Type 0
  IndexesAre c [] [] = Unit {0}
  IndexesAre c (l ∷ ls) (a ∷ as') =
      Is names c a l.index × (kind_of l.rest ≡ Some (nested_kind (a ∷ as'))) × IndexesAre c ls as'
  IndexesAre c ls as' = ⊥

  pub pairs_are : (c : Context) (p : Place) (t : Ty) (k : Ker) (ls : List Level) (a : Kind) (as' : List Kind) →
      kind_of t ≡ Some (nested_kind (a ∷ as')) →
      Is names c a k → IndexesAre c ls as' → Is names c (nested_kind (a ∷ as')) (pairs p t k ls)
  pairs_are c p t k [] a [] q h g = h
  pairs_are c p t k [] a (b ∷ as') q h g = absurd g
  pairs_are c p t k (l ∷ ls) a [] q h g = absurd g
  pairs_are c p t k (l ∷ ls) a (b ∷ as') q h g =
      pair_is names c p t k (pairs p l.rest l.index ls) a (nested_kind (b ∷ as')) q h
      (pairs_are c p l.rest l.index ls b as' g.1 g.0 g.2)

  nested_more : (a : Kind) (as' : List Kind) → is_nil as' ≡ false →
      nested_kind (a ∷ as') ≡ Tup (kinds (a ∷ nested_kind as' ∷ []))
  nested_more a [] h = absurd (true≢false h)
  nested_more a (b ∷ as') h = refl

  not_nil : {X : Type 0} (xs ys : List X) → is_nil ys ≡ false → is_nil (xs ++ ys) ≡ false
  not_nil [] ys h = h
  not_nil (x ∷ xs) ys h = refl

  -- types of what follows each of some operands
  abbrev pub RestsAre : List Ty → List Kind → List Kind → Type 0
  RestsAre [] [] as' = Unit {0}
  RestsAre (r ∷ rs) (b ∷ bs) as' = (kind_of r ≡ Some (nested_kind (bs ++ as'))) × RestsAre rs bs as'
  RestsAre rs bs as' = ⊥

  behind_is : (c : Context) (q : Place) (y : Ker) (rs : List Ty) (bs as' : List Kind) → RestsAre rs bs as' →
      is_nil as' ≡ false →
      Is names c (nested_kind (bs ++ as')) y → Is names c (nested_kind as') (behind q y rs)
  behind_is c q y [] [] as' r n h = h
  behind_is c q y [] (b ∷ bs) as' r n h = absurd r
  behind_is c q y (x ∷ rs) [] as' r n h = absurd r
  behind_is c q y (x ∷ rs) (b ∷ bs) as' r n h =
      behind_is c q (item q x 2 y) rs bs as' r.1 n
      (item_is names c q x 2 y (kinds (b ∷ nested_kind (bs ++ as') ∷ [])) (nested_kind (bs ++ as')) r.0 refl
      (subst (λ z. Is names c z y) (nested_more b (bs ++ as') (not_nil bs as' n)) h))

  -- an operand, read from what is named, where some kinds stand before it and some behind it
  pub operand_is : (c : Context) (l : Let) (t : Ty) (rs : List Ty) (last : Bool) (k : Ker) (bs : List Kind) (a : Kind)
      (as' : List Kind) →
      kind_of t ≡ Some (nested_kind (bs ++ a ∷ as')) → kind_in c l.named ≡ Some (nested_kind (bs ++ a ∷ as')) →
      RestsAre rs bs (a ∷ as') → is_nil as' ≡ last →
      kind_at k ≡ Some a → Is names c a (operand_at l t rs last k)
  operand_is c l t rs last k bs a as' q h r n e = by last n
    where
      left : Is names c (nested_kind (a ∷ as')) (behind (place_of k) (bound (place_of k) t l.named) rs)
      left = behind_is c (place_of k) (bound (place_of k) t l.named) rs bs (a ∷ as') r refl
          (bound_is names c (place_of k) t l.named _ q h)

      alone : (as' : List Kind) → is_nil as' ≡ true → nested_kind (a ∷ as') ≡ a
      alone [] h = refl
      alone (b ∷ as') h = absurd (false≢true h)

      by : (b : Bool) → is_nil as' ≡ b → Is names c a (operand_at l t rs b k)
      by true n = subst (λ z. Is names c z (behind (place_of k) (bound (place_of k) t l.named) rs)) (alone as' n) left
      by false n =
          item_is names c (place_of k) (type_of k) 1 (behind (place_of k) (bound (place_of k) t l.named) rs)
          (kinds (a ∷ nested_kind as' ∷ [])) a e refl
          (subst (λ z. Is names c z (behind (place_of k) (bound (place_of k) t l.named) rs)) (nested_more a as' n) left)

  -- ---- CASE and IF

  abbrev pub ArmsAre : Context → Kind → List Ker → Type 0
  ArmsAre c a [] = Unit {0}
  ArmsAre c a (k ∷ []) = Is names c a k
  ArmsAre c a (g ∷ k ∷ ks) = Is names c Truth g × Is names c a k × ArmsAre c a ks

  pub nested_ifs_are : (c : Context) (p : Place) (t : Ty) (a : Kind) (ks : List Ker) → kind_of t ≡ Some a →
      ArmsAre c a ks → Is names c a (nested_ifs p t ks)
  nested_ifs_are c p t a [] q h = plain_is names c p t ker.NoCase [] [] [] a (λ ps. refl) (λ n. refl) refl q refl tt
  nested_ifs_are c p t a (k ∷ []) q h = h
  nested_ifs_are c p t a (g ∷ k ∷ ks) q h =
      if_is names c p t g k (nested_ifs p t ks) a q h.0 h.1 (nested_ifs_are c p t a ks q h.2)

  twice_negated_is : (c : Context) (p : Place) (t : Ty) (g : Ker) → kind_of t ≡ Some Truth → Is names c Truth g →
      Is names c Truth (twice_negated p t g)
  twice_negated_is c p t g q h = negation_is names c p t (negation p t g) q (negation_is names c p t g q h)

  pub guard_is : (c : Context) (p : Place) (t : Ty) (g : Ker) → kind_of t ≡ Some Truth → Is names c Truth g →
      Is names c Truth (guard_of p t g)
  guard_is c p t g q h = by (may_assign (op_at g) || is_end (op_at g))
    where
      by : (b : Bool) → Is names c Truth (if b then twice_negated p t g else g)
      by true = twice_negated_is c p t g q h
      by false = h

  -- truth values
  abbrev pub Truths : Context → List Ker → Type 0
  Truths c [] = Unit {0}
  Truths c (k ∷ ks) = Is names c Truth k × Truths c ks

  truths_plus : (c : Context) (ks ls : List Ker) → Truths c ks → Truths c ls → Truths c (ks ++ ls)
  truths_plus c [] ls h g = g
  truths_plus c (k ∷ ks) ls h g = (h.0, truths_plus c ks ls h.1 g)

  truths_off : (c : Context) (p : Place) (t : Ty) (ks : List Ker) → kind_of t ≡ Some Truth → Truths c ks →
      Truths c (map (negation p t) ks)
  truths_off c p t [] q h = tt
  truths_off c p t (k ∷ ks) q h = (negation_is names c p t k q h.0, truths_off c p t ks q h.1)

  abbrev all_truths : List Ker → List Kind
  all_truths [] = []
  all_truths (k ∷ ks) = Truth ∷ all_truths ks

  truths_are : (c : Context) (ks : List Ker) → Truths c ks → AllAre names c (all_truths ks) ks
  truths_are c [] h = tt
  truths_are c (k ∷ ks) h = (h.0, truths_are c ks h.1)

  each_truth : (ks : List Ker) → each_is Truth (all_truths ks) ≡ true
  each_truth [] = refl
  each_truth (k ∷ ks) = each_truth ks

  and_is : (c : Context) (p : Place) (t : Ty) (ks : List Ker) → kind_of t ≡ Some Truth → Truths c ks →
      Is names c Truth (node p t ker.And ks)
  and_is c p t ks q h =
      plain_is names c p t ker.And (all_truths ks) ks [] Truth (λ ps. refl) (λ n. refl) refl q (each_truth ks)
      (truths_are c ks h)

  -- the guards and branches of a CASE that is split
  abbrev pub SplitArms : Context → List (Ker × Ker) → Option Ker → Type 0
  SplitArms c [] None = Unit {0}
  SplitArms c [] (Some o) = Is names c Truth o
  SplitArms c (x ∷ xs) o = Is names c Truth x.0 × Is names c Truth x.1 × SplitArms c xs o

  branches_are : (c : Context) (p : Place) (t : Ty) (front : List Ker) (xs : List (Ker × Ker)) (o : Option Ker) →
      kind_of t ≡ Some Truth → Truths c front →
      SplitArms c xs o → Truths c (case_branches p t front xs o)
  branches_are c p t front [] None q f h = (
    and_is c p t (map (negation p t) front ++ node p t ker.NoCase [] ∷ []) q
        (truths_plus c (map (negation p t) front) (node p t ker.NoCase [] ∷ []) (truths_off c p t front q f)
        (plain_is names c p t ker.NoCase [] [] [] Truth (λ ps. refl) (λ n. refl) refl q refl tt, tt)),
    tt,
  )
  branches_are c p t front [] (Some o) q f h = (
    and_is c (place_of o) t (map (negation p t) front ++ o ∷ []) q
        (truths_plus c (map (negation p t) front) (o ∷ []) (truths_off c p t front q f) (h, tt)),
    tt,
  )
  branches_are c p t front (x ∷ xs) o q f h = (
    and_is c (place_of x.1) t (map (negation p t) front ++ twice_negated p t x.0 ∷ x.1 ∷ []) q
        (truths_plus c (map (negation p t) front) (twice_negated p t x.0 ∷ x.1 ∷ []) (truths_off c p t front q f)
        (twice_negated_is c p t x.0 q h.0, (h.1, tt))),
    branches_are c p t (front ++ x.0 ∷ []) xs o q (truths_plus c front (x.0 ∷ []) f (h.0, tt)) h.2,
  )

  pub split_case_is : (c : Context) (p : Place) (t : Ty) (xs : List (Ker × Ker)) (o : Option Ker) →
      kind_of t ≡ Some Truth → SplitArms c xs o →
      Is names c Truth (split_case p t xs o)
  split_case_is c p t xs o q h =
      let bs : List Ker = case_branches p t [] xs o in
      plain_is names c p t ker.Or (all_truths bs) bs [] Truth (λ ps. refl) (λ n. refl) refl q (each_truth bs)
      (truths_are c bs (branches_are c p t [] xs o q tt h))
