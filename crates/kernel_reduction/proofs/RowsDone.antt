-- The trees that rows make, of children of the kinds that the type table asks: with the types that they carry they are
-- sound.
use Rattle.std.proofs.Common.{◌≡◌, ℕ, zero, suc, Bool, true, false, not, List, [], ◌∷◌, map, refl, sym, ◌∙◌, ap, subst, Some}
use Rattle.std.specs.Prelude.{nat_eq, option_map, option_and_then}
use Rattle.tla_meaning.specs.declared.place.Place.{Place}
use Rattle.snowcat_rows.specs.Types.{Term}
use Rattle.snowcat_rows.specs.declared.types.Ty.{Ty, Bool as bool_ty, Int, Set as set_ty}
use Rattle.snowcat_types.specs.TypeForms.{bool_type, int_type}
use Rattle.snowcat_types.specs.Rows.{branches, argument_type, plain as plain_operand}
use Rattle.kernel_trees.specs.declared.kernel.Ker.{Ker}
use Rattle.kernel_trees.specs.declared.kernel.KerOp.TheVariants as ker
use Rattle.kernel_trees.specs.TypeKinds.{Kind, Truth, Number, Set, Seq, Fun, Tup, kinds, kind_of, same}
use Rattle.kernel_trees.specs.Sound.{Context, argument_kind}
use Rattle.kernel_trees.proofs.SoundTrees.{Child}
use Rattle.kernel_trees.proofs.TypeLaws.{kind-Bool, kind-Int, kind-Set, kind-Seq, kind-Tup}
use Rattle.kernel_reduction.specs.Making.{pair_type, let_of}
use Rattle.kernel_reduction.specs.Rows.{node, number, truth, type_of, equivalence, single, small_power, large_power}
use Rattle.kernel_reduction.proofs.SoundMade.{Is, same_self, plain_is, number_is, truth_is, IsLetOf, equivalence_is, single_is}
use Rattle.kernel_reduction.proofs.SoundChanges.{small_power_is, large_power_is, ArmsAre}
use Rattle.kernel_reduction.proofs.KindsOf.{Of, AreOf, no_more, and_of, same_of, has_bool, has_tuple, is_truth, is_number}
use Rattle.kernel_reduction.proofs.SameRows.{types_of}
use Rattle.kernel_reduction.proofs.SoundForms.{AllAt, anywhere, plain_at}

pub let_types : (names : List Kind) (A B : Ty) (u n : ℕ) (a b : Kind) → kind_of A ≡ Some a → kind_of B ≡ Some b →
    not (nat_eq u n) ≡ true → IsLetOf names (let_of A B u n) a b
let_types names A B u n a b q r h = record {
  type = q;
  wholes = kind-Seq A ∙ ap (option_map Seq) q;
  items = kind-Seq B ∙ ap (option_map Seq) r;
  apart = h;
}

pub pair_kind : (A B : Ty) (a b : Kind) → kind_of A ≡ Some a → kind_of B ≡ Some b →
    kind_of (pair_type A B) ≡ Some (Tup (kinds (a ∷ b ∷ [])))
pair_kind A B a b q r =
    kind-Tup (A ∷ B ∷ [])
    ∙ (λ i. option_map (λ xs. Tup (kinds xs))
    (option_and_then (λ x. option_map (λ xs. x ∷ xs) (option_and_then (λ x. option_map (λ xs. x ∷ xs) (Some [])) (r i)))
    (q i)))

module _ (names : List Kind) where
  -- a tree of the kind of this type
  abbrev pub Out : Context → Bool → Term → Ker → Type 0
  Out c b x k = (a : Kind) × Of x a × Child names c b a k

  pub truth_out : (c : Context) (b : Bool) (x : Term) (k : Ker) → x ≡ bool_type → Is names c Truth k → Out c b x k
  truth_out c b x k e h = (Truth, subst (λ z. Of z Truth) (sym e) has_bool, anywhere names c b Truth k h)

  abbrev pub All : Context → List Kind → List Ker → Type 0
  All c as' ks = AllAt names (λ n. false) 0 c as' ks

  pub as_truth : (c : Context) (a : Kind) (k : Ker) → Of bool_type a → Child names c false a k → Is names c Truth k
  as_truth c a k h g = subst (λ z. Child names c false z k) (is_truth a h) g

  pub as_number : (c : Context) (a : Kind) (k : Ker) → Of int_type a → Child names c false a k → Is names c Number k
  as_number c a k h g = subst (λ z. Child names c false z k) (is_number a h) g

  pub equal_done : (x : Term) (c : Context) (p : Place) (ks : List Ker) (as' : List Kind) → AreOf (x ∷ x ∷ []) as' →
      All c as' ks → Is names c Truth (node p bool_ty ker.Equal ks)
  equal_done x c p ks _ (and_of _ a _ _ h (and_of _ b _ _ g no_more)) l =
      plain_at names c false p bool_ty ker.Equal (a ∷ b ∷ []) ks [] Truth refl refl kind-Bool
      (ap (same a) (same_of x b a g h) ∙ same_self a) (along ks l)
    where
      along : (ks : List Ker) → All c (a ∷ b ∷ []) ks → AllAt names (λ n. false) 0 c (a ∷ b ∷ []) ks
      along ks l = l

  pub less_done : (c : Context) (p : Place) (k l : Ker) → Is names c Number k → Is names c Number l →
      Is names c Truth (node p bool_ty ker.Less (k ∷ l ∷ []))
  less_done c p k l h g =
      plain_is names c p bool_ty ker.Less (Number ∷ Number ∷ []) (k ∷ l ∷ []) [] Truth (λ ps. refl) (λ n. refl) refl
      kind-Bool refl (h, (g, tt))

  pub minus_done : (c : Context) (p : Place) (k : Ker) → Is names c Number k →
      Is names c Number (node p Int ker.Minus (number p Int 0 ∷ k ∷ []))
  minus_done c p k h =
      plain_is names c p Int ker.Minus (Number ∷ Number ∷ []) (number p Int 0 ∷ k ∷ []) [] Number (λ ps. refl) (λ n. refl)
      refl kind-Int refl (number_is names c p Int 0 kind-Int, (h, tt))

  pub truths_done : (c : Context) (p : Place) (t : Ty) → kind_of t ≡ Some (Set Truth) →
      Is names c (Set Truth) (node p t ker.SetOf (truth p bool_ty false ∷ truth p bool_ty true ∷ []))
  truths_done c p t q =
      plain_is names c p t ker.SetOf (Truth ∷ Truth ∷ []) (truth p bool_ty false ∷ truth p bool_ty true ∷ []) []
      (Set Truth) (λ ps. refl) (λ n. refl) refl q refl
      (truth_is names c p bool_ty false kind-Bool, (truth_is names c p bool_ty true kind-Bool, tt))

  pub equivalence_done : (c : Context) (p : Place) (u n : ℕ) (k m : Ker) → not (nat_eq u n) ≡ true →
      Is names c Truth k → Is names c Truth m →
      Is names c Truth
      (equivalence p (let_of bool_ty (pair_type (type_of k) (type_of m)) u n) (pair_type (type_of k) (type_of m)) k m)
  equivalence_done c p u n k m l h g =
      let r = pair_kind (type_of k) (type_of m) Truth Truth h.0 g.0 in
      equivalence_is names c p (let_of bool_ty (pair_type (type_of k) (type_of m)) u n)
      (pair_type (type_of k) (type_of m)) k m Truth Truth Truth r
      (let_types names bool_ty (pair_type (type_of k) (type_of m)) u n Truth (Tup (kinds (Truth ∷ Truth ∷ []))) kind-Bool r l)
      h g refl refl refl

  pub single_done : (c : Context) (p : Place) (t : Ty) (u n z : ℕ) (k m : Ker) (a b : Kind) →
      kind_of t ≡ Some (Fun a b) → not (nat_eq u n) ≡ true → nat_eq n z ≡ false → Is names c a k → Is names c b m →
      Is names c (Fun a b)
      (single p (let_of t (pair_type (type_of k) (type_of m)) u n) (pair_type (type_of k) (type_of m))
      (set_ty (type_of k)) z k m)
  single_done c p t u n z k m a b q l d h g =
      let r = pair_kind (type_of k) (type_of m) a b h.0 g.0 in
      single_is names c p (let_of t (pair_type (type_of k) (type_of m)) u n) (pair_type (type_of k) (type_of m)) k m
      (Fun a b) a b r
      (let_types names t (pair_type (type_of k) (type_of m)) u n (Fun a b) (Tup (kinds (a ∷ b ∷ []))) q r l) h g
      (set_ty (type_of k)) z refl (kind-Set (type_of k) ∙ ap (option_map Set) h.0) d

  pub power_done : (c : Context) (p : Place) (t : Ty) (u n j : ℕ) (k : Ker) → kind_of t ≡ Some Number →
      not (nat_eq u n) ≡ true → Is names c Number k →
      Is names c Number (small_power p (let_of t (type_of k) u n) bool_ty k j)
  power_done c p t u n j k q l h =
      small_power_is names c p (let_of t (type_of k) u n) bool_ty k j
      (let_types names t (type_of k) u n Number Number q h.0 l) kind-Bool h

  pub high_power_done : (c : Context) (p : Place) (t : Ty) (u n j : ℕ) (k m : Ker) → kind_of t ≡ Some Number →
      not (nat_eq u n) ≡ true → Is names c Number k → Is names c Number m →
      Is names c Number
      (large_power p (let_of t (pair_type (type_of k) (type_of m)) u n) (pair_type (type_of k) (type_of m)) bool_ty k m j)
  high_power_done c p t u n j k m q l h g =
      let r = pair_kind (type_of k) (type_of m) Number Number h.0 g.0 in
      large_power_is names c p (let_of t (pair_type (type_of k) (type_of m)) u n) (pair_type (type_of k) (type_of m))
      bool_ty k m j r
      (let_types names t (pair_type (type_of k) (type_of m)) u n Number (Tup (kinds (Number ∷ Number ∷ []))) q r l)
      kind-Bool h g

  -- ---- CASE

  pub arms_done : (x : Term) (a : Kind) (i n : ℕ) (c : Context) (ks : List Ker) (as' : List Kind) → Of x a →
      AreOf (types_of (map plain_operand (branches x n))) as' → AllAt names (λ n. false) i c as' ks → ArmsAre names c a ks
  arms_done x a i zero c [] _ h no_more l = tt
  arms_done x a i zero c (k ∷ ks) _ h no_more l = absurd l
  arms_done x a i (suc zero) c [] _ h (and_of _ b _ _ g no_more) l = absurd l
  arms_done x a i (suc zero) c (k ∷ []) _ h (and_of _ b _ _ g no_more) l =
      subst (λ z. Child names c false z k) (same_of x b a g h) l.0
  arms_done x a i (suc zero) c (k ∷ m ∷ ks) _ h (and_of _ b _ _ g no_more) l = absurd l.1
  arms_done x a i (suc (suc n)) c [] _ h (and_of _ b _ _ g (and_of _ d _ as' f r)) l = absurd l
  arms_done x a i (suc (suc n)) c (k ∷ []) _ h (and_of _ b _ _ g (and_of _ d _ as' f r)) l = absurd l.1
  arms_done x a i (suc (suc n)) c (k ∷ m ∷ ks) _ h (and_of _ b _ _ g (and_of _ d _ as' f r)) l = (
    as_truth c b k g l.0,
    subst (λ z. Child names c false z m) (same_of x d a f h) l.1.0,
    arms_done x a (suc (suc i)) n c ks as' h r l.1.1,
  )

  -- ---- binders

  pub argument_done : (xs : List Term) (as' : List Kind) → AreOf xs as' → Of (argument_type xs) (argument_kind as')
  argument_done _ _ no_more = has_tuple [] [] no_more
  argument_done _ _ (and_of x a _ _ h no_more) = h
  argument_done _ _ (and_of x a _ _ h (and_of y b xs as' g r)) =
      has_tuple (x ∷ y ∷ xs) (a ∷ b ∷ as') (and_of x a (y ∷ xs) (b ∷ as') h (and_of y b xs as' g r))
