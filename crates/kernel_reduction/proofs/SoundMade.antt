-- The trees that rows make are sound, if their operands are and the types of the nodes that are made say what they
-- should.
use Rattle.std.proofs.Common.{◌≡◌, ℕ, suc, Bool, true, false, not, ◌&&◌, ◌||◌, List, [], ◌∷◌, ◌++◌, pos, refl, sym, ◌∙◌, ap, subst, Some, None, if◌then◌else◌}
use Rattle.std.specs.Prelude.{nat_eq, option_map, option_and_then}
use Rattle.std.specs.Ordering.{is_eq}
use Rattle.tla_values.specs.Order.{text_cmp}
use Rattle.tla_values.specs.declared.value.Value.TheVariants as value
use Rattle.tla_meaning.specs.declared.place.Place.{Place}
use Rattle.tla_meaning.specs.Scopes.{or_else}
use Rattle.tla_meaning.proofs.Views.{and_both}
use Rattle.snowcat_rows.specs.declared.types.Ty.{Ty}
use Rattle.kernel_trees.specs.declared.kernel.Ker.{Ker, out-roll-Ker}
use Rattle.kernel_trees.specs.declared.kernel.Ker.TheOpen.{Ker-F}
use Rattle.kernel_trees.specs.declared.kernel.KerOp.{KerOp}
use Rattle.kernel_trees.specs.declared.kernel.KerOp.TheVariants as ker
use Rattle.kernel_trees.specs.TypeKinds.{Kind, Kinds, Fields, Truth, Number, Word, Set, Seq, Fun, Tup, Rec, no_kinds, more_kinds, no_fields, more_fields, kinds, kind_of, same, all_same, fields_same, is_kind, item_kind, members}
use Rattle.kernel_trees.specs.Sound.{Context, Part, binder, binder_body, binder_row, is_literal, item_of, kind_at, kind_in, passes, row, is_infinite, form_child, kinds_at, children, plain, sound_at, sound}
use Rattle.kernel_trees.proofs.Steps.{same_text_same}
use Rattle.kernel_trees.proofs.Reading.{nat_same}
use Rattle.kernel_trees.proofs.SoundNodes.{with_asked, sound-roll}
use Rattle.kernel_trees.proofs.SoundTrees.{Child}
use Rattle.kernel_trees.proofs.SoundWider.{Agree, kind_append, sound_wider}
use Rattle.kernel_reduction.specs.Rows.{tree, node, number, truth, bound, negation, item, pair, place_of, type_of, Let, let_in, named_first, named_second, implication, equivalence, single, item_by_let}
use Rattle.kernel_reduction.specs.Builds.{is_let}
use Rattle.kernel_reduction.proofs.Tying.{not_true}

-- ---- equal kinds

mutual
  pub same_self : (a : Kind) → same a a ≡ true
  same_self Truth = refl
  same_self Number = refl
  same_self (Word x) = same_text_same x
  same_self (Set a) = same_self a
  same_self (Seq a) = same_self a
  same_self (Fun a b) = and_both (same a a) (same b b) (same_self a) (same_self b)
  same_self (Tup as') = all_self as'
  same_self (Rec fs) = fields_self fs

  pub all_self : (as' : Kinds) → all_same as' as' ≡ true
  all_self no_kinds = refl
  all_self (more_kinds a as') = and_both (same a a) (all_same as' as') (same_self a) (all_self as')

  pub fields_self : (fs : Fields) → fields_same fs fs ≡ true
  fields_self no_fields = refl
  fields_self (more_fields x a fs) =
      and_both (is_eq (text_cmp x x)) (same a a && fields_same fs fs) (same_text_same x)
      (and_both (same a a) (fields_same fs fs) (same_self a) (fields_self fs))

-- ---- nodes

module _ (names : List Kind) where
  -- a value of this kind in the context
  abbrev pub Is : Context → Kind → Ker → Type 0
  Is c a k = Child names c false a k

  abbrev pub AllAre : Context → List Kind → List Ker → Type 0
  AllAre c [] [] = Unit {0}
  AllAre c (a ∷ as') (k ∷ ks) = Is c a k × AllAre c as' ks
  AllAre c as' ks = ⊥

  pub made : (c : Context) (p : Place) (t : Ty) (o : KerOp) (ks : List Ker) (xs : List ℕ) (a : Kind) →
      kind_of t ≡ Some a →
      sound_at names o a xs (with_asked names ks) c false ≡ true → Is c a (tree p t o ks xs)
  made c p t o ks xs a q h = (
    ap (λ (x : Ker-F Ker). kind_of x.ty) (out-roll-Ker (record { place = p; ty = t; op = o; args = ks; binds = xs }))
        ∙ q,
    sound-roll names (record { place = p; ty = t; op = o; args = ks; binds = xs }) c false
        ∙ ap (passes (λ a. sound_at names o a xs (with_asked names ks) c false)) q ∙ h,
  )

  kinds_there : (c : Context) (as' : List Kind) (ks : List Ker) → AllAre c as' ks →
      kinds_at (with_asked names ks) ≡ Some as'
  kinds_there c [] [] h = refl
  kinds_there c [] (k ∷ ks) h = absurd h
  kinds_there c (a ∷ as') [] h = absurd h
  kinds_there c (a ∷ as') (k ∷ ks) h =
      ap (option_and_then (λ x. option_map (λ xs. x ∷ xs) (kinds_at (with_asked names ks)))) h.0.0
      ∙ ap (option_map (λ xs. a ∷ xs)) (kinds_there c as' ks h.1)

  children_there : (c : Context) (o : KerOp) → ((n : ℕ) → form_child o n false ≡ false) →
      (n : ℕ) (as' : List Kind) (ks : List Ker) → AllAre c as' ks →
      children o n c false (with_asked names ks) ≡ true
  children_there c o f n [] [] h = refl
  children_there c o f n [] (k ∷ ks) h = absurd h
  children_there c o f n (a ∷ as') [] h = absurd h
  children_there c o f n (a ∷ as') (k ∷ ks) h =
      and_both (sound names k c (form_child o n false)) (children o (suc n) c false (with_asked names ks))
      (ap (sound names k c) (f n) ∙ h.0.1) (children_there c o f (suc n) as' ks h.1)

  -- a node that binds nothing, of values alone
  pub plain_is : (c : Context) (p : Place) (t : Ty) (o : KerOp) (as' : List Kind) (ks : List Ker) (xs : List ℕ)
      (a : Kind) →
      ((ps : List Part) → sound_at names o a xs ps c false ≡ plain o a c false ps) →
      ((n : ℕ) → form_child o n false ≡ false) → is_infinite o ≡ false →
      kind_of t ≡ Some a → row o a as' ≡ true → AllAre c as' ks → Is c a (tree p t o ks xs)
  plain_is c p t o as' ks xs a s f i q r h =
      made c p t o ks xs a q
      (s (with_asked names ks)
      ∙ and_both (passes (row o a) (kinds_at (with_asked names ks)) && (not (is_infinite o) || false))
      (children o 0 c false (with_asked names ks))
      (and_both (passes (row o a) (kinds_at (with_asked names ks))) (not (is_infinite o) || false)
      (ap (passes (row o a)) (kinds_there c as' ks h) ∙ r) (ap (λ b. not b || false) i))
      (children_there c o f 0 as' ks h))

  -- ---- literals, bound numbers, negations

  pub number_is : (c : Context) (p : Place) (t : Ty) (n : ℕ) → kind_of t ≡ Some Number → Is c Number (number p t n)
  number_is c p t n q =
      plain_is c p t (ker.Const (value.Int (pos n))) [] [] [] Number (λ ps. refl) (λ n. refl) refl q
      (ap (is_literal Number) (value.outs-Int (pos n))) tt

  pub truth_is : (c : Context) (p : Place) (t : Ty) (b : Bool) → kind_of t ≡ Some Truth → Is c Truth (truth p t b)
  truth_is c p t b q =
      plain_is c p t (ker.Const (value.Bool b)) [] [] [] Truth (λ ps. refl) (λ n. refl) refl q
      (ap (is_literal Truth) (value.outs-Bool b)) tt

  pub bound_is : (c : Context) (p : Place) (t : Ty) (n : ℕ) (a : Kind) → kind_of t ≡ Some a → kind_in c n ≡ Some a →
      Is c a (bound p t n)
  bound_is c p t n a q h = made c p t (ker.Bound n) [] [] a q (ap (is_kind a) h ∙ same_self a)

  pub negation_is : (c : Context) (p : Place) (t : Ty) (k : Ker) → kind_of t ≡ Some Truth → Is c Truth k →
      Is c Truth (negation p t k)
  negation_is c p t k q h =
      plain_is c p t ker.Not (Truth ∷ []) (k ∷ []) [] Truth (λ ps. refl) (λ n. refl) refl q refl (h, tt)

  pub implication_is : (c : Context) (p : Place) (t : Ty) (k l : Ker) → kind_of t ≡ Some Truth → Is c Truth k →
      Is c Truth l → Is c Truth (implication p t k l)
  implication_is c p t k l q h g =
      negation_is c p t (node p t ker.And (k ∷ negation p t l ∷ [])) q
      (plain_is c p t ker.And (Truth ∷ Truth ∷ []) (k ∷ negation p t l ∷ []) [] Truth (λ ps. refl)
      (λ n. refl) refl q refl (h, (negation_is c p t l q g, tt)))

  pub pair_is : (c : Context) (p : Place) (t : Ty) (k l : Ker) (a b : Kind) →
      kind_of t ≡ Some (Tup (kinds (a ∷ b ∷ []))) → Is c a k → Is c b l →
      Is c (Tup (kinds (a ∷ b ∷ []))) (pair p t k l)
  pair_is c p t k l a b q h g =
      plain_is c p t ker.TupOf (a ∷ b ∷ []) (k ∷ l ∷ []) [] (Tup (kinds (a ∷ b ∷ []))) (λ ps. refl) (λ n. refl) refl q
      (all_self (kinds (a ∷ b ∷ []))) (h, (g, tt))

  pub item_is : (c : Context) (p : Place) (t : Ty) (n : ℕ) (k : Ker) (as' : Kinds) (a : Kind) → kind_of t ≡ Some a →
      item_kind as' n ≡ Some a → Is c (Tup as') k → Is c a (item p t n k)
  item_is c p t n k as' a q i h =
      plain_is c p t (ker.Item n) (Tup as' ∷ []) (k ∷ []) [] a (λ ps. refl) (λ n. refl) refl q
      (ap (is_kind a) i ∙ same_self a) (h, tt)

  pub if_is : (c : Context) (p : Place) (t : Ty) (g k l : Ker) (a : Kind) → kind_of t ≡ Some a → Is c Truth g →
      Is c a k → Is c a l →
      Is c a (node p t ker.If (g ∷ k ∷ l ∷ []))
  if_is c p t g k l a q h i j =
      plain_is c p t ker.If (Truth ∷ a ∷ a ∷ []) (g ∷ k ∷ l ∷ []) [] a (λ ps. refl) (λ n. refl) refl q
      (and_both (same a a) (same a a) (same_self a) (same_self a)) (h, (i, (j, tt)))

  pub kind_so : (c : Context) (a : Kind) (k : Ker) → Is c a k → is_kind a (kind_at k) ≡ true
  kind_so c a k h = ap (is_kind a) h.0 ∙ same_self a

  pub fold_is : (c : Context) (p : Place) (t : Ty) (e f q : Ker) (m n : ℕ) (a b : Kind) → kind_of t ≡ Some a →
      Is (c ++ (m, a) ∷ (n, b) ∷ []) a e → Is c a f →
      Is c (Seq b) q → Is c a (tree p t ker.FoldLeft (e ∷ f ∷ q ∷ []) (m ∷ n ∷ []))
  fold_is c p t e f q m n a b k h i j =
      made c p t ker.FoldLeft (e ∷ f ∷ q ∷ []) (m ∷ n ∷ []) a k
      (and_both ((is_kind a (kind_at e) && is_kind a (kind_at f)) && (sound names f c false && sound names q c false))
      (passes (λ b. sound names e (c ++ (m, a) ∷ (n, b) ∷ []) false) (option_and_then item_of (kind_at q)))
      (and_both (is_kind a (kind_at e) && is_kind a (kind_at f)) (sound names f c false && sound names q c false)
      (and_both (is_kind a (kind_at e)) (is_kind a (kind_at f)) (kind_so (c ++ (m, a) ∷ (n, b) ∷ []) a e h)
      (kind_so c a f i))
      (and_both (sound names f c false) (sound names q c false) i.1 j.1))
      (ap (λ o. passes (λ b. sound names e (c ++ (m, a) ∷ (n, b) ∷ []) false) (option_and_then item_of o)) j.0 ∙ h.1))

  -- a binder of one name
  pub binder_is : (c : Context) (p : Place) (t : Ty) (o : KerOp) (k e : Ker) (z : ℕ) (a m d : Kind) →
      ((ps : List Part) → sound_at names o a (z ∷ []) ps c false ≡ binder o a (z ∷ []) c ps) →
      kind_of t ≡ Some a → binder_row o a (m ∷ []) d ≡ true → Is c (Set m) k → Is (c ++ (z, m) ∷ []) d e →
      Is c a (tree p t o (k ∷ e ∷ []) (z ∷ []))
  binder_is c p t o k e z a m d s q r h g =
      made c p t o (k ∷ e ∷ []) (z ∷ []) a q
      (s (with_asked names (k ∷ e ∷ []))
      ∙ and_both (sound names k c false && true)
      (passes (binder_body o a (z ∷ []) c (with_asked names (e ∷ [])))
      (option_and_then members (kinds_at (with_asked names (k ∷ [])))))
      (and_both (sound names k c false) true h.1 refl)
      (ap (λ o'. passes (binder_body o a (z ∷ []) c (with_asked names (e ∷ []))) (option_and_then members o'))
      (kinds_there c (Set m ∷ []) (k ∷ []) (h, tt))
      ∙ and_both (passes (binder_row o a (m ∷ [])) (kind_at e)) (sound names e (c ++ (z, m) ∷ []) false)
      (ap (passes (binder_row o a (m ∷ []))) g.0 ∙ r) g.1))

  -- of a finite set
  pub finite_is : (c : Context) (p : Place) (t : Ty) (k : Ker) (z : ℕ) (m : Kind) → kind_of t ≡ Some Truth →
      Is c (Set m) k →
      Is c Truth (tree p t ker.Every (k ∷ truth p t true ∷ []) (z ∷ []))
  finite_is c p t k z m q h =
      binder_is c p t ker.Every k (truth p t true) z Truth m Truth (λ ps. refl) q refl h
      (truth_is (c ++ (z, m) ∷ []) p t true q)

  pub widened : (c d : Context) (a : Kind) (k : Ker) → Agree c d → Is c a k → Is d a k
  widened c d a k g h = (h.0, sound_wider names k c d false g h.1)

  -- ---- LET

  abbrev pub let_context : Context → Let → Kind → Kind → Context
  let_context c l a d = c ++ (l.unread, Seq a) ∷ (l.named, d) ∷ []

  pub unread_there : (c : Context) (l : Let) (a d : Kind) → is_let l ≡ true →
      kind_in (let_context c l a d) l.unread ≡ Some (Seq a)
  unread_there c l a d h =
      kind_append c ((l.unread, Seq a) ∷ (l.named, d) ∷ []) l.unread
      ∙ (λ i. or_else (or_else (or_else None (if not_true (nat_eq l.unread l.named) h i then Some d else None))
      (if nat_same l.unread i then Some (Seq a) else None)) (kind_in c l.unread))

  pub named_there : (c : Context) (l : Let) (a d : Kind) → kind_in (let_context c l a d) l.named ≡ Some d
  named_there c l a d =
      kind_append c ((l.unread, Seq a) ∷ (l.named, d) ∷ []) l.named
      ∙ (λ i. or_else (or_else (or_else None (if nat_same l.named i then Some d else None))
      (if nat_eq l.named l.unread then Some (Seq a) else None)) (kind_in c l.named))

  -- the types of a LET of kind a over what is named, of kind d
  pub record IsLetOf (l : Let) (a d : Kind) : Type 0 where
    pub type : kind_of l.type ≡ Some a
    pub wholes : kind_of l.wholes ≡ Some (Seq a)
    pub items : kind_of l.items ≡ Some (Seq d)
    pub apart : is_let l ≡ true

  pub let_is : (c : Context) (p : Place) (l : Let) (d e : Ker) (a b : Kind) → IsLetOf l a b → Is c b d →
      Is (let_context c l a b) a e → Is c a (let_in p l d e)
  let_is c p l d e a b q h g =
      plain_is c p l.type ker.First (Seq a ∷ []) _ [] a (λ ps. refl) (λ n. refl) refl q.type (same_self a) (fold, tt)
    where
      none : Ker
      none = node p l.wholes ker.SeqOf []

      items : Ker
      items = node p l.items ker.SeqOf (d ∷ [])

      body : Ker
      body = node p l.wholes ker.Push (bound p l.wholes l.unread ∷ e ∷ [])

      none_is : Is c (Seq a) none
      none_is = plain_is c p l.wholes ker.SeqOf [] [] [] (Seq a) (λ ps. refl) (λ n. refl) refl q.wholes refl tt

      items_is : Is c (Seq b) items
      items_is =
          plain_is c p l.items ker.SeqOf (b ∷ []) (d ∷ []) [] (Seq b) (λ ps. refl) (λ n. refl) refl q.items
          (and_both (same b b) true (same_self b) refl) (h, tt)

      body_is : Is (let_context c l a b) (Seq a) body
      body_is =
          plain_is (let_context c l a b) p l.wholes ker.Push (Seq a ∷ a ∷ []) _ [] (Seq a) (λ ps. refl)
          (λ n. refl) refl q.wholes
          (and_both (same a a) (same a a) (same_self a) (same_self a))
          (bound_is (let_context c l a b) p l.wholes l.unread (Seq a) q.wholes (unread_there c l a b q.apart), (g, tt))

      fold : Is c (Seq a) (tree p l.wholes ker.FoldLeft (body ∷ none ∷ items ∷ []) (l.unread ∷ l.named ∷ []))
      fold = fold_is c p l.wholes body none items l.unread l.named (Seq a) b q.wholes body_is none_is items_is

  -- ---- what is named is a pair

  module _ (l : Let) (ty : Ty) (c : Context) (a b : Kind) (pairs : kind_of ty ≡ Some (Tup (kinds (a ∷ b ∷ []))))
      (there : kind_in c l.named ≡ Some (Tup (kinds (a ∷ b ∷ [])))) where
    pub first_is : (k : Ker) → kind_at k ≡ Some a → Is c a (named_first l ty k)
    first_is k q =
        item_is c (place_of k) (type_of k) 1 (bound (place_of k) ty l.named) (kinds (a ∷ b ∷ [])) a q refl
        (bound_is c (place_of k) ty l.named (Tup (kinds (a ∷ b ∷ []))) pairs there)

    pub second_is : (k : Ker) → kind_at k ≡ Some b → Is c b (named_second l ty k)
    second_is k q =
        item_is c (place_of k) (type_of k) 2 (bound (place_of k) ty l.named) (kinds (a ∷ b ∷ [])) b q refl
        (bound_is c (place_of k) ty l.named (Tup (kinds (a ∷ b ∷ []))) pairs there)

  module _ (c : Context) (p : Place) (l : Let) (ty : Ty) (k m : Ker) (r a b : Kind)
      (pairs : kind_of ty ≡ Some (Tup (kinds (a ∷ b ∷ []))))
      (types : IsLetOf l r (Tup (kinds (a ∷ b ∷ [])))) (h : Is c a k) (g : Is c b m) where
    abbrev inside : Context
    inside = let_context c l r (Tup (kinds (a ∷ b ∷ [])))

    first_inside : Is inside a (named_first l ty k)
    first_inside = first_is l ty inside a b pairs (named_there c l r (Tup (kinds (a ∷ b ∷ [])))) k h.0

    second_inside : Is inside b (named_second l ty m)
    second_inside = second_is l ty inside a b pairs (named_there c l r (Tup (kinds (a ∷ b ∷ [])))) m g.0

    pub by_pair : (e : Ker) → Is inside r e → Is c r (let_in p l (pair p ty k m) e)
    by_pair e i = let_is c p l (pair p ty k m) e r (Tup (kinds (a ∷ b ∷ []))) types (pair_is c p ty k m a b pairs h g) i

    -- an item at a literal, of the first
    pub item_by_let_is : (n : ℕ) (as' : Kinds) → a ≡ Tup as' → item_kind as' n ≡ Some r →
        Is c r (item_by_let p l ty n k m)
    item_by_let_is n as' e i =
        by_pair (item p l.type n (named_first l ty k))
        (item_is inside p l.type n (named_first l ty k) as' r types.type i
        (subst (λ z. Is inside z (named_first l ty k)) e first_inside))

    pub equivalence_is : r ≡ Truth → a ≡ Truth → b ≡ Truth → Is c r (equivalence p l ty k m)
    equivalence_is e f d =
        let t : kind_of l.type ≡ Some Truth = types.type ∙ ap Some e in
        by_pair _ (subst
        (λ z. Is inside z
        (node p l.type ker.Equal
        (negation p l.type (named_first l ty k) ∷ negation p l.type (named_second l ty m) ∷ []))) (sym e)
        (plain_is inside p l.type ker.Equal (Truth ∷ Truth ∷ [])
        (negation p l.type (named_first l ty k) ∷ negation p l.type (named_second l ty m) ∷ []) [] Truth (λ ps. refl)
        (λ n. refl) refl t refl (
          negation_is inside p l.type (named_first l ty k) t
              (subst (λ z. Is inside z (named_first l ty k)) f first_inside),
          (
            negation_is inside p l.type (named_second l ty m) t
                (subst (λ z. Is inside z (named_second l ty m)) d second_inside),
            tt,
          ),
        )))

    -- a function of one pair; s is the type of the set
    pub single_is : (s : Ty) (z : ℕ) → r ≡ Fun a b → kind_of s ≡ Some (Set a) → nat_eq l.named z ≡ false →
        Is c r (single p l ty s z k m)
    single_is s z e q d =
        by_pair _ (subst
        (λ x. Is inside x
        (tree p l.type ker.FunOf (node p s ker.SetOf (named_first l ty k ∷ []) ∷ named_second l ty m ∷ []) (z ∷ [])))
        (sym e)
        (binder_is inside p l.type ker.FunOf (node p s ker.SetOf (named_first l ty k ∷ [])) (named_second l ty m) z
        (Fun a b) a b (λ ps. refl) (types.type ∙ ap Some e)
        (and_both (same a a) (same b b) (same_self a) (same_self b))
        (plain_is inside p s ker.SetOf (a ∷ []) (named_first l ty k ∷ []) [] (Set a) (λ ps. refl) (λ n. refl) refl q
        (and_both (same a a) true (same_self a) refl) (first_inside, tt))
        (second_is l ty (inside ++ (z, a) ∷ []) a b pairs
        (kind_append inside ((z, a) ∷ []) l.named
        ∙ ap (λ x. or_else (or_else None (if x then Some a else None)) (kind_in inside l.named)) d
        ∙ named_there c l r (Tup (kinds (a ∷ b ∷ [])))) m g.0)))
