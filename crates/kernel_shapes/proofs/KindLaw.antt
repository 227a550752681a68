-- Shapes of one type may be joined, and their join is of that type; what is inside a shape is of the type inside.
use Rattle.std.proofs.Common.{◌≡◌, ℕ, Bool, true, false, IsTrue, List, [], ◌∷◌, map, zip, ℤ, refl, sym, ◌∙◌, subst, if◌then◌else◌}
use Rattle.std.specs.Ordering.{is_lt}
use Rattle.std.proofs.lemmas.Map.Text.{is_eq-slice_cmp}
use Rattle.std.proofs.lemmas.Slice.Eq.{bytes_eq-Decides}
use Rattle.tla_values.specs.Order.{text_cmp}
use Rattle.tla_meaning.specs.Scopes.{same_text}
use Rattle.tla_meaning.proofs.Views.{and_both}
use Rattle.kernel_trees.specs.TypeKinds as kind
use Rattle.kernel_trees.specs.TypeKinds.{Kind, Kinds, Fields, no_kinds, more_kinds, no_fields, more_fields, insert_field, fields}
use Rattle.kernel_shapes.specs.Shape.{Shape, Atom, Num, Set, Fun, Rec, Tup, Seq, Empty, Shapes, no_shapes, more_shapes, shapes, inside, result, join, join_all, join_items, alike, alike_all, alike_items, same_names}
use Rattle.kernel_shapes.specs.Rows.{put_field, in_order, record_shape}
use Rattle.kernel_shapes.specs.Sized.{is_sequence, is_function, is_record, has_places}
use Rattle.kernel_shapes.specs.TypedStates.{OfKind, OfKinds, OfFields, EachOfKind, shape_of_kind, shapes_of_kinds, shapes_of_fields, names_of_fields}

pub text_itself : (x : List ℕ) → IsTrue (same_text x x)
text_itself x = is_eq-slice_cmp x x ∙ (bytes_eq-Decides x x).1 refl

same_for : (x y z : List ℕ) → z ≡ x → z ≡ y → IsTrue (same_text x y)
same_for x y z e f = subst (λ (u : List ℕ). IsTrue (same_text x u)) (sym e ∙ f) (text_itself x)

mutual
  pub kinds_alike : (k : Kind) (a b : Shape) → OfKind k a → OfKind k b → IsTrue (alike a b)
  kinds_alike k Empty b h l = refl
  kinds_alike k Atom Empty h l = refl
  kinds_alike k (Num a b) Empty h l = refl
  kinds_alike k (Set n a) Empty h l = refl
  kinds_alike k (Fun n a r) Empty h l = refl
  kinds_alike k (Rec xs as') Empty h l = refl
  kinds_alike k (Tup as') Empty h l = refl
  kinds_alike k (Seq n a) Empty h l = refl
  kinds_alike kind.Truth Atom Atom h l = refl
  kinds_alike kind.Truth Atom b h l = absurd l
  kinds_alike (kind.Word x) Atom Atom h l = refl
  kinds_alike (kind.Word x) Atom b h l = absurd l
  kinds_alike kind.Number (Num a b) (Num c d) h l = refl
  kinds_alike kind.Number (Num a b) c h l = absurd l
  kinds_alike (kind.Set k) (Set n a) (Set m b) h l = kinds_alike k a b h l
  kinds_alike (kind.Set k) (Set n a) b h l = absurd l
  kinds_alike (kind.Fun k j) (Fun n a r) (Fun m b s) h l = and_both (alike a b) (alike r s) (kinds_alike k a b h.0 l.0) (kinds_alike j r s h.1 l.1)
  kinds_alike (kind.Fun k j) (Fun n a r) b h l = absurd l
  kinds_alike (kind.Seq k) (Seq n a) (Seq m b) h l = kinds_alike k a b h l
  kinds_alike (kind.Seq k) (Seq n a) b h l = absurd l
  kinds_alike (kind.Rec fs) (Rec xs as') (Rec ys bs) h l =
      let r = fields_alike fs xs as' ys bs h l in and_both (same_names xs ys) (alike_items as' bs) r.0 r.1
  kinds_alike (kind.Rec fs) (Rec xs as') b h l = absurd l
  kinds_alike (kind.Tup ks) (Tup as') (Tup bs) h l = items_alike ks as' bs h l
  kinds_alike (kind.Tup ks) (Tup as') b h l = absurd l
  kinds_alike k a b h l = absurd h

  items_alike : (ks : Kinds) (as' bs : Shapes) → OfKinds ks as' → OfKinds ks bs → IsTrue (alike_items as' bs)
  items_alike no_kinds no_shapes no_shapes h l = refl
  items_alike no_kinds no_shapes (more_shapes b bs) h l = absurd l
  items_alike no_kinds (more_shapes a as') bs h l = absurd h
  items_alike (more_kinds k ks) no_shapes bs h l = absurd h
  items_alike (more_kinds k ks) (more_shapes a as') no_shapes h l = absurd l
  items_alike (more_kinds k ks) (more_shapes a as') (more_shapes b bs) h l =
      and_both (alike a b) (alike_items as' bs) (kinds_alike k a b h.0 l.0) (items_alike ks as' bs h.1 l.1)

  fields_alike : (fs : Fields) (xs : List (List ℕ)) (as' : Shapes) (ys : List (List ℕ)) (bs : Shapes) → OfFields fs xs as' → OfFields fs ys bs →
      IsTrue (same_names xs ys) × IsTrue (alike_items as' bs)
  fields_alike no_fields [] no_shapes [] no_shapes h l = (refl, refl)
  fields_alike (more_fields z k fs) (x ∷ xs) (more_shapes a as') (y ∷ ys) (more_shapes b bs) h l =
      let r = fields_alike fs xs as' ys bs h.2 l.2 in
      (and_both (same_text x y) (same_names xs ys) (same_for x y z h.0 l.0) r.0, and_both (alike a b) (alike_items as' bs) (kinds_alike k a b h.1 l.1) r.1)
  fields_alike no_fields [] no_shapes [] (more_shapes b bs) h l = absurd l
  fields_alike no_fields [] no_shapes (y ∷ ys) bs h l = absurd l
  fields_alike (more_fields z k fs) (x ∷ xs) (more_shapes a as') [] bs h l = absurd l
  fields_alike (more_fields z k fs) (x ∷ xs) (more_shapes a as') (y ∷ ys) no_shapes h l = absurd l
  fields_alike fs xs as' ys bs h l = absurd h

mutual
  pub join_kind : (k : Kind) (a b : Shape) → OfKind k a → OfKind k b → OfKind k (join a b)
  join_kind k Empty b h l = l
  join_kind k Atom Empty h l = h
  join_kind k (Num a b) Empty h l = h
  join_kind k (Set n a) Empty h l = h
  join_kind k (Fun n a r) Empty h l = h
  join_kind k (Rec xs as') Empty h l = h
  join_kind k (Tup as') Empty h l = h
  join_kind k (Seq n a) Empty h l = h
  join_kind kind.Truth Atom b h l = tt
  join_kind (kind.Word x) Atom b h l = tt
  join_kind kind.Number (Num a b) (Num c d) h l = tt
  join_kind kind.Number (Num a b) c h l = absurd l
  join_kind (kind.Set k) (Set n a) (Set m b) h l = join_kind k a b h l
  join_kind (kind.Set k) (Set n a) b h l = absurd l
  join_kind (kind.Fun k j) (Fun n a r) (Fun m b s) h l = (join_kind k a b h.0 l.0, join_kind j r s h.1 l.1)
  join_kind (kind.Fun k j) (Fun n a r) b h l = absurd l
  join_kind (kind.Seq k) (Seq n a) (Seq m b) h l = join_kind k a b h l
  join_kind (kind.Seq k) (Seq n a) b h l = absurd l
  join_kind (kind.Rec fs) (Rec xs as') (Rec ys bs) h l = join_fields fs xs as' ys bs h l
  join_kind (kind.Rec fs) (Rec xs as') b h l = absurd l
  join_kind (kind.Tup ks) (Tup as') (Tup bs) h l = join_kinds ks as' bs h l
  join_kind (kind.Tup ks) (Tup as') b h l = absurd l
  join_kind k a b h l = absurd h

  join_kinds : (ks : Kinds) (as' bs : Shapes) → OfKinds ks as' → OfKinds ks bs → OfKinds ks (join_items as' bs)
  join_kinds no_kinds no_shapes bs h l = tt
  join_kinds no_kinds (more_shapes a as') bs h l = absurd h
  join_kinds (more_kinds k ks) no_shapes bs h l = absurd h
  join_kinds (more_kinds k ks) (more_shapes a as') no_shapes h l = absurd l
  join_kinds (more_kinds k ks) (more_shapes a as') (more_shapes b bs) h l = (join_kind k a b h.0 l.0, join_kinds ks as' bs h.1 l.1)

  join_fields : (fs : Fields) (xs : List (List ℕ)) (as' : Shapes) (ys : List (List ℕ)) (bs : Shapes) → OfFields fs xs as' → OfFields fs ys bs →
      OfFields fs xs (join_items as' bs)
  join_fields no_fields [] no_shapes ys bs h l = tt
  join_fields (more_fields z k fs) (x ∷ xs) (more_shapes a as') (y ∷ ys) (more_shapes b bs) h l =
      (h.0, join_kind k a b h.1 l.1, join_fields fs xs as' ys bs h.2 l.2)
  join_fields (more_fields z k fs) (x ∷ xs) (more_shapes a as') [] bs h l = absurd l
  join_fields (more_fields z k fs) (x ∷ xs) (more_shapes a as') (y ∷ ys) no_shapes h l = absurd l
  join_fields fs xs as' ys bs h l = absurd h

-- ---- several shapes of one type

abbrev pub AllOfKind : Kind → List Shape → Type 0
AllOfKind k [] = Unit {0}
AllOfKind k (a ∷ as') = OfKind k a × AllOfKind k as'

pub empty_kind : (k : Kind) → OfKind k Empty
empty_kind k = tt

pub join_all_kind : (k : Kind) (as' : List Shape) → AllOfKind k as' → OfKind k (join_all as')
join_all_kind k [] h = empty_kind k
join_all_kind k (a ∷ as') h = join_kind k a (join_all as') h.0 (join_all_kind k as' h.1)

pub all_alike : (k : Kind) (as' : List Shape) → AllOfKind k as' → IsTrue (alike_all as')
all_alike k [] h = refl
all_alike k (a ∷ as') h =
    and_both (alike a (join_all as')) (alike_all as') (kinds_alike k a (join_all as') h.0 (join_all_kind k as' h.1)) (all_alike k as' h.1)

-- ---- what is inside

pub member_kind : (k : Kind) (a : Shape) → OfKind (kind.Set k) a → OfKind k (inside a)
member_kind k (Set n a) h = h
member_kind k Empty h = empty_kind k
member_kind k a h = absurd h

pub place_kind : (k : Kind) (a : Shape) → OfKind (kind.Seq k) a → OfKind k (inside a)
place_kind k (Seq n a) h = h
place_kind k Empty h = empty_kind k
place_kind k a h = absurd h

pub item_result : (k : Kind) (a : Shape) → OfKind (kind.Seq k) a → OfKind k (result a)
item_result k (Seq n a) h = h
item_result k Empty h = empty_kind k
item_result k a h = absurd h

pub argument_kind_of : (k l : Kind) (a : Shape) → OfKind (kind.Fun k l) a → OfKind k (inside a)
argument_kind_of k l (Fun n a r) h = h.0
argument_kind_of k l Empty h = empty_kind k
argument_kind_of k l a h = absurd h

pub result_kind : (k l : Kind) (a : Shape) → OfKind (kind.Fun k l) a → OfKind l (result a)
result_kind k l (Fun n a r) h = h.1
result_kind k l Empty h = empty_kind l
result_kind k l a h = absurd h

pub seq_is : (k : Kind) (a : Shape) → OfKind (kind.Seq k) a → IsTrue (is_sequence a)
seq_is k (Seq n a) h = refl
seq_is k Empty h = refl
seq_is k a h = absurd h

pub fun_is : (k l : Kind) (a : Shape) → OfKind (kind.Fun k l) a → IsTrue (is_function a)
fun_is k l (Fun n a r) h = refl
fun_is k l Empty h = refl
fun_is k l a h = absurd h

pub rec_is : (fs : Fields) (a : Shape) → OfKind (kind.Rec fs) a → IsTrue (is_record a)
rec_is fs (Rec xs as') h = refl
rec_is fs Empty h = refl
rec_is fs a h = absurd h

pub seq_places : (k : Kind) (a : Shape) → OfKind (kind.Seq k) a → IsTrue (has_places a)
seq_places k (Seq n a) h = refl
seq_places k Empty h = refl
seq_places k a h = absurd h

pub tup_places : (ks : Kinds) (a : Shape) → OfKind (kind.Tup ks) a → IsTrue (has_places a)
tup_places ks (Tup as') h = refl
tup_places ks Empty h = refl
tup_places ks a h = absurd h

-- ---- records and tuples

pub tuple_kind : (ks : List Kind) (as' : List Shape) → EachOfKind ks as' → OfKinds (kind.kinds ks) (shapes as')
tuple_kind [] [] h = tt
tuple_kind (k ∷ ks) (a ∷ as') h = (h.0, tuple_kind ks as' h.1)
tuple_kind [] (a ∷ as') h = absurd h
tuple_kind (k ∷ ks) [] h = absurd h

insert_kind : (x : List ℕ) (k : Kind) (a : Shape) (fs : Fields) (ys : List (List ℕ × Shape)) → OfKind k a → OfFields fs (map (λ y. y.0) ys) (shapes (map (λ y. y.1) ys)) →
    OfFields (insert_field x k fs) (map (λ y. y.0) (put_field x a ys)) (shapes (map (λ y. y.1) (put_field x a ys)))
insert_kind x k a no_fields [] h l = (refl, h, tt)
insert_kind x k a no_fields (y ∷ ys) h l = absurd l
insert_kind x k a (more_fields z j fs) [] h l = absurd l
insert_kind x k a (more_fields z j fs) (y ∷ ys) h l =
    subst (λ (u : List ℕ). OfFields (if is_lt (text_cmp x u) then more_fields x k (more_fields z j fs) else more_fields z j (insert_field x k fs))
    (map (λ q. q.0) (put_field x a (y ∷ ys))) (shapes (map (λ q. q.1) (put_field x a (y ∷ ys))))) (sym l.0)
    (by (is_lt (text_cmp x y.0)) (insert_kind x k a fs ys h l.2))
  where
    by : (b : Bool) → OfFields (insert_field x k fs) (map (λ q. q.0) (put_field x a ys)) (shapes (map (λ q. q.1) (put_field x a ys))) →
        OfFields (if b then more_fields x k (more_fields z j fs) else more_fields z j (insert_field x k fs))
        (map (λ q. q.0) (if b then (x, a) ∷ y ∷ ys else y ∷ put_field x a ys)) (shapes (map (λ q. q.1) (if b then (x, a) ∷ y ∷ ys else y ∷ put_field x a ys)))
    by true r = (refl, h, l)
    by false r = (l.0, l.1, r)

pub record_kind_of : (xs : List (List ℕ)) (ks : List Kind) (as' : List Shape) → EachOfKind ks as' → OfKind (kind.Rec (fields (zip xs ks))) (record_shape xs as')
record_kind_of [] ks as' h = tt
record_kind_of (x ∷ xs) [] [] h = tt
record_kind_of (x ∷ xs) (k ∷ ks) (a ∷ as') h = insert_kind x k a (fields (zip xs ks)) (in_order xs as') h.0 (record_kind_of xs ks as' h.1)
record_kind_of (x ∷ xs) [] (a ∷ as') h = absurd h
record_kind_of (x ∷ xs) (k ∷ ks) [] h = absurd h

-- ---- the shape of a type in bounds is of the type

mutual
  pub typed_kind : (low high : ℤ) (size : ℕ) (k : Kind) → OfKind k (shape_of_kind low high size k)
  typed_kind low high size kind.Truth = tt
  typed_kind low high size (kind.Word x) = tt
  typed_kind low high size kind.Number = tt
  typed_kind low high size (kind.Set k) = typed_kind low high size k
  typed_kind low high size (kind.Fun k l) = (typed_kind low high size k, typed_kind low high size l)
  typed_kind low high size (kind.Rec fs) = typed_fields low high size fs
  typed_kind low high size (kind.Tup ks) = typed_kinds low high size ks
  typed_kind low high size (kind.Seq k) = typed_kind low high size k

  typed_kinds : (low high : ℤ) (size : ℕ) (ks : Kinds) → OfKinds ks (shapes_of_kinds low high size ks)
  typed_kinds low high size no_kinds = tt
  typed_kinds low high size (more_kinds k ks) = (typed_kind low high size k, typed_kinds low high size ks)

  typed_fields : (low high : ℤ) (size : ℕ) (fs : Fields) → OfFields fs (names_of_fields fs) (shapes_of_fields low high size fs)
  typed_fields low high size no_fields = tt
  typed_fields low high size (more_fields x k fs) = (refl, typed_kind low high size k, typed_fields low high size fs)
