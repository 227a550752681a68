-- The rows of the table of types: where the operands are of their types and sound, so is the node.
use Rattle.std.proofs.Common.{◌≡◌, ℕ, zero, suc, Bool, true, false, ◌&&◌, ◌||◌, nat_eq, IsTrue, List, [], ◌∷◌, map, zip, length, Some, None, ℤ, pos, ◌+ℤ◌, ◌-ℤ◌, ◌*ℤ◌, refl, sym, ◌∙◌, ap, subst, arith, if◌then◌else◌}
use Rattle.std.specs.List.{list_any}
use Rattle.tla_values.specs.Order.{Layer}
use Rattle.tla_values.specs.declared.value.Value.{Value, out-Value}
use Rattle.tla_values.specs.declared.value.Value.TheOpen as layer
use Rattle.tla_meaning.specs.declared.place.Place.{Place}
use Rattle.tla_meaning.specs.Scopes.{same_text}
use Rattle.tla_meaning.proofs.Laws.{none≢some}
use Rattle.tla_meaning.proofs.Views.{and_both, false≢true}
use Rattle.kernel_trees.specs.declared.kernel.KerOp.{KerOp}
use Rattle.kernel_trees.specs.declared.kernel.KerOp.TheVariants as ker
use Rattle.kernel_trees.specs.Sound.{is_literal}
use Rattle.kernel_trees.specs.Trees.{op_of, constant}
use Rattle.kernel_trees.specs.TypeKinds as kind
use Rattle.kernel_trees.specs.TypeKinds.{Kind, Kinds, Fields, no_kinds, more_kinds, no_fields, more_fields, item_kind, field_kind, fields}
use Rattle.kernel_trees.proofs.SoundRows.{AreAll, Row, row_const, row_and, row_or, row_not, row_if, row_equal, row_less, row_plus, row_minus, row_times, row_quotient, row_remainder, row_set, row_member, row_included, row_flatten, row_union, row_inter, row_without, row_range, row_subsets, row_functions, row_count, row_at, row_at_number, row_domain, row_domain_sequence, row_domain_tuple, row_domain_record, row_join, row_tuple, row_item, row_record, row_field, row_sequence, row_length, row_push, row_first, row_rest, row_slice, row_glue, row_nocase, row_ints, row_nats, row_texts, row_sequences, row_tuples, row_records}
use Rattle.kernel_shapes.specs.Shape.{Shape, Num, Fun, Rec, Tup, Seq, Empty, Shapes, no_shapes, more_shapes, item, field, inside, result, alike, over_both}
use Rattle.kernel_shapes.specs.Rows.{Literal, no_literal, number, text, nth, insides, applied_at, quotient_shape, remainder_shape, set_of_interval}
use Rattle.kernel_shapes.specs.Sized.{Extent, Sized, Sizing, outside, shapes_of, all_sound, readable, is_record_of, is_sequence, is_function, names_differ, sized, plain, seen}
use Rattle.kernel_shapes.specs.Trees.{sized_node, domain_row}
use Rattle.kernel_shapes.specs.TypedStates.{EachOfKind, OfKind, OfKinds, OfFields}
use Rattle.kernel_shapes.proofs.KernelNodes.{literal_sizing, operand_sizings}
use Rattle.kernel_shapes.proofs.KindLaw.{kinds_alike, join_kind, AllOfKind, join_all_kind, all_alike, empty_kind, member_kind, place_kind, item_result, argument_kind_of, result_kind, seq_is, fun_is, rec_is, seq_places, tup_places, tuple_kind, record_kind_of}
use Rattle.kernel_shapes.proofs.TreeLemmas.{literal-roll, sound-roll}
use Rattle.kernel_shapes.proofs.WellNamed.{well_named, names_from}

-- of its type, and sound
abbrev pub Good : Extent → Kind → Sizing → Type 0
Good g k z = OfKind k (z g).shape × IsTrue (z g).sound

pub data Goods (g : Extent) : List Kind → List Sizing → Type 0 where
  no_goods : Goods g [] []
  more_goods : {k : Kind} {ks : List Kind} {z : Sizing} {zs : List Sizing} → Good g k z → Goods g ks zs → Goods g (k ∷ ks) (z ∷ zs)

abbrev here : Extent → List Sizing → List Sized
here g zs = outside [] zs g

sounds : (g : Extent) (ks : List Kind) (zs : List Sizing) → Goods g ks zs → IsTrue (all_sound (here g zs))
sounds g _ _ no_goods = refl
sounds g _ _ (more_goods {z = z} {zs = zs} h r) = and_both (z g).sound (all_sound (here g zs)) h.1 (sounds g _ zs r)

each_kind : (g : Extent) (ks : List Kind) (zs : List Sizing) → Goods g ks zs → EachOfKind ks (shapes_of (here g zs))
each_kind g _ _ no_goods = tt
each_kind g _ _ (more_goods h r) = (h.0, each_kind g _ _ r)

all_kind : (g : Extent) (a : Kind) (ks : List Kind) (zs : List Sizing) → AreAll a ks → Goods g ks zs → AllOfKind a (shapes_of (here g zs))
all_kind g a _ _ e no_goods = tt
all_kind g a _ _ e (more_goods {z = z} h r) = (subst (λ (k : Kind). OfKind k (z g).shape) e.0 h.0, all_kind g a _ _ e.1 r)

-- sets, by the types of their members
member_kinds : (g : Extent) (ms : List Kind) (zs : List Sizing) → EachOfKind (map kind.Set ms) (shapes_of (here g zs)) → EachOfKind ms (insides (shapes_of (here g zs)))
member_kinds g [] [] h = tt
member_kinds g [] (z ∷ zs) h = absurd h
member_kinds g (m ∷ ms) [] h = absurd h
member_kinds g (m ∷ ms) (z ∷ zs) h = (member_kind m (z g).shape h.0, member_kinds g ms zs h.1)

many_kinds : (ks : List Kind) (as' : List Shape) → EachOfKind ks as' → length as' ≡ length ks
many_kinds [] [] h = refl
many_kinds [] (a ∷ as') h = absurd h
many_kinds (k ∷ ks) [] h = absurd h
many_kinds (k ∷ ks) (a ∷ as') h = ap suc (many_kinds ks as' h.1)

with_joins : (g : Extent) (zs : List Sizing) (b : Bool) → IsTrue (all_sound (here g zs)) → IsTrue b → IsTrue (all_sound (here g zs) && b)
with_joins g zs b h k = and_both (all_sound (here g zs)) b h k

-- ---- numbers

hull_kind : (w : ℕ) (f : ℤ → ℤ → ℤ) (a b : Shape) → OfKind kind.Number (over_both w f a b)
hull_kind w f (Num a b) (Num c d) = tt
hull_kind w f a b = tt

quotient_kind : (w : ℕ) (a : Shape) → OfKind kind.Number (quotient_shape w a)
quotient_kind w (Num a b) = tt
quotient_kind w a = tt

remainder_kind : (w : ℕ) (a : Shape) → OfKind kind.Number (remainder_shape w a)
remainder_kind w (Num a b) = tt
remainder_kind w a = tt

range_kind : (w : ℕ) (a b : Shape) → OfKind (kind.Set kind.Number) (set_of_interval w a b)
range_kind w (Num a b) (Num c d) = tt
range_kind w a b = tt

-- ---- what is read at an index

fun_applied : (k j : Kind) (a : Shape) (l : Literal) → OfKind (kind.Fun k j) a → OfKind j (applied_at a l) × IsTrue (readable a l)
fun_applied k j (Fun n a r) l h = (h.1, refl)
fun_applied k j Empty l h = (empty_kind j, refl)
fun_applied k j a l h = absurd h

seq_applied : (k : Kind) (a : Shape) (l : Literal) → OfKind (kind.Seq k) a → OfKind k (applied_at a l) × IsTrue (readable a l)
seq_applied k (Seq n a) l h = (h, refl)
seq_applied k Empty l h = (empty_kind k, refl)
seq_applied k a l h = absurd h

pub item_there : (ks : Kinds) (i : ℕ) (a : Kind) (as' : Shapes) → item_kind ks i ≡ Some a → OfKinds ks as' → OfKind a (item i as')
item_there no_kinds i a as' e h = absurd (none≢some e)
item_there (more_kinds k ks) i a no_shapes e h = absurd h
item_there (more_kinds k ks) zero a (more_shapes b bs) e h = absurd (none≢some e)
item_there (more_kinds k ks) (suc zero) a (more_shapes b bs) e h = subst (λ (j : Kind). OfKind j b) (same e) h.0
  where
    same : {x y : Kind} → Some x ≡ Some y → x ≡ y
    same q = cc
item_there (more_kinds k ks) (suc (suc n)) a (more_shapes b bs) e h = item_there ks (suc n) a bs e h.1

tup_applied : (ks : Kinds) (i : ℕ) (a : Kind) (b : Shape) → item_kind ks i ≡ Some a → OfKind (kind.Tup ks) b →
    OfKind a (applied_at b (number (pos i))) × IsTrue (readable b (number (pos i)))
tup_applied ks zero a (Tup as') e h = absurd (no_item ks e)
  where
    no_item : (ks : Kinds) → item_kind ks zero ≡ Some a → ⊥
    no_item no_kinds q = none≢some q
    no_item (more_kinds k ks) q = none≢some q
tup_applied ks (suc n) a (Tup as') e h = (item_there ks (suc n) a as' e h, refl)
tup_applied ks i a Empty e h = (empty_kind a, refl)
tup_applied ks i a b e h = absurd h

pub field_there : (fs : Fields) (x : List ℕ) (a : Kind) (xs : List (List ℕ)) (as' : Shapes) → field_kind fs x ≡ Some a → OfFields fs xs as' →
    OfKind a (field x xs as') × IsTrue (list_any (same_text x) xs)
field_there no_fields x a xs as' e h = absurd (none≢some e)
field_there (more_fields y k fs) x a (z ∷ zs) (more_shapes b bs) e h =
    by (same_text x z) (subst (λ (u : List ℕ). (if same_text x u then Some k else field_kind fs x) ≡ Some a) h.0 e) (λ q. field_there fs x a zs bs q h.2)
  where
    same : {x y : Kind} → Some x ≡ Some y → x ≡ y
    same q = cc

    by : (c : Bool) → (if c then Some k else field_kind fs x) ≡ Some a → (field_kind fs x ≡ Some a → OfKind a (field x zs bs) × IsTrue (list_any (same_text x) zs)) →
        OfKind a (if c then b else field x zs bs) × IsTrue (c || list_any (same_text x) zs)
    by true q r = (subst (λ (j : Kind). OfKind j b) (same q) h.1, refl)
    by false q r = r q
field_there (more_fields y k fs) x a [] as' e h = absurd h
field_there (more_fields y k fs) x a (z ∷ zs) no_shapes e h = absurd h

rec_applied : (fs : Fields) (x : List ℕ) (a : Kind) (b : Shape) → field_kind fs x ≡ Some a → OfKind (kind.Rec fs) b →
    OfKind a (applied_at b (text x)) × IsTrue (readable b (text x))
rec_applied fs x a (Rec xs as') e h = field_there fs x a xs as' e h
rec_applied fs x a Empty e h = (empty_kind a, refl)
rec_applied fs x a b e h = absurd h

-- ---- nodes

abbrev pub node_at : ℕ → Place → List (List ℕ) → List Bool → KerOp → Kind → List Kind → List Sizing → Extent → Sized
node_at w p xs ps o a ks zs g = sized_node w p (op_of o) xs ps a ks (operand_sizings w o p zs) g

abbrev pub NodeGood : Sized → Kind → Type 0
NodeGood s a = OfKind a s.shape × IsTrue s.sound

const_good : (w : ℕ) (p : Place) (xs : List (List ℕ)) (ps : List Bool) (g : Extent) (ks : List Kind) (a : Kind) (l : Layer Value) → is_literal a l ≡ true →
    NodeGood (sized_node w p (constant l) xs ps a ks [] g) a
const_good w p xs ps g ks kind.Truth (layer.Bool b) e = (tt, refl)
const_good w p xs ps g ks kind.Number (layer.Int i) e = (tt, refl)
const_good w p xs ps g ks (kind.Word x) (layer.Text t) e = (tt, refl)
const_good w p xs ps g ks a l e = absurd (false≢true e)

same_many : (m n k : ℕ) → m ≡ n → k ≡ n → IsTrue (nat_eq m k)
same_many m n k e f = grind arith

module _ (w : ℕ) (p : Place) (xs : List (List ℕ)) (ps : List Bool) (g : Extent) where
  two : (y z : Sizing) (b : Bool) → IsTrue (y g).sound → IsTrue (z g).sound → IsTrue b → IsTrue (((y g).sound && ((z g).sound && true)) && b)
  two y z b h k l = and_both ((y g).sound && ((z g).sound && true)) b (and_both (y g).sound ((z g).sound && true) h (and_both (z g).sound true k refl)) l

  one : (y : Sizing) (b : Bool) → IsTrue (y g).sound → IsTrue b → IsTrue (((y g).sound && true) && b)
  one y b h l = and_both ((y g).sound && true) b (and_both (y g).sound true h refl) l

  domain_good : (ks : List Kind) (k a : Kind) (z : Sizing) → nth kind.Truth 0 ks ≡ k → NodeGood (sized w p (plain (domain_row k) no_literal) (seen (λ h. None) [] xs (z ∷ []) g)) a →
      NodeGood (node_at w p xs ps ker.Domain a ks (z ∷ []) g) a
  domain_good ks k a z e h = subst (λ (j : Kind). NodeGood (sized w p (plain (domain_row j) no_literal) (seen (λ h. None) [] xs (z ∷ []) g)) a) (sym e) h

  item_good : (i : ℕ) (a : Kind) (ks : List Kind) (z : Sizing) → OfKind a (applied_at (z g).shape (number (pos i))) × IsTrue (readable (z g).shape (number (pos i))) → IsTrue (z g).sound →
      NodeGood (node_at w p xs ps (ker.Item i) a ks (z ∷ []) g) a
  item_good i a ks z h s =
      let e : (literal_sizing w p i g).literal ≡ number (pos i) = literal-roll w _ (kind.Number ∷ []) g in
      let q : (literal_sizing w p i g).sound ≡ true = sound-roll w _ (kind.Number ∷ []) g in (
        subst (λ (l : Literal). OfKind a (applied_at (z g).shape l)) (sym e) h.0,
        two z (literal_sizing w p i) _ s q (subst (λ (l : Literal). IsTrue (readable (z g).shape l)) (sym e) h.1),
      )

  record_joins : (names : List (List ℕ)) (ks : List Kind) (as' : List Shape) → length names ≡ length ks → length as' ≡ length ks → IsTrue (well_named (kind.Rec (fields (zip names ks)))) →
      IsTrue (is_record_of names as')
  record_joins names ks as' e f h = and_both (names_differ names) (nat_eq (length names) (length as')) (names_from names ks e h) (same_many (length names) (length ks) (length as') e f)

  pub plain_good : (o : KerOp) (a : Kind) (as' ks : List Kind) (zs : List Sizing) → Row o a as' → Goods g as' zs → nth kind.Truth 0 ks ≡ nth kind.Truth 0 as' → IsTrue (well_named a) →
      NodeGood (node_at w p xs ps o a ks zs g) a
  plain_good _ _ _ ks _ (row_const v a e) no_goods q n = const_good w p xs ps g ks a (out-Value v) e
  plain_good _ _ _ ks zs (row_and js e) h q n = (tt, with_joins g zs true (sounds g js zs h) refl)
  plain_good _ _ _ ks zs (row_or js e) h q n = (tt, with_joins g zs true (sounds g js zs h) refl)
  plain_good _ _ _ ks zs row_not h q n = (tt, with_joins g zs true (sounds g _ zs h) refl)
  plain_good _ _ _ ks _ (row_if a) (more_goods {z = c} h (more_goods {z = y} k (more_goods {z = z} l no_goods))) q n =
      let r : AllOfKind a ((y g).shape ∷ (z g).shape ∷ []) = (k.0, (l.0, tt)) in (
        join_all_kind a ((y g).shape ∷ (z g).shape ∷ []) r,
        with_joins g (c ∷ y ∷ z ∷ []) _ (and_both (c g).sound _ h.1 (and_both (y g).sound _ k.1 (and_both (z g).sound true l.1 refl)))
            (all_alike a ((y g).shape ∷ (z g).shape ∷ []) r),
      )
  plain_good _ _ _ ks zs (row_equal a) h q n = (tt, with_joins g zs true (sounds g _ zs h) refl)
  plain_good _ _ _ ks zs row_less h q n = (tt, with_joins g zs true (sounds g _ zs h) refl)
  plain_good _ _ _ ks _ row_plus (more_goods {z = y} h (more_goods {z = z} k no_goods)) q n = (hull_kind w (λ x x'. x +ℤ x') (y g).shape (z g).shape, two y z true h.1 k.1 refl)
  plain_good _ _ _ ks _ row_minus (more_goods {z = y} h (more_goods {z = z} k no_goods)) q n = (hull_kind w (λ x x'. x -ℤ x') (y g).shape (z g).shape, two y z true h.1 k.1 refl)
  plain_good _ _ _ ks _ row_times (more_goods {z = y} h (more_goods {z = z} k no_goods)) q n = (hull_kind w (λ x x'. x *ℤ x') (y g).shape (z g).shape, two y z true h.1 k.1 refl)
  plain_good _ _ _ ks _ row_quotient (more_goods {z = y} h (more_goods {z = z} k no_goods)) q n = (quotient_kind w (y g).shape, two y z true h.1 k.1 refl)
  plain_good _ _ _ ks _ row_remainder (more_goods {z = y} h (more_goods {z = z} k no_goods)) q n = (remainder_kind w (z g).shape, two y z true h.1 k.1 refl)
  plain_good _ _ _ ks zs (row_set a js e) h q n =
      let r = all_kind g a js zs e h in
      (join_all_kind a (shapes_of (here g zs)) r, with_joins g zs _ (sounds g js zs h) (all_alike a (shapes_of (here g zs)) r))
  plain_good _ _ _ ks zs (row_member a) h q n = (tt, sounds g _ zs h)
  plain_good _ _ _ ks zs (row_included a) h q n = (tt, sounds g _ zs h)
  plain_good _ _ _ ks _ (row_flatten a) (more_goods {z = y} h no_goods) q n =
      (member_kind a (inside (y g).shape) (member_kind (kind.Set a) (y g).shape h.0), one y true h.1 refl)
  plain_good _ _ _ ks _ (row_union a) (more_goods {z = y} h (more_goods {z = z} k no_goods)) q n =
      let r = member_kind a (y g).shape h.0 in
      let s = member_kind a (z g).shape k.0 in
      (join_kind a (inside (y g).shape) (inside (z g).shape) r s, two y z _ h.1 k.1 (kinds_alike a (inside (y g).shape) (inside (z g).shape) r s))
  plain_good _ _ _ ks _ (row_inter a) (more_goods {z = y} h (more_goods {z = z} k no_goods)) q n = (member_kind a (y g).shape h.0, two y z true h.1 k.1 refl)
  plain_good _ _ _ ks _ (row_without a) (more_goods {z = y} h (more_goods {z = z} k no_goods)) q n = (member_kind a (y g).shape h.0, two y z true h.1 k.1 refl)
  plain_good _ _ _ ks _ row_range (more_goods {z = y} h (more_goods {z = z} k no_goods)) q n = (range_kind w (y g).shape (z g).shape, two y z true h.1 k.1 refl)
  plain_good _ _ _ ks _ (row_subsets a) (more_goods {z = y} h no_goods) q n = (member_kind a (y g).shape h.0, and_both (y g).sound true h.1 refl)
  plain_good _ _ _ ks _ (row_functions a b) (more_goods {z = y} h (more_goods {z = z} k no_goods)) q n =
      ((member_kind a (y g).shape h.0, member_kind b (z g).shape k.0), and_both (y g).sound _ h.1 (and_both (z g).sound true k.1 refl))
  plain_good _ _ _ ks _ (row_count a) (more_goods {z = y} h no_goods) q n = (tt, one y true h.1 refl)
  plain_good _ _ _ ks _ (row_at a b) (more_goods {z = y} h (more_goods {z = z} k no_goods)) q n =
      let r = fun_applied a b (y g).shape (z g).literal h.0 in (r.0, two y z _ h.1 k.1 r.1)
  plain_good _ _ _ ks _ (row_at_number b) (more_goods {z = y} h (more_goods {z = z} k no_goods)) q n =
      let r = seq_applied b (y g).shape (z g).literal h.0 in (r.0, two y z _ h.1 k.1 r.1)
  plain_good _ _ _ ks _ (row_domain a b) (more_goods {z = y} h no_goods) q n =
      domain_good ks (kind.Fun a b) (kind.Set a) y q (argument_kind_of a b (y g).shape h.0, one y _ h.1 (fun_is a b (y g).shape h.0))
  plain_good _ _ _ ks _ (row_domain_sequence a) (more_goods {z = y} h no_goods) q n =
      domain_good ks (kind.Seq a) (kind.Set kind.Number) y q (tt, one y _ h.1 (seq_places a (y g).shape h.0))
  plain_good _ _ _ ks _ (row_domain_tuple as') (more_goods {z = y} h no_goods) q n =
      domain_good ks (kind.Tup as') (kind.Set kind.Number) y q (tt, one y _ h.1 (tup_places as' (y g).shape h.0))
  plain_good _ _ _ ks _ (row_domain_record fs) (more_goods {z = y} h no_goods) q n =
      domain_good ks (kind.Rec fs) (kind.Set (kind.Word [])) y q (tt, one y _ h.1 (rec_is fs (y g).shape h.0))
  plain_good _ _ _ ks _ (row_join a b) (more_goods {z = y} h (more_goods {z = z} k no_goods)) q n =
      let a1 = argument_kind_of a b (y g).shape h.0 in
      let a2 = argument_kind_of a b (z g).shape k.0 in
      let r1 = result_kind a b (y g).shape h.0 in
      let r2 = result_kind a b (z g).shape k.0 in (
        (join_kind a (inside (y g).shape) (inside (z g).shape) a1 a2, join_kind b (result (y g).shape) (result (z g).shape) r1 r2),
        two y z _ h.1 k.1 (and_both (is_function (y g).shape) _ (fun_is a b (y g).shape h.0) (and_both (is_function (z g).shape) _ (fun_is a b (z g).shape k.0)
            (and_both (alike (inside (y g).shape) (inside (z g).shape)) _ (kinds_alike a (inside (y g).shape) (inside (z g).shape) a1 a2)
            (kinds_alike b (result (y g).shape) (result (z g).shape) r1 r2)))),
      )
  plain_good _ _ _ ks zs (row_tuple js) h q n = (tuple_kind js (shapes_of (here g zs)) (each_kind g js zs h), with_joins g zs true (sounds g js zs h) refl)
  plain_good _ _ _ ks _ (row_item i a as' e) (more_goods {z = y} h no_goods) q n = item_good i a ks y (tup_applied as' i a (y g).shape e h.0) h.1
  plain_good _ _ _ ks zs (row_record names js e) h q n =
      let r = each_kind g js zs h in (
        record_kind_of names js (shapes_of (here g zs)) r,
        with_joins g zs _ (sounds g js zs h) (record_joins names js (shapes_of (here g zs)) e (many_kinds js (shapes_of (here g zs)) r) n),
      )
  plain_good _ _ _ ks _ (row_field x a fs e) (more_goods {z = y} h no_goods) q n =
      let r = rec_applied fs x a (y g).shape e h.0 in (r.0, one y _ h.1 r.1)
  plain_good _ _ _ ks zs (row_sequence a js e) h q n =
      let r = all_kind g a js zs e h in
      (join_all_kind a (shapes_of (here g zs)) r, with_joins g zs _ (sounds g js zs h) (all_alike a (shapes_of (here g zs)) r))
  plain_good _ _ _ ks _ (row_length a) (more_goods {z = y} h no_goods) q n = (tt, one y _ h.1 (seq_is a (y g).shape h.0))
  plain_good _ _ _ ks _ (row_push a) (more_goods {z = y} h (more_goods {z = z} k no_goods)) q n =
      let r = place_kind a (y g).shape h.0 in (
        join_kind a (inside (y g).shape) (z g).shape r k.0,
        two y z _ h.1 k.1 (and_both (is_sequence (y g).shape) _ (seq_is a (y g).shape h.0) (kinds_alike a (inside (y g).shape) (z g).shape r k.0)),
      )
  plain_good _ _ _ ks _ (row_first a) (more_goods {z = y} h no_goods) q n = (item_result a (y g).shape h.0, one y _ h.1 (seq_is a (y g).shape h.0))
  plain_good _ _ _ ks _ (row_rest a) (more_goods {z = y} h no_goods) q n = (place_kind a (y g).shape h.0, one y _ h.1 (seq_is a (y g).shape h.0))
  plain_good _ _ _ ks zs (row_slice a) (more_goods {z = y} h r) q n =
      (place_kind a (y g).shape h.0, with_joins g zs _ (sounds g (kind.Seq a ∷ kind.Number ∷ kind.Number ∷ []) zs (more_goods {k = kind.Seq a} h r)) (seq_is a (y g).shape h.0))
  plain_good _ _ _ ks _ (row_glue a) (more_goods {z = y} h (more_goods {z = z} k no_goods)) q n =
      let r = place_kind a (y g).shape h.0 in
      let s = place_kind a (z g).shape k.0 in (
        join_kind a (inside (y g).shape) (inside (z g).shape) r s,
        two y z _ h.1 k.1 (and_both (is_sequence (y g).shape) _ (seq_is a (y g).shape h.0) (and_both (is_sequence (z g).shape) _ (seq_is a (z g).shape k.0)
            (kinds_alike a (inside (y g).shape) (inside (z g).shape) r s))),
      )
  plain_good _ _ _ ks _ (row_nocase a) no_goods q n = (empty_kind a, refl)
  plain_good _ _ _ ks _ row_ints no_goods q n = (tt, refl)
  plain_good _ _ _ ks _ row_nats no_goods q n = (tt, refl)
  plain_good _ _ _ ks _ row_texts no_goods q n = (tt, refl)
  plain_good _ _ _ ks zs (row_sequences a) h q n = (tt, sounds g _ zs h)
  plain_good _ _ _ ks zs (row_tuples ms) h q n =
      (tuple_kind ms (insides (shapes_of (here g zs))) (member_kinds g ms zs (each_kind g (map kind.Set ms) zs h)), with_joins g zs true (sounds g (map kind.Set ms) zs h) refl)
  plain_good _ _ _ ks zs (row_records names ms e) h q n =
      let r = member_kinds g ms zs (each_kind g (map kind.Set ms) zs h) in (
        record_kind_of names ms (insides (shapes_of (here g zs))) r,
        with_joins g zs _ (sounds g (map kind.Set ms) zs h)
            (record_joins names ms (shapes_of (here g zs)) e (many_insides (shapes_of (here g zs)) ∙ many_kinds ms (insides (shapes_of (here g zs))) r) n),
      )
    where
      many_insides : (as' : List Shape) → length as' ≡ length (insides as')
      many_insides [] = refl
      many_insides (a ∷ as') = ap suc (many_insides as')
