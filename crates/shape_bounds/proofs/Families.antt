-- Nodes of the kernel, family by family, as a walk finds them.
use Rattle.std.proofs.Common.{◌≡◌, ◌≤◌, ◌<◌, ℕ, zero, suc, ◌+◌, true, List, [], ◌∷◌, ◌++◌, map, take, drop, length, get_or, IsTrue, pos, Option, option_map, Result, Ok, Err, IfOk, refl, sym, ◌∙◌, ap, ap₂, subst, arith}
use Rattle.std.specs.declared.alloc.AllocError.{AllocError}
use Rattle.tla_values.specs.Order.{Layer}
use Rattle.tla_values.specs.declared.value.Value.{Value, out-Value}
use Rattle.tla_values.specs.declared.value.Value.TheOpen as layer
use Rattle.tla_meaning.specs.declared.place.Place.{Place}
use Rattle.tla_meaning.proofs.Views.{false≢true}
use Rattle.snowcat_rows.specs.declared.types.Ty.{Ty}
use Rattle.kernel_trees.specs.declared.kernel.Ker.{Ker, out-Ker}
use Rattle.kernel_trees.specs.declared.kernel.KerOp.{KerOp}
use Rattle.kernel_trees.specs.declared.kernel.KerOp.TheVariants as ker
use Rattle.kernel_trees.specs.Trees.{names_of}
use Rattle.kernel_shapes.specs.declared.bounds.Shape.{Shape as Code, Atom as atom, Empty as empty}
use Rattle.kernel_shapes.specs.Codes.{mean}
use Rattle.kernel_shapes.specs.Counts.{Count, count_at, either_rank, first_rank}
use Rattle.kernel_shapes.specs.Kernel.{ker_sized, kind_or_truth, kinds_in, node_kinds}
use Rattle.kernel_shapes.specs.Trees.{domain_row, tuple_row, first_kind}
use Rattle.kernel_trees.specs.TypeKinds.{Kind, kind_of}
use Rattle.kernel_trees.specs.TypeKinds as kind
use Rattle.kernel_trees.specs.declared.kernel.Ker.TheFolds.{fold_out-Ker}
use Rattle.shape_bounds.specs.inner.Nodes.{is_listed}
use Rattle.kernel_shapes.specs.Rows.{Row, Literal, no_literal, number, applied_at, row_shape, insides, set_of_interval, a_range, the_subsets, the_functions}
use Rattle.kernel_shapes.specs.Shape.{Shape, Atom}
use Rattle.kernel_shapes.specs.Sized.{Extent, Position, Sized, Sizing, walked, as_form, assigned_from, picked_from, operand, counts_of, shapes_of, outside, index_of, bind_shapes, bound_shapes}
use Rattle.kernel_shapes.proofs.SoundBinders.{evaluated}
use Rattle.shape_bounds.specs.declared.names.Names.{Names}
use Rattle.shape_bounds.specs.declared.limits.Excess.{Excess}
use Rattle.shape_bounds.specs.Excesses.{rank_of}
use Rattle.shape_bounds.specs.Kept.{IsWidth, capped, kept_top}
use Rattle.shape_bounds.specs.inner.Nodes.{binder_row, constant_shape, is_binder, is_endless, is_membership, is_product, second_of, subset_operand, walked_count}
use Rattle.shape_bounds.specs.inner.Plain.{row_of, is_plain}
use Rattle.shape_bounds.specs.Sizes.{Finds, IsCounted, IsBound, Reads, SameNames, Sizes, SizesEach, SizesUnder, all_at, kept_name}
use Rattle.shape_bounds.specs.inner.Table.{row_kept}
use Rattle.shape_bounds.proofs.BinderShapes
use Rattle.shape_bounds.proofs.Composing.{each_more, each_none, finds_more, finds_none, finds_own, finds_same, reads_same, same_more, same_self}
use Rattle.shape_bounds.proofs.Excesses.{finds_node}
use Rattle.shape_bounds.proofs.Keeping.{capped_insides}
use Rattle.shape_bounds.proofs.Means.{mean-Atom, mean-Empty}
use Rattle.shape_bounds.proofs.NamesRead.{rebuilt}
use Rattle.shape_bounds.proofs.NodeShapes
use Rattle.shape_bounds.proofs.NodeShapes.{made}
use Rattle.shape_bounds.proofs.RowsKept.{capped_applied, is_kernel_row, row_capped}

-- ---- lists of children

pub one_child : (ks : List Ker) (a : Ker) → 1 ≤ length ks → length ks < 2 → a ≡ get_or ks 0 a → ks ≡ a ∷ []
one_child [] a h l e = absurd (omega (arith, h))
one_child (x ∷ []) a h l e = ap (λ (y : Ker). y ∷ []) (sym e)
one_child (x ∷ y ∷ ks) a h l e = absurd (omega (arith, l))

pub two_children : (ks : List Ker) (a b : Ker) → 2 ≤ length ks → length ks < 3 → a ≡ get_or ks 0 a → b ≡ get_or ks 1 b → ks ≡ a ∷ b ∷ []
two_children [] a b h l e f = absurd (omega (arith, h))
two_children (x ∷ []) a b h l e f = absurd (omega (arith, h))
two_children (x ∷ y ∷ []) a b h l e f = ap₂ (λ (z u : Ker). z ∷ u ∷ []) (sym e) (sym f)
two_children (x ∷ y ∷ z ∷ ks) a b h l e f = absurd (omega (arith, l))

pub three_children : (ks : List Ker) (a b c : Ker) → 3 ≤ length ks → length ks < 4 → a ≡ get_or ks 0 a → b ≡ get_or ks 1 b → c ≡ get_or ks 2 c → ks ≡ a ∷ b ∷ c ∷ []
three_children [] a b c h l e f g = absurd (omega (arith, h))
three_children (x ∷ []) a b c h l e f g = absurd (omega (arith, h))
three_children (x ∷ y ∷ []) a b c h l e f g = absurd (omega (arith, h))
three_children (x ∷ y ∷ z ∷ []) a b c h l e f g = ap₂ (λ (u v : Ker). u ∷ v ∷ z ∷ []) (sym e) (sym f) ∙ ap (λ (u : Ker). a ∷ b ∷ u ∷ []) (sym g)
three_children (x ∷ y ∷ z ∷ u ∷ ks) a b c h l e f g = absurd (omega (arith, l))

-- the first may be any
pub three_but_first : (ks : List Ker) (d b c : Ker) → 3 ≤ length ks → length ks < 4 → b ≡ get_or ks 1 b → c ≡ get_or ks 2 c → ks ≡ get_or ks 0 d ∷ b ∷ c ∷ []
three_but_first [] d b c h l e f = absurd (omega (arith, h))
three_but_first (x ∷ []) d b c h l e f = absurd (omega (arith, h))
three_but_first (x ∷ y ∷ []) d b c h l e f = absurd (omega (arith, h))
three_but_first (x ∷ y ∷ z ∷ []) d b c h l e f = ap₂ (λ (u v : Ker). x ∷ u ∷ v ∷ []) (sym e) (sym f)
three_but_first (x ∷ y ∷ z ∷ u ∷ ks) d b c h l e f = absurd (omega (arith, l))

pub one_first : (ks : List Ker) (a : Ker) → 1 ≤ length ks → a ≡ get_or ks 0 a → ks ≡ a ∷ drop 1 ks
one_first [] a h e = absurd (omega (arith, h))
one_first (x ∷ ks) a h e = ap (λ (u : Ker). u ∷ ks) (sym e)

pub two_first : (ks : List Ker) (a b : Ker) → 2 ≤ length ks → a ≡ get_or ks 0 a → b ≡ get_or ks 1 b → ks ≡ a ∷ b ∷ drop 2 ks
two_first [] a b h e f = absurd (omega (arith, h))
two_first (x ∷ []) a b h e f = absurd (omega (arith, h))
two_first (x ∷ y ∷ ks) a b h e f = ap₂ (λ (z u : Ker). z ∷ u ∷ ks) (sym e) (sym f)

pub front_and_last : (ks : List Ker) (n : ℕ) (b : Ker) → length ks ≡ suc n → b ≡ get_or ks n b → ks ≡ take n ks ++ b ∷ []
front_and_last [] n b h e = absurd (omega (arith, h))
front_and_last (x ∷ []) zero b h e = ap (λ (y : Ker). y ∷ []) (sym e)
front_and_last (x ∷ y ∷ ks) zero b h e = absurd (omega (arith, h))
front_and_last (x ∷ ks) (suc n) b h e = ap (λ (js : List Ker). x ∷ js) (front_and_last ks n b (omega (arith, h)) e)

pub front_length : (ks : List Ker) (n : ℕ) → length ks ≡ suc n → n ≡ length (take n ks)
front_length [] n h = absurd (omega (arith, h))
front_length (x ∷ ks) zero h = refl
front_length (x ∷ ks) (suc n) h = ap suc (front_length ks n (omega (arith, h)))

-- ---- names of one width

pub width_same : (a b : Names) → SameNames a b → IsWidth a.width → IsWidth b.width
width_same a b h i = record {
  some = subst (λ (n : ℕ). 1 ≤ n) (sym h.width) i.some;
  narrow = subst (λ (n : ℕ). n ≤ 64) (sym h.width) i.narrow;
}

pub any_site : (old new : Names) (z : Sizing) (q : Position) (res : Result Code AllocError) → IfOk res (λ r. (p : Position) → Sizes old new z p r) → IfOk res (λ r. Sizes old new z q r)
any_site old new z q (Ok r) h = h q
any_site old new z q (Err e) h = tt

pub at_width : (a b c : Names) (k : Ker) (q : Position) (r : Code) → SameNames a b → Sizes b c (ker_sized b.width k) q r → Sizes b c (ker_sized a.width k) q r
at_width a b c k q r h s = subst (λ (w : ℕ). Sizes b c (ker_sized w k) q r) h.width s

-- ---- a node whose own number is counted where it is walked

finds_form : (old mid new : Names) (p : Place) (q : Position) (a : Shape) (r : Code) (cs : List Count) → Finds old mid cs →
    Finds mid new (walked_count q p (mean r)) → capped a ≡ mean r → Finds old new (walked_count q p a ++ cs)
finds_form old mid new p walked a r cs h k e = finds_node old mid new p a r cs h k e
finds_form old mid new p as_form a r cs h k e = finds_own old mid new [] cs h k
finds_form old mid new p assigned_from a r cs h k e = finds_own old mid new [] cs h k
finds_form old mid new p picked_from a r cs h k e = finds_own old mid new [] cs h k

module _ (old mid new : Names) (k : Ker) (r : Code) (q : Position) (a : Extent → Shape) (cs : Extent → List Count) where
  pub node_sized : ((g : Extent) → (ker_sized old.width k g).shape ≡ a g) →
      ((g : Extent) → (ker_sized old.width k g).counts q ≡ count_at (out-Ker k).place (a g) ++ cs g) →
      SameNames old mid → ((g : Extent) → Reads old g → capped (a g) ≡ mean r) → ((g : Extent) → Reads old g → Finds old mid (cs g)) →
      IsCounted mid new (count_at (out-Ker k).place (mean r)) → Sizes old new (ker_sized old.width k) q r
  node_sized e f s h i c = record {
    same = same_more old mid new s c.same;
    shape = λ g l. ap capped (e g) ∙ h g l;
    finds = λ g l. finds_same old new _ _ (sym (f g)) (finds_node old mid new (out-Ker k).place (a g) r (cs g) (i g l) c.finds (h g l));
  }

  form_sized : ((g : Extent) → (ker_sized old.width k g).shape ≡ a g) →
      ((g : Extent) → (ker_sized old.width k g).counts q ≡ walked_count q (out-Ker k).place (a g) ++ cs g) →
      SameNames old mid → ((g : Extent) → Reads old g → capped (a g) ≡ mean r) → ((g : Extent) → Reads old g → Finds old mid (cs g)) →
      IsCounted mid new (walked_count q (out-Ker k).place (mean r)) → Sizes old new (ker_sized old.width k) q r
  form_sized e f s h i c = record {
    same = same_more old mid new s c.same;
    shape = λ g l. ap capped (e g) ∙ h g l;
    finds = λ g l. finds_same old new _ _ (sym (f g)) (finds_form old mid new (out-Ker k).place q (a g) r (cs g) (i g l) c.finds (h g l));
  }

-- a row by what its operands are
row_means : (w v : ℕ) → w ≤ 64 → v ≡ w → (o : Row) → is_kernel_row o ≡ true → (l : Literal) (as' bs : List Shape) (r : Code) →
    map capped as' ≡ bs → mean r ≡ row_kept v o l bs → capped (row_shape w o l as') ≡ mean r
row_means w v le s o h l as' bs r e f = row_capped w le o h l as' ∙ ap (row_kept w o l) e ∙ sym (f ∙ ap (λ (n : ℕ). row_kept n o l bs) s)

-- ---- operators that walk all their children

outside_all : (zs : List Sizing) (g : Extent) → outside [] zs g ≡ all_at zs g
outside_all [] g = refl
outside_all (z ∷ zs) g = ap (λ (as' : List Sized). z g ∷ as') (outside_all zs g)

second_literal : (w : ℕ) (ks : List Ker) (g : Extent) → index_of (all_at (map (ker_sized w) ks) g) ≡ second_of ks
second_literal w [] g = refl
second_literal w (k ∷ []) g = refl
second_literal w (k ∷ j ∷ ks) g = ap (λ (i : Ker). (ker_sized w i g).literal) (rebuilt j _ _ refl refl) ∙ NodeShapes.literal_is_of w _ _ _ g (out-Ker j).op (out-Ker j).args

rows_are_kernel : (o : KerOp) → is_kernel_row (row_of o) ≡ true
rows_are_kernel ker.Plus = refl
rows_are_kernel o = refl

module _ (w : ℕ) (k : Ker) where
  plain_row : IsTrue (is_plain (out-Ker k).op) → (g : Extent) → (ker_sized w k g).shape
      ≡ row_shape w (row_of (out-Ker k).op) (second_of (out-Ker k).args) (shapes_of (all_at (map (ker_sized w) (out-Ker k).args) g))
  plain_row h g =
      ap (λ (j : Ker). (ker_sized w j g).shape) (rebuilt k _ _ refl refl)
      ∙ NodeShapes.plain_shape w _ _ _ g (out-Ker k).op h (out-Ker k).args
      ∙ ap (λ (as' : List Sized). row_shape w (row_of (out-Ker k).op) (index_of as') (shapes_of as')) (outside_all (map (ker_sized w) (out-Ker k).args) g)
      ∙ ap (λ (l : Literal). row_shape w (row_of (out-Ker k).op) l (shapes_of (all_at (map (ker_sized w) (out-Ker k).args) g))) (second_literal w (out-Ker k).args g)

  plain_numbers : IsTrue (is_plain (out-Ker k).op) → (g : Extent) (q : Position) → (ker_sized w k g).counts q
      ≡ count_at (out-Ker k).place (row_shape w (row_of (out-Ker k).op) (second_of (out-Ker k).args) (shapes_of (all_at (map (ker_sized w) (out-Ker k).args) g)))
      ++ counts_of walked (all_at (map (ker_sized w) (out-Ker k).args) g)
  plain_numbers h g q =
      ap (λ (j : Ker). (ker_sized w j g).counts q) (rebuilt k _ _ refl refl)
      ∙ NodeShapes.plain_counts w _ _ _ g (out-Ker k).op h (out-Ker k).args q
      ∙ ap (λ (as' : List Sized). count_at (out-Ker k).place (row_shape w (row_of (out-Ker k).op) (index_of as') (shapes_of as')) ++ counts_of walked as')
      (outside_all (map (ker_sized w) (out-Ker k).args) g)
      ∙ ap (λ (l : Literal). count_at (out-Ker k).place (row_shape w (row_of (out-Ker k).op) l (shapes_of (all_at (map (ker_sized w) (out-Ker k).args) g)))
      ++ counts_of walked (all_at (map (ker_sized w) (out-Ker k).args) g)) (second_literal w (out-Ker k).args g)

pub plain_sized : (old mid new : Names) (k : Ker) (rs : List Code) (r : Code) → IsWidth old.width → IsTrue (is_plain (out-Ker k).op) →
    SizesEach old mid (map (ker_sized old.width) (out-Ker k).args) walked rs →
    mean r ≡ row_kept mid.width (row_of (out-Ker k).op) (second_of (out-Ker k).args) (map mean rs) →
    IsCounted mid new (count_at (out-Ker k).place (mean r)) → (q : Position) → Sizes old new (ker_sized old.width k) q r
plain_sized old mid new k rs r i h s e c q =
    node_sized old mid new k r q _ (λ g. counts_of walked (all_at (map (ker_sized old.width) (out-Ker k).args) g))
    (plain_row old.width k h) (λ g. plain_numbers old.width k h g q) s.same
    (λ g l. row_means old.width mid.width i.narrow s.same.width (row_of (out-Ker k).op) (rows_are_kernel (out-Ker k).op) (second_of (out-Ker k).args) _ _ r (s.shapes g l) e)
    (λ g l. s.finds g l) c

-- ---- records and tuples as forms

product_row : (w : ℕ) (p : Place) (t : Ty) (o : KerOp) (ks : List Ker) (xs : List ℕ) → is_product o ≡ true → (g : Extent) → (ker_sized w (made p t o ks xs) g).shape
    ≡ row_shape w (row_of o) no_literal (shapes_of (all_at (map (ker_sized w) ks) g))
product_row w p t (ker.RecForm ys) ks xs h g =
    NodeShapes.records_shape w p t xs g ys ks ∙ ap (λ (as' : List Sized). row_shape w (row_of (ker.RecForm ys)) no_literal (shapes_of as')) (outside_all (map (ker_sized w) ks) g)
product_row w p t ker.TupForm ks xs h g =
    NodeShapes.tuples_shape w p t xs g ks ∙ ap (λ (as' : List Sized). row_shape w (row_of ker.TupForm) no_literal (shapes_of as')) (outside_all (map (ker_sized w) ks) g)
product_row w p t o ks xs h g = absurd (false≢true h)

product_numbers : (w : ℕ) (p : Place) (t : Ty) (o : KerOp) (ks : List Ker) (xs : List ℕ) → is_product o ≡ true → (g : Extent) (q : Position) →
    (ker_sized w (made p t o ks xs) g).counts q
    ≡ walked_count q p (row_shape w (row_of o) no_literal (shapes_of (all_at (map (ker_sized w) ks) g))) ++ counts_of (operand q) (all_at (map (ker_sized w) ks) g)
product_numbers w p t (ker.RecForm ys) ks xs h g walked =
    NodeShapes.records_walked w p t xs g ys ks
    ∙ ap (λ (as' : List Sized). count_at p (row_shape w (row_of (ker.RecForm ys)) no_literal (shapes_of as')) ++ counts_of walked as') (outside_all (map (ker_sized w) ks) g)
product_numbers w p t (ker.RecForm ys) ks xs h g as_form = NodeShapes.records_form w p t xs g ys ks ∙ ap (counts_of as_form) (outside_all (map (ker_sized w) ks) g)
product_numbers w p t (ker.RecForm ys) ks xs h g assigned_from = NodeShapes.records_assigned w p t xs g ys ks ∙ ap (counts_of assigned_from) (outside_all (map (ker_sized w) ks) g)
product_numbers w p t (ker.RecForm ys) ks xs h g picked_from = NodeShapes.records_picked w p t xs g ys ks ∙ ap (counts_of walked) (outside_all (map (ker_sized w) ks) g)
product_numbers w p t ker.TupForm ks xs h g walked =
    NodeShapes.tuples_walked w p t xs g ks
    ∙ ap (λ (as' : List Sized). count_at p (row_shape w (row_of ker.TupForm) no_literal (shapes_of as')) ++ counts_of walked as') (outside_all (map (ker_sized w) ks) g)
product_numbers w p t ker.TupForm ks xs h g as_form = NodeShapes.tuples_form w p t xs g ks ∙ ap (counts_of as_form) (outside_all (map (ker_sized w) ks) g)
product_numbers w p t ker.TupForm ks xs h g assigned_from = NodeShapes.tuples_assigned w p t xs g ks ∙ ap (counts_of assigned_from) (outside_all (map (ker_sized w) ks) g)
product_numbers w p t ker.TupForm ks xs h g picked_from = NodeShapes.tuples_picked w p t xs g ks ∙ ap (counts_of walked) (outside_all (map (ker_sized w) ks) g)
product_numbers w p t o ks xs h g q = absurd (false≢true h)

pub product_sized : (old mid new : Names) (k : Ker) (q u : Position) (rs : List Code) (r : Code) → IsWidth old.width → is_product (out-Ker k).op ≡ true →
    u ≡ operand q → SizesEach old mid (map (ker_sized old.width) (out-Ker k).args) u rs →
    mean r ≡ row_kept mid.width (row_of (out-Ker k).op) no_literal (map mean rs) →
    IsCounted mid new (walked_count q (out-Ker k).place (mean r)) → Sizes old new (ker_sized old.width k) q r
product_sized old mid new k q u rs r i h at s e c =
    form_sized old mid new k r q _ (λ g. counts_of (operand q) (all_at (map (ker_sized old.width) (out-Ker k).args) g))
    (λ g. ap (λ (j : Ker). (ker_sized old.width j g).shape) (rebuilt k _ _ refl refl) ∙ product_row old.width _ _ (out-Ker k).op (out-Ker k).args _ h g)
    (λ g. ap (λ (j : Ker). (ker_sized old.width j g).counts q) (rebuilt k _ _ refl refl) ∙ product_numbers old.width _ _ (out-Ker k).op (out-Ker k).args _ h g q)
    s.same
    (λ g l. row_means old.width mid.width i.narrow s.same.width (row_of (out-Ker k).op) (rows_are_kernel (out-Ker k).op) no_literal _ _ r (s.shapes g l) e)
    (λ g l. finds_same old mid _ _ (ap (λ (p : Position). counts_of p (all_at (map (ker_sized old.width) (out-Ker k).args) g)) at) (s.finds g l)) c

-- ---- infinite sets

pub endless_sized : (old new : Names) (k : Ker) (rs : List Code) → is_endless (out-Ker k).op ≡ true →
    SizesEach old new (map (ker_sized old.width) (out-Ker k).args) as_form rs → (q : Position) → Sizes old new (ker_sized old.width k) q empty
endless_sized old new k rs h s q = record {
  same = s.same;
  shape = λ g l.
      ap (λ (j : Ker). capped (ker_sized old.width j g).shape) (rebuilt k _ _ refl refl)
      ∙ ap capped (NodeShapes.endless_shape old.width _ _ _ g (out-Ker k).op h (out-Ker k).args) ∙ sym mean-Empty;
  finds = λ g l.
      finds_same old new _ _
      (sym (ap (λ (j : Ker). (ker_sized old.width j g).counts q) (rebuilt k _ _ refl refl) ∙ NodeShapes.endless_counts old.width _ _ _ g (out-Ker k).op h (out-Ker k).args q
      ∙ ap (counts_of as_form) (outside_all (map (ker_sized old.width) (out-Ker k).args) g)))
      (s.finds g l);
}

-- ---- memberships

member_row : (w : ℕ) (p : Place) (t : Ty) (o : KerOp) (ks : List Ker) (xs : List ℕ) → is_membership o ≡ true → (g : Extent) → (ker_sized w (made p t o ks xs) g).shape ≡ Atom
member_row w p t ker.Member ks xs h g = NodeShapes.member_shape w p t xs g ks
member_row w p t ker.Included ks xs h g = NodeShapes.included_shape w p t xs g ks
member_row w p t o ks xs h g = absurd (false≢true h)

member_numbers : (w : ℕ) (p : Place) (t : Ty) (o : KerOp) (a s : Ker) (xs : List ℕ) → is_membership o ≡ true → (g : Extent) (q : Position) →
    (ker_sized w (made p t o (a ∷ s ∷ []) xs) g).counts q ≡ (ker_sized w a g).counts walked ++ (ker_sized w s g).counts as_form
member_numbers w p t ker.Member a s xs h g q = NodeShapes.member_counts w p t xs g a s q
member_numbers w p t ker.Included a s xs h g q = NodeShapes.included_counts w p t xs g a s q
member_numbers w p t o a s xs h g q = absurd (false≢true h)

pub member_sized : (old mid new : Names) (k a s : Ker) (r u : Code) → is_membership (out-Ker k).op ≡ true → (out-Ker k).args ≡ a ∷ s ∷ [] →
    Sizes old mid (ker_sized old.width a) walked r → Sizes mid new (ker_sized mid.width s) as_form u → (q : Position) → Sizes old new (ker_sized old.width k) q atom
member_sized old mid new k a s r u h e i j q =
    let b : Sizes mid new (ker_sized old.width s) as_form u = at_width old mid new s as_form u i.same j in
    record {
      same = same_more old mid new i.same j.same;
      shape = λ g l.
          ap (λ (j : Ker). capped (ker_sized old.width j g).shape) (rebuilt k _ _ refl e) ∙ ap capped (member_row old.width _ _ (out-Ker k).op _ _ h g) ∙ sym mean-Atom;
      finds = λ g l.
          finds_same old new _ _
          (sym (ap (λ (j : Ker). (ker_sized old.width j g).counts q) (rebuilt k _ _ refl e) ∙ member_numbers old.width _ _ (out-Ker k).op a s _ h g q))
          (finds_more old mid new ((ker_sized old.width a g).counts walked) ((ker_sized old.width s g).counts as_form) (i.finds g l) (b.finds g (reads_same old mid g i.same l)));
    }

-- ---- sets of subsets and of functions

subsets_numbers : (w : ℕ) (p : Place) (t : Ty) (a : Ker) (xs : List ℕ) (g : Extent) (q : Position) → (ker_sized w (made p t ker.Subsets (a ∷ []) xs) g).counts q
    ≡ walked_count q p (row_shape w the_subsets no_literal ((ker_sized w a g).shape ∷ [])) ++ (ker_sized w a g).counts (subset_operand q)
subsets_numbers w p t a xs g walked = NodeShapes.subsets_walked w p t xs g a
subsets_numbers w p t a xs g as_form = NodeShapes.subsets_form w p t xs g a
subsets_numbers w p t a xs g assigned_from = NodeShapes.subsets_assigned w p t xs g a
subsets_numbers w p t a xs g picked_from = NodeShapes.subsets_picked w p t xs g a

pub subsets_sized : (old mid new : Names) (k a : Ker) (q u : Position) (b r : Code) → IsWidth old.width → (out-Ker k).op ≡ ker.Subsets → (out-Ker k).args ≡ a ∷ [] →
    u ≡ subset_operand q → Sizes old mid (ker_sized old.width a) u b → ((w : ℕ) → mean r ≡ row_kept w the_subsets no_literal (mean b ∷ [])) →
    IsCounted mid new (walked_count q (out-Ker k).place (mean r)) → Sizes old new (ker_sized old.width k) q r
subsets_sized old mid new k a q u b r i o e at s f c =
    form_sized old mid new k r q (λ g. row_shape old.width the_subsets no_literal ((ker_sized old.width a g).shape ∷ [])) (λ g. (ker_sized old.width a g).counts (subset_operand q))
    (λ g. ap (λ (j : Ker). (ker_sized old.width j g).shape) (rebuilt k _ _ o e) ∙ NodeShapes.subsets_shape old.width _ _ _ g a)
    (λ g. ap (λ (j : Ker). (ker_sized old.width j g).counts q) (rebuilt k _ _ o e) ∙ subsets_numbers old.width _ _ a _ g q)
    s.same
    (λ g l. row_means old.width old.width i.narrow refl the_subsets refl no_literal ((ker_sized old.width a g).shape ∷ []) (mean b ∷ []) r (ap (λ (x : Shape). x ∷ []) (s.shape g l)) (f old.width))
    (λ g l. finds_same old mid _ _ (ap (λ (p : Position). (ker_sized old.width a g).counts p) at) (s.finds g l)) c

functions_numbers : (w : ℕ) (p : Place) (t : Ty) (a b : Ker) (xs : List ℕ) (g : Extent) (q : Position) → (ker_sized w (made p t ker.Functions (a ∷ b ∷ []) xs) g).counts q
    ≡ walked_count q p (row_shape w the_functions no_literal ((ker_sized w a g).shape ∷ (ker_sized w b g).shape ∷ []))
    ++ ((ker_sized w a g).counts walked ++ (ker_sized w b g).counts (operand q))
functions_numbers w p t a b xs g walked = NodeShapes.functions_walked w p t xs g a b
functions_numbers w p t a b xs g as_form = NodeShapes.functions_form w p t xs g a b
functions_numbers w p t a b xs g assigned_from = NodeShapes.functions_assigned w p t xs g a b
functions_numbers w p t a b xs g picked_from = NodeShapes.functions_picked w p t xs g a b

pub functions_sized : (old one mid new : Names) (k a b : Ker) (q u : Position) (x y r : Code) → IsWidth old.width → (out-Ker k).op ≡ ker.Functions → (out-Ker k).args ≡ a ∷ b ∷ [] →
    u ≡ operand q → Sizes old one (ker_sized old.width a) walked x → Sizes one mid (ker_sized one.width b) u y →
    ((w : ℕ) → mean r ≡ row_kept w the_functions no_literal (mean x ∷ mean y ∷ [])) →
    IsCounted mid new (walked_count q (out-Ker k).place (mean r)) → Sizes old new (ker_sized old.width k) q r
functions_sized old one mid new k a b q u x y r i o e at s t f c =
    let v : Sizes one mid (ker_sized old.width b) u y = at_width old one mid b u y s.same t in
    form_sized old mid new k r q (λ g. row_shape old.width the_functions no_literal ((ker_sized old.width a g).shape ∷ (ker_sized old.width b g).shape ∷ []))
    (λ g. (ker_sized old.width a g).counts walked ++ (ker_sized old.width b g).counts (operand q))
    (λ g. ap (λ (j : Ker). (ker_sized old.width j g).shape) (rebuilt k _ _ o e) ∙ NodeShapes.functions_shape old.width _ _ _ g a b)
    (λ g. ap (λ (j : Ker). (ker_sized old.width j g).counts q) (rebuilt k _ _ o e) ∙ functions_numbers old.width _ _ a b _ g q)
    (same_more old one mid s.same v.same)
    (λ g l. row_means old.width old.width i.narrow refl the_functions refl no_literal ((ker_sized old.width a g).shape ∷ (ker_sized old.width b g).shape ∷ []) (mean x ∷ mean y ∷ []) r
    (ap₂ (λ (m n : Shape). m ∷ n ∷ []) (s.shape g l) (v.shape g (reads_same old one g s.same l))) (f old.width))
    (λ g l. finds_more old one mid ((ker_sized old.width a g).counts walked) ((ker_sized old.width b g).counts (operand q)) (s.finds g l)
    (finds_same one mid _ _ (ap (λ (p : Position). (ker_sized old.width b g).counts p) at) (v.finds g (reads_same old one g s.same l)))) c

-- ---- intervals of numbers, items of tuples

pub range_sized : (old one mid new : Names) (k a b : Ker) (js : List Ker) (x y r : Code) → IsWidth old.width → (out-Ker k).op ≡ ker.Range → (out-Ker k).args ≡ a ∷ b ∷ js →
    Sizes old one (ker_sized old.width a) walked x → Sizes one mid (ker_sized one.width b) walked y →
    ((w : ℕ) → mean r ≡ kept_top (set_of_interval w (mean x) (mean y))) →
    IsCounted mid new (count_at (out-Ker k).place (mean r)) → (q : Position) → Sizes old new (ker_sized old.width k) q r
range_sized old one mid new k a b js x y r i o e s t f c q =
    let v : Sizes one mid (ker_sized old.width b) walked y = at_width old one mid b walked y s.same t in
    node_sized old mid new k r q (λ g. row_shape old.width a_range (ker_sized old.width b g).literal ((ker_sized old.width a g).shape ∷ (ker_sized old.width b g).shape ∷ []))
    (λ g. (ker_sized old.width a g).counts walked ++ ((ker_sized old.width b g).counts walked ++ []))
    (λ g. ap (λ (j : Ker). (ker_sized old.width j g).shape) (rebuilt k _ _ o e) ∙ NodeShapes.range_shape old.width _ _ _ g a b js)
    (λ g. ap (λ (j : Ker). (ker_sized old.width j g).counts q) (rebuilt k _ _ o e) ∙ NodeShapes.range_counts old.width _ _ _ g a b js q)
    (same_more old one mid s.same v.same)
    (λ g l. row_means old.width old.width i.narrow refl a_range refl (ker_sized old.width b g).literal ((ker_sized old.width a g).shape ∷ (ker_sized old.width b g).shape ∷ []) (mean x ∷ mean y ∷ []) r
    (ap₂ (λ (m n : Shape). m ∷ n ∷ []) (s.shape g l) (v.shape g (reads_same old one g s.same l))) (f old.width))
    (λ g l. finds_more old one mid ((ker_sized old.width a g).counts walked) (((ker_sized old.width b g).counts walked) ++ []) (s.finds g l) (finds_more one mid mid ((ker_sized old.width b g).counts walked) [] (v.finds g (reads_same old one g s.same l)) (finds_none mid))) c

pub item_sized : (old mid new : Names) (k a : Ker) (n : ℕ) (x r : Code) → (out-Ker k).op ≡ ker.Item n → (out-Ker k).args ≡ a ∷ [] →
    Sizes old mid (ker_sized old.width a) walked x → mean r ≡ applied_at (mean x) (number (pos n)) →
    IsCounted mid new (count_at (out-Ker k).place (mean r)) → (q : Position) → Sizes old new (ker_sized old.width k) q r
item_sized old mid new k a n x r o e s f c q =
    node_sized old mid new k r q (λ g. applied_at (ker_sized old.width a g).shape (number (pos n))) (λ g. (ker_sized old.width a g).counts walked ++ [])
    (λ g. ap (λ (j : Ker). (ker_sized old.width j g).shape) (rebuilt k _ _ o e) ∙ NodeShapes.item_shape old.width _ _ _ g n a)
    (λ g. ap (λ (j : Ker). (ker_sized old.width j g).counts q) (rebuilt k _ _ o e) ∙ NodeShapes.item_counts old.width _ _ _ g n a q)
    s.same
    (λ g l. capped_applied (ker_sized old.width a g).shape (number (pos n)) ∙ ap (λ (y : Shape). applied_at y (number (pos n))) (s.shape g l) ∙ sym f)
    (λ g l. finds_more old mid mid ((ker_sized old.width a g).counts walked) [] (s.finds g l) (finds_none mid)) c

-- ---- constants

constant_capped : (w : ℕ) (l : Layer Value) → capped (constant_shape w l) ≡ constant_shape w l
constant_capped w (layer.Bool b) = refl
constant_capped w (layer.Int n) = refl
constant_capped w (layer.Text x) = refl
constant_capped w l = refl

pub constant_sized : (s : Names) (k : Ker) (v : Value) (r : Code) → (out-Ker k).op ≡ ker.Const v → mean r ≡ constant_shape s.width (out-Value v) →
    (q : Position) → Sizes s s (ker_sized s.width k) q r
constant_sized s k v r o e q = record {
  same = same_self s;
  shape = λ g l.
      ap (λ (j : Ker). capped (ker_sized s.width j g).shape) (rebuilt k _ _ o refl)
      ∙ ap capped (NodeShapes.value_shape s.width _ _ _ g v _) ∙ constant_capped s.width (out-Value v) ∙ sym e;
  finds = λ g l.
      finds_same s s _ _ (sym (ap (λ (j : Ker). (ker_sized s.width j g).counts q) (rebuilt k _ _ o refl) ∙ NodeShapes.value_counts s.width _ _ _ g v _ q)) (finds_none s);
}

pub no_case_sized : (s : Names) (k : Ker) → (out-Ker k).op ≡ ker.NoCase → (q : Position) → Sizes s s (ker_sized s.width k) q empty
no_case_sized s k o q = record {
  same = same_self s;
  shape = λ g l.
      ap (λ (j : Ker). capped (ker_sized s.width j g).shape) (rebuilt k _ _ o refl) ∙ ap capped (NodeShapes.no_case_shape s.width _ _ _ g _) ∙ sym mean-Empty;
  finds = λ g l.
      finds_same s s _ _ (sym (ap (λ (j : Ker). (ker_sized s.width j g).counts q) (rebuilt k _ _ o refl) ∙ NodeShapes.no_case_counts s.width _ _ _ g _ q)) (finds_none s);
}

-- ---- lists of trees

pub each_start : (s : Names) (q : Position) (rs : List Code) → rs ≡ [] → SizesEach s s [] q rs
each_start s q rs e = subst (λ (us : List Code). SizesEach s s [] q us) (sym e) (each_none s q)

one_more : (f : Ker → Sizing) (ks : List Ker) (n : ℕ) (k : Ker) → n < length ks → k ≡ get_or ks n k → map f (take n ks) ++ f k ∷ [] ≡ map f (take (n + 1) ks)
one_more f ks n k h e = by ks n h e ∙ (let one : suc n ≡ n + 1 = omega arith in ap (λ (m : ℕ). map f (take m ks)) one)
  where
    by : (js : List Ker) (m : ℕ) → m < length js → k ≡ get_or js m k → map f (take m js) ++ f k ∷ [] ≡ map f (take (suc m) js)
    by [] m h e = absurd (omega (arith, h))
    by (j ∷ js) zero h e = ap (λ (i : Ker). f i ∷ []) e
    by (j ∷ js) (suc m) h e = ap (λ (zs : List Sizing). f j ∷ zs) (by js m (omega (arith, h)) e)

pub each_next : (a b c : Names) (ks : List Ker) (n : ℕ) (k : Ker) (q : Position) (rs new : List Code) (r : Code) →
    SizesEach a b (map (ker_sized a.width) (take n ks)) q rs → n < length ks → k ≡ get_or ks n k → Sizes b c (ker_sized b.width k) q r →
    new ≡ rs ++ r ∷ [] → SizesEach a c (map (ker_sized a.width) (take (n + 1) ks)) q new
each_next a b c ks n k q rs new r h l e s f =
    subst (λ (zs : List Sizing). SizesEach a c zs q new) (one_more (ker_sized a.width) ks n k l e)
    (each_more a b c (map (ker_sized a.width) (take n ks)) (ker_sized a.width k) q rs new r h (at_width a b c k q r h.same s) f)

all_taken : (ks : List Ker) (n : ℕ) → length ks ≤ n → take n ks ≡ ks
all_taken [] zero h = refl
all_taken [] (suc n) h = refl
all_taken (k ∷ ks) zero h = absurd (omega (arith, h))
all_taken (k ∷ ks) (suc n) h = ap (λ (js : List Ker). k ∷ js) (all_taken ks n (omega (arith, h)))

pub each_whole : (a b : Names) (ks : List Ker) (n : ℕ) (q : Position) (rs : List Code) → SizesEach a b (map (ker_sized a.width) (take n ks)) q rs →
    length ks ≤ n → SizesEach a b (map (ker_sized a.width) ks) q rs
each_whole a b ks n q rs h l = subst (λ (js : List Ker). SizesEach a b (map (ker_sized a.width) js) q rs) (all_taken ks n l) h

-- ---- under further numbers

pub more_kept : (xs ys : List (List ℕ × Shape)) → map kept_name (xs ++ ys) ≡ map kept_name xs ++ map kept_name ys
more_kept [] ys = refl
more_kept (x ∷ xs) ys = ap (λ (zs : List (List ℕ × Shape)). kept_name x ∷ zs) (more_kept xs ys)

pub bound_kept : (xs : List (List ℕ)) (bs : List Shape) → map kept_name (bound_shapes xs bs) ≡ bound_shapes xs (map capped bs)
bound_kept [] bs = refl
bound_kept (x ∷ xs) [] = ap (λ (zs : List (List ℕ × Shape)). (x, Atom) ∷ zs) (bound_kept xs [])
bound_kept (x ∷ xs) (b ∷ bs) = ap (λ (zs : List (List ℕ × Shape)). (x, capped b) ∷ zs) (bound_kept xs bs)

pub reads_bound : (old mid : Names) (xs : List ℕ) (as' bs : List Shape) (g : Extent) → IsBound old mid xs as' → Reads old g → map capped bs ≡ as' → Reads mid (bind_shapes (names_of xs) bs g)
reads_bound old mid xs as' bs g h l e = record {
  now = l.now ∙ sym (ap (λ v. map (option_map mean) v.items) h.state);
  next = l.next ∙ sym (ap (λ v. map (option_map mean) v.items) h.next);
  bound =
      more_kept g.bound (bound_shapes (names_of xs) bs)
      ∙ ap₂ (λ (us vs : List (List ℕ × Shape)). us ++ vs) l.bound (bound_kept (names_of xs) bs ∙ ap (bound_shapes (names_of xs)) e)
      ∙ sym h.bound;
}

pub under_finds : (old mid late new : Names) (cs : List Count) → mid.first ≡ old.first → new.first ≡ late.first → Finds mid late cs → Finds old new cs
under_finds old mid late new cs e f h =
    ap (option_map rank_of) f ∙ h ∙ ap (λ (o : Option Excess). either_rank (option_map rank_of o) (first_rank cs)) e

pub under_sized : (old mid late new : Names) (n : ℕ) (k : Ker) (xs : List ℕ) (as' : List Shape) (r : Code) → IsBound old mid xs as' → Sizes mid late (ker_sized mid.width k) walked r →
    new.width ≡ late.width → new.state ≡ late.state → new.next ≡ late.next → new.first ≡ late.first →
    new.bound.items ≡ take n late.bound.items → n ≡ length old.bound.items → SizesUnder old new (ker_sized old.width k) xs as' r
under_sized old mid late new n k xs as' r h s ew es en ef eb nb =
    let t : Sizes mid late (ker_sized old.width k) walked r = subst (λ (w : ℕ). Sizes mid late (ker_sized w k) walked r) h.width s in
    record {
      same = record {
        width = ew ∙ s.same.width ∙ h.width;
        state = es ∙ s.same.state ∙ h.state;
        next = en ∙ s.same.next ∙ h.next;
        bound = eb ∙ ap (λ (m : ℕ). take m late.bound.items) nb ∙ ap (take (length old.bound.items)) s.same.bound ∙ h.front;
      };
      shape = λ g bs l e. t.shape (bind_shapes (names_of xs) bs g) (reads_bound old mid xs as' bs g h l e);
      finds = λ g bs l e. under_finds old mid late new ((ker_sized old.width k (bind_shapes (names_of xs) bs g)).counts walked) h.first ef (t.finds (bind_shapes (names_of xs) bs g) (reads_bound old mid xs as' bs g h l e));
    }

pub bound_width : (old mid : Names) (xs : List ℕ) (as' : List Shape) → IsBound old mid xs as' → IsWidth old.width → IsWidth mid.width
bound_width old mid xs as' h i = record {
  some = subst (λ (n : ℕ). 1 ≤ n) (sym h.width) i.some;
  narrow = subst (λ (n : ℕ). n ≤ 64) (sym h.width) i.narrow;
}

-- ---- binders

evaluated_all : (g : Extent) (zs : List Sizing) → evaluated g zs ≡ all_at zs g
evaluated_all g [] = refl
evaluated_all g (z ∷ zs) = ap (λ (as' : List Sized). z g ∷ as') (evaluated_all g zs)

binder_rows_are_kernel : (o : KerOp) (n : ℕ) → is_kernel_row (binder_row o n) ≡ true
binder_rows_are_kernel ker.Filter n = refl
binder_rows_are_kernel ker.MapOver n = refl
binder_rows_are_kernel ker.FunOf n = refl
binder_rows_are_kernel o n = refl

-- the number of the names does not count
any_number : (w : ℕ) (o : KerOp) (m n : ℕ) (as' : List Shape) → row_kept w (binder_row o m) no_literal as' ≡ row_kept w (binder_row o n) no_literal as'
any_number w ker.Filter m n as' = refl
any_number w ker.MapOver m n as' = refl
any_number w ker.FunOf m n as' = refl
any_number w o m n as' = refl

more_capped : (as' : List Shape) (b : Shape) → map capped (as' ++ b ∷ []) ≡ map capped as' ++ capped b ∷ []
more_capped [] b = refl
more_capped (a ∷ as') b = ap (λ (bs : List Shape). capped a ∷ bs) (more_capped as' b)

module _ (w : ℕ) (k : Ker) (ks : List Ker) (b : Ker) (e : (out-Ker k).args ≡ ks ++ b ∷ []) (n : length (out-Ker k).binds ≡ length ks) (h : is_binder (out-Ker k).op ≡ true) where
  abbrev at_sets : Extent → List Sized
  at_sets g = all_at (map (ker_sized w) ks) g

  abbrev in_body : Extent → Sized
  in_body g = ker_sized w b (bind_shapes (names_of (out-Ker k).binds) (insides (shapes_of (at_sets g))) g)

  abbrev with_body : Extent → List Shape
  with_body g = shapes_of (at_sets g) ++ (in_body g).shape ∷ []

  over_sets : (f : List Sized → Sized → Shape) (g : Extent) →
      f (evaluated g (map (ker_sized w) ks)) (ker_sized w b (bind_shapes (names_of (out-Ker k).binds) (insides (shapes_of (evaluated g (map (ker_sized w) ks)))) g)) ≡ f (at_sets g) (in_body g)
  over_sets f g = ap (λ (as' : List Sized). f as' (ker_sized w b (bind_shapes (names_of (out-Ker k).binds) (insides (shapes_of as')) g))) (evaluated_all g (map (ker_sized w) ks))

  binder_is : (g : Extent) → (ker_sized w k g).shape ≡ row_shape w (binder_row (out-Ker k).op (length (names_of (out-Ker k).binds))) no_literal (with_body g)
  binder_is g =
      ap (λ (j : Ker). (ker_sized w j g).shape) (rebuilt k _ _ refl e)
      ∙ BinderShapes.binder_shape w _ _ (out-Ker k).binds ks b n g (out-Ker k).op h
      ∙ over_sets (λ as' c. row_shape w (binder_row (out-Ker k).op (length (names_of (out-Ker k).binds))) no_literal (shapes_of as' ++ c.shape ∷ [])) g

  binder_numbers : (g : Extent) (q : Position) → (ker_sized w k g).counts q
      ≡ count_at (out-Ker k).place (row_shape w (binder_row (out-Ker k).op (length (names_of (out-Ker k).binds))) no_literal (with_body g))
      ++ (counts_of walked (at_sets g) ++ (in_body g).counts walked)
  binder_numbers g q =
      ap (λ (j : Ker). (ker_sized w j g).counts q) (rebuilt k _ _ refl e)
      ∙ BinderShapes.binder_counts w _ _ (out-Ker k).binds ks b n g (out-Ker k).op h q
      ∙ ap (λ (as' : List Sized). count_at (out-Ker k).place (row_shape w (binder_row (out-Ker k).op (length (names_of (out-Ker k).binds))) no_literal
      (shapes_of as' ++ (ker_sized w b (bind_shapes (names_of (out-Ker k).binds) (insides (shapes_of as')) g)).shape ∷ []))
      ++ (counts_of walked as' ++ (ker_sized w b (bind_shapes (names_of (out-Ker k).binds) (insides (shapes_of as')) g)).counts walked)) (evaluated_all g (map (ker_sized w) ks))

pub binder_sized : (old one mid new : Names) (k : Ker) (ks : List Ker) (b : Ker) (rs ms : List Code) (x r : Code) (m : ℕ) → IsWidth old.width → (out-Ker k).args ≡ ks ++ b ∷ [] →
    length (out-Ker k).binds ≡ length ks → is_binder (out-Ker k).op ≡ true → SizesEach old one (map (ker_sized old.width) ks) walked rs →
    map mean ms ≡ insides (map mean rs) → SizesUnder one mid (ker_sized one.width b) (out-Ker k).binds (map mean ms) x →
    ((w : ℕ) → mean r ≡ row_kept w (binder_row (out-Ker k).op m) no_literal (map mean rs ++ mean x ∷ [])) →
    IsCounted mid new (count_at (out-Ker k).place (mean r)) → (q : Position) → Sizes old new (ker_sized old.width k) q r
binder_sized old one mid new k ks b rs ms x r m i e n h s f u t c q =
    let w : ℕ = old.width in
    let v : SizesUnder one mid (ker_sized w b) (out-Ker k).binds (map mean ms) x =
    subst (λ (y : ℕ). SizesUnder one mid (ker_sized y b) (out-Ker k).binds (map mean ms) x) s.same.width u in
    let o : KerOp = (out-Ker k).op in
    let p : ℕ = length (names_of (out-Ker k).binds) in
    let bs : (g : Extent) → List Shape = λ g. insides (shapes_of (all_at (map (ker_sized w) ks) g)) in
    let z : (g : Extent) → Reads old g → map capped (bs g) ≡ map mean ms =
    λ g l. capped_insides (shapes_of (all_at (map (ker_sized w) ks) g)) ∙ ap insides (s.shapes g l) ∙ sym f in
    node_sized old mid new k r q _ (λ g. counts_of walked (all_at (map (ker_sized w) ks) g) ++ (in_body w k ks b e n h g).counts walked)
    (binder_is w k ks b e n h) (λ g. binder_numbers w k ks b e n h g q) (same_more old one mid s.same v.same)
    (λ g l. row_means w w i.narrow refl (binder_row o p) (binder_rows_are_kernel o p) no_literal (with_body w k ks b e n h g) (map mean rs ++ mean x ∷ []) r
    (more_capped (shapes_of (all_at (map (ker_sized w) ks) g)) (in_body w k ks b e n h g).shape
    ∙ ap₂ (λ (as' : List Shape) (y : Shape). as' ++ y ∷ []) (s.shapes g l) (v.shape g (bs g) (reads_same old one g s.same l) (z g l)))
    (t w ∙ any_number w o m p (map mean rs ++ mean x ∷ [])))
    (λ g l. finds_more old one mid (counts_of walked (all_at (map (ker_sized w) ks) g)) ((in_body w k ks b e n h g).counts walked) (s.finds g l) (v.finds g (bs g) (reads_same old one g s.same l) (z g l))) c

-- ---- rows that go by a type

first_is : (f : Ker) → first_kind (kinds_in f) ≡ kind_or_truth (kind_of (out-Ker f).ty)
unfolding kinds_in
first_is f = ap first_kind (fold_out-Ker (List Kind) node_kinds f)

domain_rows_are_kernel : (k : Kind) → is_kernel_row (domain_row k) ≡ true
domain_rows_are_kernel (kind.Fun a b) = refl
domain_rows_are_kernel (kind.Rec fs) = refl
domain_rows_are_kernel k = refl

tuple_rows_are_kernel : (k : Kind) → is_kernel_row (tuple_row k) ≡ true
tuple_rows_are_kernel (kind.Seq a) = refl
tuple_rows_are_kernel k = refl

pub domain_sized : (old mid new : Names) (k f : Ker) (x r : Code) → IsWidth old.width → (out-Ker k).op ≡ ker.Domain → (out-Ker k).args ≡ f ∷ [] →
    Sizes old mid (ker_sized old.width f) walked x → mean r ≡ row_kept mid.width (domain_row (kind_or_truth (kind_of (out-Ker f).ty))) no_literal (mean x ∷ []) →
    IsCounted mid new (count_at (out-Ker k).place (mean r)) → (q : Position) → Sizes old new (ker_sized old.width k) q r
domain_sized old mid new k f x r i o e s m c q =
    node_sized old mid new k r q (λ g. row_shape old.width (domain_row (first_kind (kinds_in f))) no_literal ((ker_sized old.width f g).shape ∷ []))
    (λ g. (ker_sized old.width f g).counts walked ++ [])
    (λ g. ap (λ (j : Ker). (ker_sized old.width j g).shape) (rebuilt k _ _ o e) ∙ NodeShapes.domain_shape old.width _ _ _ g f)
    (λ g. ap (λ (j : Ker). (ker_sized old.width j g).counts q) (rebuilt k _ _ o e) ∙ NodeShapes.domain_counts old.width _ _ _ g f q)
    s.same
    (λ g l. row_means old.width mid.width i.narrow s.same.width (domain_row (first_kind (kinds_in f))) (domain_rows_are_kernel (first_kind (kinds_in f))) no_literal
    ((ker_sized old.width f g).shape ∷ []) (mean x ∷ []) r (ap (λ (y : Shape). y ∷ []) (s.shape g l))
    (m ∙ ap (λ (d : Kind). row_kept mid.width (domain_row d) no_literal (mean x ∷ [])) (sym (first_is f))))
    (λ g l. finds_more old mid mid ((ker_sized old.width f g).counts walked) [] (s.finds g l) (finds_none mid)) c

abbrev items_row : Ker → Row
items_row k = tuple_row (kind_or_truth (kind_of (out-Ker k).ty))

any_literal : (w : ℕ) (k : Kind) (l : Literal) (as' : List Shape) → row_shape w (tuple_row k) l as' ≡ row_shape w (tuple_row k) no_literal as'
any_literal w (kind.Seq a) l as' = refl
any_literal w k l as' = refl

listed_row : (w : ℕ) (p : Place) (t : Ty) (o : KerOp) (ks : List Ker) (xs : List ℕ) → is_listed o ≡ true → (g : Extent) → (ker_sized w (made p t o ks xs) g).shape
    ≡ row_shape w (tuple_row (kind_or_truth (kind_of t))) (index_of (outside [] (map (ker_sized w) ks) g)) (shapes_of (outside [] (map (ker_sized w) ks) g))
listed_row w p t ker.TupOf ks xs h g = NodeShapes.tuple_shape w p t xs g ks
listed_row w p t ker.SeqOf ks xs h g = NodeShapes.sequence_shape w p t xs g ks
listed_row w p t o ks xs h g = absurd (false≢true h)

listed_numbers : (w : ℕ) (p : Place) (t : Ty) (o : KerOp) (ks : List Ker) (xs : List ℕ) → is_listed o ≡ true → (g : Extent) (q : Position) → (ker_sized w (made p t o ks xs) g).counts q
    ≡ count_at p (row_shape w (tuple_row (kind_or_truth (kind_of t))) (index_of (outside [] (map (ker_sized w) ks) g)) (shapes_of (outside [] (map (ker_sized w) ks) g)))
    ++ counts_of walked (outside [] (map (ker_sized w) ks) g)
listed_numbers w p t ker.TupOf ks xs h g q = NodeShapes.tuple_counts w p t xs g ks q
listed_numbers w p t ker.SeqOf ks xs h g q = NodeShapes.sequence_counts w p t xs g ks q
listed_numbers w p t o ks xs h g q = absurd (false≢true h)

pub listed_sized : (old mid new : Names) (k : Ker) (rs : List Code) (r : Code) → IsWidth old.width → is_listed (out-Ker k).op ≡ true →
    SizesEach old mid (map (ker_sized old.width) (out-Ker k).args) walked rs →
    ((w : ℕ) → mean r ≡ row_kept w (items_row k) no_literal (map mean rs)) →
    IsCounted mid new (count_at (out-Ker k).place (mean r)) → (q : Position) → Sizes old new (ker_sized old.width k) q r
listed_sized old mid new k rs r i h s e c q =
    let w : ℕ = old.width in
    let d : Kind = kind_or_truth (kind_of (out-Ker k).ty) in
    let zs : List Sizing = map (ker_sized w) (out-Ker k).args in
    node_sized old mid new k r q (λ g. row_shape w (tuple_row d) no_literal (shapes_of (all_at zs g))) (λ g. counts_of walked (all_at zs g))
    (λ g. ap (λ (j : Ker). (ker_sized w j g).shape) (rebuilt k _ _ refl refl) ∙ listed_row w _ _ (out-Ker k).op (out-Ker k).args _ h g
    ∙ ap (λ (as' : List Sized). row_shape w (tuple_row d) (index_of as') (shapes_of as')) (outside_all zs g)
    ∙ any_literal w d (index_of (all_at zs g)) (shapes_of (all_at zs g)))
    (λ g. ap (λ (j : Ker). (ker_sized w j g).counts q) (rebuilt k _ _ refl refl) ∙ listed_numbers w _ _ (out-Ker k).op (out-Ker k).args _ h g q
    ∙ ap (λ (as' : List Sized). count_at (out-Ker k).place (row_shape w (tuple_row d) (index_of as') (shapes_of as')) ++ counts_of walked as') (outside_all zs g)
    ∙ ap (λ (a : Shape). count_at (out-Ker k).place a ++ counts_of walked (all_at zs g)) (any_literal w d (index_of (all_at zs g)) (shapes_of (all_at zs g))))
    s.same
    (λ g l. row_means w w i.narrow refl (tuple_row d) (tuple_rows_are_kernel d) no_literal (shapes_of (all_at zs g)) (map mean rs) r (s.shapes g l) (e w))
    (λ g l. s.finds g l) c
