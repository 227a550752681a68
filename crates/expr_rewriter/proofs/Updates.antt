-- An update of a function, a sequence, a tuple or a record: its index.
use Rattle.std.proofs.Common.{◌≡◌, ℕ, zero, suc, ◌<◌, ◌≤◌, ◌-◌, Bool, true, false, List, [], ◌∷◌, map, length, get_or, refl, sym, ◌∙◌, ap, subst, arith, Some, None, ℤ, pos, if◌then◌else◌}
use Rattle.std.specs.Ordering.{is_eq}
use Rattle.tla_values.specs.Order.{Layer, text_cmp}
use Rattle.tla_values.specs.declared.value.Value.{Value, out-Value}
use Rattle.tla_values.specs.declared.value.Value.TheVariants as value
use Rattle.tla_values.specs.declared.value.Value.TheOpen as layer
use Rattle.tla_values.proofs.TotalLemmas.{texts_equal}
use Rattle.tla_meaning.specs.declared.outcome.Outcome.{Outcome}
use Rattle.tla_meaning.specs.declared.outcome.Outcome.TheVariants.{Val, Big}
use Rattle.tla_meaning.specs.declared.place.Place.{Place}
use Rattle.tla_meaning.proofs.Laws.{equal_of, none≢some}
use Rattle.cell_arena.specs.declared.kinds.CellId.{CellId}
use Rattle.cell_arena.specs.declared.kinds.CellKind.TheVariants as cell
use Rattle.cell_arena.specs.Cells.{Cells as Arena, kind_at}
use Rattle.cell_merge.specs.Sorts.{Sort, OfSort, IsFunction, IsSequence, IsRecord, IsTuple, record_of}
use Rattle.cell_merge.proofs.Edges.{is-record, is-tuple}
use Rattle.kernel_trees.specs.declared.kernel.Ker.{Ker, out-Ker}
use Rattle.kernel_trees.specs.declared.kernel.KerOp.{KerOp}
use Rattle.kernel_trees.specs.declared.kernel.KerOp.TheVariants as ker
use Rattle.kernel_trees.specs.Sound.{literal_of, updated_kind}
use Rattle.kernel_trees.specs.Trees.{ker_val}
use Rattle.kernel_trees.specs.TypeKinds.{Kind, Kinds, Fields, Truth, Number, Word, Set, Seq, Fun, Tup, Rec, no_kinds, more_kinds, no_fields, more_fields, field_kind, item_kind, same}
use Rattle.kernel_trees.proofs.Operators.{constant_value, val_const}
use Rattle.kernel_trees.proofs.TypeLaws.{same_is}
use Rattle.typed_cells.specs.KindSorts.{field_sorts, item_sorts, sort_at, sort_of}
use Rattle.function_operators.specs.declared.index.Index.{Index}
use Rattle.function_operators.specs.declared.index.Index.TheVariants as index
use Rattle.function_operators.specs.Parts.{HasPart, index_value}
use Rattle.expr_rewriter.specs.inner.Updating.{GivesIndex, IsIndex}
use Rattle.expr_rewriter.proofs.Levels.{as_tree, some_kind}

-- ---- places

item_place : (as' : Kinds) (i : ℕ) (d : Kind) → item_kind as' i ≡ Some d →
    (1 ≤ i) × ((i ≤ length (item_sorts as')) × (sort_of d ≡ sort_at (item_sorts as') (i - 1)))
item_place no_kinds i d h = absurd (none≢some h)
item_place (more_kinds a as') zero d h = absurd (none≢some h)
item_place (more_kinds a as') (suc zero) d h = (omega arith, (omega arith, ap sort_of (sym (some_kind a d h))))
item_place (more_kinds a as') (suc (suc n)) d h =
    let r = item_place as' (suc n) d h in (
      omega arith,
      (
        let q = r.1.0 in omega arith,
        r.1.1 ∙ ap (sort_at (item_sorts as')) down ∙ ap (sort_at (sort_of a ∷ item_sorts as')) (sym up),
      ),
    )
  where
    down : suc n - 1 ≡ n
    down = omega arith

    up : suc (suc n) - 1 ≡ suc n
    up = omega arith

abbrev FieldPlace : Fields → List ℕ → Kind → Type 0
FieldPlace fs x d =
    (place : ℕ) × ((place < length (map (λ f. f.0) (field_sorts fs))) × ((get_or (map (λ f. f.0) (field_sorts fs)) place [] ≡ x)
    × (sort_of d ≡ sort_at (map (λ f. f.1) (field_sorts fs)) place)))

field_place : (fs : Fields) (x : List ℕ) (d : Kind) → field_kind fs x ≡ Some d → FieldPlace fs x d
field_place no_fields x d h = absurd (none≢some h)
field_place (more_fields y a fs) x d h = by (is_eq (text_cmp x y)) refl (λ k. field_place fs x d k) h
  where
    by : (b : Bool) → is_eq (text_cmp x y) ≡ b → (field_kind fs x ≡ Some d → FieldPlace fs x d) → (if b then Some a else field_kind fs x) ≡ Some d →
        FieldPlace (more_fields y a fs) x d
    by true e k h = (0, (omega arith, (sym (texts_equal x y (equal_of (text_cmp x y) e)), ap sort_of (sym (some_kind a d h)))))
    by false e k h =
        let r = k h in
        (suc r.0, (let q = r.1.0 in omega arith, (r.1.1.0, r.1.1.1)))

-- ---- the value of a literal

one_value : (u v : Value) → Val u ≡ Val v → u ≡ v
one_value u v e = cc

literal_value : (c : Arena) (a : List Bool) (x : CellId) (k : Ker) (u v : Value) → (out-Ker k).op ≡ ker.Const u → (g : GivesIndex c a x k v) →
    constant_value g.width (out-Ker k).place (out-Value u) ≡ Val v
literal_value c a x k u v e g =
    sym (ap (λ j. ker_val g.width j g.scope g.now g.next) (as_tree k (ker.Const u) e)
    ∙ val_const g.width g.now g.next (out-Ker k).place (out-Ker k).ty u (out-Ker k).args (out-Ker k).binds g.scope)
    ∙ g.gives

number_value : (b : Bool) (n : ℤ) (o : Outcome) (v : Value) → (if b then Val (value.Int n) else o) ≡ Val v → (b ≡ false → (w : Value) → o ≡ Val w → ⊥) →
    value.Int n ≡ v
number_value true n o v e h = one_value (value.Int n) v e
number_value false n o v e h = absurd (h refl v e)

big_value : (p : Place) (w : Value) → Big p ≡ Val w → ⊥
big_value p w e = cc

number_literal : (o : KerOp) (n : ℤ) → literal_of o ≡ layer.Int n → (u : Value) × (o ≡ ker.Const u) × (out-Value u ≡ layer.Int n)
number_literal (ker.Const v) n h = (v, refl, h)
number_literal o n h = absurd (cc)

name_literal : (o : KerOp) (x : List ℕ) → literal_of o ≡ layer.Text x → (u : Value) × (o ≡ ker.Const u) × (out-Value u ≡ layer.Text x)
name_literal (ker.Const v) x h = (v, refl, h)
name_literal o x h = absurd (cc)

-- ---- a number into a tuple

module _ (c : Arena) (f x : CellId) (k : Ker) where
  pub number_index : (place : ℕ) (ps : List CellId) → kind_at c.kinds f ≡ cell.Tup ps → literal_of (out-Ker k).op ≡ layer.Int (pos place) →
      IsIndex c f x k (index.Number place)
  number_index place ps e literal = record {
    at = λ a j d h g r. by a j d h (subst (λ l. updated_kind a j l ≡ Some d) literal r);
    value = λ a v g.
        number_value _ (pos place) (Big (out-Ker k).place) v
        (let u = number_literal (out-Ker k).op (pos place) literal in
        ap (constant_value g.width (out-Ker k).place) (sym u.2) ∙ literal_value c a x k u.0 v u.1 g)
        (λ z w l. big_value (out-Ker k).place w l);
  }
    where
      item : (as' : Kinds) (j d : Kind) → updated_kind (Tup as') j (layer.Int (pos place)) ≡ Some d → item_kind as' place ≡ Some d
      item as' Number d r = r
      item as' j d r = absurd (none≢some r)

      by : (a j d : Kind) → OfSort c.kinds (sort_of a) f → updated_kind a j (layer.Int (pos place)) ≡ Some d →
          HasPart c.kinds (index.Number place) (sort_of a) (sort_of d)
      by (Tup as') j d h r = item_place as' place d (item as' j d r)
      by Truth j d h r = absurd (none≢some r)
      by Number j d h r = absurd (none≢some r)
      by (Word y) j d h r = absurd (none≢some r)
      by (Set b) j d h r = absurd (none≢some r)
      by (Seq b) j d h r = absurd (subst (IsSequence (OfSort c.kinds (sort_of b))) e h.1)
      by (Fun b z) j d h r = absurd (subst (IsFunction (OfSort c.kinds (sort_of b)) (OfSort c.kinds (sort_of z))) e h.1)
      by (Rec fs) j d h r = absurd (record_no fs h)
        where
          record_no : (fs : Fields) → OfSort c.kinds (sort_of (Rec fs)) f → ⊥
          record_no fs h = subst (IsRecord (map (λ f. f.0) (field_sorts fs)) (λ i. OfSort c.kinds (sort_at (map (λ f. f.1) (field_sorts fs)) i))) e h.1

  -- ---- a name into a record

  pub name_index : (i : Index) (name : List ℕ) (fs : List (List ℕ × CellId)) → kind_at c.kinds f ≡ cell.Rec fs →
      literal_of (out-Ker k).op ≡ layer.Text name → ((part : Sort) (names : List (List ℕ)) (s : ℕ → Sort) →
      ((place : ℕ) × ((place < length names) × ((get_or names place [] ≡ name) × (part ≡ s place)))) → HasPart c.kinds i (record_of names s) part) →
      ((a : List Bool) → index_value c a i ≡ value.Text name) → IsIndex c f x k i
  name_index i name fs e literal has is = record {
    at = λ a j d h g r. by a j d h (subst (λ l. updated_kind a j l ≡ Some d) literal r);
    value = λ a v g.
        (let u = name_literal (out-Ker k).op name literal in
        is a ∙ one_value (value.Text name) v (ap (constant_value g.width (out-Ker k).place) (sym u.2) ∙ literal_value c a x k u.0 v u.1 g));
  }
    where
      field : (fs : Fields) (j d : Kind) → updated_kind (Rec fs) j (layer.Text name) ≡ Some d → field_kind fs name ≡ Some d
      field fs (Word y) d r = r
      field fs j d r = absurd (none≢some r)

      by : (a j d : Kind) → OfSort c.kinds (sort_of a) f → updated_kind a j (layer.Text name) ≡ Some d → HasPart c.kinds i (sort_of a) (sort_of d)
      by (Rec gs) j d h r = has (sort_of d) (map (λ f. f.0) (field_sorts gs)) (sort_at (map (λ f. f.1) (field_sorts gs))) (field_place gs name d (field gs j d r))
      by Truth j d h r = absurd (none≢some r)
      by Number j d h r = absurd (none≢some r)
      by (Word y) j d h r = absurd (none≢some r)
      by (Set b) j d h r = absurd (none≢some r)
      by (Seq b) j d h r = absurd (subst (IsSequence (OfSort c.kinds (sort_of b))) e h.1)
      by (Fun b z) j d h r = absurd (subst (IsFunction (OfSort c.kinds (sort_of b)) (OfSort c.kinds (sort_of z))) e h.1)
      by (Tup as') j d h r = absurd (subst (IsTuple (length (item_sorts as')) (λ i. OfSort c.kinds (sort_at (item_sorts as') i))) e h.1)

  -- ---- a cell

  pub cell_index : ((ps : List CellId) → kind_at c.kinds f ≡ cell.Tup ps → ⊥) → ((fs : List (List ℕ × CellId)) → kind_at c.kinds f ≡ cell.Rec fs → ⊥) →
      IsIndex c f x k (index.Cell x)
  cell_index no_tuple no_record = record {
    at = λ a j d h g r. by a j d (literal_of (out-Ker k).op) h g r;
    value = λ a v g. g.cell;
  }
    where
      if_same : (b : Bool) (y z : Kind) → (if b then Some y else None) ≡ Some z → (b ≡ true) × (y ≡ z)
      if_same true y z h = (refl, some_kind y z h)
      if_same false y z h = absurd (none≢some h)

      by : (a j d : Kind) (l : Layer Value) → OfSort c.kinds (sort_of a) f → OfSort c.kinds (sort_of j) x → updated_kind a j l ≡ Some d →
          HasPart c.kinds (index.Cell x) (sort_of a) (sort_of d)
      by (Fun a b) j d l h g r =
          let q = if_same (same a j) b d r in
          (subst (λ (y : Kind). OfSort c.kinds (sort_of y) x) (sym (same_is a j q.0)) g, ap sort_of (sym q.1))
      by (Seq a) Number d l h g r = (g, ap sort_of (sym (some_kind a d r)))
      by (Seq a) j d l h g r = absurd (none≢some r)
      by (Tup as') j d l h g r =
          let z = is-tuple (length (item_sorts as')) (λ i. OfSort c.kinds (sort_at (item_sorts as') i)) (kind_at c.kinds f) h.1 in
          absurd (no_tuple z.0 z.1)
      by (Rec fs) j d l h g r =
          let z = is-record (map (λ f. f.0) (field_sorts fs)) (λ i. OfSort c.kinds (sort_at (map (λ f. f.1) (field_sorts fs)) i)) (kind_at c.kinds f) h.1 in
          absurd (no_record z.0 z.1)
      by Truth j d l h g r = absurd (none≢some r)
      by Number j d l h g r = absurd (none≢some r)
      by (Word y) j d l h g r = absurd (none≢some r)
      by (Set b) j d l h g r = absurd (none≢some r)
