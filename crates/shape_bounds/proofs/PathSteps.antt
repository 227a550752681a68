-- Updates along a path of indexes, one behind another.
use Rattle.std.proofs.Common.{◌≡◌, ℕ, Bool, true, false, ◌&&◌, nat_eq, inl, inr, List, [], ◌∷◌, ◌++◌, map, take, length, get_or, Option, Some, None, refl, sym, ◌∙◌, ap, ap₂, subst, arith, if◌then◌else◌}
use Rattle.std.proofs.lemmas.Bool.{eqb-true}
use Rattle.std.proofs.lemmas.Bool.Decides.{eqb_tells}
use Rattle.tla_values.specs.Order.{Layer}
use Rattle.tla_values.specs.declared.value.Value.{Value, out-Value}
use Rattle.tla_values.specs.declared.value.Value.TheOpen as layer
use Rattle.tla_meaning.specs.declared.place.Place.{Place}
use Rattle.tla_meaning.specs.declared.expr.Expr.{Expr, out-Expr, out-roll-Expr}
use Rattle.tla_meaning.specs.declared.expr.Expr.TheOpen.{Expr-F}
use Rattle.tla_meaning.specs.Scopes.{find_last, or_else, same_text}
use Rattle.tla_meaning.specs.Symbols.{same_place}
use Rattle.tla_meaning.proofs.Views.{false≢true, and_right}
use Rattle.kernel_trees.specs.declared.kernel.Ker.{Ker, out-Ker, roll-out-Ker}
use Rattle.kernel_trees.specs.declared.kernel.KerOp.{KerOp}
use Rattle.kernel_trees.specs.declared.kernel.KerOp.TheVariants as ker
use Rattle.kernel_trees.specs.Trees.{as_expr, constant, names_of, number_name, op_of, operands}
use Rattle.kernel_trees.proofs.Steps.{same_text_same}
use Rattle.kernel_trees.proofs.Trees.{as_expr-roll}
use Rattle.kernel_shapes.specs.declared.bounds.Shape.{Shape as Code}
use Rattle.kernel_shapes.specs.Codes.{mean}
use Rattle.kernel_shapes.specs.Counts.{count_at}
use Rattle.kernel_shapes.specs.Kernel.{ker_sized}
use Rattle.kernel_shapes.specs.Rows.{Literal, applied_at, joined_at}
use Rattle.kernel_shapes.specs.Shape.{Shape}
use Rattle.kernel_shapes.specs.Sized.{Extent, Position, Sized, Sizing, bind_shapes, child_at, found, right_counts, walked}
use Rattle.kernel_shapes.specs.Trees.{begins_with_name, is_bound_name, is_except, is_part}
use Rattle.kernel_shapes.proofs.JoinRight.{text_is}
use Rattle.shape_bounds.specs.declared.names.Names.{Names}
use Rattle.shape_bounds.specs.inner.Nodes.{is_literal}
use Rattle.shape_bounds.specs.inner.Updated.{SizesBeyond, SizesRight, begins_with, goes_on, is_number, is_update, whole_at}
use Rattle.shape_bounds.specs.Kept.{capped}
use Rattle.shape_bounds.specs.Sizes.{IsBound, IsCounted, Reads, SameNames, Sizes, SizesUnder, all_at, bound_name}
use Rattle.shape_bounds.proofs.Binding.{bound_more, bound_none}
use Rattle.shape_bounds.proofs.Composing.{finds_more, finds_none, finds_same, reads_same, same_more}
use Rattle.shape_bounds.proofs.Families.{node_sized, reads_bound, under_finds}
use Rattle.shape_bounds.proofs.IndexJoins.{capped_joined}
use Rattle.shape_bounds.proofs.NamesRead.{rebuilt, rebuilt_whole}
use Rattle.shape_bounds.proofs.NodeShapes.{bound_shape, literal_is_of, update_beyond, update_counts, update_shape}
use Rattle.shape_bounds.proofs.Places.{not_same}
use Rattle.shape_bounds.proofs.RowsKept.{capped_applied}

-- ---- a right side that goes on, as a kernel tree and as the expression for which it stands

one_number : (m n : ℕ) → number_name n ≡ number_name m → m ≡ n
one_number m n e = cc

number_text : (m n : ℕ) → same_text (number_name n) (number_name m) ≡ nat_eq m n
number_text m n = elim (eqb_tells m n) [
  | inl h ↦ subst (λ (k : ℕ). same_text (number_name n) (number_name k) ≡ true) (sym h.1) (same_text_same (number_name n)) ∙ sym h.0
  | inr h ↦ not_same (same_text (number_name n) (number_name m)) (λ t. h.1 (one_number m n (text_is (number_name n) (number_name m) t))) ∙ sym h.0
]

constant_name : (x : List ℕ) (l : Layer Value) → is_bound_name x (constant l) ≡ false
constant_name x (layer.Bool b) = refl
constant_name x (layer.Int n) = refl
constant_name x (layer.Text y) = refl
constant_name x l = refl

constant_except : (l : Layer Value) → is_except (constant l) ≡ false
constant_except (layer.Bool b) = refl
constant_except (layer.Int n) = refl
constant_except (layer.Text y) = refl
constant_except l = refl

name_is : (n : ℕ) (o : KerOp) → is_bound_name (number_name n) (op_of o) ≡ is_number n o
name_is n (ker.Bound m) = number_text m n
name_is n (ker.Const v) = constant_name (number_name n) (out-Value v)
name_is n o = refl

abbrev as_node : Ker → Expr-F Expr
as_node k = record {
  place = (out-Ker k).place;
  op = op_of (out-Ker k).op;
  args = operands (out-Ker k).op (out-Ker k).place (map as_expr (out-Ker k).args);
  binds = names_of (out-Ker k).binds;
}

opened : (k : Ker) → out-Expr (as_expr k) ≡ as_node k
opened k = ap (λ (j : Ker). out-Expr (as_expr j)) (sym (roll-out-Ker k)) ∙ ap out-Expr (as_expr-roll (out-Ker k)) ∙ out-roll-Expr (as_node k)

begins_same : (n : ℕ) (ks : List Ker) → begins_with_name (number_name n) (map as_expr ks) ≡ begins_with n ks
begins_same n [] = refl
begins_same n (k ∷ ks) = ap (λ (e : Expr-F Expr). is_bound_name (number_name n) e.op) (opened k) ∙ name_is n (out-Ker k).op

by_op : (o : KerOp) (p q : Place) (n : ℕ) (ks : List Ker) →
    (is_except (op_of o) && (same_place p q && begins_with_name (number_name n) (operands o q (map as_expr ks)))) ≡ (is_update o && (same_place p q && begins_with n ks))
by_op ker.Update p q n ks = ap (λ (b : Bool). same_place p q && b) (begins_same n ks)
by_op (ker.Const v) p q n ks = ap (λ (b : Bool). b && (same_place p q && false)) (constant_except (out-Value v))
by_op o p q n ks = refl

pub part_is : (p : Place) (n : ℕ) (k : Ker) → is_part p (number_name n ∷ []) (as_expr k) ≡ goes_on p n k
part_is p n k =
    ap (λ (e : Expr-F Expr). is_except e.op && (same_place p e.place && begins_with_name (number_name n) e.args)) (opened k)
    ∙ by_op (out-Ker k).op p (out-Ker k).place n (out-Ker k).args

goes_on_begins : (p : Place) (n : ℕ) (k : Ker) → goes_on p n k ≡ true → begins_with n (out-Ker k).args ≡ true
goes_on_begins p n k h =
    let tail : Bool = same_place p (out-Ker k).place && begins_with n (out-Ker k).args in
    and_right (same_place p (out-Ker k).place) (begins_with n (out-Ker k).args) (and_right (is_update (out-Ker k).op) tail h)

-- ---- what is bound last under a number

last_bound : (x : List ℕ) (bs : List (List ℕ × Shape)) (b : Shape) → find_last x (bs ++ (x, b) ∷ []) ≡ Some b
last_bound x [] b = ap (λ (t : Bool). or_else None (if t then Some b else None)) (same_text_same x)
last_bound x (c ∷ bs) b = ap (λ (o : Option Shape). or_else o (if same_text x c.0 then Some c.1 else None)) (last_bound x bs b)

number_op : (n : ℕ) (o : KerOp) → is_number n o ≡ true → o ≡ ker.Bound n
number_op n (ker.Bound m) h = ap ker.Bound (eqb-true m n h)
number_op n o h = absurd (false≢true h)

first_bound : (w n : ℕ) (ks : List Ker) (g : Extent) → begins_with n ks ≡ true →
    (child_at 0 (all_at (map (ker_sized w) ks) g)).shape ≡ found (find_last (number_name n) g.bound)
first_bound w n [] g h = absurd (false≢true h)
first_bound w n (k ∷ ks) g h =
    ap (λ (j : Ker). (ker_sized w j g).shape) (rebuilt k _ _ (number_op n (out-Ker k).op h) refl) ∙ bound_shape w _ _ _ g n _

bound_whole : (w : ℕ) (p : Place) (n : ℕ) (k : Ker) (g : Extent) (b : Shape) → goes_on p n k ≡ true → whole_at w k (bind_shapes (names_of (n ∷ [])) (b ∷ []) g) ≡ b
bound_whole w p n k g b h =
    first_bound w n (out-Ker k).args (bind_shapes (names_of (n ∷ [])) (b ∷ []) g) (goes_on_begins p n k h)
    ∙ ap found (last_bound (number_name n) g.bound b)

-- ---- right sides

pub right_under : (old new : Names) (b : Bool) (z : Sizing) (xs : List ℕ) (as' : List Shape) (r : Code) → b ≡ false → SizesUnder old new z xs as' r → SizesRight old new b z xs as' r
right_under old new b z xs as' r e u = record {
  same = u.same;
  shape = u.shape;
  finds = λ g bs l h. finds_same old new _ _ (ap (λ (t : Bool). right_counts t (z (bind_shapes (names_of xs) bs g))) (sym e)) (u.finds g bs l h);
}

pub bound_one : (old new : Names) (n : ℕ) (s : Code) (a : Shape) → new.width ≡ old.width → new.state ≡ old.state → new.next ≡ old.next → new.first ≡ old.first →
    new.bound.items ≡ old.bound.items ++ (n, s) ∷ [] → mean s ≡ a → IsBound old new (n ∷ []) (a ∷ [])
bound_one old new n s a ew es en ef eb e =
    subst (λ (b : Shape). IsBound old new (n ∷ []) (b ∷ [])) e
    (bound_more old old new (n ∷ []) (s ∷ []) 0 s s (bound_none old) (omega arith) refl refl refl ew es en ef eb)

one_shape : (P : List Shape → Type 0) (a : Shape) (bs : List Shape) → map capped bs ≡ a ∷ [] → ((b : Shape) → capped b ≡ a → P (b ∷ [])) → P bs
one_shape P a [] e h = absurd (cc)
one_shape P a (b ∷ []) e h = h b (cc)
one_shape P a (b ∷ c ∷ bs) e h = absurd (cc)

module _ (old mid late new : Names) (p : Place) (n : ℕ) (k : Ker) (a : Shape) (r : Code) (h : IsBound old mid (n ∷ []) (a ∷ [])) (s : SizesBeyond mid late mid.width k a r)
    (on : goes_on p n k ≡ true) (ef : new.first ≡ late.first) where
  at_old : SizesBeyond mid late old.width k a r
  at_old = subst (λ (w : ℕ). SizesBeyond mid late w k a r) h.width s

  there : (g : Extent) (b : Shape) → capped b ≡ a → capped (whole_at old.width k (bind_shapes (names_of (n ∷ [])) (b ∷ []) g)) ≡ a
  there g b e = ap capped (bound_whole old.width p n k g b on) ∙ e

  right_shape : (g : Extent) (bs : List Shape) → Reads old g → map capped bs ≡ a ∷ [] → capped (ker_sized old.width k (bind_shapes (names_of (n ∷ [])) bs g)).shape ≡ mean r
  right_shape g bs l e =
      one_shape (λ cs. capped (ker_sized old.width k (bind_shapes (names_of (n ∷ [])) cs g)).shape ≡ mean r) a bs e
      (λ b f. at_old.shape (bind_shapes (names_of (n ∷ [])) (b ∷ []) g) (reads_bound old mid (n ∷ []) (a ∷ []) (b ∷ []) g h l (ap (λ (c : Shape). c ∷ []) f)) (there g b f))

  right_finds : (g : Extent) (bs : List Shape) → Reads old g → map capped bs ≡ a ∷ [] →
      Rattle.shape_bounds.specs.Sizes.Finds old new (ker_sized old.width k (bind_shapes (names_of (n ∷ [])) bs g)).beyond
  right_finds g bs l e =
      one_shape (λ cs. Rattle.shape_bounds.specs.Sizes.Finds old new (ker_sized old.width k (bind_shapes (names_of (n ∷ [])) cs g)).beyond) a bs e
      (λ b f. under_finds old mid late new ((ker_sized old.width k (bind_shapes (names_of (n ∷ [])) (b ∷ []) g)).beyond) h.first ef
      (at_old.finds (bind_shapes (names_of (n ∷ [])) (b ∷ []) g) (reads_bound old mid (n ∷ []) (a ∷ []) (b ∷ []) g h l (ap (λ (c : Shape). c ∷ []) f)) (there g b f)))

pub right_beyond : (old mid late new : Names) (m : ℕ) (p : Place) (n : ℕ) (k : Ker) (a : Shape) (r : Code) → IsBound old mid (n ∷ []) (a ∷ []) → SizesBeyond mid late mid.width k a r →
    goes_on p n k ≡ true → new.width ≡ late.width → new.state ≡ late.state → new.next ≡ late.next → new.first ≡ late.first → new.bound.items ≡ take m late.bound.items →
    m ≡ length old.bound.items → SizesRight old new (goes_on p n k) (ker_sized old.width k) (n ∷ []) (a ∷ []) r
right_beyond old mid late new m p n k a r h s on ew es en ef eb nb = record {
  same = record {
    width = ew ∙ s.same.width ∙ h.width;
    state = es ∙ s.same.state ∙ h.state;
    next = en ∙ s.same.next ∙ h.next;
    bound = eb ∙ ap (λ (i : ℕ). take i late.bound.items) nb ∙ ap (take (length old.bound.items)) s.same.bound ∙ h.front;
  };
  shape = right_shape old mid late new p n k a r h s on ef;
  finds = λ g bs l e.
      finds_same old new _ _ (ap (λ (t : Bool). right_counts t (ker_sized old.width k (bind_shapes (names_of (n ∷ [])) bs g))) (sym on))
      (right_finds old mid late new p n k a r h s on ef g bs l e);
}

-- ---- the node

module _ (w : ℕ) (k f i e : Ker) (n : ℕ) (o : (out-Ker k).op ≡ ker.Update) (u : (out-Ker k).args ≡ f ∷ i ∷ e ∷ []) (x : (out-Ker k).binds ≡ n ∷ []) where
  index_is : (g : Extent) → (ker_sized w i g).literal ≡ is_literal i
  index_is g = ap (λ (j : Ker). (ker_sized w j g).literal) (rebuilt i _ _ refl refl) ∙ literal_is_of w _ _ _ g (out-Ker i).op (out-Ker i).args

  abbrev old_at : Extent → Shape
  old_at g = (ker_sized w f g).shape

  abbrev right_at : Extent → Sized
  right_at g = ker_sized w e (bind_shapes (names_of (n ∷ [])) (applied_at (old_at g) (is_literal i) ∷ []) g)

  updated_is : (g : Extent) → whole_at w k g ≡ old_at g
  updated_is g = ap (λ (ks : List Ker). (child_at 0 (all_at (map (ker_sized w) ks) g)).shape) u

  update_is : (g : Extent) → (ker_sized w k g).shape ≡ joined_at (is_literal i ∷ []) (right_at g).shape (old_at g)
  update_is g =
      ap (λ (j : Ker). (ker_sized w j g).shape) (rebuilt_whole k _ _ _ o u x)
      ∙ update_shape w _ _ [] g f i e n
      ∙ ap (λ (l : Literal). joined_at (l ∷ []) (ker_sized w e (bind_shapes (names_of (n ∷ [])) (applied_at (old_at g) l ∷ []) g)).shape (old_at g)) (index_is g)

  beyond_is : (g : Extent) → (ker_sized w k g).beyond ≡ (((ker_sized w i g).counts walked ++ []) ++ right_counts (goes_on (out-Ker k).place n e) (right_at g)) ++ []
  beyond_is g =
      ap (λ (j : Ker). (ker_sized w j g).beyond) (rebuilt_whole k _ _ _ o u x)
      ∙ update_beyond w _ _ [] g f i e n
      ∙ ap₂ (λ (b : Bool) (l : Literal). (((ker_sized w i g).counts walked ++ []) ++ right_counts b (ker_sized w e (bind_shapes (names_of (n ∷ [])) (applied_at (old_at g) l ∷ []) g))) ++ [])
      (part_is (out-Ker k).place n e) (index_is g)

pub changed_sized : (old one new : Names) (k f i e : Ker) (n : ℕ) (whole : Shape) (y v d r : Code) → (out-Ker k).op ≡ ker.Update → (out-Ker k).args ≡ f ∷ i ∷ e ∷ [] →
    (out-Ker k).binds ≡ n ∷ [] → Sizes old one (ker_sized old.width i) walked y → mean d ≡ applied_at whole (is_literal i) →
    SizesRight one new (goes_on (out-Ker k).place n e) (ker_sized one.width e) (n ∷ []) (mean d ∷ []) v → mean r ≡ joined_at (is_literal i ∷ []) (mean v) whole →
    SizesBeyond old new old.width k whole r
changed_sized old one new k f i e n whole y v d r o u x s m t j =
    let w : ℕ = old.width in
    let b : Bool = goes_on (out-Ker k).place n e in
    let c : SizesRight one new b (ker_sized w e) (n ∷ []) (mean d ∷ []) v = subst (λ (z : ℕ). SizesRight one new b (ker_sized z e) (n ∷ []) (mean d ∷ []) v) s.same.width t in
    let bs : (g : Extent) → List Shape = λ g. applied_at (old_at w k f i e n o u x g) (is_literal i) ∷ [] in
    let part : (g : Extent) → capped (whole_at w k g) ≡ whole → map capped (bs g) ≡ mean d ∷ [] =
    λ g h. ap (λ (z : Shape). z ∷ [])
    (capped_applied (old_at w k f i e n o u x g) (is_literal i)
    ∙ ap (λ (z : Shape). applied_at z (is_literal i)) (sym (ap capped (updated_is w k f i e n o u x g)) ∙ h) ∙ sym m) in
    record {
      same = same_more old one new s.same c.same;
      shape = λ g l h.
          ap capped (update_is w k f i e n o u x g)
          ∙ capped_joined (is_literal i) (right_at w k f i e n o u x g).shape (old_at w k f i e n o u x g)
          ∙ ap₂ (joined_at (is_literal i ∷ [])) (c.shape g (bs g) (reads_same old one g s.same l) (part g h)) (sym (ap capped (updated_is w k f i e n o u x g)) ∙ h)
          ∙ sym j;
      finds = λ g l h.
          finds_same old new _ _ (sym (beyond_is w k f i e n o u x g))
          (finds_more old new new (((ker_sized w i g).counts walked ++ []) ++ right_counts b (right_at w k f i e n o u x g)) []
          (finds_more old one new ((ker_sized w i g).counts walked ++ []) (right_counts b (right_at w k f i e n o u x g))
          (finds_more old one one ((ker_sized w i g).counts walked) [] (s.finds g l) (finds_none one))
          (c.finds g (bs g) (reads_same old one g s.same l) (part g h))) (finds_none new));
    }

pub changed_visited : (old one new : Names) (k f i e : Ker) (xs : List ℕ) (n : ℕ) (whole : Shape) (y v d r : Code) → (out-Ker k).op ≡ ker.Update → (out-Ker k).args ≡ f ∷ i ∷ e ∷ [] →
    xs ≡ (out-Ker k).binds → length xs ≡ 1 → n ≡ get_or xs 0 0 → Sizes old one (ker_sized old.width i) walked y → mean d ≡ applied_at whole (is_literal i) →
    SizesRight one new (goes_on (out-Ker k).place n e) (ker_sized one.width e) (n ∷ []) (mean d ∷ []) v → mean r ≡ joined_at (is_literal i ∷ []) (mean v) whole →
    SizesBeyond old new old.width k whole r
changed_visited old one new k f i e [] n whole y v d r o u x l m s p t j = absurd (omega (arith, l))
changed_visited old one new k f i e (c ∷ []) n whole y v d r o u x l m s p t j =
    changed_sized old one new k f i e n whole y v d r o u (sym x ∙ ap (λ (z : ℕ). z ∷ []) (sym m)) s p t j
changed_visited old one new k f i e (c ∷ b ∷ xs) n whole y v d r o u x l m s p t j = absurd (omega (arith, l))

first_is : (w : ℕ) (k f : Ker) (ks : List Ker) (g : Extent) → (out-Ker k).args ≡ f ∷ ks → whole_at w k g ≡ (ker_sized w f g).shape
first_is w k f ks g e = ap (λ (js : List Ker). (child_at 0 (all_at (map (ker_sized w) js) g)).shape) e

update_numbers : (w : ℕ) (k f : Ker) (ks : List Ker) (g : Extent) (q : Position) → (out-Ker k).op ≡ ker.Update → (out-Ker k).args ≡ f ∷ ks →
    (ker_sized w k g).counts q ≡ count_at (out-Ker k).place (ker_sized w k g).shape ++ ((ker_sized w f g).counts walked ++ (ker_sized w k g).beyond)
update_numbers w k f ks g q o e =
    ap (λ (h : Ker). (ker_sized w h g).counts q) (rebuilt k _ _ o e)
    ∙ update_counts w _ _ (out-Ker k).binds g f ks q
    ∙ ap (λ (h : Ker). count_at (out-Ker k).place (ker_sized w h g).shape ++ ((ker_sized w f g).counts walked ++ (ker_sized w h g).beyond)) (sym (rebuilt k _ _ o e))

-- a node whose function was walked, and then its index and its right side
pub update_sized : (old one mid new : Names) (k f : Ker) (ks : List Ker) (x r : Code) → (out-Ker k).op ≡ ker.Update → (out-Ker k).args ≡ f ∷ ks →
    Sizes old one (ker_sized old.width f) walked x → SizesBeyond one mid one.width k (mean x) r →
    IsCounted mid new (count_at (out-Ker k).place (mean r)) → (q : Position) → Sizes old new (ker_sized old.width k) q r
update_sized old one mid new k f ks x r o e s t c q =
    let w : ℕ = old.width in
    let u : SizesBeyond one mid w k (mean x) r = subst (λ (z : ℕ). SizesBeyond one mid z k (mean x) r) s.same.width t in
    let at : (g : Extent) → Reads old g → capped (whole_at w k g) ≡ mean x = λ g l. ap capped (first_is w k f ks g e) ∙ s.shape g l in
    node_sized old mid new k r q (λ g. (ker_sized w k g).shape) (λ g. (ker_sized w f g).counts walked ++ (ker_sized w k g).beyond)
    (λ g. refl) (λ g. update_numbers w k f ks g q o e) (same_more old one mid s.same u.same)
    (λ g l. u.shape g (reads_same old one g s.same l) (at g l))
    (λ g l. finds_more old one mid ((ker_sized w f g).counts walked) (ker_sized w k g).beyond (s.finds g l) (u.finds g (reads_same old one g s.same l) (at g l))) c
