-- A name without a shape is read as one of the shape of no value: where names get that shape, of what is computed of a tree
-- nothing changes but whether it is sound.
use Rattle.std.proofs.Common.{◌≡◌, ℕ, zero, suc, Bool, true, false, List, [], ◌∷◌, ◌++◌, map, take, drop, length, Option, Some, None, refl, sym, ◌∙◌, ap, ap₂, if◌then◌else◌}
use Rattle.std.specs.Prelude.{slice_get, option_and_then}
use Rattle.tla_meaning.specs.declared.expr.Expr.{Expr, roll-Expr}
use Rattle.tla_meaning.specs.declared.expr.Expr.TheOpen.{Expr-F}
use Rattle.tla_meaning.specs.declared.op.Op.{Op}
use Rattle.tla_meaning.specs.declared.op.Op.TheVariants as op
use Rattle.tla_meaning.specs.declared.place.Place.{Place}
use Rattle.tla_meaning.specs.Meaning.{role}
use Rattle.tla_meaning.specs.Scopes.{find_last, or_else}
use Rattle.tla_meaning.proofs.Laws.{find-append}
use Rattle.kernel_trees.specs.TypeKinds.{Kind}
use Rattle.kernel_shapes.specs.Shape.{Shape, count, inside}
use Rattle.kernel_shapes.specs.Rows.{Literal, no_literal, row_shape, nth, insides, shape_at, joined_at, reached_by, the_subsets, the_functions}
use Rattle.kernel_shapes.specs.Counts.{Count}
use Rattle.kernel_shapes.specs.Sized.{Extent, Sized, Sizing, Seen, Position, walked, as_form, assigned_from, picked_from, found, bound_shapes, bind_shapes, outside, underneath, seen, shapes_of, literals_of, counts_of, child_at, index_of, body, excepted, excepted_counts, right_counts, step, step_counts, Family, reads, plain, binder, membership, subset_set, function_set, product_set, infinite, noted, excepts, folds, family_shape, family_literal, numbers_beyond, within, has_number, own_count, operand, sized}
use Rattle.kernel_shapes.specs.Trees.{SizedTree, family_with, marks_of, read_shape, sized_node, sizings, kinds_of, first_kind, tree_sized}
use Rattle.kernel_shapes.proofs.TreeLemmas.{Each, by_nodes, parts_of, tree-roll}

-- as if it were sound
abbrev pub sure : Sized → Sized
sure a = record { shape = a.shape; counts = a.counts; beyond = a.beyond; literal = a.literal; sound = true }

abbrev sures : List Sized → List Sized
sures as' = map sure as'

abbrev sure_seen : Seen → Seen
sure_seen v = record { here = sures v.here; under = λ as'. sures (v.under as'); name = Some (found v.name) }

-- ---- what a node reads

sure_shapes : (as' : List Sized) → shapes_of (sures as') ≡ shapes_of as'
sure_shapes [] = refl
sure_shapes (a ∷ as') = ap (λ (l : List Shape). a.shape ∷ l) (sure_shapes as')

sure_literals : (as' : List Sized) → literals_of (sures as') ≡ literals_of as'
sure_literals [] = refl
sure_literals (a ∷ as') = ap (λ (l : List Literal). a.literal ∷ l) (sure_literals as')

sure_counts : (q : Position) (as' : List Sized) → counts_of q (sures as') ≡ counts_of q as'
sure_counts q [] = refl
sure_counts q (a ∷ as') = ap (λ (l : List Count). a.counts q ++ l) (sure_counts q as')

sure_take : (n : ℕ) (as' : List Sized) → take n (sures as') ≡ sures (take n as')
sure_take zero as' = refl
sure_take (suc n) [] = refl
sure_take (suc n) (a ∷ as') = ap (λ (l : List Sized). sure a ∷ l) (sure_take n as')

sure_drop : (n : ℕ) (as' : List Sized) → drop n (sures as') ≡ sures (drop n as')
sure_drop zero as' = refl
sure_drop (suc n) [] = refl
sure_drop (suc n) (a ∷ as') = sure_drop n as'

sure_child : (n : ℕ) (as' : List Sized) → child_at n (sures as') ≡ sure (child_at n as')
sure_child n [] = refl
sure_child zero (a ∷ as') = refl
sure_child (suc n) (a ∷ as') = sure_child n as'

sure_path : (n : ℕ) (as' : List Sized) → literals_of (take n (sures as')) ≡ literals_of (take n as')
sure_path n as' = ap literals_of (sure_take n as') ∙ sure_literals (take n as')

sure_body : (n : ℕ) (v : Seen) → body n (sure_seen v) ≡ sure (body n v)
sure_body n v =
    ap (λ (as' : List Shape). child_at n (sures (v.under (insides as')))) (ap shapes_of (sure_take n v.here) ∙ sure_shapes (take n v.here))
    ∙ sure_child n (v.under (insides (shapes_of (take n v.here))))

sure_step : (v : Seen) (a : Shape) → step (sure_seen v) a ≡ sure (step v a)
sure_step v a =
    ap (λ (b : Sized). child_at 0 (sures (v.under (a ∷ inside b.shape ∷ [])))) (sure_child 2 v.here)
    ∙ sure_child 0 (v.under (a ∷ inside (child_at 2 v.here).shape ∷ []))

sure_excepted : (ns : List ℕ) (ks : List Sized) (under : List Shape → List Sized) (a : Shape) →
    excepted ns (sures ks) (λ bs. sures (under bs)) a ≡ excepted ns ks under a
sure_excepted [] ks under a = refl
sure_excepted (n ∷ ns) ks under a =
    let path : List Literal = literals_of (take n ks) in
    ap (λ (l : List Literal). excepted ns (drop (suc n) (sures ks)) (λ bs. drop (suc n) (sures (under bs))) (joined_at l (child_at n (sures (under (shape_at a l ∷ [])))).shape a)) (sure_path n ks)
    ∙ ap (λ (b : Sized). excepted ns (drop (suc n) (sures ks)) (λ bs. drop (suc n) (sures (under bs))) (joined_at path b.shape a)) (sure_child n (under (shape_at a path ∷ [])))
    ∙ (λ i. excepted ns (sure_drop (suc n) ks i) (λ bs. sure_drop (suc n) (under bs) i) (joined_at path (child_at n (under (shape_at a path ∷ []))).shape a))
    ∙ sure_excepted ns (drop (suc n) ks) (λ bs. drop (suc n) (under bs)) (joined_at path (child_at n (under (shape_at a path ∷ []))).shape a)

sure_right : (b : Bool) (a : Sized) → right_counts b (sure a) ≡ right_counts b a
sure_right true a = refl
sure_right false a = refl

sure_updates : (ns : List ℕ) (ps : List Bool) (ks : List Sized) (under : List Shape → List Sized) (a : Shape) →
    excepted_counts ns ps (sures ks) (λ bs. sures (under bs)) a ≡ excepted_counts ns ps ks under a
sure_updates [] ps ks under a = refl
sure_updates (n ∷ ns) ps ks under a =
    let path : List Literal = literals_of (take n ks) in
    let right : Sized = child_at n (under (shape_at a path ∷ [])) in
    let all : List Literal → List Sized → Sized → List Count = λ l front r.
    counts_of walked front ++ right_counts (nth false n ps) r
    ++ excepted_counts ns (drop (suc n) ps) (drop (suc n) (sures ks)) (λ bs. drop (suc n) (sures (under bs))) (joined_at l r.shape a) in
    ap (λ (l : List Literal). all l (take n (sures ks)) (child_at n (sures (under (shape_at a l ∷ []))))) (sure_path n ks)
    ∙ ap₂ (λ (front : List Sized) (r : Sized). all path front r) (sure_take n ks) (sure_child n (under (shape_at a path ∷ [])))
    ∙ (λ i. sure_counts walked (take n ks) i ++ sure_right (nth false n ps) right i
    ++ excepted_counts ns (drop (suc n) ps) (sure_drop (suc n) ks i) (λ bs. sure_drop (suc n) (under bs) i) (joined_at path right.shape a))
    ∙ ap (λ (l : List Count). counts_of walked (take n ks) ++ right_counts (nth false n ps) right ++ l)
    (sure_updates ns (drop (suc n) ps) (drop (suc n) ks) (λ bs. drop (suc n) (under bs)) (joined_at path right.shape a))

sure_steps : (n : ℕ) (v : Seen) (a : Shape) → step_counts n (sure_seen v) a ≡ step_counts n v a
sure_steps zero v a = refl
sure_steps (suc n) v a =
    ap (λ (b : Sized). b.counts walked ++ step_counts n (sure_seen v) b.shape) (sure_step v a)
    ∙ ap (λ (l : List Count). (step v a).counts walked ++ l) (sure_steps n v (step v a).shape)

-- ---- a node

sure_shape : (w : ℕ) (f : Family) (v : Seen) → family_shape w f (sure_seen v) ≡ family_shape w f v
sure_shape w reads v = refl
sure_shape w (plain r l) v = ap₂ (λ (x : Sized) (as' : List Shape). row_shape w r x.literal as') (sure_child 1 v.here) (sure_shapes v.here)
sure_shape w (binder n r) v =
    ap₂ (λ (as' : List Shape) (b : Sized). row_shape w r no_literal (as' ++ b.shape ∷ [])) (ap shapes_of (sure_take n v.here) ∙ sure_shapes (take n v.here)) (sure_body n v)
sure_shape w membership v = refl
sure_shape w subset_set v = ap (row_shape w the_subsets no_literal) (sure_shapes v.here)
sure_shape w function_set v = ap (row_shape w the_functions no_literal) (sure_shapes v.here)
sure_shape w (product_set r) v = ap (row_shape w r no_literal) (sure_shapes v.here)
sure_shape w infinite v = refl
sure_shape w noted v = ap (λ (a : Sized). a.shape) (sure_child 0 v.here)
sure_shape w (excepts ns ps) v =
    (λ i. excepted ns (sure_drop 1 v.here i) (λ bs. sure_drop 1 (v.under bs) i) (sure_child 0 v.here i).shape)
    ∙ sure_excepted ns (drop 1 v.here) (λ bs. drop 1 (v.under bs)) (child_at 0 v.here).shape
sure_shape w folds v =
    λ i. reached_by (count (sure_child 2 v.here i).shape) (λ a. (sure_step v a i).shape) (sure_child 1 v.here i).shape

sure_literal : (f : Family) (v : Seen) → family_literal f (sure_seen v) ≡ family_literal f v
sure_literal noted v = ap (λ (a : Sized). a.literal) (sure_child 0 v.here)
sure_literal (plain r l) v = refl
sure_literal f v = refl

sure_beyond : (f : Family) (v : Seen) → numbers_beyond f (sure_seen v) ≡ numbers_beyond f v
sure_beyond (excepts ns ps) v =
    (λ i. excepted_counts ns ps (sure_drop 1 v.here i) (λ bs. sure_drop 1 (v.under bs) i) (sure_child 0 v.here i).shape)
    ∙ sure_updates ns ps (drop 1 v.here) (λ bs. drop 1 (v.under bs)) (child_at 0 v.here).shape
sure_beyond f v = refl

sure_first : (n : ℕ) (q : Position) (v : Seen) → (child_at n (sure_seen v).here).counts q ≡ (child_at n v.here).counts q
sure_first n q v = ap (λ (a : Sized). a.counts q) (sure_child n v.here)

sure_within : (f : Family) (v : Seen) (q : Position) → within f (sure_seen v) q ≡ within f v q
sure_within reads v q = refl
sure_within (plain r l) v q = sure_counts walked v.here
sure_within (binder n r) v q =
    ap₂ (λ (cs : List Count) (b : Sized). cs ++ b.counts walked) (ap (counts_of walked) (sure_take n v.here) ∙ sure_counts walked (take n v.here)) (sure_body n v)
sure_within membership v q = ap₂ (λ (cs ds : List Count). cs ++ ds) (sure_first 0 walked v) (sure_first 1 as_form v)
sure_within subset_set v as_form = sure_first 0 as_form v
sure_within subset_set v walked = sure_first 0 walked v
sure_within subset_set v assigned_from = sure_first 0 walked v
sure_within subset_set v picked_from = sure_first 0 walked v
sure_within function_set v q = ap₂ (λ (cs ds : List Count). cs ++ ds) (sure_first 0 walked v) (sure_first 1 (operand q) v)
sure_within (product_set r) v q = sure_counts (operand q) v.here
sure_within infinite v q = sure_counts as_form v.here
sure_within noted v q = sure_first 0 q v
sure_within (excepts ns ps) v q = ap₂ (λ (cs ds : List Count). cs ++ ds) (sure_first 0 walked v) (sure_beyond (excepts ns ps) v)
sure_within folds v q =
    ap₂ (λ (cs ds : List Count). cs ++ ds)
    (ap (counts_of walked) (sure_drop 1 v.here) ∙ sure_counts walked (drop 1 v.here))
    ((λ i. step_counts (count (sure_child 2 v.here i).shape) (sure_seen v) (sure_child 1 v.here i).shape)
    ∙ sure_steps (count (child_at 2 v.here).shape) v (child_at 1 v.here).shape)

sure_sized : (w : ℕ) (p : Place) (f : Family) (v : Seen) → sure (sized w p f (sure_seen v)) ≡ sure (sized w p f v)
sure_sized w p f v = λ i. record {
  shape = sure_shape w f v i;
  counts = λ q. own_count (has_number f q) p (sure_shape w f v i) ++ sure_within f v q i;
  beyond = sure_beyond f v i;
  literal = sure_literal f v i;
  sound = true;
}

-- ---- extents in which names have the same shapes, but for names without one

pub record SameReads (g h : Extent) : Type 0 where
  pub declared : (i : ℕ) (primed : Bool) → found (read_shape (op.Name i primed) g) ≡ found (read_shape (op.Name i primed) h)
  pub bound : (x : List ℕ) → found (find_last x g.bound) ≡ found (find_last x h.bound)

found_behind : (o q r : Option Shape) → found q ≡ found r → found (or_else o q) ≡ found (or_else o r)
found_behind None q r h = h
found_behind (Some a) q r h = refl

reads_inside : (xs : List (List ℕ)) (as' : List Shape) (g h : Extent) → SameReads g h → SameReads (bind_shapes xs as' g) (bind_shapes xs as' h)
reads_inside xs as' g h r = record {
  declared = r.declared;
  bound = λ x.
      ap found (find-append x g.bound (bound_shapes xs as'))
      ∙ found_behind (find_last x (bound_shapes xs as')) (find_last x g.bound) (find_last x h.bound) (r.bound x)
      ∙ sym (ap found (find-append x h.bound (bound_shapes xs as')));
}

read_same : (o : Op) (g h : Extent) → SameReads g h → found (read_shape o g) ≡ found (read_shape o h)
read_same (op.Name i primed) g h r = r.declared i primed
read_same (op.Bound x) g h r = r.bound x
read_same o g h r = refl

-- ---- every tree

abbrev Alike : Sizing → Type 0
Alike z = (g h : Extent) → SameReads g h → sure (z g) ≡ sure (z h)

abbrev AllAlike : List Sizing → Type 0
AllAlike [] = Unit {0}
AllAlike (z ∷ zs) = Alike z × AllAlike zs

alike_outside : (ms : List Bool) (zs : List Sizing) (g h : Extent) → AllAlike zs → SameReads g h → sures (outside ms zs g) ≡ sures (outside ms zs h)
alike_outside ms [] g h a r = refl
alike_outside [] (z ∷ zs) g h a r = ap₂ (λ (x : Sized) (xs : List Sized). x ∷ xs) (a.0 g h r) (alike_outside [] zs g h a.1 r)
alike_outside (true ∷ ms) (z ∷ zs) g h a r = ap₂ (λ (x : Sized) (xs : List Sized). x ∷ xs) refl (alike_outside ms zs g h a.1 r)
alike_outside (false ∷ ms) (z ∷ zs) g h a r = ap₂ (λ (x : Sized) (xs : List Sized). x ∷ xs) (a.0 g h r) (alike_outside ms zs g h a.1 r)

alike_underneath : (ms : List Bool) (zs : List Sizing) (g h : Extent) → AllAlike zs → SameReads g h → sures (underneath ms zs g) ≡ sures (underneath ms zs h)
alike_underneath ms [] g h a r = refl
alike_underneath [] (z ∷ zs) g h a r = ap₂ (λ (x : Sized) (xs : List Sized). x ∷ xs) refl (alike_underneath [] zs g h a.1 r)
alike_underneath (true ∷ ms) (z ∷ zs) g h a r = ap₂ (λ (x : Sized) (xs : List Sized). x ∷ xs) (a.0 g h r) (alike_underneath ms zs g h a.1 r)
alike_underneath (false ∷ ms) (z ∷ zs) g h a r = ap₂ (λ (x : Sized) (xs : List Sized). x ∷ xs) refl (alike_underneath ms zs g h a.1 r)

alike_seen : (o : Op) (ms : List Bool) (xs : List (List ℕ)) (zs : List Sizing) (g h : Extent) → AllAlike zs → SameReads g h →
    sure_seen (seen (read_shape o) ms xs zs g) ≡ sure_seen (seen (read_shape o) ms xs zs h)
alike_seen o ms xs zs g h a r = λ i. record {
  here = alike_outside ms zs g h a r i;
  under = λ as'. alike_underneath ms zs (bind_shapes xs as' g) (bind_shapes xs as' h) a (reads_inside xs as' g h r) i;
  name = Some (read_same o g h r i);
}

index_sure : (v : Seen) → index_of (sures v.here) ≡ index_of v.here
index_sure v = ap (λ (a : Sized). a.literal) (sure_child 1 v.here)

alike_node : (w : ℕ) (p : Place) (o : Op) (xs : List (List ℕ)) (ps : List Bool) (k : Kind) (ks : List Kind) (zs : List Sizing) → AllAlike zs → Alike (sized_node w p o xs ps k ks zs)
alike_node w p o xs ps k ks zs a g h r =
    let v : Seen = seen (read_shape o) (marks_of (role o (length xs))) xs zs g in
    let u : Seen = seen (read_shape o) (marks_of (role o (length xs))) xs zs h in
    let f : Literal → Family = λ l. family_with o (length xs) k ks l ps in
    let both : Seen → Sized = λ y. sure (sized w p (f (index_of y.here)) y) in
    sym (ap (λ l. sure (sized w p (f l) (sure_seen v))) (index_sure v) ∙ sure_sized w p (f (index_of v.here)) v)
    ∙ ap both (alike_seen o (marks_of (role o (length xs))) xs zs g h a r)
    ∙ ap (λ l. sure (sized w p (f l) (sure_seen u))) (index_sure u) ∙ sure_sized w p (f (index_of u.here)) u

abbrev AlikeTree : ℕ → Expr → Type 0
AlikeTree w e = (ks : List Kind) → Alike ((tree_sized w e).sizing ks)

alike_sizings : (w : ℕ) (es : List Expr) (ks : List Kind) → Each (AlikeTree w) es → AllAlike (sizings (map (tree_sized w) es) ks)
alike_sizings w [] ks h = tt
alike_sizings w (e ∷ es) ks h = (h.0 (take (tree_sized w e).size ks), alike_sizings w es (drop (tree_sized w e).size ks) h.1)

pub same_reads : (w : ℕ) (e : Expr) → AlikeTree w e
same_reads w = by_nodes (AlikeTree w) (λ x c ks g h r.
    ap (λ (a : SizedTree). sure (a.sizing ks g)) (tree-roll w x)
    ∙ alike_node w x.place x.op x.binds (parts_of x) (first_kind ks) (kinds_of (map (tree_sized w) x.args) (drop 1 ks)) (sizings (map (tree_sized w) x.args) (drop 1 ks))
    (alike_sizings w x.args (drop 1 ks) c) g h r
    ∙ ap (λ (a : SizedTree). sure (a.sizing ks h)) (sym (tree-roll w x)))
