-- Trees whose ranges get bounds, node by node.
use Rattle.std.proofs.Common.{◌≡◌, ◌<◌, ◌≤◌, ℕ, zero, suc, ◌+◌, Bool, true, false, nat_eq, List, [], ◌∷◌, ◌++◌, map, take, flat_map, length, get_or, replicate, ℤ, Option, Some, None, refl, sym, ◌∙◌, ap, ap₂, subst, arith, if◌then◌else◌}
use Rattle.std.proofs.Math.Dec.{eqb-suc-suc, eqb-suc-zero, eqb-zero-suc}
use Rattle.tla_values.specs.Order.{Layer}
use Rattle.tla_values.specs.declared.value.Value.{Value, out-Value}
use Rattle.tla_values.specs.declared.value.Value.TheOpen as layer
use Rattle.tla_meaning.specs.declared.place.Place.{Place}
use Rattle.tla_meaning.specs.Meaning.{role}
use Rattle.kernel_trees.specs.declared.kernel.Ker.{Ker, out-Ker, roll-Ker, roll-out-Ker}
use Rattle.kernel_trees.specs.declared.kernel.Ker.TheOpen.{Ker-F}
use Rattle.kernel_trees.specs.declared.kernel.KerOp.{KerOp}
use Rattle.kernel_trees.specs.declared.kernel.KerOp.TheVariants as ker
use Rattle.kernel_trees.specs.Trees.{constant, op_of}
use Rattle.kernel_shapes.specs.declared.bounds.Shape.{Shape as Code}
use Rattle.kernel_shapes.specs.Codes.{mean}
use Rattle.kernel_shapes.specs.Kernel.{ker_shape}
use Rattle.kernel_shapes.specs.Rows.{nth}
use Rattle.kernel_shapes.specs.Shape.{Shape, Num, Set, join_all}
use Rattle.kernel_shapes.specs.Sized.{Extent}
use Rattle.kernel_shapes.specs.Trees.{marks_of}
use Rattle.tree_bounds.specs.Bounded.{Bounding, bounded_each, bounded_node, high_end, low_end, with_bounds, with_ends}
use Rattle.tree_bounds.proofs.SameExpressions.{bounds-roll}
use Rattle.shape_bounds.specs.declared.names.Names.{Names}
use Rattle.shape_bounds.specs.Kept.{capped}
use Rattle.shape_bounds.specs.inner.Bindings.{is_binding, mark_at}
use Rattle.shape_bounds.specs.inner.Bounding.{AreBounded, AreChildren, HasEnds, IsBounded, boundings, chosen, marks_at, node_with, with_pair}
use Rattle.shape_bounds.specs.inner.Stacks.{AreShapes, AreUnderAll, Stack, Stand, Stays, extents_in}
use Rattle.shape_bounds.proofs.Ending.{all_taken}
use Rattle.shape_bounds.proofs.Keeping.{capped_join_all}
use Rattle.shape_bounds.proofs.Stacked.{stand_same, stays_more, stays_self}

-- ---- which children stand under the numbers

behind_mark : (n i : ℕ) → nat_eq i n ≡ nth false i (replicate n false ++ true ∷ [])
behind_mark zero zero = refl
behind_mark zero (suc i) = eqb-suc-zero i
behind_mark (suc n) zero = eqb-zero-suc n
behind_mark (suc n) (suc i) = eqb-suc-suc i n ∙ behind_mark n i

constant_marks : (l : Layer Value) (n : ℕ) → marks_of (role (constant l) n) ≡ []
constant_marks (layer.Bool b) n = refl
constant_marks (layer.Int m) n = refl
constant_marks (layer.Text x) n = refl
constant_marks l n = refl

mark_is : (o : KerOp) (n i : ℕ) → mark_at o n i ≡ nth false i (marks_of (role (op_of o) n))
mark_is ker.Filter n i = behind_mark n i
mark_is ker.MapOver n i = behind_mark n i
mark_is ker.FunOf n i = behind_mark n i
mark_is ker.Some n i = behind_mark n i
mark_is ker.Every n i = behind_mark n i
mark_is ker.Update n i = behind_mark 2 i
mark_is ker.FoldLeft n i = behind_mark 0 i
mark_is (ker.Const v) n i = sym (ap (nth false i) (constant_marks (out-Value v) n))
mark_is o n i = refl

no_marks : (o : KerOp) (n : ℕ) → is_binding o ≡ false → marks_of (role (op_of o) n) ≡ []
no_marks ker.Filter n h = absurd (cc)
no_marks ker.MapOver n h = absurd (cc)
no_marks ker.FunOf n h = absurd (cc)
no_marks ker.Some n h = absurd (cc)
no_marks ker.Every n h = absurd (cc)
no_marks ker.Update n h = absurd (cc)
no_marks ker.FoldLeft n h = absurd (cc)
no_marks (ker.Const v) n h = constant_marks (out-Value v) n
no_marks o n h = refl

-- ---- the children

abbrev Tree : Type 0
Tree = Ker × Bounding

each_end : (ms : List Bool) (gs hs : List Extent) (ks : List Tree) (k : Tree) →
    bounded_each ms gs hs (ks ++ k ∷ []) ≡ bounded_each ms gs hs ks ++ k.1 (if nth false (length ks) ms then hs else gs) ∷ []
each_end [] gs hs [] k = refl
each_end (true ∷ ms) gs hs [] k = refl
each_end (false ∷ ms) gs hs [] k = refl
each_end [] gs hs (j ∷ ks) k = ap (λ (rs : List Ker). j.1 gs ∷ rs) (each_end [] gs hs ks k)
each_end (true ∷ ms) gs hs (j ∷ ks) k = ap (λ (rs : List Ker). j.1 hs ∷ rs) (each_end ms gs hs ks k)
each_end (false ∷ ms) gs hs (j ∷ ks) k = ap (λ (rs : List Ker). j.1 gs ∷ rs) (each_end ms gs hs ks k)

unmarked : (gs hs is : List Extent) (ks : List Tree) → bounded_each [] gs hs ks ≡ bounded_each [] gs is ks
unmarked gs hs is [] = refl
unmarked gs hs is (k ∷ ks) = ap (λ (rs : List Ker). k.1 gs ∷ rs) (unmarked gs hs is ks)

-- the first so many children
pub record AreFirst (old new : Names) (k : Ker) (bs us : List Stack) (n : ℕ) (rs : List Ker) : Type 0 where
  pub stays : Stays old new
  pub trees : (gs hs : List Extent) → Stand old bs gs → Stand old us hs →
      rs ≡ bounded_each (marks_at k) gs hs (boundings old.width (take n (out-Ker k).args))

pub first_none : (s : Names) (k : Ker) (bs us : List Stack) → AreFirst s s k bs us 0 []
first_none s k bs us = record { stays = stays_self s; trees = λ gs hs e f. refl }

children_end : (w : ℕ) (ks : List Ker) (n : ℕ) (k : Ker) → n < length ks → k ≡ get_or ks n k → boundings w (take (suc n) ks) ≡ boundings w (take n ks) ++ (k, with_bounds w k) ∷ []
children_end w [] n k h e = absurd (omega (arith, h))
children_end w (j ∷ ks) zero k h e = ap (λ (i : Ker). (i, with_bounds w i) ∷ []) (sym e)
children_end w (j ∷ ks) (suc n) k h e = ap (λ (us : List Tree). (j, with_bounds w j) ∷ us) (children_end w ks n k (omega (arith, h)) e)

children_length : (w : ℕ) (ks : List Ker) (n : ℕ) → n < length ks → length (boundings w (take n ks)) ≡ n
children_length w [] n h = absurd (omega (arith, h))
children_length w (k ∷ ks) zero h = refl
children_length w (k ∷ ks) (suc n) h = ap suc (children_length w ks n (omega (arith, h)))

chosen_stands : (s : Names) (inner : Bool) (us bs : List Stack) (hs gs : List Extent) → Stand s us hs → Stand s bs gs →
    Stand s (chosen inner us bs) (if inner then hs else gs)
chosen_stands s true us bs hs gs h e = h
chosen_stands s false us bs hs gs h e = e

pub first_next : (old mid new : Names) (k c : Ker) (ks : List Ker) (bs us cs : List Stack) (n m : ℕ) (inner : Bool) (rs ts : List Ker) (r : Ker) → AreFirst old mid k bs us n rs →
    ks ≡ (out-Ker k).args → n < length ks → c ≡ get_or ks n c → m ≡ length (out-Ker k).binds → inner ≡ mark_at (out-Ker k).op m n → cs ≡ chosen inner us bs →
    IsBounded mid new c cs r → ts ≡ rs ++ r ∷ [] → AreFirst old new k bs us (n + 1) ts
first_next old mid new k c ks bs us cs n m inner rs ts r h a l i z p q b e = record {
  stays = stays_more old mid new h.stays b.stays;
  trees = λ gs hs x y.
      let w : ℕ = old.width in
      let one : suc n ≡ n + 1 = omega arith in
      let mark : inner ≡ nth false n (marks_at k) =
      p ∙ ap (λ (d : ℕ). mark_at (out-Ker k).op d n) z ∙ mark_is (out-Ker k).op (length (out-Ker k).binds) n in
      let there : List Extent = if inner then hs else gs in
      let stand : Stand mid cs there =
      stand_same old mid h.stays cs there (subst (λ (ds : List Stack). Stand old ds there) (sym q) (chosen_stands old inner us bs hs gs y x)) in
      let place : ℕ → List Extent = λ d. if nth false d (marks_at k) then hs else gs in
      e
      ∙ ap₂ (λ (us : List Ker) (u : Ker). us ++ u ∷ []) (h.trees gs hs x y)
      (b.tree there stand
      ∙ ap₂ (λ (v : ℕ) (t : Bool). with_bounds v c (if t then hs else gs)) h.stays.width mark
      ∙ ap (λ (d : ℕ). with_bounds w c (place d)) (sym (ap (λ (js : List Ker). length (boundings w (take n js))) (sym a) ∙ children_length w ks n l)))
      ∙ sym (each_end (marks_at k) gs hs (boundings w (take n (out-Ker k).args)) (c, with_bounds w c))
      ∙ ap (bounded_each (marks_at k) gs hs)
      (ap (λ (js : List Ker). boundings w (take n js) ++ (c, with_bounds w c) ∷ []) (sym a)
      ∙ sym (children_end w ks n c l i)
      ∙ ap₂ (λ (d : ℕ) (js : List Ker). boundings w (take d js)) one a);
}

pub first_whole : (old new : Names) (k : Ker) (ks : List Ker) (bs us : List Stack) (n : ℕ) (rs : List Ker) → AreFirst old new k bs us n rs → ks ≡ (out-Ker k).args → length ks ≤ n →
    AreBounded old new k bs us rs
first_whole old new k ks bs us n rs h a l = record {
  stays = h.stays;
  trees = λ gs hs x y.
      h.trees gs hs x y
      ∙ ap (λ (js : List Ker). bounded_each (marks_at k) gs hs (boundings old.width js))
      (ap (take n) (sym a) ∙ all_taken ks n l ∙ a);
}

-- no child stands under numbers
pub children_outside : (old new : Names) (k : Ker) (bs : List Stack) (rs : List Ker) → is_binding (out-Ker k).op ≡ false → AreBounded old new k bs bs rs → AreChildren old new k bs rs
children_outside old new k bs rs o h = record {
  stays = h.stays;
  trees = λ gs x.
      let none : marks_at k ≡ [] = no_marks (out-Ker k).op (length (out-Ker k).binds) o in
      let all : List Extent = flat_map (extents_in old.width k) gs in
      let ks : List Tree = boundings old.width (out-Ker k).args in
      h.trees gs gs x x
      ∙ ap (λ (ms : List Bool). bounded_each ms gs gs ks) none
      ∙ unmarked gs gs all ks
      ∙ ap (λ (ms : List Bool). bounded_each ms gs all ks) (sym none);
}

pub children_under : (old mid new : Names) (k : Ker) (bs us vs : List Stack) (rs : List Ker) → AreUnderAll old mid k bs us → vs ≡ us → AreBounded mid new k bs vs rs → AreChildren old new k bs rs
children_under old mid new k bs us vs rs u e h = record {
  stays = stays_more old mid new u.stays h.stays;
  trees = λ gs x.
      let all : List Extent = flat_map (extents_in old.width k) gs in
      h.trees gs all (stand_same old mid u.stays bs gs x)
      (subst (λ (ws : List Stack). Stand mid ws all) (sym e) (stand_same old mid u.stays us all (u.under gs x)))
      ∙ ap (λ (w : ℕ). bounded_each (marks_at k) gs all (boundings w (out-Ker k).args)) u.stays.width;
}

-- ---- bounds

low_kept : (a : Shape) → low_end (capped a) ≡ low_end a
low_kept (Set n (Num a b)) = refl
low_kept a = refl

high_kept : (a : Shape) → high_end (capped a) ≡ high_end a
high_kept (Set n (Num a b)) = refl
high_kept a = refl

two_ends : (p : Place) (a : Shape) (ks : List Ker) → with_ends ker.Range p a ks ≡ with_pair p (Some (low_end a, high_end a)) ks
two_ends p a [] = refl
two_ends p a (x ∷ []) = refl
two_ends p a (x ∷ y ∷ ks) = refl

capped_each : (w : ℕ) (k : Ker) (gs : List Extent) → map capped (map (ker_shape w k) gs) ≡ map (λ g. capped (ker_shape w k g)) gs
capped_each w k [] = refl
capped_each w k (g ∷ gs) = ap (λ (as' : List Shape). capped (ker_shape w k g) ∷ as') (capped_each w k gs)

pub range_bounds : (old new : Names) (k : Ker) (bs : List Stack) (rs ss : List Code) (r : Code) (e : ℤ × ℤ) → (out-Ker k).op ≡ ker.Range → AreShapes old new k bs rs →
    ss ≡ rs → mean r ≡ join_all (map mean ss) → e ≡ (low_end (mean r), high_end (mean r)) → HasEnds old new k bs (Some e)
range_bounds old new k bs rs ss r e o h q j f = record {
  stays = h.stays;
  ends = λ gs x ks.
      let a : Shape = join_all (map (ker_shape old.width k) gs) in
      let p : Place = (out-Ker k).place in
      let same : capped a ≡ mean r =
      capped_join_all (map (ker_shape old.width k) gs) ∙ ap join_all (capped_each old.width k gs ∙ h.shapes gs x)
      ∙ sym (j ∙ ap (λ (us : List Code). join_all (map mean us)) q) in
      ap (λ (u : KerOp). with_ends u p a ks) o
      ∙ two_ends p a ks
      ∙ ap₂ (λ (m n : ℤ). with_pair p (Some (m, n)) ks) (sym (low_kept a) ∙ ap low_end same) (sym (high_kept a) ∙ ap high_end same)
      ∙ ap (λ (u : ℤ × ℤ). with_pair p (Some u) ks) (sym f);
}

other_ends : (o : KerOp) (p : Place) (a : Shape) (ks : List Ker) → (o ≡ ker.Range → ⊥) → with_ends o p a ks ≡ ks
other_ends ker.Range p a ks h = absurd (h refl)
other_ends o p a ks h = refl

pub no_bounds : (s : Names) (k : Ker) (bs : List Stack) → ((out-Ker k).op ≡ ker.Range → ⊥) → HasEnds s s k bs None
no_bounds s k bs h = record {
  stays = stays_self s;
  ends = λ gs x ks. other_ends (out-Ker k).op (out-Ker k).place (join_all (map (ker_shape s.width k) gs)) ks h;
}

-- ---- the node

trees_there : (w : ℕ) (ks : List Ker) → map (λ (k : Tree). k.0) (boundings w ks) ≡ ks
trees_there w [] = refl
trees_there w (k ∷ ks) = ap (λ (js : List Ker). k ∷ js) (trees_there w ks)

node_is : (w : ℕ) (x : Ker-F Ker) (gs : List Extent) →
    with_bounds w (roll-Ker x) gs
    ≡ node_with x (with_ends x.op x.place (join_all (map (ker_shape w (roll-Ker x)) gs))
    (bounded_each (marks_of (role (op_of x.op) (length x.binds))) gs (flat_map (Rattle.tree_bounds.specs.Bounded.extents_under w x.op x.binds x.args) gs) (boundings w x.args)))
node_is w x gs =
    bounds-roll w x gs
    ∙ ap (λ (js : List Ker).
    node_with x (with_ends x.op x.place (join_all (map (ker_shape w (roll-Ker (record { place = x.place; ty = x.ty; op = x.op; args = js; binds = x.binds }))) gs))
    (bounded_each (marks_of (role (op_of x.op) (length x.binds))) gs (flat_map (Rattle.tree_bounds.specs.Bounded.extents_under w x.op x.binds js) gs) (boundings w x.args))))
    (trees_there w x.args)

pub tree_bounded : (old one new : Names) (k : Ker) (bs : List Stack) (e : Option (ℤ × ℤ)) (ks js : List Ker) (r : Ker) → HasEnds old one k bs e → AreChildren one new k bs ks →
    js ≡ with_pair (out-Ker k).place e ks → r ≡ node_with (out-Ker k) js → IsBounded old new k bs r
tree_bounded old one new k bs e ks js r h c f m = record {
  stays = stays_more old one new h.stays c.stays;
  tree = λ gs x.
      let w : ℕ = old.width in
      let y : Ker-F Ker = out-Ker k in
      let all : List Ker = bounded_each (marks_at k) gs (flat_map (extents_in w k) gs) (boundings w y.args) in
      let made : ks ≡ all =
      c.trees gs (stand_same old one h.stays bs gs x)
      ∙ ap (λ (v : ℕ). bounded_each (marks_at k) gs (flat_map (extents_in v k) gs) (boundings v y.args)) h.stays.width in
      m
      ∙ ap (node_with y)
      (f ∙ sym (h.ends gs x ks) ∙ ap (with_ends y.op y.place (join_all (map (ker_shape w k) gs))) made
      ∙ ap (λ (j : Ker). with_ends y.op y.place (join_all (map (ker_shape w j) gs)) all) (sym (roll-out-Ker k)))
      ∙ sym (node_is w y gs)
      ∙ ap (λ (j : Ker). with_bounds w j gs) (roll-out-Ker k);
}
