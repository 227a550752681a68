-- A tree with bounds is sound where the tree is.
use Rattle.std.proofs.Common.{◌≡◌, ℕ, zero, suc, Bool, true, false, not, ◌&&◌, ◌||◌, List, [], ◌∷◌, ◌++◌, zip, take, drop, length, ℤ, refl, sym, ◌∙◌, ap, ap₂, subst, Option, Some, option_map, option_and_then}
use Rattle.std.specs.List.{list_all}
use Rattle.tla_values.specs.declared.value.Value.TheVariants as value
use Rattle.tla_meaning.specs.declared.place.Place.{Place}
use Rattle.tla_meaning.specs.Meaning.{role}
use Rattle.tla_meaning.proofs.Views.{and_both, false≢true}
use Rattle.kernel_trees.specs.declared.kernel.Ker.{Ker, roll-Ker, out-Ker, out-roll-Ker}
use Rattle.kernel_trees.specs.declared.kernel.Ker.TheOpen.{Ker-F}
use Rattle.kernel_trees.specs.declared.kernel.KerOp.{KerOp}
use Rattle.kernel_trees.specs.declared.kernel.KerOp.TheVariants as ker
use Rattle.kernel_trees.specs.Sound.{kind_at, Context, passes, binder_row, row, is_infinite, form_child, Part, kinds_at, children, plain, binder_body, binder, literal_of, updated_kind, update, item_of, fold_left, is_bound, sound_at, sound}
use Rattle.kernel_trees.specs.Trees.{op_of}
use Rattle.kernel_trees.specs.TypeKinds.{Kind, Number, Set, all_there, is_kind, members, kind_of}
use Rattle.kernel_trees.proofs.SoundNodes.{with_asked, sound-roll}
use Rattle.kernel_trees.proofs.SoundRows.{Row, row_range, BinderRow}
use Rattle.kernel_trees.proofs.SoundTrees.{Child, Children, Node, node_plain, node_bounded, node_binder, sound_step}
use Rattle.kernel_trees.proofs.SoundWider.{and_mono, passes_mono}
use Rattle.kernel_trees.proofs.Trees.{Each, by_nodes}
use Rattle.kernel_trees.proofs.TypeLaws.{kind-Int}
use Rattle.kernel_shapes.specs.Shape.{Shape}
use Rattle.kernel_shapes.specs.Sized.{Extent}
use Rattle.kernel_shapes.specs.Trees.{marks_of}
use Rattle.tree_bounds.specs.Bounded.{bounded_each, constant, high_end, low_end, with_bounds, with_ends}
use Rattle.tree_bounds.specs.Laws.{StaysSound}
use Rattle.tree_bounds.proofs.SameExpressions.{bounds-roll, with_bounding}

-- ---- a part for another

-- of its kind, the same literal, and sound where that is
pub record Stands (p q : Part) : Type 0 where
  pub kind : kind_at q.0 ≡ kind_at p.0
  pub literal : literal_of (out-Ker q.0).op ≡ literal_of (out-Ker p.0).op
  pub asked : (c : Context) (b : Bool) → p.1 c b ≡ true → q.1 c b ≡ true

abbrev StandAll : List Part → List Part → Type 0
StandAll [] [] = Unit {0}
StandAll (p ∷ ps) (q ∷ qs) = Stands p q × StandAll ps qs
StandAll [] (q ∷ qs) = ⊥
StandAll (p ∷ ps) [] = ⊥

same_kinds : (ps qs : List Part) → StandAll ps qs → kinds_at qs ≡ kinds_at ps
same_kinds [] [] h = refl
same_kinds (p ∷ ps) (q ∷ qs) h =
    ap₂ (λ o os. option_and_then (λ x. option_map (λ xs. x ∷ xs) os) o) h.0.kind (same_kinds ps qs h.1)
same_kinds [] (q ∷ qs) h = absurd h
same_kinds (p ∷ ps) [] h = absurd h

stand_take : (n : ℕ) (ps qs : List Part) → StandAll ps qs → StandAll (take n ps) (take n qs)
stand_take zero ps qs h = tt
stand_take (suc n) [] [] h = tt
stand_take (suc n) (p ∷ ps) (q ∷ qs) h = (h.0, stand_take n ps qs h.1)
stand_take (suc n) [] (q ∷ qs) h = absurd h
stand_take (suc n) (p ∷ ps) [] h = absurd h

stand_drop : (n : ℕ) (ps qs : List Part) → StandAll ps qs → StandAll (drop n ps) (drop n qs)
stand_drop zero ps qs h = h
stand_drop (suc n) [] [] h = tt
stand_drop (suc n) (p ∷ ps) (q ∷ qs) h = stand_drop n ps qs h.1
stand_drop (suc n) [] (q ∷ qs) h = absurd h
stand_drop (suc n) (p ∷ ps) [] h = absurd h

-- a test that passes more, of an equal option
passes_for : {X : Type 0} (f g : X → Bool) (o q : Option X) → q ≡ o → ((x : X) → f x ≡ true → g x ≡ true) →
    passes f o ≡ true → passes g q ≡ true
passes_for f g o q e m h = ap (passes g) e ∙ passes_mono f g o m h

children_stand : (o : KerOp) (n : ℕ) (c : Context) (b : Bool) (ps qs : List Part) → StandAll ps qs →
    children o n c b ps ≡ true →
    children o n c b qs ≡ true
children_stand o n c b [] [] m h = refl
children_stand o n c b (p ∷ ps) (q ∷ qs) m h =
    and_mono (p.1 c (form_child o n b)) (children o (suc n) c b ps) (q.1 c (form_child o n b))
    (children o (suc n) c b qs)
    (m.0.asked c (form_child o n b)) (children_stand o (suc n) c b ps qs m.1) h
children_stand o n c b [] (q ∷ qs) m h = absurd m
children_stand o n c b (p ∷ ps) [] m h = absurd m

all_stand : (c : Context) (ps qs : List Part) → StandAll ps qs → list_all (λ (p : Part). p.1 c false) ps ≡ true →
    list_all (λ (p : Part). p.1 c false) qs ≡ true
all_stand c [] [] m h = refl
all_stand c (p ∷ ps) (q ∷ qs) m h =
    and_mono (p.1 c false) (list_all (λ (p : Part). p.1 c false) ps) (q.1 c false)
    (list_all (λ (p : Part). p.1 c false) qs)
    (m.0.asked c false) (all_stand c ps qs m.1) h
all_stand c [] (q ∷ qs) m h = absurd m
all_stand c (p ∷ ps) [] m h = absurd m

plain_stand : (o : KerOp) (a : Kind) (c : Context) (b : Bool) (ps qs : List Part) → StandAll ps qs →
    plain o a c b ps ≡ true →
    plain o a c b qs ≡ true
plain_stand o a c b ps qs m h =
    let row_of : Option (List Kind) → Bool = λ ks. passes (row o a) ks && (not (is_infinite o) || b) in
    and_mono (row_of (kinds_at ps)) (children o 0 c b ps) (row_of (kinds_at qs)) (children o 0 c b qs)
    (λ x. ap row_of (same_kinds ps qs m) ∙ x) (children_stand o 0 c b ps qs m) h

body_stand : (o : KerOp) (a : Kind) (xs : List ℕ) (c : Context) (ms : List Kind) (ps qs : List Part) → StandAll ps qs →
    binder_body o a xs c ps ms ≡ true → binder_body o a xs c qs ms ≡ true
body_stand o a xs c ms [] qs m h = absurd (false≢true h)
body_stand o a xs c ms (p ∷ r ∷ ps) qs m h = absurd (false≢true h)
body_stand o a xs c ms (p ∷ []) [] m h = absurd m
body_stand o a xs c ms (p ∷ []) (q ∷ r ∷ qs) m h = absurd m.1
body_stand o a xs c ms (p ∷ []) (q ∷ []) m h =
    let row_of : Option Kind → Bool = λ k. passes (binder_row o a ms) k in
    and_mono (row_of (kind_at p.0)) (p.1 (c ++ zip xs ms) false) (row_of (kind_at q.0)) (q.1 (c ++ zip xs ms) false)
    (λ x. ap row_of m.0.kind ∙ x) (m.0.asked (c ++ zip xs ms) false) h

binder_stand : (o : KerOp) (a : Kind) (xs : List ℕ) (c : Context) (ps qs : List Part) → StandAll ps qs →
    binder o a xs c ps ≡ true → binder o a xs c qs ≡ true
binder_stand o a xs c ps qs m h =
    let n : ℕ = length xs in
    let all : List Part → Bool = λ ks. list_all (λ (p : Part). p.1 c false) ks in
    let kinds : List Part → Option (List Kind) = λ ks. option_and_then members (kinds_at ks) in
    let bodies : List Part → Bool = λ ks. passes (binder_body o a xs c (drop n ks)) (kinds (take n ks)) in
    let front = stand_take n ps qs m in
    and_mono (all (take n ps)) (bodies ps) (all (take n qs)) (bodies qs) (all_stand c (take n ps) (take n qs) front)
    (passes_for (binder_body o a xs c (drop n ps)) (binder_body o a xs c (drop n qs)) (kinds (take n ps))
    (kinds (take n qs))
    (ap (option_and_then members) (same_kinds (take n ps) (take n qs) front))
    (λ ms. body_stand o a xs c ms (drop n ps) (drop n qs) (stand_drop n ps qs m))) h

update_stand : (a : Kind) (xs : List ℕ) (c : Context) (ps qs : List Part) → StandAll ps qs → update a xs c ps ≡ true →
    update a xs c qs ≡ true
update_stand a (x ∷ []) c (f ∷ i ∷ e ∷ []) (f' ∷ i' ∷ e' ∷ []) m h =
    let is_it : Kind → Part → Bool = λ k p. is_kind k (kind_at p.0) in
    let old : Option Kind → Option Kind = option_and_then (λ k. updated_kind a k (literal_of (out-Ker i.0).op)) in
    let old' : Option Kind → Option Kind = option_and_then (λ k. updated_kind a k (literal_of (out-Ker i'.0).op)) in
    let new : Kind → Bool = λ b. is_it b e && e.1 (c ++ (x, b) ∷ []) false in
    let new' : Kind → Bool = λ b. is_it b e' && e'.1 (c ++ (x, b) ∷ []) false in
    and_mono (is_it a f && (f.1 c false && i.1 c false)) (passes new (old (kind_at i.0)))
    (is_it a f' && (f'.1 c false && i'.1 c false)) (passes new' (old' (kind_at i'.0)))
    (and_mono (is_it a f) (f.1 c false && i.1 c false) (is_it a f') (f'.1 c false && i'.1 c false)
    (λ y. ap (is_kind a) m.0.kind ∙ y)
    (and_mono (f.1 c false) (i.1 c false) (f'.1 c false) (i'.1 c false) (m.0.asked c false) (m.1.0.asked c false)))
    (passes_for new new' (old (kind_at i.0)) (old' (kind_at i'.0))
    (ap₂ (λ l o. option_and_then (λ k. updated_kind a k l) o) m.1.0.literal m.1.0.kind)
    (λ b. and_mono (is_it b e) (e.1 (c ++ (x, b) ∷ []) false) (is_it b e') (e'.1 (c ++ (x, b) ∷ []) false)
    (λ y. ap (is_kind b) m.1.1.0.kind ∙ y) (m.1.1.0.asked (c ++ (x, b) ∷ []) false))) h
update_stand a (x ∷ []) c (f ∷ i ∷ e ∷ []) [] m h = absurd m
update_stand a (x ∷ []) c (f ∷ i ∷ e ∷ []) (f' ∷ []) m h = absurd m.1
update_stand a (x ∷ []) c (f ∷ i ∷ e ∷ []) (f' ∷ i' ∷ []) m h = absurd m.1.1
update_stand a (x ∷ []) c (f ∷ i ∷ e ∷ []) (f' ∷ i' ∷ e' ∷ k ∷ qs) m h = absurd m.1.1.1
update_stand a xs c ps qs m h = absurd (false≢true h)

fold_stand : (a : Kind) (xs : List ℕ) (c : Context) (ps qs : List Part) → StandAll ps qs → fold_left a xs c ps ≡ true →
    fold_left a xs c qs ≡ true
fold_stand a (x ∷ y ∷ []) c (e ∷ f ∷ q ∷ []) (e' ∷ f' ∷ q' ∷ []) m h =
    let is_it : Part → Bool = λ p. is_kind a (kind_at p.0) in
    let body : Part → Kind → Bool = λ p b. p.1 (c ++ (x, a) ∷ (y, b) ∷ []) false in
    let items : Part → Option Kind = λ p. option_and_then item_of (kind_at p.0) in
    and_mono ((is_it e && is_it f) && (f.1 c false && q.1 c false)) (passes (body e) (items q))
    ((is_it e' && is_it f') && (f'.1 c false && q'.1 c false)) (passes (body e') (items q'))
    (and_mono (is_it e && is_it f) (f.1 c false && q.1 c false) (is_it e' && is_it f') (f'.1 c false && q'.1 c false)
    (and_mono (is_it e) (is_it f) (is_it e') (is_it f') (λ z. ap (is_kind a) m.0.kind ∙ z)
    (λ z. ap (is_kind a) m.1.0.kind ∙ z))
    (and_mono (f.1 c false) (q.1 c false) (f'.1 c false) (q'.1 c false) (m.1.0.asked c false) (m.1.1.0.asked c false)))
    (passes_for (body e) (body e') (items q) (items q') (ap (option_and_then item_of) m.1.1.0.kind)
    (λ b. m.0.asked (c ++ (x, a) ∷ (y, b) ∷ []) false)) h
fold_stand a (x ∷ y ∷ []) c (e ∷ f ∷ q ∷ []) [] m h = absurd m
fold_stand a (x ∷ y ∷ []) c (e ∷ f ∷ q ∷ []) (e' ∷ []) m h = absurd m.1
fold_stand a (x ∷ y ∷ []) c (e ∷ f ∷ q ∷ []) (e' ∷ f' ∷ []) m h = absurd m.1.1
fold_stand a (x ∷ y ∷ []) c (e ∷ f ∷ q ∷ []) (e' ∷ f' ∷ q' ∷ k ∷ qs) m h = absurd m.1.1.1
fold_stand a xs c ps qs m h = absurd (false≢true h)

-- a node of any operator but a range
abbrev not_range : KerOp → Bool
not_range ker.Range = false
not_range o = true

at_stands : (names : List Kind) (o : KerOp) (a : Kind) (xs : List ℕ) (c : Context) (b : Bool) (ps qs : List Part) →
    not_range o ≡ true →
    StandAll ps qs → sound_at names o a xs ps c b ≡ true → sound_at names o a xs qs c b ≡ true
at_stands names (ker.Name i primed) a xs c b [] [] n m h = h
at_stands names (ker.Bound i) a xs c b [] [] n m h = h
at_stands names (ker.Name i primed) a xs c b [] (q ∷ qs) n m h = absurd m
at_stands names (ker.Bound i) a xs c b [] (q ∷ qs) n m h = absurd m
at_stands names (ker.Name i primed) a xs c b (p ∷ ps) [] n m h = absurd m
at_stands names (ker.Bound i) a xs c b (p ∷ ps) [] n m h = absurd m
at_stands names ker.Some a xs c b ps qs n m h = binder_stand ker.Some a xs c ps qs m h
at_stands names ker.Every a xs c b ps qs n m h = binder_stand ker.Every a xs c ps qs m h
at_stands names ker.Filter a xs c b ps qs n m h = binder_stand ker.Filter a xs c ps qs m h
at_stands names ker.MapOver a xs c b ps qs n m h = binder_stand ker.MapOver a xs c ps qs m h
at_stands names ker.FunOf a xs c b ps qs n m h = binder_stand ker.FunOf a xs c ps qs m h
at_stands names ker.Update a xs c b ps qs n m h = update_stand a xs c ps qs m h
at_stands names ker.FoldLeft a xs c b ps qs n m h = fold_stand a xs c ps qs m h
at_stands names ker.Range a xs c b ps qs n m h = absurd (false≢true n)
at_stands names o a xs c b ps qs n m h = plain_stand o a c b ps qs m h

-- ---- trees with bounds

-- the operator and the type of a tree stay
pub same_op : (w : ℕ) (k : Ker) (gs : List Extent) → (out-Ker (with_bounds w k gs)).op ≡ (out-Ker k).op
same_op w = by_nodes (λ k. (gs : List Extent) → (out-Ker (with_bounds w k gs)).op ≡ (out-Ker k).op) (λ x h gs.
    ap (λ k. (out-Ker k).op) (bounds-roll w x gs) ∙ ap (λ (y : Ker-F Ker). y.op) (out-roll-Ker _)
    ∙ sym (ap (λ (y : Ker-F Ker). y.op) (out-roll-Ker x)))

pub same_type : (w : ℕ) (k : Ker) (gs : List Extent) → kind_at (with_bounds w k gs) ≡ kind_at k
same_type w = by_nodes (λ k. (gs : List Extent) → kind_at (with_bounds w k gs) ≡ kind_at k) (λ x h gs.
    ap kind_at (bounds-roll w x gs) ∙ ap (λ (y : Ker-F Ker). kind_of y.ty) (out-roll-Ker _)
    ∙ sym (ap (λ (y : Ker-F Ker). kind_of y.ty) (out-roll-Ker x)))

-- a sound range is a set of numbers, from one to another
pub data RangeNode (names : List Kind) (c : Context) : Kind → List Ker → Type 0 where
  range_node : (x y : Ker) (ks : List Ker) → Child names c false Number x → Child names c false Number y →
      RangeNode names c (Set Number) (x ∷ y ∷ ks)

pub range_parts : (names : List Kind) (c : Context) (b : Bool) (a : Kind) (xs : List ℕ) (ks : List Ker) →
    Node names c b ker.Range a xs ks →
    RangeNode names c a ks
range_parts names c b _ _ _ (node_bounded xs x y l h cx cy bl bh) = range_node x y (l ∷ h ∷ []) cx cy
range_parts names c b _ _ _ (node_plain _ a xs ks as' r h i) = by a as' ks r h
  where
    by : (a : Kind) (as' : List Kind) (ks : List Ker) → Row ker.Range a as' → Children names ker.Range 0 c b ks as' →
        RangeNode names c a ks
    by _ _ [] row_range h = absurd h
    by _ _ (x ∷ []) row_range h = absurd h.1
    by _ _ (x ∷ y ∷ []) row_range h = range_node x y [] h.0 h.1.0
    by _ _ (x ∷ y ∷ z ∷ ks) row_range h = absurd h.1.1
range_parts names c b _ _ _ (node_binder _ a xs ks sets body ms e d n r hs hb) = by a ms e r
  where
    by : (a : Kind) (ms : List Kind) (e : Kind) → BinderRow ker.Range a ms e → RangeNode names c a ks
    by a ms e r = elim r [ ]

module _ (names : List Kind) (w : ℕ) where
  abbrev Stays : Ker → Type 0
  Stays k =
      (c : Context) (b : Bool) (gs : List Extent) → sound names k c b ≡ true →
      sound names (with_bounds w k gs) c b ≡ true

  child_stands : (k : Ker) (gs : List Extent) → Stays k →
      Stands (k, sound names k) (with_bounds w k gs, sound names (with_bounds w k gs))
  child_stands k gs h = record {
    kind = same_type w k gs;
    literal = ap literal_of (same_op w k gs);
    asked = λ c b. h c b gs;
  }

  each_stands : (ms : List Bool) (gs hs : List Extent) (ks : List Ker) → Each Stays ks →
      StandAll (with_asked names ks) (with_asked names (bounded_each ms gs hs (with_bounding w ks)))
  each_stands ms gs hs [] h = tt
  each_stands [] gs hs (k ∷ ks) h = (child_stands k gs h.0, each_stands [] gs hs ks h.1)
  each_stands (true ∷ ms) gs hs (k ∷ ks) h = (child_stands k hs h.0, each_stands ms gs hs ks h.1)
  each_stands (false ∷ ms) gs hs (k ∷ ks) h = (child_stands k gs h.0, each_stands ms gs hs ks h.1)

  constant_bounds : (c : Context) (p : Place) (n : ℤ) → is_bound c (constant p n, sound names (constant p n)) ≡ true
  constant_bounds c p n = simp (sound-roll, out-roll-Ker, kind-Int, value.outs-Int)

  range_stays : (p : Place) (s : Shape) (a : Kind) (xs : List ℕ) (ks : List Ker) (c : Context) (b : Bool)
      (gs hs : List Extent) →
      RangeNode names c a ks → Each Stays ks →
      sound_at names ker.Range a xs (with_asked names
      (with_ends ker.Range p s (bounded_each [] gs hs (with_bounding w ks)))) c b ≡ true
  range_stays p s _ xs _ c b gs hs (range_node x y ks cx cy) h =
      let i : Ker = with_bounds w x gs in
      let j : Ker = with_bounds w y gs in
      let low : Ker = constant p (low_end s) in
      let high : Ker = constant p (high_end s) in
      let sounds : Bool = sound names i c false && (sound names j c false && true) in
      let row_of : Option Kind → Option Kind → Bool =
      λ o q. passes (row ker.Range (Set Number)) (all_there (o ∷ q ∷ [])) in
      and_both (is_bound c (low, sound names low) && is_bound c (high, sound names high))
      ((row_of (kind_at i) (kind_at j) && true) && sounds)
      (and_both (is_bound c (low, sound names low)) (is_bound c (high, sound names high))
      (constant_bounds c p (low_end s)) (constant_bounds c p (high_end s)))
      (and_both (row_of (kind_at i) (kind_at j) && true) sounds
      (and_both (row_of (kind_at i) (kind_at j)) true
      (ap₂ row_of (same_type w x gs ∙ cx.0) (same_type w y gs ∙ cy.0)) refl)
      (and_both (sound names i c false) (sound names j c false && true) (h.0 c false gs cx.1)
      (and_both (sound names j c false) true (h.1.0 c false gs cy.1) refl)))

  node_stays : (p : Place) (s : Shape) (o : KerOp) (a : Kind) (xs : List ℕ) (ks : List Ker) (c : Context) (b : Bool)
      (gs hs : List Extent) →
      Node names c b o a xs ks → Each Stays ks → sound_at names o a xs (with_asked names ks) c b ≡ true →
      sound_at names o a xs (with_asked names (with_ends o p s
      (bounded_each (marks_of (role (op_of o) (length xs))) gs hs (with_bounding w ks)))) c b ≡ true
  node_stays p s ker.Range a xs ks c b gs hs n h e =
      range_stays p s a xs ks c b gs hs (range_parts names c b a xs ks n) h
  node_stays p s o a xs ks c b gs hs n h e =
      at_stands names o a xs c b (with_asked names ks) _ refl
      (each_stands (marks_of (role (op_of o) (length xs))) gs hs ks h) e

  pub sound_stays : (k : Ker) → Stays k
  sound_stays = by_nodes Stays (λ x h c b gs e.
      let test : Kind → Bool = λ a. sound_at names x.op a x.binds (with_asked names x.args) c b in
      let step : (a : Kind) × (kind_of x.ty ≡ Some a) × Node names c b x.op a x.binds x.args =
      subst (λ (y : Ker-F Ker). (a : Kind) × (kind_of y.ty ≡ Some a) × Node names c b y.op a y.binds y.args)
      (out-roll-Ker x) (sound_step names (roll-Ker x) c b e) in
      let here : test step.0 ≡ true = sym (ap (passes test) step.1) ∙ (sym (sound-roll names x c b) ∙ e) in
      ap (λ k. sound names k c b) (bounds-roll w x gs)
      ∙ sound-roll names _ c b
      ∙ ap (passes _) step.1
      ∙ node_stays x.place _ x.op step.0 x.binds x.args c b gs _ step.2 h here)

pub each_stays_sound : (w : ℕ) (names : List Kind) (k : Ker) (c : Context) (b : Bool) (gs : List Extent) →
    StaysSound w names k c b gs
each_stays_sound w names k c b gs h = sound_stays names w k c b gs h
