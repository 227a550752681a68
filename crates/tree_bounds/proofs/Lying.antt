-- Each range that the evaluation of a tree with bounds comes to lies within them.
use Rattle.std.proofs.Common.{◌≡◌, ℕ, zero, suc, ◌≤◌, Bool, true, false, IsTrue, List, [], ◌∷◌, ◌++◌, map, flat_map, zip, take, replicate, length, Some, arith, refl, sym, ◌∙◌, ap, ap₂, subst, inl, inr}
use Rattle.std.proofs.lemmas.List.{length-map}
use Rattle.std.specs.List.{AllByRecursion}
use Rattle.tla_values.specs.declared.value.Value.{Value, out-Value}
use Rattle.tla_meaning.specs.declared.job.State.{State}
use Rattle.tla_meaning.specs.declared.outcome.Outcome.{Outcome}
use Rattle.tla_meaning.specs.declared.outcome.Outcome.TheVariants.{Val, Wrong, Big}
use Rattle.tla_meaning.specs.declared.place.Place.{Place}
use Rattle.tla_meaning.specs.Meaning.{At, at_path, go_on, step_into}
use Rattle.tla_meaning.specs.Outcomes.{joined, values}
use Rattle.tla_meaning.specs.Scopes.{Scope, bind}
use Rattle.tla_meaning.specs.Shapes.{all_set_items, choices}
use Rattle.tla_meaning.proofs.Views.{and_both}
use Rattle.snowcat_rows.specs.declared.types.Ty.{Ty}
use Rattle.kernel_trees.specs.declared.kernel.Ker.{Ker, roll-Ker, out-Ker, out-roll-Ker}
use Rattle.kernel_trees.specs.declared.kernel.Ker.TheOpen.{Ker-F}
use Rattle.kernel_trees.specs.declared.kernel.KerOp.{KerOp}
use Rattle.kernel_trees.specs.declared.kernel.KerOp.TheVariants as ker
use Rattle.kernel_trees.specs.Paths.{mentions, mentions_at}
use Rattle.kernel_trees.specs.Sound.{Context, literal_of, sound, updated_kind}
use Rattle.kernel_trees.specs.Trees.{ker_val, names_of}
use Rattle.kernel_trees.specs.TypeKinds as kind
use Rattle.kernel_trees.specs.TypeKinds.{Kind, kind_of}
use Rattle.kernel_trees.proofs.SoundRows.{Row, row_const, row_and, row_or, row_if, row_range, row_nocase, BinderRow, row_some, row_every, row_filter, row_map, row_function}
use Rattle.kernel_trees.proofs.SoundTrees.{Child, Children, Sets, Node, node_name, node_bound, node_plain, node_bounded, node_binder, node_update, node_fold, sound_step}
use Rattle.kernel_trees.proofs.Trees.{Each, by_nodes, mentions-roll}
use Rattle.kernel_shapes.specs.Shape.{Shape, count, inside, join_all}
use Rattle.kernel_shapes.specs.Fits.{Fits, FitAll}
use Rattle.kernel_shapes.specs.Kernel.{ker_shape, ker_sized}
use Rattle.kernel_shapes.specs.Laws.{Ready}
use Rattle.kernel_shapes.specs.Rows.{insides}
use Rattle.kernel_shapes.specs.Sized.{Extent, bind_shapes, goes_through}
use Rattle.kernel_shapes.specs.TypedExtents.{OfTypes, without_shape}
use Rattle.kernel_shapes.specs.TypedStates.{OfKind}
use Rattle.kernel_shapes.proofs.Binders.{choices_fit}
use Rattle.kernel_shapes.proofs.Combine.{Meets}
use Rattle.kernel_shapes.proofs.FitLemmas.{AllFit, all_to}
use Rattle.kernel_shapes.proofs.KernelNodes.{ker-shape-roll}
use Rattle.kernel_shapes.proofs.KindLaw.{place_kind}
use Rattle.kernel_shapes.proofs.Law.{bind_ready}
use Rattle.kernel_shapes.proofs.Updates.{IfReached, reached_fits}
use Rattle.kernel_shapes.proofs.WellNamed.{kind_named, well_named}
use Rattle.kernel_ranges.specs.Ranges.{after, at_members, each_step, is_within, within_at}
use Rattle.kernel_ranges.proofs.Opened.{AllLie, Lies, with_within, within-roll}
use Rattle.kernel_ranges.proofs.Closed.{fold_closed, if_closed, members_closed, plain_closed, range_closed, turn_closed, update_closed}
use Rattle.tree_bounds.specs.Bounded.{bounded_each, ends, extents_under, step_extents, with_bounds}
use Rattle.tree_bounds.specs.Laws.{RangesLie}
use Rattle.tree_bounds.proofs.Between.{numbers, range_between, range_shape}
use Rattle.tree_bounds.proofs.Covered.{AllCovered, body_covered, first_covered, fold_covered, old_shape, rest_covered, right_covered, step_covered, step_extent, step_kind, under_sets, updated_at}
use Rattle.tree_bounds.proofs.Elements.{Among, all_among, among_flat, among_of}
use Rattle.tree_bounds.proofs.Fitting.{Covered, any_front, any_of, binder_names, covered, good_at, items_fit, meets_at, plain_names, sets_fit, values_fit}
use Rattle.tree_bounds.proofs.SameExpressions.{bounds_node, bounded_args, node, same_outcomes, with_bounding}
use Rattle.tree_bounds.proofs.SoundBounds.{RangeNode, range_node, range_parts}

-- ---- what is said of a tree

abbrev pub Lying : ℕ → Ker → Type 0
Lying w k = (names : List Kind) (c : Context) (b : Bool) (gs : List Extent) (g : Extent) (sc : Scope) (s t : State) →
    sound names k c b ≡ true → AllByRecursion (Covered names c k) gs → Among g gs → Ready sc g s t →
    is_within (Some w) (with_bounds w k gs) sc s t ≡ true

each_split : (w : ℕ) (ks : List Ker) (k : Ker) → Each (Lying w) (ks ++ k ∷ []) → Each (Lying w) ks × Lying w k
each_split w [] k h = (tt, h.0)
each_split w (j ∷ ks) k h = let r = each_split w ks k h.1 in ((h.0, r.0), r.1)

-- sound trees, in a form position or not
abbrev EachSound : List Kind → Context → List Ker → Type 0
EachSound names c [] = Unit {0}
EachSound names c (k ∷ ks) = ((b : Bool) × (sound names k c b ≡ true)) × EachSound names c ks

children_sound : (names : List Kind) (o : KerOp) (n : ℕ) (c : Context) (b : Bool) (ks : List Ker) (as' : List Kind) →
    Children names o n c b ks as' → EachSound names c ks
children_sound names o n c b [] [] h = tt
children_sound names o n c b [] (a ∷ as') h = absurd h
children_sound names o n c b (k ∷ ks) [] h = absurd h
children_sound names o n c b (k ∷ ks) (a ∷ as') h = ((_, h.0.1), children_sound names o (suc n) c b ks as' h.1)

sets_sound : (names : List Kind) (c : Context) (ks : List Ker) (ms : List Kind) → Sets names c ks ms →
    EachSound names c ks
sets_sound names c [] [] h = tt
sets_sound names c [] (a ∷ as') h = absurd h
sets_sound names c (k ∷ ks) [] h = absurd h
sets_sound names c (k ∷ ks) (a ∷ as') h = ((_, h.0.1), sets_sound names c ks as' h.1)

-- ---- children of a node with bounds

-- at the same extents
abbrev here_all : ℕ → List Extent → List Ker → List Ker
here_all w gs ks = map (λ k. with_bounds w k gs) ks

all_here : (w : ℕ) (gs hs : List Extent) (ks : List Ker) → bounded_each [] gs hs (with_bounding w ks) ≡ here_all w gs ks
all_here w gs hs [] = refl
all_here w gs hs (k ∷ ks) = ap (λ (js : List Ker). with_bounds w k gs ∷ js) (all_here w gs hs ks)

sets_here : (w : ℕ) (gs hs : List Extent) (ks : List Ker) (k : Ker) →
    bounded_each (replicate (length ks) false ++ true ∷ []) gs hs (with_bounding w (ks ++ k ∷ []))
    ≡ here_all w gs ks ++ with_bounds w k hs ∷ []
sets_here w gs hs [] k = refl
sets_here w gs hs (j ∷ ks) k = ap (λ (js : List Ker). with_bounds w j gs ∷ js) (sets_here w gs hs ks k)

take_front : (ks : List Ker) (k : Ker) → take (length ks) (ks ++ k ∷ []) ≡ ks
take_front [] k = refl
take_front (j ∷ ks) k = ap (λ (js : List Ker). j ∷ js) (take_front ks k)

module _ (w : ℕ) (wide : 2 ≤ w) (names : List Kind) (c : Context) (gs : List Extent) (g : Extent)
    (sc : Scope) (s t : State) (here : Among g gs) (ready : Ready sc g s t) where
  -- the node's ranges lie within their bounds, where the node has these children
  abbrev WithChildren : KerOp → List ℕ → List Ker → Type 0
  WithChildren o xs ks = within_at (Some w) o xs (with_within (Some w) ks) sc s t ≡ true

  abbrev NodeLies : Place → Ty → KerOp → List ℕ → List Ker → Type 0
  NodeLies p ty o xs ks = WithChildren o xs (bounded_args w (node p ty o xs ks) gs)

  -- what the node reads has shapes
  abbrev NodeCovered : KerOp → List Ker → Type 0
  NodeCovered o ks = AllByRecursion
      (λ h. OfTypes names c h × (mentions_at (without_shape h) o (map (mentions (without_shape h)) ks) ≡ false)) gs

  lie_all : (ks : List Ker) → Each (Lying w) ks → EachSound names c ks → AllCovered w names c ks gs →
      AllLie (Some w) s t sc (here_all w gs ks)
  lie_all [] l h r = tt
  lie_all (k ∷ ks) l h r = (
    l.0 names c h.0.0 gs g sc s t h.0.1 (first_covered w names c k ks gs r) here ready,
    lie_all ks l.1 h.1 (rest_covered w names c k ks gs r),
  )

  -- the value of a child with bounds fits the child's shape, and is the literal that the child is
  value_meets : (a : Kind) (k : Ker) (v : Value) → Child names c false a k → Covered names c k g →
      ker_val (Some w) (with_bounds w k gs) sc s t ≡ Val v → Meets (ker_sized w k g) v
  value_meets a k v h r e =
      meets_at w names c wide sc g s t ready false a k v h r (sym (same_outcomes w k gs (Some w) sc s t) ∙ e)

  -- ---- a range

  range_lies : (p : Place) (ty : Ty) (d : Kind) (xs : List ℕ) (ks : List Ker) → RangeNode names c d ks →
      Each (Lying w) ks →
      NodeCovered ker.Range ks → NodeLies p ty ker.Range xs ks
  range_lies p ty _ xs _ (range_node x y ks cx cy) l r =
      ap (λ as'. with_these (join_all as')) (shapes_are gs)
      ∙ range_closed (Some w) s t xs (with_bounds w x gs) (with_bounds w y gs) (ends p shape) sc both.0 both.1.0
      (λ v u d e. range_between w p x y gs g (out-Value v) (out-Value u) here
      (value_meets kind.Number x v cx (all_among _ gs g (first_covered w names c x (y ∷ []) gs r) here) d).0
      (value_meets kind.Number y u cy
      (all_among _ gs g (first_covered w names c y [] gs (rest_covered w names c x (y ∷ []) gs r)) here) e).0)
    where
      shape : Shape
      shape = join_all (map (range_shape w x y) gs)

      with_these : Shape → Bool
      with_these a =
          let children : List Ker = with_bounds w x gs ∷ with_bounds w y gs ∷ ends p a in
          within_at (Some w) ker.Range xs (with_within (Some w) children) sc s t

      shapes_are : (hs : List Extent) →
          map (λ h. ker_shape w (roll-Ker (node p ty ker.Range xs (x ∷ y ∷ ks))) h) hs ≡ map (range_shape w x y) hs
      shapes_are [] = refl
      shapes_are (h ∷ hs) =
          ap₂ (λ (a : Shape) (as' : List Shape). a ∷ as')
          (ker-shape-roll w (node p ty ker.Range xs (x ∷ y ∷ ks)) h) (shapes_are hs)

      both : AllLie (Some w) s t sc (with_bounds w x gs ∷ with_bounds w y gs ∷ [])
      both = lie_all (x ∷ y ∷ []) (l.0, (l.1.0, tt)) ((false, cx.1), ((false, cy.1), tt)) r

  -- ---- an operator that binds nothing

  plain_lies : (p : Place) (ty : Ty) (o : KerOp) (d : Kind) (as' : List Kind) (b : Bool) (xs : List ℕ) (ks : List Ker) →
      Row o d as' → Node names c b o d xs ks → Each (Lying w) ks → Children names o 0 c b ks as' → NodeCovered o ks →
      AllCovered w names c ks gs → NodeLies p ty o xs ks
  plain_lies p ty _ _ _ b xs ks (row_const v d q) n l h m r = refl
  plain_lies p ty _ _ _ b xs ks (row_nocase d) n l h m r = refl
  plain_lies p ty _ _ _ b xs ks row_range n l h m r =
      range_lies p ty numbers xs ks (range_parts names c b numbers xs ks n) l m
  plain_lies p ty _ _ _ b xs ks (row_and as' q) n l h m r =
      ap (λ js. within_at (Some w) ker.And xs (with_within (Some w) js) sc s t) (all_here w gs _ ks)
      ∙ turn_closed (Some w) s t true sc (here_all w gs ks)
      (lie_all ks l (children_sound names ker.And 0 c b ks as' h) r)
  plain_lies p ty _ _ _ b xs ks (row_or as' q) n l h m r =
      ap (λ js. within_at (Some w) ker.Or xs (with_within (Some w) js) sc s t) (all_here w gs _ ks)
      ∙ turn_closed (Some w) s t false sc (here_all w gs ks)
      (lie_all ks l (children_sound names ker.Or 0 c b ks as' h) r)
  plain_lies p ty _ _ as' b xs (i ∷ j ∷ k ∷ []) (row_if d) n l h m r =
      let z = lie_all (i ∷ j ∷ k ∷ []) l
      (children_sound names ker.If 0 c b (i ∷ j ∷ k ∷ []) (kind.Truth ∷ d ∷ d ∷ []) h) r in
      if_closed (Some w) s t xs (with_bounds w i gs) (with_bounds w j gs) (with_bounds w k gs) sc z.0 z.1.0 z.1.1.0
  plain_lies p ty _ _ _ b xs [] (row_if d) n l h m r = absurd h
  plain_lies p ty _ _ _ b xs (i ∷ []) (row_if d) n l h m r = absurd h.1
  plain_lies p ty _ _ _ b xs (i ∷ j ∷ []) (row_if d) n l h m r = absurd h.1.1
  plain_lies p ty _ _ _ b xs (i ∷ j ∷ k ∷ i' ∷ ks) (row_if d) n l h m r = absurd h.1.1.1
  plain_lies p ty o d as' b xs ks q n l h m r =
      ap (λ js. within_at (Some w) o xs (with_within (Some w) js) sc s t) (all_here w gs _ ks)
      ∙ plain_closed (Some w) s t o xs (here_all w gs ks) sc refl
      (lie_all ks l (children_sound names o 0 c b ks as' h) r)

  -- ---- a binder: its sets, and its body at all choices of members

  outs_same : (ks : List Ker) →
      map (λ k. ker_val (Some w) k sc s t) (here_all w gs ks) ≡ map (λ k. ker_val (Some w) k sc s t) ks
  outs_same [] = refl
  outs_same (k ∷ ks) =
      ap₂ (λ (o : Outcome) (os : List Outcome). o ∷ os) (same_outcomes w k gs (Some w) sc s t) (outs_same ks)

  abbrev at_bodies : List ℕ → List Ker → Bool
  at_bodies xs ks = at_members (Some w) xs (with_within (Some w) ks) sc s t

  members_lie : (xs : List ℕ) (sets : List Ker) (body : Ker) (ms : List Kind) (e : Kind) → length sets ≡ length xs →
      Each (Lying w) sets → Lying w body → Sets names c sets ms → Child names (c ++ zip xs ms) false e body →
      AllByRecursion
      (λ h. OfTypes names c h × (any_of (without_shape h) sets ≡ false) × (mentions (without_shape h) body ≡ false))
      gs →
      at_bodies xs (here_all w gs sets ++ with_bounds w body (flat_map (under_sets w xs sets) gs) ∷ []) ≡ true
  members_lie xs sets body ms e many l lb hs hb r =
      members_closed (Some w) s t xs (here_all w gs sets) (with_bounds w body inner) sc
      (length-map sets (λ k. with_bounds w k gs) ∙ many)
      (lie_all sets l (sets_sound names c sets ms hs) (all_to _ _ (λ h q. (q.0, q.1)) gs r))
      (λ xss d q. all_to (FitAll (insides at_g))
      (λ vs. Lies (Some w) s t (bind (names_of xs) vs sc) (with_bounds w body inner)) at_choice (choices xss)
      (choices_fit at_g xss (sets_fit at_g (values os) xss
      (values_fit w names c wide sc g s t ready sets ms at_here.1 at_here.0 hs (sym (ap joined (outs_same sets)) ∙ d))
      (sym (ap (λ z. all_set_items (values z)) (outs_same sets)) ∙ q))))
    where
      inner : List Extent
      inner = flat_map (under_sets w xs sets) gs

      at_g : List Shape
      at_g = map (λ k. ker_shape w k g) sets

      os : List Outcome
      os = map (λ k. ker_val (Some w) k sc s t) sets

      at_here : OfTypes names c g × (any_of (without_shape g) sets ≡ false) × (mentions (without_shape g) body ≡ false)
      at_here = all_among _ gs g r here

      at_choice : (vs : List Value) → FitAll (insides at_g) vs →
          Lies (Some w) s t (bind (names_of xs) vs sc) (with_bounds w body inner)
      at_choice vs f =
          lb names (c ++ zip xs ms) false inner (bind_shapes (names_of xs) (insides at_g) g)
          (bind (names_of xs) vs sc) s t hb.1
          (body_covered w names c xs sets body ms gs many hs r)
          (among_flat (under_sets w xs sets) gs g _ here (inl refl))
          (bind_ready (names_of xs) vs (insides at_g) sc g s t f ready)

  -- the children with bounds of a binder with as many names
  abbrev binder_args : List ℕ → ℕ → List Ker → List Ker → List Ker
  binder_args xs n fs ks =
      bounded_each (replicate n false ++ true ∷ []) gs (flat_map (under_sets w xs fs) gs) (with_bounding w ks)

  binder_args_are : (xs : List ℕ) (sets : List Ker) (body : Ker) → length sets ≡ length xs →
      binder_args xs (length xs) (take (length xs) (sets ++ body ∷ [])) (sets ++ body ∷ [])
      ≡ here_all w gs sets ++ with_bounds w body (flat_map (under_sets w xs sets) gs) ∷ []
  binder_args_are xs sets body e =
      ap (λ n. binder_args xs n (take n (sets ++ body ∷ [])) (sets ++ body ∷ [])) (sym e)
      ∙ ap (λ fs. binder_args xs (length sets) fs (sets ++ body ∷ [])) (take_front sets body)
      ∙ sets_here w gs (flat_map (under_sets w xs sets) gs) sets body

  binder_lies : (p : Place) (ty : Ty) (o : KerOp) (d : Kind) (xs : List ℕ) (ks : List Ker) (ms : List Kind) (e : Kind) →
      BinderRow o d ms e → at_bodies xs (binder_args xs (length xs) (take (length xs) ks) ks) ≡ true →
      NodeLies p ty o xs ks
  binder_lies p ty _ _ xs ks _ _ (row_some ms) h = h
  binder_lies p ty _ _ xs ks _ _ (row_every ms) h = h
  binder_lies p ty _ _ xs ks _ _ (row_filter d) h = h
  binder_lies p ty _ _ xs ks _ _ (row_map d ms) h = h
  binder_lies p ty _ _ xs ks _ _ (row_function ms e) h = h

  -- ---- an update: its right side at the old value

  update_lies : (p : Place) (ty : Ty) (a : Kind) (x : ℕ) (f i e : Ker) (j d : Kind) → IsTrue (well_named a) →
      Child names c false a f → Child names c false j i → updated_kind a j (literal_of (out-Ker i).op) ≡ Some d →
      Child names (c ++ (x, d) ∷ []) false d e → Each (Lying w) (f ∷ i ∷ e ∷ []) →
      AllCovered w names c (f ∷ i ∷ e ∷ []) gs →
      NodeLies p ty ker.Update (x ∷ []) (f ∷ i ∷ e ∷ [])
  update_lies p ty a x f i e j d n cf ci q ce l r =
      update_closed (Some w) s t (x ∷ []) (with_bounds w f gs) (with_bounds w i gs) (with_bounds w e inner) sc
      both.0 both.1.0
      (λ v u old dv du z. l.1.1.0 names (c ++ (x, d) ∷ []) false inner (bind_shapes (names_of (x ∷ [])) (old_at ∷ []) g)
      (bind (names_of (x ∷ [])) (old ∷ []) sc) s t ce.1 (right_covered w names c x f i e a j d gs n cf q r)
      (among_flat (extents_under w ker.Update (x ∷ []) (f ∷ i ∷ e ∷ [])) gs g _ here (inl refl))
      (bind_ready (names_of (x ∷ [])) (old ∷ []) (old_at ∷ []) sc g s t (old_fits v u old dv du z, tt) ready))
    where
      inner : List Extent
      inner = flat_map (extents_under w ker.Update (x ∷ []) (f ∷ i ∷ e ∷ [])) gs

      old_at : Shape
      old_at = old_shape w f i g

      both : AllLie (Some w) s t sc (with_bounds w f gs ∷ with_bounds w i gs ∷ [])
      both =
          lie_all (f ∷ i ∷ []) (l.0, (l.1.0, tt)) ((false, cf.1), ((false, ci.1), tt))
          (all_to _ _ (λ h m. (m.0, (any_front (without_shape h) (f ∷ i ∷ []) e m.1).0)) gs r)

      f_here : Covered names c f g
      f_here = all_among _ gs g (first_covered w names c f (i ∷ e ∷ []) gs r) here

      i_here : Covered names c i g
      i_here =
          all_among _ gs g (first_covered w names c i (e ∷ []) gs (rest_covered w names c f (i ∷ e ∷ []) gs r)) here

      old_fits : (v u old : Value) → ker_val (Some w) (with_bounds w f gs) sc s t ≡ Val v →
          ker_val (Some w) (with_bounds w i gs) sc s t ≡ Val u → step_into (out-Value v) u ≡ At old → Fits old_at old
      old_fits v u old dv du z =
          subst (λ o. IfReached (Fits old_at) (go_on o (λ v. at_path v []))) z
          (reached_fits ((ker_sized w i g).literal ∷ []) (u ∷ []) (ker_shape w f g) v
          ((value_meets j i u ci i_here du).1, tt)
          (and_both (goes_through (ker_shape w f g) (ker_sized w i g).literal) true
          (updated_at w names c g a j d f i n cf f_here q).through refl)
          (value_meets a f v cf f_here dv).0)

  -- ---- a fold: its body at each step, in the extent of the step

  module _ (x y : ℕ) (e : Ker) (a d : Kind) (item : Shape) (inner : List Extent)
      (ce : Child names (c ++ (x, a) ∷ (y, d) ∷ []) false a e) (le : Lying w e)
      (all : AllByRecursion (Covered names (c ++ (x, a) ∷ (y, d) ∷ []) e) inner)
      (types : OfTypes names c g) (reads : mentions (without_shape g) e ≡ false) (item_kind : OfKind d item) where
    abbrev scope_at : Value → Value → Scope
    scope_at v u = bind (names_of (x ∷ y ∷ [])) (v ∷ u ∷ []) sc

    abbrev body_at : Value → Value → Outcome
    body_at v u = ker_val (Some w) (with_bounds w e inner) (scope_at v u) s t

    abbrev test_at : Value → Value → Bool
    test_at v u = is_within (Some w) (with_bounds w e inner) (scope_at v u) s t

    -- the shape that the value has after a step
    abbrev next_shape : Shape → Shape
    next_shape so_far = ker_shape w e (step_extent x y so_far item g)

    ready_at : (v u : Value) (so_far : Shape) → Fits so_far v → Fits item u →
        Ready (scope_at v u) (step_extent x y so_far item g) s t
    ready_at v u so_far h k =
        bind_ready (names_of (x ∷ y ∷ [])) (v ∷ u ∷ []) (so_far ∷ item ∷ []) sc g s t (h, (k, tt)) ready

    next_fits : (v u z : Value) (so_far : Shape) → Fits so_far v → Fits item u → OfKind a so_far → body_at v u ≡ Val z →
        Fits (next_shape so_far) z
    next_fits v u z so_far h f k q =
        (meets_at w names (c ++ (x, a) ∷ (y, d) ∷ []) wide (scope_at v u) (step_extent x y so_far item g) s t
        (ready_at v u so_far h f) false a e z ce
        (step_covered w names c x y e a d so_far item g types reads k item_kind)
        (sym (same_outcomes w e inner (Some w) (scope_at v u) s t) ∙ q)).0

    -- the extents of the steps that are left are among those of the body
    steps_lie : (n : ℕ) (items : List Value) (v : Value) (so_far : Shape) → length items ≤ n → AllFit item items →
        Fits so_far v → OfKind a so_far →
        ((h : Extent) → Among h (step_extents w (x ∷ y ∷ []) e item n so_far g) → Among h inner) →
        each_step body_at test_at items v ≡ true
    steps_lie n [] v so_far small fit h k there = refl
    steps_lie zero (u ∷ items) v so_far small fit h k there = absurd (omega (arith, small))
    steps_lie (suc n) (u ∷ items) v so_far small fit h k there =
        and_both (test_at v u) (after (body_at v u) (each_step body_at test_at items))
        (le names (c ++ (x, a) ∷ (y, d) ∷ []) false inner (step_extent x y so_far item g) (scope_at v u) s t ce.1 all
        (there (step_extent x y so_far item g) (inl refl)) (ready_at v u so_far h fit.0))
        (by (body_at v u) refl (λ z q. steps_lie n items z (next_shape so_far) (omega (arith, small)) fit.1
        (next_fits v u z so_far h fit.0 k q) (step_kind w names c x y e a d so_far item g ce types reads k item_kind)
        (λ h m. there h (inr m))))
      where
        by : (o : Outcome) → body_at v u ≡ o →
            ((z : Value) → body_at v u ≡ Val z → each_step body_at test_at items z ≡ true) →
            after o (each_step body_at test_at items) ≡ true
        by (Val z) q rest = rest z q
        by (Wrong p) q rest = refl
        by (Big p) q rest = refl

  fold_lies : (p : Place) (ty : Ty) (a : Kind) (x y : ℕ) (e f q : Ker) (d : Kind) →
      Child names (c ++ (x, a) ∷ (y, d) ∷ []) false a e → Child names c false a f → Child names c false (kind.Seq d) q →
      Each (Lying w) (e ∷ f ∷ q ∷ []) → AllCovered w names c (e ∷ f ∷ q ∷ []) gs →
      NodeLies p ty ker.FoldLeft (x ∷ y ∷ []) (e ∷ f ∷ q ∷ [])
  fold_lies p ty a x y e f q d ce cf cq l r =
      fold_closed (Some w) s t (x ∷ y ∷ []) (with_bounds w e inner) (with_bounds w f gs) (with_bounds w q gs) sc
      both.0 both.1.0
      (λ v u ps items dv du o z.
      let fit = items_fit d (ker_shape w q g) (out-Value u) ps items seq_kind
      (value_meets (kind.Seq d) q u cq q_here du).0 o z in
      steps_lie x y e a d (inside (ker_shape w q g)) inner ce l.0 (fold_covered w names c x y e f q a d gs ce cf cq r)
      e_here.0 e_here.1 (place_kind d (ker_shape w q g) seq_kind) (count (ker_shape w q g)) items v
      (ker_shape w f g) fit.0 fit.1
      (value_meets a f v cf f_here dv).0 (good_at w names c false g a f cf f_here).0
      (λ h m. among_flat (extents_under w ker.FoldLeft (x ∷ y ∷ []) (e ∷ f ∷ q ∷ [])) gs g h here m))
    where
      inner : List Extent
      inner = flat_map (extents_under w ker.FoldLeft (x ∷ y ∷ []) (e ∷ f ∷ q ∷ [])) gs

      rest : AllCovered w names c (f ∷ q ∷ []) gs
      rest = rest_covered w names c e (f ∷ q ∷ []) gs r

      both : AllLie (Some w) s t sc (with_bounds w f gs ∷ with_bounds w q gs ∷ [])
      both = lie_all (f ∷ q ∷ []) l.1 ((false, cf.1), ((false, cq.1), tt)) rest

      e_here : Covered names c e g
      e_here = all_among _ gs g (first_covered w names c e (f ∷ q ∷ []) gs r) here

      f_here : Covered names c f g
      f_here = all_among _ gs g (first_covered w names c f (q ∷ []) gs rest) here

      q_here : Covered names c q g
      q_here = all_among _ gs g (first_covered w names c q [] gs (rest_covered w names c f (q ∷ []) gs rest)) here

      seq_kind : OfKind (kind.Seq d) (ker_shape w q g)
      seq_kind = (good_at w names c false g (kind.Seq d) q cq q_here).0

  -- ---- any node

  node_lies : (p : Place) (ty : Ty) (o : KerOp) (a : Kind) (b : Bool) (xs : List ℕ) (ks : List Ker) →
      Node names c b o a xs ks → IsTrue (well_named a) → Each (Lying w) ks → NodeCovered o ks → NodeLies p ty o xs ks
  node_lies p ty _ _ b _ _ (node_name i primed a xs q) n l m = refl
  node_lies p ty _ _ b _ _ (node_bound i a xs q) n l m = refl
  node_lies p ty _ _ b _ _ (node_plain o a xs ks as' row h i) n l m =
      plain_lies p ty o a as' b xs ks row (node_plain o a xs ks as' row h i) l h m
      (all_to _ _ (λ z q. (q.0, plain_names (without_shape z) o a names as' c b ks row h q.1)) gs m)
  node_lies p ty _ _ b _ _ (node_bounded xs x y i j cx cy bl bh) n l m =
      range_lies p ty numbers xs (x ∷ y ∷ i ∷ j ∷ []) (range_node x y (i ∷ j ∷ []) cx cy) l m
  node_lies p ty _ _ b _ _ (node_binder o a xs ks sets body ms e same many row hs hb) n l m =
      let z = each_split w sets body (subst (Each (Lying w)) same l) in
      binder_lies p ty o a xs ks ms e row
      (ap (λ js. at_bodies xs (binder_args xs (length xs) (take (length xs) js) js)) same
      ∙ ap (at_bodies xs) (binder_args_are xs sets body many)
      ∙ members_lie xs sets body ms e many z.0 z.1 hs hb
      (all_to _ _ (λ h q.
      let in_all : any_of (without_shape h) (sets ++ body ∷ []) ≡ false =
      subst (λ (js : List Ker). any_of (without_shape h) js ≡ false) same
      (binder_names (without_shape h) o a ms e ks row q.1) in
      let r = any_front (without_shape h) sets body in_all in (q.0, r.0, r.1)) gs m))
  node_lies p ty _ _ b _ _ (node_update a x f i e j d cf ci q ce) n l m =
      update_lies p ty a x f i e j d n cf ci q ce l m
  node_lies p ty _ _ b _ _ (node_fold a x y e f q d ce cf cq) n l m = fold_lies p ty a x y e f q d ce cf cq l m

-- THE LAW: in a tree with bounds each range that is evaluated lies within them
pub ranges_lie : (w : ℕ) → 2 ≤ w → (k : Ker) → Lying w k
ranges_lie w wide = by_nodes (Lying w) (λ x l names c b gs g sc s t h r here ready.
    let z : (d : Kind) × (kind_of x.ty ≡ Some d) × Node names c b x.op d x.binds x.args =
    subst (λ (y : Ker-F Ker). (d : Kind) × (kind_of y.ty ≡ Some d) × Node names c b y.op d y.binds y.args)
    (out-roll-Ker x)
    (sound_step names (roll-Ker x) c b h) in
    ap (λ k. is_within (Some w) k sc s t) (bounds_node w x gs)
    ∙ within-roll (Some w) _ sc s t
    ∙ node_lies w wide names c gs g sc s t here ready x.place x.ty x.op z.0 b x.binds x.args z.2
    (kind_named x.ty z.0 z.1) l
    (all_to _ _ (λ h q. (q.0, sym (mentions-roll (without_shape h) x) ∙ q.1)) gs r))

pub each_range_lies : (w : ℕ) (names : List Kind) (k : Ker) (c : Context) (b : Bool) (gs : List Extent) (g : Extent)
    (sc : Scope) (s t : State) → RangesLie w names k c b gs g sc s t
each_range_lies w names k c b gs g sc s t wide h r here ready =
    ranges_lie w wide k names c b gs g sc s t h (all_to _ _ (λ h q. covered names c k h q) gs r)
    (among_of gs g here) ready
