-- At an extent that bound names and states fit, values of a sound tree fit the shapes of the tree there. (What is said
-- of names and of the literals of constants is also in `SoundShapes` of the shapes.)
use Rattle.std.proofs.Common.{◌≡◌, ℕ, suc, ◌≤◌, Bool, true, false, not, ◌||◌, IsTrue, List, [], ◌∷◌, ◌++◌, map, length, Option, Some, None, option_map, option_and_then, refl, sym, ◌∙◌, ap, subst}
use Rattle.std.specs.List.{list_any}
use Rattle.tla_values.specs.Order.{Layer}
use Rattle.tla_values.specs.declared.value.Value.{Value, out-Value}
use Rattle.tla_values.specs.declared.value.Value.TheOpen as layer
use Rattle.tla_meaning.specs.declared.job.State.{State}
use Rattle.tla_meaning.specs.declared.outcome.Fault.{Fault}
use Rattle.tla_meaning.specs.declared.outcome.Fault.TheVariants.{NoFault, IsWrong, IsBig}
use Rattle.tla_meaning.specs.declared.outcome.Outcome.{Outcome}
use Rattle.tla_meaning.specs.declared.outcome.Outcome.TheVariants.{Val, Wrong, Big}
use Rattle.tla_meaning.specs.declared.place.Place.{Place}
use Rattle.tla_meaning.specs.Outcomes.{join_faults, joined, values}
use Rattle.tla_meaning.specs.Scopes.{Scope}
use Rattle.tla_meaning.specs.Shapes.{all_set_items, items_of, set_items}
use Rattle.tla_meaning.proofs.Laws.{none≢some}
use Rattle.tla_meaning.proofs.Views.{false≢true}
use Rattle.kernel_trees.specs.declared.kernel.Ker.{Ker, roll-Ker, out-Ker, out-roll-Ker}
use Rattle.kernel_trees.specs.declared.kernel.Ker.TheOpen.{Ker-F}
use Rattle.kernel_trees.specs.declared.kernel.KerOp.{KerOp}
use Rattle.kernel_trees.specs.declared.kernel.KerOp.TheVariants as ker
use Rattle.kernel_trees.specs.Paths.{Marks, mentions, mentions_at}
use Rattle.kernel_trees.specs.Sound.{Context, literal_of}
use Rattle.kernel_trees.specs.Trees.{as_expr, constant, ker_val, names_of}
use Rattle.kernel_trees.specs.TypeKinds as kind
use Rattle.kernel_trees.specs.TypeKinds.{Kind, kind_of}
use Rattle.kernel_trees.proofs.SoundRows.{Row, row_const, row_nocase, row_range, BinderRow, row_some, row_every, row_filter, row_map, row_function}
use Rattle.kernel_trees.proofs.SoundTrees.{Child, Children, Sets}
use Rattle.kernel_trees.proofs.Trees.{by_nodes}
use Rattle.kernel_shapes.specs.Shape.{Shape, Seq, Empty, count, inside}
use Rattle.kernel_shapes.specs.Fits.{FitAll, FitsLayer, OfSome}
use Rattle.kernel_shapes.specs.Kernel.{ker_shape, ker_sized, kind_or_truth, kinds_in}
use Rattle.kernel_shapes.specs.Laws.{Ready}
use Rattle.kernel_shapes.specs.Rows.{insides}
use Rattle.kernel_shapes.specs.Sized.{Extent, Sizing}
use Rattle.kernel_shapes.specs.Trees.{sized_node}
use Rattle.kernel_shapes.specs.TypedExtents.{OfTypes, without_shape}
use Rattle.kernel_shapes.specs.TypedStates.{EachOfKind, OfKind}
use Rattle.kernel_shapes.proofs.Binders.{SetsFit}
use Rattle.kernel_shapes.proofs.Combine.{Meets}
use Rattle.kernel_shapes.proofs.FitLemmas.{AllFit, IfVal, members_of}
use Rattle.kernel_shapes.proofs.KernelLaw.{tree_expanded}
use Rattle.kernel_shapes.proofs.KernelNodes.{first_kinds, ker_parts, ker_sized-roll, node_sizing}
use Rattle.kernel_shapes.proofs.KindLaw.{member_kind}
use Rattle.kernel_shapes.proofs.Law.{law}
use Rattle.kernel_shapes.proofs.SoundBinders.{IsConstant}
use Rattle.kernel_shapes.proofs.SoundRows.{Good, node_at}
use Rattle.kernel_shapes.proofs.SoundShapes.{sound_shapes}
use Rattle.tree_bounds.specs.Laws.{Covers}

pub some_is : {X : Type 0} {x y : X} → Some x ≡ Some y → x ≡ y
some_is e = cc

-- ---- names

abbrev pub Covered : List Kind → Context → Ker → Extent → Type 0
Covered names c k g = OfTypes names c g × (mentions (without_shape g) k ≡ false)

pub covered : (names : List Kind) (c : Context) (k : Ker) (g : Extent) → Covers names c k g → Covered names c k g
covered names c k g h = (h.types, by (mentions (without_shape g) k) h.reads)
  where
    by : (b : Bool) → IsTrue (not b) → b ≡ false
    by true h = absurd (false≢true h)
    by false h = refl

pub any_first : (a b : Bool) → (a || b) ≡ false → a ≡ false
any_first true b e = absurd (false≢true (sym e))
any_first false b e = refl

pub any_rest : (a b : Bool) → (a || b) ≡ false → b ≡ false
any_rest true b e = absurd (false≢true (sym e))
any_rest false b e = e

abbrev pub any_of : Marks → List Ker → Bool
any_of m ks = list_any (λ b. b) (map (mentions m) ks)

pub any_front : (m : Marks) (ks : List Ker) (k : Ker) → any_of m (ks ++ k ∷ []) ≡ false →
    (any_of m ks ≡ false) × (mentions m k ≡ false)
any_front m [] k e = (refl, any_first (mentions m k) false e)
any_front m (j ∷ ks) k e =
    let r = any_front m ks k (any_rest (mentions m j) _ e) in
    (ap (λ (b : Bool). b || any_of m ks) (any_first (mentions m j) _ e) ∙ r.0, r.1)

pub plain_names : (m : Marks) (o : KerOp) (a : Kind) (ns as' : List Kind) (c : Context) (b : Bool) (ks : List Ker) →
    Row o a as' → Children ns o 0 c b ks as' →
    mentions_at m o (map (mentions m) ks) ≡ false → any_of m ks ≡ false
plain_names m _ _ ns _ c b [] (row_const v a q) h e = refl
plain_names m _ _ ns _ c b (k ∷ ks) (row_const v a q) h e = absurd h
plain_names m _ _ ns _ c b [] (row_nocase a) h e = refl
plain_names m _ _ ns _ c b (k ∷ ks) (row_nocase a) h e = absurd h
plain_names m _ _ ns _ c b [] row_range h e = refl
plain_names m _ _ ns _ c b (k ∷ []) row_range h e = e
plain_names m _ _ ns _ c b (k ∷ j ∷ []) row_range h e = e
plain_names m _ _ ns _ c b (k ∷ j ∷ i ∷ ks) row_range h e = absurd h.1.1
plain_names m _ _ ns _ c b ks r h e = e

pub binder_names : (m : Marks) (o : KerOp) (a : Kind) (ms : List Kind) (e : Kind) (ks : List Ker) → BinderRow o a ms e →
    mentions_at m o (map (mentions m) ks) ≡ false → any_of m ks ≡ false
binder_names m _ _ _ _ ks (row_some ms) h = h
binder_names m _ _ _ _ ks (row_every ms) h = h
binder_names m _ _ _ _ ks (row_filter a) h = h
binder_names m _ _ _ _ ks (row_map a ms) h = h
binder_names m _ _ _ _ ks (row_function ms b) h = h

-- ---- the literal of a constant

literal_of_constant : (w : ℕ) (p : Place) (xs : List (List ℕ)) (ps : List Bool) (a : Kind) (ks : List Kind)
    (g : Extent) (l : Layer Value) →
    IsConstant l (sized_node w p (constant l) xs ps a ks [] g).literal
literal_of_constant w p xs ps a ks g (layer.Int n) = refl
literal_of_constant w p xs ps a ks g (layer.Text t) = refl
literal_of_constant w p xs ps a ks g (layer.Bool b) = tt
literal_of_constant w p xs ps a ks g (layer.Set vs) = tt
literal_of_constant w p xs ps a ks g (layer.Fun vs) = tt

pub ker_literal : (w : ℕ) (g : Extent) (k : Ker) → IsConstant (literal_of (out-Ker k).op) (ker_sized w k g).literal
ker_literal w g = by_nodes (λ k. IsConstant (literal_of (out-Ker k).op) (ker_sized w k g).literal) (λ x h.
    subst (λ (z : Sizing). IsConstant (literal_of (out-Ker (roll-Ker x)).op) (z g).literal) (sym (ker_sized-roll w x))
    (subst (λ (y : Ker-F Ker). IsConstant (literal_of y.op) (node_sizing w x g).literal) (sym (out-roll-Ker x))
    (by x.op x.place (names_of x.binds) (ker_parts x) (kind_or_truth (kind_of x.ty)) (first_kinds x)
    (map (ker_sized w) x.args))))
  where
    by : (o : KerOp) (p : Place) (xs : List (List ℕ)) (ps : List Bool) (a : Kind) (ks : List Kind) (zs : List Sizing) →
        IsConstant (literal_of o) (node_at w p xs ps o a ks zs g).literal
    by (ker.Const v) p xs ps a ks zs = literal_of_constant w p xs ps a ks g (out-Value v)
    by o p xs ps a ks zs = tt

-- ---- values of sets

-- items of sets that fit fit the sets' shapes
pub sets_fit : (as' : List Shape) (vs : List Value) (xss : List (List Value)) → FitAll as' vs →
    all_set_items vs ≡ Some xss → SetsFit as' xss
sets_fit [] [] xss h e = subst (SetsFit []) (some_is e) tt
sets_fit [] (v ∷ vs) xss h e = absurd h
sets_fit (a ∷ as') [] xss h e = absurd h
sets_fit (a ∷ as') (v ∷ vs) xss h e = by (out-Value v) (all_set_items vs) h.0 (λ yss d. sets_fit as' vs yss h.1 d) e
  where
    by : (x : Layer Value) (o : Option (List (List Value))) → FitsLayer a x →
        ((yss : List (List Value)) → o ≡ Some yss → SetsFit as' yss) →
        option_and_then (λ xs. option_map (λ xss. xs ∷ xss) o) (set_items x) ≡ Some xss → SetsFit (a ∷ as') xss
    by (layer.Set xs) (Some yss) f r d = subst (SetsFit (a ∷ as')) (some_is d) (members_of a xs f, r yss refl)
    by (layer.Set xs) None f r d = absurd (none≢some d)
    by (layer.Bool b) o f r d = absurd (none≢some d)
    by (layer.Int b) o f r d = absurd (none≢some d)
    by (layer.Text b) o f r d = absurd (none≢some d)
    by (layer.Fun b) o f r d = absurd (none≢some d)

-- the items of a sequence that fits
pub items_fit : (d : Kind) (a : Shape) (x : Layer Value) (ps : List (Value × Value)) (vs : List Value) →
    OfKind (kind.Seq d) a → FitsLayer a x →
    x ≡ layer.Fun ps → items_of ps ≡ Some vs → (length vs ≤ count a) × AllFit (inside a) vs
items_fit d (Seq n a) x ps vs k h e q =
    subst (OfSome (λ vs. (length vs ≤ n) × AllFit a vs)) q (subst (FitsLayer (Seq n a)) e h)
items_fit d Empty x ps vs k h e q = absurd h
items_fit d a x ps vs k h e q = absurd k

-- ---- trees

pub sets_many : (names : List Kind) (c : Context) (ks : List Ker) (ms : List Kind) → Sets names c ks ms →
    length ks ≡ length ms
sets_many names c [] [] h = refl
sets_many names c [] (a ∷ as') h = absurd h
sets_many names c (k ∷ ks) [] h = absurd h
sets_many names c (k ∷ ks) (a ∷ as') h = ap suc (sets_many names c ks as' h.1)

no_wrong : (p : Place) (f : Fault) → join_faults (IsWrong p) f ≡ NoFault → ⊥
no_wrong p NoFault e = absurd cc
no_wrong p (IsWrong q) e = absurd cc
no_wrong p (IsBig q) e = absurd cc

no_big : (p : Place) (f : Fault) → join_faults (IsBig p) f ≡ NoFault → ⊥
no_big p NoFault e = absurd cc
no_big p (IsWrong q) e = absurd cc
no_big p (IsBig q) e = absurd cc

module _ (w : ℕ) (names : List Kind) (c : Context) where
  pub good_at : (b : Bool) (g : Extent) (a : Kind) (k : Ker) → Child names c b a k → Covered names c k g →
      Good g a (ker_sized w k)
  good_at b g a k h r = sound_shapes w k names c b g a h.1 r.0 r.1 h.0

  -- the kinds of the members of sets
  pub members_of_kinds : (g : Extent) (ks : List Ker) (ms : List Kind) → OfTypes names c g →
      any_of (without_shape g) ks ≡ false → Sets names c ks ms →
      EachOfKind ms (insides (map (λ k. ker_shape w k g) ks))
  members_of_kinds g [] [] r e h = tt
  members_of_kinds g [] (m ∷ ms) r e h = absurd h
  members_of_kinds g (k ∷ ks) [] r e h = absurd h
  members_of_kinds g (k ∷ ks) (m ∷ ms) r e h = (
    member_kind m (ker_shape w k g) (good_at false g (kind.Set m) k h.0
        (r, any_first (mentions (without_shape g) k) _ e)).0,
    members_of_kinds g ks ms r (any_rest (mentions (without_shape g) k) _ e) h.1,
  )

  module _ (wide : 2 ≤ w) (sc : Scope) (g : Extent) (s t : State) (ready : Ready sc g s t) where
    -- the value fits the shape, and is the literal that the tree is
    pub meets_at : (b : Bool) (a : Kind) (k : Ker) (v : Value) → Child names c b a k → Covered names c k g →
        ker_val (Some w) k sc s t ≡ Val v →
        Meets (ker_sized w k g) v
    meets_at b a k v h r e =
        subst (IfVal (Meets (ker_sized w k g))) e
        (law w wide (as_expr k) (tree_expanded k) (kinds_in k) sc g s t ready (good_at b g a k h r).1)

    pub values_fit : (ks : List Ker) (ms : List Kind) → any_of (without_shape g) ks ≡ false → OfTypes names c g →
        Sets names c ks ms →
        joined (map (λ k. ker_val (Some w) k sc s t) ks) ≡ NoFault →
        FitAll (map (λ k. ker_shape w k g) ks) (values (map (λ k. ker_val (Some w) k sc s t) ks))
    values_fit [] [] e r h d = tt
    values_fit [] (m ∷ ms) e r h d = absurd h
    values_fit (k ∷ ks) [] e r h d = absurd h
    values_fit (k ∷ ks) (m ∷ ms) e r h d =
        by (ker_val (Some w) k sc s t) refl d (values_fit ks ms (any_rest (mentions (without_shape g) k) _ e) r h.1)
      where
        os : List Outcome
        os = map (λ k. ker_val (Some w) k sc s t) ks

        by : (o : Outcome) → ker_val (Some w) k sc s t ≡ o → joined (o ∷ os) ≡ NoFault →
            (joined os ≡ NoFault → FitAll (map (λ k. ker_shape w k g) ks) (values os)) →
            FitAll (map (λ k. ker_shape w k g) (k ∷ ks)) (values (o ∷ os))
        by (Val v) q z rest =
            ((meets_at false (kind.Set m) k v h.0 (r, any_first (mentions (without_shape g) k) _ e) q).0, rest z)
        by (Wrong p) q z rest = absurd (no_wrong p (joined os) z)
        by (Big p) q z rest = absurd (no_big p (joined os) z)
