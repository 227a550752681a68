-- The law of shapes along a path of the step: where the states fit at its start, they fit at its end.
use Rattle.std.proofs.Common.{◌≡◌, ℕ, zero, suc, ◌≤◌, Bool, true, false, not, ◌&&◌, ◌||◌, nat_eq, inl, inr, IsTrue, List, [], ◌∷◌, ◌++◌, map, zip, take, length, Option, Some, None, option_map, refl, sym, ◌∙◌, ap, ap₂, subst, arith}
use Rattle.std.specs.Prelude.{slice_get, option_and_then, is_some, flat_map, nat_lt}
use Rattle.std.specs.List.{AllByRecursion, list_all, list_any}
use Rattle.tla_values.specs.Order.{Layer, same_value}
use Rattle.tla_values.specs.Sets.{Normal, member}
use Rattle.tla_values.specs.declared.value.Value.{Value, out-Value, roll-Value}
use Rattle.tla_values.specs.declared.value.Value.TheVariants as value
use Rattle.tla_values.specs.declared.value.Value.TheOpen as layer
use Rattle.tla_values.specs.declared.value.Value.TheViews.{roll-out-Value}
use Rattle.tla_values.proofs.Extensional.{same_itself}
use Rattle.tla_values.proofs.NormalLemmas.{set_members}
use Rattle.tla_meaning.specs.declared.job.State.{State}
use Rattle.tla_meaning.specs.declared.outcome.Fault.{Fault}
use Rattle.tla_meaning.specs.declared.outcome.Fault.TheVariants.{NoFault, IsWrong, IsBig}
use Rattle.tla_meaning.specs.declared.outcome.Outcome.{Outcome}
use Rattle.tla_meaning.specs.declared.outcome.Outcome.TheVariants.{Val, Wrong, Big}
use Rattle.tla_meaning.specs.Outcomes.{IsNormalOutcome, join_faults, fault_of, joined, values}
use Rattle.tla_meaning.specs.Scopes.{Scope, bind, bound_to}
use Rattle.tla_meaning.specs.Shapes.{set_items, all_set_items}
use Rattle.tla_meaning.proofs.Laws.{none≢some}
use Rattle.tla_meaning.proofs.NormalLaw.{NormalDef, NormalScope, meaning_normal}
use Rattle.tla_meaning.proofs.NormalShapes.{all_plus, truth_normal}
use Rattle.tla_meaning.proofs.Views.{and_left, and_right, and_both, false≢true}
use Rattle.tla_meaning.specs.Scopes.{Denotation}
use Rattle.kernel_trees.specs.declared.kernel.Ker.{Ker}
use Rattle.kernel_trees.specs.declared.kernel.KerOp.{KerOp}
use Rattle.kernel_trees.specs.declared.kernel.KerOp.TheVariants as ker
use Rattle.kernel_trees.specs.declared.path.AssignedStep.{AssignedStep}
use Rattle.kernel_trees.specs.declared.path.AssignedStep.TheVariants as mark
use Rattle.kernel_trees.specs.Assignments.{AssignedHolds, Has, assigned_by, is_in, open_names, reads_late}
use Rattle.kernel_trees.specs.Paths.{Marks, mentions, mentions_at, names_below, own_below, numbers, sets}
use Rattle.kernel_trees.specs.Picks.{AreIn, IsOneOf, Picked, picking, set_outcomes}
use Rattle.kernel_trees.specs.Sound.{Context, infinite_at, infinite_places, is_finite, is_nil, kind_at, passes, picked_kinds, sound, sound_assigned, sound_guard, sound_pick}
use Rattle.tla_meaning.specs.declared.expr.Expr.{Expr}
use Rattle.tla_meaning.specs.declared.expr.Expr.TheOpen.{Expr-F}
use Rattle.tla_meaning.specs.declared.place.Place.{Place}
use Rattle.kernel_shapes.specs.FiniteForms.{is_finite_at, is_finite_form}
use Rattle.kernel_trees.specs.Trees.{as_expr, constant, ker_val, number_name, names_of, op_of, operands}
use Rattle.kernel_trees.proofs.SoundNodes.{infinite-roll}
use Rattle.kernel_trees.specs.TypeKinds as kind
use Rattle.kernel_trees.specs.TypeKinds.{Kind, is_kind, members}
use Rattle.kernel_trees.proofs.Marking.{below-roll}
use Rattle.kernel_trees.proofs.SoundNames.{sound_below}
use Rattle.kernel_trees.proofs.SoundRows.{found, sets_of}
use Rattle.kernel_trees.proofs.Trees.{Each, as_expr-roll, by_nodes, mentions-roll}
use Rattle.kernel_shapes.specs.Shape.{Shape, inside}
use Rattle.kernel_shapes.specs.Fits.{Fits, FitAll, StateFits}
use Rattle.kernel_shapes.specs.Kernel.{kinds_in, ker_sized, ker_shape}
use Rattle.kernel_shapes.specs.Laws.{IsNormal, Ready}
use Rattle.kernel_shapes.specs.Levels.{Assigns, in_next, in_state, put, assign, after_path, picked_shapes, picked_names}
use Rattle.kernel_shapes.specs.Sized.{Extent, Sizing, bind_shapes}
use Rattle.kernel_shapes.specs.Systems.{sized_path}
use Rattle.kernel_shapes.specs.TypedExtents.{NamesOfKinds, OfTypes, without_shape}
use Rattle.kernel_shapes.specs.TypedStates.{EachOfKind, OfKind}
use Rattle.kernel_shapes.proofs.FormLaw.{finite-roll, form_fits, member_of_fitting}
use Rattle.kernel_shapes.proofs.KernelLaw.{tree_expanded, each_kernel_value_fits}
use Rattle.kernel_shapes.proofs.KindLaw.{member_kind}
use Rattle.kernel_shapes.proofs.Law.{bind_ready}
use Rattle.kernel_shapes.proofs.SoundShapes.{more_types, sound_shapes}

-- ---- fewer marks, fewer names

abbrev Fewer : List Bool → List Bool → Type 0
Fewer [] [] = Unit {0}
Fewer (b ∷ bs) (c ∷ cs) = (c ≡ false → b ≡ false) × Fewer bs cs
Fewer [] (c ∷ cs) = ⊥
Fewer (b ∷ bs) [] = ⊥

or_none : (a b : Bool) → (a || b) ≡ false → (a ≡ false) × (b ≡ false)
or_none true b e = absurd (false≢true (sym e))
or_none false b e = (refl, e)

none_or : (a b : Bool) → a ≡ false → b ≡ false → (a || b) ≡ false
none_or true b e f = absurd (false≢true (sym e))
none_or false b e f = f

fewer_any : (bs cs : List Bool) → Fewer bs cs → list_any (λ b. b) cs ≡ false → list_any (λ b. b) bs ≡ false
fewer_any [] [] h e = refl
fewer_any [] (c ∷ cs) h e = absurd h
fewer_any (b ∷ bs) [] h e = absurd h
fewer_any (b ∷ bs) (c ∷ cs) h e = let z = or_none c (list_any (λ d. d) cs) e in none_or b (list_any (λ d. d) bs) (h.0 z.0) (fewer_any bs cs h.1 z.1)

fewer_take : (n : ℕ) (bs cs : List Bool) → Fewer bs cs → Fewer (take n bs) (take n cs)
fewer_take zero bs cs h = tt
fewer_take (suc n) [] [] h = tt
fewer_take (suc n) [] (c ∷ cs) h = absurd h
fewer_take (suc n) (b ∷ bs) [] h = absurd h
fewer_take (suc n) (b ∷ bs) (c ∷ cs) h = (h.0, fewer_take n bs cs h.1)

-- of the first n names the first marks no more than the second
abbrev pub Within : ℕ → Marks → Marks → Type 0
Within n p q = (i : ℕ) (primed : Bool) → nat_lt i n ≡ true → p i primed ≡ true → q i primed ≡ true

module _ (n : ℕ) (p q : Marks) (h : Within n p q) where
  at_node : (o : KerOp) (bs cs : List Bool) → IsTrue (own_below n o) → Fewer bs cs → mentions_at q o cs ≡ false → mentions_at p o bs ≡ false
  at_node (ker.Name i primed) bs cs e f g = by (p i primed) refl
    where
      by : (b : Bool) → p i primed ≡ b → b ≡ false
      by false k = refl
      by true k = absurd (false≢true (sym g ∙ h i primed e k))
  at_node (ker.Const v) bs cs e f g = refl
  at_node ker.NoCase bs cs e f g = refl
  at_node ker.Range bs cs e f g = fewer_any (take 2 bs) (take 2 cs) (fewer_take 2 bs cs f) g
  at_node o bs cs e f g = fewer_any bs cs f g

  abbrev Quiet : Ker → Type 0
  Quiet k = IsTrue (names_below n k) → mentions q k ≡ false → mentions p k ≡ false

  each_fewer : (ks : List Ker) → Each Quiet ks → IsTrue (list_all (λ b. b) (map (names_below n) ks)) → Fewer (map (mentions p) ks) (map (mentions q) ks)
  each_fewer [] e b = tt
  each_fewer (k ∷ ks) e b =
      let rest : Bool = list_all (λ b. b) (map (names_below n) ks) in
      (e.0 (and_left (names_below n k) rest b), each_fewer ks e.1 (and_right (names_below n k) rest b))

  pub quiet : (k : Ker) → Quiet k
  quiet = by_nodes Quiet (λ x e b g.
      let own : Bool = own_below n x.op in
      let rest : Bool = list_all (λ b. b) (map (names_below n) x.args) in
      let c : IsTrue (own && rest) = sym (below-roll n x) ∙ b in
      mentions-roll p x
      ∙ at_node x.op (map (mentions p) x.args) (map (mentions q) x.args) (and_left own rest c) (each_fewer x.args e (and_right own rest c)) (sym (mentions-roll q x) ∙ g))

-- ---- where a path stands

not_is : (b : Bool) → IsTrue (not b) → b ≡ false
not_is true h = absurd (false≢true h)
not_is false h = refl

-- a name without a shape is marked and not assigned
abbrev pub IsOpen : Marks → List ℕ → ℕ → Bool → Type 0
IsOpen m before i primed = (m i primed ≡ true) × (is_in before i ≡ false)

-- on a path of the step all names have shapes in the state; in CInit and Init the state is its own next one
abbrev pub NowIs : Assigns → Marks → List ℕ → Extent → ℕ → Type 0
NowIs in_next m before g i = without_shape g i false ≡ false
NowIs in_state m before g i = without_shape g i false ≡ true → IsOpen m before i false

abbrev pub One : Assigns → State → State → Type 0
One in_next s t = Unit {0}
One in_state s t = s ≡ t

-- by the types alone
pub record Standing (how : Assigns) (names : List Kind) (m : Marks) (before : List ℕ) (c : Context) (g : Extent) : Type 0 where
  pub types : OfTypes names c g
  pub now : (i : ℕ) → nat_lt i (length names) ≡ true → NowIs how m before g i
  pub next : (i : ℕ) → nat_lt i (length names) ≡ true → without_shape g i true ≡ true → IsOpen m before i true

pub record Along (how : Assigns) (names : List Kind) (m : Marks) (before : List ℕ) (c : Context) (sc : Scope) (g : Extent) (s t : State) : Type 0 where
  pub stands : Standing how names m before c g
  pub ready : Ready sc g s t
  pub normal : IsNormal sc s t
  pub one : One how s t

module _ (how : Assigns) (w : ℕ) (wide : 2 ≤ w) (names : List Kind) (m : Marks) where
  -- a tree that reads no marked name before its assignment reads names with shapes alone
  reads_shaped : (before : List ℕ) (c : Context) (g : Extent) (k : Ker) (b : Bool) → Standing how names m before c g → sound names k c b ≡ true →
      IsTrue (not (mentions (open_names m before) k)) → mentions (without_shape g) k ≡ false
  reads_shaped before c g k b a h e =
      quiet (length names) (without_shape g) (open_names m before) within k (sound_below names k c b h) (not_is (mentions (open_names m before) k) e)
    where
      within : Within (length names) (without_shape g) (open_names m before)
      within i true l f =
          let z = a.next i l f in
          and_both (m i true) (not (is_in before i)) z.0 (ap not z.1)
      within i false l f = by how (a.now i l)
        where
          by : (how : Assigns) → NowIs how m before g i → (m i false && not (is_in before i)) ≡ true
          by in_next n = absurd (false≢true (sym n ∙ f))
          by in_state n = let z = n f in and_both (m i false) (not (is_in before i)) z.0 (ap not z.1)

  -- its shape is of its type, and its value fits it
  pub tree_shape : (before : List ℕ) (c : Context) (g : Extent) (k : Ker) (b : Bool) (d : Kind) → Standing how names m before c g → sound names k c b ≡ true → kind_at k ≡ Some d →
      IsTrue (not (mentions (open_names m before) k)) → OfKind d (ker_shape w k g) × IsTrue (ker_sized w k g).sound
  tree_shape before c g k b d a h q e = sound_shapes w k names c b g d h a.types (reads_shaped before c g k b a h e) q

  value_fits : (before : List ℕ) (c : Context) (sc : Scope) (g : Extent) (s t : State) (k : Ker) (b : Bool) (d : Kind) (v : Value) → Along how names m before c sc g s t → sound names k c b ≡ true → kind_at k ≡ Some d →
      IsTrue (not (mentions (open_names m before) k)) → ker_val (Some w) k sc s t ≡ Val v → Fits (ker_shape w k g) v
  value_fits before c sc g s t k b d v a h q e is = each_kernel_value_fits w k sc g s t v wide a.ready (tree_shape before c g k b d a.stands h q e).1 is

-- ---- values are normal

pub normal_scope : (sc : Scope) → AllByRecursion (λ (b : List ℕ × Value). Normal b.1) sc.bound → sc.named ≡ [] → NormalScope sc
normal_scope sc h e = record { bound = h; named = subst (λ (ds : List (List ℕ × (List Denotation → Denotation))). AllByRecursion (λ (d : List ℕ × (List Denotation → Denotation)). NormalDef d.1) ds) (sym e) tt }

pub value_normal : (w : ℕ) (k : Ker) (sc : Scope) (s t : State) (v : Value) → IsNormal sc s t → ker_val (Some w) k sc s t ≡ Val v → Normal v
value_normal w k sc s t v n is = subst IsNormalOutcome is ((meaning_normal (Some w) (as_expr k) sc (normal_scope sc n.bound n.named)).value s t n.now n.next)

bound_normal : (xs : List (List ℕ)) (vs : List Value) → AllByRecursion Normal vs → AllByRecursion (λ (b : List ℕ × Value). Normal b.1) (bound_to xs vs)
bound_normal [] vs h = tt
bound_normal (x ∷ xs) [] h = (truth_normal false, bound_normal xs [] h)
bound_normal (x ∷ xs) (v ∷ vs) h = (h.0, bound_normal xs vs h.1)

bind_normal : (xs : List (List ℕ)) (vs : List Value) (sc : Scope) (s t : State) → AllByRecursion Normal vs → IsNormal sc s t → IsNormal (bind xs vs sc) s t
bind_normal xs vs sc s t h n = record {
  bound = all_plus (λ (b : List ℕ × Value). Normal b.1) sc.bound (bound_to xs vs) n.bound (bound_normal xs vs h);
  named = n.named;
  now = n.now;
  next = n.next;
}

-- ---- picks

calm : (f g : Fault) → join_faults f g ≡ NoFault → (f ≡ NoFault) × (g ≡ NoFault)
calm NoFault g e = (refl, e)
calm (IsWrong p) NoFault e = absurd cc
calm (IsWrong p) (IsWrong q) e = absurd cc
calm (IsWrong p) (IsBig q) e = absurd cc
calm (IsBig p) NoFault e = absurd cc
calm (IsBig p) (IsWrong q) e = absurd cc
calm (IsBig p) (IsBig q) e = absurd cc

calm_value : (o : Outcome) → fault_of o ≡ NoFault → (v : Value) × (o ≡ Val v)
calm_value (Val v) e = (v, refl)
calm_value (Wrong p) e = absurd cc
calm_value (Big p) e = absurd cc

is_member : (v : Value) (xs : List Value) → IsOneOf v xs → IsTrue (member v xs)
is_member v [] h = absurd h
is_member v (x ∷ xs) (inl e) = ap (λ (b : Bool). b || member v xs) (subst (λ (z : Value). same_value v z ≡ true) e (same_itself v))
is_member v (x ∷ xs) (inr h) = by (same_value v x) (is_member v xs h)
  where
    by : (b : Bool) → IsTrue (member v xs) → IsTrue (b || member v xs)
    by true k = refl
    by false k = k

one_normal : (v : Value) (xs : List Value) → IsOneOf v xs → AllByRecursion Normal xs → Normal v
one_normal v [] h n = absurd h
one_normal v (x ∷ xs) (inl e) n = subst Normal (sym e) n.0
one_normal v (x ∷ xs) (inr h) n = one_normal v xs h n.1

a_set : (v : Value) (xs : List Value) → out-Value v ≡ layer.Set xs → v ≡ value.Set xs
a_set v xs e = sym (roll-out-Value v) ∙ ap roll-Value e ∙ value.rolls-Set xs

-- the sets are there, one for each outcome
abbrev Opened : List Outcome → List (List Value) → Type 0
Opened [] [] = Unit {0}
Opened (o ∷ os) (xs ∷ xss) = (o ≡ Val (value.Set xs)) × Opened os xss
Opened [] (xs ∷ xss) = ⊥
Opened (o ∷ os) [] = ⊥

sets_open : (os : List Outcome) (xss : List (List Value)) → joined os ≡ NoFault → all_set_items (values os) ≡ Some xss → Opened os xss
sets_open [] xss e f = by xss f
  where
    empty : List (List Value)
    empty = []

    by : (xss : List (List Value)) → Some empty ≡ Some xss → Opened [] xss
    by [] q = tt
    by (xs ∷ xss) q = absurd cc
sets_open (o ∷ os) xss e f =
    let z = calm (fault_of o) (joined os) e in
    let u = calm_value o z.0 in
    by u.0 u.1 (out-Value u.0) refl (all_set_items (values os)) refl
    (subst (λ (q : Outcome). all_set_items (values (q ∷ os)) ≡ Some xss) u.1 f) (λ yss q. sets_open os yss z.1 q)
  where
    by : (v : Value) → o ≡ Val v → (x : Layer Value) → out-Value v ≡ x → (r : Option (List (List Value))) → all_set_items (values os) ≡ r →
        option_and_then (λ xs. option_map (λ yss. xs ∷ yss) (all_set_items (values os))) (set_items (out-Value v)) ≡ Some xss →
        ((yss : List (List Value)) → all_set_items (values os) ≡ Some yss → Opened os yss) → Opened (o ∷ os) xss
    by v is x q r s k go =
        at x q r s (sym (ap₂ (λ (l : Layer Value) (p : Option (List (List Value))). option_and_then (λ xs. option_map (λ yss. xs ∷ yss) p) (set_items l)) q s) ∙ k)
      where
        at : (x : Layer Value) → out-Value v ≡ x → (r : Option (List (List Value))) → all_set_items (values os) ≡ r →
            option_and_then (λ xs. option_map (λ yss. xs ∷ yss) r) (set_items x) ≡ Some xss → Opened (o ∷ os) xss
        at (layer.Set xs) q (Some yss) s k = subst (Opened (o ∷ os)) (same k) (is ∙ ap Val (a_set v xs q), go yss s)
          where
            same : {x y : List (List Value)} → Some x ≡ Some y → x ≡ y
            same e = cc
        at (layer.Set xs) q None s k = absurd (none≢some k)
        at (layer.Bool b) q r s k = absurd (none≢some k)
        at (layer.Int b) q r s k = absurd (none≢some k)
        at (layer.Text b) q r s k = absurd (none≢some k)
        at (layer.Fun b) q r s k = absurd (none≢some k)

abbrev pick_sizings : ℕ → List (ℕ × Ker) → List (List ℕ × Sizing)
pick_sizings w ps = map (λ (p : ℕ × Ker). (number_name p.0, ker_sized w p.1)) ps

pick_names : (w : ℕ) (ps : List (ℕ × Ker)) → picked_names (pick_sizings w ps) ≡ names_of (numbers ps)
pick_names w [] = refl
pick_names w (p ∷ ps) = ap (λ (l : List (List ℕ)). number_name p.0 ∷ l) (pick_names w ps)

-- what is said of the sets of a pick
abbrev SetsAre : ℕ → List Kind → Context → Marks → List ℕ → List (ℕ × Ker) → Type 0
SetsAre w names c m before [] = Unit {0}
SetsAre w names c m before (p ∷ ps) = ((sound names p.1 c false ≡ true) × IsTrue (not (mentions (open_names m before) p.1))) × SetsAre w names c m before ps

sets_are : (w : ℕ) (names : List Kind) (c : Context) (m : Marks) (before : List ℕ) (ps : List (ℕ × Ker)) → IsTrue (sound_pick names c ps) →
    IsTrue (list_all (λ k. not (mentions (open_names m before) k)) (sets ps)) → SetsAre w names c m before ps
sets_are w names c m before [] h e = tt
sets_are w names c m before (p ∷ ps) h e = (
  (and_left (sound names p.1 c false) (sound_pick names c ps) h, and_left (not (mentions (open_names m before) p.1)) _ e),
  sets_are w names c m before ps (and_right (sound names p.1 c false) (sound_pick names c ps) h) (and_right (not (mentions (open_names m before) p.1)) _ e),
)

-- the kinds of the sets
abbrev KindsAre : List (ℕ × Ker) → List Kind → Type 0
KindsAre [] [] = Unit {0}
KindsAre (p ∷ ps) (k ∷ ks) = (kind_at p.1 ≡ Some (kind.Set k)) × KindsAre ps ks
KindsAre [] (k ∷ ks) = ⊥
KindsAre (p ∷ ps) [] = ⊥

kinds_are : (ps : List (ℕ × Ker)) (as' : List Kind) (ms : List Kind) → kind.all_there (map (λ (p : ℕ × Ker). kind_at p.1) ps) ≡ Some as' → as' ≡ map kind.Set ms → KindsAre ps ms
kinds_are [] as' ms e f = by ms (empty_is (e ∙ ap Some f))
  where
    empty : List Kind
    empty = []

    empty_is : {xs : List Kind} → Some empty ≡ Some xs → empty ≡ xs
    empty_is q = cc

    by : (ms : List Kind) → empty ≡ map kind.Set ms → KindsAre [] ms
    by [] q = tt
    by (m ∷ ms) q = absurd cc
kinds_are (p ∷ ps) as' ms e f = by (kind_at p.1) refl (kind.all_there (map (λ (q : ℕ × Ker). kind_at q.1) ps)) refl e (λ bs ns q r. kinds_are ps bs ns q r)
  where
    cons : Kind → List Kind → List Kind
    cons a bs = a ∷ bs

    split : {a b : Kind} {as' bs : List Kind} → a ∷ as' ≡ b ∷ bs → (a ≡ b) × (as' ≡ bs)
    split q = (cc, cc)

    none : {a : Kind} {as' : List Kind} → a ∷ as' ≡ [] → ⊥
    none q = cc

    some_is : {x y : List Kind} → Some x ≡ Some y → x ≡ y
    some_is q = cc

    by : (o : Option Kind) → kind_at p.1 ≡ o → (r : Option (List Kind)) → kind.all_there (map (λ (q : ℕ × Ker). kind_at q.1) ps) ≡ r →
        option_and_then (λ x. option_map (λ xs. x ∷ xs) r) o ≡ Some as' → ((bs ns : List Kind) → kind.all_there (map (λ (q : ℕ × Ker). kind_at q.1) ps) ≡ Some bs → bs ≡ map kind.Set ns → KindsAre ps ns) → KindsAre (p ∷ ps) ms
    by None q r s k go = absurd (none≢some k)
    by (Some a) q None s k go = absurd (none≢some k)
    by (Some a) q (Some bs) s k go = at ms (some_is k ∙ f)
      where
        at : (ms : List Kind) → a ∷ bs ≡ map kind.Set ms → KindsAre (p ∷ ps) ms
        at [] z = absurd (none z)
        at (n ∷ ns) z = let y = split z in (q ∙ ap Some y.0, go bs ns s y.1)

as_many_picks : (ps : List (ℕ × Ker)) (ms : List Kind) → KindsAre ps ms → length (numbers ps) ≡ length ms
as_many_picks [] [] h = refl
as_many_picks [] (k ∷ ks) h = absurd h
as_many_picks (p ∷ ps) [] h = absurd h
as_many_picks (p ∷ ps) (k ∷ ks) h = ap suc (as_many_picks ps ks h.1)

module _ (how : Assigns) (w : ℕ) (wide : 2 ≤ w) (names : List Kind) (m : Marks) where
  -- the members of a pick's sets are of their types
  pub picks_of_kinds : (before : List ℕ) (c : Context) (g : Extent) (ps : List (ℕ × Ker)) (ms : List Kind) → Standing how names m before c g → SetsAre w names c m before ps → KindsAre ps ms →
      EachOfKind ms (picked_shapes (pick_sizings w ps) g)
  picks_of_kinds before c g [] [] a h k = tt
  picks_of_kinds before c g [] (j ∷ js) a h k = absurd k
  picks_of_kinds before c g (p ∷ ps) [] a h k = absurd k
  picks_of_kinds before c g (p ∷ ps) (j ∷ js) a h k =
      (member_kind j (ker_shape w p.1 g) (tree_shape how w wide names m before c g p.1 false (kind.Set j) a h.0.0 k.0 h.0.1).0, picks_of_kinds before c g ps js a h.1 k.1)

  -- and fit, and are normal
  picks_fit : (before : List ℕ) (c : Context) (sc : Scope) (g : Extent) (s t : State) (ps : List (ℕ × Ker)) (ms : List Kind) (vs : List Value) (xss : List (List Value)) → Along how names m before c sc g s t →
      SetsAre w names c m before ps → KindsAre ps ms → Opened (set_outcomes (Some w) s t ps sc) xss → AreIn vs xss →
      FitAll (picked_shapes (pick_sizings w ps) g) vs × AllByRecursion Normal vs
  picks_fit before c sc g s t [] ms [] [] a h k o i = (tt, tt)
  picks_fit before c sc g s t [] ms (v ∷ vs) [] a h k o i = absurd i
  picks_fit before c sc g s t [] ms vs (xs ∷ xss) a h k o i = absurd o
  picks_fit before c sc g s t (p ∷ ps) ms vs [] a h k o i = absurd o
  picks_fit before c sc g s t (p ∷ ps) [] vs (xs ∷ xss) a h k o i = absurd k
  picks_fit before c sc g s t (p ∷ ps) (j ∷ js) [] (xs ∷ xss) a h k o i = absurd i
  picks_fit before c sc g s t (p ∷ ps) (j ∷ js) (v ∷ vs) (xs ∷ xss) a h k o i =
      let fits = value_fits how w wide names m before c sc g s t p.1 false (kind.Set j) (value.Set xs) a h.0.0 k.0 h.0.1 o.0 in
      let norm = set_members xs (value_normal w p.1 sc s t (value.Set xs) a.normal o.0) in
      let rest = picks_fit before c sc g s t ps js vs xss a h.1 k.1 o.1 i.1 in
      ((member_of_fitting (ker_shape w p.1 g) xs v fits (is_member v xs i.0), rest.0), (one_normal v xs i.0 norm, rest.1))

  -- behind a pick
  pick_stands : (before : List ℕ) (c : Context) (g : Extent) (ps : List (ℕ × Ker)) (ms : List Kind) → Standing how names m before c g → SetsAre w names c m before ps → KindsAre ps ms →
      Standing how names m before (c ++ zip (numbers ps) ms) (bind_shapes (picked_names (pick_sizings w ps)) (picked_shapes (pick_sizings w ps) g) g)
  pick_stands before c g ps ms a h k =
      let inner : List Shape = picked_shapes (pick_sizings w ps) g in
      subst (λ (xs : List (List ℕ)). Standing how names m before (c ++ zip (numbers ps) ms) (bind_shapes xs inner g)) (sym (pick_names w ps))
      (record {
        types = more_types names c g (numbers ps) ms inner a.types (as_many_picks ps ms k) (picks_of_kinds before c g ps ms a h k);
        now = λ i l. still how i (a.now i l);
        next = a.next;
      })
    where
      still : (how : Assigns) (i : ℕ) → NowIs how m before g i → NowIs how m before (bind_shapes (names_of (numbers ps)) (picked_shapes (pick_sizings w ps) g) g) i
      still in_next i n = n
      still in_state i n = n

  pick_along : (before : List ℕ) (c : Context) (sc : Scope) (g : Extent) (s t : State) (ps : List (ℕ × Ker)) (ms : List Kind) (vs : List Value) → Along how names m before c sc g s t →
      SetsAre w names c m before ps → KindsAre ps ms → Picked (set_outcomes (Some w) s t ps sc) vs →
      Along how names m before (c ++ zip (numbers ps) ms) (picking ps vs sc) (bind_shapes (picked_names (pick_sizings w ps)) (picked_shapes (pick_sizings w ps) g) g) s t
  pick_along before c sc g s t ps ms vs a h k q =
      let opened = sets_open (set_outcomes (Some w) s t ps sc) q.members q.sound q.are_sets in
      let z = picks_fit before c sc g s t ps ms vs q.members a h k opened q.are_in in
      let inner : List Shape = picked_shapes (pick_sizings w ps) g in
      record {
        stands = pick_stands before c g ps ms a.stands h k;
        ready = subst (λ (xs : List (List ℕ)). Ready (picking ps vs sc) (bind_shapes xs inner g) s t) (sym (pick_names w ps))
            (bind_ready (names_of (numbers ps)) vs inner sc g s t z.0 a.ready);
        normal = bind_normal (names_of (numbers ps)) vs sc s t z.1 a.normal;
        one = a.one;
      }

-- ---- assignments

put_kinds : (ks : List Kind) (os : List (Option Shape)) (i : ℕ) (a : Kind) (b : Shape) → NamesOfKinds ks os → slice_get ks i ≡ Some a → OfKind a b → NamesOfKinds ks (put i b os)
put_kinds [] [] i a b h e k = tt
put_kinds [] (o ∷ os) i a b h e k = absurd h
put_kinds (j ∷ js) [] i a b h e k = absurd h
put_kinds (j ∷ js) (None ∷ os) zero a b h e k = (subst (λ (l : Kind). OfKind l b) (sym (same e)) k, h)
  where
    same : {x y : Kind} → Some x ≡ Some y → x ≡ y
    same q = cc
put_kinds (j ∷ js) (Some d ∷ os) zero a b h e k = (subst (λ (l : Kind). OfKind l b) (sym (same e)) k, h.1)
  where
    same : {x y : Kind} → Some x ≡ Some y → x ≡ y
    same q = cc
put_kinds (j ∷ js) (None ∷ os) (suc i) a b h e k = put_kinds js os i a b h e k
put_kinds (j ∷ js) (Some d ∷ os) (suc i) a b h e k = (h.0, put_kinds js os i a b h.1 e k)

put_state : (i : ℕ) (a : Shape) (os : List (Option Shape)) (vs : List Value) (v : Value) → StateFits os vs → slice_get vs i ≡ Some v → Fits a v → StateFits (put i a os) vs
put_state i a [] [] v h e k = tt
put_state i a [] (u ∷ vs) v h e k = absurd h
put_state i a (o ∷ os) [] v h e k = absurd h
put_state zero a (o ∷ os) (u ∷ vs) v h e k = (subst (Fits a) (some_same e) k, h.1)
  where
    some_same : Some u ≡ Some v → v ≡ u
    some_same e = cc
put_state (suc i) a (o ∷ os) (u ∷ vs) v h e k = (h.0, put_state i a os vs v h.1 e k)

abbrev has_none : List (Option Shape) → ℕ → Bool
has_none os i = not (is_some (option_and_then (λ o. o) (slice_get os i)))

-- behind an assignment a name has no shape only if it had none, and is another
put_open : (ks : List Kind) (os : List (Option Shape)) (i j : ℕ) (a : Shape) → NamesOfKinds ks os → nat_lt j (length ks) ≡ true → has_none (put i a os) j ≡ true →
    (has_none os j ≡ true) × (nat_eq j i ≡ false)
put_open [] [] i j a h l e = absurd (none j l)
  where
    none : (j : ℕ) → nat_lt j 0 ≡ true → ⊥
    none j q = grind (arith, q)
put_open [] (o ∷ os) i j a h l e = absurd h
put_open (k ∷ ks) [] i j a h l e = absurd h
put_open (k ∷ ks) (o ∷ os) zero zero a h l e = absurd (false≢true e)
put_open (k ∷ ks) (o ∷ os) zero (suc j) a h l e = (e, other j)
  where
    other : (j : ℕ) → nat_eq (suc j) 0 ≡ false
    other j = grind arith
put_open (k ∷ ks) (o ∷ os) (suc i) zero a h l e = (e, other i)
  where
    other : (i : ℕ) → nat_eq 0 (suc i) ≡ false
    other i = grind arith
put_open (k ∷ ks) (o ∷ os) (suc i) (suc j) a h l e =
    let z = put_open ks os i j a (rest o h) (less j (length ks) l) e in (z.0, other j i z.1)
  where
    less : (j n : ℕ) → nat_lt (suc j) (suc n) ≡ true → nat_lt j n ≡ true
    less j n q = grind (arith, q)

    other : (j i : ℕ) → nat_eq j i ≡ false → nat_eq (suc j) (suc i) ≡ false
    other j i q = grind (arith, q)

    rest : (o : Option Shape) → NamesOfKinds (k ∷ ks) (o ∷ os) → NamesOfKinds ks os
    rest None h = h
    rest (Some d) h = h.1

-- behind an assignment of a value of the name's type
assigned_open : (names : List Kind) (m : Marks) (before : List ℕ) (os : List (Option Shape)) (i j : ℕ) (b : Shape) (primed : Bool) → NamesOfKinds names os → nat_lt j (length names) ≡ true →
    (has_none os j ≡ true → IsOpen m before j primed) → has_none (put i b os) j ≡ true → IsOpen m (i ∷ before) j primed
assigned_open names m before os i j b primed h l k f =
    let z = put_open names os i j b h l f in
    let y = k z.0 in
    (y.0, none_or (nat_eq j i) (is_in before j) z.1 y.1)

assign_stands : (how : Assigns) (names : List Kind) (m : Marks) (before : List ℕ) (c : Context) (g : Extent) (i : ℕ) (d : Kind) (b : Shape) → Standing how names m before c g →
    slice_get names i ≡ Some d → OfKind d b → Standing how names m (i ∷ before) c (assign how i b g)
assign_stands in_next names m before c g i d b a e k = record {
  types = record { now = a.types.now; next = put_kinds names g.next i d b a.types.next e k; bound = a.types.bound };
  now = a.now;
  next = λ j l f. assigned_open names m before g.next i j b true a.types.next l (a.next j l) f;
}
assign_stands in_state names m before c g i d b a e k = record {
  types = record { now = put_kinds names g.now i d b a.types.now e k; next = put_kinds names g.next i d b a.types.next e k; bound = a.types.bound };
  now = λ j l f. assigned_open names m before g.now i j b false a.types.now l (a.now j l) f;
  next = λ j l f. assigned_open names m before g.next i j b true a.types.next l (a.next j l) f;
}

assign_along : (how : Assigns) (names : List Kind) (m : Marks) (before : List ℕ) (c : Context) (sc : Scope) (g : Extent) (s t : State) (i : ℕ) (d : Kind) (b : Shape) (v : Value) → Along how names m before c sc g s t →
    slice_get names i ≡ Some d → OfKind d b → Has t i v → Fits b v → Along how names m (i ∷ before) c sc (assign how i b g) s t
assign_along in_next names m before c sc g s t i d b v a e k has fits = record {
  stands = assign_stands in_next names m before c g i d b a.stands e k;
  ready = record { bound = a.ready.bound; now = a.ready.now; next = put_state i b g.next t.vals v a.ready.next has fits };
  normal = a.normal;
  one = a.one;
}
assign_along in_state names m before c sc g s t i d b v a e k has fits = record {
  stands = assign_stands in_state names m before c g i d b a.stands e k;
  ready = record {
    bound = a.ready.bound;
    now = put_state i b g.now s.vals v a.ready.now (subst (λ (x : State). slice_get x.vals i ≡ Some v) (sym a.one) has) fits;
    next = put_state i b g.next t.vals v a.ready.next has fits;
  };
  normal = a.normal;
  one = a.one;
}

-- ---- finite forms

flat_nil : (ps qs : List Place) → IsTrue (is_nil (ps ++ qs)) → IsTrue (is_nil ps) × IsTrue (is_nil qs)
flat_nil [] qs h = (refl, h)
flat_nil (p ∷ ps) qs h = absurd (false≢true h)

abbrev FiniteTree : Ker → Type 0
FiniteTree k = IsTrue (is_nil (infinite_places k)) → IsTrue (is_finite_form (as_expr k))

all_finite : (ks : List Ker) → Each FiniteTree ks → IsTrue (is_nil (flat_map (λ (ps : List Place). ps) (map infinite_places ks))) → IsTrue (list_all (λ b. b) (map is_finite_form (map as_expr ks)))
all_finite [] e h = refl
all_finite (k ∷ ks) e h =
    let z = flat_nil (infinite_places k) (flat_map (λ (ps : List Place). ps) (map infinite_places ks)) h in
    and_both (is_finite_form (as_expr k)) _ (e.0 z.0) (all_finite ks e.1 z.1)

constant_finite : (l : Layer Value) (bs : List Bool) → IsTrue (is_finite_at (constant l) bs)
constant_finite (layer.Bool b) bs = refl
constant_finite (layer.Int b) bs = refl
constant_finite (layer.Text b) bs = refl
constant_finite l bs = refl

finite_node : (o : KerOp) (p : Place) (ks : List Ker) → Each FiniteTree ks → IsTrue (is_nil (infinite_at o p (map infinite_places ks))) →
    IsTrue (is_finite_at (op_of o) (map is_finite_form (operands o p (map as_expr ks))))
finite_node (ker.Const v) p ks e h = constant_finite (out-Value v) []
finite_node ker.IntForm p ks e h = absurd (false≢true h)
finite_node ker.NatForm p ks e h = absurd (false≢true h)
finite_node ker.TextForm p ks e h = absurd (false≢true h)
finite_node ker.SeqForm p ks e h = absurd (false≢true h)
finite_node ker.Subsets p ks e h = all_finite ks e h
finite_node ker.Functions p [] e h = refl
finite_node ker.Functions p (k ∷ ks) e h = all_finite ks e.1 h
finite_node (ker.RecForm names) p ks e h = all_finite ks e h
finite_node ker.TupForm p ks e h = all_finite ks e h
finite_node o p ks e h = refl

pub finite_tree : (k : Ker) → FiniteTree k
finite_tree = by_nodes FiniteTree (λ x e h.
    let y : Expr-F Expr = record { place = x.place; op = op_of x.op; args = operands x.op x.place (map as_expr x.args); binds = names_of x.binds } in
    subst (λ (d : Expr). IsTrue (is_finite_form d)) (sym (as_expr-roll x))
    (subst IsTrue (sym (finite-roll y)) (finite_node x.op x.place x.args e (subst (λ (ps : List Place). IsTrue (is_nil ps)) (infinite-roll x) h))))

-- ---- paths

-- what a path assigns
abbrev pub given : List AssignedStep → List ℕ
given zs = flat_map assigned_by zs

-- what is left at the end of a path
pub record AtEnd (names : List Kind) (m : Marks) (before : List ℕ) (zs : List AssignedStep) (g : Extent) (t : State) : Type 0 where
  pub kinds : NamesOfKinds names g.next
  pub fits : StateFits g.next t.vals
  pub left : (i : ℕ) → nat_lt i (length names) ≡ true → without_shape g i true ≡ true → (m i true ≡ true) × (is_in before i ≡ false) × (is_in (given zs) i ≡ false)

of_type : (test : Kind → Bool) (o : Option Kind) → IsTrue (passes test o) → (a : Kind) × (o ≡ Some a) × IsTrue (test a)
of_type test None h = absurd (false≢true h)
of_type test (Some a) h = (a, refl, h)

normal_there : (vs : List Value) (i : ℕ) (v : Value) → AllByRecursion Normal vs → slice_get vs i ≡ Some v → Normal v
normal_there [] i v h e = absurd (none≢some e)
normal_there (u ∷ vs) zero v h e = subst Normal (same e) h.0
  where
    same : {x y : Value} → Some x ≡ Some y → x ≡ y
    same q = cc
normal_there (u ∷ vs) (suc i) v h e = normal_there vs i v h.1 e

end_more : (names : List Kind) (m : Marks) (before : List ℕ) (i : ℕ) (z : AssignedStep) (zs : List AssignedStep) (g : Extent) (t : State) → assigned_by z ≡ i ∷ [] →
    AtEnd names m (i ∷ before) zs g t → AtEnd names m before (z ∷ zs) g t
end_more names m before i z zs g t e a = record {
  kinds = a.kinds;
  fits = a.fits;
  left = λ j l f.
      let y = a.left j l f in
      let x = or_none (nat_eq j i) (is_in before j) y.1 in
      (y.0, x.1, subst (λ (js : List ℕ). is_in (js ++ given zs) j ≡ false) (sym e) (none_or (nat_eq j i) (is_in (given zs) j) x.0 y.2));
}

end_same : (names : List Kind) (m : Marks) (before : List ℕ) (z : AssignedStep) (zs : List AssignedStep) (g : Extent) (t : State) → assigned_by z ≡ [] →
    AtEnd names m before zs g t → AtEnd names m before (z ∷ zs) g t
end_same names m before z zs g t e a = record {
  kinds = a.kinds;
  fits = a.fits;
  left = λ j l f.
      let y = a.left j l f in
      (y.0, y.1, subst (λ (js : List ℕ). is_in (js ++ given zs) j ≡ false) (sym e) y.2);
}

some_kinds : (test : List Kind → Bool) (o : Option (List Kind)) → IsTrue (passes test o) → (ms : List Kind) × (o ≡ Some ms) × IsTrue (test ms)
some_kinds test None h = absurd (false≢true h)
some_kinds test (Some ms) h = (ms, refl, h)

kinds_there : (o : Option (List Kind)) (ms : List Kind) → option_and_then members o ≡ Some ms → (as' : List Kind) × (o ≡ Some as') × (members as' ≡ Some ms)
kinds_there None ms e = absurd (none≢some e)
kinds_there (Some as') ms e = (as', refl, e)

module _ (how : Assigns) (w : ℕ) (wide : 2 ≤ w) (names : List Kind) (m : Marks) where
  pub path_law : (zs : List AssignedStep) (vss : List (List Value)) (before : List ℕ) (c : Context) (sc : Scope) (g : Extent) (s t : State) → Along how names m before c sc g s t →
      IsTrue (sound_assigned names c zs) → IsTrue (reads_late m before zs) → AssignedHolds (Some w) s t zs vss sc → AtEnd names m before zs (after_path how (sized_path w zs) g) t
  path_law [] vss before c sc g s t a h r k = record {
    kinds = a.stands.types.next;
    fits = a.ready.next;
    left = λ i l e. let z = a.stands.next i l e in (z.0, z.1, refl);
  }
  path_law (mark.Guard e b ∷ zs) vss before c sc g s t a h r k =
      end_same names m before (mark.Guard e b) zs _ t refl
      (path_law zs vss before c sc g s t a (and_right (sound_guard names c e) (sound_assigned names c zs) h) (and_right (not (mentions (open_names m before) e)) (reads_late m before zs) r) k.1)
  path_law (mark.Pick ps ∷ zs) [] before c sc g s t a h r k = absurd k
  path_law (mark.Pick ps ∷ zs) (vs ∷ vss) before c sc g s t a h r k =
      let test : List Kind → Bool = λ ms. sound_assigned names (c ++ zip (numbers ps) ms) zs in
      let z = some_kinds test (picked_kinds ps) (and_right (sound_pick names c ps) (passes test (picked_kinds ps)) h) in
      let y = kinds_there (kind.all_there (map (λ (p : ℕ × Ker). kind_at p.1) ps)) z.0 z.1 in
      let sets_well = sets_are w names c m before ps (and_left (sound_pick names c ps) (passes test (picked_kinds ps)) h)
      (and_left (list_all (λ (q : Ker). not (mentions (open_names m before) q)) (sets ps)) (reads_late m before zs) r) in
      let kinds_well = kinds_are ps y.0 z.0 y.1 (sets_of y.0 z.0 y.2) in
      end_same names m before (mark.Pick ps) zs _ t refl
      (path_law zs vss before (c ++ zip (numbers ps) z.0) (picking ps vs sc) (bind_shapes (picked_names (pick_sizings w ps)) (picked_shapes (pick_sizings w ps) g) g) s t
      (pick_along how w wide names m before c sc g s t ps z.0 vs a sets_well kinds_well k.0) z.2
      (and_right (list_all (λ (q : Ker). not (mentions (open_names m before) q)) (sets ps)) (reads_late m before zs) r) k.1)
  path_law (mark.Equals i e ∷ zs) vss before c sc g s t a h r k =
      let typed : Bool = passes (λ d. is_kind d (kind_at e)) (slice_get names i) in
      let own : Bool = sound names e c false in
      let front = and_left (typed && own) (sound_assigned names c zs) h in
      let z = of_type (λ d. is_kind d (kind_at e)) (slice_get names i) (and_left typed own front) in
      let sound_e = and_right typed own front in
      let quiet_e = and_left (not (mentions (open_names m before) e)) (reads_late m (i ∷ before) zs) r in
      let q : kind_at e ≡ Some z.0 = found z.0 (kind_at e) z.2 in
      let v : Value = k.0.0 in
      let shaped = tree_shape how w wide names m before c g e false z.0 a.stands sound_e q quiet_e in
      let fits = value_fits how w wide names m before c sc g s t e false z.0 v a sound_e q quiet_e k.0.1.0 in
      end_more names m before i (mark.Equals i e) zs _ t refl
      (path_law zs vss (i ∷ before) c sc (assign how i (ker_shape w e g) g) s t (assign_along how names m before c sc g s t i z.0 (ker_shape w e g) v a z.1 shaped.0 k.0.1.1 fits)
      (and_right (typed && own) (sound_assigned names c zs) h) (and_right (not (mentions (open_names m before) e)) (reads_late m (i ∷ before) zs) r) k.1)
  path_law (mark.Among i e ∷ zs) vss before c sc g s t a h r k =
      let typed : Bool = passes (λ d. is_kind (kind.Set d) (kind_at e)) (slice_get names i) in
      let own : Bool = sound names e c true in
      let front = and_left ((typed && is_finite e) && own) (sound_assigned names c zs) h in
      let ends = and_left (typed && is_finite e) own front in
      let z = of_type (λ d. is_kind (kind.Set d) (kind_at e)) (slice_get names i) (and_left typed (is_finite e) ends) in
      let sound_e = and_right (typed && is_finite e) own front in
      let quiet_e = and_left (not (mentions (open_names m before) e)) (reads_late m (i ∷ before) zs) r in
      let q : kind_at e ≡ Some (kind.Set z.0) = found (kind.Set z.0) (kind_at e) z.2 in
      let v : Value = k.0.value in
      let shaped = tree_shape how w wide names m before c g e true (kind.Set z.0) a.stands sound_e q quiet_e in
      let member_of : OfKind z.0 (inside (ker_shape w e g)) = member_kind z.0 (ker_shape w e g) shaped.0 in
      let fits : Fits (inside (ker_shape w e g)) v =
      form_fits w (as_expr e) (kinds_in e) sc g s t k.0.form v wide (tree_expanded e) (finite_tree e (and_right typed (is_finite e) ends)) a.ready
      (normal_scope sc a.normal.bound a.normal.named) a.normal.now a.normal.next shaped.1 k.0.made k.0.set (normal_there t.vals i v a.normal.next k.0.has) k.0.belongs in
      end_more names m before i (mark.Among i e) zs _ t refl
      (path_law zs vss (i ∷ before) c sc (assign how i (inside (ker_shape w e g)) g) s t (assign_along how names m before c sc g s t i z.0 (inside (ker_shape w e g)) v a z.1 member_of k.0.has fits)
      (and_right ((typed && is_finite e) && own) (sound_assigned names c zs) h) (and_right (not (mentions (open_names m before) e)) (reads_late m (i ∷ before) zs) r) k.1)

  -- by the types alone, whether the path holds or not
  pub kinds_law : (zs : List AssignedStep) (before : List ℕ) (c : Context) (g : Extent) → Standing how names m before c g →
      IsTrue (sound_assigned names c zs) → IsTrue (reads_late m before zs) → NamesOfKinds names (after_path how (sized_path w zs) g).next
  kinds_law [] before c g a h r = a.types.next
  kinds_law (mark.Guard e b ∷ zs) before c g a h r =
      kinds_law zs before c g a (and_right (sound_guard names c e) (sound_assigned names c zs) h) (and_right (not (mentions (open_names m before) e)) (reads_late m before zs) r)
  kinds_law (mark.Pick ps ∷ zs) before c g a h r =
      let test : List Kind → Bool = λ ms. sound_assigned names (c ++ zip (numbers ps) ms) zs in
      let z = some_kinds test (picked_kinds ps) (and_right (sound_pick names c ps) (passes test (picked_kinds ps)) h) in
      let y = kinds_there (kind.all_there (map (λ (p : ℕ × Ker). kind_at p.1) ps)) z.0 z.1 in
      let sets_well = sets_are w names c m before ps (and_left (sound_pick names c ps) (passes test (picked_kinds ps)) h)
      (and_left (list_all (λ (q : Ker). not (mentions (open_names m before) q)) (sets ps)) (reads_late m before zs) r) in
      kinds_law zs before (c ++ zip (numbers ps) z.0) (bind_shapes (picked_names (pick_sizings w ps)) (picked_shapes (pick_sizings w ps) g) g)
      (pick_stands how w wide names m before c g ps z.0 a sets_well (kinds_are ps y.0 z.0 y.1 (sets_of y.0 z.0 y.2))) z.2
      (and_right (list_all (λ (q : Ker). not (mentions (open_names m before) q)) (sets ps)) (reads_late m before zs) r)
  kinds_law (mark.Equals i e ∷ zs) before c g a h r =
      let typed : Bool = passes (λ d. is_kind d (kind_at e)) (slice_get names i) in
      let own : Bool = sound names e c false in
      let front = and_left (typed && own) (sound_assigned names c zs) h in
      let z = of_type (λ d. is_kind d (kind_at e)) (slice_get names i) (and_left typed own front) in
      let shaped = tree_shape how w wide names m before c g e false z.0 a (and_right typed own front) (found z.0 (kind_at e) z.2)
      (and_left (not (mentions (open_names m before) e)) (reads_late m (i ∷ before) zs) r) in
      kinds_law zs (i ∷ before) c (assign how i (ker_shape w e g) g) (assign_stands how names m before c g i z.0 (ker_shape w e g) a z.1 shaped.0)
      (and_right (typed && own) (sound_assigned names c zs) h) (and_right (not (mentions (open_names m before) e)) (reads_late m (i ∷ before) zs) r)
  kinds_law (mark.Among i e ∷ zs) before c g a h r =
      let typed : Bool = passes (λ d. is_kind (kind.Set d) (kind_at e)) (slice_get names i) in
      let own : Bool = sound names e c true in
      let front = and_left ((typed && is_finite e) && own) (sound_assigned names c zs) h in
      let ends = and_left (typed && is_finite e) own front in
      let z = of_type (λ d. is_kind (kind.Set d) (kind_at e)) (slice_get names i) (and_left typed (is_finite e) ends) in
      let shaped = tree_shape how w wide names m before c g e true (kind.Set z.0) a (and_right (typed && is_finite e) own front) (found (kind.Set z.0) (kind_at e) z.2)
      (and_left (not (mentions (open_names m before) e)) (reads_late m (i ∷ before) zs) r) in
      let member_of : OfKind z.0 (inside (ker_shape w e g)) = member_kind z.0 (ker_shape w e g) shaped.0 in
      kinds_law zs (i ∷ before) c (assign how i (inside (ker_shape w e g)) g) (assign_stands how names m before c g i z.0 (inside (ker_shape w e g)) a z.1 member_of)
      (and_right ((typed && is_finite e) && own) (sound_assigned names c zs) h) (and_right (not (mentions (open_names m before) e)) (reads_late m (i ∷ before) zs) r)
