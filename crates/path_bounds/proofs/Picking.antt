-- Numbers behind a pick: their shapes are of the types of members, and the picked values fit them.
use Rattle.std.proofs.Common.{◌≡◌, ◌≤◌, ℕ, suc, Bool, true, false, not, ◌||◌, inl, inr, IsTrue, List, [], ◌∷◌, ◌++◌, map, zip, length, Option, Some, None, option_map, option_and_then, refl, sym, ◌∙◌, ap, ap₂, subst}
use Rattle.std.specs.List.{AllByRecursion, list_all}
use Rattle.tla_values.specs.Order.{Layer, same_value}
use Rattle.tla_values.specs.Sets.{Normal, member}
use Rattle.tla_values.specs.declared.value.Value.{Value, out-Value, roll-Value}
use Rattle.tla_values.specs.declared.value.Value.TheVariants as value
use Rattle.tla_values.specs.declared.value.Value.TheOpen as layer
use Rattle.tla_values.specs.declared.value.Value.TheViews.{roll-out-Value}
use Rattle.tla_values.proofs.Extensional.{same_itself}
use Rattle.tla_values.proofs.NormalLemmas.{set_members}
use Rattle.tla_meaning.specs.declared.job.State.{State}
use Rattle.tla_meaning.specs.declared.outcome.Fault.{Fault}
use Rattle.tla_meaning.specs.declared.outcome.Fault.TheVariants.{NoFault, IsWrong, IsBig}
use Rattle.tla_meaning.specs.declared.outcome.Outcome.{Outcome}
use Rattle.tla_meaning.specs.declared.outcome.Outcome.TheVariants.{Val, Wrong, Big}
use Rattle.tla_meaning.specs.Outcomes.{join_faults, fault_of, joined, values}
use Rattle.tla_meaning.specs.Scopes.{Scope, bind, bound_to}
use Rattle.tla_meaning.specs.Shapes.{set_items, all_set_items}
use Rattle.tla_meaning.proofs.Laws.{none≢some}
use Rattle.tla_meaning.proofs.NormalShapes.{all_plus, truth_normal}
use Rattle.tla_meaning.proofs.Views.{and_left, and_right}
use Rattle.kernel_trees.specs.declared.kernel.Ker.{Ker}
use Rattle.kernel_trees.specs.Assignments.{open_names}
use Rattle.kernel_trees.specs.Paths.{Marks, mentions, numbers, sets}
use Rattle.kernel_trees.specs.Picks.{AreIn, IsOneOf, Picked, picking, set_outcomes}
use Rattle.kernel_trees.specs.Sound.{Context, kind_at, sound, sound_pick}
use Rattle.kernel_trees.specs.Trees.{names_of}
use Rattle.kernel_trees.specs.TypeKinds as kind
use Rattle.kernel_trees.specs.TypeKinds.{Kind}
use Rattle.kernel_shapes.specs.Fits.{Fits, FitAll}
use Rattle.kernel_shapes.specs.Kernel.{ker_shape}
use Rattle.kernel_shapes.specs.Laws.{IsNormal}
use Rattle.kernel_shapes.specs.Levels.{Assigns, in_next, in_state}
use Rattle.kernel_shapes.specs.Shape.{Shape, inside}
use Rattle.kernel_shapes.specs.Sized.{Extent, bind_shapes}
use Rattle.kernel_shapes.specs.TypedStates.{EachOfKind}
use Rattle.kernel_shapes.proofs.FormLaw.{member_of_fitting}
use Rattle.kernel_shapes.proofs.KernelLaw.{each_kernel_value_fits}
use Rattle.kernel_shapes.proofs.KindLaw.{member_kind}
use Rattle.kernel_shapes.proofs.Law.{bind_ready}
use Rattle.kernel_shapes.proofs.PathLaw.{Along as Fitting, NowIs, Standing, tree_shape, value_normal}
use Rattle.kernel_shapes.proofs.SoundShapes.{more_types}

-- ---- what the sets give

calm : (f g : Fault) → join_faults f g ≡ NoFault → (f ≡ NoFault) × (g ≡ NoFault)
calm NoFault g e = (refl, e)
calm (IsWrong p) NoFault e = absurd cc
calm (IsWrong p) (IsWrong q) e = absurd cc
calm (IsWrong p) (IsBig q) e = absurd cc
calm (IsBig p) NoFault e = absurd cc
calm (IsBig p) (IsWrong q) e = absurd cc
calm (IsBig p) (IsBig q) e = absurd cc

calm_value : (o : Outcome) → fault_of o ≡ NoFault → (v : Value) × (o ≡ Val v)
calm_value (Val v) e = (v, refl)
calm_value (Wrong p) e = absurd cc
calm_value (Big p) e = absurd cc

a_set : (v : Value) (xs : List Value) → out-Value v ≡ layer.Set xs → v ≡ value.Set xs
a_set v xs e = sym (roll-out-Value v) ∙ ap roll-Value e ∙ value.rolls-Set xs

-- the sets are there, one for each outcome
abbrev pub AreSets : List Outcome → List (List Value) → Type 0
AreSets [] [] = Unit {0}
AreSets (o ∷ os) (xs ∷ xss) = (o ≡ Val (value.Set xs)) × AreSets os xss
AreSets [] (xs ∷ xss) = ⊥
AreSets (o ∷ os) [] = ⊥

some_is : {X : Type 0} {x y : X} → Some x ≡ Some y → x ≡ y
some_is e = cc

sets_there : (os : List Outcome) (xss : List (List Value)) → joined os ≡ NoFault → all_set_items (values os) ≡ Some xss → AreSets os xss
sets_there [] xss e f = subst (AreSets []) (same f) tt
  where
    nothing : List (List Value)
    nothing = []

    same : Some nothing ≡ Some xss → nothing ≡ xss
    same q = cc
sets_there (o ∷ os) xss e f =
    let z = calm (fault_of o) (joined os) e in
    let u = calm_value o z.0 in
    by u.0 u.1 (out-Value u.0) refl (all_set_items (values os)) refl
    (subst (λ (q : Outcome). all_set_items (values (q ∷ os)) ≡ Some xss) u.1 f) (λ yss q. sets_there os yss z.1 q)
  where
    by : (v : Value) → o ≡ Val v → (x : Layer Value) → out-Value v ≡ x → (r : Option (List (List Value))) → all_set_items (values os) ≡ r →
        option_and_then (λ xs. option_map (λ yss. xs ∷ yss) (all_set_items (values os))) (set_items (out-Value v)) ≡ Some xss →
        ((yss : List (List Value)) → all_set_items (values os) ≡ Some yss → AreSets os yss) → AreSets (o ∷ os) xss
    by v is x q r s k go =
        at x q r s (sym (ap₂ (λ (l : Layer Value) (p : Option (List (List Value))). option_and_then (λ xs. option_map (λ yss. xs ∷ yss) p) (set_items l)) q s) ∙ k)
      where
        at : (x : Layer Value) → out-Value v ≡ x → (r : Option (List (List Value))) → all_set_items (values os) ≡ r →
            option_and_then (λ xs. option_map (λ yss. xs ∷ yss) r) (set_items x) ≡ Some xss → AreSets (o ∷ os) xss
        at (layer.Set xs) q (Some yss) s k = subst (AreSets (o ∷ os)) (some_is k) (is ∙ ap Val (a_set v xs q), go yss s)
        at (layer.Set xs) q None s k = absurd (none≢some k)
        at (layer.Bool b) q r s k = absurd (none≢some k)
        at (layer.Int b) q r s k = absurd (none≢some k)
        at (layer.Text b) q r s k = absurd (none≢some k)
        at (layer.Fun b) q r s k = absurd (none≢some k)

is_member : (v : Value) (xs : List Value) → IsOneOf v xs → IsTrue (member v xs)
is_member v [] h = absurd h
is_member v (x ∷ xs) (inl e) = ap (λ (b : Bool). b || member v xs) (subst (λ (z : Value). same_value v z ≡ true) e (same_itself v))
is_member v (x ∷ xs) (inr h) = by (same_value v x) (is_member v xs h)
  where
    by : (b : Bool) → IsTrue (member v xs) → IsTrue (b || member v xs)
    by true k = refl
    by false k = k

one_normal : (v : Value) (xs : List Value) → IsOneOf v xs → AllByRecursion Normal xs → Normal v
one_normal v [] h n = absurd h
one_normal v (x ∷ xs) (inl e) n = subst Normal (sym e) n.0
one_normal v (x ∷ xs) (inr h) n = one_normal v xs h n.1

bound_normal : (xs : List (List ℕ)) (vs : List Value) → AllByRecursion Normal vs → AllByRecursion (λ (b : List ℕ × Value). Normal b.1) (bound_to xs vs)
bound_normal [] vs h = tt
bound_normal (x ∷ xs) [] h = (truth_normal false, bound_normal xs [] h)
bound_normal (x ∷ xs) (v ∷ vs) h = (h.0, bound_normal xs vs h.1)

bind_normal : (xs : List (List ℕ)) (vs : List Value) (sc : Scope) (s t : State) → AllByRecursion Normal vs → IsNormal sc s t → IsNormal (bind xs vs sc) s t
bind_normal xs vs sc s t h n = record {
  bound = all_plus (λ (b : List ℕ × Value). Normal b.1) sc.bound (bound_to xs vs) n.bound (bound_normal xs vs h);
  named = n.named;
  now = n.now;
  next = n.next;
}

-- ---- what is said of the sets

abbrev pub Asked : List Kind → Context → Marks → List ℕ → List (ℕ × Ker) → Type 0
Asked names c m before [] = Unit {0}
Asked names c m before (p ∷ ps) =
    ((sound names p.1 c false ≡ true) × IsTrue (not (mentions (open_names m before) p.1))) × Asked names c m before ps

pub asked : (names : List Kind) (c : Context) (m : Marks) (before : List ℕ) (ps : List (ℕ × Ker)) → IsTrue (sound_pick names c ps) →
    IsTrue (list_all (λ k. not (mentions (open_names m before) k)) (sets ps)) → Asked names c m before ps
asked names c m before [] h e = tt
asked names c m before (p ∷ ps) h e = (
  (and_left (sound names p.1 c false) (sound_pick names c ps) h, and_left (not (mentions (open_names m before) p.1)) _ e),
  asked names c m before ps (and_right (sound names p.1 c false) (sound_pick names c ps) h) (and_right (not (mentions (open_names m before) p.1)) _ e),
)

-- the kinds of the sets' members
abbrev pub OfMembers : List (ℕ × Ker) → List Kind → Type 0
OfMembers [] [] = Unit {0}
OfMembers (p ∷ ps) (k ∷ ks) = (kind_at p.1 ≡ Some (kind.Set k)) × OfMembers ps ks
OfMembers [] (k ∷ ks) = ⊥
OfMembers (p ∷ ps) [] = ⊥

cons_same : {X : Type 0} {x y : X} {xs ys : List X} → x ∷ xs ≡ y ∷ ys → (x ≡ y) × (xs ≡ ys)
cons_same q = (cc, cc)

cons≢nil : {X : Type 0} {x : X} {xs : List X} → x ∷ xs ≡ [] → ⊥
cons≢nil q = cc

pub of_members : (ps : List (ℕ × Ker)) (as' ms : List Kind) → kind.all_there (map (λ (p : ℕ × Ker). kind_at p.1) ps) ≡ Some as' → as' ≡ map kind.Set ms → OfMembers ps ms
of_members [] as' [] e f = tt
of_members [] as' (m ∷ ms) e f = absurd (cons≢nil (sym (same e ∙ f)))
  where
    nothing : List Kind
    nothing = []

    same : Some nothing ≡ Some as' → nothing ≡ as'
    same q = cc
of_members (p ∷ ps) as' ms e f =
    by (kind_at p.1) refl (kind.all_there (map (λ (q : ℕ × Ker). kind_at q.1) ps)) refl e (λ bs ns q r. of_members ps bs ns q r)
  where
    by : (o : Option Kind) → kind_at p.1 ≡ o → (r : Option (List Kind)) → kind.all_there (map (λ (q : ℕ × Ker). kind_at q.1) ps) ≡ r →
        option_and_then (λ x. option_map (λ xs. x ∷ xs) r) o ≡ Some as' →
        ((bs ns : List Kind) → kind.all_there (map (λ (q : ℕ × Ker). kind_at q.1) ps) ≡ Some bs → bs ≡ map kind.Set ns → OfMembers ps ns) → OfMembers (p ∷ ps) ms
    by None q r s k go = absurd (none≢some k)
    by (Some a) q None s k go = absurd (none≢some k)
    by (Some a) q (Some bs) s k go = at ms (some_is k ∙ f)
      where
        at : (ns : List Kind) → a ∷ bs ≡ map kind.Set ns → OfMembers (p ∷ ps) ns
        at [] z = absurd (cons≢nil z)
        at (n ∷ ns) z = let y = cons_same z in (q ∙ ap Some y.0, go bs ns s y.1)

as_many : (ps : List (ℕ × Ker)) (ms : List Kind) → OfMembers ps ms → length (numbers ps) ≡ length ms
as_many [] [] h = refl
as_many [] (k ∷ ks) h = absurd h
as_many (p ∷ ps) [] h = absurd h
as_many (p ∷ ps) (k ∷ ks) h = ap suc (as_many ps ks h.1)

abbrev pub member_shapes : ℕ → Extent → List (ℕ × Ker) → List Shape
member_shapes w g ps = map (λ k. inside (ker_shape w k g)) (sets ps)

module _ (how : Assigns) (w : ℕ) (wide : 2 ≤ w) (names : List Kind) (m : Marks) where
  of_kinds : (before : List ℕ) (c : Context) (g : Extent) (ps : List (ℕ × Ker)) (ms : List Kind) → Standing how names m before c g →
      Asked names c m before ps → OfMembers ps ms → EachOfKind ms (member_shapes w g ps)
  of_kinds before c g [] [] a h k = tt
  of_kinds before c g [] (j ∷ js) a h k = absurd k
  of_kinds before c g (p ∷ ps) [] a h k = absurd k
  of_kinds before c g (p ∷ ps) (j ∷ js) a h k = (
    member_kind j (ker_shape w p.1 g) (tree_shape how w wide names m before c g p.1 false (kind.Set j) a h.0.0 k.0 h.0.1).0,
    of_kinds before c g ps js a h.1 k.1,
  )

  picks_fit : (before : List ℕ) (c : Context) (sc : Scope) (g : Extent) (s t : State) (ps : List (ℕ × Ker)) (ms : List Kind) (vs : List Value) (xss : List (List Value)) →
      Fitting how names m before c sc g s t → Asked names c m before ps → OfMembers ps ms → AreSets (set_outcomes (Some w) s t ps sc) xss → AreIn vs xss →
      FitAll (member_shapes w g ps) vs × AllByRecursion Normal vs
  picks_fit before c sc g s t [] ms [] [] a h k o i = (tt, tt)
  picks_fit before c sc g s t [] ms (v ∷ vs) [] a h k o i = absurd i
  picks_fit before c sc g s t [] ms vs (xs ∷ xss) a h k o i = absurd o
  picks_fit before c sc g s t (p ∷ ps) ms vs [] a h k o i = absurd o
  picks_fit before c sc g s t (p ∷ ps) [] vs (xs ∷ xss) a h k o i = absurd k
  picks_fit before c sc g s t (p ∷ ps) (j ∷ js) [] (xs ∷ xss) a h k o i = absurd i
  picks_fit before c sc g s t (p ∷ ps) (j ∷ js) (v ∷ vs) (xs ∷ xss) a h k o i =
      let shaped = tree_shape how w wide names m before c g p.1 false (kind.Set j) a.stands h.0.0 k.0 h.0.1 in
      let fits : Fits (ker_shape w p.1 g) (value.Set xs) = each_kernel_value_fits w p.1 sc g s t (value.Set xs) wide a.ready shaped.1 o.0 in
      let norm = set_members xs (value_normal w p.1 sc s t (value.Set xs) a.normal o.0) in
      let rest = picks_fit before c sc g s t ps js vs xss a h.1 k.1 o.1 i.1 in
      ((member_of_fitting (ker_shape w p.1 g) xs v fits (is_member v xs i.0), rest.0), (one_normal v xs i.0 norm, rest.1))

  pub picked_fits : (before : List ℕ) (c : Context) (sc : Scope) (g : Extent) (s t : State) (ps : List (ℕ × Ker)) (ms : List Kind) (vs : List Value) →
      Fitting how names m before c sc g s t → Asked names c m before ps → OfMembers ps ms → Picked (set_outcomes (Some w) s t ps sc) vs →
      Fitting how names m before (c ++ zip (numbers ps) ms) (picking ps vs sc) (bind_shapes (names_of (numbers ps)) (member_shapes w g ps) g) s t
  picked_fits before c sc g s t ps ms vs a h k q =
      let there = sets_there (set_outcomes (Some w) s t ps sc) q.members q.sound q.are_sets in
      let z = picks_fit before c sc g s t ps ms vs q.members a h k there q.are_in in
      let inner : List Shape = member_shapes w g ps in
      record {
        stands = record {
          types = more_types names c g (numbers ps) ms inner a.stands.types (as_many ps ms k) (of_kinds before c g ps ms a.stands h k);
          now = λ i l. still how i (a.stands.now i l);
          next = a.stands.next;
        };
        ready = bind_ready (names_of (numbers ps)) vs inner sc g s t z.0 a.ready;
        normal = bind_normal (names_of (numbers ps)) vs sc s t z.1 a.normal;
        one = a.one;
      }
    where
      still : (how : Assigns) (i : ℕ) → NowIs how m before g i → NowIs how m before (bind_shapes (names_of (numbers ps)) (member_shapes w g ps) g) i
      still in_next i n = n
      still in_state i n = n
