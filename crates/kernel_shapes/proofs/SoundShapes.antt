-- A sound kernel tree has a shape of its type, and what is computed of it is sound, where the names that it reads have shapes
-- of their types.
use Rattle.std.proofs.Common.{◌≡◌, ℕ, zero, suc, Bool, true, false, not, ◌&&◌, ◌||◌, nat_eq, IsTrue, List, [], ◌∷◌, ◌++◌, map, zip, take, length, Option, Some, None, refl, sym, ◌∙◌, ap, subst, arith, if◌then◌else◌}
use Rattle.std.specs.Prelude.{slice_get, option_and_then, is_some}
use Rattle.std.specs.List.{list_any}
use Rattle.std.proofs.lemmas.List.{length-map}
use Rattle.tla_values.specs.Order.{Layer}
use Rattle.tla_values.specs.declared.value.Value.{Value, out-Value}
use Rattle.tla_values.specs.declared.value.Value.TheOpen as layer
use Rattle.tla_meaning.specs.declared.place.Place.{Place}
use Rattle.tla_meaning.specs.declared.job.State.{State}
use Rattle.tla_meaning.specs.Scopes.{Scope, same_text, or_else, find_last}
use Rattle.tla_meaning.proofs.Laws.{none≢some}
use Rattle.tla_meaning.proofs.Views.{and_both, false≢true}
use Rattle.kernel_trees.specs.declared.kernel.Ker.{Ker, roll-Ker, out-Ker, out-roll-Ker}
use Rattle.kernel_trees.specs.declared.kernel.Ker.TheOpen.{Ker-F}
use Rattle.kernel_trees.specs.declared.kernel.KerOp.{KerOp}
use Rattle.kernel_trees.specs.declared.kernel.KerOp.TheVariants as ker
use Rattle.kernel_trees.specs.Paths.{Marks, mentions, mentions_at}
use Rattle.kernel_trees.specs.Sound.{Context, kind_at, kind_in, literal_of, form_child, sound}
use Rattle.kernel_trees.specs.Trees.{op_of, number_name, names_of, constant}
use Rattle.kernel_trees.specs.TypeKinds as kind
use Rattle.kernel_trees.specs.TypeKinds.{Kind, kind_of}
use Rattle.kernel_trees.proofs.Reading.{nat_same}
use Rattle.kernel_trees.proofs.SoundRows.{Row, row_const, row_nocase, row_range, row_item, BinderRow, row_some, row_every, row_filter, row_map, row_function}
use Rattle.kernel_trees.proofs.SoundTrees.{Child, Children, Sets, Node, node_name, node_bound, node_plain, node_bounded, node_binder, node_update, node_fold, sound_step}
use Rattle.kernel_trees.proofs.Trees.{Each, by_nodes, mentions-roll}
use Rattle.kernel_shapes.specs.Shape.{Shape, inside, count, alike}
use Rattle.kernel_shapes.specs.Rows.{nth, insides, applied_at}
use Rattle.kernel_shapes.specs.Sized.{Extent, Sized, Sizing, Seen, found, bound_shapes, bind_shapes, outside, seen, shapes_of, all_sound, body, step, is_sequence, goes_through}
use Rattle.kernel_shapes.specs.Trees.{first_kind, read_shape, sized_node}
use Rattle.kernel_shapes.specs.Kernel.{operand_kinds, kind_or_truth, kinds_in, ker_sized}
use Rattle.kernel_shapes.specs.TypedStates.{EachOfKind, OfKind}
use Rattle.kernel_shapes.specs.TypedExtents.{NamesOfKinds, BoundOfKinds, OfTypes, without_shape}
use Rattle.kernel_shapes.specs.Laws.{HasSoundShape, KernelFitsItsShape}
use Rattle.kernel_shapes.proofs.JoinRight.{text_is}
use Rattle.kernel_shapes.proofs.KernelLaw.{each_kernel_value_fits}
use Rattle.kernel_shapes.proofs.KernelNodes.{node_sizing, ker_parts, first_kinds, firsts, ker_sized-roll, first_of_kinds}
use Rattle.kernel_shapes.proofs.KindLaw.{text_itself, kinds_alike, member_kind, place_kind, seq_is}
use Rattle.kernel_shapes.proofs.SoundBinders.{evaluated, behind_sets, here_front, here_size, under_body, BinderParts, binder_good, IsConstant, Updated, updated_good, reached_kind, steps_good}
use Rattle.kernel_shapes.proofs.SoundRows.{Good, Goods, no_goods, more_goods, node_at, NodeGood, plain_good}
use Rattle.kernel_shapes.proofs.WellNamed.{well_named, kind_named}

-- ---- names

names_kind : (ks : List Kind) (os : List (Option Shape)) (i : ℕ) (a : Kind) → NamesOfKinds ks os → slice_get ks i ≡ Some a →
    OfKind a (found (option_and_then (λ o. o) (slice_get os i)))
names_kind [] [] i a h e = absurd (none≢some e)
names_kind [] (o ∷ os) i a h e = absurd h
names_kind (k ∷ ks) [] i a h e = absurd h
names_kind (k ∷ ks) (None ∷ os) zero a h e = tt
names_kind (k ∷ ks) (Some b ∷ os) zero a h e = subst (λ (j : Kind). OfKind j b) (same e) h.0
  where
    same : {x y : Kind} → Some x ≡ Some y → x ≡ y
    same q = cc
names_kind (k ∷ ks) (None ∷ os) (suc i) a h e = names_kind ks os i a h e
names_kind (k ∷ ks) (Some b ∷ os) (suc i) a h e = names_kind ks os i a h.1 e

there : (b : Bool) → not b ≡ false → IsTrue b
there true e = refl
there false e = absurd (false≢true (sym e))

-- what is read of a bound number on both sides
abbrev FoundOf : Option Kind → Option Shape → Type 0
FoundOf None None = Unit {0}
FoundOf (Some k) (Some a) = OfKind k a
FoundOf None (Some a) = ⊥
FoundOf (Some k) None = ⊥

else_of : (o o' : Option Kind) (q q' : Option Shape) → FoundOf o q → FoundOf o' q' → FoundOf (or_else o o') (or_else q q')
else_of None o' None q' h k = k
else_of None o' (Some a) q' h k = absurd h
else_of (Some v) o' (Some a) q' h k = h
else_of (Some v) o' None q' h k = absurd h

test_of : (b : Bool) (k : Kind) (a : Shape) → OfKind k a → FoundOf (if b then Some k else None) (if b then Some a else None)
test_of true k a h = h
test_of false k a h = tt

-- two numbers are one where their names are
same_numbers : (m n : ℕ) → same_text (number_name m) (number_name n) ≡ nat_eq m n
same_numbers m n = by (nat_eq m n) refl (same_text (number_name m) (number_name n)) refl
  where
    nat_is : (m n : ℕ) → nat_eq m n ≡ true → m ≡ n
    nat_is m n e = grind arith

    heads : {x y : ℕ} → x ∷ [] ≡ y ∷ [] → x ≡ y
    heads e = cc

    by : (b : Bool) → nat_eq m n ≡ b → (c : Bool) → same_text (number_name m) (number_name n) ≡ c → c ≡ b
    by true e true f = refl
    by false e false f = refl
    by true e false f =
        let s : same_text (number_name m) (number_name n) ≡ true = subst (λ (k : ℕ). same_text (number_name m) (number_name k) ≡ true) (nat_is m n e) (text_itself (number_name m)) in
        absurd (false≢true (sym f ∙ s))
    by false e true f =
        let s : nat_eq m n ≡ true = subst (λ (k : ℕ). nat_eq m k ≡ true) (heads (text_is (number_name m) (number_name n) f)) (nat_same m) in
        absurd (false≢true (sym e ∙ s))

bound_lookup : (c : Context) (bs : List (List ℕ × Shape)) (n : ℕ) → BoundOfKinds c bs → FoundOf (kind_in c n) (find_last (number_name n) bs)
bound_lookup [] [] n h = tt
bound_lookup [] (b ∷ bs) n h = absurd h
bound_lookup (e ∷ c) [] n h = absurd h
bound_lookup (e ∷ c) (b ∷ bs) n h =
    else_of (kind_in c n) (if nat_eq n e.0 then Some e.1 else None) (find_last (number_name n) bs) (if same_text (number_name n) b.0 then Some b.1 else None)
    (bound_lookup c bs n h.2)
    (subst (λ (x : List ℕ). FoundOf (if nat_eq n e.0 then Some e.1 else None) (if same_text (number_name n) x then Some b.1 else None)) h.0
    (subst (λ (t : Bool). FoundOf (if nat_eq n e.0 then Some e.1 else None) (if t then Some b.1 else None)) (sym (same_numbers n e.0)) (test_of (nat_eq n e.0) e.1 b.1 h.1)))

found_there : (o : Option Kind) (q : Option Shape) (a : Kind) → FoundOf o q → o ≡ Some a → OfKind a (found q) × IsTrue (is_some q)
found_there None None a h e = absurd (none≢some e)
found_there None (Some b) a h e = absurd h
found_there (Some k) None a h e = absurd h
found_there (Some k) (Some b) a h e = (subst (λ (j : Kind). OfKind j b) (same e) h, refl)
  where
    same : {x y : Kind} → Some x ≡ Some y → x ≡ y
    same q = cc

-- ---- contexts

bound_more : (c d : Context) (bs ds : List (List ℕ × Shape)) → BoundOfKinds c bs → BoundOfKinds d ds → BoundOfKinds (c ++ d) (bs ++ ds)
bound_more [] d [] ds h k = k
bound_more [] d (b ∷ bs) ds h k = absurd h
bound_more (e ∷ c) d [] ds h k = absurd h
bound_more (e ∷ c) d (b ∷ bs) ds h k = (h.0, h.1, bound_more c d bs ds h.2 k)

bound_zip : (xs : List ℕ) (ms : List Kind) (as' : List Shape) → length xs ≡ length ms → EachOfKind ms as' → BoundOfKinds (zip xs ms) (bound_shapes (names_of xs) as')
bound_zip [] ms as' e h = tt
bound_zip (x ∷ xs) [] as' e h = absurd (uneven (length xs) e)
  where
    uneven : (n : ℕ) → suc n ≡ 0 → ⊥
    uneven n q = omega (arith, q)
bound_zip (x ∷ xs) (m ∷ ms) [] e h = absurd h
bound_zip (x ∷ xs) (m ∷ ms) (a ∷ as') e h = (refl, h.0, bound_zip xs ms as' (less (length xs) (length ms) e) h.1)
  where
    less : (m n : ℕ) → suc m ≡ suc n → m ≡ n
    less m n e = omega (arith, e)

pub more_types : (names : List Kind) (c : Context) (g : Extent) (xs : List ℕ) (ms : List Kind) (as' : List Shape) → OfTypes names c g → length xs ≡ length ms → EachOfKind ms as' →
    OfTypes names (c ++ zip xs ms) (bind_shapes (names_of xs) as' g)
more_types names c g xs ms as' r e h = record {
  now = r.now;
  next = r.next;
  bound = bound_more c (zip xs ms) g.bound (bound_shapes (names_of xs) as') r.bound (bound_zip xs ms as' e h);
}

-- ---- what is said of a tree

abbrev pub Typing : ℕ → Ker → Type 0
Typing w k = (names : List Kind) (c : Context) (b : Bool) (g : Extent) (a : Kind) → sound names k c b ≡ true → OfTypes names c g →
    mentions (without_shape g) k ≡ false → kind_at k ≡ Some a → Good g a (ker_sized w k)

any_first : (a b : Bool) → (a || b) ≡ false → a ≡ false
any_first true b e = absurd (false≢true (sym e))
any_first false b e = refl

any_rest : (a b : Bool) → (a || b) ≡ false → b ≡ false
any_rest true b e = absurd (false≢true (sym e))
any_rest false b e = e

abbrev any_of : Marks → List Ker → Bool
any_of m ks = list_any (λ b. b) (map (mentions m) ks)

any_front : (m : Marks) (ks : List Ker) (k : Ker) → any_of m (ks ++ k ∷ []) ≡ false → (any_of m ks ≡ false) × (mentions m k ≡ false)
any_front m [] k e = (refl, any_first (mentions m k) false e)
any_front m (j ∷ ks) k e =
    let r = any_front m ks k (any_rest (mentions m j) _ e) in
    (ap (λ (b : Bool). b || any_of m ks) (any_first (mentions m j) _ e) ∙ r.0, r.1)

module _ (w : ℕ) (names : List Kind) where
  -- a child by its kind
  child_good : (c : Context) (b : Bool) (g : Extent) (a : Kind) (k : Ker) → Typing w k → OfTypes names c g → Child names c b a k → mentions (without_shape g) k ≡ false → Good g a (ker_sized w k)
  child_good c b g a k t r h m = t names c b g a h.1 r m h.0

  children_good : (o : KerOp) (n : ℕ) (c : Context) (b : Bool) (g : Extent) (ks : List Ker) (as' : List Kind) → Each (Typing w) ks → OfTypes names c g → Children names o n c b ks as' →
      any_of (without_shape g) ks ≡ false → Goods g as' (map (ker_sized w) ks)
  children_good o n c b g [] [] t r h m = no_goods
  children_good o n c b g [] (a ∷ as') t r h m = absurd h
  children_good o n c b g (k ∷ ks) [] t r h m = absurd h
  children_good o n c b g (k ∷ ks) (a ∷ as') t r h m =
      more_goods {k = a} (child_good c (form_child o n b) g a k t.0 r h.0 (any_first (mentions (without_shape g) k) _ m))
      (children_good o (suc n) c b g ks as' t.1 r h.1 (any_rest (mentions (without_shape g) k) _ m))

  sets_good : (c : Context) (g : Extent) (ks : List Ker) (ms : List Kind) → Each (Typing w) ks → OfTypes names c g → Sets names c ks ms → any_of (without_shape g) ks ≡ false →
      EachOfKind (map kind.Set ms) (shapes_of (evaluated g (map (ker_sized w) ks))) × IsTrue (all_sound (evaluated g (map (ker_sized w) ks)))
  sets_good c g [] [] t r h m = (tt, refl)
  sets_good c g [] (a ∷ as') t r h m = absurd h
  sets_good c g (k ∷ ks) [] t r h m = absurd h
  sets_good c g (k ∷ ks) (a ∷ as') t r h m =
      let one = child_good c false g (kind.Set a) k t.0 r h.0 (any_first (mentions (without_shape g) k) _ m) in
      let rest = sets_good c g ks as' t.1 r h.1 (any_rest (mentions (without_shape g) k) _ m) in
      ((one.0, rest.0), and_both (ker_sized w k g).sound _ one.1 rest.1)

  sets_many : (c : Context) (ks : List Ker) (ms : List Kind) → Sets names c ks ms → length ks ≡ length ms
  sets_many c [] [] h = refl
  sets_many c [] (a ∷ as') h = absurd h
  sets_many c (k ∷ ks) [] h = absurd h
  sets_many c (k ∷ ks) (a ∷ as') h = ap suc (sets_many c ks as' h.1)

-- the kinds of the members of sets
members_of_sets : (ms : List Kind) (as' : List Sized) → EachOfKind (map kind.Set ms) (shapes_of as') → EachOfKind ms (insides (shapes_of as'))
members_of_sets [] [] h = tt
members_of_sets [] (a ∷ as') h = absurd h
members_of_sets (m ∷ ms) [] h = absurd h
members_of_sets (m ∷ ms) (a ∷ as') h = (member_kind m a.shape h.0, members_of_sets ms as' h.1)

-- ---- the literal of a constant

literal_of_constant : (w : ℕ) (p : Place) (xs : List (List ℕ)) (ps : List Bool) (a : Kind) (ks : List Kind) (g : Extent) (l : Layer Value) →
    IsConstant l (sized_node w p (constant l) xs ps a ks [] g).literal
literal_of_constant w p xs ps a ks g (layer.Int n) = refl
literal_of_constant w p xs ps a ks g (layer.Text t) = refl
literal_of_constant w p xs ps a ks g (layer.Bool b) = tt
literal_of_constant w p xs ps a ks g (layer.Set vs) = tt
literal_of_constant w p xs ps a ks g (layer.Fun vs) = tt

ker_literal : (w : ℕ) (g : Extent) (k : Ker) → IsConstant (literal_of (out-Ker k).op) (ker_sized w k g).literal
ker_literal w g = by_nodes (λ k. IsConstant (literal_of (out-Ker k).op) (ker_sized w k g).literal) (λ x h.
    subst (λ (z : Sizing). IsConstant (literal_of (out-Ker (roll-Ker x)).op) (z g).literal) (sym (ker_sized-roll w x))
    (subst (λ (y : Ker-F Ker). IsConstant (literal_of y.op) (node_sizing w x g).literal) (sym (out-roll-Ker x))
    (by x.op x.place (names_of x.binds) (ker_parts x) (kind_or_truth (kind_of x.ty)) (first_kinds x) (map (ker_sized w) x.args))))
  where
    by : (o : KerOp) (p : Place) (xs : List (List ℕ)) (ps : List Bool) (a : Kind) (ks : List Kind) (zs : List Sizing) → IsConstant (literal_of o) (node_at w p xs ps o a ks zs g).literal
    by (ker.Const v) p xs ps a ks zs = literal_of_constant w p xs ps a ks g (out-Value v)
    by o p xs ps a ks zs = tt

-- ---- nodes

-- an operator with no numbers names the same trees, whatever it names
plain_names : (m : Marks) (o : KerOp) (a : Kind) (ns as' : List Kind) (c : Context) (b : Bool) (ks : List Ker) → Row o a as' → Children ns o 0 c b ks as' →
    mentions_at m o (map (mentions m) ks) ≡ false → any_of m ks ≡ false
plain_names m _ _ ns _ c b [] (row_const v a q) h e = refl
plain_names m _ _ ns _ c b (k ∷ ks) (row_const v a q) h e = absurd h
plain_names m _ _ ns _ c b [] (row_nocase a) h e = refl
plain_names m _ _ ns _ c b (k ∷ ks) (row_nocase a) h e = absurd h
plain_names m _ _ ns _ c b [] row_range h e = refl
plain_names m _ _ ns _ c b (k ∷ []) row_range h e = e
plain_names m _ _ ns _ c b (k ∷ j ∷ []) row_range h e = e
plain_names m _ _ ns _ c b (k ∷ j ∷ i ∷ ks) row_range h e = absurd h.1.1
plain_names m _ _ ns _ c b ks r h e = e

kind_there : (k : Ker) (a : Kind) → kind_at k ≡ Some a → first_kind (kinds_in k) ≡ a
kind_there = by_nodes (λ k. (a : Kind) → kind_at k ≡ Some a → first_kind (kinds_in k) ≡ a) (λ x h a e.
    first_of_kinds x ∙ ap kind_or_truth (sym (ap (λ (y : Ker-F Ker). kind_of y.ty) (out-roll-Ker x)) ∙ e))

first_same : (names : List Kind) (o : KerOp) (n : ℕ) (c : Context) (b : Bool) (ks : List Ker) (as' : List Kind) → Children names o n c b ks as' →
    nth kind.Truth 0 (firsts (map kinds_in ks)) ≡ nth kind.Truth 0 as'
first_same names o n c b [] [] h = refl
first_same names o n c b [] (a ∷ as') h = absurd h
first_same names o n c b (k ∷ ks) [] h = absurd h
first_same names o n c b (k ∷ ks) (a ∷ as') h = kind_there k a h.0.0

-- for operators whose operands are their children, and for those that read no types
operand_first : (names : List Kind) (o : KerOp) (a : Kind) (as' : List Kind) (c : Context) (b : Bool) (ks : List Ker) → Row o a as' → Children names o 0 c b ks as' →
    nth kind.Truth 0 (firsts (operand_kinds o (map kinds_in ks))) ≡ nth kind.Truth 0 as'
operand_first names _ _ _ c b ks (row_const v a q) h = refl
operand_first names _ _ _ c b ks (row_nocase a) h = refl
operand_first names _ _ _ c b [] row_range h = absurd h
operand_first names _ _ _ c b (k ∷ ks) row_range h = kind_there k kind.Number h.0.0
operand_first names _ _ _ c b [] (row_item i a as' e) h = absurd h
operand_first names _ _ _ c b (k ∷ ks) (row_item i a as' e) h = kind_there k (kind.Tup as') h.0.0
operand_first names o a as' c b ks r h = first_same names o 0 c b ks as' h

-- ---- the induction

-- what holds of a node's children
abbrev Below : ℕ → Ker-F Ker → Type 0
Below w x = Each (Typing w) x.args

each_split : (w : ℕ) (ks : List Ker) (k : Ker) → Each (Typing w) (ks ++ k ∷ []) → Each (Typing w) ks × Typing w k
each_split w [] k h = (tt, h.0)
each_split w (j ∷ ks) k h = let r = each_split w ks k h.1 in ((h.0, r.0), r.1)

mapped_plus : (w : ℕ) (ks : List Ker) (k : Ker) → map (ker_sized w) (ks ++ k ∷ []) ≡ map (ker_sized w) ks ++ ker_sized w k ∷ []
mapped_plus w [] k = refl
mapped_plus w (j ∷ ks) k = ap (λ (zs : List Sizing). ker_sized w j ∷ zs) (mapped_plus w ks k)

-- the sets and the body of a binder
parts_of_binder : (w : ℕ) (read : Extent → Option Shape) (xs : List (List ℕ)) (g : Extent) (zs : List Sizing) (z : Sizing) (ms : List Kind) (e : Kind) (n : ℕ) → n ≡ length zs →
    EachOfKind (map kind.Set ms) (shapes_of (evaluated g zs)) → IsTrue (all_sound (evaluated g zs)) → Good (bind_shapes xs (insides (shapes_of (evaluated g zs))) g) e z →
    BinderParts n (seen read (behind_sets n) xs (zs ++ z ∷ []) g) ms e
parts_of_binder w read xs g zs z ms e n q h k l =
    subst (λ (i : ℕ). BinderParts i (seen read (behind_sets i) xs (zs ++ z ∷ []) g) ms e) (sym q)
    (record {
      kinds = subst (λ (as' : List Sized). EachOfKind (map kind.Set ms) (shapes_of as')) (sym (here_front zs z g)) h;
      sounds = subst (λ (as' : List Sized). IsTrue (all_sound as')) (sym (here_front zs z g)) k;
      body_kind = subst (λ (s : Sized). OfKind e s.shape) (sym same_body) l.0;
      body_sound = subst (λ (s : Sized). IsTrue s.sound) (sym same_body) l.1;
      names = sym (ap length (here_front zs z g) ∙ many zs);
      children = here_size zs z g;
    })
  where
    many : (zs : List Sizing) → length (evaluated g zs) ≡ length zs
    many [] = refl
    many (y ∷ zs) = ap suc (many zs)

    same_body : body (length zs) (seen read (behind_sets (length zs)) xs (zs ++ z ∷ []) g) ≡ z (bind_shapes xs (insides (shapes_of (evaluated g zs))) g)
    same_body =
        under_body zs z (bind_shapes xs (insides (shapes_of (take (length zs) (outside (behind_sets (length zs)) (zs ++ z ∷ []) g)))) g)
        ∙ ap (λ (as' : List Sized). z (bind_shapes xs (insides (shapes_of as')) g)) (here_front zs z g)

-- the node of a binder is that of its row
binder_node : (w : ℕ) (p : Place) (xs : List (List ℕ)) (ps : List Bool) (ks : List Kind) (zs : List Sizing) (g : Extent) (o : KerOp) (a : Kind) (ms : List Kind) (e : Kind) → BinderRow o a ms e →
    BinderParts (length xs) (seen (read_shape (op_of o)) (behind_sets (length xs)) xs zs g) ms e → NodeGood (node_at w p xs ps o a ks zs g) a
binder_node w p xs ps ks zs g _ _ _ _ (row_some ms) h = binder_good w p (length xs) _ ker.Some kind.Truth ms kind.Truth (row_some ms) h
binder_node w p xs ps ks zs g _ _ _ _ (row_every ms) h = binder_good w p (length xs) _ ker.Every kind.Truth ms kind.Truth (row_every ms) h
binder_node w p xs ps ks zs g _ _ _ _ (row_filter a) h = binder_good w p (length xs) _ ker.Filter (kind.Set a) (a ∷ []) kind.Truth (row_filter a) h
binder_node w p xs ps ks zs g _ _ _ _ (row_map a ms) h = binder_good w p (length xs) _ ker.MapOver (kind.Set a) ms a (row_map a ms) h
binder_node w p xs ps ks zs g _ _ _ _ (row_function ms b) h = binder_good w p (length xs) _ ker.FunOf _ ms b (row_function ms b) h

binder_names : (m : Marks) (o : KerOp) (a : Kind) (ms : List Kind) (e : Kind) (ks : List Ker) → BinderRow o a ms e → mentions_at m o (map (mentions m) ks) ≡ false → any_of m ks ≡ false
binder_names m _ _ _ _ ks (row_some ms) h = h
binder_names m _ _ _ _ ks (row_every ms) h = h
binder_names m _ _ _ _ ks (row_filter a) h = h
binder_names m _ _ _ _ ks (row_map a ms) h = h
binder_names m _ _ _ _ ks (row_function ms b) h = h

bool_and : (a b : Bool) → IsTrue a → IsTrue b → IsTrue (a && b)
bool_and a b h k = and_both a b h k

node_good : (w : ℕ) (names : List Kind) (c : Context) (b : Bool) (g : Extent) (p : Place) (ps : List Bool) (o : KerOp) (a : Kind) (xs : List ℕ) (ks : List Ker) →
    Node names c b o a xs ks → IsTrue (well_named a) → Each (Typing w) ks → OfTypes names c g → mentions_at (without_shape g) o (map (mentions (without_shape g)) ks) ≡ false →
    NodeGood (node_at w p (names_of xs) ps o a (firsts (operand_kinds o (map kinds_in ks))) (map (ker_sized w) ks) g) a
node_good w names c b g p ps _ _ _ _ (node_name i true a xs q) n t r m = (names_kind names g.next i a r.next q, there _ m)
node_good w names c b g p ps _ _ _ _ (node_name i false a xs q) n t r m = (names_kind names g.now i a r.now q, there _ m)
node_good w names c b g p ps _ _ _ _ (node_bound i a xs q) n t r m =
    found_there (kind_in c i) (find_last (number_name i) g.bound) a (bound_lookup c g.bound i r.bound) q
node_good w names c b g p ps _ _ _ _ (node_plain o a xs ks as' row h inf) n t r m =
    plain_good w p (names_of xs) ps g o a as' (firsts (operand_kinds o (map kinds_in ks))) (map (ker_sized w) ks) row
    (children_good w names o 0 c b g ks as' t r h (plain_names (without_shape g) o a names as' c b ks row h m)) (operand_first names o a as' c b ks row h) n
node_good w names c b g p ps _ _ _ _ (node_bounded xs x y l h cx cy bl bh) n t r m =
    let one = child_good w names c false g kind.Number x t.0 r cx (any_first (mentions (without_shape g) x) _ m) in
    let two = child_good w names c false g kind.Number y t.1.0 r cy (any_first (mentions (without_shape g) y) _ (any_rest (mentions (without_shape g) x) _ m)) in
    plain_good w p (names_of xs) ps g ker.Range (kind.Set kind.Number) (kind.Number ∷ kind.Number ∷ []) (firsts (operand_kinds ker.Range (map kinds_in (x ∷ y ∷ l ∷ h ∷ [])))) (ker_sized w x ∷ ker_sized w y ∷ []) row_range
    (more_goods {k = kind.Number} one (more_goods {k = kind.Number} two no_goods)) (kind_there x kind.Number cx.0) n
node_good w names c b g p ps _ _ _ _ (node_binder o a xs ks sets e ms d same many row hs hb) n t r m =
    let z : Each (Typing w) sets × Typing w e = each_split w sets e (subst (Each (Typing w)) same t) in
    let m1 : any_of (without_shape g) (sets ++ e ∷ []) ≡ false = subst (λ (js : List Ker). any_of (without_shape g) js ≡ false) same (binder_names (without_shape g) o a ms d ks row m) in
    let m2 = any_front (without_shape g) sets e m1 in
    let q = sets_good w names c g sets ms z.0 r hs m2.0 in
    let T : List Sized = evaluated g (map (ker_sized w) sets) in
    let inner : List Shape = insides (shapes_of T) in
    let g1 : Extent = bind_shapes (names_of xs) inner g in
    let kinds : EachOfKind ms inner = members_of_sets ms T q.0 in
    let r1 = more_types names c g xs ms inner r (sym many ∙ sets_many w names c sets ms hs) kinds in
    let body_good : Good g1 d (ker_sized w e) = child_good w names (c ++ zip xs ms) false g1 d e z.1 r1 hb m2.1 in
    let count_names : length (names_of xs) ≡ length (map (ker_sized w) sets) = length-map xs number_name ∙ sym many ∙ sym (length-map sets (ker_sized w)) in
    binder_node w p (names_of xs) ps _ (map (ker_sized w) ks) g o a ms d row
    (subst (λ (zs : List Sizing). BinderParts (length (names_of xs)) (seen (read_shape (op_of o)) (behind_sets (length (names_of xs))) (names_of xs) zs g) ms d)
    (sym (ap (map (ker_sized w)) same ∙ mapped_plus w sets e))
    (parts_of_binder w (read_shape (op_of o)) (names_of xs) g (map (ker_sized w) sets) (ker_sized w e) ms d (length (names_of xs)) count_names q.0 q.1 body_good))
node_good w names c b g p ps _ _ _ _ (node_update a x f i e j d cf ci q ce) n t r m =
    let m1 = any_first (mentions (without_shape g) f) _ m in
    let m2 = any_rest (mentions (without_shape g) f) _ m in
    let m3 = any_rest (mentions (without_shape g) i) _ m2 in
    let F = child_good w names c false g a f t.0 r cf m1 in
    let I = child_good w names c false g j i t.1.0 r ci (any_first (mentions (without_shape g) i) _ m2) in
    let u : Updated a d (ker_sized w f g).shape (ker_sized w i g).literal =
    updated_good a j d (literal_of (out-Ker i).op) (ker_sized w i g).literal (ker_sized w f g).shape q (ker_literal w g i) n F.0 in
    let s : Shape = applied_at (ker_sized w f g).shape (ker_sized w i g).literal in
    let g1 : Extent = bind_shapes (names_of (x ∷ [])) (s ∷ []) g in
    let r1 = more_types names c g (x ∷ []) (d ∷ []) (s ∷ []) r refl (u.old, tt) in
    let E : Good g1 d (ker_sized w e) = child_good w names (c ++ (x, d) ∷ []) false g1 d e t.1.1.0 r1 ce (any_first (mentions (without_shape g) e) false m3) in (
      u.new (ker_sized w e g1).shape E.0,
      bool_and (ker_sized w f g).sound _ F.1
          (bool_and ((ker_sized w i g).sound && true) _ (bool_and (ker_sized w i g).sound true I.1 refl)
          (bool_and (goes_through (ker_sized w f g).shape (ker_sized w i g).literal && true) _ (bool_and (goes_through (ker_sized w f g).shape (ker_sized w i g).literal) true u.through refl)
          (bool_and (ker_sized w e g1).sound _ E.1
          (bool_and (alike s (ker_sized w e g1).shape) true (kinds_alike d s (ker_sized w e g1).shape u.old E.0) refl)))),
    )
node_good w names c b g p ps _ _ _ _ (node_fold a x y e f q d ce cf cq) n t r m =
    let m1 = any_first (mentions (without_shape g) e) _ m in
    let m2 = any_rest (mentions (without_shape g) e) _ m in
    let m3 = any_rest (mentions (without_shape g) f) _ m2 in
    let F = child_good w names c false g a f t.1.0 r cf (any_first (mentions (without_shape g) f) _ m2) in
    let Q = child_good w names c false g (kind.Seq d) q t.1.1.0 r cq (any_first (mentions (without_shape g) q) false m3) in
    let item : Shape = inside (ker_sized w q g).shape in
    let v : Seen = seen (read_shape (op_of ker.FoldLeft)) (true ∷ []) (names_of (x ∷ y ∷ [])) (ker_sized w e ∷ ker_sized w f ∷ ker_sized w q ∷ []) g in
    let one : (s : Shape) → OfKind a s → OfKind a (step v s).shape × IsTrue (step v s).sound =
    λ s h. child_good w names (c ++ (x, a) ∷ (y, d) ∷ []) false (bind_shapes (names_of (x ∷ y ∷ [])) (s ∷ item ∷ []) g) a e t.0
    (more_types names c g (x ∷ y ∷ []) (a ∷ d ∷ []) (s ∷ item ∷ []) r refl (h, (place_kind d (ker_sized w q g).shape Q.0, tt))) ce m1 in (
      reached_kind a (λ s. (step v s).shape) (λ s h. (one s h).0) (count (ker_sized w q g).shape) (ker_sized w f g).shape F.0,
      bool_and ((ker_sized w f g).sound && ((ker_sized w q g).sound && true)) _
          (bool_and (ker_sized w f g).sound _ F.1 (bool_and (ker_sized w q g).sound true Q.1 refl))
          (bool_and (is_sequence (ker_sized w q g).shape) _ (seq_is d (ker_sized w q g).shape Q.0)
          (steps_good a v one (count (ker_sized w q g).shape) (ker_sized w f g).shape F.0)),
    )

-- THE LAW: the shape of a sound tree is of its type, and the tree joins shapes of one kind alone
pub sound_shapes : (w : ℕ) (k : Ker) → Typing w k
sound_shapes w = by_nodes (Typing w) (λ x t names c b g a h r m e.
    let s = sound_step names (roll-Ker x) c b h in
    let z : (d : Kind) × (kind_of x.ty ≡ Some d) × Node names c b x.op d x.binds x.args =
    subst (λ (y : Ker-F Ker). (d : Kind) × (kind_of y.ty ≡ Some d) × Node names c b y.op d y.binds y.args) (out-roll-Ker x) s in
    let typed : kind_of x.ty ≡ Some a = sym (ap (λ (y : Ker-F Ker). kind_of y.ty) (out-roll-Ker x)) ∙ e in
    let same : z.0 ≡ a = some_is (sym z.1 ∙ typed) in
    let node : Node names c b x.op a x.binds x.args = subst (λ (d : Kind). Node names c b x.op d x.binds x.args) same z.2 in
    let m1 : mentions_at (without_shape g) x.op (map (mentions (without_shape g)) x.args) ≡ false = sym (mentions-roll (without_shape g) x) ∙ m in
    let good : NodeGood (node_at w x.place (names_of x.binds) (ker_parts x) x.op a (first_kinds x) (map (ker_sized w) x.args) g) a =
    node_good w names c b g x.place (ker_parts x) x.op a x.binds x.args node (kind_named x.ty a typed) t r m1 in
    subst (λ (y : Sizing). Good g a y) (sym (ker_sized-roll w x))
    (subst (λ (d : Kind). NodeGood (node_at w x.place (names_of x.binds) (ker_parts x) x.op d (first_kinds x) (map (ker_sized w) x.args) g) a)
    (sym (ap kind_or_truth typed)) good))
  where
    some_is : {x y : Kind} → Some x ≡ Some y → x ≡ y
    some_is q = cc

names_none : (b : Bool) → IsTrue (not b) → b ≡ false
names_none true h = absurd (false≢true h)
names_none false h = refl

pub each_tree_has_a_sound_shape : (w : ℕ) (names : List Kind) (k : Ker) (c : Context) (b : Bool) (g : Extent) (a : Kind) → HasSoundShape w names k c b g a
each_tree_has_a_sound_shape w names k c b g a h r m e = sound_shapes w k names c b g a h r (names_none (mentions (without_shape g) k) m) e

-- the kind of a sound tree
kind_of_sound : (names : List Kind) (k : Ker) (c : Context) (b : Bool) → IsTrue (sound names k c b) → (a : Kind) × (kind_at k ≡ Some a)
kind_of_sound names k c b h = let z = sound_step names k c b h in (z.0, z.1)

pub each_sound_value_fits : (w : ℕ) (names : List Kind) (k : Ker) (c : Context) (b : Bool) (sc : Scope) (g : Extent) (s t : State) (v : Value) → KernelFitsItsShape w names k c b sc g s t v
each_sound_value_fits w names k c b sc g s t v wide h r m y is =
    let z = kind_of_sound names k c b h in
    each_kernel_value_fits w k sc g s t v wide y (each_tree_has_a_sound_shape w names k c b g z.0 h r m z.1).1 is
