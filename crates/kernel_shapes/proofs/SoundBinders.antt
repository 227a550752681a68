-- Nodes that bind numbers: where their parts are of their types and sound, so is the node.
use Rattle.std.proofs.Common.{◌≡◌, ℕ, zero, suc, Bool, true, false, not, ◌&&◌, ◌||◌, nat_eq, IsTrue, List, [], ◌∷◌, ◌++◌, map, take, replicate, length, Some, None, pos, refl, sym, ◌∙◌, ap, subst, arith, if◌then◌else◌}
use Rattle.std.specs.List.{list_any}
use Rattle.tla_values.specs.Order.{Layer}
use Rattle.tla_values.specs.declared.value.Value.{Value}
use Rattle.tla_values.specs.declared.value.Value.TheOpen as layer
use Rattle.tla_meaning.specs.declared.place.Place.{Place}
use Rattle.tla_meaning.specs.Scopes.{same_text}
use Rattle.tla_meaning.proofs.Laws.{none≢some}
use Rattle.tla_meaning.proofs.Views.{and_left, and_right, and_both, false≢true}
use Rattle.kernel_trees.specs.declared.kernel.KerOp.{KerOp}
use Rattle.kernel_trees.specs.declared.kernel.KerOp.TheVariants as ker
use Rattle.kernel_trees.specs.Sound.{argument_kind, updated_kind}
use Rattle.kernel_trees.specs.TypeKinds as kind
use Rattle.kernel_trees.specs.TypeKinds.{Kind, Kinds, Fields, no_kinds, more_kinds, no_fields, more_fields, item_kind, field_kind, same}
use Rattle.kernel_trees.proofs.SoundRows.{BinderRow, row_some, row_every, row_filter, row_map, row_function}
use Rattle.kernel_shapes.specs.Shape.{Shape, Fun, Rec, Tup, Seq, Empty, Shapes, no_shapes, more_shapes, join, alike}
use Rattle.kernel_shapes.specs.Rows.{Literal, no_literal, row_shape, number, text, Row, a_truth, a_part, a_map, a_function, nth, insides, argument_of, applied_at, item_changed, field_changed, joined_at, reached_by}
use Rattle.kernel_shapes.specs.Sized.{Extent, Sized, Sizing, Seen, no_size, outside, underneath, shapes_of, all_sound, body, step, steps_sound, binder, sized, names_differ, is_once, goes_through}
use Rattle.kernel_shapes.specs.TypedStates.{EachOfKind, OfKind, OfKinds, OfFields, names_of_fields}
use Rattle.kernel_shapes.proofs.JoinRight.{text_is}
use Rattle.kernel_shapes.proofs.KindLaw.{text_itself, kinds_alike, join_kind, empty_kind, member_kind, tuple_kind}
use Rattle.kernel_shapes.proofs.Law.{but_last_end, last_end}
use Rattle.kernel_shapes.proofs.SoundRows.{NodeGood, item_there, field_there}
use Rattle.kernel_shapes.proofs.WellNamed.{well_named}

-- ---- sets and a body

abbrev pub evaluated : Extent → List Sizing → List Sized
evaluated g [] = []
evaluated g (z ∷ zs) = z g ∷ evaluated g zs

abbrev pub behind_sets : ℕ → List Bool
behind_sets n = replicate n false ++ true ∷ []

pub here_front : (zs : List Sizing) (z : Sizing) (g : Extent) → take (length zs) (outside (behind_sets (length zs)) (zs ++ z ∷ []) g) ≡ evaluated g zs
here_front [] z g = refl
here_front (y ∷ zs) z g = ap (λ (l : List Sized). y g ∷ l) (here_front zs z g)

pub here_size : (zs : List Sizing) (z : Sizing) (g : Extent) → length (outside (behind_sets (length zs)) (zs ++ z ∷ []) g) ≡ suc (length zs)
here_size [] z g = refl
here_size (y ∷ zs) z g = ap suc (here_size zs z g)

pub under_body : (zs : List Sizing) (z : Sizing) (g : Extent) → nth no_size (length zs) (underneath (behind_sets (length zs)) (zs ++ z ∷ []) g) ≡ z g
under_body [] z g = refl
under_body (y ∷ zs) z g = under_body zs z g

-- ---- the rows of binders

abbrev pub binder_row_of : KerOp → ℕ → Row
binder_row_of ker.Filter n = a_part
binder_row_of ker.MapOver n = a_map n
binder_row_of ker.FunOf n = a_function n
binder_row_of o n = a_truth

argument_fits_kind : (ms : List Kind) (as' : List Shape) → EachOfKind (map kind.Set ms) as' → OfKind (argument_kind ms) (argument_of as')
argument_fits_kind [] [] h = tt
argument_fits_kind [] (a ∷ as') h = absurd h
argument_fits_kind (m ∷ ms) [] h = absurd h
argument_fits_kind (m ∷ []) (a ∷ []) h = member_kind m a h.0
argument_fits_kind (m ∷ []) (a ∷ b ∷ as') h = absurd h.1
argument_fits_kind (m ∷ n ∷ ms) (a ∷ []) h = absurd h.1
argument_fits_kind (m ∷ n ∷ ms) (a ∷ b ∷ as') h = tuple_kind (m ∷ n ∷ ms) (insides (a ∷ b ∷ as')) (inside_kinds (m ∷ n ∷ ms) (a ∷ b ∷ as') h)
  where
    inside_kinds : (ms : List Kind) (as' : List Shape) → EachOfKind (map kind.Set ms) as' → EachOfKind ms (insides as')
    inside_kinds [] [] h = tt
    inside_kinds [] (a ∷ as') h = absurd h
    inside_kinds (m ∷ ms) [] h = absurd h
    inside_kinds (m ∷ ms) (a ∷ as') h = (member_kind m a h.0, inside_kinds ms as' h.1)

-- what is said of the sets and the body of a node with n names
pub record BinderParts (n : ℕ) (v : Seen) (ms : List Kind) (e : Kind) : Type 0 where
  pub kinds : EachOfKind (map kind.Set ms) (shapes_of (take n v.here))
  pub sounds : IsTrue (all_sound (take n v.here))
  pub body_kind : OfKind e (body n v).shape
  pub body_sound : IsTrue (body n v).sound
  pub names : n ≡ length (take n v.here)
  pub children : length v.here ≡ suc n

one_set : (a : Kind) (as' : List Sized) → EachOfKind (kind.Set a ∷ []) (shapes_of as') → length as' ≡ 1
one_set a [] h = absurd h
one_set a (x ∷ []) h = refl
one_set a (x ∷ y ∷ as') h = absurd h.1

equal_test : (m n : ℕ) → m ≡ n → IsTrue (nat_eq m n)
equal_test m n e = grind arith

both_sound : (n : ℕ) (v : Seen) (ms : List Kind) (e : Kind) → BinderParts n v ms e → IsTrue (all_sound (take n v.here) && (body n v).sound)
both_sound n v ms e h = and_both (all_sound (take n v.here)) (body n v).sound h.sounds h.body_sound

pub binder_good : (w : ℕ) (p : Place) (n : ℕ) (v : Seen) (o : KerOp) (a : Kind) (ms : List Kind) (e : Kind) → BinderRow o a ms e → BinderParts n v ms e →
    NodeGood (sized w p (binder n (binder_row_of o n)) v) a
binder_good w p n v _ _ _ _ (row_some ms) h = (tt, both_sound n v ms kind.Truth h)
binder_good w p n v _ _ _ _ (row_every ms) h = (tt, both_sound n v ms kind.Truth h)
binder_good w p n v _ _ _ _ (row_filter a) h =
    let one : n ≡ 1 = h.names ∙ one_set a (take n v.here) h.kinds in
    let two : length v.here ≡ 2 = h.children ∙ ap suc one in (
      by (shapes_of (take n v.here)) (body n v).shape h.kinds,
      and_both (nat_eq n 1 && nat_eq (length v.here) 2) _ (and_both (nat_eq n 1) (nat_eq (length v.here) 2) (equal_test n 1 one) (equal_test (length v.here) 2 two))
          (both_sound n v (a ∷ []) kind.Truth h),
    )
  where
    by : (as' : List Shape) (b : Shape) → EachOfKind (kind.Set a ∷ []) as' → OfKind (kind.Set a) (row_shape w a_part no_literal (as' ++ b ∷ []))
    by [] b h = absurd h
    by (x ∷ []) b h = member_kind a x h.0
    by (x ∷ y ∷ as') b h = absurd h.1
binder_good w p n v _ _ _ _ (row_map a ms) h =
    (subst (OfKind a) (sym (last_end (shapes_of (take n v.here)) (body n v).shape)) h.body_kind, both_sound n v ms a h)
binder_good w p n v _ _ _ _ (row_function ms b) h = (
  (
    subst (λ (as' : List Shape). OfKind (argument_kind ms) (argument_of as')) (sym (but_last_end (shapes_of (take n v.here)) (body n v).shape))
        (argument_fits_kind ms (shapes_of (take n v.here)) h.kinds),
    subst (OfKind b) (sym (last_end (shapes_of (take n v.here)) (body n v).shape)) h.body_kind,
  ),
  both_sound n v ms b h,
)

-- ---- the old value at an index, and the shape with a new one there

-- the literal that an index is, by its constant
abbrev pub IsConstant : Layer Value → Literal → Type 0
IsConstant (layer.Int n) l = l ≡ number n
IsConstant (layer.Text x) l = l ≡ text x
IsConstant x l = Unit {0}

none_turned : (x : List ℕ) (ys : List (List ℕ)) → IsTrue (not (list_any (λ z. same_text z x) ys)) → IsTrue (not (list_any (same_text x) ys))
none_turned x [] h = refl
none_turned x (y ∷ ys) h = by (same_text x y) refl (same_text y x) refl h (none_turned x ys)
  where
    by : (b : Bool) → same_text x y ≡ b → (c : Bool) → same_text y x ≡ c → IsTrue (not (c || list_any (λ z. same_text z x) ys)) →
        (IsTrue (not (list_any (λ z. same_text z x) ys)) → IsTrue (not (list_any (same_text x) ys))) → IsTrue (not (b || list_any (same_text x) ys))
    by b e true f k r = absurd (false≢true k)
    by false e false f k r = r k
    by true e false f k r =
        let s : IsTrue (same_text y x) = subst (λ (z : List ℕ). IsTrue (same_text z x)) (text_is x y e) (text_itself x) in
        absurd (false≢true (sym f ∙ s))

once_from : (x : List ℕ) (ys : List (List ℕ)) → IsTrue (list_any (same_text x) ys) → IsTrue (names_differ ys) → IsTrue (is_once x ys)
once_from x [] h k = absurd (false≢true h)
once_from x (y ∷ ys) h k = by (same_text x y) refl h (λ l. once_from x ys l (and_right fresh (names_differ ys) k))
  where
    fresh : Bool
    fresh = not (list_any (λ z. same_text z y) ys)

    by : (b : Bool) → same_text x y ≡ b → IsTrue (b || list_any (same_text x) ys) → (IsTrue (list_any (same_text x) ys) → IsTrue (is_once x ys)) →
        IsTrue (if b then not (list_any (same_text x) ys) else is_once x ys)
    by true e l r = none_turned x ys (subst (λ (z : List ℕ). IsTrue (not (list_any (λ u. same_text u z) ys))) (sym (text_is x y e)) (and_left fresh (names_differ ys) k))
    by false e l r = r l

names_are_fields : (fs : Fields) (xs : List (List ℕ)) (as' : Shapes) → OfFields fs xs as' → names_of_fields fs ≡ xs
names_are_fields no_fields [] no_shapes h = refl
names_are_fields (more_fields y k fs) (x ∷ xs) (more_shapes a as') h = both_same y x h.0 (names_are_fields fs xs as' h.2)
  where
    both_same : (y x : List ℕ) → y ≡ x → names_of_fields fs ≡ xs → y ∷ names_of_fields fs ≡ x ∷ xs
    both_same y x e f = λ i. e i ∷ f i
names_are_fields no_fields [] (more_shapes a as') h = absurd h
names_are_fields no_fields (x ∷ xs) as' h = absurd h
names_are_fields (more_fields y k fs) [] as' h = absurd h
names_are_fields (more_fields y k fs) (x ∷ xs) no_shapes h = absurd h

item_put_kind : (ks : Kinds) (n : ℕ) (d : Kind) (as' : Shapes) (new : Shape) → item_kind ks (suc n) ≡ Some d → OfKinds ks as' → OfKind d new →
    OfKinds ks (item_changed (suc n) (joined_at [] new) as')
item_put_kind no_kinds n d as' new e h k = absurd (none≢some e)
item_put_kind (more_kinds j ks) n d no_shapes new e h k = absurd h
item_put_kind (more_kinds j ks) zero d (more_shapes a as') new e h k = (join_kind j a new h.0 (subst (λ (i : Kind). OfKind i new) (sym (some_same e)) k), h.1)
  where
    some_same : {x y : Kind} → Some x ≡ Some y → x ≡ y
    some_same q = cc
item_put_kind (more_kinds j ks) (suc n) d (more_shapes a as') new e h k = (h.0, item_put_kind ks n d as' new e h.1 k)

field_put_kind : (fs : Fields) (x : List ℕ) (d : Kind) (xs : List (List ℕ)) (as' : Shapes) (new : Shape) → field_kind fs x ≡ Some d → OfFields fs xs as' → OfKind d new →
    OfFields fs xs (field_changed x (joined_at [] new) xs as')
field_put_kind no_fields x d xs as' new e h k = absurd (none≢some e)
field_put_kind (more_fields y j fs) x d (z ∷ zs) (more_shapes a as') new e h k =
    by (same_text x z) (subst (λ (u : List ℕ). (if same_text x u then Some j else field_kind fs x) ≡ Some d) h.0 e) (λ q. field_put_kind fs x d zs as' new q h.2 k)
  where
    some_same : {x y : Kind} → Some x ≡ Some y → x ≡ y
    some_same q = cc

    by : (b : Bool) → (if b then Some j else field_kind fs x) ≡ Some d → (field_kind fs x ≡ Some d → OfFields fs zs (field_changed x (joined_at [] new) zs as')) →
        OfFields (more_fields y j fs) (z ∷ zs) (if b then more_shapes (join a new) as' else more_shapes a (field_changed x (joined_at [] new) zs as'))
    by true q r = (h.0, join_kind j a new h.1 (subst (λ (i : Kind). OfKind i new) (sym (some_same q)) k), h.2)
    by false q r = (h.0, h.1, r q)
field_put_kind (more_fields y j fs) x d [] as' new e h k = absurd h
field_put_kind (more_fields y j fs) x d (z ∷ zs) no_shapes new e h k = absurd h

-- a shape of the type, an index and a new shape of the type at the index
pub record Updated (a d : Kind) (s : Shape) (l : Literal) : Type 0 where
  pub through : IsTrue (goes_through s l)
  pub old : OfKind d (applied_at s l)
  pub new : (b : Shape) → OfKind d b → OfKind a (joined_at (l ∷ []) b s)

some_is : {x y : Kind} → Some x ≡ Some y → x ≡ y
some_is q = cc

if_some : (b : Bool) (x y : Kind) → (if b then Some x else None) ≡ Some y → x ≡ y
if_some true x y e = some_is e
if_some false x y e = absurd (none≢some e)

pub updated_good : (a j d : Kind) (x : Layer Value) (l : Literal) (s : Shape) → updated_kind a j x ≡ Some d → IsConstant x l → IsTrue (well_named a) → OfKind a s → Updated a d s l
updated_good (kind.Fun a b) j d x l s e c n h =
    subst (λ (i : Kind). Updated (kind.Fun a b) i s l) (if_some (same a j) b d e) (by s h)
  where
    by : (s : Shape) → OfKind (kind.Fun a b) s → Updated (kind.Fun a b) b s l
    by (Fun n q r) h = record { through = refl; old = h.1; new = λ new k. (h.0, join_kind b r new h.1 k) }
    by Empty h = record { through = refl; old = empty_kind b; new = λ new k. tt }
    by s h = absurd h
updated_good (kind.Seq a) kind.Number d x l s e c n h =
    subst (λ (i : Kind). Updated (kind.Seq a) i s l) (some_is e) (by s h)
  where
    by : (s : Shape) → OfKind (kind.Seq a) s → Updated (kind.Seq a) a s l
    by (Seq n q) h = record { through = refl; old = h; new = λ new k. join_kind a q new h k }
    by Empty h = record { through = refl; old = empty_kind a; new = λ new k. tt }
    by s h = absurd h
updated_good (kind.Tup ks) kind.Number d (layer.Int (pos i)) l s e c n h =
    subst (Updated (kind.Tup ks) d s) (sym c) (by i s e h)
  where
    no_item : (ks : Kinds) → item_kind ks zero ≡ Some d → ⊥
    no_item no_kinds q = none≢some q
    no_item (more_kinds k ks) q = none≢some q

    by : (i : ℕ) (s : Shape) → item_kind ks i ≡ Some d → OfKind (kind.Tup ks) s → Updated (kind.Tup ks) d s (number (pos i))
    by zero s q h = absurd (no_item ks q)
    by (suc i) (Tup as') q h = record { through = refl; old = item_there ks (suc i) d as' q h; new = λ new k. item_put_kind ks i d as' new q h k }
    by (suc i) Empty q h = record { through = refl; old = empty_kind d; new = λ new k. tt }
    by (suc i) s q h = absurd h
updated_good (kind.Rec fs) (kind.Word y) d (layer.Text x) l s e c n h =
    subst (Updated (kind.Rec fs) d s) (sym c) (by s h)
  where
    by : (s : Shape) → OfKind (kind.Rec fs) s → Updated (kind.Rec fs) d s (text x)
    by (Rec xs as') h =
        let z = field_there fs x d xs as' e h in
        let differ : IsTrue (names_differ (names_of_fields fs)) = and_left (names_differ (names_of_fields fs)) _ n in
        record {
          through = once_from x xs z.1 (subst (λ (ys : List (List ℕ)). IsTrue (names_differ ys)) (names_are_fields fs xs as' h) differ);
          old = z.0;
          new = λ new k. field_put_kind fs x d xs as' new e h k;
        }
    by Empty h = record { through = refl; old = empty_kind d; new = λ new k. tt }
    by s h = absurd h
updated_good a j d x l s e c n h = absurd (none≢some e)

-- ---- folds

-- where each step keeps the type and is sound
pub reached_kind : (a : Kind) (f : Shape → Shape) → ((s : Shape) → OfKind a s → OfKind a (f s)) → (n : ℕ) (s : Shape) → OfKind a s → OfKind a (reached_by n f s)
reached_kind a f k zero s h = h
reached_kind a f k (suc n) s h = join_kind a s (reached_by n f (f s)) h (reached_kind a f k n (f s) (k s h))

pub steps_good : (a : Kind) (v : Seen) → ((s : Shape) → OfKind a s → OfKind a (step v s).shape × IsTrue (step v s).sound) → (n : ℕ) (s : Shape) → OfKind a s → IsTrue (steps_sound n v s)
steps_good a v k zero s h = refl
steps_good a v k (suc n) s h =
    let z = k s h in
    let rest : Shape = reached_by n (λ b. (step v b).shape) (step v s).shape in
    and_both (step v s).sound _ z.1 (and_both (alike s rest) _
    (kinds_alike a s rest h (reached_kind a (λ b. (step v b).shape) (λ b l. (k b l).0) n (step v s).shape z.0)) (steps_good a v k n (step v s).shape z.0))
