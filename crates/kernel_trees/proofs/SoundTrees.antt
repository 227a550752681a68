-- What soundness says of a node and of its children, in one step.
use Rattle.std.proofs.Common.{◌≡◌, ℕ, zero, suc, Bool, true, false, not, ◌&&◌, ◌||◌, List, [], ◌∷◌, ◌++◌, zip, take, drop, length, ℤ, refl, sym, ◌∙◌, ap, ap₂, subst, Option, Some, None, option_map, option_and_then}
use Rattle.std.specs.Prelude.{slice_get}
use Rattle.std.specs.List.{list_all}
use Rattle.tla_values.specs.Order.{Layer}
use Rattle.tla_values.specs.declared.value.Value.{Value}
use Rattle.tla_values.specs.declared.value.Value.TheOpen as layer
use Rattle.tla_meaning.proofs.Laws.{none≢some}
use Rattle.tla_meaning.proofs.Views.{and_left, and_right, false≢true}
use Rattle.kernel_trees.specs.declared.kernel.Ker.{Ker, out-Ker}
use Rattle.kernel_trees.specs.declared.kernel.KerOp.{KerOp}
use Rattle.kernel_trees.specs.declared.kernel.KerOp.TheVariants as ker
use Rattle.kernel_trees.specs.TypeKinds.{Kind, Number, Set, Seq, is_kind, members}
use Rattle.kernel_trees.specs.Sound.{kind_at, Context, kind_in, passes, binder_row, row, is_infinite, form_child, Part, kinds_at, children, plain, binder_body, binder, literal_of, updated_kind, update, item_of, fold_left, is_number, is_bound, sound_at, sound}
use Rattle.kernel_trees.proofs.SoundNodes.{with_asked, sound_out}
use Rattle.kernel_trees.proofs.SoundRows.{Row, row_range, row_is, BinderRow, binder_is, AreSets, sets_of, found}

-- ---- options and tests

some_same : {X : Type 0} {x y : X} → Some x ≡ Some y → x ≡ y
some_same e = cc

-- what passes is there
passed : {X : Type 0} (test : X → Bool) (o : Option X) → passes test o ≡ true → (x : X) × (o ≡ Some x) × (test x ≡ true)
passed test None h = absurd (false≢true h)
passed test (Some x) h = (x, refl, h)

-- what comes of an option is there where that is
then_there : {X Y : Type 0} (f : X → Option Y) (o : Option X) (y : Y) → option_and_then f o ≡ Some y → (x : X) × (o ≡ Some x) × (f x ≡ Some y)
then_there f None y h = absurd (none≢some h)
then_there f (Some x) y h = (x, refl, h)

map_there : {X Y : Type 0} (f : X → Y) (o : Option X) (y : Y) → option_map f o ≡ Some y → (x : X) × (o ≡ Some x) × (f x ≡ y)
map_there f None y h = absurd (none≢some h)
map_there f (Some x) y h = (x, refl, some_same h)

-- ---- children

-- a child of this kind, sound in the context
abbrev pub Child : List Kind → Context → Bool → Kind → Ker → Type 0
Child names c b a k = (kind_at k ≡ Some a) × (sound names k c b ≡ true)

-- the children from number n on, each of its kind
abbrev pub Children : List Kind → KerOp → ℕ → Context → Bool → List Ker → List Kind → Type 0
Children names o n c b [] [] = Unit {0}
Children names o n c b [] (a ∷ as') = ⊥
Children names o n c b (k ∷ ks) [] = ⊥
Children names o n c b (k ∷ ks) (a ∷ as') = Child names c (form_child o n b) a k × Children names o (suc n) c b ks as'

-- sets of these kinds of members
abbrev pub Sets : List Kind → Context → List Ker → List Kind → Type 0
Sets names c [] [] = Unit {0}
Sets names c [] (m ∷ ms) = ⊥
Sets names c (k ∷ ks) [] = ⊥
Sets names c (k ∷ ks) (m ∷ ms) = Child names c false (Set m) k × Sets names c ks ms

-- a number that bounds a range
pub record Bound (names : List Kind) (c : Context) (k : Ker) : Type 0 where
  pub child : Child names c false Number k
  pub number : ℤ
  pub literal : literal_of (out-Ker k).op ≡ layer.Int number

-- ---- nodes

pub data Node (names : List Kind) (c : Context) (b : Bool) : KerOp → Kind → List ℕ → List Ker → Type 0 where
  node_name : (i : ℕ) (primed : Bool) (a : Kind) (xs : List ℕ) → slice_get names i ≡ Some a →
      Node names c b (ker.Name i primed) a xs []
  node_bound : (n : ℕ) (a : Kind) (xs : List ℕ) → kind_in c n ≡ Some a → Node names c b (ker.Bound n) a xs []
  node_plain : (o : KerOp) (a : Kind) (xs : List ℕ) (ks : List Ker) (as' : List Kind) → Row o a as' → Children names o 0 c b ks as' →
      (is_infinite o ≡ true → b ≡ true) → Node names c b o a xs ks
  node_bounded : (xs : List ℕ) (x y l h : Ker) → Child names c false Number x → Child names c false Number y → Bound names c l → Bound names c h →
      Node names c b ker.Range (Set Number) xs (x ∷ y ∷ l ∷ h ∷ [])
  node_binder : (o : KerOp) (a : Kind) (xs : List ℕ) (ks sets : List Ker) (body : Ker) (ms : List Kind) (e : Kind) → ks ≡ sets ++ body ∷ [] →
      length sets ≡ length xs → BinderRow o a ms e → Sets names c sets ms → Child names (c ++ zip xs ms) false e body → Node names c b o a xs ks
  node_update : (a : Kind) (x : ℕ) (f i e : Ker) (j d : Kind) → Child names c false a f → Child names c false j i →
      updated_kind a j (literal_of (out-Ker i).op) ≡ Some d → Child names (c ++ (x, d) ∷ []) false d e →
      Node names c b ker.Update a (x ∷ []) (f ∷ i ∷ e ∷ [])
  node_fold : (a : Kind) (x y : ℕ) (e f q : Ker) (d : Kind) → Child names (c ++ (x, a) ∷ (y, d) ∷ []) false a e → Child names c false a f →
      Child names c false (Seq d) q → Node names c b ker.FoldLeft a (x ∷ y ∷ []) (e ∷ f ∷ q ∷ [])

module _ (names : List Kind) (c : Context) where
  abbrev parts : List Ker → List Part
  parts ks = with_asked names ks

  children_of : (o : KerOp) (n : ℕ) (b : Bool) (ks : List Ker) (as' : List Kind) → kinds_at (parts ks) ≡ Some as' → children o n c b (parts ks) ≡ true →
      Children names o n c b ks as'
  children_of o n b [] as' q h = subst (Children names o n c b []) (some_same q) tt
  children_of o n b (k ∷ ks) as' q h =
      let u = then_there (λ x. option_map (λ xs. x ∷ xs) (kinds_at (parts ks))) (kind_at k) as' q in
      let v = map_there (λ xs. u.0 ∷ xs) (kinds_at (parts ks)) as' u.2 in
      let s : Bool = sound names k c (form_child o n b) in
      let r : Bool = children o (suc n) c b (parts ks) in
      subst (Children names o n c b (k ∷ ks)) v.2
      ((u.1, and_left s r h), children_of o (suc n) b ks v.0 v.1 (and_right s r h))

  sets_sound : (ks : List Ker) (ms as' : List Kind) → kinds_at (parts ks) ≡ Some as' → AreSets as' ms → list_all (λ (k : Part). k.1 c false) (parts ks) ≡ true →
      Sets names c ks ms
  sets_sound [] [] as' q e h = tt
  sets_sound [] (m ∷ ms) as' q e h = absurd (no_cons (some_same q ∙ e))
    where
      no_cons : {x : Kind} {xs : List Kind} → [] ≡ x ∷ xs → ⊥
      no_cons e = cc
  sets_sound (k ∷ ks) ms as' q e h =
      by ms e (λ ns g. sets_sound ks ns v.0 v.1 g (and_right (sound names k c false) (list_all (λ (k : Part). k.1 c false) (parts ks)) h))
    where
      u : (x : Kind) × (kind_at k ≡ Some x) × (option_map (λ xs. x ∷ xs) (kinds_at (parts ks)) ≡ Some as')
      u = then_there (λ x. option_map (λ xs. x ∷ xs) (kinds_at (parts ks))) (kind_at k) as' q

      v : (xs : List Kind) × (kinds_at (parts ks) ≡ Some xs) × (u.0 ∷ xs ≡ as')
      v = map_there (λ xs. u.0 ∷ xs) (kinds_at (parts ks)) as' u.2

      heads : {x y : Kind} {xs ys : List Kind} → x ∷ xs ≡ y ∷ ys → x ≡ y
      heads e = cc

      tails : {x y : Kind} {xs ys : List Kind} → x ∷ xs ≡ y ∷ ys → xs ≡ ys
      tails e = cc

      no_nil : {x : Kind} {xs : List Kind} → x ∷ xs ≡ [] → ⊥
      no_nil e = cc

      by : (ms : List Kind) → AreSets as' ms → ((ns : List Kind) → AreSets v.0 ns → Sets names c ks ns) → Sets names c (k ∷ ks) ms
      by [] e rest = absurd (no_nil (v.2 ∙ e))
      by (m ∷ ms) e rest =
          let s : Bool = sound names k c false in
          let r : Bool = list_all (λ (k : Part). k.1 c false) (parts ks) in
          ((u.1 ∙ ap Some (heads (v.2 ∙ e)), and_left s r h), rest ms (tails (v.2 ∙ e)))

  -- ---- a node that binds nothing

  infinite_stands : (i b : Bool) → (not i || b) ≡ true → i ≡ true → b ≡ true
  infinite_stands true b h q = h
  infinite_stands false b h q = absurd (false≢true q)

  pub record Plain (b : Bool) (o : KerOp) (a : Kind) (ks : List Ker) : Type 0 where
    pub kinds : List Kind
    pub row : Row o a kinds
    pub children : Children names o 0 c b ks kinds
    pub infinite : is_infinite o ≡ true → b ≡ true

  plain_is : (b : Bool) (o : KerOp) (a : Kind) (ks : List Ker) → plain o a c b (parts ks) ≡ true → Plain b o a ks
  plain_is b o a ks h =
      let p : Bool = passes (row o a) (kinds_at (parts ks)) in
      let i : Bool = not (is_infinite o) || b in
      let r : Bool = children o 0 c b (parts ks) in
      let z = passed (row o a) (kinds_at (parts ks)) (and_left p i (and_left (p && i) r h)) in
      record {
        kinds = z.0;
        row = row_is o a z.0 z.2;
        children = children_of o 0 b ks z.0 z.1 (and_right (p && i) r h);
        infinite = infinite_stands (is_infinite o) b (and_right p i (and_left (p && i) r h));
      }

  plain_node : (b : Bool) (o : KerOp) (a : Kind) (xs : List ℕ) (ks : List Ker) → plain o a c b (parts ks) ≡ true → Node names c b o a xs ks
  plain_node b o a xs ks h = let z = plain_is b o a ks h in node_plain o a xs ks z.kinds z.row z.children z.infinite

  -- ---- a range with bounds

  number_of : (l : Layer Value) → is_number l ≡ true → (i : ℤ) × (l ≡ layer.Int i)
  number_of (layer.Int i) h = (i, refl)
  number_of l h = absurd (false≢true h)

  bound_of : (k : Ker) → is_bound c (k, sound names k) ≡ true → Bound names c k
  bound_of k h =
      let d : Bool = is_kind Number (kind_at k) in
      let e : Bool = is_number (literal_of (out-Ker k).op) in
      let s : Bool = sound names k c false in
      let n = number_of (literal_of (out-Ker k).op) (and_right d e (and_left (d && e) s h)) in
      record {
        child = (found Number (kind_at k) (and_left d e (and_left (d && e) s h)), and_right (d && e) s h);
        number = n.0;
        literal = n.1;
      }

  bounded_node : (b : Bool) (a : Kind) (xs : List ℕ) (x y l h : Ker) → Bound names c l → Bound names c h → Plain b ker.Range a (x ∷ y ∷ []) →
      Node names c b ker.Range a xs (x ∷ y ∷ l ∷ h ∷ [])
  bounded_node b a xs x y l h bl bh z = by z.row z.children
    where
      by : {a : Kind} {as' : List Kind} → Row ker.Range a as' → Children names ker.Range 0 c b (x ∷ y ∷ []) as' →
          Node names c b ker.Range a xs (x ∷ y ∷ l ∷ h ∷ [])
      by row_range g = node_bounded xs x y l h g.0 g.1.0 bl bh

  -- ---- binders

  split_at : (n : ℕ) (ks : List Ker) (k : Ker) → drop n ks ≡ k ∷ [] → ks ≡ take n ks ++ k ∷ []
  split_at zero ks k e = e
  split_at (suc n) [] k e = absurd (no_cons e)
    where
      no_cons : {x : Ker} {xs : List Ker} → [] ≡ x ∷ xs → ⊥
      no_cons e = cc
  split_at (suc n) (x ∷ ks) k e = ap (λ l. x ∷ l) (split_at n ks k e)

  front_length : (n : ℕ) (ks : List Ker) (k : Ker) → drop n ks ≡ k ∷ [] → length (take n ks) ≡ n
  front_length zero ks k e = refl
  front_length (suc n) [] k e = absurd (no_cons e)
    where
      no_cons : {x : Ker} {xs : List Ker} → [] ≡ x ∷ xs → ⊥
      no_cons e = cc
  front_length (suc n) (x ∷ ks) k e = ap suc (front_length n ks k e)

  parts_take : (n : ℕ) (ks : List Ker) → take n (parts ks) ≡ parts (take n ks)
  parts_take zero ks = refl
  parts_take (suc n) [] = refl
  parts_take (suc n) (k ∷ ks) = ap (λ (l : List Part). (k, sound names k) ∷ l) (parts_take n ks)

  parts_drop : (n : ℕ) (ks : List Ker) → drop n (parts ks) ≡ parts (drop n ks)
  parts_drop zero ks = refl
  parts_drop (suc n) [] = refl
  parts_drop (suc n) (k ∷ ks) = parts_drop n ks

  body_node : (b : Bool) (o : KerOp) (a : Kind) (xs : List ℕ) (ks : List Ker) (ms : List Kind) → Sets names c (take (length xs) ks) ms →
      (rest : List Ker) → drop (length xs) ks ≡ rest → binder_body o a xs c (parts rest) ms ≡ true → Node names c b o a xs ks
  body_node b o a xs ks ms g [] q h = absurd (false≢true h)
  body_node b o a xs ks ms g (k ∷ l ∷ rest) q h = absurd (false≢true h)
  body_node b o a xs ks ms g (k ∷ []) q h =
      let p : Bool = passes (binder_row o a ms) (kind_at k) in
      let s : Bool = sound names k (c ++ zip xs ms) false in
      let z = passed (binder_row o a ms) (kind_at k) (and_left p s h) in
      node_binder o a xs ks (take (length xs) ks) k ms z.0 (split_at (length xs) ks k q) (front_length (length xs) ks k q)
      (binder_is o a ms z.0 z.2) g (z.1, and_right p s h)

  binder_node : (b : Bool) (o : KerOp) (a : Kind) (xs : List ℕ) (ks : List Ker) → binder o a xs c (parts ks) ≡ true → Node names c b o a xs ks
  binder_node b o a xs ks h =
      let n : ℕ = length xs in
      let body : List Part → List Kind → Bool = λ ps. binder_body o a xs c ps in
      let all : List Part → Bool = λ ps. list_all (λ (k : Part). k.1 c false) ps in
      let kinds : List Part → Option (List Kind) = λ ps. option_and_then members (kinds_at ps) in
      let g : (all (parts (take n ks)) && passes (body (parts (drop n ks))) (kinds (parts (take n ks)))) ≡ true =
      sym (ap₂ (λ (f r : List Part). all f && passes (body r) (kinds f)) (parts_take n ks) (parts_drop n ks)) ∙ h in
      let s : Bool = all (parts (take n ks)) in
      let t : Bool = passes (body (parts (drop n ks))) (kinds (parts (take n ks))) in
      let z = passed (body (parts (drop n ks))) (kinds (parts (take n ks))) (and_right s t g) in
      let u = then_there members (kinds_at (parts (take n ks))) z.0 z.1 in
      body_node b o a xs ks z.0 (sets_sound (take n ks) z.0 u.0 u.1 (sets_of u.0 z.0 u.2) (and_left s t g)) (drop n ks) refl z.2

  -- ---- updates and folds

  update_node : (b : Bool) (a : Kind) (xs : List ℕ) (ks : List Ker) → update a xs c (parts ks) ≡ true → Node names c b ker.Update a xs ks
  update_node b a (x ∷ []) (f ∷ i ∷ e ∷ []) h =
      let j : Bool = is_kind a (kind_at f) in
      let s : Bool = sound names f c false in
      let t : Bool = sound names i c false in
      let new : Kind → Bool = λ d. is_kind d (kind_at e) && sound names e (c ++ (x, d) ∷ []) false in
      let old : Option Kind = option_and_then (λ k. updated_kind a k (literal_of (out-Ker i).op)) (kind_at i) in
      let front : (j && (s && t)) ≡ true = and_left (j && (s && t)) (passes new old) h in
      let both : (s && t) ≡ true = and_right j (s && t) front in
      let z = passed new old (and_right (j && (s && t)) (passes new old) h) in
      let u = then_there (λ k. updated_kind a k (literal_of (out-Ker i).op)) (kind_at i) z.0 z.1 in
      let d : Bool = is_kind z.0 (kind_at e) in
      let r : Bool = sound names e (c ++ (x, z.0) ∷ []) false in
      node_update a x f i e u.0 z.0 (found a (kind_at f) (and_left j (s && t) front), and_left s t both) (u.1, and_right s t both) u.2
      (found z.0 (kind_at e) (and_left d r z.2), and_right d r z.2)
  update_node b a xs ks h = absurd (false≢true h)

  item_is : (k d : Kind) → item_of k ≡ Some d → k ≡ Seq d
  item_is (Seq a) d h = ap Seq (some_same h)
  item_is k d h = absurd (none≢some h)

  fold_node : (b : Bool) (a : Kind) (xs : List ℕ) (ks : List Ker) → fold_left a xs c (parts ks) ≡ true → Node names c b ker.FoldLeft a xs ks
  fold_node b a (x ∷ y ∷ []) (e ∷ f ∷ q ∷ []) h =
      let i : Bool = is_kind a (kind_at e) in
      let j : Bool = is_kind a (kind_at f) in
      let s : Bool = sound names f c false in
      let t : Bool = sound names q c false in
      let body : Kind → Bool = λ d. sound names e (c ++ (x, a) ∷ (y, d) ∷ []) false in
      let items : Option Kind = option_and_then item_of (kind_at q) in
      let front : ((i && j) && (s && t)) ≡ true = and_left ((i && j) && (s && t)) (passes body items) h in
      let kinds : (i && j) ≡ true = and_left (i && j) (s && t) front in
      let both : (s && t) ≡ true = and_right (i && j) (s && t) front in
      let z = passed body items (and_right ((i && j) && (s && t)) (passes body items) h) in
      let u = then_there item_of (kind_at q) z.0 z.1 in
      node_fold a x y e f q z.0 (found a (kind_at e) (and_left i j kinds), z.2) (found a (kind_at f) (and_right i j kinds), and_left s t both)
      (u.1 ∙ ap Some (item_is u.0 z.0 u.2), and_right s t both)
  fold_node b a xs ks h = absurd (false≢true h)

  -- ---- any node

  node_of : (b : Bool) (o : KerOp) (a : Kind) (xs : List ℕ) (ks : List Ker) → sound_at names o a xs (parts ks) c b ≡ true → Node names c b o a xs ks
  node_of b (ker.Name i primed) a xs [] h = node_name i primed a xs (found a (slice_get names i) h)
  node_of b (ker.Bound n) a xs [] h = node_bound n a xs (found a (kind_in c n) h)
  node_of b ker.Some a xs ks h = binder_node b ker.Some a xs ks h
  node_of b ker.Every a xs ks h = binder_node b ker.Every a xs ks h
  node_of b ker.Filter a xs ks h = binder_node b ker.Filter a xs ks h
  node_of b ker.MapOver a xs ks h = binder_node b ker.MapOver a xs ks h
  node_of b ker.FunOf a xs ks h = binder_node b ker.FunOf a xs ks h
  node_of b ker.Update a xs ks h = update_node b a xs ks h
  node_of b ker.FoldLeft a xs ks h = fold_node b a xs ks h
  node_of b ker.Range a xs (x ∷ y ∷ l ∷ u ∷ []) h =
      let i : Bool = is_bound c (l, sound names l) in
      let j : Bool = is_bound c (u, sound names u) in
      let r : Bool = plain ker.Range a c b (parts (x ∷ y ∷ [])) in
      bounded_node b a xs x y l u (bound_of l (and_left i j (and_left (i && j) r h))) (bound_of u (and_right i j (and_left (i && j) r h)))
      (plain_is b ker.Range a (x ∷ y ∷ []) (and_right (i && j) r h))
  node_of b o a xs ks h = plain_node b o a xs ks h

-- THE STEP: the kind of a sound tree, and what is said of its children
pub sound_step : (names : List Kind) (k : Ker) (c : Context) (b : Bool) → sound names k c b ≡ true →
    (a : Kind) × (kind_at k ≡ Some a) × Node names c b (out-Ker k).op a (out-Ker k).binds (out-Ker k).args
sound_step names k c b h =
    let test : Kind → Bool = λ a. sound_at names (out-Ker k).op a (out-Ker k).binds (with_asked names (out-Ker k).args) c b in
    let z = passed test (kind_at k) (sym (sound_out names k c b) ∙ h) in
    (z.0, z.1, node_of names c b (out-Ker k).op z.0 (out-Ker k).binds (out-Ker k).args z.2)
