-- A sound tree's names are declared.
use Rattle.std.proofs.Common.{◌≡◌, ℕ, ◌<◌, Bool, true, false, arith, List, [], ◌∷◌, ◌++◌, map, length, refl, sym, ◌∙◌, subst, Some}
use Rattle.std.specs.Prelude.{nat_lt, slice_get}
use Rattle.std.specs.List.{list_all}
use Rattle.std.proofs.lemmas.Option.{slice_get_within}
use Rattle.tla_meaning.proofs.Views.{and_both}
use Rattle.kernel_trees.specs.declared.kernel.Ker.{Ker, roll-Ker, out-roll-Ker}
use Rattle.kernel_trees.specs.declared.kernel.Ker.TheOpen.{Ker-F}
use Rattle.kernel_trees.specs.declared.kernel.KerOp.{KerOp}
use Rattle.kernel_trees.specs.declared.kernel.KerOp.TheVariants as ker
use Rattle.kernel_trees.specs.Paths.{own_below, names_below}
use Rattle.kernel_trees.specs.TypeKinds.{Kind}
use Rattle.kernel_trees.specs.Sound.{Context, sound}
use Rattle.kernel_trees.proofs.Trees.{Each, by_nodes}
use Rattle.kernel_trees.proofs.Marking.{below-roll}
use Rattle.kernel_trees.proofs.SoundRows.{Row, BinderRow}
use Rattle.kernel_trees.proofs.SoundTrees.{Children, Sets, Node, node_name, node_bound, node_plain, node_bounded, node_binder, node_update, node_fold, sound_step}

-- a tree is sound somewhere
abbrev pub SomewhereSound : List Kind → Ker → Type 0
SomewhereSound names k = (c : Context) × (b : Bool) × (sound names k c b ≡ true)

module _ (names : List Kind) where
  of_children : (o : KerOp) (n : ℕ) (c : Context) (b : Bool) (ks : List Ker) (as' : List Kind) → Children names o n c b ks as' → Each (SomewhereSound names) ks
  of_children o n c b [] [] h = tt
  of_children o n c b [] (a ∷ as') h = tt
  of_children o n c b (k ∷ ks) [] h = absurd h
  of_children o n c b (k ∷ ks) (a ∷ as') h = ((c, _, h.0.1), of_children o _ c b ks as' h.1)

  of_sets : (c : Context) (ks : List Ker) (ms : List Kind) → Sets names c ks ms → Each (SomewhereSound names) ks
  of_sets c [] [] h = tt
  of_sets c [] (m ∷ ms) h = tt
  of_sets c (k ∷ ks) [] h = absurd h
  of_sets c (k ∷ ks) (m ∷ ms) h = ((c, false, h.0.1), of_sets c ks ms h.1)

  each_more : (ks : List Ker) (k : Ker) → Each (SomewhereSound names) ks → SomewhereSound names k → Each (SomewhereSound names) (ks ++ k ∷ [])
  each_more [] k h g = (g, tt)
  each_more (x ∷ ks) k h g = (h.0, each_more ks k h.1 g)

  -- each child of a sound node is sound in some context
  pub children_sound : (c : Context) (b : Bool) {o : KerOp} {a : Kind} {xs : List ℕ} {ks : List Ker} → Node names c b o a xs ks → Each (SomewhereSound names) ks
  children_sound c b (node_name i primed a xs q) = tt
  children_sound c b (node_bound n a xs q) = tt
  children_sound c b (node_plain o a xs ks as' r g i) = of_children o 0 c b ks as' g
  children_sound c b (node_bounded xs x y l h gx gy bl bh) =
      ((c, false, gx.1), ((c, false, gy.1), ((c, false, bl.child.1), ((c, false, bh.child.1), tt))))
  children_sound c b (node_binder o a xs ks sets body ms e q n r g h) =
      subst (Each (SomewhereSound names)) (sym q) (each_more sets body (of_sets c sets ms g) (_, false, h.1))
  children_sound c b (node_update a x f i e j d gf gi q ge) = ((c, false, gf.1), ((c, false, gi.1), ((_, false, ge.1), tt)))
  children_sound c b (node_fold a x y e f q d ge gf gq) = ((_, false, ge.1), ((c, false, gf.1), ((c, false, gq.1), tt)))

  within : (i : ℕ) (a : Kind) → slice_get names i ≡ Some a → nat_lt i (length names) ≡ true
  within i a q = below (slice_get_within names i a q)
    where
      below : i < length names → nat_lt i (length names) ≡ true
      below h = grind (arith, h)

  no_row : {i : ℕ} {primed : Bool} {a : Kind} {as' : List Kind} → Row (ker.Name i primed) a as' → ⊥
  no_row r = elim r [ ]

  no_binder : {i : ℕ} {primed : Bool} {a d : Kind} {ms : List Kind} → BinderRow (ker.Name i primed) a ms d → ⊥
  no_binder r = elim r [ ]

  row_own : (o : KerOp) (a : Kind) (as' : List Kind) → Row o a as' → own_below (length names) o ≡ true
  row_own (ker.Name i primed) a as' r = absurd (no_row r)
  row_own o a as' r = refl

  binder_own : (o : KerOp) (a : Kind) (ms : List Kind) (d : Kind) → BinderRow o a ms d → own_below (length names) o ≡ true
  binder_own (ker.Name i primed) a ms d r = absurd (no_binder r)
  binder_own o a ms d r = refl

  own_name : (c : Context) (b : Bool) {o : KerOp} {a : Kind} {xs : List ℕ} {ks : List Ker} → Node names c b o a xs ks → own_below (length names) o ≡ true
  own_name c b (node_name i primed a xs q) = within i a q
  own_name c b (node_bound n a xs q) = refl
  own_name c b (node_plain o a xs ks as' r g i) = row_own o a as' r
  own_name c b (node_bounded xs x y l h gx gy bl bh) = refl
  own_name c b (node_binder o a xs ks sets body ms e q n r g h) = binder_own o a ms e r
  own_name c b (node_update a x f i e j d gf gi q ge) = refl
  own_name c b (node_fold a x y e f q d ge gf gq) = refl

  abbrev Declared : Ker → Type 0
  Declared k = SomewhereSound names k → names_below (length names) k ≡ true

  all_declared : (ks : List Ker) → Each Declared ks → Each (SomewhereSound names) ks → list_all (λ b. b) (map (names_below (length names)) ks) ≡ true
  all_declared [] h g = refl
  all_declared (k ∷ ks) h g =
      and_both (names_below (length names) k) (list_all (λ b. b) (map (names_below (length names)) ks)) (h.0 g.0) (all_declared ks h.1 g.1)

  at_node : (x : Ker-F Ker) (c : Context) (b : Bool) (a : Kind) → Each Declared x.args → Node names c b x.op a x.binds x.args →
      names_below (length names) (roll-Ker x) ≡ true
  at_node x c b a h g =
      below-roll (length names) x
      ∙ and_both (own_below (length names) x.op) (list_all (λ b. b) (map (names_below (length names)) x.args)) (own_name c b g)
      (all_declared x.args h (children_sound c b g))

  declared : (k : Ker) → Declared k
  declared = by_nodes Declared (λ x h s.
      let z = sound_step names (roll-Ker x) s.0 s.1 s.2 in
      at_node x s.0 s.1 z.0 h (subst (λ (y : Ker-F Ker). Node names s.0 s.1 y.op z.0 y.binds y.args) (out-roll-Ker x) z.2))

-- the names of a sound tree are below the number of types
pub sound_below : (names : List Kind) (k : Ker) (c : Context) (b : Bool) → sound names k c b ≡ true → names_below (length names) k ≡ true
sound_below names k c b h = declared names k (c, b, h)
