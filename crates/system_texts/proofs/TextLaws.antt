-- What it gives that the texts of a tree, of a path or of a system are among some: what rewriting asks.
use Rattle.std.proofs.Common.{◌≡◌, ℕ, Bool, true, false, ◌&&◌, List, [], ◌∷◌, ◌++◌, map, flat_map, All, refl, sym, ◌∙◌, ap}
use Rattle.std.specs.List.{list_all}
use Rattle.std.proofs.lemmas.List.Concat.{flat_map-append}
use Rattle.std.proofs.lemmas.List.Elements.{All-cons, All-nil}
use Rattle.std.proofs.lemmas.List.Folds.{list_all-append}
use Rattle.tla_values.specs.Sets.{member}
use Rattle.tla_values.specs.declared.value.Value.TheVariants as value
use Rattle.kernel_trees.specs.declared.kernel.Ker.{Ker, roll-Ker}
use Rattle.kernel_trees.specs.declared.kernel.Ker.TheOpen.{Ker-F}
use Rattle.kernel_trees.specs.declared.kernel.Ker.TheFolds.{fold-roll-Ker}
use Rattle.kernel_trees.specs.declared.path.Assigned.{Assigned}
use Rattle.kernel_trees.specs.declared.path.AssignedStep.{AssignedStep}
use Rattle.kernel_trees.specs.declared.system.System.{System}
use Rattle.kernel_trees.specs.Assignments.{read_by}
use Rattle.kernel_trees.specs.TypeKinds.{kind_of}
use Rattle.kernel_trees.proofs.Trees.{Each, by_nodes}
use Rattle.kernel_trees.proofs.TypeLaws.{kind-Int}
use Rattle.kernel_shapes.specs.Levels.{Assigns}
use Rattle.kernel_shapes.specs.Sized.{Extent}
use Rattle.shape_bounds.specs.BoundedTrees.{HasBounds, PassesNumbers, each_node}
use Rattle.path_bounds.specs.BoundedPaths.{HasPathBounds, nodes_on}
use Rattle.typed_cells.specs.Known.{IsTextAmong}
use Rattle.expr_rewriter.specs.Rewriting.{node_texts, own_texts, texts_in, type_texts}
use Rattle.path_walks.specs.Paths.{path_texts}
use Rattle.system_texts.specs.SystemTexts.{HasPathTexts, HasSystemTexts, HasTreeTexts, is_textual}
use Rattle.system_texts.proofs.AllTexts.{Pass, pass_back, pass_both, pass_front, pass_head, pass_tail}

abbrev Texts : Type 0
Texts = List (List ℕ)

first : (p q : Bool) → (p && q) ≡ true → p ≡ true
first true q e = refl
first false q e = e

second : (p q : Bool) → (p && q) ≡ true → q ≡ true
second true q e = e
second false q e = absurd (cc)

module _ (texts : Texts) where
  abbrev among : List ℕ → Bool
  among x = member (value.Text x) (map (λ y. value.Text y) texts)

  -- an integer constant has no text
  pub numbers_pass : PassesNumbers (is_textual texts)
  numbers_pass n = simp (value.outs-Int, kind-Int)

  -- ---- trees

  each-roll : (x : Ker-F Ker) → each_node (is_textual texts) (roll-Ker x)
      ≡ (is_textual texts x.op x.ty && list_all (λ b. b) (map (each_node (is_textual texts)) x.args))
  unfolding each_node
  each-roll x = fold-roll-Ker Bool (λ x. is_textual texts x.op x.ty && list_all (λ b. b) x.args) x

  texts-roll : (x : Ker-F Ker) → texts_in (roll-Ker x)
      ≡ own_texts x.op ++ (type_texts (kind_of x.ty) ++ flat_map (λ xs. xs) (map texts_in x.args))
  unfolding texts_in
  texts-roll x = fold-roll-Ker Texts node_texts x

  abbrev TreeTexts : Ker → Type 0
  TreeTexts k = each_node (is_textual texts) k ≡ true → Pass among (texts_in k)

  below : (ks : List Ker) → Each TreeTexts ks → list_all (λ b. b) (map (each_node (is_textual texts)) ks) ≡ true →
      Pass among (flat_map (λ xs. xs) (map texts_in ks))
  below [] h e = refl
  below (k ∷ ks) h e =
      pass_both among (texts_in k) (flat_map (λ xs. xs) (map texts_in ks)) (h.0 (first _ _ e)) (below ks h.1 (second (each_node (is_textual texts) k) _ e))

  texts_pass : (k : Ker) → TreeTexts k
  texts_pass = by_nodes TreeTexts (λ x h e.
      let parts = sym (each-roll x) ∙ e in
      let own = first (is_textual texts x.op x.ty) _ parts in
      ap (list_all among) (texts-roll x)
      ∙ pass_both among (own_texts x.op) (type_texts (kind_of x.ty) ++ flat_map (λ xs. xs) (map texts_in x.args))
      (pass_front among (own_texts x.op) (type_texts (kind_of x.ty)) own)
      (pass_both among (type_texts (kind_of x.ty)) (flat_map (λ xs. xs) (map texts_in x.args))
      (pass_back among (own_texts x.op) (type_texts (kind_of x.ty)) own)
      (below x.args h (second (is_textual texts x.op x.ty) _ parts))))

  all_among : (xs : Texts) → Pass among xs → All (IsTextAmong texts) xs
  all_among [] h = All-nil (IsTextAmong texts)
  all_among (x ∷ xs) h = All-cons (IsTextAmong texts) x xs (pass_head among x xs h) (all_among xs (pass_tail among x xs h))

  pub tree_texts_among : (k : Ker) → HasTreeTexts texts k → All (IsTextAmong texts) ([] ∷ texts_in k)
  tree_texts_among k h = All-cons (IsTextAmong texts) [] (texts_in k) h.empty (all_among (texts_in k) (texts_pass k h.nodes))

  -- the tree with its bounds too
  pub tree_texts_stay : (w : ℕ) (k : Ker) (g : Extent) (r : Ker) → HasBounds w k g r → HasTreeTexts texts k → HasTreeTexts texts r
  tree_texts_stay w k g r b h = record { empty = h.empty; nodes = b.nodes (is_textual texts) numbers_pass h.nodes }

  -- ---- paths

  trees_among : (ks : List Ker) → list_all (each_node (is_textual texts)) ks ≡ true → Pass among (flat_map texts_in ks)
  trees_among [] e = refl
  trees_among (k ∷ ks) e =
      pass_both among (texts_in k) (flat_map texts_in ks) (texts_pass k (first _ _ e)) (trees_among ks (second (each_node (is_textual texts) k) _ e))

  steps_among : (zs : List AssignedStep) → nodes_on (is_textual texts) zs ≡ true → Pass among (path_texts zs)
  steps_among [] e = refl
  steps_among (z ∷ zs) e =
      ap (list_all among) (flat_map-append texts_in (read_by z) (flat_map read_by zs))
      ∙ pass_both among (flat_map texts_in (read_by z)) (path_texts zs) (trees_among (read_by z) (first _ _ e))
      (steps_among zs (second (list_all (each_node (is_textual texts)) (read_by z)) _ e))

  pub path_texts_among : (zs : List AssignedStep) → HasPathTexts texts zs → All (IsTextAmong texts) ([] ∷ path_texts zs)
  path_texts_among zs h = All-cons (IsTextAmong texts) [] (path_texts zs) h.empty (all_among (path_texts zs) (steps_among zs h.nodes))

  -- the path with its bounds too
  pub path_texts_stay : (w : ℕ) (a : Assigns) (x : Assigned) (g : Extent) (r : Assigned) → HasPathBounds w a x g r →
      HasPathTexts texts x.steps → HasPathTexts texts r.steps
  path_texts_stay w a x g r b h = record { empty = h.empty; nodes = b.nodes (is_textual texts) numbers_pass h.nodes }

  -- ---- a system

  each_tree : (ks : List Ker) → IsTextAmong texts [] → list_all (each_node (is_textual texts)) ks ≡ true → All (HasTreeTexts texts) ks
  each_tree [] e h = All-nil (HasTreeTexts texts)
  each_tree (k ∷ ks) e h =
      All-cons (HasTreeTexts texts) k ks (record { empty = e; nodes = first _ _ h }) (each_tree ks e (second (each_node (is_textual texts) k) _ h))

  each_path : (xs : List Assigned) → IsTextAmong texts [] → list_all (λ x. nodes_on (is_textual texts) x.steps) xs ≡ true →
      All (λ x. HasPathTexts texts x.steps) xs
  each_path [] e h = All-nil (λ (x : Assigned). HasPathTexts texts x.steps)
  each_path (x ∷ xs) e h =
      All-cons (λ (x : Assigned). HasPathTexts texts x.steps) x xs (record { empty = e; nodes = first _ _ h })
      (each_path xs e (second (nodes_on (is_textual texts) x.steps) _ h))

  -- of the assumption and of the invariants
  pub system_assume : (s : System) → HasSystemTexts texts s → HasTreeTexts texts s.ker.assume
  system_assume s h = record { empty = h.empty; nodes = first _ _ h.trees }

  pub system_invariants : (s : System) → HasSystemTexts texts s → All (HasTreeTexts texts) s.ker.invs
  system_invariants s h = each_tree s.ker.invs h.empty (second (each_node (is_textual texts) s.ker.assume) _ h.trees)

  paths_apart : (xs ys : List Assigned) → list_all (λ x. nodes_on (is_textual texts) x.steps) (xs ++ ys) ≡ true →
      (list_all (λ x. nodes_on (is_textual texts) x.steps) xs ≡ true) × (list_all (λ x. nodes_on (is_textual texts) x.steps) ys ≡ true)
  paths_apart xs ys h =
      let parts = sym (list_all-append (λ x. nodes_on (is_textual texts) x.steps) xs ys) ∙ h in
      (first _ _ parts, second (list_all (λ (x : Assigned). nodes_on (is_textual texts) x.steps) xs) _ parts)

  -- of its paths
  pub system_constants : (s : System) → HasSystemTexts texts s → All (λ x. HasPathTexts texts x.steps) s.constants
  system_constants s h = each_path s.constants h.empty (paths_apart s.constants (s.start ++ s.next) h.paths).0

  pub system_start : (s : System) → HasSystemTexts texts s → All (λ x. HasPathTexts texts x.steps) s.start
  system_start s h = each_path s.start h.empty (paths_apart s.start s.next (paths_apart s.constants (s.start ++ s.next) h.paths).1).0

  pub system_next : (s : System) → HasSystemTexts texts s → All (λ x. HasPathTexts texts x.steps) s.next
  system_next s h = each_path s.next h.empty (paths_apart s.start s.next (paths_apart s.constants (s.start ++ s.next) h.paths).1).1
