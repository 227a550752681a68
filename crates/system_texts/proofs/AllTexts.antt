-- What is gathered of a node, and that it has all texts.
use Rattle.std.proofs.Common.{◌≡◌, ℕ, Bool, true, false, ◌&&◌, List, [], ◌∷◌, ◌++◌, map, flat_map, append_assoc, refl, sym, ◌∙◌, ap, subst, Option, Some, None, option_map, option_and_then, true≢false}
use Rattle.std.specs.Prelude.{if◌then◌else◌}
use Rattle.std.specs.List.{list_all, list_any}
use Rattle.std.specs.Ordering.{is_lt}
use Rattle.std.proofs.lemmas.List.{append-nil}
use Rattle.std.proofs.lemmas.List.Concat.{flat_map-append}
use Rattle.std.proofs.lemmas.List.Folds.{list_all-append}
use Rattle.tla_values.specs.Order.{text_cmp}
use Rattle.tla_values.specs.Sets.{member}
use Rattle.tla_values.specs.declared.value.Value.TheVariants as value
use Rattle.tla_meaning.specs.Scopes.{same_text}
use Rattle.snowcat_rows.specs.TypeTexts.{are_distinct}
use Rattle.snowcat_rows.specs.declared.types.Ty.{Ty, roll-Ty}
use Rattle.snowcat_rows.specs.declared.types.Ty.TheOpen as ty
use Rattle.snowcat_rows.specs.declared.types.Ty.TheFolds.{fold-roll-Ty, map-Ty, ind-Ty}
use Rattle.kernel_trees.specs.declared.kernel.Ker.{Ker, out-Ker, roll-Ker, roll-out-Ker}
use Rattle.kernel_trees.specs.declared.kernel.Ker.TheOpen.{Ker-F}
use Rattle.kernel_trees.specs.declared.kernel.Ker.TheFolds.{fold-roll-Ker}
use Rattle.kernel_trees.specs.declared.path.Assigned.{Assigned}
use Rattle.kernel_trees.specs.declared.path.AssignedStep.{AssignedStep}
use Rattle.kernel_trees.specs.declared.system.System.{System}
use Rattle.kernel_trees.specs.Assignments.{read_by}
use Rattle.kernel_trees.specs.TypeKinds as kind
use Rattle.kernel_trees.specs.TypeKinds.{Kind, Fields, no_fields, more_fields, insert_field, fields, all_there, all_fields_there, kind_layer, kind_of}
use Rattle.kernel_trees.proofs.Trees.{Each, by_nodes}
use Rattle.shape_bounds.specs.BoundedTrees.{each_node}
use Rattle.path_bounds.specs.BoundedPaths.{nodes_on}
use Rattle.typed_cells.specs.KindSorts.{all_field_names, item_names, names_within}
use Rattle.expr_rewriter.specs.Rewriting.{own_texts, type_texts}
use Rattle.system_texts.specs.SystemTexts.{HasSystemTexts, is_textual}
use Rattle.system_texts.specs.inner.Gathered.{all_texts, are_among, field_layer, field_names, path_texts, step_texts, tree_texts}
use Rattle.system_texts.proofs.Once.{member_is}

abbrev Texts : Type 0
Texts = List (List ℕ)

-- ---- what is gathered of a node

field-roll : (x : ty.Ty-F Ty) → field_names (roll-Ty x) ≡ field_layer (map-Ty Ty Texts field_names x)
unfolding field_names
field-roll x = fold-roll-Ty Texts field_layer x

pub flat_of_map : {X : Type 0} (f : X → Texts) (xs : List X) → flat_map (λ (ts : Texts). ts) (map f xs) ≡ flat_map f xs
flat_of_map f [] = refl
flat_of_map f (x ∷ xs) = ap (λ ts. f x ++ ts) (flat_of_map f xs)

pub tree-roll : (x : Ker-F Ker) → tree_texts (roll-Ker x) ≡ own_texts x.op ++ (field_names x.ty ++ flat_map (λ xs. xs) (map tree_texts x.args))
unfolding tree_texts
tree-roll x = fold-roll-Ker Texts (λ x. own_texts x.op ++ (field_names x.ty ++ flat_map (λ xs. xs) x.args)) x

tree_out : (k : Ker) → tree_texts k ≡ own_texts (out-Ker k).op ++ (field_names (out-Ker k).ty ++ flat_map tree_texts (out-Ker k).args)
tree_out k =
    subst (λ (t : Ker). tree_texts t ≡ own_texts (out-Ker k).op ++ (field_names (out-Ker k).ty ++ flat_map tree_texts (out-Ker k).args)) (roll-out-Ker k)
    (tree-roll (out-Ker k) ∙ ap (λ ts. own_texts (out-Ker k).op ++ (field_names (out-Ker k).ty ++ ts)) (flat_of_map tree_texts (out-Ker k).args))

-- one text after another
pub of_tree : (k : Ker) (ks : List Ker) (a b c d : Texts) → ks ≡ (out-Ker k).args → b ≡ a ++ own_texts (out-Ker k).op →
    c ≡ b ++ field_names (out-Ker k).ty → d ≡ c ++ flat_map tree_texts ks → d ≡ a ++ tree_texts k
of_tree k ks a b c d h e f g =
    let own : Texts = own_texts (out-Ker k).op in
    let types : Texts = field_names (out-Ker k).ty in
    let below : Texts = flat_map tree_texts (out-Ker k).args in
    g ∙ ap (λ ks. c ++ flat_map tree_texts ks) h ∙ ap (λ c. c ++ below) (f ∙ ap (λ b. b ++ types) e)
    ∙ append_assoc (a ++ own) types below ∙ append_assoc a own (types ++ below) ∙ ap (λ ts. a ++ ts) (sym (tree_out k))

pub one_tree : (f : Ker → Texts) (k : Ker) (a : Texts) → a ++ f k ≡ a ++ flat_map f (k ∷ [])
one_tree f k a = ap (λ ts. a ++ ts) (sym (append-nil (f k)))

pub of_system : (s : System) (a b c d e f : Texts) → b ≡ a ++ tree_texts s.ker.assume → c ≡ b ++ flat_map tree_texts s.ker.invs →
    d ≡ c ++ flat_map path_texts s.constants → e ≡ d ++ flat_map path_texts s.start → f ≡ e ++ flat_map path_texts s.next → f ≡ a ++ all_texts s
of_system s a b c d e f h i j k l =
    let t : Texts = tree_texts s.ker.assume in
    let u : Texts = flat_map tree_texts s.ker.invs in
    let v : Texts = flat_map path_texts s.constants in
    let w : Texts = flat_map path_texts s.start in
    let x : Texts = flat_map path_texts s.next in
    let paths : flat_map path_texts (s.constants ++ (s.start ++ s.next)) ≡ v ++ (w ++ x) =
    flat_map-append path_texts s.constants (s.start ++ s.next) ∙ ap (λ ts. v ++ ts) (flat_map-append path_texts s.start s.next) in
    l ∙ ap (λ e. e ++ x) k ∙ append_assoc d w x ∙ ap (λ d. d ++ (w ++ x)) j ∙ append_assoc c v (w ++ x) ∙ ap (λ ts. c ++ ts) (sym paths)
    ∙ ap (λ c. c ++ flat_map path_texts (s.constants ++ (s.start ++ s.next))) (i ∙ ap (λ b. b ++ u) h ∙ append_assoc a t u)
    ∙ append_assoc a (t ++ u) (flat_map path_texts (s.constants ++ (s.start ++ s.next)))

-- ---- all texts pass a test

both : (p q : Bool) → p ≡ true → q ≡ true → (p && q) ≡ true
both p q e f = ap (λ b. b && q) e ∙ f

module _ (q : List ℕ → Bool) where
  abbrev pub Pass : Texts → Type 0
  Pass xs = list_all q xs ≡ true

  pub pass_front : (xs ys : Texts) → Pass (xs ++ ys) → Pass xs
  pass_front xs ys h = by (list_all q xs) (sym (list_all-append q xs ys) ∙ h)
    where
      by : (b : Bool) → (b && list_all q ys) ≡ true → b ≡ true
      by true e = refl
      by false e = e

  pub pass_back : (xs ys : Texts) → Pass (xs ++ ys) → Pass ys
  pass_back xs ys h = by (list_all q xs) (sym (list_all-append q xs ys) ∙ h)
    where
      by : (b : Bool) → (b && list_all q ys) ≡ true → list_all q ys ≡ true
      by true e = e
      by false e = absurd (true≢false (sym e))

  pub pass_both : (xs ys : Texts) → Pass xs → Pass ys → Pass (xs ++ ys)
  pass_both xs ys h k = list_all-append q xs ys ∙ both (list_all q xs) (list_all q ys) h k

  pub pass_head : (x : List ℕ) (xs : Texts) → Pass (x ∷ xs) → q x ≡ true
  pass_head x xs h = by (q x) h
    where
      by : (b : Bool) → (b && list_all q xs) ≡ true → b ≡ true
      by true e = refl
      by false e = e

  pub pass_tail : (x : List ℕ) (xs : Texts) → Pass (x ∷ xs) → Pass xs
  pass_tail x xs h = pass_back (x ∷ []) xs h

  -- ---- types

  abbrev IfKind : {X : Type 0} → (X → Type 0) → Option X → Type 0
  IfKind P None = Unit {0}
  IfKind P (Some x) = P x

  abbrev Named : Option Kind → Type 0
  Named o = IfKind (λ a. Pass (names_within a)) o

  abbrev FieldsNamed : Option (List (List ℕ × Kind)) → Type 0
  FieldsNamed o = IfKind (λ fs. Pass (all_field_names (fields fs))) o

  put_pass : (x : List ℕ) (a : Kind) (fs : Fields) → q x ≡ true → Pass (names_within a) → Pass (all_field_names fs) →
      Pass (all_field_names (insert_field x a fs))
  put_pass x a no_fields e h k = both (q x) _ e (pass_both (names_within a) [] h refl)
  put_pass x a (more_fields y b fs) e h k =
      by (is_lt (text_cmp x y)) (put_pass x a fs e h (pass_back (names_within b) (all_field_names fs) (pass_tail y _ k)))
    where
      by : (t : Bool) → Pass (all_field_names (insert_field x a fs)) →
          Pass (all_field_names (if t then more_fields x a (more_fields y b fs) else more_fields y b (insert_field x a fs)))
      by true r = both (q x) _ e (pass_both (names_within a) (all_field_names (more_fields y b fs)) h k)
      by false r =
          both (q y) _ (pass_head y _ k)
          (pass_both (names_within b) (all_field_names (insert_field x a fs)) (pass_front (names_within b) (all_field_names fs) (pass_tail y _ k)) r)

  abbrev TypePasses : Ty → Type 0
  TypePasses t = Pass (field_names t) → Named (kind_of t)

  abbrev Item : Type 0
  Item = (t : Ty) × TypePasses t

  one : (f : Kind → Kind) → ((a : Kind) → names_within (f a) ≡ names_within a) → (o : Option Kind) → Named o → Named (option_map f o)
  one f same None h = tt
  one f same (Some a) h = ap (list_all q) (same a) ∙ h

  items_pass : (ps : List Item) → Pass (flat_map (λ ts. ts) (map field_names (map (λ (p : Item). p.0) ps))) →
      IfKind (λ as'. Pass (item_names (kind.kinds as'))) (all_there (map kind_of (map (λ (p : Item). p.0) ps)))
  items_pass [] h = refl
  items_pass (p ∷ ps) h =
      by (kind_of p.0) (p.1 (pass_front (field_names p.0) rest h)) (all_there (map kind_of (map (λ (p : Item). p.0) ps)))
      (items_pass ps (pass_back (field_names p.0) rest h))
    where
      rest : Texts
      rest = flat_map (λ ts. ts) (map field_names (map (λ (p : Item). p.0) ps))

      by : (o : Option Kind) → Named o → (r : Option (List Kind)) → IfKind (λ as'. Pass (item_names (kind.kinds as'))) r →
          IfKind (λ as'. Pass (item_names (kind.kinds as'))) (option_and_then (λ x. option_map (λ xs. x ∷ xs) r) o)
      by None h r k = tt
      by (Some a) h None k = tt
      by (Some a) h (Some as') k = pass_both (names_within a) (item_names (kind.kinds as')) h k

  abbrev Field : Type 0
  Field = List ℕ × Item

  abbrev pairs_of : List Field → List (List ℕ × Option Kind)
  pairs_of ps = map (λ (f : List ℕ × Ty). (f.0, kind_of f.1)) (map (λ (f : Field). (f.0, f.1.0)) ps)

  abbrev texts_of_fields : List Field → Texts
  texts_of_fields ps = flat_map (λ (f : List ℕ × Texts). f.0 ∷ f.1) (map (λ (f : List ℕ × Ty). (f.0, field_names f.1)) (map (λ (f : Field). (f.0, f.1.0)) ps))

  fields_pass : (ps : List Field) → Pass (texts_of_fields ps) → FieldsNamed (all_fields_there (pairs_of ps))
  fields_pass [] h = refl
  fields_pass (p ∷ ps) h =
      by (kind_of p.1.0) (p.1.1 (pass_front (field_names p.1.0) (texts_of_fields ps) below)) (all_fields_there (pairs_of ps))
      (fields_pass ps (pass_back (field_names p.1.0) (texts_of_fields ps) below))
    where
      below : Pass (field_names p.1.0 ++ texts_of_fields ps)
      below = pass_tail p.0 (field_names p.1.0 ++ texts_of_fields ps) h

      by : (o : Option Kind) → Named o → (r : Option (List (List ℕ × Kind))) → FieldsNamed r →
          FieldsNamed (option_and_then (λ x. option_map (λ xs. (p.0, x) ∷ xs) r) o)
      by None k r l = tt
      by (Some a) k None l = tt
      by (Some a) k (Some fs) l = put_pass p.0 a (fields fs) (pass_head p.0 (field_names p.1.0 ++ texts_of_fields ps) h) k l

  record_pass : (b : Bool) (o : Option (List (List ℕ × Kind))) → FieldsNamed o → Named (if b then option_map (λ xs. kind.Rec (fields xs)) o else None)
  record_pass false o h = tt
  record_pass true None h = tt
  record_pass true (Some fs) h = h

  layer_pass : (y : ty.Ty-F Item) → Pass (field_layer (map-Ty Ty Texts field_names (map-Ty Item Ty (λ t. t.0) y))) →
      Named (kind_layer (map-Ty Ty (Option Kind) kind_of (map-Ty Item Ty (λ t. t.0) y)))
  layer_pass ty.Bool h = refl
  layer_pass ty.Int h = refl
  layer_pass ty.Str h = refl
  layer_pass (ty.Named []) h = tt
  layer_pass (ty.Named (x ∷ xs)) h = refl
  layer_pass (ty.Var n) h = tt
  layer_pass (ty.Set a) h = one kind.Set (λ b. refl) (kind_of a.0) (a.1 h)
  layer_pass (ty.Seq a) h = one kind.Seq (λ b. refl) (kind_of a.0) (a.1 h)
  layer_pass (ty.Fun a b) h =
      by (kind_of a.0) (a.1 (pass_front (field_names a.0) (field_names b.0) h)) (kind_of b.0) (b.1 (pass_back (field_names a.0) (field_names b.0) h))
    where
      by : (o : Option Kind) → Named o → (r : Option Kind) → Named r → Named (option_and_then (λ x. option_map (λ y. kind.Fun x y) r) o)
      by None k r l = tt
      by (Some x) k None l = tt
      by (Some x) k (Some y) l = pass_both (names_within x) (names_within y) k l
  layer_pass (ty.Tup as') h = by (all_there (map kind_of (map (λ (p : Item). p.0) as'))) (items_pass as' h)
    where
      by : (o : Option (List Kind)) → IfKind (λ as'. Pass (item_names (kind.kinds as'))) o → Named (option_map (λ xs. kind.Tup (kind.kinds xs)) o)
      by None k = tt
      by (Some xs) k = k
  layer_pass (ty.Rec fs None) h =
      record_pass (are_distinct (map (λ (f : List ℕ × Option Kind). f.0) (pairs_of fs))) (all_fields_there (pairs_of fs)) (fields_pass fs h)
  layer_pass (ty.Rec fs (Some r)) h = tt
  layer_pass (ty.Oper as' b) h = tt

  kind-roll : (x : ty.Ty-F Ty) → kind_of (roll-Ty x) ≡ kind_layer (map-Ty Ty (Option Kind) kind_of x)
  unfolding kind_of
  kind-roll x = fold-roll-Ty (Option Kind) kind_layer x

  type_named : (t : Ty) → TypePasses t
  type_named = ind-Ty TypePasses (λ x y is. subst (λ (z : ty.Ty-F Ty). TypePasses (roll-Ty z)) is
      (λ h. subst Named (sym (kind-roll (map-Ty Item Ty (λ t. t.0) y)))
      (layer_pass y (ap (list_all q) (sym (field-roll (map-Ty Item Ty (λ t. t.0) y))) ∙ h))))

  pub type_pass : (t : Ty) → Pass (field_names t) → Pass (type_texts (kind_of t))
  type_pass t h = by (kind_of t) (type_named t h)
    where
      by : (o : Option Kind) → Named o → Pass (type_texts o)
      by None k = refl
      by (Some a) k = k

-- ---- trees and paths

module _ (texts : Texts) where
  abbrev among : List ℕ → Bool
  among x = member (value.Text x) (map (λ y. value.Text y) texts)

  each-roll : (x : Ker-F Ker) → each_node (is_textual texts) (roll-Ker x)
      ≡ (is_textual texts x.op x.ty && list_all (λ b. b) (map (each_node (is_textual texts)) x.args))
  unfolding each_node
  each-roll x = fold-roll-Ker Bool (λ x. is_textual texts x.op x.ty && list_all (λ b. b) x.args) x

  abbrev TreePasses : Ker → Type 0
  TreePasses k = Pass among (tree_texts k) → each_node (is_textual texts) k ≡ true

  below : (ks : List Ker) → Each TreePasses ks → Pass among (flat_map (λ ts. ts) (map tree_texts ks)) →
      list_all (λ b. b) (map (each_node (is_textual texts)) ks) ≡ true
  below [] h k = refl
  below (x ∷ xs) h k =
      both (each_node (is_textual texts) x) _ (h.0 (pass_front among (tree_texts x) _ k)) (below xs h.1 (pass_back among (tree_texts x) _ k))

  pub tree_pass : (k : Ker) → TreePasses k
  tree_pass = by_nodes TreePasses (λ x h k.
      let all = sym (ap (list_all among) (tree-roll x)) ∙ k in
      let rest = pass_back among (own_texts x.op) (field_names x.ty ++ flat_map (λ ts. ts) (map tree_texts x.args)) all in
      each-roll x ∙ both (is_textual texts x.op x.ty) (list_all (λ b. b) (map (each_node (is_textual texts)) x.args))
      (pass_both among (own_texts x.op) (type_texts (kind_of x.ty)) (pass_front among (own_texts x.op) _ all)
      (type_pass among x.ty (pass_front among (field_names x.ty) (flat_map (λ ts. ts) (map tree_texts x.args)) rest)))
      (below x.args h (pass_back among (field_names x.ty) (flat_map (λ ts. ts) (map tree_texts x.args)) rest)))

  pub trees_pass : (ks : List Ker) → Pass among (flat_map tree_texts ks) → list_all (each_node (is_textual texts)) ks ≡ true
  trees_pass [] h = refl
  trees_pass (k ∷ ks) h =
      both (each_node (is_textual texts) k) _ (tree_pass k (pass_front among (tree_texts k) (flat_map tree_texts ks) h))
      (trees_pass ks (pass_back among (tree_texts k) (flat_map tree_texts ks) h))

  steps_pass : (zs : List AssignedStep) → Pass among (flat_map step_texts zs) → nodes_on (is_textual texts) zs ≡ true
  steps_pass [] h = refl
  steps_pass (z ∷ zs) h =
      both (list_all (each_node (is_textual texts)) (read_by z)) _ (trees_pass (read_by z) (pass_front among (step_texts z) (flat_map step_texts zs) h))
      (steps_pass zs (pass_back among (step_texts z) (flat_map step_texts zs) h))

  paths_pass : (xs : List Assigned) → Pass among (flat_map path_texts xs) → list_all (λ x. nodes_on (is_textual texts) x.steps) xs ≡ true
  paths_pass [] h = refl
  paths_pass (x ∷ xs) h =
      both (nodes_on (is_textual texts) x.steps) _ (steps_pass x.steps (pass_front among (path_texts x) (flat_map path_texts xs) h))
      (paths_pass xs (pass_back among (path_texts x) (flat_map path_texts xs) h))

  among_is : (xs : Texts) → are_among texts xs ≡ true → Pass among xs
  among_is [] h = refl
  among_is (x ∷ xs) h =
      both (among x) _ (member_is x texts ∙ pass_head (λ x. list_any (same_text x) texts) x xs h)
      (among_is xs (pass_tail (λ x. list_any (same_text x) texts) x xs h))

  pub system_texts : (s : System) → are_among texts ([] ∷ all_texts s) ≡ true → HasSystemTexts texts s
  system_texts s h =
      let all = among_is ([] ∷ all_texts s) h in
      let rest = pass_tail among [] (all_texts s) all in
      let trees : Texts = flat_map tree_texts (s.ker.assume ∷ s.ker.invs) in
      let paths : Texts = flat_map path_texts (s.constants ++ (s.start ++ s.next)) in
      record {
        empty = pass_head among [] (all_texts s) all;
        trees = trees_pass (s.ker.assume ∷ s.ker.invs) (pass_front among trees paths rest);
        paths = paths_pass (s.constants ++ (s.start ++ s.next)) (pass_back among trees paths rest);
      }

  -- as they are gathered, behind the empty one
  pub gathered_texts : (s : System) (xs : Texts) (e : List ℕ) → e ≡ [] → xs ≡ (e ∷ []) ++ all_texts s → are_among texts xs ≡ true → HasSystemTexts texts s
  gathered_texts s xs e empty is h =
      system_texts s (sym (ap (are_among texts) (is ∙ ap (λ (y : List ℕ). y ∷ all_texts s) empty)) ∙ h)
