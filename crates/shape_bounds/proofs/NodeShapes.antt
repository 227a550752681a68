-- What is computed of a kernel tree, by its operator and its children.
use Rattle.std.proofs.Common.{◌≡◌, ℕ, zero, suc, Bool, List, [], ◌∷◌, ◌++◌, map, drop, option_and_then, slice_get, refl, sym, ◌∙◌, ap, ap₂, IsTrue, if◌then◌else◌, pos}
use Rattle.tla_values.specs.Order.{Layer}
use Rattle.tla_values.specs.declared.value.Value.{Value, out-Value}
use Rattle.tla_values.specs.declared.value.Value.TheOpen as layer
use Rattle.tla_meaning.specs.declared.place.Place.{Place}
use Rattle.tla_meaning.specs.Scopes.{find_last}
use Rattle.snowcat_rows.specs.declared.types.Ty.{Ty}
use Rattle.kernel_trees.specs.declared.kernel.Ker.{Ker, roll-Ker}
use Rattle.kernel_trees.specs.declared.kernel.KerOp.{KerOp}
use Rattle.kernel_trees.specs.declared.kernel.KerOp.TheVariants as ker
use Rattle.kernel_trees.specs.Trees.{constant, names_of, number_name, as_expr}
use Rattle.kernel_trees.specs.TypeKinds.{Kind, kind_of}
use Rattle.kernel_shapes.specs.Counts.{Count, count_at}
use Rattle.kernel_shapes.specs.Kernel.{ker_sized, kind_or_truth, kinds_in}
use Rattle.kernel_shapes.specs.Rows.{no_literal, number, a_range, the_subsets, the_functions, the_tuples, the_records, an_application, row_shape, applied_at, joined_at, reached_by}
use Rattle.kernel_shapes.specs.Shape.{Shape, Atom, Empty, count, inside}
use Rattle.kernel_shapes.specs.Sized.{Extent, Position, Sized, walked, as_form, assigned_from, picked_from, counts_of, shapes_of, outside, index_of, bind_shapes, found, right_counts, excepted_counts, no_size, step_counts, step, Seen}
use Rattle.kernel_shapes.specs.Trees.{domain_row, tuple_row, first_kind, is_part}
use Rattle.kernel_shapes.specs.Trees.{SizedTree, sized_node}
use Rattle.kernel_shapes.proofs.TreeLemmas.{tree-roll}
use Rattle.tla_meaning.specs.declared.op.Op.TheVariants as op
use Rattle.kernel_trees.specs.TypeKinds as kind
use Rattle.tla_meaning.proofs.Views.{false≢true}
use Rattle.shape_bounds.specs.inner.Plain.{row_of, is_plain}
use Rattle.shape_bounds.specs.inner.Nodes.{constant_shape, constant_literal, literal_at, is_endless, counts_along}
use Rattle.kernel_shapes.proofs.KernelNodes.{ker_parts, literal_sizing, ker-shape-roll, ker-counts-roll, ker-literal-roll, ker-beyond-roll}

abbrev pub made : Place → Ty → KerOp → List Ker → List ℕ → Ker
made p t o ks xs = roll-Ker (record { place = p; ty = t; op = o; args = ks; binds = xs })

along_steps : (n : ℕ) (v : Seen) (a : Shape) → step_counts n v a ≡ counts_along (step v) n a
along_steps zero v a = refl
along_steps (suc n) v a = ap (λ (cs : List Count). (step v a).counts walked ++ cs) (along_steps n v (step v a).shape)

module _ (w : ℕ) (p : Place) (t : Ty) (xs : List ℕ) (g : Extent) where
  -- ---- memberships and forms

  pub member_shape : (ks : List Ker) → (ker_sized w (made p t ker.Member ks xs) g).shape ≡ Atom
  member_shape ks = ker-shape-roll w _ g

  pub member_counts : (a s : Ker) (q : Position) →
      (ker_sized w (made p t ker.Member (a ∷ s ∷ []) xs) g).counts q ≡ (ker_sized w a g).counts walked ++ (ker_sized w s g).counts as_form
  member_counts a s q = ker-counts-roll w _ g q

  pub included_shape : (ks : List Ker) → (ker_sized w (made p t ker.Included ks xs) g).shape ≡ Atom
  included_shape ks = ker-shape-roll w _ g

  pub included_counts : (a s : Ker) (q : Position) →
      (ker_sized w (made p t ker.Included (a ∷ s ∷ []) xs) g).counts q ≡ (ker_sized w a g).counts walked ++ (ker_sized w s g).counts as_form
  included_counts a s q = ker-counts-roll w _ g q

  pub subsets_shape : (a : Ker) → (ker_sized w (made p t ker.Subsets (a ∷ []) xs) g).shape ≡ row_shape w the_subsets no_literal ((ker_sized w a g).shape ∷ [])
  subsets_shape a = ker-shape-roll w _ g

  pub subsets_form : (a : Ker) → (ker_sized w (made p t ker.Subsets (a ∷ []) xs) g).counts as_form ≡ (ker_sized w a g).counts as_form
  subsets_form a = ker-counts-roll w _ g as_form

  pub subsets_walked : (a : Ker) → (ker_sized w (made p t ker.Subsets (a ∷ []) xs) g).counts walked
      ≡ count_at p (row_shape w the_subsets no_literal ((ker_sized w a g).shape ∷ [])) ++ (ker_sized w a g).counts walked
  subsets_walked a = ker-counts-roll w _ g walked

  pub subsets_assigned : (a : Ker) → (ker_sized w (made p t ker.Subsets (a ∷ []) xs) g).counts assigned_from ≡ (ker_sized w a g).counts walked
  subsets_assigned a = ker-counts-roll w _ g assigned_from

  pub subsets_picked : (a : Ker) → (ker_sized w (made p t ker.Subsets (a ∷ []) xs) g).counts picked_from ≡ (ker_sized w a g).counts walked
  subsets_picked a = ker-counts-roll w _ g picked_from

  pub functions_shape : (a b : Ker) → (ker_sized w (made p t ker.Functions (a ∷ b ∷ []) xs) g).shape
      ≡ row_shape w the_functions no_literal ((ker_sized w a g).shape ∷ (ker_sized w b g).shape ∷ [])
  functions_shape a b = ker-shape-roll w _ g

  pub functions_walked : (a b : Ker) → (ker_sized w (made p t ker.Functions (a ∷ b ∷ []) xs) g).counts walked
      ≡ count_at p (row_shape w the_functions no_literal ((ker_sized w a g).shape ∷ (ker_sized w b g).shape ∷ []))
      ++ ((ker_sized w a g).counts walked ++ (ker_sized w b g).counts walked)
  functions_walked a b = ker-counts-roll w _ g walked

  pub functions_form : (a b : Ker) → (ker_sized w (made p t ker.Functions (a ∷ b ∷ []) xs) g).counts as_form
      ≡ (ker_sized w a g).counts walked ++ (ker_sized w b g).counts as_form
  functions_form a b = ker-counts-roll w _ g as_form

  pub functions_assigned : (a b : Ker) → (ker_sized w (made p t ker.Functions (a ∷ b ∷ []) xs) g).counts assigned_from
      ≡ (ker_sized w a g).counts walked ++ (ker_sized w b g).counts assigned_from
  functions_assigned a b = ker-counts-roll w _ g assigned_from

  pub functions_picked : (a b : Ker) → (ker_sized w (made p t ker.Functions (a ∷ b ∷ []) xs) g).counts picked_from
      ≡ (ker_sized w a g).counts walked ++ (ker_sized w b g).counts walked
  functions_picked a b = ker-counts-roll w _ g picked_from

  -- ---- constants and names

  pub range_shape : (a b : Ker) (ks : List Ker) → (ker_sized w (made p t ker.Range (a ∷ b ∷ ks) xs) g).shape
      ≡ row_shape w a_range (ker_sized w b g).literal ((ker_sized w a g).shape ∷ (ker_sized w b g).shape ∷ [])
  range_shape a b ks = ker-shape-roll w _ g

  literal_is : (i : ℕ) → literal_sizing w p i g ≡ sized_node w p (op.Int (pos i)) [] [] kind.Number [] [] g
  literal_is i = ap (λ (a : SizedTree). a.sizing (kind.Number ∷ []) g) (tree-roll w (record { place = p; op = op.Int (pos i); args = []; binds = [] }))

  pub item_shape : (i : ℕ) (a : Ker) → (ker_sized w (made p t (ker.Item i) (a ∷ []) xs) g).shape ≡ applied_at (ker_sized w a g).shape (number (pos i))
  item_shape i a =
      ker-shape-roll w _ g ∙ ap (λ (l : Sized). row_shape w an_application l.literal ((ker_sized w a g).shape ∷ l.shape ∷ [])) (literal_is i)

  pub item_counts : (i : ℕ) (a : Ker) (q : Position) → (ker_sized w (made p t (ker.Item i) (a ∷ []) xs) g).counts q
      ≡ count_at p (applied_at (ker_sized w a g).shape (number (pos i))) ++ ((ker_sized w a g).counts walked ++ [])
  item_counts i a q =
      ker-counts-roll w _ g q
      ∙ ap (λ (l : Sized). count_at p (row_shape w an_application l.literal ((ker_sized w a g).shape ∷ l.shape ∷ [])) ++ ((ker_sized w a g).counts walked ++ (l.counts walked ++ []))) (literal_is i)

  pub name_shape : (i : ℕ) (b : Bool) (ks : List Ker) → (ker_sized w (made p t (ker.Name i b) ks xs) g).shape
      ≡ found (option_and_then (λ o. o) (slice_get (if b then g.next else g.now) i))
  name_shape i b ks = ker-shape-roll w _ g

  pub bound_shape : (n : ℕ) (ks : List Ker) → (ker_sized w (made p t (ker.Bound n) ks xs) g).shape ≡ found (find_last (number_name n) g.bound)
  bound_shape n ks = ker-shape-roll w _ g

  pub domain_shape : (f : Ker) → (ker_sized w (made p t ker.Domain (f ∷ []) xs) g).shape
      ≡ row_shape w (domain_row (first_kind (kinds_in f))) no_literal ((ker_sized w f g).shape ∷ [])
  domain_shape f = ker-shape-roll w _ g

  pub tuple_shape : (ks : List Ker) → (ker_sized w (made p t ker.TupOf ks xs) g).shape
      ≡ row_shape w (tuple_row (kind_or_truth (kind_of t))) (index_of (outside [] (map (ker_sized w) ks) g)) (shapes_of (outside [] (map (ker_sized w) ks) g))
  tuple_shape ks = ker-shape-roll w _ g

  -- ---- updates and folds

  pub update_shape : (f i e : Ker) (n : ℕ) → (ker_sized w (made p t ker.Update (f ∷ i ∷ e ∷ []) (n ∷ [])) g).shape
      ≡ joined_at ((ker_sized w i g).literal ∷ [])
      (ker_sized w e (bind_shapes (number_name n ∷ []) (applied_at (ker_sized w f g).shape (ker_sized w i g).literal ∷ []) g)).shape (ker_sized w f g).shape
  update_shape f i e n = ker-shape-roll w _ g

  abbrev update_parts : Ker → Ker → Ker → ℕ → List Bool
  update_parts f i e n = drop 1 (ker_parts (record { place = p; ty = t; op = ker.Update; args = f ∷ i ∷ e ∷ []; binds = n ∷ [] }))

  update_all : (f i e : Ker) (n : ℕ) → (ker_sized w (made p t ker.Update (f ∷ i ∷ e ∷ []) (n ∷ [])) g).beyond
      ≡ excepted_counts (1 ∷ []) (update_parts f i e n) (ker_sized w i g ∷ no_size ∷ [])
      (λ as'. no_size ∷ ker_sized w e (bind_shapes (number_name n ∷ []) as' g) ∷ []) (ker_sized w f g).shape
  update_all f i e n = ker-beyond-roll w _ g

  pub update_beyond : (f i e : Ker) (n : ℕ) → (ker_sized w (made p t ker.Update (f ∷ i ∷ e ∷ []) (n ∷ [])) g).beyond
      ≡ (((ker_sized w i g).counts walked ++ []) ++ right_counts (is_part p (number_name n ∷ []) (as_expr e))
      (ker_sized w e (bind_shapes (number_name n ∷ []) (applied_at (ker_sized w f g).shape (ker_sized w i g).literal ∷ []) g))) ++ []
  update_beyond f i e n = update_all f i e n

  pub update_counts : (f : Ker) (ks : List Ker) (q : Position) → (ker_sized w (made p t ker.Update (f ∷ ks) xs) g).counts q
      ≡ count_at p (ker_sized w (made p t ker.Update (f ∷ ks) xs) g).shape
      ++ ((ker_sized w f g).counts walked ++ (ker_sized w (made p t ker.Update (f ∷ ks) xs) g).beyond)
  update_counts f ks q =
      ker-counts-roll w _ g q
      ∙ ap₂ (λ (a : Shape) (cs : List Count). count_at p a ++ ((ker_sized w f g).counts walked ++ cs))
      (sym (ker-shape-roll w (record { place = p; ty = t; op = ker.Update; args = f ∷ ks; binds = xs }) g))
      (sym (ker-beyond-roll w (record { place = p; ty = t; op = ker.Update; args = f ∷ ks; binds = xs }) g))

  pub fold_shape : (b a s : Ker) (m n : ℕ) → (ker_sized w (made p t ker.FoldLeft (b ∷ a ∷ s ∷ []) (m ∷ n ∷ [])) g).shape
      ≡ reached_by (count (ker_sized w s g).shape)
      (λ c. (ker_sized w b (bind_shapes (number_name m ∷ number_name n ∷ []) (c ∷ inside (ker_sized w s g).shape ∷ []) g)).shape) (ker_sized w a g).shape
  fold_shape b a s m n = ker-shape-roll w _ g

  pub fold_counts : (b a s : Ker) (m n : ℕ) (q : Position) → (ker_sized w (made p t ker.FoldLeft (b ∷ a ∷ s ∷ []) (m ∷ n ∷ [])) g).counts q
      ≡ count_at p (ker_sized w (made p t ker.FoldLeft (b ∷ a ∷ s ∷ []) (m ∷ n ∷ [])) g).shape
      ++ (((ker_sized w a g).counts walked ++ ((ker_sized w s g).counts walked ++ []))
      ++ counts_along (λ c. ker_sized w b (bind_shapes (number_name m ∷ number_name n ∷ []) (c ∷ inside (ker_sized w s g).shape ∷ []) g))
      (count (ker_sized w s g).shape) (ker_sized w a g).shape)
  fold_counts b a s m n q =
      ker-counts-roll w _ g q
      ∙ ap₂ (λ (x : Shape) (cs : List Count). count_at p x ++ (((ker_sized w a g).counts walked ++ ((ker_sized w s g).counts walked ++ [])) ++ cs))
      (sym (ker-shape-roll w (record { place = p; ty = t; op = ker.FoldLeft; args = b ∷ a ∷ s ∷ []; binds = m ∷ n ∷ [] }) g))
      (along_steps (count (ker_sized w s g).shape) _ (ker_sized w a g).shape)

  -- ---- operators that walk all their children

  pub plain_shape : (o : KerOp) → IsTrue (is_plain o) → (ks : List Ker) → (ker_sized w (made p t o ks xs) g).shape
      ≡ row_shape w (row_of o) (index_of (outside [] (map (ker_sized w) ks) g)) (shapes_of (outside [] (map (ker_sized w) ks) g))
  plain_shape ker.And h ks = ker-shape-roll w _ g
  plain_shape ker.Or h ks = ker-shape-roll w _ g
  plain_shape ker.Not h ks = ker-shape-roll w _ g
  plain_shape ker.Equal h ks = ker-shape-roll w _ g
  plain_shape ker.Less h ks = ker-shape-roll w _ g
  plain_shape ker.If h ks = ker-shape-roll w _ g
  plain_shape ker.Plus h ks = ker-shape-roll w _ g
  plain_shape ker.Minus h ks = ker-shape-roll w _ g
  plain_shape ker.Times h ks = ker-shape-roll w _ g
  plain_shape ker.Quotient h ks = ker-shape-roll w _ g
  plain_shape ker.Remainder h ks = ker-shape-roll w _ g
  plain_shape ker.Count h ks = ker-shape-roll w _ g
  plain_shape ker.Length h ks = ker-shape-roll w _ g
  plain_shape ker.SetOf h ks = ker-shape-roll w _ g
  plain_shape ker.Union h ks = ker-shape-roll w _ g
  plain_shape ker.Inter h ks = ker-shape-roll w _ g
  plain_shape ker.Without h ks = ker-shape-roll w _ g
  plain_shape ker.Flatten h ks = ker-shape-roll w _ g
  plain_shape ker.At h ks = ker-shape-roll w _ g
  plain_shape (ker.FieldOf x) h ks = ker-shape-roll w _ g
  plain_shape ker.First h ks = ker-shape-roll w _ g
  plain_shape ker.Join h ks = ker-shape-roll w _ g
  plain_shape (ker.RecOf ys) h ks = ker-shape-roll w _ g
  plain_shape ker.Push h ks = ker-shape-roll w _ g
  plain_shape ker.Glue h ks = ker-shape-roll w _ g
  plain_shape ker.Rest h ks = ker-shape-roll w _ g
  plain_shape ker.Slice h ks = ker-shape-roll w _ g
  plain_shape o h ks = absurd (false≢true h)

  pub plain_counts : (o : KerOp) → IsTrue (is_plain o) → (ks : List Ker) (q : Position) → (ker_sized w (made p t o ks xs) g).counts q
      ≡ count_at p (row_shape w (row_of o) (index_of (outside [] (map (ker_sized w) ks) g)) (shapes_of (outside [] (map (ker_sized w) ks) g)))
      ++ counts_of walked (outside [] (map (ker_sized w) ks) g)
  plain_counts ker.And h ks q = ker-counts-roll w _ g q
  plain_counts ker.Or h ks q = ker-counts-roll w _ g q
  plain_counts ker.Not h ks q = ker-counts-roll w _ g q
  plain_counts ker.Equal h ks q = ker-counts-roll w _ g q
  plain_counts ker.Less h ks q = ker-counts-roll w _ g q
  plain_counts ker.If h ks q = ker-counts-roll w _ g q
  plain_counts ker.Plus h ks q = ker-counts-roll w _ g q
  plain_counts ker.Minus h ks q = ker-counts-roll w _ g q
  plain_counts ker.Times h ks q = ker-counts-roll w _ g q
  plain_counts ker.Quotient h ks q = ker-counts-roll w _ g q
  plain_counts ker.Remainder h ks q = ker-counts-roll w _ g q
  plain_counts ker.Count h ks q = ker-counts-roll w _ g q
  plain_counts ker.Length h ks q = ker-counts-roll w _ g q
  plain_counts ker.SetOf h ks q = ker-counts-roll w _ g q
  plain_counts ker.Union h ks q = ker-counts-roll w _ g q
  plain_counts ker.Inter h ks q = ker-counts-roll w _ g q
  plain_counts ker.Without h ks q = ker-counts-roll w _ g q
  plain_counts ker.Flatten h ks q = ker-counts-roll w _ g q
  plain_counts ker.At h ks q = ker-counts-roll w _ g q
  plain_counts (ker.FieldOf x) h ks q = ker-counts-roll w _ g q
  plain_counts ker.First h ks q = ker-counts-roll w _ g q
  plain_counts ker.Join h ks q = ker-counts-roll w _ g q
  plain_counts (ker.RecOf ys) h ks q = ker-counts-roll w _ g q
  plain_counts ker.Push h ks q = ker-counts-roll w _ g q
  plain_counts ker.Glue h ks q = ker-counts-roll w _ g q
  plain_counts ker.Rest h ks q = ker-counts-roll w _ g q
  plain_counts ker.Slice h ks q = ker-counts-roll w _ g q
  plain_counts o h ks q = absurd (false≢true h)

  -- ---- records and tuples as forms, infinite sets, constants, domains, tuples

  pub records_shape : (ys : List (List ℕ)) (ks : List Ker) → (ker_sized w (made p t (ker.RecForm ys) ks xs) g).shape
      ≡ row_shape w (the_records ys) no_literal (shapes_of (outside [] (map (ker_sized w) ks) g))
  records_shape ys ks = ker-shape-roll w _ g

  pub records_walked : (ys : List (List ℕ)) (ks : List Ker) → (ker_sized w (made p t (ker.RecForm ys) ks xs) g).counts walked
      ≡ count_at p (row_shape w (the_records ys) no_literal (shapes_of (outside [] (map (ker_sized w) ks) g)))
      ++ counts_of walked (outside [] (map (ker_sized w) ks) g)
  records_walked ys ks = ker-counts-roll w _ g walked

  pub records_form : (ys : List (List ℕ)) (ks : List Ker) → (ker_sized w (made p t (ker.RecForm ys) ks xs) g).counts as_form ≡ counts_of as_form (outside [] (map (ker_sized w) ks) g)
  records_form ys ks = ker-counts-roll w _ g as_form

  pub records_assigned : (ys : List (List ℕ)) (ks : List Ker) → (ker_sized w (made p t (ker.RecForm ys) ks xs) g).counts assigned_from ≡ counts_of assigned_from (outside [] (map (ker_sized w) ks) g)
  records_assigned ys ks = ker-counts-roll w _ g assigned_from

  pub records_picked : (ys : List (List ℕ)) (ks : List Ker) → (ker_sized w (made p t (ker.RecForm ys) ks xs) g).counts picked_from ≡ counts_of walked (outside [] (map (ker_sized w) ks) g)
  records_picked ys ks = ker-counts-roll w _ g picked_from

  pub tuples_shape : (ks : List Ker) → (ker_sized w (made p t ker.TupForm ks xs) g).shape
      ≡ row_shape w the_tuples no_literal (shapes_of (outside [] (map (ker_sized w) ks) g))
  tuples_shape ks = ker-shape-roll w _ g

  pub tuples_walked : (ks : List Ker) → (ker_sized w (made p t ker.TupForm ks xs) g).counts walked
      ≡ count_at p (row_shape w the_tuples no_literal (shapes_of (outside [] (map (ker_sized w) ks) g)))
      ++ counts_of walked (outside [] (map (ker_sized w) ks) g)
  tuples_walked ks = ker-counts-roll w _ g walked

  pub tuples_form : (ks : List Ker) → (ker_sized w (made p t ker.TupForm ks xs) g).counts as_form ≡ counts_of as_form (outside [] (map (ker_sized w) ks) g)
  tuples_form ks = ker-counts-roll w _ g as_form

  pub tuples_assigned : (ks : List Ker) → (ker_sized w (made p t ker.TupForm ks xs) g).counts assigned_from ≡ counts_of assigned_from (outside [] (map (ker_sized w) ks) g)
  tuples_assigned ks = ker-counts-roll w _ g assigned_from

  pub tuples_picked : (ks : List Ker) → (ker_sized w (made p t ker.TupForm ks xs) g).counts picked_from ≡ counts_of walked (outside [] (map (ker_sized w) ks) g)
  tuples_picked ks = ker-counts-roll w _ g picked_from

  pub endless_shape : (o : KerOp) → IsTrue (is_endless o) → (ks : List Ker) → (ker_sized w (made p t o ks xs) g).shape ≡ Empty
  endless_shape ker.IntForm h ks = ker-shape-roll w _ g
  endless_shape ker.NatForm h ks = ker-shape-roll w _ g
  endless_shape ker.TextForm h ks = ker-shape-roll w _ g
  endless_shape ker.SeqForm h ks = ker-shape-roll w _ g
  endless_shape o h ks = absurd (false≢true h)

  pub endless_counts : (o : KerOp) → IsTrue (is_endless o) → (ks : List Ker) (q : Position) → (ker_sized w (made p t o ks xs) g).counts q ≡ counts_of as_form (outside [] (map (ker_sized w) ks) g)
  endless_counts ker.IntForm h ks q = ker-counts-roll w _ g q
  endless_counts ker.NatForm h ks q = ker-counts-roll w _ g q
  endless_counts ker.TextForm h ks q = ker-counts-roll w _ g q
  endless_counts ker.SeqForm h ks q = ker-counts-roll w _ g q
  endless_counts o h ks q = absurd (false≢true h)

  pub name_counts : (i : ℕ) (b : Bool) (ks : List Ker) (q : Position) → (ker_sized w (made p t (ker.Name i b) ks xs) g).counts q
      ≡ count_at p (found (option_and_then (λ o. o) (slice_get (if b then g.next else g.now) i))) ++ []
  name_counts i b ks q = ker-counts-roll w _ g q

  pub bound_counts : (n : ℕ) (ks : List Ker) (q : Position) → (ker_sized w (made p t (ker.Bound n) ks xs) g).counts q
      ≡ count_at p (found (find_last (number_name n) g.bound)) ++ []
  bound_counts n ks q = ker-counts-roll w _ g q

  pub no_case_shape : (ks : List Ker) → (ker_sized w (made p t ker.NoCase ks xs) g).shape ≡ Empty
  no_case_shape ks = ker-shape-roll w _ g

  pub no_case_counts : (ks : List Ker) (q : Position) → (ker_sized w (made p t ker.NoCase ks xs) g).counts q ≡ []
  no_case_counts ks q = ker-counts-roll w _ g q

  pub range_counts : (a b : Ker) (ks : List Ker) (q : Position) → (ker_sized w (made p t ker.Range (a ∷ b ∷ ks) xs) g).counts q
      ≡ count_at p (row_shape w a_range (ker_sized w b g).literal ((ker_sized w a g).shape ∷ (ker_sized w b g).shape ∷ []))
      ++ ((ker_sized w a g).counts walked ++ ((ker_sized w b g).counts walked ++ []))
  range_counts a b ks q = ker-counts-roll w _ g q

  pub domain_counts : (f : Ker) (q : Position) → (ker_sized w (made p t ker.Domain (f ∷ []) xs) g).counts q
      ≡ count_at p (row_shape w (domain_row (first_kind (kinds_in f))) no_literal ((ker_sized w f g).shape ∷ [])) ++ ((ker_sized w f g).counts walked ++ [])
  domain_counts f q = ker-counts-roll w _ g q

  pub tuple_counts : (ks : List Ker) (q : Position) → (ker_sized w (made p t ker.TupOf ks xs) g).counts q
      ≡ count_at p (row_shape w (tuple_row (kind_or_truth (kind_of t))) (index_of (outside [] (map (ker_sized w) ks) g)) (shapes_of (outside [] (map (ker_sized w) ks) g)))
      ++ counts_of walked (outside [] (map (ker_sized w) ks) g)
  tuple_counts ks q = ker-counts-roll w _ g q

  pub sequence_shape : (ks : List Ker) → (ker_sized w (made p t ker.SeqOf ks xs) g).shape
      ≡ row_shape w (tuple_row (kind_or_truth (kind_of t))) (index_of (outside [] (map (ker_sized w) ks) g)) (shapes_of (outside [] (map (ker_sized w) ks) g))
  sequence_shape ks = ker-shape-roll w _ g

  pub sequence_counts : (ks : List Ker) (q : Position) → (ker_sized w (made p t ker.SeqOf ks xs) g).counts q
      ≡ count_at p (row_shape w (tuple_row (kind_or_truth (kind_of t))) (index_of (outside [] (map (ker_sized w) ks) g)) (shapes_of (outside [] (map (ker_sized w) ks) g)))
      ++ counts_of walked (outside [] (map (ker_sized w) ks) g)
  sequence_counts ks q = ker-counts-roll w _ g q

  -- ---- constants and literals

  const_shape : (l : Layer Value) (k : Kind) → (sized_node w p (constant l) (names_of xs) [] k [] [] g).shape ≡ constant_shape w l
  const_shape (layer.Bool b) k = refl
  const_shape (layer.Int n) k = refl
  const_shape (layer.Text x) k = refl
  const_shape l k = refl

  const_counts : (l : Layer Value) (k : Kind) (q : Position) → (sized_node w p (constant l) (names_of xs) [] k [] [] g).counts q ≡ []
  const_counts (layer.Bool b) k q = refl
  const_counts (layer.Int n) k q = refl
  const_counts (layer.Text x) k q = refl
  const_counts l k q = refl

  const_literal : (l : Layer Value) (k : Kind) → (sized_node w p (constant l) (names_of xs) [] k [] [] g).literal ≡ constant_literal l
  const_literal (layer.Bool b) k = refl
  const_literal (layer.Int n) k = refl
  const_literal (layer.Text x) k = refl
  const_literal l k = refl

  pub value_shape : (v : Value) (ks : List Ker) → (ker_sized w (made p t (ker.Const v) ks xs) g).shape ≡ constant_shape w (out-Value v)
  value_shape v ks = ker-shape-roll w _ g ∙ const_shape (out-Value v) (kind_or_truth (kind_of t))

  pub value_counts : (v : Value) (ks : List Ker) (q : Position) → (ker_sized w (made p t (ker.Const v) ks xs) g).counts q ≡ []
  value_counts v ks q = ker-counts-roll w _ g q ∙ const_counts (out-Value v) (kind_or_truth (kind_of t)) q

  pub literal_is_of : (o : KerOp) (ks : List Ker) → (ker_sized w (made p t o ks xs) g).literal ≡ literal_at o
  literal_is_of (ker.Const v) ks = ker-literal-roll w _ g ∙ const_literal (out-Value v) (kind_or_truth (kind_of t))
  literal_is_of o ks = ker-literal-roll w _ g
