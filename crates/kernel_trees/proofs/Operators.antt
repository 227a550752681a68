-- The outcome of a kernel node from the outcomes of its children, an operator a lemma: constants, names, early stop, the
-- operators that join their operands, membership; and the form of a node from the forms of its children.
use Rattle.std.proofs.Common.{◌≡◌, ℕ, Bool, true, false, not, List, [], ◌∷◌, ◌++◌, map, length, true≢false, refl, sym, ◌∙◌, ap, ap₂, pos, ◌+ℤ◌, ◌-ℤ◌, ◌*ℤ◌, if◌then◌else◌}
use Rattle.std.specs.Prelude.{int_lt}
use Rattle.tla_values.specs.Order.{Layer, same_value}
use Rattle.tla_values.specs.Sets.{apply, union_of, inter_of, minus}
use Rattle.tla_values.specs.declared.value.Value.{Value, out-Value}
use Rattle.tla_values.specs.declared.value.Value.TheVariants as value
use Rattle.tla_values.specs.declared.value.Value.TheOpen as layer
use Rattle.tla_meaning.specs.declared.op.Op.TheVariants as op
use Rattle.tla_meaning.specs.declared.forms.SetForm.TheVariants as form
use Rattle.tla_meaning.specs.declared.place.Place.{Place}
use Rattle.tla_meaning.specs.declared.job.State.{State}
use Rattle.tla_meaning.specs.declared.outcome.Outcome.{Outcome}
use Rattle.tla_meaning.specs.declared.outcome.Outcome.TheVariants.{Val, Wrong}
use Rattle.tla_meaning.specs.Outcomes.{strict}
use Rattle.tla_meaning.specs.Shapes.{items_of, union_all, subsets, functions, records, tuples, sequence, record_of, the_set, the_function}
use Rattle.tla_meaning.specs.Forms.{Formed, Made, belongs}
use Rattle.tla_meaning.specs.Operators.{table, yes_no, or_wrong, on_truth, on_numbers, on_set, on_sets, on_all_sets, on_function, on_functions, on_sequence, on_sequences, on_two, applied, domain, head_of, tail_of, part_from_to, appended}
use Rattle.tla_meaning.specs.Numbers.{Width, number, quotient, remainder, range}
use Rattle.tla_meaning.specs.Scopes.{Scope, find_last, value_found}
use Rattle.tla_meaning.specs.Meaning.{Meaning, outcomes, forms, outer, read, conjoined, disjoined, choose, in_form, all_in, form_of_one, form_of_all, function_form, plain, role, view}
use Rattle.tla_meaning.specs.Actions.{meaning, denotation_of}
use Rattle.tla_meaning.proofs.MeaningLemmas.{denotation-roll}
use Rattle.tla_meaning.proofs.Views.{false≢true}
use Rattle.snowcat_rows.specs.declared.types.Ty.{Ty}
use Rattle.kernel_trees.specs.declared.kernel.Ker.{Ker, roll-Ker}
use Rattle.kernel_trees.specs.declared.kernel.KerOp.{KerOp}
use Rattle.kernel_trees.specs.declared.kernel.KerOp.TheVariants as ker
use Rattle.kernel_trees.specs.Trees.{literal, constant, names_of, number_name, op_of, ker_val, ker_form}
use Rattle.kernel_trees.proofs.Trees.{ker-roll}
use Rattle.kernel_trees.proofs.Nodes.{all_meanings, sense_at, outcomes_here}

abbrev pub tree : Place → Ty → KerOp → List Ker → List ℕ → Ker
tree p a o ks xs = roll-Ker (record { place = p; ty = a; op = o; args = ks; binds = xs })

-- what a constant gives
abbrev pub constant_value : Width → Place → Layer Value → Outcome
constant_value w p (layer.Bool b) = yes_no b
constant_value w p (layer.Int i) = number w p i
constant_value w p (layer.Text x) = Val (value.Text x)
constant_value w p l = Wrong p

-- an operator that joins all its children, each in the node's scope
abbrev pub is_strict : KerOp → Bool
is_strict (ker.Const v) = false
is_strict (ker.Name i primed) = false
is_strict (ker.Bound n) = false
is_strict ker.And = false
is_strict ker.Or = false
is_strict ker.If = false
is_strict ker.Member = false
is_strict ker.Included = false
is_strict ker.Filter = false
is_strict ker.MapOver = false
is_strict ker.Range = false
is_strict ker.FunOf = false
is_strict ker.Update = false
is_strict (ker.Item i) = false
is_strict ker.FoldLeft = false
is_strict ker.Some = false
is_strict ker.Every = false
is_strict ker.NoCase = false
is_strict o = true

module _ (w : Width) (s t : State) where
  abbrev pub vals : List Ker → Scope → List Outcome
  vals ks sc = map (λ k. ker_val w k sc s t) ks

  abbrev pub set_forms : List Ker → Scope → List Formed
  set_forms ks sc = map (λ k. ker_form w k sc s t) ks

  -- every operator by its node
  pub by_node : (p : Place) (a : Ty) (o : KerOp) (ks : List Ker) (xs : List ℕ) (sc : Scope) →
      ker_val w (tree p a o ks xs) sc s t ≡ (sense_at w p o (length (names_of xs)) xs ks sc).value s t
  by_node p a o ks xs sc =
      ap (λ (k : Meaning). (k sc).value s t) (ker-roll w (record { place = p; ty = a; op = o; args = ks; binds = xs }))

  pub form_by_node : (p : Place) (a : Ty) (o : KerOp) (ks : List Ker) (xs : List ℕ) (sc : Scope) →
      ker_form w (tree p a o ks xs) sc s t ≡ (sense_at w p o (length (names_of xs)) xs ks sc).form s t
  form_by_node p a o ks xs sc =
      ap (λ (k : Meaning). (k sc).form s t) (ker-roll w (record { place = p; ty = a; op = o; args = ks; binds = xs }))

  pub forms_here : (p : Place) (ks : List Ker) (sc : Scope) → forms (outer p [] (all_meanings w ks) sc) s t ≡ set_forms ks sc
  forms_here p [] sc = refl
  forms_here p (k ∷ ks) sc = ap (λ (fs : List Formed). ker_form w k sc s t ∷ fs) (forms_here p ks sc)

  -- ---- constants and names

  at_constant : (p : Place) (l : Layer Value) (n : ℕ) (xs : List (List ℕ)) (sc : Scope) →
      (denotation_of w p (constant l) n (view p (role (constant l) n) xs [] sc)).value s t ≡ constant_value w p l
  at_constant p (layer.Bool b) n xs sc = refl
  at_constant p (layer.Int i) n xs sc = refl
  at_constant p (layer.Text x) n xs sc = refl
  at_constant p (layer.Set vs) n xs sc = refl
  at_constant p (layer.Fun ps) n xs sc = refl

  pub val_const : (p : Place) (a : Ty) (v : Value) (ks : List Ker) (xs : List ℕ) (sc : Scope) →
      ker_val w (tree p a (ker.Const v) ks xs) sc s t ≡ constant_value w p (out-Value v)
  val_const p a v ks xs sc =
      by_node p a (ker.Const v) ks xs sc ∙ at_constant p (out-Value v) (length (names_of xs)) (names_of xs) sc

  pub val_name : (p : Place) (a : Ty) (i : ℕ) (primed : Bool) (ks : List Ker) (xs : List ℕ) (sc : Scope) →
      ker_val w (tree p a (ker.Name i primed) ks xs) sc s t ≡ read p i (if primed then t else s)
  val_name p a i primed ks xs sc = by_node p a (ker.Name i primed) ks xs sc

  pub val_bound : (p : Place) (a : Ty) (n : ℕ) (ks : List Ker) (xs : List ℕ) (sc : Scope) →
      ker_val w (tree p a (ker.Bound n) ks xs) sc s t ≡ value_found p (find_last (number_name n) sc.bound)
  val_bound p a n ks xs sc = by_node p a (ker.Bound n) ks xs sc

  pub val_nocase : (p : Place) (a : Ty) (ks : List Ker) (xs : List ℕ) (sc : Scope) → ker_val w (tree p a ker.NoCase ks xs) sc s t ≡ Wrong p
  val_nocase p a ks xs sc = by_node p a ker.NoCase ks xs sc

  -- ---- early stop

  pub val_and : (p : Place) (a : Ty) (ks : List Ker) (xs : List ℕ) (sc : Scope) →
      ker_val w (tree p a ker.And ks xs) sc s t ≡ conjoined p (vals ks sc)
  val_and p a ks xs sc = by_node p a ker.And ks xs sc ∙ ap (conjoined p) (outcomes_here w p ks sc s t)

  pub val_or : (p : Place) (a : Ty) (ks : List Ker) (xs : List ℕ) (sc : Scope) →
      ker_val w (tree p a ker.Or ks xs) sc s t ≡ disjoined p (vals ks sc)
  val_or p a ks xs sc = by_node p a ker.Or ks xs sc ∙ ap (disjoined p) (outcomes_here w p ks sc s t)

  pub val_if : (p : Place) (a : Ty) (c x y : Ker) (xs : List ℕ) (sc : Scope) →
      ker_val w (tree p a ker.If (c ∷ x ∷ y ∷ []) xs) sc s t ≡ choose p (ker_val w c sc s t) (ker_val w x sc s t) (ker_val w y sc s t)
  val_if p a c x y xs sc = by_node p a ker.If (c ∷ x ∷ y ∷ []) xs sc

  -- ---- operators that join their operands

  at_strict : (p : Place) (o : KerOp) (n : ℕ) (ks : List Ker) (xs : List ℕ) (sc : Scope) → is_strict o ≡ true →
      (sense_at w p o n xs ks sc).value s t ≡ strict (outcomes (outer p [] (all_meanings w ks) sc) s t) (table w p (op_of o))
  at_strict p (ker.Const v) n ks xs sc h = absurd (false≢true h)
  at_strict p (ker.Name i primed) n ks xs sc h = absurd (false≢true h)
  at_strict p (ker.Bound m) n ks xs sc h = absurd (false≢true h)
  at_strict p ker.And n ks xs sc h = absurd (false≢true h)
  at_strict p ker.Or n ks xs sc h = absurd (false≢true h)
  at_strict p ker.If n ks xs sc h = absurd (false≢true h)
  at_strict p ker.Member n ks xs sc h = absurd (false≢true h)
  at_strict p ker.Included n ks xs sc h = absurd (false≢true h)
  at_strict p ker.Filter n ks xs sc h = absurd (false≢true h)
  at_strict p ker.MapOver n ks xs sc h = absurd (false≢true h)
  at_strict p ker.Range n ks xs sc h = absurd (false≢true h)
  at_strict p ker.FunOf n ks xs sc h = absurd (false≢true h)
  at_strict p ker.Update n ks xs sc h = absurd (false≢true h)
  at_strict p (ker.Item i) n ks xs sc h = absurd (false≢true h)
  at_strict p ker.FoldLeft n ks xs sc h = absurd (false≢true h)
  at_strict p ker.Some n ks xs sc h = absurd (false≢true h)
  at_strict p ker.Every n ks xs sc h = absurd (false≢true h)
  at_strict p ker.NoCase n ks xs sc h = absurd (false≢true h)
  at_strict p o n ks xs sc h = refl

  pub val_strict : (p : Place) (a : Ty) (o : KerOp) (ks : List Ker) (xs : List ℕ) (sc : Scope) → is_strict o ≡ true →
      ker_val w (tree p a o ks xs) sc s t ≡ strict (vals ks sc) (table w p (op_of o))
  val_strict p a o ks xs sc h =
      by_node p a o ks xs sc
      ∙ at_strict p o (length (names_of xs)) ks xs sc h
      ∙ ap (λ (os : List Outcome). strict os (table w p (op_of o))) (outcomes_here w p ks sc s t)

  pub val_not : (p : Place) (a : Ty) (ks : List Ker) (xs : List ℕ) (sc : Scope) →
      ker_val w (tree p a ker.Not ks xs) sc s t ≡ strict (vals ks sc) (λ vs. on_truth p (λ x. yes_no (not x)) (map out-Value vs))
  val_not p a ks xs sc = val_strict p a ker.Not ks xs sc refl

  pub val_equal : (p : Place) (a : Ty) (ks : List Ker) (xs : List ℕ) (sc : Scope) →
      ker_val w (tree p a ker.Equal ks xs) sc s t ≡ strict (vals ks sc) (λ vs. on_two p (λ x y. yes_no (same_value x y)) vs)
  val_equal p a ks xs sc = val_strict p a ker.Equal ks xs sc refl

  pub val_less : (p : Place) (a : Ty) (ks : List Ker) (xs : List ℕ) (sc : Scope) →
      ker_val w (tree p a ker.Less ks xs) sc s t ≡ strict (vals ks sc) (λ vs. on_numbers p (λ x y. yes_no (int_lt x y)) (map out-Value vs))
  val_less p a ks xs sc = val_strict p a ker.Less ks xs sc refl

  pub val_plus : (p : Place) (a : Ty) (ks : List Ker) (xs : List ℕ) (sc : Scope) →
      ker_val w (tree p a ker.Plus ks xs) sc s t ≡ strict (vals ks sc) (λ vs. on_numbers p (λ x y. number w p (x +ℤ y)) (map out-Value vs))
  val_plus p a ks xs sc = val_strict p a ker.Plus ks xs sc refl

  pub val_minus : (p : Place) (a : Ty) (ks : List Ker) (xs : List ℕ) (sc : Scope) →
      ker_val w (tree p a ker.Minus ks xs) sc s t ≡ strict (vals ks sc) (λ vs. on_numbers p (λ x y. number w p (x -ℤ y)) (map out-Value vs))
  val_minus p a ks xs sc = val_strict p a ker.Minus ks xs sc refl

  pub val_times : (p : Place) (a : Ty) (ks : List Ker) (xs : List ℕ) (sc : Scope) →
      ker_val w (tree p a ker.Times ks xs) sc s t ≡ strict (vals ks sc) (λ vs. on_numbers p (λ x y. number w p (x *ℤ y)) (map out-Value vs))
  val_times p a ks xs sc = val_strict p a ker.Times ks xs sc refl

  pub val_quotient : (p : Place) (a : Ty) (ks : List Ker) (xs : List ℕ) (sc : Scope) →
      ker_val w (tree p a ker.Quotient ks xs) sc s t ≡ strict (vals ks sc) (λ vs. on_numbers p (quotient w p) (map out-Value vs))
  val_quotient p a ks xs sc = val_strict p a ker.Quotient ks xs sc refl

  pub val_remainder : (p : Place) (a : Ty) (ks : List Ker) (xs : List ℕ) (sc : Scope) →
      ker_val w (tree p a ker.Remainder ks xs) sc s t ≡ strict (vals ks sc) (λ vs. on_numbers p (remainder w p) (map out-Value vs))
  val_remainder p a ks xs sc = val_strict p a ker.Remainder ks xs sc refl

  pub val_set : (p : Place) (a : Ty) (ks : List Ker) (xs : List ℕ) (sc : Scope) →
      ker_val w (tree p a ker.SetOf ks xs) sc s t ≡ strict (vals ks sc) (λ vs. Val (the_set vs))
  val_set p a ks xs sc = val_strict p a ker.SetOf ks xs sc refl

  pub val_flatten : (p : Place) (a : Ty) (ks : List Ker) (xs : List ℕ) (sc : Scope) →
      ker_val w (tree p a ker.Flatten ks xs) sc s t ≡ strict (vals ks sc) (λ vs. on_set p (on_all_sets p (λ xss. Val (value.Set (union_all xss)))) (map out-Value vs))
  val_flatten p a ks xs sc = val_strict p a ker.Flatten ks xs sc refl

  pub val_union : (p : Place) (a : Ty) (ks : List Ker) (xs : List ℕ) (sc : Scope) →
      ker_val w (tree p a ker.Union ks xs) sc s t ≡ strict (vals ks sc) (λ vs. on_sets p (λ xs ys. Val (value.Set (union_of xs ys))) (map out-Value vs))
  val_union p a ks xs sc = val_strict p a ker.Union ks xs sc refl

  pub val_inter : (p : Place) (a : Ty) (ks : List Ker) (xs : List ℕ) (sc : Scope) →
      ker_val w (tree p a ker.Inter ks xs) sc s t ≡ strict (vals ks sc) (λ vs. on_sets p (λ xs ys. Val (value.Set (inter_of xs ys))) (map out-Value vs))
  val_inter p a ks xs sc = val_strict p a ker.Inter ks xs sc refl

  pub val_without : (p : Place) (a : Ty) (ks : List Ker) (xs : List ℕ) (sc : Scope) →
      ker_val w (tree p a ker.Without ks xs) sc s t ≡ strict (vals ks sc) (λ vs. on_sets p (λ xs ys. Val (value.Set (minus xs ys))) (map out-Value vs))
  val_without p a ks xs sc = val_strict p a ker.Without ks xs sc refl

  pub val_subsets : (p : Place) (a : Ty) (ks : List Ker) (xs : List ℕ) (sc : Scope) →
      ker_val w (tree p a ker.Subsets ks xs) sc s t ≡ strict (vals ks sc) (λ vs. on_set p (λ xs. Val (subsets xs)) (map out-Value vs))
  val_subsets p a ks xs sc = val_strict p a ker.Subsets ks xs sc refl

  pub val_functions : (p : Place) (a : Ty) (ks : List Ker) (xs : List ℕ) (sc : Scope) →
      ker_val w (tree p a ker.Functions ks xs) sc s t ≡ strict (vals ks sc) (λ vs. on_sets p (λ xs ys. Val (functions xs ys)) (map out-Value vs))
  val_functions p a ks xs sc = val_strict p a ker.Functions ks xs sc refl

  pub val_count : (p : Place) (a : Ty) (ks : List Ker) (xs : List ℕ) (sc : Scope) →
      ker_val w (tree p a ker.Count ks xs) sc s t ≡ strict (vals ks sc) (λ vs. on_set p (λ xs. number w p (pos (length xs))) (map out-Value vs))
  val_count p a ks xs sc = val_strict p a ker.Count ks xs sc refl

  pub val_at : (p : Place) (a : Ty) (ks : List Ker) (xs : List ℕ) (sc : Scope) →
      ker_val w (tree p a ker.At ks xs) sc s t ≡ strict (vals ks sc) (λ vs. on_two p (λ f x. applied p (out-Value f) x) vs)
  val_at p a ks xs sc = val_strict p a ker.At ks xs sc refl

  pub val_domain : (p : Place) (a : Ty) (ks : List Ker) (xs : List ℕ) (sc : Scope) →
      ker_val w (tree p a ker.Domain ks xs) sc s t ≡ strict (vals ks sc) (λ vs. on_function p (λ ps. domain w p ps (items_of ps)) (map out-Value vs))
  val_domain p a ks xs sc = val_strict p a ker.Domain ks xs sc refl

  pub val_join : (p : Place) (a : Ty) (ks : List Ker) (xs : List ℕ) (sc : Scope) →
      ker_val w (tree p a ker.Join ks xs) sc s t ≡ strict (vals ks sc) (λ vs. on_functions p (λ ps qs. Val (the_function (ps ++ qs))) (map out-Value vs))
  val_join p a ks xs sc = val_strict p a ker.Join ks xs sc refl

  pub val_tuple : (p : Place) (a : Ty) (ks : List Ker) (xs : List ℕ) (sc : Scope) →
      ker_val w (tree p a ker.TupOf ks xs) sc s t ≡ strict (vals ks sc) (λ vs. Val (sequence vs))
  val_tuple p a ks xs sc = val_strict p a ker.TupOf ks xs sc refl

  pub val_record : (p : Place) (a : Ty) (names : List (List ℕ)) (ks : List Ker) (xs : List ℕ) (sc : Scope) →
      ker_val w (tree p a (ker.RecOf names) ks xs) sc s t ≡ strict (vals ks sc) (λ vs. Val (record_of names vs))
  val_record p a names ks xs sc = val_strict p a (ker.RecOf names) ks xs sc refl

  pub val_field : (p : Place) (a : Ty) (name : List ℕ) (ks : List Ker) (xs : List ℕ) (sc : Scope) →
      ker_val w (tree p a (ker.FieldOf name) ks xs) sc s t ≡ strict (vals ks sc) (λ vs. on_function p (λ ps. or_wrong p (apply ps (value.Text name))) (map out-Value vs))
  val_field p a name ks xs sc = val_strict p a (ker.FieldOf name) ks xs sc refl

  pub val_sequence : (p : Place) (a : Ty) (ks : List Ker) (xs : List ℕ) (sc : Scope) →
      ker_val w (tree p a ker.SeqOf ks xs) sc s t ≡ strict (vals ks sc) (λ vs. Val (sequence vs))
  val_sequence p a ks xs sc = val_strict p a ker.SeqOf ks xs sc refl

  pub val_length : (p : Place) (a : Ty) (ks : List Ker) (xs : List ℕ) (sc : Scope) →
      ker_val w (tree p a ker.Length ks xs) sc s t ≡ strict (vals ks sc) (λ vs. on_sequence p (λ xs. number w p (pos (length xs))) (map out-Value vs))
  val_length p a ks xs sc = val_strict p a ker.Length ks xs sc refl

  pub val_push : (p : Place) (a : Ty) (ks : List Ker) (xs : List ℕ) (sc : Scope) →
      ker_val w (tree p a ker.Push ks xs) sc s t ≡ strict (vals ks sc) (λ vs. appended p (map out-Value vs) vs)
  val_push p a ks xs sc = val_strict p a ker.Push ks xs sc refl

  pub val_first : (p : Place) (a : Ty) (ks : List Ker) (xs : List ℕ) (sc : Scope) →
      ker_val w (tree p a ker.First ks xs) sc s t ≡ strict (vals ks sc) (λ vs. on_sequence p (head_of p) (map out-Value vs))
  val_first p a ks xs sc = val_strict p a ker.First ks xs sc refl

  pub val_rest : (p : Place) (a : Ty) (ks : List Ker) (xs : List ℕ) (sc : Scope) →
      ker_val w (tree p a ker.Rest ks xs) sc s t ≡ strict (vals ks sc) (λ vs. on_sequence p (tail_of p) (map out-Value vs))
  val_rest p a ks xs sc = val_strict p a ker.Rest ks xs sc refl

  pub val_slice : (p : Place) (a : Ty) (ks : List Ker) (xs : List ℕ) (sc : Scope) →
      ker_val w (tree p a ker.Slice ks xs) sc s t ≡ strict (vals ks sc) (λ vs. part_from_to p (map out-Value vs))
  val_slice p a ks xs sc = val_strict p a ker.Slice ks xs sc refl

  pub val_glue : (p : Place) (a : Ty) (ks : List Ker) (xs : List ℕ) (sc : Scope) →
      ker_val w (tree p a ker.Glue ks xs) sc s t ≡ strict (vals ks sc) (λ vs. on_sequences p (λ xs ys. Val (sequence (xs ++ ys))) (map out-Value vs))
  val_glue p a ks xs sc = val_strict p a ker.Glue ks xs sc refl

  pub val_records : (p : Place) (a : Ty) (names : List (List ℕ)) (ks : List Ker) (xs : List ℕ) (sc : Scope) →
      ker_val w (tree p a (ker.RecForm names) ks xs) sc s t ≡ strict (vals ks sc) (λ vs. on_all_sets p (λ xss. Val (records names xss)) vs)
  val_records p a names ks xs sc = val_strict p a (ker.RecForm names) ks xs sc refl

  pub val_tuples : (p : Place) (a : Ty) (ks : List Ker) (xs : List ℕ) (sc : Scope) →
      ker_val w (tree p a ker.TupForm ks xs) sc s t ≡ strict (vals ks sc) (λ vs. on_all_sets p (λ xss. Val (tuples xss)) vs)
  val_tuples p a ks xs sc = val_strict p a ker.TupForm ks xs sc refl

  -- infinite sets are no values
  pub val_ints : (p : Place) (a : Ty) (xs : List ℕ) (sc : Scope) → ker_val w (tree p a ker.IntForm [] xs) sc s t ≡ Wrong p
  val_ints p a xs sc = by_node p a ker.IntForm [] xs sc

  pub val_nats : (p : Place) (a : Ty) (xs : List ℕ) (sc : Scope) → ker_val w (tree p a ker.NatForm [] xs) sc s t ≡ Wrong p
  val_nats p a xs sc = by_node p a ker.NatForm [] xs sc

  pub val_texts : (p : Place) (a : Ty) (xs : List ℕ) (sc : Scope) → ker_val w (tree p a ker.TextForm [] xs) sc s t ≡ Wrong p
  val_texts p a xs sc = by_node p a ker.TextForm [] xs sc

  pub val_sequences : (p : Place) (a : Ty) (ks : List Ker) (xs : List ℕ) (sc : Scope) →
      ker_val w (tree p a ker.SeqForm ks xs) sc s t ≡ strict (vals ks sc) (λ vs. Wrong p)
  val_sequences p a ks xs sc = val_strict p a ker.SeqForm ks xs sc refl

  -- ---- what is not read, and what is read besides

  -- a range passes over its bounds
  pub val_range : (p : Place) (a : Ty) (x y : Ker) (bounds : List Ker) (xs : List ℕ) (sc : Scope) →
      ker_val w (tree p a ker.Range (x ∷ y ∷ bounds) xs) sc s t
      ≡ strict (vals (x ∷ y ∷ []) sc) (λ vs. on_numbers p (λ m n. Val (value.Set (range m n))) (map out-Value vs))
  val_range p a x y bounds xs sc = by_node p a ker.Range (x ∷ y ∷ bounds) xs sc

  literal_val : (p : Place) (i : ℕ) (sc : Scope) → (meaning w (literal p i) sc).value s t ≡ number w p (pos i)
  literal_val p i sc = ap (λ a. a.value s t) (denotation-roll w _ sc)

  -- an item is that of the literal number, which may be outside the width
  pub val_item : (p : Place) (a : Ty) (i : ℕ) (x : Ker) (xs : List ℕ) (sc : Scope) →
      ker_val w (tree p a (ker.Item i) (x ∷ []) xs) sc s t
      ≡ strict (ker_val w x sc s t ∷ number w p (pos i) ∷ []) (λ vs. on_two p (λ f x. applied p (out-Value f) x) vs)
  val_item p a i x xs sc =
      by_node p a (ker.Item i) (x ∷ []) xs sc
      ∙ ap (λ (o : Outcome). strict (ker_val w x sc s t ∷ o ∷ []) (table w p op.Apply)) (literal_val p i sc)

  -- ---- membership and inclusion, in a set form

  pub val_member : (p : Place) (a : Ty) (ks : List Ker) (xs : List ℕ) (sc : Scope) →
      ker_val w (tree p a ker.Member ks xs) sc s t ≡ in_form p (λ v f. yes_no (belongs f v)) (vals ks sc) (set_forms ks sc)
  val_member p a ks xs sc =
      by_node p a ker.Member ks xs sc
      ∙ ap₂ (in_form p (λ v f. yes_no (belongs f v))) (outcomes_here w p ks sc s t) (forms_here p ks sc)

  pub val_included : (p : Place) (a : Ty) (ks : List Ker) (xs : List ℕ) (sc : Scope) →
      ker_val w (tree p a ker.Included ks xs) sc s t ≡ in_form p (all_in p) (vals ks sc) (set_forms ks sc)
  val_included p a ks xs sc =
      by_node p a ker.Included ks xs sc ∙ ap₂ (in_form p (all_in p)) (outcomes_here w p ks sc s t) (forms_here p ks sc)

  -- ---- set forms

  pub form_ints : (p : Place) (a : Ty) (ks : List Ker) (xs : List ℕ) (sc : Scope) →
      ker_form w (tree p a ker.IntForm ks xs) sc s t ≡ Made form.AllInts
  form_ints p a ks xs sc = form_by_node p a ker.IntForm ks xs sc

  pub form_nats : (p : Place) (a : Ty) (ks : List Ker) (xs : List ℕ) (sc : Scope) →
      ker_form w (tree p a ker.NatForm ks xs) sc s t ≡ Made form.AllNats
  form_nats p a ks xs sc = form_by_node p a ker.NatForm ks xs sc

  pub form_texts : (p : Place) (a : Ty) (ks : List Ker) (xs : List ℕ) (sc : Scope) →
      ker_form w (tree p a ker.TextForm ks xs) sc s t ≡ Made form.AllTexts
  form_texts p a ks xs sc = form_by_node p a ker.TextForm ks xs sc

  pub form_sequences : (p : Place) (a : Ty) (ks : List Ker) (xs : List ℕ) (sc : Scope) →
      ker_form w (tree p a ker.SeqForm ks xs) sc s t ≡ form_of_one p form.Sequences (set_forms ks sc)
  form_sequences p a ks xs sc = form_by_node p a ker.SeqForm ks xs sc ∙ ap (form_of_one p form.Sequences) (forms_here p ks sc)

  pub form_subsets : (p : Place) (a : Ty) (ks : List Ker) (xs : List ℕ) (sc : Scope) →
      ker_form w (tree p a ker.Subsets ks xs) sc s t ≡ form_of_one p form.Subsets (set_forms ks sc)
  form_subsets p a ks xs sc = form_by_node p a ker.Subsets ks xs sc ∙ ap (form_of_one p form.Subsets) (forms_here p ks sc)

  pub form_functions : (p : Place) (a : Ty) (ks : List Ker) (xs : List ℕ) (sc : Scope) →
      ker_form w (tree p a ker.Functions ks xs) sc s t ≡ function_form p (vals ks sc) (set_forms ks sc)
  form_functions p a ks xs sc =
      form_by_node p a ker.Functions ks xs sc ∙ ap₂ (function_form p) (outcomes_here w p ks sc s t) (forms_here p ks sc)

  pub form_records : (p : Place) (a : Ty) (names : List (List ℕ)) (ks : List Ker) (xs : List ℕ) (sc : Scope) →
      ker_form w (tree p a (ker.RecForm names) ks xs) sc s t ≡ form_of_all p (form.Records names) (set_forms ks sc)
  form_records p a names ks xs sc =
      form_by_node p a (ker.RecForm names) ks xs sc ∙ ap (form_of_all p (form.Records names)) (forms_here p ks sc)

  pub form_tuples : (p : Place) (a : Ty) (ks : List Ker) (xs : List ℕ) (sc : Scope) →
      ker_form w (tree p a ker.TupForm ks xs) sc s t ≡ form_of_all p form.Tuples (set_forms ks sc)
  form_tuples p a ks xs sc = form_by_node p a ker.TupForm ks xs sc ∙ ap (form_of_all p form.Tuples) (forms_here p ks sc)

  -- every other tree is a set by its value
  abbrev pub is_form : KerOp → Bool
  is_form ker.IntForm = true
  is_form ker.NatForm = true
  is_form ker.TextForm = true
  is_form ker.SeqForm = true
  is_form ker.Subsets = true
  is_form ker.Functions = true
  is_form (ker.RecForm names) = true
  is_form ker.TupForm = true
  is_form o = false

  constant_plain : (p : Place) (l : Layer Value) (n : ℕ) (xs : List (List ℕ)) (sc : Scope) →
      (denotation_of w p (constant l) n (view p (role (constant l) n) xs [] sc)).form s t
      ≡ plain ((denotation_of w p (constant l) n (view p (role (constant l) n) xs [] sc)).value s t)
  constant_plain p (layer.Bool b) n xs sc = refl
  constant_plain p (layer.Int i) n xs sc = refl
  constant_plain p (layer.Text x) n xs sc = refl
  constant_plain p (layer.Set vs) n xs sc = refl
  constant_plain p (layer.Fun ps) n xs sc = refl

  at_plain : (p : Place) (o : KerOp) (n : ℕ) (ks : List Ker) (xs : List ℕ) (sc : Scope) → is_form o ≡ false →
      (sense_at w p o n xs ks sc).form s t ≡ plain ((sense_at w p o n xs ks sc).value s t)
  at_plain p (ker.Const v) n ks xs sc h = constant_plain p (out-Value v) n (names_of xs) sc
  at_plain p ker.NoCase n ks xs sc h = refl
  at_plain p ker.IntForm n ks xs sc h = absurd (true≢false h)
  at_plain p ker.NatForm n ks xs sc h = absurd (true≢false h)
  at_plain p ker.TextForm n ks xs sc h = absurd (true≢false h)
  at_plain p ker.SeqForm n ks xs sc h = absurd (true≢false h)
  at_plain p ker.Subsets n ks xs sc h = absurd (true≢false h)
  at_plain p ker.Functions n ks xs sc h = absurd (true≢false h)
  at_plain p (ker.RecForm names) n ks xs sc h = absurd (true≢false h)
  at_plain p ker.TupForm n ks xs sc h = absurd (true≢false h)
  at_plain p o n ks xs sc h = refl

  pub form_plain : (p : Place) (a : Ty) (o : KerOp) (ks : List Ker) (xs : List ℕ) (sc : Scope) → is_form o ≡ false →
      ker_form w (tree p a o ks xs) sc s t ≡ plain (ker_val w (tree p a o ks xs) sc s t)
  form_plain p a o ks xs sc h =
      form_by_node p a o ks xs sc
      ∙ at_plain p o (length (names_of xs)) ks xs sc h
      ∙ ap plain (sym (by_node p a o ks xs sc))
