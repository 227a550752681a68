-- What belongs to a form of each kind, of a value of its members' sort.
use Rattle.std.proofs.Common.{◌≡◌, ℕ, Bool, true, List, sym, ◌∙◌, ap}
use Rattle.std.specs.Prelude.{◌&&◌}
use Rattle.std.specs.List.{list_all}
use Rattle.tla_values.specs.Sequences.{sequence}
use Rattle.tla_values.specs.Sets.{arguments, elements, member}
use Rattle.tla_values.specs.declared.value.Value.{Value, out-Value}
use Rattle.tla_values.specs.declared.value.Value.TheVariants as value
use Rattle.tla_values.proofs.Members.{elements-set}
use Rattle.tla_meaning.specs.declared.forms.SetForm.{SetForm, out-SetForm}
use Rattle.tla_meaning.specs.declared.forms.SetForm.TheVariants as set
use Rattle.tla_meaning.specs.declared.forms.SetForm.TheOpen as form
use Rattle.tla_meaning.specs.declared.forms.SetForm.TheFolds.{map-SetForm}
use Rattle.tla_meaning.specs.Forms.{all_belong, belongs, fields_at, function_passes, has_fields, is_natural, is_number, is_text, part_belongs, passes, results, same_set, set_passes}
use Rattle.tla_meaning.specs.Shapes.{items_of}
use Rattle.tla_meaning.proofs.MeaningLemmas.{belongs-out}
use Rattle.cell_merge.specs.Arrows.{pairs_of}
use Rattle.function_rewriter.proofs.Composites.{pairs-fun}
use Rattle.outcome_cells.proofs.OneText.{items-numbered, same-numbered}

at : (f g : SetForm) (v : Value) (x : form.SetForm-F SetForm) → f ≡ g → out-SetForm g ≡ x →
    belongs f v ≡ part_belongs (map-SetForm SetForm (Value → Bool) belongs x) v
at f g v x e h = belongs-out f v ∙ ap (λ y. part_belongs (map-SetForm SetForm (Value → Bool) belongs y) v) (ap out-SetForm e ∙ h)

pub passes-set : (test : List Value → Bool) (v : Value) (xs : List Value) → v ≡ value.Set xs → set_passes test (out-Value v) ≡ test (elements v)
passes-set test v xs e =
    ap (λ u. set_passes test (out-Value u)) e ∙ ap (set_passes test) (value.outs-Set xs) ∙ ap test (sym (ap elements e ∙ elements-set xs))

pub passes-fun : (test : List (Value × Value) → Bool) (v : Value) (ps : List (Value × Value)) → v ≡ value.Fun ps →
    function_passes test (out-Value v) ≡ test (pairs_of v)
passes-fun test v ps e =
    ap (λ u. function_passes test (out-Value u)) e ∙ ap (function_passes test) (value.outs-Fun ps) ∙ ap test (sym (ap pairs_of e ∙ pairs-fun ps))

module _ (f : SetForm) (v : Value) where
  pub meant-plain : (u : Value) (xs : List Value) → f ≡ set.Plain u → u ≡ value.Set xs → belongs f v ≡ member v (elements u)
  meant-plain u xs e s = at f (set.Plain u) v (form.Plain u) e (set.outs-Plain u) ∙ passes-set (member v) u xs s

  pub meant-ints : (n : _) → f ≡ set.AllInts → v ≡ value.Int n → belongs f v ≡ true
  meant-ints n e s = at f set.AllInts v form.AllInts e set.outs-AllInts ∙ ap (λ u. is_number (out-Value u)) s ∙ ap is_number (value.outs-Int n)

  pub meant-nats : f ≡ set.AllNats → belongs f v ≡ is_natural (out-Value v)
  meant-nats e = at f set.AllNats v form.AllNats e set.outs-AllNats

  pub meant-texts : (t : List ℕ) → f ≡ set.AllTexts → v ≡ value.Text t → belongs f v ≡ true
  meant-texts t e s = at f set.AllTexts v form.AllTexts e set.outs-AllTexts ∙ ap (λ u. is_text (out-Value u)) s ∙ ap is_text (value.outs-Text t)

  pub meant-subsets : (g : SetForm) (xs : List Value) → f ≡ set.Subsets g → v ≡ value.Set xs → belongs f v ≡ list_all (belongs g) (elements v)
  meant-subsets g xs e s = at f (set.Subsets g) v (form.Subsets g) e (set.outs-Subsets g) ∙ passes-set (list_all (belongs g)) v xs s

  pub meant-functions : (ys : List Value) (g : SetForm) (ps : List (Value × Value)) → f ≡ set.Functions ys g → v ≡ value.Fun ps →
      belongs f v ≡ (same_set ys (arguments (pairs_of v)) && list_all (belongs g) (results (pairs_of v)))
  meant-functions ys g ps e s =
      at f (set.Functions ys g) v (form.Functions ys g) e (set.outs-Functions ys g)
      ∙ passes-fun (λ qs. same_set ys (arguments qs) && list_all (belongs g) (results qs)) v ps s

  sequence-items : (test : List Value → Bool) (vs : List Value) → v ≡ sequence vs →
      function_passes (λ qs. passes test (items_of qs)) (out-Value v) ≡ test vs
  sequence-items test vs s =
      passes-fun (λ qs. passes test (items_of qs)) v _ s
      ∙ ap (λ qs. passes test (items_of qs)) (ap pairs_of s ∙ pairs-fun _ ∙ same-numbered 1 vs)
      ∙ ap (passes test) (items-numbered vs)

  pub meant-sequences : (g : SetForm) (vs : List Value) → f ≡ set.Sequences g → v ≡ sequence vs → belongs f v ≡ list_all (belongs g) vs
  meant-sequences g vs e s =
      at f (set.Sequences g) v (form.Sequences g) e (set.outs-Sequences g) ∙ sequence-items (list_all (belongs g)) vs s

  pub meant-tuples : (gs : List SetForm) (vs : List Value) → f ≡ set.Tuples gs → v ≡ sequence vs → belongs f v ≡ all_belong gs vs
  meant-tuples gs vs e s = at f (set.Tuples gs) v (form.Tuples gs) e (set.outs-Tuples gs) ∙ sequence-items (all_belong gs) vs s

  pub meant-records : (names : List (List ℕ)) (gs : List SetForm) (ps : List (Value × Value)) → f ≡ set.Records names gs → v ≡ value.Fun ps →
      belongs f v ≡ (has_fields names (pairs_of v) && all_belong gs (fields_at names (pairs_of v)))
  meant-records names gs ps e s =
      at f (set.Records names gs) v (form.Records names gs) e (set.outs-Records names gs)
      ∙ passes-fun (λ qs. has_fields names qs && all_belong gs (fields_at names qs)) v ps s
