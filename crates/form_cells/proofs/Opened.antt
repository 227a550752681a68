-- Forms by their kinds: their values, and the sorts of their parts.
use Rattle.std.proofs.Common.{◌≡◌, ℕ, Bool, List, length, map, refl, ◌∙◌, ap, subst}
use Rattle.tla_values.specs.Sets.{elements}
use Rattle.tla_meaning.specs.declared.forms.SetForm.{SetForm}
use Rattle.tla_meaning.specs.declared.forms.SetForm.TheVariants as set
use Rattle.cell_arena.specs.declared.kinds.CellId.{CellId}
use Rattle.cell_arena.specs.declared.kinds.CellKind.{CellKind}
use Rattle.cell_arena.specs.Cells.{Cells}
use Rattle.cell_arena.specs.Decode.{decode}
use Rattle.cell_merge.specs.Sorts.{Sort, OfSort, number, name, set_of, sequence_of, function_of}
use Rattle.typed_cells.specs.FieldOrder.{in_order}
use Rattle.typed_cells.specs.KindSorts.{record_sort, tuple_sort}
use Rattle.form_cells.specs.declared.form.Form.{Form, out-Form, Plain, Ints, Nats, Texts, Sequences, Subsets, Functions, Records, Tuples}
use Rattle.form_cells.specs.declared.form.Form.TheVariants.{outs-Plain, outs-Ints, outs-Nats, outs-Texts, outs-Sequences, outs-Subsets, outs-Functions, outs-Records, outs-Tuples}
use Rattle.form_cells.specs.declared.form.Form.TheOpen as form
use Rattle.form_cells.specs.declared.form.Form.TheFolds.{fold_out-Form, map-Form}
use Rattle.form_cells.specs.FormSorts.{AreFormsOf, HasMembers, IsFormOf, functions, ints, is, nats, plain, records, sequences, subsets, texts, tuples}
use Rattle.form_cells.specs.FormValues.{form_layer, form_value}

-- ---- values

module _ (c : Cells) (a : List Bool) where
  abbrev pub opened_value : form.Form-F Form → SetForm
  opened_value x = form_layer c a (map-Form Form SetForm (form_value c a) x)

  pub value-out : (f : Form) → form_value c a f ≡ opened_value (out-Form f)
  unfolding form_value
  value-out f = fold_out-Form SetForm (form_layer c a) f

  opened : (f g : Form) (x : form.Form-F Form) → f ≡ g → out-Form g ≡ x → form_value c a f ≡ opened_value x
  opened f g x e h = value-out f ∙ ap (λ k. opened_value (out-Form k)) e ∙ ap opened_value h

  pub value-plain : (f : Form) (x : CellId) → f ≡ Plain x → form_value c a f ≡ set.Plain (decode c a x)
  value-plain f x e = opened f (Plain x) (form.Plain x) e (outs-Plain x)

  pub value-ints : (f : Form) → f ≡ Ints → form_value c a f ≡ set.AllInts
  value-ints f e = opened f Ints form.Ints e outs-Ints

  pub value-nats : (f : Form) → f ≡ Nats → form_value c a f ≡ set.AllNats
  value-nats f e = opened f Nats form.Nats e outs-Nats

  pub value-texts : (f : Form) → f ≡ Texts → form_value c a f ≡ set.AllTexts
  value-texts f e = opened f Texts form.Texts e outs-Texts

  pub value-sequences : (f g : Form) → f ≡ Sequences g → form_value c a f ≡ set.Sequences (form_value c a g)
  value-sequences f g e = opened f (Sequences g) (form.Sequences g) e (outs-Sequences g)

  pub value-subsets : (f g : Form) → f ≡ Subsets g → form_value c a f ≡ set.Subsets (form_value c a g)
  value-subsets f g e = opened f (Subsets g) (form.Subsets g) e (outs-Subsets g)

  pub value-functions : (f g : Form) (x : CellId) → f ≡ Functions x g →
      form_value c a f ≡ set.Functions (elements (decode c a x)) (form_value c a g)
  value-functions f g x e = opened f (Functions x g) (form.Functions x g) e (outs-Functions x g)

  pub value-records : (f : Form) (names : List (List ℕ)) (fs : List Form) → f ≡ Records names fs →
      form_value c a f ≡ set.Records names (map (form_value c a) fs)
  value-records f names fs e = opened f (Records names fs) (form.Records names fs) e (outs-Records names fs)

  pub value-tuples : (f : Form) (fs : List Form) → f ≡ Tuples fs → form_value c a f ≡ set.Tuples (map (form_value c a) fs)
  value-tuples f fs e = opened f (Tuples fs) (form.Tuples fs) e (outs-Tuples fs)

-- ---- sorts

pub record FunctionParts (ks : List CellKind) (s : Sort) (x : CellId) (g : Form) : Type 0 where
  pub from : Sort
  pub to : Sort
  pub is : s ≡ function_of from to
  pub domain : OfSort ks (set_of from) x
  pub results : IsFormOf ks to g

pub record RecordParts (ks : List CellKind) (s : Sort) (names : List (List ℕ)) (fs : List Form) : Type 0 where
  pub sorts : List Sort
  pub is : s ≡ record_sort (in_order names sorts)
  pub count : length names ≡ length fs
  pub forms : AreFormsOf ks sorts fs

pub record TupleParts (ks : List CellKind) (s : Sort) (fs : List Form) : Type 0 where
  pub sorts : List Sort
  pub is : s ≡ tuple_sort sorts
  pub forms : AreFormsOf ks sorts fs

module _ (ks : List CellKind) where
  plain-in : (s : Sort) (x : CellId) → HasMembers ks s (form.Plain x) → OfSort ks (set_of s) x
  plain-in s x (plain _ _ h) = h

  ints-in : (s : Sort) → HasMembers ks s form.Ints → s ≡ number
  ints-in s ints = refl

  nats-in : (s : Sort) → HasMembers ks s form.Nats → s ≡ number
  nats-in s nats = refl

  texts-in : (s : Sort) → HasMembers ks s form.Texts → s ≡ name
  texts-in s texts = refl

  sequences-in : (s : Sort) (g : Form) → HasMembers ks s (form.Sequences g) → (t : Sort) × ((s ≡ sequence_of t) × IsFormOf ks t g)
  sequences-in s g (sequences t _ h) = (t, (refl, h))

  subsets-in : (s : Sort) (g : Form) → HasMembers ks s (form.Subsets g) → (t : Sort) × ((s ≡ set_of t) × IsFormOf ks t g)
  subsets-in s g (subsets t _ h) = (t, (refl, h))

  functions-in : (s : Sort) (x : CellId) (g : Form) → HasMembers ks s (form.Functions x g) → FunctionParts ks s x g
  functions-in s x g (functions r t _ _ h k) = record { from = r; to = t; is = refl; domain = h; results = k }

  records-in : (s : Sort) (names : List (List ℕ)) (fs : List Form) → HasMembers ks s (form.Records names fs) → RecordParts ks s names fs
  records-in s names fs (records _ ss _ e h) = record { sorts = ss; is = refl; count = e; forms = h }

  tuples-in : (s : Sort) (fs : List Form) → HasMembers ks s (form.Tuples fs) → TupleParts ks s fs
  tuples-in s fs (tuples ss _ h) = record { sorts = ss; is = refl; forms = h }

  members-in : (s : Sort) (f : Form) → IsFormOf ks s f → HasMembers ks s (out-Form f)
  members-in s f (is _ _ h) = h

  under : (s : Sort) (f g : Form) (x : form.Form-F Form) → IsFormOf ks s f → f ≡ g → out-Form g ≡ x → HasMembers ks s x
  under s f g x h e o = subst (HasMembers ks s) (ap out-Form e ∙ o) (members-in s f h)

  module _ (s : Sort) (f : Form) (h : IsFormOf ks s f) where
    pub sort-plain : (x : CellId) → f ≡ Plain x → OfSort ks (set_of s) x
    sort-plain x e = plain-in s x (under s f (Plain x) (form.Plain x) h e (outs-Plain x))

    pub sort-ints : f ≡ Ints → s ≡ number
    sort-ints e = ints-in s (under s f Ints form.Ints h e outs-Ints)

    pub sort-nats : f ≡ Nats → s ≡ number
    sort-nats e = nats-in s (under s f Nats form.Nats h e outs-Nats)

    pub sort-texts : f ≡ Texts → s ≡ name
    sort-texts e = texts-in s (under s f Texts form.Texts h e outs-Texts)

    pub sort-sequences : (g : Form) → f ≡ Sequences g → (t : Sort) × ((s ≡ sequence_of t) × IsFormOf ks t g)
    sort-sequences g e = sequences-in s g (under s f (Sequences g) (form.Sequences g) h e (outs-Sequences g))

    pub sort-subsets : (g : Form) → f ≡ Subsets g → (t : Sort) × ((s ≡ set_of t) × IsFormOf ks t g)
    sort-subsets g e = subsets-in s g (under s f (Subsets g) (form.Subsets g) h e (outs-Subsets g))

    pub sort-functions : (x : CellId) (g : Form) → f ≡ Functions x g → FunctionParts ks s x g
    sort-functions x g e = functions-in s x g (under s f (Functions x g) (form.Functions x g) h e (outs-Functions x g))

    pub sort-records : (names : List (List ℕ)) (fs : List Form) → f ≡ Records names fs → RecordParts ks s names fs
    sort-records names fs e = records-in s names fs (under s f (Records names fs) (form.Records names fs) h e (outs-Records names fs))

    pub sort-tuples : (fs : List Form) → f ≡ Tuples fs → TupleParts ks s fs
    sort-tuples fs e = tuples-in s fs (under s f (Tuples fs) (form.Tuples fs) h e (outs-Tuples fs))
