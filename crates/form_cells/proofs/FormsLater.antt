-- Forms once more is built: their sorts and values stay, and so does what they show.
use Rattle.std.proofs.Common.{◌≡◌, Bool, true, List, ◌∷◌, map, refl, sym, ◌∙◌, ap, ap₂, arith}
use Rattle.tla_values.specs.Sets.{elements}
use Rattle.tla_values.specs.declared.value.Value.{Value, out-Value}
use Rattle.tla_values.specs.declared.value.Value.TheVariants as value
use Rattle.tla_meaning.specs.declared.forms.SetForm.TheVariants as set
use Rattle.tla_meaning.specs.Forms.{Formed, is_plain_set, is_set, is_set_form}
use Rattle.cell_arena.specs.declared.build.Build.{Build}
use Rattle.cell_arena.specs.declared.kinds.CellId.{CellId}
use Rattle.cell_arena.specs.Cells.{Cells, WellBuilt}
use Rattle.cell_arena.specs.Decode.{decode, kind_value}
use Rattle.cell_arena.specs.Growth.{Grows}
use Rattle.cell_arena.proofs.Decoding.{decode-kind}
use Rattle.cell_arena.proofs.Growing.{decode-before}
use Rattle.cell_merge.specs.Sorts.{Sort, OfSort, set_of}
use Rattle.cell_merge.proofs.Edges.{is-set, sort-there}
use Rattle.cell_merge.proofs.SortLaws.{OfSort-later}
use Rattle.form_cells.specs.declared.form.Form.{Form, out-Form}
use Rattle.form_cells.specs.declared.form.Form.TheOpen as form
use Rattle.form_cells.specs.declared.form.FormCells.{FormCells}
use Rattle.form_cells.specs.FormSorts.{AreForms, AreFormsOf, HasMembers, IsFormOf, functions, ints, is, more, nats, none, plain, records, sequences, subsets, texts, tuples}
use Rattle.form_cells.specs.FormValues.{ShowsForm, form_value}
use Rattle.form_cells.proofs.Opened.{opened_value, value-out}

module _ (b c : Build) (g : Grows b c) where
  mutual
    pub IsFormOf-later : (s : Sort) (f : Form) → IsFormOf b.arena.kinds s f → IsFormOf c.arena.kinds s f
    IsFormOf-later s f (is _ _ h) = is s f (members-later s (out-Form f) h)

    members-later : (s : Sort) (x : form.Form-F Form) → HasMembers b.arena.kinds s x → HasMembers c.arena.kinds s x
    members-later s x (plain _ y h) = plain s y (OfSort-later b c (set_of s) y h g)
    members-later s x ints = ints
    members-later s x nats = nats
    members-later s x texts = texts
    members-later s x (sequences t f h) = sequences t f (IsFormOf-later t f h)
    members-later s x (subsets t f h) = subsets t f (IsFormOf-later t f h)
    members-later s x (functions r t y f h k) = functions r t y f (OfSort-later b c (set_of r) y h g) (IsFormOf-later t f k)
    members-later s x (records names ss fs e h) = records names ss fs e (AreFormsOf-later ss fs h)
    members-later s x (tuples ss fs h) = tuples ss fs (AreFormsOf-later ss fs h)

    pub AreFormsOf-later : (ss : List Sort) (fs : List Form) → AreFormsOf b.arena.kinds ss fs → AreFormsOf c.arena.kinds ss fs
    AreFormsOf-later ss fs none = none
    AreFormsOf-later ss fs (more s rs f gs h k) = more s rs f gs (IsFormOf-later s f h) (AreFormsOf-later rs gs k)

  older : (a : List Bool) (s : Sort) (x : CellId) → OfSort b.arena.kinds (set_of s) x → decode c.arena a x ≡ decode b.arena a x
  older a s x h = decode-before b c a x g (sort-there b.arena.kinds (set_of s) x h)

  module _ (a : List Bool) where
    mutual
      pub value-later : (s : Sort) (f : Form) → IsFormOf b.arena.kinds s f → form_value c.arena a f ≡ form_value b.arena a f
      value-later s f (is _ _ h) = value-out c.arena a f ∙ opened-later s (out-Form f) h ∙ sym (value-out b.arena a f)

      opened-later : (s : Sort) (x : form.Form-F Form) → HasMembers b.arena.kinds s x → opened_value c.arena a x ≡ opened_value b.arena a x
      opened-later s x (plain _ y h) = ap set.Plain (older a s y h)
      opened-later s x ints = refl
      opened-later s x nats = refl
      opened-later s x texts = refl
      opened-later s x (sequences t f h) = ap set.Sequences (value-later t f h)
      opened-later s x (subsets t f h) = ap set.Subsets (value-later t f h)
      opened-later s x (functions r t y f h k) = ap₂ (λ v u. set.Functions (elements v) u) (older a r y h) (value-later t f k)
      opened-later s x (records names ss fs e h) = ap (set.Records names) (values-later ss fs h)
      opened-later s x (tuples ss fs h) = ap set.Tuples (values-later ss fs h)

      pub values-later : (ss : List Sort) (fs : List Form) → AreFormsOf b.arena.kinds ss fs →
          map (form_value c.arena a) fs ≡ map (form_value b.arena a) fs
      values-later ss fs none = refl
      values-later ss fs (more s rs f gs h k) = ap₂ (λ v vs. v ∷ vs) (value-later s f h) (values-later rs gs k)

    -- what is shown stays so
    pub ShowsForm-later : (s : Sort) (x : FormCells) (o : Formed) → IsFormOf b.arena.kinds s x.form → ShowsForm b.arena a x o →
        ShowsForm c.arena a x o
    ShowsForm-later s x o h shows = record {
      shown = record { wrong = shows.shown.wrong; big = shows.shown.big; form = λ f e. value-later s x.form h ∙ shows.shown.form f e };
    }

  pub AreForms-later : (s : Sort) (x : FormCells) → AreForms b s x → AreForms c s x
  AreForms-later s x h = let n = g.formula.vars in let p = h.wrong in let q = h.big in record {
    form = IsFormOf-later s x.form h.form;
    wrong = omega arith;
    big = omega arith;
  }

-- ---- forms of sorts are set forms

module _ (c : Cells) (a : List Bool) (built : WellBuilt c) where
  pub record SetValue (v : Value) : Type 0 where
    pub items : List Value
    pub is : v ≡ value.Set items

  pub set-value : (s : Sort) (x : CellId) → OfSort c.kinds (set_of s) x → SetValue (decode c a x)
  set-value s x h =
      let e = is-set (OfSort c.kinds s) _ h.1 in
      record { items = _; is = decode-kind c a x built h.0 ∙ ap (kind_value c.texts a (decode c a)) e.1 }

  plain-form : (v : Value) → SetValue v → is_set_form (set.Plain v) ≡ true
  plain-form v h = ap is_plain_set (set.outs-Plain v) ∙ ap (λ u. is_set (out-Value u)) h.is ∙ ap is_set (value.outs-Set h.items)

  opened-form : (s : Sort) (x : form.Form-F Form) → HasMembers c.kinds s x → is_set_form (opened_value c a x) ≡ true
  opened-form s x (plain _ y h) = plain-form (decode c a y) (set-value s y h)
  opened-form s x ints = ap is_plain_set set.outs-AllInts
  opened-form s x nats = ap is_plain_set set.outs-AllNats
  opened-form s x texts = ap is_plain_set set.outs-AllTexts
  opened-form s x (sequences t f h) = ap is_plain_set (set.outs-Sequences (form_value c a f))
  opened-form s x (subsets t f h) = ap is_plain_set (set.outs-Subsets (form_value c a f))
  opened-form s x (functions r t y f h k) = ap is_plain_set (set.outs-Functions (elements (decode c a y)) (form_value c a f))
  opened-form s x (records names ss fs e h) = ap is_plain_set (set.outs-Records names (map (form_value c a) fs))
  opened-form s x (tuples ss fs h) = ap is_plain_set (set.outs-Tuples (map (form_value c a) fs))

  pub is-set-form : (s : Sort) (f : Form) → IsFormOf c.kinds s f → is_set_form (form_value c a f) ≡ true
  is-set-form s f (is _ _ h) = ap is_set_form (value-out c a f) ∙ opened-form s (out-Form f) h
