-- A set's cell as a form, and the faults of forms.
use Rattle.std.proofs.Common.{◌≡◌, Bool, List, refl, sym, ◌∙◌, ap, subst}
use Rattle.sat_formula.specs.Lit.{lit_value}
use Rattle.tla_values.specs.declared.value.Value.{Value}
use Rattle.tla_meaning.specs.declared.forms.SetForm.{SetForm}
use Rattle.tla_meaning.specs.declared.forms.SetForm.TheVariants as set
use Rattle.tla_meaning.specs.declared.outcome.Outcome.{Outcome}
use Rattle.tla_meaning.specs.declared.outcome.Outcome.TheVariants.{Big, Val, Wrong}
use Rattle.tla_meaning.specs.Forms.{Broken, Formed, Made, form_fault}
use Rattle.tla_meaning.specs.Meaning.{plain as plain_form}
use Rattle.cell_arena.specs.Cells.{Cells as Arena}
use Rattle.cell_arena.specs.Decode.{decode}
use Rattle.cell_arena.specs.declared.build.Build.{Build}
use Rattle.cell_arena.specs.declared.kinds.CellId.{CellId}
use Rattle.cell_arena.specs.declared.kinds.CellKind.{CellKind}
use Rattle.cell_merge.specs.Sorts.{OfSort, Sort, set_of}
use Rattle.outcome_cells.specs.declared.cells.Cells.{Cells}
use Rattle.outcome_cells.specs.Shown.{Shown}
use Rattle.outcome_cells.specs.Shows.{AreCells, Shows, ShowsFault}
use Rattle.form_cells.specs.declared.form.Form.{Plain}
use Rattle.form_cells.specs.declared.form.Form.TheVariants.{outs-Plain}
use Rattle.form_cells.specs.declared.form.FormCells.{FormCells}
use Rattle.form_cells.specs.FormSorts.{AreForms, HasMembers, IsFormOf, is, plain}
use Rattle.form_cells.specs.FormValues.{ShownForm, ShowsForm}
use Rattle.form_cells.proofs.Opened.{value-plain}

broken-made : {X : Type 0} (f : _) (g : SetForm) → Broken f ≡ Made g → X
broken-made f g e = absurd (cc)

made-one : (f g : SetForm) → Made f ≡ Made g → f ≡ g
made-one f g e = cc

plain-shown : (w b : Bool) (v : Value) (o : Outcome) → Shown w b v o → ShownForm w b (set.Plain v) (plain_form o)
plain-shown w b v (Val u) h = record { wrong = h.wrong; big = h.big; form = λ g e. ap set.Plain (h.value u refl) ∙ made-one (set.Plain u) g e }
plain-shown w b v (Wrong p) h = record { wrong = h.wrong; big = h.big; form = λ g e. broken-made _ g e }
plain-shown w b v (Big p) h = record { wrong = h.wrong; big = h.big; form = λ g e. broken-made _ g e }

pub set-shown : (c : Arena) (a : List Bool) (x : Cells) (o : Outcome) → Shows c a x o →
    ShowsForm c a (record { form = Plain x.cell; wrong = x.wrong; big = x.big }) (plain_form o)
set-shown c a x o h = record {
  shown = subst (λ f. ShownForm (lit_value x.wrong a) (lit_value x.big a) f (plain_form o)) (sym (value-plain c a (Plain x.cell) x.cell refl))
      (plain-shown (lit_value x.wrong a) (lit_value x.big a) (decode c a x.cell) o h.shown);
}

pub plain-of : (ks : List CellKind) (s : Sort) (x : CellId) → OfSort ks (set_of s) x → IsFormOf ks s (Plain x)
plain-of ks s x h = is s (Plain x) (subst (HasMembers ks s) (sym (outs-Plain x)) (plain s x h))

pub set-sort : (b : Build) (s : Sort) (x : Cells) → AreCells b (set_of s) x → AreForms b s (record { form = Plain x.cell; wrong = x.wrong; big = x.big })
set-sort b s x h = record { form = plain-of b.arena.kinds s x.cell h.sort; wrong = h.wrong; big = h.big }

pub fault-shown : (c : Arena) (a : List Bool) (x : FormCells) (o : Formed) → ShowsForm c a x o → ShowsFault a (record { wrong = x.wrong; big = x.big }) (form_fault o)
fault-shown c a x o h = record { shown = record { wrong = h.shown.wrong; big = h.shown.big } }
