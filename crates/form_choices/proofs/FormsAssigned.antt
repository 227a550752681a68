-- The values of forms as an assignment goes on, and in a larger build.
use Rattle.std.proofs.Common.{◌≡◌, Bool, List, ◌++◌, ◌∷◌, map, length, refl, sym, ◌∙◌, ap, ap₂}
use Rattle.tla_values.specs.Sets.{elements}
use Rattle.tla_meaning.specs.declared.forms.SetForm.TheVariants as set
use Rattle.cell_arena.specs.declared.build.Build.{Build}
use Rattle.cell_arena.specs.Growth.{Grows}
use Rattle.cell_arena.proofs.Growing.{decode-assigned}
use Rattle.cell_merge.specs.Sorts.{Sort}
use Rattle.form_cells.specs.declared.form.Form.{Form, out-Form}
use Rattle.form_cells.specs.declared.form.Form.TheOpen as form
use Rattle.form_cells.specs.FormSorts.{AreFormsOf, HasMembers, IsFormOf, functions, ints, is, more, nats, none, plain, records, sequences, subsets, texts, tuples}
use Rattle.form_cells.specs.FormValues.{form_value}
use Rattle.form_cells.proofs.FormsLater.{value-later}
use Rattle.form_cells.proofs.Opened.{opened_value, value-out}

module _ (b : Build) (a rest : List Bool) (n : length a ≡ b.formula.vars) where
  mutual
    value-assigned : (s : Sort) (f : Form) → IsFormOf b.arena.kinds s f → form_value b.arena (a ++ rest) f ≡ form_value b.arena a f
    value-assigned s f (is _ _ h) = value-out b.arena (a ++ rest) f ∙ opened-assigned s (out-Form f) h ∙ sym (value-out b.arena a f)

    opened-assigned : (s : Sort) (x : form.Form-F Form) → HasMembers b.arena.kinds s x → opened_value b.arena (a ++ rest) x ≡ opened_value b.arena a x
    opened-assigned s x (plain _ y h) = ap set.Plain (decode-assigned b y a rest n)
    opened-assigned s x ints = refl
    opened-assigned s x nats = refl
    opened-assigned s x texts = refl
    opened-assigned s x (sequences t f h) = ap set.Sequences (value-assigned t f h)
    opened-assigned s x (subsets t f h) = ap set.Subsets (value-assigned t f h)
    opened-assigned s x (functions r t y f h k) = ap₂ (λ v u. set.Functions (elements v) u) (decode-assigned b y a rest n) (value-assigned t f k)
    opened-assigned s x (records names ss fs e h) = ap (set.Records names) (values-assigned ss fs h)
    opened-assigned s x (tuples ss fs h) = ap set.Tuples (values-assigned ss fs h)

    values-assigned : (ss : List Sort) (fs : List Form) → AreFormsOf b.arena.kinds ss fs → map (form_value b.arena (a ++ rest)) fs ≡ map (form_value b.arena a) fs
    values-assigned ss fs none = refl
    values-assigned ss fs (more s rs f gs h k) = ap₂ (λ v vs. v ∷ vs) (value-assigned s f h) (values-assigned rs gs k)

  pub value-on : (s : Sort) (f : Form) → IsFormOf b.arena.kinds s f → form_value b.arena (a ++ rest) f ≡ form_value b.arena a f
  value-on s f h = value-assigned s f h

  -- and in a larger build
  pub value-goes-on : (c : Build) (s : Sort) (f : Form) → Grows b c → IsFormOf b.arena.kinds s f → form_value c.arena (a ++ rest) f ≡ form_value b.arena a f
  value-goes-on c s f g h = value-later b c g (a ++ rest) s f h ∙ value-assigned s f h
