-- Set forms that have finitely many members. Source: Specifying Systems, section 16.1, for forms of sets, and section
-- 18.4 for the infinite ones; the Apalache manual, "Assignments and symbolic transitions", for what an assignment
-- takes.
use Rattle.std.specs.Prelude.{Bool, true, false}
use Rattle.std.specs.List.{list_all}
use Rattle.tla_meaning.specs.declared.forms.SetForm.{SetForm}
use Rattle.tla_meaning.specs.declared.forms.SetForm.TheOpen as form
use Rattle.tla_meaning.specs.declared.forms.SetForm.TheFolds.{fold-SetForm}

-- by whether its parts are; the domain of a set of functions is no part
abbrev pub is_finite_at : form.SetForm-F Bool → Bool
is_finite_at (form.Plain v) = true
is_finite_at form.AllInts = false
is_finite_at form.AllNats = false
is_finite_at form.AllTexts = false
is_finite_at (form.Sequences b) = false
is_finite_at (form.Functions xs b) = b
is_finite_at (form.Subsets b) = b
is_finite_at (form.Records names bs) = list_all (λ b. b) bs
is_finite_at (form.Tuples bs) = list_all (λ b. b) bs

-- it is no infinite set, and has none as a part
unfoldable pub is_finite : SetForm → Bool
is_finite = fold-SetForm Bool is_finite_at
