-- Members of forms by free choice. Source: Specifying Systems, section 16.1, for what belongs to a form; Konnov,
-- Kukovec and Tran, "TLA+ Model Checking Made Symbolic", OOPSLA 2019, section 5, for choices by cells.
use Rattle.std.specs.Prelude.{◌≡◌, ◌<◌, Bool, true, List, length}
use Rattle.sat_formula.specs.declared.lit.Lit.{Lit}
use Rattle.sat_formula.specs.Lit.{lit_value}
use Rattle.sat_formula.specs.Formula.{Satisfies}
use Rattle.tla_values.specs.Sets.{Normal}
use Rattle.tla_values.specs.declared.value.Value.{Value}
use Rattle.tla_meaning.specs.declared.forms.SetForm.{SetForm}
use Rattle.tla_meaning.specs.Forms.{belongs}
use Rattle.cell_arena.specs.declared.build.Build.{Build}
use Rattle.cell_arena.specs.declared.kinds.CellId.{CellId}
use Rattle.cell_arena.specs.declared.kinds.CellKind.{CellKind}
use Rattle.cell_arena.specs.Decode.{decode}
use Rattle.cell_merge.specs.Picks.{Reaches}
use Rattle.cell_merge.specs.Sorts.{Sort, OfSort}
use Rattle.form_cells.specs.declared.form.Form.{Form}
use Rattle.form_cells.specs.FormSorts.{IsFormOf}
use Rattle.form_cells.specs.FormValues.{form_value}
use Rattle.form_choices.specs.FiniteForms.{is_finite}

-- a form whose members have some sort
pub record HasMemberSort (ks : List CellKind) (f : Form) : Type 0 where
  pub sort : Sort
  pub is : IsFormOf ks sort f

-- a normal value that belongs to a form in which no infinite set stands
pub record IsMember (f : SetForm) (v : Value) : Type 0 where
  pub finite : is_finite f ≡ true
  pub normal : Normal v
  pub belongs : belongs f v ≡ true

-- under no assignment does the form have a member
abbrev pub HasNoMember : Build → Form → Type 0
HasNoMember b f = (a : List Bool) (v : Value) → IsMember (form_value b.arena a f) v → ⊥

-- where the literal is true the value of the cell belongs to the form, and under some longer assignment it is each
-- member; the cell has each sort that the members have
pub record PicksMember (old new : Build) (f : Form) (r : CellId × Lit) : Type 0 where
  pub below : r.1.var < new.formula.vars
  pub sort : (s : Sort) → IsFormOf old.arena.kinds s f → OfSort new.arena.kinds s r.0
  pub sound : (a : List Bool) → Satisfies a new.formula → lit_value r.1 a ≡ true →
      belongs (form_value old.arena a f) (decode new.arena a r.0) ≡ true
  pub complete : (a : List Bool) → length a ≡ old.formula.vars → Satisfies a old.formula → (v : Value) →
      IsMember (form_value old.arena a f) v → Reaches new a r.1 r.0 v
