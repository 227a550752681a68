-- Edges and cells that are listed so that forms are asked of them.
use Rattle.std.specs.Prelude.{◌≡◌, ◌&&◌, ℕ, Bool, false, true, List, All, length, map, take, Option, Some, None}
use Rattle.std.specs.List.{list_all}
use Rattle.sat_formula.specs.declared.cnf.Cnf.{Cnf}
use Rattle.sat_formula.specs.declared.lit.Lit.{Lit}
use Rattle.sat_formula.specs.Lit.{IsBelow, lit_value}
use Rattle.sat_formula.specs.Formula.{HasValue, Satisfies}
use Rattle.word_blaster.specs.Word.{word_value}
use Rattle.tla_values.specs.declared.value.Value.{Value}
use Rattle.tla_values.specs.declared.value.Value.TheVariants as value
use Rattle.tla_values.specs.Sets.{apply, arguments, elements, member}
use Rattle.tla_meaning.specs.declared.forms.SetForm.{SetForm}
use Rattle.tla_meaning.specs.Forms.{belongs, results, same_set}
use Rattle.cell_arena.specs.declared.build.Build.{Build}
use Rattle.cell_arena.specs.declared.kinds.CellId.{CellId}
use Rattle.cell_arena.specs.declared.kinds.CellKind.{CellKind}
use Rattle.cell_arena.specs.Cells.{Cells, kind_at}
use Rattle.cell_arena.specs.Decode.{decode, first_places, present}
use Rattle.cell_merge.specs.Arrows.{length_word, pairs_of}
use Rattle.cell_merge.specs.Composites.{parts_of}
use Rattle.cell_merge.specs.Edges.{AreNamed, LeadTo}
use Rattle.cell_merge.specs.Sorts.{Sort, OfSort, function_of, sequence_of, set_of, tuple_of}
use Rattle.sequence_rewriter.specs.Sequences.{items}
use Rattle.typed_cells.specs.FieldOrder.{in_order}
use Rattle.typed_cells.specs.KindSorts.{OfSorts, record_sort}
use Rattle.form_cells.specs.declared.form.Form.{Form}
use Rattle.form_cells.specs.FormSorts.{AreFormsOf, IsFormOf}

-- edges to cells of the sort of the form's members, over the formula's variables
pub record EdgesAndForm (b : Build) (es : List (Lit × CellId)) (f : Form) : Type 0 where
  pub sort : Sort
  pub cells : LeadTo b.arena.kinds sort es
  pub named : AreNamed b.formula.vars es
  pub form : IsFormOf b.arena.kinds sort f

-- a cell for each of the forms, of the sort of its members
pub record PartsAndForms (ks : List CellKind) (xs : List CellId) (fs : List Form) : Type 0 where
  pub sorts : List Sort
  pub cells : OfSorts ks sorts xs
  pub forms : AreFormsOf ks sorts fs

-- the edges that are there lead to these values, in any order; they lead to cells of each sort that is given
pub record Lists (b : Build) (given : Sort → Type 0) (vs : List Bool → List Value) (es : List (Lit × CellId))
    : Type 0 where
  pub named : AreNamed b.formula.vars es
  pub sorts : (s : Sort) → given s → LeadTo b.arena.kinds s es
  pub values : (a : List Bool) → Satisfies a b.formula → (p : Value → Bool) →
      list_all p (present a (decode b.arena a) es) ≡ list_all p (vs a)

-- a set of some sort
pub record IsSetCell (ks : List CellKind) (s : CellId) : Type 0 where
  pub sort : Sort
  pub is : OfSort ks (set_of sort) s

-- the edges of a set
abbrev pub ListsMembers : Build → CellId → List (Lit × CellId) → Type 0
ListsMembers b s = Lists b (λ t. OfSort b.arena.kinds (set_of t) s) (λ a. elements (decode b.arena a s))

-- the places of a sequence, which are there up to its length
abbrev pub ListsItems : Build → Build → CellId → List (Lit × CellId) → Type 0
ListsItems old new s = Lists new (λ t. OfSort old.arena.kinds (sequence_of t) s) (λ a. items (decode old.arena a s))

-- what a function gives at the arguments that it has
pub record ListsResults (old new : Build) (f : CellId) (es : List (Lit × CellId)) : Type 0 where
  pub lists : (s : Sort) →
      Lists new (λ t. OfSort old.arena.kinds (function_of s t) f) (λ a. results (pairs_of (decode old.arena a f))) es

-- for the first n places of a sequence whether they are within the length
pub record TellsPlaces (c : Cells) (f : Cnf) (s : CellId) (n : ℕ) (es : List (Lit × CellId)) : Type 0 where
  pub named : AreNamed f.vars es
  pub sorts : (t : Sort) → OfSort c.kinds (sequence_of t) s → LeadTo c.kinds t es
  pub values : (a : List Bool) → Satisfies a f → let k : CellKind = kind_at c.kinds s in
      present a (decode c a) es ≡ first_places (word_value (length_word k) a) (map (decode c a) (take n (parts_of k)))

-- a tuple of some parts
pub record IsTupleCell (ks : List CellKind) (t : CellId) : Type 0 where
  pub count : ℕ
  pub sorts : ℕ → Sort
  pub is : OfSort ks (tuple_of count sorts) t

-- a record of these names
pub record IsRecordCell (ks : List CellKind) (r : CellId) (names : List (List ℕ)) : Type 0 where
  pub sorts : List Sort
  pub count : length sorts ≡ length names
  pub is : OfSort ks (record_sort (in_order names sorts)) r

-- what the record has at the first n names, each of the sort of its field
pub record AreFirstFields (b : Build) (r : CellId) (names : List (List ℕ)) (n : ℕ) (xs : List CellId) : Type 0 where
  pub sorts : (ss : List Sort) → length ss ≡ length names → OfSort b.arena.kinds (record_sort (in_order names ss)) r →
      OfSorts b.arena.kinds (take n ss) xs
  pub values : (a : List Bool) → map (λ n. apply (pairs_of (decode b.arena a r)) (value.Text n)) (take n names)
      ≡ map (λ x. Some (decode b.arena a x)) xs

-- what it has at all of them
abbrev pub AreFields : Build → CellId → List (List ℕ) → List CellId → Type 0
AreFields b r names = AreFirstFields b r names (length names)

-- a function and a set of the sort of its arguments
pub record FunctionAndSet (ks : List CellKind) (f s : CellId) : Type 0 where
  pub from : Sort
  pub to : Sort
  pub function : OfSort ks (function_of from to) f
  pub domain : OfSort ks (set_of from) s

-- and a form of results
pub record FunctionAndForm (ks : List CellKind) (f s : CellId) (form : Form) : Type 0 where
  pub from : Sort
  pub to : Sort
  pub function : OfSort ks (function_of from to) f
  pub domain : OfSort ks (set_of from) s
  pub results : IsFormOf ks to form

-- edges to cells of the sort of the function's arguments, which has one where they are there
pub record AreArguments (b : Build) (f : CellId) (es : List (Lit × CellId)) : Type 0 where
  pub from : Sort
  pub to : Sort
  pub function : OfSort b.arena.kinds (function_of from to) f
  pub cells : LeadTo b.arena.kinds from es
  pub named : AreNamed b.formula.vars es
  pub within : (a : List Bool) → Satisfies a b.formula →
      list_all (λ u. member u (arguments (pairs_of (decode b.arena a f)))) (present a (decode b.arena a) es) ≡ true

-- whether what a function gives, if anything, passes
abbrev pub gives : (Value → Bool) → Option Value → Bool
gives p None = false
gives p (Some v) = p v

-- for each of the arguments what the function gives
pub record GivesResults (old new : Build) (f : CellId) (es out : List (Lit × CellId)) : Type 0 where
  pub named : AreNamed new.formula.vars out
  pub sorts : (s t : Sort) → OfSort old.arena.kinds (function_of s t) f → LeadTo new.arena.kinds t out
  pub values : (a : List Bool) → Satisfies a new.formula → (p : Value → Bool) →
      list_all p (present a (decode new.arena a) out)
      ≡ list_all (λ u. gives p (apply (pairs_of (decode old.arena a f)) u)) (present a (decode old.arena a) es)

-- a literal that the set is the function's domain, and the edges to its results
pub record IsParted (old new : Build) (f s : CellId) (r : Lit × List (Lit × CellId)) : Type 0 where
  pub agrees : HasValue new.formula r.0
      (λ a. same_set (elements (decode old.arena a s)) (arguments (pairs_of (decode old.arena a f))))
  pub results : ListsResults old new f r.1

-- whether the function has the domain and results that belong to the form
abbrev pub function_belongs : Cells → List Bool → CellId → CellId → SetForm → Bool
function_belongs c a f s form = let ps = pairs_of (decode c a f) in
    same_set (elements (decode c a s)) (arguments ps) && list_all (belongs form) (results ps)

-- literals that are all true exactly where this is so
pub record AllTell (f : Cnf) (so : List Bool → Bool) (ls : List Lit) : Type 0 where
  pub named : All (IsBelow f.vars) ls
  pub value : (a : List Bool) → Satisfies a f → list_all (λ l. lit_value l a) ls ≡ so a
