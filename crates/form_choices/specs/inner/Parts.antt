-- Members of several forms, the members of a form as a set, and what is made of members that were picked.
use Rattle.std.specs.Prelude.{◌≡◌, ◌<◌, ℕ, zero, suc, Bool, true, not, ◌&&◌, ◌||◌, List, [], ◌∷◌, ◌++◌, All}
use Rattle.std.specs.Prelude.{length, map}
use Rattle.std.specs.List.{list_all}
use Rattle.sat_formula.specs.declared.cnf.Cnf.{Cnf}
use Rattle.sat_formula.specs.declared.lit.Lit.{Lit}
use Rattle.sat_formula.specs.Lit.{IsBelow, lit_value, values}
use Rattle.sat_formula.specs.Formula.{HasValue, Satisfies}
use Rattle.tla_values.specs.Sequences.{sequence}
use Rattle.tla_values.specs.Sets.{Normal, elements, function_of, member, set_of}
use Rattle.tla_values.specs.declared.value.Value.{Value}
use Rattle.tla_values.specs.declared.value.Value.TheVariants as value
use Rattle.tla_meaning.specs.declared.forms.SetForm.{SetForm}
use Rattle.tla_meaning.specs.declared.forms.SetForm.TheVariants as set
use Rattle.tla_meaning.specs.Forms.{belongs}
use Rattle.tla_meaning.specs.Shapes.{record_of}
use Rattle.cell_arena.specs.declared.build.Build.{Build}
use Rattle.cell_arena.specs.declared.kinds.CellId.{CellId}
use Rattle.cell_arena.specs.declared.kinds.CellKind.{CellKind}
use Rattle.cell_arena.specs.Cells.{AllDiffer}
use Rattle.cell_arena.specs.Decode.{decode, present, present_pairs}
use Rattle.cell_arena.specs.Growth.{Grows}
use Rattle.cell_merge.specs.Edges.{AreNamed, LeadTo}
use Rattle.cell_merge.specs.Picks.{Reaches}
use Rattle.cell_merge.specs.Sorts.{Sort, OfSort, function_of as function_sort, set_of as set_sort}
use Rattle.function_rewriter.specs.FunctionSets.{PicksFunction as AnyFunction}
use Rattle.typed_cells.specs.FieldOrder.{in_order}
use Rattle.typed_cells.specs.KindSorts.{OfSorts, record_sort, tuple_sort}
use Rattle.typed_cells.specs.Known.{IsSetOfEdges}
use Rattle.form_cells.specs.declared.form.Form.{Form}
use Rattle.form_cells.specs.FormSorts.{AreFormsOf, IsFormOf}
use Rattle.form_cells.specs.FormValues.{form_value}
use Rattle.form_choices.specs.FormPicks.{IsMember}

-- forms whose members have some sorts
pub record HaveMemberSorts (ks : List CellKind) (fs : List Form) : Type 0 where
  pub sorts : List Sort
  pub are : AreFormsOf ks sorts fs

-- fields whose members have some sorts, as many names as forms
pub record AreFields (ks : List CellKind) (names : List (List ℕ)) (fs : List Form) : Type 0 where
  pub sorts : HaveMemberSorts ks fs
  pub one_each : length names ≡ length fs

-- a set and a form of results
pub record AreFunctions (ks : List CellKind) (s : CellId) (f : Form) : Type 0 where
  pub from : Sort
  pub domain : OfSort ks (set_sort from) s
  pub to : Sort
  pub results : IsFormOf ks to f

-- the values of forms
abbrev pub form_values : Build → List Bool → List Form → List SetForm
form_values b a fs = map (form_value b.arena a) fs

-- ---- the members of a form as a set

-- what is normal among them belongs to the form, and each member of it is among them
pub record AreMembersOf (f : SetForm) (xs : List Value) : Type 0 where
  pub within : (v : Value) → Normal v → member v xs ≡ true → belongs f v ≡ true
  pub all : (v : Value) → IsMember f v → member v xs ≡ true

-- so it is of each form and its list
abbrev pub HaveMembers : List SetForm → List (List Value) → Type 0
HaveMembers [] [] = Unit {0}
HaveMembers [] (xs ∷ xss) = ⊥
HaveMembers (f ∷ fs) [] = ⊥
HaveMembers (f ∷ fs) (xs ∷ xss) = AreMembersOf f xs × HaveMembers fs xss

-- the cell is the set of the members of a form of these values; whatever sorts are given, it is a set of these
pub record Lists (new : Build) {I : Type 0} (sorts : I → Sort) (given : I → Type 0) (form : List Bool → SetForm)
    (id : CellId) : Type 0 where
  pub sort : (i : I) → given i → OfSort new.arena.kinds (set_sort (sorts i)) id
  pub members : (a : List Bool) → Satisfies a new.formula → AreMembersOf (form a) (elements (decode new.arena a id))

abbrev pub ListsForm : Build → Build → Form → CellId → Type 0
ListsForm old new f = Lists new (λ s. s) (λ s. IsFormOf old.arena.kinds s f) (λ a. form_value old.arena a f)

abbrev pub ListsRecords : Build → Build → List (List ℕ) → List Form → CellId → Type 0
ListsRecords old new names fs = Lists new (λ ss. record_sort (in_order names ss))
    (λ ss. AreFormsOf old.arena.kinds ss fs) (λ a. set.Records names (form_values old a fs))

abbrev pub ListsTuples : Build → Build → List Form → CellId → Type 0
ListsTuples old new fs = Lists new tuple_sort (λ ss. AreFormsOf old.arena.kinds ss fs)
    (λ a. set.Tuples (form_values old a fs))

-- the cells are the sets of the forms' members
pub record ListsEach (old new : Build) (fs : List Form) (ids : List CellId) : Type 0 where
  pub sorts : (ss : List Sort) → AreFormsOf old.arena.kinds ss fs → OfSorts new.arena.kinds (map set_sort ss) ids
  pub members : (a : List Bool) → Satisfies a new.formula →
      HaveMembers (form_values old a fs) (map (λ id. elements (decode new.arena a id)) ids)

-- ---- a member of a form

-- where the literal is true the cell is a member of a form of these values, and under some longer assignment it is each
pub record Picks (old new : Build) {I : Type 0} (sorts : I → Sort) (given : I → Type 0) (form : List Bool → SetForm)
    (r : CellId × Lit) : Type 0 where
  pub below : r.1.var < new.formula.vars
  pub sort : (i : I) → given i → OfSort new.arena.kinds (sorts i) r.0
  pub sound : (a : List Bool) → Satisfies a new.formula → lit_value r.1 a ≡ true →
      belongs (form a) (decode new.arena a r.0) ≡ true
  pub complete : (a : List Bool) → length a ≡ old.formula.vars → Satisfies a old.formula → (v : Value) →
      IsMember (form a) v → Reaches new a r.1 r.0 v

abbrev pub PicksSubset : Build → Build → Form → CellId × Lit → Type 0
PicksSubset old new f = Picks old new set_sort (λ s. IsFormOf old.arena.kinds s f)
    (λ a. set.Subsets (form_value old.arena a f))

abbrev pub PicksFunction : Build → Build → CellId → Form → CellId × Lit → Type 0
PicksFunction old new s f = Picks old new (λ (p : Sort × Sort). function_sort p.0 p.1)
    (λ p. OfSort old.arena.kinds (set_sort p.0) s × IsFormOf old.arena.kinds p.1 f)
    (λ a. set.Functions (elements (decode old.arena a s)) (form_value old.arena a f))

abbrev pub PicksRecord : Build → Build → List (List ℕ) → List Form → CellId × Lit → Type 0
PicksRecord old new names fs = Picks old new (λ ss. record_sort (in_order names ss))
    (λ ss. AreFormsOf old.arena.kinds ss fs) (λ a. set.Records names (form_values old a fs))

abbrev pub PicksTuple : Build → Build → List Form → CellId × Lit → Type 0
PicksTuple old new fs = Picks old new tuple_sort (λ ss. AreFormsOf old.arena.kinds ss fs)
    (λ a. set.Tuples (form_values old a fs))

-- a function from the set to the set without members, which is made first
pub record PicksToNone (old new : Build) (s : CellId) (r : CellId × Lit) : Type 0 where
  pub mid : Build
  pub none : CellId
  pub before : Grows old mid
  pub empty : IsSetOfEdges old mid [] none
  pub picks : AnyFunction mid new s none r
  pub after : Grows mid new

-- ---- a member of each of several forms

-- each value is a member of its form
abbrev pub AreMembers : List SetForm → List Value → Type 0
AreMembers [] [] = Unit {0}
AreMembers [] (v ∷ vs) = ⊥
AreMembers (f ∷ fs) [] = ⊥
AreMembers (f ∷ fs) (v ∷ vs) = IsMember f v × AreMembers fs vs

-- each value belongs to its form where its literal is true
abbrev pub BelongWhere : List Bool → List SetForm → List Value → Type 0
BelongWhere [] [] [] = Unit {0}
BelongWhere (b ∷ bs) (f ∷ fs) (v ∷ vs) = (b ≡ true → belongs f v ≡ true) × BelongWhere bs fs vs
BelongWhere bs fs vs = ⊥

-- the assignment goes on to one that satisfies the formula, where the literals are true and the cells have the values
pub record ReachesAll (b : Build) (a : List Bool) (ids : List CellId) (ls : List Lit) (vs : List Value) : Type 0 where
  pub more : List Bool
  pub long : length (a ++ more) ≡ b.formula.vars
  pub satisfies : Satisfies (a ++ more) b.formula
  pub literals : list_all (λ l. lit_value l (a ++ more)) ls ≡ true
  pub decodes : map (decode b.arena (a ++ more)) ids ≡ vs

-- a cell and a literal for each of the forms: where the literal is true the cell is a member, and together they are
-- members in every way
pub record PicksEach (old new : Build) (fs : List Form) (ids : List CellId) (ls : List Lit) : Type 0 where
  pub below : All (IsBelow new.formula.vars) ls
  pub count : length ls ≡ length ids
  pub sorts : (ss : List Sort) → AreFormsOf old.arena.kinds ss fs → OfSorts new.arena.kinds ss ids
  pub sound : (a : List Bool) → Satisfies a new.formula →
      BelongWhere (values ls a) (form_values old a fs) (map (decode new.arena a) ids)
  pub complete : (a : List Bool) → length a ≡ old.formula.vars → Satisfies a old.formula → (vs : List Value) →
      AreMembers (form_values old a fs) vs → ReachesAll new a ids ls vs

-- under no assignment does each of the forms have a member
abbrev pub HaveNoMembers : Build → List Form → Type 0
HaveNoMembers b fs = (a : List Bool) (vs : List Value) → AreMembers (form_values b a fs) vs → ⊥

-- one form so many times
abbrev pub repeated : ℕ → Form → List Form
repeated zero f = []
repeated (suc n) f = f ∷ repeated n f

-- ---- what is made of them

-- the edges lead to the members of the set
pub record ListsArguments (b : Build) (s : CellId) (es : List (Lit × CellId)) : Type 0 where
  pub named : AreNamed b.formula.vars es
  pub sorts : (t : Sort) → OfSort b.arena.kinds (set_sort t) s → LeadTo b.arena.kinds t es
  pub members : (a : List Bool) → Satisfies a b.formula →
      set_of (present a (decode b.arena a) es) ≡ elements (decode b.arena a s)

-- and there is a form of results
pub record AreFunctionsOver (b : Build) (s : CellId) (es : List (Lit × CellId)) (f : Form) : Type 0 where
  pub functions : AreFunctions b.arena.kinds s f
  pub arguments : ListsArguments b s es

-- cells that are there, and literals of the formula
pub record HaveParts (b : Build) (ids : List CellId) (ls : List Lit) : Type 0 where
  pub there : All (λ id. id.index < length b.arena.kinds) ids
  pub below : All (IsBelow b.formula.vars) ls

-- a literal that is true exactly where all are
abbrev pub AllHold : Cnf → List Lit → Lit → Type 0
AllHold f ls l = HasValue f l (λ a. list_all (λ m. lit_value m a) ls)

-- the record of the cells, whose names differ, and such a literal
pub record MakesRecord (old new : Build) (names : List (List ℕ)) (ids : List CellId) (ls : List Lit) (r : CellId × Lit)
    : Type 0 where
  pub differ : AllDiffer names
  pub sort : (ss : List Sort) → OfSorts old.arena.kinds ss ids →
      OfSort new.arena.kinds (record_sort (in_order names ss)) r.0
  pub value : (a : List Bool) → Satisfies a new.formula →
      decode new.arena a r.0 ≡ record_of names (map (decode old.arena a) ids)
  pub literal : AllHold new.formula ls r.1

-- the tuple of the cells, and such a literal
pub record MakesTuple (old new : Build) (ids : List CellId) (ls : List Lit) (r : CellId × Lit) : Type 0 where
  pub sort : (ss : List Sort) → OfSorts old.arena.kinds ss ids → OfSort new.arena.kinds (tuple_sort ss) r.0
  pub value : (a : List Bool) → Satisfies a new.formula →
      decode new.arena a r.0 ≡ sequence (map (decode old.arena a) ids)
  pub literal : AllHold new.formula ls r.1

-- edges and cells of which a function is made, as many cells and literals as edges
pub record HaveArrows (b : Build) (es : List (Lit × CellId)) (ids : List CellId) (ls : List Lit) : Type 0 where
  pub from : Sort
  pub to : Sort
  pub edges : LeadTo b.arena.kinds from es
  pub cells : All (OfSort b.arena.kinds to) ids
  pub named : AreNamed b.formula.vars es
  pub below : All (IsBelow b.formula.vars) ls
  pub one_cell : length ids ≡ length es
  pub one_literal : length ls ≡ length es

-- an arrow from each edge to the cell at its place
abbrev pub arrows : List (Lit × CellId) → List CellId → List (Lit × CellId × CellId)
arrows [] ids = []
arrows (e ∷ es) [] = []
arrows (e ∷ es) (x ∷ xs) = (e.0, e.1, x) ∷ arrows es xs

-- whether the literal at each edge that is there is true
abbrev pub hold_where_there : List Bool → List (Lit × CellId) → List Lit → Bool
hold_where_there a [] ls = true
hold_where_there a (e ∷ es) [] = true
hold_where_there a (e ∷ es) (l ∷ ls) = (not (lit_value e.0 a) || lit_value l a) && hold_where_there a es ls

-- literals that are true together where this is so
pub record TellWhereThere (f : Cnf) (es : List (Lit × CellId)) (ls out : List Lit) : Type 0 where
  pub below : All (IsBelow f.vars) out
  pub value : (a : List Bool) → Satisfies a f → list_all (λ l. lit_value l a) out ≡ hold_where_there a es ls

-- the function of these arrows, and a literal that is true exactly where this is so
pub record MakesFunction (old new : Build) (es : List (Lit × CellId)) (ids : List CellId) (ls : List Lit)
    (r : CellId × Lit) : Type 0 where
  pub sort : (s t : Sort) → LeadTo old.arena.kinds s es → All (OfSort old.arena.kinds t) ids →
      OfSort new.arena.kinds (function_sort s t) r.0
  pub value : (a : List Bool) → Satisfies a new.formula →
      decode new.arena a r.0 ≡ value.Fun (function_of (present_pairs a (decode old.arena a) (arrows es ids)))
  pub literal : HasValue new.formula r.1 (λ a. hold_where_there a es ls)
