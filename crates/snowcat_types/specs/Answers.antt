-- What is answered of a job: its typing, or why it has none. Source: the Apalache manual, "Type System 1.2".
use Rattle.std.specs.Prelude.{ℕ, ◌≡◌, ◌&&◌, Bool, true, false, List, [], ◌∷◌, map, length, None, Result, Ok, Err, All, nat_lt, slice_get}
use Rattle.std.specs.List.{list_all}
use Rattle.tla_meaning.specs.declared.expr.Expr.{Expr}
use Rattle.tla_meaning.specs.declared.expr.Expr.TheOpen.{Expr-F}
use Rattle.tla_meaning.specs.declared.expr.Expr.TheFolds.{fold-Expr}
use Rattle.tla_meaning.specs.declared.job.Job.{Job}
use Rattle.tla_meaning.specs.declared.op.Op.{Op}
use Rattle.tla_meaning.specs.declared.op.Op.TheVariants as op
use Rattle.tla_meaning.specs.declared.place.Place.{Place}
use Rattle.tla_meaning.specs.Expanded.{is_expanded_op}
use Rattle.tla_meaning.specs.FreeNames.{closed_all, marks}
use Rattle.tla_meaning.specs.Meaning.{role}
use Rattle.snowcat_rows.specs.declared.types.Ty.{Ty}
use Rattle.snowcat_rows.specs.Types.{Term, mean}
use Rattle.snowcat_rows.specs.FieldNames.{names_differ}
use Rattle.snowcat_rows.specs.Substitutions.{Sub, apply}
use Rattle.snowcat_types.specs.declared.faults.TypeFault.{TypeFault}
use Rattle.snowcat_types.specs.declared.faults.TypeFault.TheVariants.{NotAnnotated, BadAnnotation, Clash, Memory}
use Rattle.snowcat_rows.specs.declared.types.Typed.{Typed}
use Rattle.snowcat_types.specs.declared.waiting.Wait.{Wait}
use Rattle.snowcat_rows.specs.Throughout.{Throughout}
use Rattle.snowcat_rows.specs.Operators.{IsNoOperator}
use Rattle.snowcat_types.specs.TypeForms.{bool_type, int_type}
use Rattle.snowcat_types.specs.Rows.{Context, or_type}
use Rattle.snowcat_types.specs.Systems.{Annotations, system, parts_of}
use Rattle.snowcat_types.specs.Typings.{IsTyping, IsClash}
use Rattle.snowcat_types.specs.Annotated.{AreAnnotations, IsFirstWithout, IsLeastBad}
use Rattle.snowcat_types.specs.Judgement.{HasTypes}

-- ---- which jobs may be asked for

-- a node is of an expanded tree and reaches no form that is only refused, and a name is one of n or bound around it
abbrev pub is_typable_op : ℕ → Op → (List ℕ → Bool) → Bool
is_typable_op n (op.Name i primed) B = nat_lt i n
is_typable_op n (op.Bound x) B = B x
is_typable_op n (op.Outside f) B = false
is_typable_op n o B = is_expanded_op o

abbrev pub typable_layer : ℕ → Expr-F ((List ℕ → Bool) → Bool) → (List ℕ → Bool) → Bool
typable_layer n x B = is_typable_op n x.op B && closed_all (marks (role x.op (length x.binds))) x.binds x.args B

-- of a tree, where these names are bound around it
abbrev pub is_typable_tree : ℕ → Expr → (List ℕ → Bool) → Bool
is_typable_tree n = fold-Expr ((List ℕ → Bool) → Bool) (typable_layer n)

-- each tree is expanded and without such forms, each declared name is one of the job's, and each bound name is bound
abbrev pub is_typable : Job → Bool
is_typable job = list_all (λ e. is_typable_tree (length job.names) e (λ x. false)) (parts_of job)

-- ---- the typing

-- no variable and no operator type stands in it
abbrev pub IsGround : Term → Type 0
IsGround t = Throughout (λ v. ⊥) IsNoOperator (λ k. k ≡ None) t

abbrev pub types_of_names : Typed → List Term
types_of_names t = map mean t.names

abbrev pub types_of_parts : Typed → List (List Term)
types_of_parts t = map (map mean) t.parts

-- t has the types of the job's names and nodes, where these nodes took their default
pub record IsTypedAs (job : Job) (t : Typed) : Type 0 where
  pub annotations : Annotations
  pub are : AreAnnotations job annotations
  pub defaults : List Wait
  pub typing : IsTyping (system annotations job) (types_of_names t) (types_of_parts t) defaults

-- the names and nodes have the same types, in whatever order a record has its fields
pub record HaveSameTypes (t u : Typed) : Type 0 where
  pub names : types_of_names t ≡ types_of_names u
  pub parts : types_of_parts t ≡ types_of_parts u

-- two types at p that cannot be made equal, where the nodes at these places took their default
pub record IsClashOf (job : Job) (p : Place) (x y : Ty) (places : List Place) : Type 0 where
  pub annotations : Annotations
  pub are : AreAnnotations job annotations
  pub clash : IsClash (system annotations job) p (mean x) (mean y) places

abbrev pub IsAnswered : Job → Result Typed TypeFault → Type 0
IsAnswered job (Ok t) = IsTypedAs job t
IsAnswered job (Err (NotAnnotated x p)) = IsFirstWithout job x p
IsAnswered job (Err (BadAnnotation p)) = IsLeastBad job p
IsAnswered job (Err (Clash p x y places)) = IsClashOf job p x y places
IsAnswered job (Err (Memory e)) = Unit {0}

-- in each record of the answer the names of the fields differ
abbrev pub HaveDistinctNames : Result Typed TypeFault → Type 0
HaveDistinctNames (Ok t) = (list_all names_differ t.names ≡ true) × (list_all (list_all names_differ) t.parts ≡ true)
HaveDistinctNames (Err (Clash p x y places)) = (names_differ x ≡ true) × (names_differ y ≡ true)
HaveDistinctNames (Err e) = Unit {0}

-- ---- what a typing is for the nodes: each has types by the row of its operator

-- the type is that of the annotation, with types and rows in the place of its variables
abbrev pub IsInstance : Term → Term → Type 0
IsInstance t u = (s : Sub) × (u ≡ apply s t)

abbrev pub AreInstances : List (Term × ℕ) → List Term → Type 0
AreInstances [] [] = Unit {0}
AreInstances (a ∷ as') (t ∷ ts) = IsInstance a.0 t × AreInstances as' ts
AreInstances as' ts = ⊥

-- a declared name has its type, a note binds what it says, and no name is bound
abbrev pub outside_of : Annotations → List Term → Context
outside_of an names = record { declared = λ i. or_type (slice_get names i) int_type; noted = an.noted; bound = [] }

abbrev pub AllHaveTypes : Context → List Expr → List (List Term) → Type 0
AllHaveTypes c [] [] = Unit {0}
AllHaveTypes c (e ∷ es) (ts ∷ tss) = HasTypes c e ts × AllHaveTypes c es tss
AllHaveTypes c es tss = ⊥

-- of the types of a part the first, which is its root's, is Bool
abbrev pub IsTruthFirst : List Term → Type 0
IsTruthFirst [] = ⊥
IsTruthFirst (t ∷ ts) = t ≡ bool_type

-- the names have their annotated types, the nodes of each part have types by the rows of their operators, and each part
-- is a truth value
pub record MeetsRows (job : Job) (t : Typed) : Type 0 where
  pub annotations : Annotations
  pub are : AreAnnotations job annotations
  pub names : AreInstances annotations.declared (types_of_names t)
  pub parts : AllHaveTypes (outside_of annotations (types_of_names t)) (parts_of job) (types_of_parts t)
  pub truths : All IsTruthFirst (types_of_parts t)

-- no type of the typing has a variable or an operator type in it
abbrev pub AllGround : Typed → Type 0
AllGround t = All IsGround (types_of_names t) × All (All IsGround) (types_of_parts t)
