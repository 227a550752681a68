-- What the annotations of a job say. Source: the Apalache manual, "Type System 1.2: Type annotations" and "Type
-- aliases".
use Rattle.std.specs.Prelude.{ℕ, zero, suc, ◌≡◌, ◌<◌, ◌^◌, ◌==◌, ◌⊎◌, ◌++◌, cond, false, List, [], ◌∷◌, codes, map, Option, Some, None, is_some, IsTrue, All, Contains}
use Rattle.std.specs.Fmt.{decimal}
use Rattle.tla_meaning.specs.declared.expr.Decl.{Decl}
use Rattle.tla_meaning.specs.declared.expr.Expr.{Expr}
use Rattle.tla_meaning.specs.declared.expr.Expr.TheFolds.{fold-Expr}
use Rattle.tla_meaning.specs.declared.job.Job.{Job}
use Rattle.tla_meaning.specs.declared.op.Op.{Op}
use Rattle.tla_meaning.specs.declared.op.Op.TheVariants as op
use Rattle.tla_meaning.specs.declared.place.Place.{Place}
use Rattle.tla_meaning.specs.Outcomes.{before}
use Rattle.tla_meaning.specs.Scopes.{or_else}
use Rattle.snowcat_rows.specs.Types.{Term, con, app, OperHead}
use Rattle.snowcat_rows.specs.Sorting.{Within}
use Rattle.snowcat_rows.specs.Readings.{Known, Knows, IsReadBy}
use Rattle.snowcat_rows.specs.Operators.{HasNoOperator}
use Rattle.snowcat_types.specs.Systems.{Annotations, parts_of}

-- ---- the annotation of a note: T of the first `@type: T;`, as it is written

-- what stands behind this beginning
abbrev pub behind_text : List ℕ → List ℕ → Option (List ℕ)
behind_text [] text = Some text
behind_text (b ∷ bs) [] = None
behind_text (b ∷ bs) (c ∷ text) = cond (b == c) (behind_text bs text) None

abbrev pub longer_by : ℕ → Option (List ℕ) → Option (List ℕ)
longer_by b None = None
longer_by b (Some t) = Some (b ∷ t)

-- the bytes up to the first `;`, where no `@` stands before it
abbrev pub type_at : List ℕ → Option (List ℕ)
type_at [] = None
type_at (b ∷ text) = cond (b == 59) (Some []) (cond (b == 64) None (longer_by b (type_at text)))

abbrev pub type_behind : Option (List ℕ) → Option (List ℕ)
type_behind None = None
type_behind (Some text) = type_at text

abbrev pub annotation_at : List ℕ → Option (List ℕ)
annotation_at text = type_behind (behind_text (codes "@type:") text)

unfoldable pub annotation_of : List ℕ → Option (List ℕ)
annotation_of [] = None
annotation_of (b ∷ note) = or_else (annotation_at (b ∷ note)) (annotation_of note)

-- ---- the annotation of a declared name

abbrev pub Aliases : Type 0
Aliases = List (List ℕ × List ℕ)

-- the text says the type, which has so many variables, numbered in the order in which they occur
abbrev pub IsReadWith : Aliases → List ℕ → Term → ℕ → Type 0
IsReadWith aliases text t n = (known : Known) × Knows [] aliases known × IsReadBy known text t n

-- the annotation is this type, with so many variables
pub record IsNameType (aliases : Aliases) (d : Decl) (t : Term × ℕ) : Type 0 where
  pub text : List ℕ
  pub written : annotation_of d.note ≡ Some text
  pub read_with : IsReadWith aliases text t.0 t.1
  pub no_operator : HasNoOperator t.0

-- ---- the annotation of a definition, at its result and at its arguments

-- the text of a note in an expanded tree: 0 for the result, or the argument's number from 1, a blank, and the
-- annotation
abbrev pub numbered : ℕ → List ℕ → List ℕ
numbered i t = decimal i ++ 32 ∷ t

-- an operator type may stand as the whole alone
abbrev pub OperatorAtRootAlone : Term → Type 0
OperatorAtRootAlone (app (con OperHead) (app r b)) = HasNoOperator r × HasNoOperator b
OperatorAtRootAlone t = HasNoOperator t

abbrev pub IsWholeType : Aliases → List ℕ → Term → Type 0
IsWholeType aliases text t = ((n : ℕ) × IsReadWith aliases text t n) × OperatorAtRootAlone t

-- the i-th of several types, from 0
abbrev pub nth_of : Term → ℕ → Option Term
nth_of (app t r) zero = Some t
nth_of (app t r) (suc i) = nth_of r i
nth_of t i = None

-- what a definition's type says of its result (0) and of its i-th argument; T alone stands for () => T
abbrev pub part_of : ℕ → Term → Option Term
part_of zero (app (con OperHead) (app r b)) = Some b
part_of (suc i) (app (con OperHead) (app r b)) = nth_of r i
part_of zero t = Some t
part_of (suc i) t = None

-- a type without variables binds what it says of this part, one with variables binds nothing
abbrev pub Binds : ℕ → Term → Option Term → Type 0
Binds i t o = (Within 0 t × (o ≡ part_of i t)) ⊎ ((Within 0 t → ⊥) × (o ≡ None))

-- the text of a note binds this type, or none
pub record Says (aliases : Aliases) (text : List ℕ) (o : Option Term) : Type 0 where
  pub number : ℕ
  pub annotation : List ℕ
  pub small : number < 2 ^ 64
  pub is_numbered : text ≡ numbered number annotation
  pub type : Term
  pub whole : IsWholeType aliases annotation type
  pub binds : Binds number type o

-- ---- the notes in the trees of a job

abbrev pub own_note : Op → Place → List (List ℕ × Place)
own_note (op.Noted x) p = (x, p) ∷ []
own_note o p = []

abbrev pub joined_notes : List (List (List ℕ × Place)) → List (List ℕ × Place)
joined_notes [] = []
joined_notes (k ∷ ks) = k ++ joined_notes ks

-- the texts of notes with their places, which are those of the definitions
unfoldable pub notes_in : Expr → List (List ℕ × Place)
notes_in = fold-Expr (List (List ℕ × Place)) (λ x. own_note x.op x.place ++ joined_notes x.args)

abbrev pub all_notes : List Expr → List (List ℕ × Place)
all_notes es = joined_notes (map notes_in es)

abbrev pub IsNoted : Job → List ℕ → Type 0
IsNoted job text = Contains (map (λ n. n.0) (all_notes (parts_of job))) text

-- ---- the annotations of a job

abbrev pub AreNameTypes : Aliases → List Decl → List (Term × ℕ) → Type 0
AreNameTypes aliases [] [] = Unit {0}
AreNameTypes aliases (d ∷ ds) (t ∷ ts) = IsNameType aliases d t × AreNameTypes aliases ds ts
AreNameTypes aliases ds ts = ⊥

-- each declared name has its annotation, each note in a tree binds what it says, and nothing else binds anything
pub record AreAnnotations (job : Job) (an : Annotations) : Type 0 where
  pub names : AreNameTypes job.aliases job.names an.declared
  pub notes : (text : List ℕ) → IsNoted job text → Says job.aliases text (an.noted text)
  pub others : (text : List ℕ) → (IsNoted job text → ⊥) → an.noted text ≡ None

-- ---- where there are none

abbrev pub IsAnnotated : Decl → Type 0
IsAnnotated d = IsTrue (is_some (annotation_of d.note))

-- x, declared at p, is the first name without an annotation
pub record IsFirstWithout (job : Job) (x : List ℕ) (p : Place) : Type 0 where
  pub front : List Decl
  pub decl : Decl
  pub rest : List Decl
  pub names_are : job.names ≡ front ++ decl ∷ rest
  pub annotated : All IsAnnotated front
  pub none : annotation_of decl.note ≡ None
  pub is_it : (x ≡ decl.name) × (p ≡ decl.place)

-- a declared name at p has an annotation that is no type for a name
pub record HasBadName (job : Job) (p : Place) : Type 0 where
  pub decl : Decl
  pub declared : Contains job.names decl
  pub at_place : p ≡ decl.place
  pub annotated : IsAnnotated decl
  pub bad : (t : Term × ℕ) → IsNameType job.aliases decl t → ⊥

-- the note of a definition at p is no type
pub record HasBadNote (job : Job) (p : Place) : Type 0 where
  pub text : List ℕ
  pub stands : Contains (all_notes (parts_of job)) (text, p)
  pub bad : (o : Option Term) → Says job.aliases text o → ⊥

abbrev pub IsBadAt : Job → Place → Type 0
IsBadAt job p = HasBadName job p ⊎ HasBadNote job p

-- the annotation at p is no type, and none at a lesser place is none
pub record IsLeastBad (job : Job) (p : Place) : Type 0 where
  pub annotated : All IsAnnotated job.names
  pub bad : IsBadAt job p
  pub least : (q : Place) → IsBadAt job q → before q p ≡ false
