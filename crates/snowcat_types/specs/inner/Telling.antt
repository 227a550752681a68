-- What is told of the annotations of a job: of one text, of declared names, of the notes in trees, and of the whole.
use Rattle.std.specs.Prelude.{ℕ, ◌≡◌, ◌<◌, ◌≤◌, length, ◌^◌, ◌⊎◌, ◌++◌, false, List, [], ◌∷◌, map, option_map, Option, Some, None, Result, Ok, Err, All, Contains}
use Rattle.std.specs.List.{insert}
use Rattle.tla_meaning.specs.declared.expr.Decl.{Decl}
use Rattle.tla_meaning.specs.declared.job.Job.{Job}
use Rattle.tla_meaning.specs.declared.place.Place.{Place}
use Rattle.tla_meaning.specs.Outcomes.{before, least}
use Rattle.snowcat_rows.specs.declared.types.Ty.{Ty}
use Rattle.snowcat_rows.specs.Types.{Term, mean}
use Rattle.snowcat_rows.specs.Readings.{Known, Knows}
use Rattle.snowcat_types.specs.declared.faults.TypeFault.{TypeFault}
use Rattle.snowcat_types.specs.declared.faults.TypeFault.TheVariants.{NotAnnotated, BadAnnotation, Clash, Memory}
use Rattle.snowcat_types.specs.declared.hearing.Heard.{Heard}
use Rattle.snowcat_types.specs.declared.names.Names.{Names}
use Rattle.snowcat_types.specs.declared.told.Told.{Told}
use Rattle.snowcat_types.specs.Annotated.{Aliases, annotation_of, numbered, AreAnnotations, AreNameTypes, IsAnnotated, IsFirstWithout, IsLeastBad, IsNameType, IsReadWith, Says}
use Rattle.snowcat_types.specs.inner.Gathered.{annotations_of, DeclaredNamed, IsNamed, NoteNamed, NotesNamed}

abbrev pub IsTold : Job → Result Told TypeFault → Type 0
IsTold job (Ok t) = AreAnnotations job (annotations_of t)
IsTold job (Err (NotAnnotated x p)) = IsFirstWithout job x p
IsTold job (Err (BadAnnotation p)) = IsLeastBad job p
IsTold job (Err (Clash p x y places)) = ⊥
IsTold job (Err (Memory e)) = Unit {0}

-- ---- one text

-- the text says the type, with so many variables; or it says none
abbrev pub IsRead : Aliases → List ℕ → Option (Ty × ℕ) → Type 0
IsRead al text None = (t : Term) (n : ℕ) → IsReadWith al text t n → ⊥
IsRead al text (Some r) = IsReadWith al text (mean r.0) r.1 × IsNamed r.0

-- the annotation of the name is the type, with so many variables; or it is none for a name
abbrev pub IsNameRead : Aliases → Decl → Option (Ty × ℕ) → Type 0
IsNameRead al d None = (t : Term × ℕ) → IsNameType al d t → ⊥
IsNameRead al d (Some r) = IsNameType al d (mean r.0, r.1) × IsNamed r.0

-- no blank stands in it
abbrev pub IsUnbroken : List ℕ → Type 0
IsUnbroken [] = Unit {0}
IsUnbroken (b ∷ bs) = (b ≡ 32 → ⊥) × IsUnbroken bs

abbrev pub IsNumbered : List ℕ → ℕ → List ℕ → Type 0
IsNumbered text i t = (i < 2 ^ 64) × (text ≡ numbered i t)

-- the text of a note binds a type or none; or it is no such text
abbrev pub IsSaid : Aliases → List ℕ → Option (Option Ty) → Type 0
IsSaid al text None = (o : Option Term) → Says al text o → ⊥
IsSaid al text (Some o) = Says al text (option_map mean o) × NoteNamed o

-- ---- the first name without an annotation

abbrev pub IsWithout : List Decl → Decl → Type 0
IsWithout ds d = (front rest : List Decl) × (ds ≡ front ++ d ∷ rest) × All IsAnnotated front × (annotation_of d.note ≡ None)

-- ---- the least place

abbrev pub earlier : Option Place → Place → Place
earlier None p = p
earlier (Some q) p = least q p

-- one of these places, before which there is none of them; or there is none
abbrev pub IsLeastOf : (Place → Type 0) → Option Place → Type 0
IsLeastOf B None = (p : Place) → B p → ⊥
IsLeastOf B (Some q) = B q × ((p : Place) → B p → before p q ≡ false)

-- ---- the names without an annotation

-- the fault is that the name has no annotation, or want of memory
abbrev pub IsNotAnnotated : Decl → TypeFault → Type 0
IsNotAnnotated d (NotAnnotated x p) = (x ≡ d.name) × (p ≡ d.place)
IsNotAnnotated d (Memory e) = Unit {0}
IsNotAnnotated d f = ⊥

-- ---- declared names

-- the annotation of one of the names, at the place, is no type for a name
abbrev pub IsBadName : Aliases → List Decl → Place → Type 0
IsBadName al ds p = (d : Decl) × Contains ds d × (p ≡ d.place) × ((t : Term × ℕ) → IsNameType al d t → ⊥)

abbrev pub declared_of : List (Ty × ℕ) → List (Term × ℕ)
declared_of ts = map (λ x. (mean x.0, x.1)) ts

-- these are the types of the names, unless one is bad
pub record AreNamesRead (al : Aliases) (ds : List Decl) (ts : List (Ty × ℕ)) (worst : Option Place) : Type 0 where
  pub types : worst ≡ None → AreNameTypes al ds (declared_of ts)
  pub least : IsLeastOf (IsBadName al ds) worst
  pub named : DeclaredNamed ts

-- by these aliases one name is read more
abbrev pub ReadsBesides : Known → Names → Decl → Names → Type 0
ReadsBesides k old d new =
    (al : Aliases) (ds : List Decl) → Knows [] al k → AreNamesRead al ds old.types.items old.worst →
    AreNamesRead al (ds ++ d ∷ []) new.types.items new.worst

-- ---- notes

abbrev pub Notes : Type 0
Notes = List (List ℕ × Place)

abbrev pub texts : {X : Type 0} → List (List ℕ × X) → List (List ℕ)
texts ns = map (λ n. n.0) ns

-- the text of one of the notes, at the place, is no type
abbrev pub IsBadNote : Aliases → Notes → Place → Type 0
IsBadNote al ns p = (x : List ℕ) × Contains ns (x, p) × ((o : Option Term) → Says al x o → ⊥)

abbrev pub IsBad : Aliases → List Decl → Notes → Place → Type 0
IsBad al ds ns p = IsBadName al ds p ⊎ IsBadNote al ns p

-- what the texts of these notes bind is known, unless one of them or of the names is bad
pub record AreHeard (al : Aliases) (ds : List Decl) (ns : Notes) (known : List (List ℕ × Option Ty)) (worst : Option Place) : Type 0 where
  pub say : (n : List ℕ × Option Ty) → Contains known n → Says al n.0 (option_map mean n.1) × Contains (texts ns) n.0
  pub met : worst ≡ None → (x : List ℕ) → Contains (texts ns) x → Contains (texts known) x
  pub least : IsLeastOf (IsBad al ds ns) worst
  pub named : NotesNamed known

-- by these aliases these notes are heard besides
pub record HearsBesides (k : Known) (old : Heard) (ms : Notes) (new : Heard) : Type 0 where
  pub hears : (al : Aliases) (ds : List Decl) (ns : Notes) → Knows [] al k → AreHeard al ds ns old.known.items old.worst →
      AreHeard al ds (ns ++ ms) new.known.items new.worst

-- the text is known, or the place is not before one that is bad
abbrev pub IsSettled : Heard → List ℕ → Place → Type 0
IsSettled h text p = Contains (texts h.known.items) text ⊎ ((q : Place) × (h.worst ≡ Some q) × (before p q ≡ false))

-- the text is known with what it binds, in some place
abbrev pub Learns : Heard → List ℕ × Option Ty → Heard → Type 0
Learns old n new = (i : ℕ) × (i ≤ length old.known.items) × (new.known.items ≡ insert old.known.items i n) × (new.worst ≡ old.worst)

-- by these aliases, and with the least place of a bad name, these notes are heard
abbrev pub Heeds : Known → Option Place → Notes → Heard → Type 0
Heeds k worst ns h = (al : Aliases) (ds : List Decl) → Knows [] al k → IsLeastOf (IsBadName al ds) worst → AreHeard al ds ns h.known.items h.worst
