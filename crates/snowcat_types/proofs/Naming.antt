-- In what is built the names of fields differ, also in each part of it.
use Rattle.std.proofs.Common.{◌≡◌, ◌&&◌, true, ℕ, zero, suc, ◌<◌, List, [], ◌∷◌, ◌++◌, length, arith, refl, subst, sym}
use Rattle.std.specs.Prelude.{get_or}
use Rattle.std.specs.List.{list_all}
use Rattle.snowcat_rows.specs.declared.types.Ty.{Ty}
use Rattle.snowcat_rows.specs.FieldNames.{names_differ}
use Rattle.snowcat_types.specs.declared.gathered.Entry.{Entry}
use Rattle.snowcat_types.specs.inner.Gathered.{EntriesNamed, EntryNamed, IsNamed, PartsNamed, TypesNamed}

named_at : (es : List Entry) (i : ℕ) (e : Entry) → EntriesNamed es → i < length es → e ≡ get_or es i e → EntryNamed e
named_at [] i e h lt is = absurd (omega (arith, lt))
named_at (d ∷ es) zero e h lt is = let P : Entry → Type 0 = λ z. EntryNamed z in subst P (sym is) h.0
named_at (d ∷ es) (suc i) e h lt is = named_at es i e h.1 (omega (arith, lt)) is

pub entry_named : (es ds : List Entry) (i : ℕ) (e : Entry) → EntriesNamed es → ds ≡ es → i < length ds → e ≡ get_or ds i e → EntryNamed e
entry_named es ds i e h lent lt is = let P : List Entry → Type 0 = λ z. EntriesNamed z in named_at ds i e (subst P (sym lent) h) lt is

pub type_named : (ts : List Ty) (i : ℕ) (t : Ty) → TypesNamed ts → i < length ts → t ≡ get_or ts i t → IsNamed t
type_named [] i t h lt is = absurd (omega (arith, lt))
type_named (u ∷ ts) zero t h lt is = let P : Ty → Type 0 = λ z. IsNamed z in subst P (sym is) h.0
type_named (u ∷ ts) (suc i) t h lt is = type_named ts i t h.1 (omega (arith, lt)) is

pub part_named : (ps : List (List Ty)) (i : ℕ) (p : List Ty) → PartsNamed ps → i < length ps → p ≡ get_or ps i p → TypesNamed p
part_named [] i p h lt is = absurd (omega (arith, lt))
part_named (q ∷ ps) zero p h lt is = let P : List Ty → Type 0 = λ z. TypesNamed z in subst P (sym is) h.0
part_named (q ∷ ps) (suc i) p h lt is = part_named ps i p h.1 (omega (arith, lt)) is

pub types_snoc : (ts : List Ty) (t : Ty) → TypesNamed ts → IsNamed t → TypesNamed (ts ++ t ∷ [])
types_snoc [] t h k = (k, tt)
types_snoc (u ∷ ts) t h k = (h.0, types_snoc ts t h.1 k)

pub parts_snoc : (ps : List (List Ty)) (p : List Ty) → PartsNamed ps → TypesNamed p → PartsNamed (ps ++ p ∷ [])
parts_snoc [] p h k = (k, tt)
parts_snoc (q ∷ ps) p h k = (h.0, parts_snoc ps p h.1 k)

pub types_differ : (ts : List Ty) → TypesNamed ts → list_all names_differ ts ≡ true
types_differ [] h = refl
types_differ (t ∷ ts) h = λ k. h.0 k && types_differ ts h.1 k

pub parts_differ : (ps : List (List Ty)) → PartsNamed ps → list_all (list_all names_differ) ps ≡ true
parts_differ [] h = refl
parts_differ (p ∷ ps) h = λ k. types_differ p h.0 k && parts_differ ps h.1 k
