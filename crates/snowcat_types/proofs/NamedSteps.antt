-- Steps of building what has records with different names alone.
use Rattle.std.proofs.Common.{◌≡◌, ℕ, zero, suc, ◌<◌, List, [], ◌∷◌, ◌++◌, get_or, length, take, ap, ◌∙◌, sym, subst, arith, Option}
use Rattle.std.specs.Prelude.{zip}
use Rattle.snowcat_rows.specs.declared.types.Ty.{Ty}
use Rattle.snowcat_rows.specs.FieldNames.{names_differ}
use Rattle.snowcat_types.specs.declared.forms.Operand.{Operand as BuiltOperand}
use Rattle.snowcat_types.specs.declared.gathered.Requirement.{Requirement as BuiltRequirement}
use Rattle.snowcat_types.specs.declared.gathered.Entry.{Entry as BuiltEntry}
use Rattle.snowcat_types.specs.inner.Gathered.{IsNamed, TypesNamed, RequirementNamed, AllNamedIn, EntryNamed, EntriesNamed, PartsNamed, NoteNamed, NotesNamed, DeclaredNamed}
use Rattle.snowcat_types.specs.inner.Named.{ScopeNamed, OperandsNamed}

-- ---- one more

pub types_more : (ts us : List Ty) (t : Ty) → us ≡ ts ++ t ∷ [] → TypesNamed ts → IsNamed t → TypesNamed us
types_more ts us t e h k = subst TypesNamed (sym e) (behind ts h)
  where
    behind : (ts : List Ty) → TypesNamed ts → TypesNamed (ts ++ t ∷ [])
    behind [] h = (k, tt)
    behind (x ∷ xs) h = (h.0, behind xs h.1)

pub scope_more : (xs ys : List (List ℕ × Ty)) (x : List ℕ) (t : Ty) → ys ≡ xs ++ (x, t) ∷ [] → ScopeNamed xs → IsNamed t → ScopeNamed ys
scope_more xs ys x t e h k = subst ScopeNamed (sym e) (behind xs h)
  where
    behind : (xs : List (List ℕ × Ty)) → ScopeNamed xs → ScopeNamed (xs ++ (x, t) ∷ [])
    behind [] h = (k, tt)
    behind (y ∷ ys) h = (h.0, behind ys h.1)

pub operands_more : (os ps : List BuiltOperand) (o : BuiltOperand) → ps ≡ os ++ o ∷ [] → OperandsNamed os → OperandsNamed (o ∷ []) → OperandsNamed ps
operands_more os ps o e h k = subst OperandsNamed (sym e) (behind os h)
  where
    behind : (os : List BuiltOperand) → OperandsNamed os → OperandsNamed (os ++ o ∷ [])
    behind [] h = k
    behind (x ∷ xs) h = (h.0, behind xs h.1)

pub asked_more : (rs qs : List BuiltRequirement) (r : BuiltRequirement) → qs ≡ rs ++ r ∷ [] → AllNamedIn rs → RequirementNamed r → AllNamedIn qs
asked_more rs qs r e h k = subst AllNamedIn (sym e) (behind rs h)
  where
    behind : (rs : List BuiltRequirement) → AllNamedIn rs → AllNamedIn (rs ++ r ∷ [])
    behind [] h = (k, tt)
    behind (x ∷ xs) h = (h.0, behind xs h.1)

pub entries_more : (es fs : List BuiltEntry) (e : BuiltEntry) → fs ≡ es ++ e ∷ [] → EntriesNamed es → EntryNamed e → EntriesNamed fs
entries_more es fs e q h k = subst EntriesNamed (sym q) (behind es h)
  where
    behind : (es : List BuiltEntry) → EntriesNamed es → EntriesNamed (es ++ e ∷ [])
    behind [] h = (k, tt)
    behind (x ∷ xs) h = (h.0, behind xs h.1)

pub parts_more : (ps qs : List (List Ty)) (p : List Ty) → qs ≡ ps ++ p ∷ [] → PartsNamed ps → TypesNamed p → PartsNamed qs
parts_more ps qs p e h k = subst PartsNamed (sym e) (behind ps h)
  where
    behind : (ps : List (List Ty)) → PartsNamed ps → PartsNamed (ps ++ p ∷ [])
    behind [] h = (k, tt)
    behind (x ∷ xs) h = (h.0, behind xs h.1)

pub types_parts : (ts : List Ty) (t : Ty) → TypesNamed (ts ++ t ∷ []) → TypesNamed ts × IsNamed t
types_parts [] t h = (tt, h.0)
types_parts (x ∷ xs) t h = let k = types_parts xs t h.1 in ((h.0, k.0), k.1)

-- ---- one of several

pub type_at_named : (ts : List Ty) (i : ℕ) (t : Ty) → i < length ts → t ≡ get_or ts i t → TypesNamed ts → IsNamed t
type_at_named [] i t lt q h = absurd (omega (arith, lt))
type_at_named (u ∷ ts) zero t lt q h = ap names_differ q ∙ h.0
type_at_named (u ∷ ts) (suc i) t lt q h = type_at_named ts i t (omega (arith, lt)) q h.1

pub scope_at_named : (xs : List (List ℕ × Ty)) (i : ℕ) (x : List ℕ × Ty) → i < length xs → x ≡ get_or xs i x → ScopeNamed xs → IsNamed x.1
scope_at_named [] i x lt q h = absurd (omega (arith, lt))
scope_at_named (y ∷ xs) zero x lt q h = ap (λ z. names_differ z.1) q ∙ h.0
scope_at_named (y ∷ xs) (suc i) x lt q h = scope_at_named xs i x (omega (arith, lt)) q h.1

pub operand_at_named : (os : List BuiltOperand) (i : ℕ) (o : BuiltOperand) → i < length os → o ≡ get_or os i o → OperandsNamed os → ScopeNamed o.under
operand_at_named [] i o lt q h = absurd (omega (arith, lt))
operand_at_named (p ∷ os) zero o lt q h = subst (λ z. ScopeNamed z.under) (sym q) h.0.1
operand_at_named (p ∷ os) (suc i) o lt q h = operand_at_named os i o (omega (arith, lt)) q h.1

pub note_at_named : (ns : List (List ℕ × Option Ty)) (i : ℕ) (n : List ℕ × Option Ty) → i < length ns → n ≡ get_or ns i n → NotesNamed ns → NoteNamed n.1
note_at_named [] i n lt q h = absurd (omega (arith, lt))
note_at_named (m ∷ ns) zero n lt q h = subst (λ z. NoteNamed z.1) (sym q) h.0
note_at_named (m ∷ ns) (suc i) n lt q h = note_at_named ns i n (omega (arith, lt)) q h.1

pub declared_at_named : (ts : List (Ty × ℕ)) (i : ℕ) (t : Ty × ℕ) → i < length ts → t ≡ get_or ts i t → DeclaredNamed ts → IsNamed t.0
declared_at_named [] i t lt q h = absurd (omega (arith, lt))
declared_at_named (u ∷ ts) zero t lt q h = ap (λ z. names_differ z.0) q ∙ h.0
declared_at_named (u ∷ ts) (suc i) t lt q h = declared_at_named ts i t (omega (arith, lt)) q h.1

pub scope_taken : (n : ℕ) (xs : List (List ℕ × Ty)) → ScopeNamed xs → ScopeNamed (take n xs)
scope_taken zero xs h = tt
scope_taken (suc n) [] h = tt
scope_taken (suc n) (x ∷ xs) h = (h.0, scope_taken n xs h.1)

-- ---- operands beside types

abbrev pub PairsNamed : List (BuiltOperand × Ty) → Type 0
PairsNamed [] = Unit {0}
PairsNamed (p ∷ ps) = (IsNamed p.0.of × IsNamed p.1) × PairsNamed ps

pub pairs_named : (os : List BuiltOperand) (ts : List Ty) → OperandsNamed os → TypesNamed ts → PairsNamed (zip os ts)
pairs_named [] ts h k = tt
pairs_named (o ∷ os) [] h k = tt
pairs_named (o ∷ os) (t ∷ ts) h k = ((h.0.0, k.0), pairs_named os ts h.1 k.1)

pub pairs_parts : (ps : List (BuiltOperand × Ty)) (p : BuiltOperand × Ty) → PairsNamed (ps ++ p ∷ []) → PairsNamed ps × (IsNamed p.0.of × IsNamed p.1)
pairs_parts [] p h = (tt, h.0)
pairs_parts (q ∷ ps) p h = let k = pairs_parts ps p h.1 in ((h.0, k.0), k.1)
