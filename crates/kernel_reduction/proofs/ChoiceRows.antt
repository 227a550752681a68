-- Rows in which a choice tells the types: applications, domains, tuples, and records.
use Rattle.std.proofs.Common.{◌≡◌, ℕ, zero, suc, ◌+◌, true, not, List, [], ◌∷◌, map, zip, length, refl, sym, ◌∙◌, ap, subst, Option, Some, None, arith, pos}
use Rattle.std.specs.Prelude.{◌==◌}
use Rattle.tla_meaning.proofs.Laws.{none≢some}
use Rattle.tla_meaning.proofs.Views.{and_both, false≢true}
use Rattle.tla_meaning.specs.declared.place.Place.{Place}
use Rattle.snowcat_rows.specs.Types.{Term, some, mean, var, app, con, fields as record_term, row as row_term, lookup, TupHead}
use Rattle.snowcat_rows.specs.Codes.{named}
use Rattle.snowcat_rows.specs.Substitutions.{Sub, apply}
use Rattle.snowcat_rows.specs.declared.types.Ty.{Ty, out-Ty}
use Rattle.snowcat_rows.specs.declared.types.Ty.TheOpen as layer
use Rattle.snowcat_rows.specs.declared.types.Ty.TheFolds.{map-Ty}
use Rattle.snowcat_rows.specs.TypeTexts.{are_distinct}
use Rattle.snowcat_rows.proofs.Means.{mean_out}
use Rattle.snowcat_types.specs.TypeForms.{int_type, str_type, set_type, seq_type, fun_type, tuple_type, record_type}
use Rattle.snowcat_types.specs.Rows.{from_type, plain as plain_operand}
use Rattle.snowcat_types.specs.Requirements.{kind, MeetAll, item_at, item_of, field_at}
use Rattle.snowcat_types.specs.Waiting.{choice, items_from, all_equal}
use Rattle.snowcat_types.specs.declared.waiting.Index.{Index}
use Rattle.snowcat_types.specs.declared.waiting.Index.TheVariants as lit
use Rattle.snowcat_types.specs.declared.waiting.Wait.TheVariants as wait
use Rattle.snowcat_types.specs.declared.kinds.Kind.{Kind as Formed}
use Rattle.snowcat_types.specs.declared.kinds.Kind.TheVariants as formed
use Rattle.kernel_trees.specs.declared.kernel.KerOp.TheVariants as ker
use Rattle.kernel_trees.specs.TypeKinds.{Kind, Kinds, Fields, Truth, Number, Word, Set, Seq, Fun, Tup, Rec, kinds, fields, kind_of, kind_layer, same, fields_same, each_is, members, item_kind, field_kind, all_there}
use Rattle.kernel_trees.specs.Sound.{row, passes}
use Rattle.kernel_trees.proofs.TypeLaws.{kind_out}
use Rattle.kernel_trees.proofs.Reading.{nat_same}
use Rattle.kernel_reduction.specs.BuildsTyped.{is_sequence, is_tuple, is_record}
use Rattle.kernel_reduction.proofs.SoundMade.{same_self, all_self, fields_self}
use Rattle.kernel_reduction.proofs.FieldOrder.{fields_found}
use Rattle.kernel_reduction.proofs.KindsOf.{some_same, mapped, mapped_list, two, record_parts, Opened, split_there, Of, AreOf, no_more, and_of, same_of, has_int, has_str, has_set, has_seq, has_fun, has_tuple, has_record, is_number, of_seq, of_fun, of_tuple, of_fields, looked_up}
use Rattle.kernel_reduction.proofs.SameRows.{types_of}

-- ---- how a kind is formed, and its type

pub data Form : Type 0 where
  truth number word set seq fun tup rec other : Form

abbrev pub kind_form : Kind → Form
kind_form Truth = truth
kind_form Number = number
kind_form (Word x) = word
kind_form (Set a) = set
kind_form (Seq a) = seq
kind_form (Fun a b) = fun
kind_form (Tup as') = tup
kind_form (Rec fs) = rec

abbrev pub type_form : layer.Ty-F Ty → Form
type_form layer.Bool = truth
type_form layer.Int = number
type_form layer.Str = word
type_form (layer.Named x) = word
type_form (layer.Var n) = other
type_form (layer.Set a) = set
type_form (layer.Seq a) = seq
type_form (layer.Fun a b) = fun
type_form (layer.Tup as') = tup
type_form (layer.Rec fs k) = rec
type_form (layer.Oper as' b) = other

pub form_at : (o : layer.Ty-F Ty) (a : Kind) → kind_layer (map-Ty Ty (Option Kind) kind_of o) ≡ Some a →
    type_form o ≡ kind_form a
form_at layer.Bool a q = ap kind_form (some_same q)
form_at layer.Int a q = ap kind_form (some_same q)
form_at layer.Str a q = ap kind_form (some_same q)
form_at (layer.Named []) a q = absurd (none≢some q)
form_at (layer.Named (x ∷ xs)) a q = ap kind_form (some_same q)
form_at (layer.Var n) a q = absurd (none≢some q)
form_at (layer.Set t) a q = ap kind_form (sym (mapped Set (kind_of t) a q).1)
form_at (layer.Seq t) a q = ap kind_form (sym (mapped Seq (kind_of t) a q).1)
form_at (layer.Fun t s) a q = ap kind_form (sym (two (kind_of t) (kind_of s) a q).2)
form_at (layer.Tup ts) a q =
    ap kind_form (sym (mapped_list (λ xs. Tup (kinds xs)) (all_there (map kind_of ts)) a q).1)
form_at (layer.Rec fs None) a q = ap kind_form (sym (record_parts fs a q).1)
form_at (layer.Rec fs (Some k)) a q = absurd (none≢some q)
form_at (layer.Oper ts t) a q = absurd (none≢some q)

pub form_of : (t : Ty) (a : Kind) → kind_of t ≡ Some a → type_form (out-Ty t) ≡ kind_form a
form_of t a q = form_at (out-Ty t) a (sym (kind_out t) ∙ q)

pub tuple_form : (o : layer.Ty-F Ty) → type_form o ≡ tup → is_tuple o ≡ true
tuple_form (layer.Tup ts) h = refl
tuple_form o h = absurd (cc)

pub record_form : (o : layer.Ty-F Ty) → type_form o ≡ rec → is_record o ≡ true
record_form (layer.Rec fs k) h = refl
record_form o h = absurd (cc)

sequence_form : (o : layer.Ty-F Ty) → type_form o ≡ seq → is_sequence o ≡ true
sequence_form (layer.Seq t) h = refl
sequence_form o h = absurd (cc)

pub form_tuple : (o : layer.Ty-F Ty) → is_tuple o ≡ true → type_form o ≡ tup
form_tuple (layer.Tup ts) h = refl
form_tuple o h = absurd (false≢true h)

pub form_record : (o : layer.Ty-F Ty) → is_record o ≡ true → type_form o ≡ rec
form_record (layer.Rec fs k) h = refl
form_record o h = absurd (false≢true h)

form_sequence : (o : layer.Ty-F Ty) → is_sequence o ≡ true → type_form o ≡ seq
form_sequence (layer.Seq t) h = refl
form_sequence o h = absurd (false≢true h)

is_seq_kind : (a : Kind) → kind_form a ≡ seq → (b : Kind) × (a ≡ Seq b)
is_seq_kind (Seq b) h = (b, refl)
is_seq_kind a h = absurd (cc)

is_tup_kind : (a : Kind) → kind_form a ≡ tup → (bs : Kinds) × (a ≡ Tup bs)
is_tup_kind (Tup bs) h = (bs, refl)
is_tup_kind a h = absurd (cc)

is_rec_kind : (a : Kind) → kind_form a ≡ rec → (fs : Fields) × (a ≡ Rec fs)
is_rec_kind (Rec fs) h = (fs, refl)
is_rec_kind a h = absurd (cc)

-- a type that is formed so, as far as it is known
formed_at : (o : layer.Ty-F Ty) → kind (Opened o) ≡ formed.Sequence → type_form o ≡ seq
formed_at (layer.Seq t) h = refl
formed_at o h = absurd (cc)

formed_tuple : (o : layer.Ty-F Ty) → kind (Opened o) ≡ formed.Tuple → type_form o ≡ tup
formed_tuple (layer.Tup t) h = refl
formed_tuple o h = absurd (cc)

formed_record : (o : layer.Ty-F Ty) → kind (Opened o) ≡ formed.Record → type_form o ≡ rec
formed_record (layer.Rec fs k) h = refl
formed_record o h = absurd (cc)

-- ---- items and fields

item_of_row : (ts : List Ty) (as' : List Kind) (n : ℕ) (u : Term) → all_there (map kind_of ts) ≡ Some as' →
    item_of (row_term (map mean ts)) n ≡ some u → (b : Kind) × (item_kind (kinds as') n ≡ Some b) × Of u b
item_of_row [] as' n u q h = absurd (cc)
item_of_row (t ∷ ts) as' zero u q h = absurd (cc)
item_of_row (t ∷ ts) as' (suc zero) u q h =
    let v = split_there (kind_of t) (map kind_of ts) as' q in
    (v.0, ap (λ z. item_kind (kinds z) 1) v.2, (t, v.3, slot_same h))
  where
    slot_same : {p r : Term} → some p ≡ some r → p ≡ r
    slot_same k = cc
item_of_row (t ∷ ts) as' (suc (suc n)) u q h =
    let v = split_there (kind_of t) (map kind_of ts) as' q in
    let r = item_of_row ts v.1 (suc n) u v.4 h in
    (r.0, ap (λ z. item_kind (kinds z) (suc (suc n))) v.2 ∙ r.1, r.2)

pub item_found : (x u : Term) (n : ℕ) (a : Kind) → Of x a → item_at x n ≡ some u →
    (bs : Kinds) × (a ≡ Tup bs) × ((b : Kind) × (item_kind bs n ≡ Some b) × Of u b)
item_found x u n a (t, q, e) h =
    by (out-Ty t) refl (ap (λ z. item_at z n) (sym (mean_out t) ∙ e) ∙ h)
  where
    by : (o : layer.Ty-F Ty) → out-Ty t ≡ o → item_at (Opened o) n ≡ some u →
        (bs : Kinds) × (a ≡ Tup bs) × ((b : Kind) × (item_kind bs n ≡ Some b) × Of u b)
    by (layer.Tup ts) w k =
        let m : mean t ≡ app (con TupHead) (row_term (map mean ts)) = mean_out t ∙ ap (λ z. Opened z) w in
        let r = of_tuple (row_term (map mean ts)) a (t, q, m) in
        (kinds r.1, r.2, item_of_row r.0 r.1 n u r.3 (ap (λ z. item_of z n) r.4 ∙ k))
    by o w k = absurd (cc)

pub field_found : (x u : Term) (n : List ℕ) (a : Kind) → Of x a → field_at x n ≡ some u →
    (fs : Fields) × (a ≡ Rec fs) × ((b : Kind) × (field_kind fs n ≡ Some b) × Of u b)
field_found x u n a (t, q, e) h =
    by (out-Ty t) refl (ap (λ z. field_at z n) (sym (mean_out t) ∙ e) ∙ h)
  where
    by : (o : layer.Ty-F Ty) → out-Ty t ≡ o → field_at (Opened o) n ≡ some u →
        (fs : Fields) × (a ≡ Rec fs) × ((b : Kind) × (field_kind fs n ≡ Some b) × Of u b)
    by (layer.Rec gs None) w k =
        let m : mean t ≡ record_term (lookup (named gs)) None = mean_out t ∙ ap (λ z. Opened z) w in
        let r = of_fields (lookup (named gs)) a (t, q, m) in
        let z = looked_up r.0 r.1 r.3 n u (ap (λ f. f n) r.5 ∙ k) in
        (fields r.1, r.2, (z.0, (fields_found r.1 r.4).1 n ∙ z.1, z.2))
    by (layer.Rec gs (Some r)) w k =
        absurd (none≢some (sym (ap (λ z. kind_layer (map-Ty Ty (Option Kind) kind_of z)) w) ∙ sym (kind_out t) ∙ q))
    by o w k = absurd (cc)

-- ---- applications

pub plus_none : (v : ℕ) → v + 0 ≡ v
plus_none v = omega arith

tup_form : (a : Kind) (bs : Kinds) → a ≡ Tup bs → kind_form a ≡ tup
tup_form a bs e = ap kind_form e

rec_form : (a : Kind) (fs : Fields) → a ≡ Rec fs → kind_form a ≡ rec
rec_form a fs e = ap kind_form e

pub at_row : (s : Sub) (v : ℕ) (p : Place) (i : Index) (k : Formed) (a b e : Kind) →
    MeetAll s (choice (wait.Apply p v (v + 1) (v + 2) i) k) → Of (s.type_of v) b → Of (s.type_of (v + 1)) e →
    Of (s.type_of (v + 2)) a → (kind_form b ≡ tup → ⊥) → (kind_form b ≡ rec → ⊥) → row ker.At a (b ∷ e ∷ []) ≡ true
at_row s v p i formed.Function a b e m hb he ha nt nr =
    let y = has_fun (s.type_of (v + 1)) (s.type_of (v + 2)) e a he ha in
    ap (λ z. row ker.At a (z ∷ e ∷ []))
    (same_of (fun_type (s.type_of (v + 1)) (s.type_of (v + 2))) b (Fun e a) (subst (λ z. Of z b) m.0 hb) y)
    ∙ and_both (same e e) (same a a) (same_self e) (same_self a)
at_row s v p i formed.Sequence a b e m hb he ha nt nr =
    (λ j. row ker.At a
    (same_of (seq_type (s.type_of (v + 2))) b (Seq a) (subst (λ z. Of z b) m.0 hb) (has_seq (s.type_of (v + 2)) a ha) j
    ∷ is_number e (subst (λ z. Of z e) (sym m.1.0) he) j ∷ [])) ∙ same_self a
at_row s v p (lit.Number (pos n)) formed.Tuple a b e m hb he ha nt nr =
    let r = item_found (s.type_of v) (s.type_of (v + 2)) n b hb m.0 in absurd (nt (tup_form b r.0 r.1))
at_row s v p (lit.Word x) formed.Record a b e m hb he ha nt nr =
    let r = field_found (s.type_of v) (s.type_of (v + 2)) x b hb m.0 in absurd (nr (rec_form b r.0 r.1))
at_row s v p i k a b e m hb he ha nt nr = absurd (m.0)

-- an item or a field at a literal
pub item_row : (s : Sub) (v : ℕ) (p : Place) (n : ℕ) (k : Formed) (a b e : Kind) →
    MeetAll s (choice (wait.Apply p v (v + 1) (v + 2) (lit.Number (pos n))) k) → Of (s.type_of v) b →
    Of (s.type_of (v + 2)) a → kind_form b ≡ tup → (bs : Kinds) × (b ≡ Tup bs) × (item_kind bs n ≡ Some a)
item_row s v p n formed.Tuple a b e m hb ha f =
    let r = item_found (s.type_of v) (s.type_of (v + 2)) n b hb m.0 in
    (r.0, r.1, r.2.1 ∙ ap Some (same_of (s.type_of (v + 2)) r.2.0 a r.2.2 ha))
item_row s v p n formed.Function a b e m hb ha f =
    let r = of_fun (s.type_of (v + 1)) (s.type_of (v + 2)) b (subst (λ z. Of z b) m.0 hb) in
    absurd (apart (ap kind_form (sym r.2) ∙ f))
  where
    apart : fun ≡ tup → ⊥
    apart q = cc
item_row s v p n formed.Sequence a b e m hb ha f =
    let r = of_seq (s.type_of (v + 2)) b (subst (λ z. Of z b) m.0 hb) in
    absurd (apart (ap kind_form (sym r.1) ∙ f))
  where
    apart : seq ≡ tup → ⊥
    apart q = cc
item_row s v p n k a b e m hb ha f = absurd (m.0)

pub field_row : (s : Sub) (v : ℕ) (p : Place) (x : List ℕ) (k : Formed) (a b e : Kind) →
    MeetAll s (choice (wait.Apply p v (v + 1) (v + 2) (lit.Word x)) k) → Of (s.type_of v) b →
    Of (s.type_of (v + 2)) a → kind_form b ≡ rec → (fs : Fields) × (b ≡ Rec fs) × (field_kind fs x ≡ Some a)
field_row s v p x formed.Record a b e m hb ha f =
    let r = field_found (s.type_of v) (s.type_of (v + 2)) x b hb m.0 in
    (r.0, r.1, r.2.1 ∙ ap Some (same_of (s.type_of (v + 2)) r.2.0 a r.2.2 ha))
field_row s v p x formed.Function a b e m hb ha f =
    let r = of_fun (s.type_of (v + 1)) (s.type_of (v + 2)) b (subst (λ z. Of z b) m.0 hb) in
    absurd (apart (ap kind_form (sym r.2) ∙ f))
  where
    apart : fun ≡ rec → ⊥
    apart q = cc
field_row s v p x formed.Sequence a b e m hb ha f =
    let r = of_seq (s.type_of (v + 2)) b (subst (λ z. Of z b) m.0 hb) in
    absurd (apart (ap kind_form (sym r.1) ∙ f))
  where
    apart : seq ≡ rec → ⊥
    apart q = cc
field_row s v p x k a b e m hb ha f = absurd (m.0)

-- ---- domains

pub dom_row : (s : Sub) (v : ℕ) (p : Place) (k : Formed) (a b : Kind) →
    MeetAll s (choice (wait.Domain p v (v + 1) (v + 2) (v + 3)) k) → Of (s.type_of v) b → Of (s.type_of (v + 1)) a →
    row ker.Domain a (b ∷ []) ≡ true
dom_row s v p formed.Function a b m hb ha =
    let r = of_fun (s.type_of (v + 2)) (s.type_of (v + 3)) b (subst (λ z. Of z b) m.0 hb) in
    (λ i. row ker.Domain
    (same_of (set_type (s.type_of (v + 2))) a (Set r.0) (subst (λ z. Of z a) (sym m.1.0) ha)
    (has_set (s.type_of (v + 2)) r.0 r.3) i) (r.2 i ∷ [])) ∙ same_self r.0
dom_row s v p formed.Sequence a b m (t, q, e) ha =
    let f = formed_at (out-Ty t) (ap kind (sym (mean_out t) ∙ e) ∙ m.0) in
    let r = is_seq_kind b (sym (form_of t b q) ∙ f) in
    λ i. row ker.Domain
    (same_of (set_type int_type) a (Set Number) (subst (λ z. Of z a) (sym m.1.0) ha) (has_set int_type Number has_int) i)
    (r.1 i ∷ [])
dom_row s v p formed.Tuple a b m (t, q, e) ha =
    let f = formed_tuple (out-Ty t) (ap kind (sym (mean_out t) ∙ e) ∙ m.0) in
    let r = is_tup_kind b (sym (form_of t b q) ∙ f) in
    λ i. row ker.Domain
    (same_of (set_type int_type) a (Set Number) (subst (λ z. Of z a) (sym m.1.0) ha) (has_set int_type Number has_int) i)
    (r.1 i ∷ [])
dom_row s v p formed.Record a b m (t, q, e) ha =
    let f = formed_record (out-Ty t) (ap kind (sym (mean_out t) ∙ e) ∙ m.0) in
    let r = is_rec_kind b (sym (form_of t b q) ∙ f) in
    λ i. row ker.Domain
    (same_of (set_type str_type) a (Set (Word [])) (subst (λ z. Of z a) (sym m.1.0) ha) (has_set str_type (Word []) has_str) i)
    (r.1 i ∷ [])
dom_row s v p k a b m hb ha = absurd (m.0)

-- ---- tuples

apply_row : (s : Sub) (ts : List Term) → apply s (row_term ts) ≡ row_term (map (apply s) ts)
apply_row s [] = refl
apply_row s (t ∷ ts) = ap (app (apply s t)) (apply_row s ts)

from_shift : (s : Sub) (v w i n : ℕ) → w ≡ v + i →
    map (apply s) (from_type var w n) ≡ from_type (λ k. s.type_of (v + k)) i n
from_shift s v w i zero e = refl
from_shift s v w i (suc n) e =
    (λ j. s.type_of (e j) ∷ map (apply s) (from_type var (w + 1) n))
    ∙ ap (λ z. s.type_of (v + i) ∷ z) (from_shift s v (w + 1) (i + 1) n (next v w i e))
  where
    next : (v w i : ℕ) → w ≡ v + i → w + 1 ≡ v + (i + 1)
    next v w i e = omega (arith, e)

pub plain_types : (ts : List Term) → types_of (map plain_operand ts) ≡ ts
plain_types [] = refl
plain_types (t ∷ ts) = ap (λ z. t ∷ z) (plain_types ts)

all_one : (s : Sub) (x w i v : ℕ) (n : ℕ) (b : Kind) (as' : List Kind) → w ≡ v + i →
    MeetAll s (all_equal (var x) (items_from w n)) → Of (s.type_of x) b →
    AreOf (from_type (λ k. s.type_of (v + k)) i n) as' → each_is b as' ≡ true
all_one s x w i v zero b _ e m h no_more = refl
all_one s x w i v (suc n) b _ e m h (and_of _ d _ as' g r) =
    and_both (same b d) (each_is b as')
    (ap (same b) (same_of (s.type_of x) d b (subst (λ z. Of z d) (sym (m.0 ∙ ap s.type_of e)) g) h) ∙ same_self b)
    (all_one s x (w + 1) (i + 1) v n b as' (next v w i e) m.1 h r)
  where
    next : (v w i : ℕ) → w ≡ v + i → w + 1 ≡ v + (i + 1)
    next v w i e = omega (arith, e)

pub data Tupled (a : Kind) (as' : List Kind) : Type 0 where
  a_tuple : a ≡ Tup (kinds as') → Tupled a as'
  a_sequence : (b : Kind) → a ≡ Seq b → each_is b as' ≡ true → Tupled a as'

pub tuple_row : (s : Sub) (v : ℕ) (p : Place) (n : ℕ) (k : Formed) (a : Kind) (as' : List Kind) →
    MeetAll s (choice (wait.Tuple p v (v + 1) (v + 2) n) k) → Of (s.type_of v) a →
    AreOf (from_type (λ k. s.type_of (v + k)) 2 n) as' → Tupled a as'
tuple_row s v p n formed.Tuple a as' m h g =
    let ts : List Term = from_type (λ k. s.type_of (v + k)) 2 n in
    let e : s.type_of v ≡ tuple_type ts =
    m.0 ∙ ap (app (con TupHead)) (apply_row s (items_from (v + 2) n) ∙ ap row_term (from_shift s v (v + 2) 2 n refl)) in
    a_tuple (same_of (tuple_type ts) a (Tup (kinds as')) (subst (λ z. Of z a) e h) (has_tuple ts as' g))
tuple_row s v p n formed.Sequence a as' m h g =
    let r = of_seq (s.type_of (v + 1)) a (subst (λ z. Of z a) m.0 h) in
    a_sequence r.0 r.1 (all_one s (v + 1) (v + 2) 2 v n r.0 as' refl m.1 r.2 g)
tuple_row s v p n k a as' m h g = absurd (m.0)

-- by the type of the node
pub seq_of_row : (t : Ty) (a : Kind) (as' : List Kind) → kind_of t ≡ Some a → is_sequence (out-Ty t) ≡ true →
    Tupled a as' → row ker.SeqOf a as' ≡ true
seq_of_row t a as' q c (a_sequence b e h) = ap (λ z. row ker.SeqOf z as') e ∙ h
seq_of_row t a as' q c (a_tuple e) =
    absurd (apart (sym (form_sequence (out-Ty t) c) ∙ form_of t a q ∙ ap kind_form e))
  where
    apart : seq ≡ tup → ⊥
    apart q = cc

pub tup_of_row : (t : Ty) (a : Kind) (as' : List Kind) → kind_of t ≡ Some a → not (is_sequence (out-Ty t)) ≡ true →
    Tupled a as' → row ker.TupOf a as' ≡ true
tup_of_row t a as' q c (a_tuple e) = ap (λ z. row ker.TupOf z as') e ∙ all_self (kinds as')
tup_of_row t a as' q c (a_sequence b e h) =
    absurd (false≢true (ap not (sym (sequence_form (out-Ty t) (form_of t a q ∙ ap kind_form e))) ∙ c))

-- ---- records

pub rec_of_row : (ns : List (List ℕ)) (xs : List Term) (a : Kind) (as' : List Kind) → length ns ≡ length xs →
    length as' ≡ length xs → are_distinct ns ≡ true → AreOf xs as' → Of (record_type (zip ns xs)) a →
    row (ker.RecOf ns) a as' ≡ true
rec_of_row ns xs a as' l k d g h =
    ap (λ z. row (ker.RecOf ns) z as')
    (same_of (record_type (zip ns xs)) a (Rec (fields (zip ns as'))) h (has_record ns xs as' g l d))
    ∙ and_both (length ns == length as') (fields_same (fields (zip ns as')) (fields (zip ns as')))
    (ap (λ z. length ns == z) (k ∙ sym l) ∙ nat_same (length ns)) (fields_self (fields (zip ns as')))

pub rec_form_row : (ns : List (List ℕ)) (xs : List Term) (a : Kind) (as' ms : List Kind) → length ns ≡ length xs →
    length as' ≡ length xs → are_distinct ns ≡ true → AreOf xs ms → members as' ≡ Some ms →
    Of (set_type (record_type (zip ns xs))) a → row (ker.RecForm ns) a as' ≡ true
rec_form_row ns xs a as' ms l k d g m h =
    ap (λ z. row (ker.RecForm ns) z as')
    (same_of (set_type (record_type (zip ns xs))) a (Set (Rec (fields (zip ns ms)))) h
    (has_set (record_type (zip ns xs)) (Rec (fields (zip ns ms))) (has_record ns xs ms g l d)))
    ∙ and_both (length ns == length as') (passes (λ ms'. fields_same (fields (zip ns ms)) (fields (zip ns ms'))) (members as'))
    (ap (λ z. length ns == z) (k ∙ sym l) ∙ nat_same (length ns))
    (ap (passes (λ ms'. fields_same (fields (zip ns ms)) (fields (zip ns ms')))) m ∙ fields_self (fields (zip ns ms)))
