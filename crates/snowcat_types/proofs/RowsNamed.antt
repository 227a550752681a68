-- Where a type has no records, the names of their fields differ; and only the rows of records have some.
use Rattle.std.proofs.Common.{◌≡◌, ℕ, zero, suc, ◌+◌, Bool, true, false, ◌&&◌, List, [], ◌∷◌, length, map, inl, inr, refl, ap, ◌∙◌, sym, subst, Result, Ok, Err, IfOk}
use Rattle.std.proofs.lemmas.Bool.{cases_Bool}
use Rattle.std.specs.List.{list_all}
use Rattle.tla_meaning.specs.declared.expr.Expr.{Expr, out-Expr}
use Rattle.tla_meaning.specs.declared.op.Op.TheVariants as op
use Rattle.tla_meaning.specs.declared.op.Op.{Op}
use Rattle.snowcat_rows.specs.declared.types.Ty.{Ty, roll-Ty, out-Ty, out-roll-Ty}
use Rattle.snowcat_rows.specs.declared.types.Ty.TheOpen as layer
use Rattle.snowcat_rows.specs.declared.types.Ty.TheFolds.{ind-Ty, map-Ty}
use Rattle.snowcat_rows.specs.Types.{Term, var, con, app, fields, row, mean, mean_layer}
use Rattle.snowcat_rows.specs.FieldNames.{names_differ, differ_layer}
use Rattle.snowcat_rows.proofs.Means.{mean_out}
use Rattle.snowcat_rows.proofs.Naming.{differ_out}
use Rattle.snowcat_types.specs.declared.forms.Operand.{Operand as BuiltOperand}
use Rattle.snowcat_types.specs.declared.forms.Row.{Row as BuiltRow}
use Rattle.snowcat_types.specs.Rows.{Signature, TypeRow, Context, from_type, sets_of, row_of, type_row}
use Rattle.snowcat_types.specs.inner.Built.{means, operand_of, row_at, scope_of, signature_of, unknown_from}
use Rattle.snowcat_types.specs.inner.Gathered.{IsNamed, TypesNamed}
use Rattle.snowcat_types.specs.inner.Named.{ScopeNamed, OperandsNamed, RowNamed, has_fields}
use Rattle.snowcat_types.proofs.Holding.{KeepsPlainForms, AllTypes, AllNamed, AllOperands, SignatureHas, rows_have}

abbrev pub NoRecord : Term → Type 0
NoRecord (var v) = Unit {0}
NoRecord (con h) = Unit {0}
NoRecord (app a b) = NoRecord a × NoRecord b
NoRecord (fields f k) = ⊥

abbrev Claim : Ty → Type 0
Claim t = NoRecord (mean t) → names_differ t ≡ true

abbrev Such : Type 0
Such = (t : Ty) × Claim t

abbrev bare : Such → Ty
bare s = s.0

both : (a b : Bool) → a ≡ true → b ≡ true → (a && b) ≡ true
both true b e h = h
both false b e h = absurd (cc)

items_named : (ts : List Such) → NoRecord (row (map mean (map bare ts))) → list_all (λ b. b) (map names_differ (map bare ts)) ≡ true
items_named [] h = refl
items_named (t ∷ ts) h = both (names_differ t.0) (list_all (λ b. b) (map names_differ (map bare ts))) (t.1 h.0) (items_named ts h.1)

layer_named : (y : layer.Ty-F Such) → NoRecord (mean_layer (map-Ty Ty Term mean (map-Ty Such Ty bare y))) →
    differ_layer (map-Ty Ty Bool names_differ (map-Ty Such Ty bare y)) ≡ true
layer_named layer.Bool h = refl
layer_named layer.Int h = refl
layer_named layer.Str h = refl
layer_named (layer.Named x) h = refl
layer_named (layer.Var v) h = refl
layer_named (layer.Set a) h = a.1 h.1
layer_named (layer.Seq a) h = a.1 h.1
layer_named (layer.Fun a b) h = both (names_differ a.0) (names_differ b.0) (a.1 h.1.0) (b.1 h.1.1)
layer_named (layer.Tup ts) h = items_named ts h.1
layer_named (layer.Rec fs k) h = absurd h
layer_named (layer.Oper ts b) h =
    both (list_all (λ z. z) (map names_differ (map bare ts))) (names_differ b.0) (items_named ts h.1.0) (b.1 h.1.1)

pub bare_named : (t : Ty) → Claim t
bare_named = ind-Ty Claim (λ x y is.
    let o : out-Ty (roll-Ty x) ≡ map-Ty Such Ty bare y = out-roll-Ty x ∙ sym is in
    let m : mean (roll-Ty x) ≡ mean_layer (map-Ty Ty Term mean (map-Ty Such Ty bare y)) =
    mean_out (roll-Ty x) ∙ ap (λ z. mean_layer (map-Ty Ty Term mean z)) o in
    let d : names_differ (roll-Ty x) ≡ differ_layer (map-Ty Ty Bool names_differ (map-Ty Such Ty bare y)) =
    differ_out (roll-Ty x) ∙ ap (λ z. differ_layer (map-Ty Ty Bool names_differ z)) o in
    λ h. d ∙ layer_named y (subst NoRecord m h))

types_bare : (ts : List Term) → AllTypes NoRecord ts → NoRecord (row ts)
types_bare [] h = tt
types_bare (t ∷ ts) h = (h.0, types_bare ts h.1)

pub plain_forms : KeepsPlainForms NoRecord
plain_forms = record {
  truth = tt;
  number = tt;
  text = tt;
  named = λ x. tt;
  set = λ t h. (tt, h);
  seq = λ t h. (tt, h);
  fun = λ t u h k. (tt, (h, k));
  tuple = λ ts h. (tt, types_bare ts h);
}

scope_named : (xs : List (List ℕ × Ty)) → AllNamed NoRecord (scope_of xs) → ScopeNamed xs
scope_named [] h = tt
scope_named (x ∷ xs) h = (bare_named x.1 h.0, scope_named xs h.1)

operands_named : (os : List BuiltOperand) → AllOperands NoRecord (map operand_of os) → OperandsNamed os
operands_named [] h = tt
operands_named (o ∷ os) h = ((bare_named o.of h.0.0, scope_named o.under h.0.1), operands_named os h.1)

pub row_named : (r : BuiltRow) (sig : Signature) → signature_of r ≡ sig → SignatureHas NoRecord sig → RowNamed r
row_named r sig e h =
    let k : SignatureHas NoRecord (signature_of r) = subst (SignatureHas NoRecord) (sym e) h in
    record { operands = operands_named r.operands k.0; result = bare_named r.result k.1 }

pub types_named : (ts : List Ty) (us : List Term) → means ts ≡ us → AllTypes NoRecord us → TypesNamed ts
types_named ts us e h = all_of ts (subst (AllTypes NoRecord) (sym e) h)
  where
    all_of : (ts : List Ty) → AllTypes NoRecord (means ts) → TypesNamed ts
    all_of [] h = tt
    all_of (t ∷ ts) h = (bare_named t h.0, all_of ts h.1)

-- a row of the table
pub table_named : (o : Op) (names : List (List ℕ)) (n first : ℕ) (r : BuiltRow) → has_fields o ≡ false →
    signature_of r ≡ (type_row o names n).says (unknown_from first) → RowNamed r
table_named o names n first r f e =
    row_named r ((type_row o names n).says (unknown_from first)) e
    (rows_have NoRecord plain_forms o (λ h. absurd (contrary (has_fields o) h f)) names n (unknown_from first) (λ j lt. tt))
  where
    contrary : (b : Bool) → b ≡ true → b ≡ false → ⊥
    contrary b p q = cc

pub unknown_named : (t : Ty) (v : ℕ) → mean t ≡ var v → IsNamed t
unknown_named t v e = bare_named t (subst NoRecord (sym e) tt)

from_bare : (first i n : ℕ) → AllTypes NoRecord (from_type (unknown_from first) i n)
from_bare first i zero = tt
from_bare first i (suc n) = (tt, from_bare first (i + 1) n)

sets_bare : (ts : List Term) → AllTypes NoRecord ts → AllTypes NoRecord (sets_of ts)
sets_bare [] h = tt
sets_bare (t ∷ ts) h = ((tt, h.0), sets_bare ts h.1)

pub unknowns_named : (ts : List Ty) (first i n : ℕ) → means ts ≡ from_type (unknown_from first) i n → TypesNamed ts
unknowns_named ts first i n e = types_named ts (from_type (unknown_from first) i n) e (from_bare first i n)

pub sets_named : (ts us : List Ty) (first i n : ℕ) → means us ≡ sets_of (means ts) → means ts ≡ from_type (unknown_from first) i n → TypesNamed us
sets_named ts us first i n h e =
    let vs : List Term = from_type (unknown_from first) i n in
    types_named us (sets_of vs) (h ∙ ap sets_of e) (sets_bare vs (from_bare first i n))

-- ---- a node that has no type at once

other_row : (c : Context) (o : Op) (xs : List (List ℕ)) (n : ℕ) → ((i : ℕ) (b : Bool) → o ≡ op.Name i b → ⊥) → ((x : List ℕ) → o ≡ op.Bound x → ⊥) →
    ((x : List ℕ) → o ≡ op.Noted x → ⊥) → row_of c o xs n ≡ type_row o xs n
other_row c (op.Name i b) xs n f g h = absurd (f i b refl)
other_row c (op.Bound x) xs n f g h = absurd (g x refl)
other_row c (op.Noted x) xs n f g h = absurd (h x refl)
other_row c op.And xs n f g h = refl
other_row c o xs n f g h = refl

pub row_in_table : {E : Type 0} (c : Context) (e : Expr) (first : ℕ) (r : Result BuiltRow E) (xs : List (List ℕ)) (es : List Expr) →
    xs ≡ (out-Expr e).binds → es ≡ (out-Expr e).args → ((i : ℕ) (b : Bool) → (out-Expr e).op ≡ op.Name i b → ⊥) →
    ((x : List ℕ) → (out-Expr e).op ≡ op.Bound x → ⊥) → ((x : List ℕ) → (out-Expr e).op ≡ op.Noted x → ⊥) →
    IfOk r (λ w. signature_of w ≡ (type_row (out-Expr e).op xs (length es)).says (unknown_from first)) →
    IfOk r (λ w. signature_of w ≡ (row_at c e).says (unknown_from first))
row_in_table c e first r xs es p q f g h k =
    subst (λ (t : TypeRow). IfOk r (λ w. signature_of w ≡ t.says (unknown_from first)))
    ((λ i. type_row (out-Expr e).op (p i) (length (q i))) ∙ sym (other_row c (out-Expr e).op (out-Expr e).binds (length (out-Expr e).args) f g h)) k

pub named_in_table : {E : Type 0} (o : Op) (xs : List (List ℕ)) (n first : ℕ) (r : Result BuiltRow E) →
    IfOk r (λ w. signature_of w ≡ (type_row o xs n).says (unknown_from first)) → (has_fields o ≡ true → IfOk r (λ w. RowNamed w)) → IfOk r (λ w. RowNamed w)
named_in_table o xs n first (Err x) h k = tt
named_in_table o xs n first (Ok w) h k =
    elim (cases_Bool (has_fields o)) [ inl e ↦ k e | inr e ↦ table_named o xs n first w e h ]
