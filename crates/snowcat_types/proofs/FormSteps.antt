-- Steps of building rows of the table.
use Rattle.std.proofs.Common.{◌<◌, ◌≤◌, length, take, drop, get_or, append_assoc, ◌≡◌, ℕ, zero, suc, ◌+◌, List, [], ◌∷◌, ◌++◌, map, refl, ap, sym, ◌∙◌, arith}
use Rattle.std.specs.Prelude.{zip, Option, Some, None, Bool, true, false, option_map, if◌then◌else◌}
use Rattle.tla_meaning.specs.Scopes.{find_last, or_else, same_text}
use Rattle.std.proofs.lemmas.List.{take_more, length-take-le, drop_more}
use Rattle.snowcat_rows.specs.declared.types.Ty.{Ty}
use Rattle.snowcat_rows.specs.Types.{Term, mean}
use Rattle.snowcat_types.specs.TypeForms.{bool_type}
use Rattle.snowcat_types.specs.Rows.{Scope, Operand, plain, branches, first_type, from_type, index_types, reached_after, typed_names, update_operands}
use Rattle.snowcat_types.specs.inner.Built.{note_of, means, operand_of, scope_of, type_at, unknown_from, update_of}
use Rattle.snowcat_types.specs.declared.forms.Operand.{Operand as BuiltOperand}

from_suc : (a : ℕ → Term) (i n : ℕ) → from_type a i (suc n) ≡ from_type a i n ++ a (i + n) ∷ []
from_suc a i zero = let e : i ≡ i + 0 = omega arith in ap (λ z. a z ∷ []) e
from_suc a i (suc n) =
    let e : (i + 1) + n ≡ i + suc n = omega arith in
    ap (λ z. a i ∷ z) (from_suc a (i + 1) n ∙ ap (λ z. from_type a (i + 1) n ++ a z ∷ []) e)

-- one type more
pub from_next : (a : ℕ → Term) (i n : ℕ) → from_type a i (n + 1) ≡ from_type a i n ++ a (i + n) ∷ []
from_next a i n = let e : n + 1 ≡ suc n = omega arith in ap (from_type a i) e ∙ from_suc a i n

means_append : (ts us : List Ty) → means (ts ++ us) ≡ means ts ++ means us
means_append [] us = refl
means_append (t ∷ ts) us = ap (λ z. mean t ∷ z) (means_append ts us)

pub next_unknown : (first start i : ℕ) (ts us : List Ty) (t : Ty) → us ≡ ts ++ t ∷ [] → means ts ≡ from_type (unknown_from first) start i →
    mean t ≡ unknown_from first (start + i) → means us ≡ from_type (unknown_from first) start (i + 1)
next_unknown first start i ts us t e h k =
    ap means e ∙ means_append ts (t ∷ []) ∙ (λ j. h j ++ k j ∷ []) ∙ sym (from_next (unknown_from first) start i)

-- ---- names with their types

pub scope_append : (xs ys : List (List ℕ × Ty)) → scope_of (xs ++ ys) ≡ scope_of xs ++ scope_of ys
scope_append [] ys = refl
scope_append (x ∷ xs) ys = ap (λ z. (x.0, mean x.1) ∷ z) (scope_append xs ys)

pub scope_more : (xs ys : List (List ℕ × Ty)) (x : List ℕ) (t : Ty) → ys ≡ xs ++ (x, t) ∷ [] → scope_of ys ≡ scope_of xs ++ (x, mean t) ∷ []
scope_more xs ys x t e = ap scope_of e ∙ scope_append xs ((x, t) ∷ [])

named_more : (xs : List (List ℕ)) (x : List ℕ) (ts : List Term) → typed_names (xs ++ x ∷ []) ts ≡ typed_names xs ts ++ (x, type_at ts (length xs)) ∷ []
named_more [] x [] = refl
named_more [] x (t ∷ ts) = refl
named_more (y ∷ xs) x [] = ap (λ z. (y, bool_type) ∷ z) (named_more xs x [] ∙ ap (λ z. typed_names xs [] ++ (x, z) ∷ []) (nothing_at (length xs) ∙ sym (nothing_at (suc (length xs)))))
  where
    nothing_at : (i : ℕ) → type_at [] i ≡ bool_type
    nothing_at zero = refl
    nothing_at (suc i) = refl
named_more (y ∷ xs) x (t ∷ ts) = ap (λ z. (y, t) ∷ z) (named_more xs x ts)

pub next_name : (names : List (List ℕ)) (ts : List Term) (i : ℕ) (x d : List ℕ) (xs ys : List (List ℕ × Ty)) (t : Ty) → i < length names → x ≡ get_or names i d →
    ys ≡ xs ++ (x, t) ∷ [] → scope_of xs ≡ typed_names (take i names) ts → mean t ≡ type_at ts i → scope_of ys ≡ typed_names (take (i + 1) names) ts
next_name names ts i x d xs ys t lt q e h k =
    let l : length (take i names) ≡ i = length-take-le i names (omega (arith, lt)) in
    scope_more xs ys x t e ∙ (λ j. h j ++ (x, k j) ∷ [])
    ∙ ap (λ z. typed_names (take i names) ts ++ (x, type_at ts z) ∷ []) (sym l)
    ∙ sym (named_more (take i names) x ts)
    ∙ ap (λ z. typed_names z ts) (sym (take_more names i d lt ∙ ap (λ z. take i names ++ z ∷ []) (sym q)))

-- ---- EXCEPT

index_suc : (a : ℕ → Term) (i n : ℕ) → index_types a i (suc n) ≡ index_types a i n ++ a ((i + n) + (i + n) + 1) ∷ []
index_suc a i zero = let e : i + i + 1 ≡ (i + 0) + (i + 0) + 1 = omega arith in ap (λ z. a z ∷ []) e
index_suc a i (suc n) =
    let e : ((i + 1) + n) + ((i + 1) + n) + 1 ≡ (i + suc n) + (i + suc n) + 1 = omega arith in
    ap (λ z. a (i + i + 1) ∷ z) (index_suc a (i + 1) n ∙ ap (λ z. index_types a (i + 1) n ++ a z ∷ []) e)

pub next_index : (first i j : ℕ) (ts us : List Ty) (t : Ty) → us ≡ ts ++ t ∷ [] → means ts ≡ index_types (unknown_from first) i j →
    mean t ≡ unknown_from first ((i + j) + (i + j) + 1) → means us ≡ index_types (unknown_from first) i (j + 1)
next_index first i j ts us t e h k =
    let up : suc j ≡ j + 1 = omega arith in
    ap means e ∙ means_append ts (t ∷ []) ∙ (λ x. h x ++ k x ∷ []) ∙ sym (index_suc (unknown_from first) i j) ∙ ap (index_types (unknown_from first) i) up

reached_suc : (a : ℕ → Term) (i n : ℕ) → reached_after a i (suc n) ≡ a ((i + n) + (i + n) + 2)
reached_suc a i zero = let e : i + i + 2 ≡ (i + 0) + (i + 0) + 2 = omega arith in ap a e
reached_suc a i (suc n) =
    let e : ((i + 1) + n) + ((i + 1) + n) + 2 ≡ (i + suc n) + (i + suc n) + 2 = omega arith in reached_suc a (i + 1) n ∙ ap a e

pub reached_at : (a : ℕ → Term) (i n m : ℕ) → n ≡ m + 1 → reached_after a i n ≡ a ((i + m) + (i + m) + 2)
reached_at a i n m e = let q : n ≡ suc m = omega (arith, e) in ap (reached_after a i) q ∙ reached_suc a i m

operands_append : (os qs : List BuiltOperand) → map operand_of (os ++ qs) ≡ map operand_of os ++ map operand_of qs
operands_append [] qs = refl
operands_append (o ∷ os) qs = ap (λ z. operand_of o ∷ z) (operands_append os qs)

pub more_operands : (os qs ps : List BuiltOperand) (xs ys : List Operand) → ps ≡ os ++ qs → map operand_of os ≡ xs → map operand_of qs ≡ ys → map operand_of ps ≡ xs ++ ys
more_operands os qs ps xs ys e h k = ap (map operand_of) e ∙ operands_append os qs ∙ (λ i. h i ++ k i)

plains_more : (ts : List Ty) (t : Ty) → map plain (means (ts ++ t ∷ [])) ≡ map plain (means ts) ++ plain (mean t) ∷ []
plains_more [] t = refl
plains_more (x ∷ ts) t = ap (λ z. plain (mean x) ∷ z) (plains_more ts t)

pub plain_more : (os ps : List BuiltOperand) (o : BuiltOperand) (ts : List Ty) (t : Ty) → ps ≡ os ++ o ∷ [] → map operand_of os ≡ map plain (means ts) →
    operand_of o ≡ plain (mean t) → map operand_of ps ≡ map plain (means (ts ++ t ∷ []))
plain_more os ps o ts t e h k = ap (map operand_of) e ∙ operands_append os (o ∷ []) ∙ (λ i. h i ++ k i ∷ []) ∙ sym (plains_more ts t)

-- what is left of the updates
pub next_update : (names : List (List ℕ)) (a : ℕ → Term) (counts : List ℕ) (at i n j : ℕ) (done more : List Operand) → at < length counts → n ≡ get_or counts at n →
    j ≡ i + n → more ≡ done ++ update_of names a i n →
    more ++ update_operands names a j (drop (at + 1) counts) ≡ done ++ update_operands names a i (drop at counts)
next_update names a counts at i n j done more lt q e h =
    ap (λ z. z ++ update_operands names a j (drop (at + 1) counts)) h
    ∙ append_assoc done (update_of names a i n) (update_operands names a j (drop (at + 1) counts))
    ∙ ap (λ z. done ++ z)
    (append_assoc (map plain (index_types a i n)) (record { type = reached_after a i n; under = typed_names names (reached_after a i n ∷ []) } ∷ []) (update_operands names a j (drop (at + 1) counts))
    ∙ ap (λ z. map plain (index_types a i n) ++ record { type = reached_after a i n; under = typed_names names (reached_after a i n ∷ []) } ∷ update_operands names a z (drop (at + 1) counts)) e
    ∙ ap (update_operands names a i) (sym (drop_more counts at n lt ∙ ap (λ z. z ∷ drop (at + 1) counts) (sym q))))

-- ---- what is told by a few cases

pub type_past : (ts : List Ty) (i : ℕ) → length ts ≤ i → bool_type ≡ type_at (means ts) i
type_past [] zero le = refl
type_past [] (suc i) le = refl
type_past (t ∷ ts) zero le = absurd (omega (arith, le))
type_past (t ∷ ts) (suc i) le = type_past ts i (omega (arith, le))

pub first_is : (a : ℕ → Term) (n : ℕ) → 0 < n → a 0 ≡ first_type (from_type a 0 n)
first_is a zero lt = absurd (omega (arith, lt))
first_is a (suc n) lt = refl

pub zip_enough : (xs : List (List ℕ)) (ts : List Ty) (i : ℕ) → length ts ≤ i → zip (take i xs) (means ts) ≡ zip xs (means ts)
zip_enough [] ts zero le = refl
zip_enough [] ts (suc i) le = refl
zip_enough (x ∷ xs) [] zero le = refl
zip_enough (x ∷ xs) [] (suc i) le = refl
zip_enough (x ∷ xs) (t ∷ ts) zero le = absurd (omega (arith, le))
zip_enough (x ∷ xs) (t ∷ ts) (suc i) le = ap (λ z. (x, mean t) ∷ z) (zip_enough xs ts i (omega (arith, le)))

pub zip_more : (xs : List (List ℕ)) (ts : List Ty) (i : ℕ) (x d : List ℕ) (t e : Ty) → i < length xs → i < length ts → x ≡ get_or xs i d → t ≡ get_or ts i e →
    zip (take (suc i) xs) (means ts) ≡ zip (take i xs) (means ts) ++ (x, mean t) ∷ []
zip_more [] ts i x d t e l k p q = absurd (omega (arith, l))
zip_more (y ∷ xs) [] i x d t e l k p q = absurd (omega (arith, k))
zip_more (y ∷ xs) (u ∷ ts) zero x d t e l k p q = λ i. (sym p i, mean (sym q i)) ∷ []
zip_more (y ∷ xs) (u ∷ ts) (suc i) x d t e l k p q =
    ap (λ z. (y, mean u) ∷ z) (zip_more xs ts i x d t e (omega (arith, l)) (omega (arith, k)) p q)

pub next_branch : (t : Term) (ts us : List Term) (left m : ℕ) → left ≡ m + 2 → us ≡ ts ++ bool_type ∷ t ∷ [] → us ++ branches t m ≡ ts ++ branches t left
next_branch t ts us left m e h =
    let q : suc (suc m) ≡ left = omega (arith, e) in
    ap (λ z. z ++ branches t m) h ∙ append_assoc ts (bool_type ∷ t ∷ []) (branches t m) ∙ ap (λ z. ts ++ branches t z) q

pub two_more : (ts us vs : List Ty) (b t : Ty) → us ≡ ts ++ b ∷ [] → vs ≡ us ++ t ∷ [] → mean b ≡ bool_type → means vs ≡ means ts ++ bool_type ∷ mean t ∷ []
two_more ts us vs b t e h k =
    ap means h ∙ means_append us (t ∷ []) ∙ ap (λ z. means z ++ mean t ∷ []) e ∙ ap (λ z. z ++ mean t ∷ []) (means_append ts (b ∷ []))
    ∙ append_assoc (means ts) (mean b ∷ []) (mean t ∷ []) ∙ ap (λ z. means ts ++ z ∷ mean t ∷ []) k

-- ---- looking names and notes up

last_or : (b : Bool) (t : Term) (f z : Option Term) → or_else (if b then Some t else f) z ≡ (if b then Some t else or_else f z)
last_or true t f z = refl
last_or false t f z = refl

last_at : (x y : List ℕ) (t : Term) (xs : Scope) → find_last x (xs ++ (y, t) ∷ []) ≡ (if same_text x y then Some t else find_last x xs)
last_at x y t [] = refl
last_at x y t (z ∷ xs) =
    ap (λ o. or_else o (if same_text x z.0 then Some z.1 else None)) (last_at x y t xs) ∙ last_or (same_text x y) t (find_last x xs) (if same_text x z.0 then Some z.1 else None)

pub entry_at : (x : List ℕ) (es : List (List ℕ × Ty)) (i j : ℕ) (e : List ℕ × Ty) → j ≡ i + 1 → i < length es → e ≡ get_or es i e →
    find_last x (scope_of (take j es)) ≡ (if same_text x e.0 then Some (mean e.1) else find_last x (scope_of (take i es)))
entry_at x es i j e a lt q =
    ap (λ z. find_last x (scope_of (take z es))) a
    ∙ ap (λ z. find_last x (scope_of z)) (take_more es i e lt ∙ ap (λ z. take i es ++ z ∷ []) (sym q))
    ∙ ap (find_last x) (scope_append (take i es) (e ∷ [])) ∙ last_at x e.0 (mean e.1) (scope_of (take i es))

pub chosen_if : (b : Bool) (t : Term) (f : Option Term) → b ≡ true → (if b then Some t else f) ≡ Some t
chosen_if b t f e = rw e refl

pub other_if : (b : Bool) (t : Term) (f : Option Term) → b ≡ false → (if b then Some t else f) ≡ f
other_if b t f e = rw e refl

pub note_at : (x : List ℕ) (ns : List (List ℕ × Option Ty)) (i : ℕ) (n : List ℕ × Option Ty) → i < length ns → n ≡ get_or ns i n →
    note_of (drop i ns) x ≡ (if same_text x n.0 then option_map mean n.1 else note_of (drop (i + 1) ns) x)
note_at x ns i n lt q = ap (λ z. note_of z x) (drop_more ns i n lt ∙ ap (λ z. z ∷ drop (i + 1) ns) (sym q))
