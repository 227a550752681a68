-- Whether a type has a kind, form by form.
use Rattle.std.proofs.Common.{◌≡◌, ℕ, Bool, true, false, not, ◌&&◌, List, [], ◌∷◌, map, length, refl, ◌∙◌, ap, Option, Some, None, option_map, option_and_then, if◌then◌else◌, arith}
use Rattle.std.specs.Prelude.{is_none, is_some, nat_eq}
use Rattle.std.specs.List.{list_all}
use Rattle.snowcat_rows.specs.declared.types.Ty.{Ty, Bool as bool_ty, Int, Str, Named, Var, Set as set_ty, Seq as seq_ty, Fun as fun_ty, Tup as tup_ty, Rec as rec_ty, Oper}
use Rattle.snowcat_rows.specs.TypeTexts.{are_distinct}
use Rattle.kernel_trees.specs.TypeKinds.{Kind, Set, Seq, Fun, Tup, Rec, kinds, fields, all_there, all_fields_there, kind_of, word_kind}
use Rattle.kernel_trees.proofs.TypeLaws.{kind-Bool, kind-Int, kind-Str, kind-Named, kind-Var, kind-Set, kind-Seq, kind-Fun, kind-Tup, kind-Rec, kind-open, kind-Oper}
use Rattle.kernel_reduction.specs.SoundLaws.{has_kind}

mapped : {X Y : Type 0} (f : X → Y) (o : Option X) → is_some (option_map f o) ≡ is_some o
mapped f None = refl
mapped f (Some x) = refl

then_mapped : {X Y Z : Type 0} (f : X → Y → Z) (o : Option X) (p : Option Y) →
    is_some (option_and_then (λ x. option_map (f x) p) o) ≡ (is_some o && is_some p)
then_mapped f None p = refl
then_mapped f (Some x) p = mapped (f x) p

all_is : (ts : List Ty) → is_some (all_there (map kind_of ts)) ≡ list_all has_kind ts
all_is [] = refl
all_is (t ∷ ts) =
    then_mapped (λ x xs. x ∷ xs) (kind_of t) (all_there (map kind_of ts)) ∙ ap (λ b. has_kind t && b) (all_is ts)

abbrev told : List ℕ × Ty → List ℕ × Option Kind
told f = (f.0, kind_of f.1)

fields_are : (fs : List (List ℕ × Ty)) → is_some (all_fields_there (map told fs)) ≡ list_all (λ f. has_kind f.1) fs
fields_are [] = refl
fields_are (f ∷ fs) =
    then_mapped (λ x xs. (f.0, x) ∷ xs) (kind_of f.1) (all_fields_there (map told fs))
    ∙ ap (λ b. has_kind f.1 && b) (fields_are fs)

names_are : (fs : List (List ℕ × Ty)) → map (λ f. f.0) (map told fs) ≡ map (λ f. f.0) fs
names_are [] = refl
names_are (f ∷ fs) = ap (λ xs. f.0 ∷ xs) (names_are fs)

record_is : (d : Bool) (o : Option (List (List ℕ × Kind))) →
    is_some (if d then option_map (λ xs. Rec (fields xs)) o else None) ≡ (d && is_some o)
record_is true o = mapped (λ xs. Rec (fields xs)) o
record_is false o = refl

word_is : (x : List ℕ) → is_some (word_kind x) ≡ not (nat_eq (length x) 0)
word_is [] = refl
word_is (a ∷ x) = grind (arith)

pub has-Bool : has_kind bool_ty ≡ true
has-Bool = ap is_some kind-Bool

pub has-Int : has_kind Int ≡ true
has-Int = ap is_some kind-Int

pub has-Str : has_kind Str ≡ true
has-Str = ap is_some kind-Str

pub has-Named : (x : List ℕ) → has_kind (Named x) ≡ not (nat_eq (length x) 0)
has-Named x = ap is_some (kind-Named x) ∙ word_is x

pub has-Var : (n : ℕ) → has_kind (Var n) ≡ false
has-Var n = ap is_some (kind-Var n)

pub has-Set : (a : Ty) → has_kind (set_ty a) ≡ has_kind a
has-Set a = ap is_some (kind-Set a) ∙ mapped Set (kind_of a)

pub has-Seq : (a : Ty) → has_kind (seq_ty a) ≡ has_kind a
has-Seq a = ap is_some (kind-Seq a) ∙ mapped Seq (kind_of a)

pub has-Fun : (a b : Ty) → has_kind (fun_ty a b) ≡ (has_kind a && has_kind b)
has-Fun a b = ap is_some (kind-Fun a b) ∙ then_mapped (λ x y. Fun x y) (kind_of a) (kind_of b)

pub has-Tup : (ts : List Ty) → has_kind (tup_ty ts) ≡ list_all has_kind ts
has-Tup ts = ap is_some (kind-Tup ts) ∙ mapped (λ xs. Tup (kinds xs)) (all_there (map kind_of ts)) ∙ all_is ts

closed_is : (fs : List (List ℕ × Ty)) →
    has_kind (rec_ty fs None) ≡ (are_distinct (map (λ f. f.0) fs) && list_all (λ f. has_kind f.1) fs)
closed_is fs =
    ap is_some (kind-Rec fs)
    ∙ record_is (are_distinct (map (λ f. f.0) (map told fs))) (all_fields_there (map told fs))
    ∙ ap (λ xs. are_distinct xs && is_some (all_fields_there (map told fs))) (names_are fs)
    ∙ ap (λ b. are_distinct (map (λ f. f.0) fs) && b) (fields_are fs)

pub has-Rec : (fs : List (List ℕ × Ty)) (row : Option ℕ) →
    has_kind (rec_ty fs row)
    ≡ (is_none row && (are_distinct (map (λ f. f.0) fs) && list_all (λ f. has_kind f.1) fs))
has-Rec fs None = closed_is fs
has-Rec fs (Some r) = ap is_some (kind-open fs r)

pub has-Oper : (ts : List Ty) (b : Ty) → has_kind (Oper ts b) ≡ false
has-Oper ts b = ap is_some (kind-Oper ts b)

pub ruleset kinded =
    (has-Bool, has-Int, has-Str, has-Named, has-Var, has-Set, has-Seq, has-Fun, has-Tup, has-Rec, has-Oper)
