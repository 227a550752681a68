-- Shapes of types, form by form.
use Rattle.std.proofs.Common.{◌≡◌, ℕ, zero, suc, ◌+◌, ◌<◌, ◌≤◌, Bool, true, false, List, [], ◌∷◌, ◌++◌, map, take, length, get_or, Option, Some, None, option_map, option_and_then, refl, sym, ◌∙◌, ap, ap₂, subst, arith, if◌then◌else◌}
use Rattle.std.specs.Ordering.{is_lt}
use Rattle.tla_values.specs.Order.{text_cmp}
use Rattle.snowcat_rows.specs.declared.types.Ty.{Ty, Bool as bool_ty, Int, Str, Named, Set as set_ty, Seq as seq_ty, Fun as fun_ty, Tup as tup_ty, Rec as rec_ty}
use Rattle.kernel_trees.specs.TypeKinds as kind
use Rattle.kernel_trees.specs.TypeKinds.{Kind, Kinds, Fields, more_fields, no_fields, insert_field, fields, kinds, all_there, all_fields_there, word_kind, record_kind, kind_of}
use Rattle.snowcat_rows.specs.TypeTexts.{are_distinct}
use Rattle.kernel_trees.proofs.TypeLaws.{kind-Bool, kind-Int, kind-Str, kind-Named, kind-Set, kind-Seq, kind-Fun, kind-Tup, kind-Rec}
use Rattle.kernel_shapes.specs.declared.bounds.Bounds.{Bounds}
use Rattle.kernel_shapes.specs.declared.bounds.Shape.{Shape as Code}
use Rattle.kernel_shapes.specs.Codes.{mean}
use Rattle.kernel_shapes.specs.Rows.{in_order, put_field, record_shape}
use Rattle.kernel_shapes.specs.Shape.{Shape, Atom, Num, Set, Fun, Seq, Tup, Rec, Shapes, more_shapes, shapes}
use Rattle.kernel_shapes.specs.TypedStates.{names_of_fields, shapes_of_fields, shapes_of_kinds}
use Rattle.shape_bounds.specs.inner.TypedStart.{AreOfTypes, IsOfType, shape_in}
use Rattle.shape_bounds.proofs.Ending.{all_taken, mapped_end}

same_some : {X : Type 0} (x y : X) → Some x ≡ Some y → x ≡ y
same_some x y e = cc

none_some : {X : Type 0} (x : X) → None ≡ Some x → ⊥
none_some x e = absurd (cc)

-- a type by its form
at_form : (b : Bounds) (t u : Ty) (o : Option Kind) (a : Shape) → t ≡ u → kind_of u ≡ o → ((k : Kind) → o ≡ Some k → a ≡ shape_in b k) → IsOfType b t a
at_form b t u o a e f h = λ k g. h k (sym (ap kind_of e ∙ f) ∙ g)

pub of_bool : (b : Bounds) (t : Ty) (a : Shape) → t ≡ bool_ty → a ≡ Atom → IsOfType b t a
of_bool b t a e f = at_form b t bool_ty _ a e kind-Bool (λ k g. f ∙ ap (shape_in b) (same_some kind.Truth k g))

pub of_int : (b : Bounds) (t : Ty) (a : Shape) → t ≡ Int → a ≡ Num b.low b.high → IsOfType b t a
of_int b t a e f = at_form b t Int _ a e kind-Int (λ k g. f ∙ ap (shape_in b) (same_some kind.Number k g))

pub of_str : (b : Bounds) (t : Ty) (a : Shape) → t ≡ Str → a ≡ Atom → IsOfType b t a
of_str b t a e f = at_form b t Str _ a e kind-Str (λ k g. f ∙ ap (shape_in b) (same_some (kind.Word []) k g))

word_of : (b : Bounds) (x : List ℕ) (k : Kind) → word_kind x ≡ Some k → Atom ≡ shape_in b k
word_of b [] k e = absurd (none_some k e)
word_of b (c ∷ x) k e = ap (shape_in b) (same_some (kind.Word (c ∷ x)) k e)

pub of_named : (b : Bounds) (t : Ty) (x : List ℕ) (a : Shape) → t ≡ Named x → a ≡ Atom → IsOfType b t a
of_named b t x a e f = at_form b t (Named x) _ a e (kind-Named x) (λ k g. f ∙ word_of b x k g)

one_of : (b : Bounds) (f : Kind → Kind) (h : Shape → Shape) (o : Option Kind) (s : Shape) (k : Kind) → ((j : Kind) → h (shape_in b j) ≡ shape_in b (f j)) →
    ((j : Kind) → o ≡ Some j → s ≡ shape_in b j) → option_map f o ≡ Some k → h s ≡ shape_in b k
one_of b f h (Some j) s k same r e = ap h (r j refl) ∙ same j ∙ ap (shape_in b) (same_some (f j) k e)
one_of b f h None s k same r e = absurd (none_some k e)

pub of_set : (b : Bounds) (t u v : Ty) (a s : Shape) → t ≡ set_ty u → v ≡ u → IsOfType b v s → a ≡ Set b.size s → IsOfType b t a
of_set b t u v a s e f r g =
    at_form b t (set_ty u) _ a e (kind-Set u) (λ k h. g ∙ one_of b kind.Set (Set b.size) (kind_of u) s k (λ j. refl) (λ j q. r j (ap kind_of f ∙ q)) h)

pub of_seq : (b : Bounds) (t u v : Ty) (a s : Shape) → t ≡ seq_ty u → v ≡ u → IsOfType b v s → a ≡ Seq b.size s → IsOfType b t a
of_seq b t u v a s e f r g =
    at_form b t (seq_ty u) _ a e (kind-Seq u) (λ k h. g ∙ one_of b kind.Seq (Seq b.size) (kind_of u) s k (λ j. refl) (λ j q. r j (ap kind_of f ∙ q)) h)

two_of : (b : Bounds) (o p : Option Kind) (s r : Shape) (k : Kind) → ((j : Kind) → o ≡ Some j → s ≡ shape_in b j) → ((j : Kind) → p ≡ Some j → r ≡ shape_in b j) →
    option_and_then (λ x. option_map (λ y. kind.Fun x y) p) o ≡ Some k → Fun b.size s r ≡ shape_in b k
two_of b (Some i) (Some j) s r k h l e = ap₂ (Fun b.size) (h i refl) (l j refl) ∙ ap (shape_in b) (same_some (kind.Fun i j) k e)
two_of b (Some i) None s r k h l e = absurd (none_some k e)
two_of b None p s r k h l e = absurd (none_some k e)

pub of_fun : (b : Bounds) (t u v w z : Ty) (a s r : Shape) → t ≡ fun_ty u v → w ≡ u → z ≡ v → IsOfType b w s → IsOfType b z r → a ≡ Fun b.size s r → IsOfType b t a
of_fun b t u v w z a s r e f g h l m =
    at_form b t (fun_ty u v) _ a e (kind-Fun u v) (λ k q. m ∙ two_of b (kind_of u) (kind_of v) s r k (λ j d. h j (ap kind_of f ∙ d)) (λ j d. l j (ap kind_of g ∙ d)) q)

items_are : (b : Bounds) (ks : List Kind) → shapes (map (shape_in b) ks) ≡ shapes_of_kinds b.low b.high b.size (kinds ks)
items_are b [] = refl
items_are b (k ∷ ks) = ap (λ (as' : Shapes). more_shapes (shape_in b k) as') (items_are b ks)

tuple_of : (b : Bounds) (o : Option (List Kind)) (as' : List Shape) (k : Kind) → ((ks : List Kind) → o ≡ Some ks → as' ≡ map (shape_in b) ks) →
    option_map (λ xs. kind.Tup (kinds xs)) o ≡ Some k → Tup (shapes as') ≡ shape_in b k
tuple_of b (Some ks) as' k h e = ap (λ (bs : List Shape). Tup (shapes bs)) (h ks refl) ∙ ap Tup (items_are b ks) ∙ ap (shape_in b) (same_some (kind.Tup (kinds ks)) k e)
tuple_of b None as' k h e = absurd (none_some k e)

pub of_tup : (b : Bounds) (t : Ty) (us vs : List Ty) (a : Shape) (as' : List Shape) → t ≡ tup_ty us → vs ≡ us → AreOfTypes b vs as' → a ≡ Tup (shapes as') → IsOfType b t a
of_tup b t us vs a as' e f r g =
    at_form b t (tup_ty us) _ a e (kind-Tup us) (λ k h. g ∙ tuple_of b (all_there (map kind_of us)) as' k (λ ks q. r ks (ap (λ (ws : List Ty). all_there (map kind_of ws)) f ∙ q)) h)

-- ---- records

abbrev listed : Bounds → Fields → List (List ℕ × Shape)
listed b no_fields = []
listed b (more_fields x k fs) = (x, shape_in b k) ∷ listed b fs

put_listed : (b : Bounds) (x : List ℕ) (k : Kind) (fs : Fields) → put_field x (shape_in b k) (listed b fs) ≡ listed b (insert_field x k fs)
put_listed b x k no_fields = refl
put_listed b x k (more_fields y j fs) = by (is_lt (text_cmp x y)) (put_field x (shape_in b k) (listed b fs)) (put_listed b x k fs)
  where
    by : (t : Bool) (zs : List (List ℕ × Shape)) → zs ≡ listed b (insert_field x k fs) →
        (if t then (x, shape_in b k) ∷ (y, shape_in b j) ∷ listed b fs else (y, shape_in b j) ∷ zs)
        ≡ listed b (if t then more_fields x k (more_fields y j fs) else more_fields y j (insert_field x k fs))
    by true zs h = refl
    by false zs h = ap (λ (us : List (List ℕ × Shape)). (y, shape_in b j) ∷ us) h

ordered : (b : Bounds) (ks : List (List ℕ × Kind)) → in_order (map (λ k. k.0) ks) (map (λ k. shape_in b k.1) ks) ≡ listed b (fields ks)
ordered b [] = refl
ordered b (k ∷ ks) = ap (put_field k.0 (shape_in b k.1)) (ordered b ks) ∙ put_listed b k.0 k.1 (fields ks)

names_listed : (b : Bounds) (fs : Fields) → map (λ (y : List ℕ × Shape). y.0) (listed b fs) ≡ names_of_fields fs
names_listed b no_fields = refl
names_listed b (more_fields x k fs) = ap (λ (xs : List (List ℕ)). x ∷ xs) (names_listed b fs)

shapes_listed : (b : Bounds) (fs : Fields) → shapes (map (λ (y : List ℕ × Shape). y.1) (listed b fs)) ≡ shapes_of_fields b.low b.high b.size fs
shapes_listed b no_fields = refl
shapes_listed b (more_fields x k fs) = ap (λ (as' : Shapes). more_shapes (shape_in b k) as') (shapes_listed b fs)

record_of : (b : Bounds) (ks : List (List ℕ × Kind)) → record_shape (map (λ k. k.0) ks) (map (λ k. shape_in b k.1) ks) ≡ shape_in b (kind.Rec (fields ks))
record_of b ks =
    ap (λ (zs : List (List ℕ × Shape)). Rec (map (λ y. y.0) zs) (shapes (map (λ y. y.1) zs))) (ordered b ks) ∙ ap₂ Rec (names_listed b (fields ks)) (shapes_listed b (fields ks))

fields_there : (fs : List (List ℕ × Option Kind)) (ks : List (List ℕ × Kind)) → all_fields_there fs ≡ Some ks → map (λ (f : List ℕ × Option Kind). f.0) fs ≡ map (λ (k : List ℕ × Kind). k.0) ks
fields_there [] ks e = ap (map (λ (k : List ℕ × Kind). k.0)) (same_some [] ks e)
fields_there (f ∷ fs) ks e = by f.1 (all_fields_there fs) (λ js q. fields_there fs js q) e
  where
    by : (o : Option Kind) (p : Option (List (List ℕ × Kind))) → ((js : List (List ℕ × Kind)) → p ≡ Some js → map (λ (g : List ℕ × Option Kind). g.0) fs ≡ map (λ (k : List ℕ × Kind). k.0) js) →
        option_and_then (λ x. option_map (λ xs. (f.0, x) ∷ xs) p) o ≡ Some ks → f.0 ∷ map (λ (g : List ℕ × Option Kind). g.0) fs ≡ map (λ (k : List ℕ × Kind). k.0) ks
    by (Some x) (Some xs) h e = ap (λ (us : List (List ℕ)). f.0 ∷ us) (h xs refl) ∙ ap (map (λ (k : List ℕ × Kind). k.0)) (same_some _ ks e)
    by (Some x) None h e = absurd (none_some ks e)
    by None p h e = absurd (none_some ks e)

names_same : (fs : List (List ℕ × Ty)) → map (λ (f : List ℕ × Option Kind). f.0) (map (λ (f : List ℕ × Ty). (f.0, kind_of f.1)) fs) ≡ map (λ (f : List ℕ × Ty). f.0) fs
names_same [] = refl
names_same (f ∷ fs) = ap (λ (xs : List (List ℕ)). f.0 ∷ xs) (names_same fs)

record_at : (b : Bounds) (fs : List (List ℕ × Option Kind)) (xs : List (List ℕ)) (as' : List Shape) (k : Kind) → xs ≡ map (λ f. f.0) fs →
    ((ks : List (List ℕ × Kind)) → all_fields_there fs ≡ Some ks → as' ≡ map (λ j. shape_in b j.1) ks) → record_kind fs ≡ Some k → record_shape xs as' ≡ shape_in b k
record_at b fs xs as' k e h g = by (are_distinct (map (λ f. f.0) fs)) (all_fields_there fs) h (λ ks q. fields_there fs ks q) g
  where
    by : (d : Bool) (o : Option (List (List ℕ × Kind))) → ((ks : List (List ℕ × Kind)) → o ≡ Some ks → as' ≡ map (λ j. shape_in b j.1) ks) →
        ((ks : List (List ℕ × Kind)) → o ≡ Some ks → map (λ (f : List ℕ × Option Kind). f.0) fs ≡ map (λ (j : List ℕ × Kind). j.0) ks) →
        (if d then option_map (λ us. kind.Rec (fields us)) o else None) ≡ Some k → record_shape xs as' ≡ shape_in b k
    by true (Some ks) h n g = ap₂ record_shape (e ∙ n ks refl) (h ks refl) ∙ record_of b ks ∙ ap (shape_in b) (same_some (kind.Rec (fields ks)) k g)
    by true None h n g = absurd (none_some k g)
    by false o h n g = absurd (none_some k g)

fused : (b : Bounds) (ks : List (List ℕ × Kind)) → map (shape_in b) (map (λ (k : List ℕ × Kind). k.1) ks) ≡ map (λ (k : List ℕ × Kind). shape_in b k.1) ks
fused b [] = refl
fused b (k ∷ ks) = ap (λ (as' : List Shape). shape_in b k.1 ∷ as') (fused b ks)

kinds_there : (fs : List (List ℕ × Ty)) (ks : List (List ℕ × Kind)) → all_fields_there (map (λ (f : List ℕ × Ty). (f.0, kind_of f.1)) fs) ≡ Some ks →
    all_there (map kind_of (map (λ (f : List ℕ × Ty). f.1) fs)) ≡ Some (map (λ (k : List ℕ × Kind). k.1) ks)
kinds_there [] ks e = ap (λ (js : List (List ℕ × Kind)). Some (map (λ (k : List ℕ × Kind). k.1) js)) (same_some [] ks e)
kinds_there (f ∷ fs) ks e =
    by (kind_of f.1) (all_fields_there (map (λ (g : List ℕ × Ty). (g.0, kind_of g.1)) fs)) (all_there (map kind_of (map (λ (g : List ℕ × Ty). g.1) fs))) (λ js q. kinds_there fs js q) e
  where
    by : (o : Option Kind) (p : Option (List (List ℕ × Kind))) (r : Option (List Kind)) → ((js : List (List ℕ × Kind)) → p ≡ Some js → r ≡ Some (map (λ (k : List ℕ × Kind). k.1) js)) →
        option_and_then (λ x. option_map (λ xs. (f.0, x) ∷ xs) p) o ≡ Some ks → option_and_then (λ x. option_map (λ xs. x ∷ xs) r) o ≡ Some (map (λ (k : List ℕ × Kind). k.1) ks)
    by (Some x) (Some xs) r h e =
        ap (option_map (λ (us : List Kind). x ∷ us)) (h xs refl) ∙ ap (λ (js : List (List ℕ × Kind)). Some (map (λ (k : List ℕ × Kind). k.1) js)) (same_some _ ks e)
    by (Some x) None r h e = absurd (none_some ks e)
    by None p r h e = absurd (none_some ks e)

pub of_rec : (b : Bounds) (t : Ty) (fs gs hs : List (List ℕ × Ty)) (xs ys : List (List ℕ)) (a : Shape) (as' bs : List Shape) → t ≡ rec_ty fs None → gs ≡ fs → hs ≡ fs →
    AreOfTypes b (map (λ (f : List ℕ × Ty). f.1) gs) as' → xs ≡ map (λ (f : List ℕ × Ty). f.0) hs → ys ≡ xs → bs ≡ as' → a ≡ record_shape ys bs → IsOfType b t a
of_rec b t fs gs hs xs ys a as' bs e f g r n m c d =
    at_form b t (rec_ty fs None) _ a e (kind-Rec fs) (λ k h. d ∙ ap₂ record_shape m c
    ∙ record_at b (map (λ (z : List ℕ × Ty). (z.0, kind_of z.1)) fs) xs as' k (n ∙ ap (map (λ (z : List ℕ × Ty). z.0)) g ∙ sym (names_same fs))
    (λ ks q. r (map (λ (j : List ℕ × Kind). j.1) ks) (ap (λ (zs : List (List ℕ × Ty)). all_there (map kind_of (map (λ (z : List ℕ × Ty). z.1) zs))) f ∙ kinds_there fs ks q) ∙ fused b ks) h)

-- ---- lists of types

pub there_cons : (P : List Kind → Type 0) (o : Option Kind) (os : Option (List Kind)) (ks : List Kind) → option_and_then (λ x. option_map (λ xs. x ∷ xs) os) o ≡ Some ks →
    ((k : Kind) (js : List Kind) → o ≡ Some k → os ≡ Some js → P (k ∷ js)) → P ks
there_cons P (Some k) (Some js) ks e h = subst P (same_some (k ∷ js) ks e) (h k js refl refl)
there_cons P (Some k) None ks e h = absurd (none_some ks e)
there_cons P None os ks e h = absurd (none_some ks e)

shape_next : (b : Bounds) (ts : List Ty) (n : ℕ) (t : Ty) (a : Shape) (ks : List Kind) → all_there (map kind_of ts) ≡ Some ks → n < length ts → t ≡ get_or ts n t → IsOfType b t a →
    map (shape_in b) (take n ks) ++ a ∷ [] ≡ map (shape_in b) (take (suc n) ks)
shape_next b [] n t a ks e l f r = absurd (omega (arith, l))
shape_next b (u ∷ us) zero t a ks e l f r =
    there_cons (λ js. map (shape_in b) (take 0 js) ++ a ∷ [] ≡ map (shape_in b) (take 1 js)) (kind_of u) (all_there (map kind_of us)) ks e
    (λ k js g h. ap (λ (c : Shape). c ∷ []) (r k (ap kind_of f ∙ g)))
shape_next b (u ∷ us) (suc n) t a ks e l f r =
    there_cons (λ js. map (shape_in b) (take (suc n) js) ++ a ∷ [] ≡ map (shape_in b) (take (suc (suc n)) js)) (kind_of u) (all_there (map kind_of us)) ks e
    (λ k js g h. ap (λ (cs : List Shape). shape_in b k ∷ cs) (shape_next b us n t a js h (omega (arith, l)) f r))

abbrev pub AreFirst : Bounds → List Ty → ℕ → List Code → Type 0
AreFirst b ts n rs = (ks : List Kind) → all_there (map kind_of ts) ≡ Some ks → map mean rs ≡ map (shape_in b) (take n ks)

pub none_first : (b : Bounds) (ts : List Ty) → AreFirst b ts 0 []
none_first b ts = λ ks e. refl

pub first_more : (b : Bounds) (ts : List Ty) (n : ℕ) (t : Ty) (s : Code) (got new : List Code) → AreFirst b ts n got → n < length ts → t ≡ get_or ts n t → IsOfType b t (mean s) →
    new ≡ got ++ s ∷ [] → AreFirst b ts (n + 1) new
first_more b ts n t s got new h l e r f = λ ks g.
    let one : suc n ≡ n + 1 = omega arith in
    ap (map mean) f ∙ mapped_end mean got s ∙ ap (λ (as' : List Shape). as' ++ mean s ∷ []) (h ks g) ∙ shape_next b ts n t (mean s) ks g l e r ∙ ap (λ (i : ℕ). map (shape_in b) (take i ks)) one

all_first : (ts : List Ty) (n : ℕ) (ks : List Kind) → all_there (map kind_of ts) ≡ Some ks → length ts ≤ n → take n ks ≡ ks
all_first [] n ks e l = subst (λ (js : List Kind). take n js ≡ js) (same_some [] ks e) (all_taken [] n (omega arith))
all_first (t ∷ ts) zero ks e l = absurd (omega (arith, l))
all_first (t ∷ ts) (suc n) ks e l =
    there_cons (λ js. take (suc n) js ≡ js) (kind_of t) (all_there (map kind_of ts)) ks e (λ k js g h. ap (λ (is : List Kind). k ∷ is) (all_first ts n js h (omega (arith, l))))

pub first_whole : (b : Bounds) (ts : List Ty) (n : ℕ) (rs : List Code) → AreFirst b ts n rs → length ts ≤ n → AreOfTypes b ts (map mean rs)
first_whole b ts n rs h l = λ ks e. h ks e ∙ ap (map (shape_in b)) (all_first ts n ks e l)

seconds : (fs : List (List ℕ × Ty)) (n : ℕ) (f : List ℕ × Ty) → n < length fs → f ≡ get_or fs n f → f.1 ≡ get_or (map (λ (g : List ℕ × Ty). g.1) fs) n f.1
seconds [] n f l e = absurd (omega (arith, l))
seconds (g ∷ fs) zero f l e = ap (λ (h : List ℕ × Ty). h.1) e
seconds (g ∷ fs) (suc n) f l e = seconds fs n f (omega (arith, l)) e

second_length : (fs : List (List ℕ × Ty)) → length fs ≡ length (map (λ (g : List ℕ × Ty). g.1) fs)
second_length [] = refl
second_length (f ∷ fs) = ap suc (second_length fs)

pub field_more : (b : Bounds) (fs : List (List ℕ × Ty)) (n : ℕ) (f : List ℕ × Ty) (s : Code) (got new : List Code) → AreFirst b (map (λ (g : List ℕ × Ty). g.1) fs) n got → n < length fs →
    f ≡ get_or fs n f → IsOfType b f.1 (mean s) → new ≡ got ++ s ∷ [] → AreFirst b (map (λ (g : List ℕ × Ty). g.1) fs) (n + 1) new
field_more b fs n f s got new h l e r m =
    first_more b (map (λ (g : List ℕ × Ty). g.1) fs) n f.1 s got new h (subst (λ (i : ℕ). n < i) (second_length fs) l) (seconds fs n f l e) r m

pub field_whole : (b : Bounds) (fs : List (List ℕ × Ty)) (n : ℕ) (rs : List Code) → AreFirst b (map (λ (g : List ℕ × Ty). g.1) fs) n rs → length fs ≤ n →
    AreOfTypes b (map (λ (g : List ℕ × Ty). g.1) fs) (map mean rs)
field_whole b fs n rs h l = first_whole b (map (λ (g : List ℕ × Ty). g.1) fs) n rs h (subst (λ (i : ℕ). i ≤ n) (second_length fs) l)
