-- Types that have a kind.
use Rattle.std.proofs.Common.{◌≡◌, ◌≤◌, ◌<◌, ℕ, zero, suc, ◌+◌, Bool, true, false, not, nat_eq, IsTrue, List, [], ◌∷◌, map, take, length, get_or, Option, Some, None, option_map, option_and_then, refl, sym, ◌∙◌, ap, subst, arith}
use Rattle.std.specs.Prelude.{is_some, if◌then◌else◌}
use Rattle.tla_meaning.proofs.Views.{and_left, false≢true}
use Rattle.snowcat_rows.specs.declared.types.Ty.{Ty, out-Ty, Bool as bool_ty, Int, Str, Named, Set as set_ty, Seq as seq_ty, Fun as fun_ty, Tup as tup_ty, Rec as rec_ty}
use Rattle.snowcat_rows.specs.declared.types.Ty.TheVariants.{outs-Rec}
use Rattle.snowcat_rows.specs.declared.types.Ty.TheOpen as layer
use Rattle.snowcat_rows.specs.declared.types.Ty.TheFolds.{fold_out-Ty, map-Ty}
use Rattle.snowcat_rows.specs.FieldNames.{names, names_differ, differ_layer}
use Rattle.snowcat_rows.specs.TypeTexts.{are_distinct}
use Rattle.kernel_trees.specs.TypeKinds.{Kind, Set, Seq, Fun, Tup, Rec, kinds, fields, all_there, all_fields_there, word_kind, record_kind, kind_of}
use Rattle.kernel_trees.proofs.TypeLaws.{kind-Bool, kind-Int, kind-Str, kind-Named, kind-Set, kind-Seq, kind-Fun, kind-Tup, kind-Rec}

-- a type by its form
at_form : (t u : Ty) (o : Option Kind) → t ≡ u → kind_of u ≡ o → IsTrue (is_some o) → IsTrue (is_some (kind_of t))
at_form t u o e f h = subst (λ (p : Option Kind). IsTrue (is_some p)) (sym (ap kind_of e ∙ f)) h

mapped : {X : Type 0} {Y : Type 0} → (f : X → Y) (o : Option X) → IsTrue (is_some o) → IsTrue (is_some (option_map f o))
mapped f (Some x) h = h
mapped f None h = h

both : {X : Type 0} {Y : Type 0} {Z : Type 0} → (f : X → Y → Z) (o : Option X) (p : Option Y) → IsTrue (is_some o) → IsTrue (is_some p) → IsTrue (is_some (option_and_then (λ x. option_map (λ y. f x y) p) o))
both f (Some x) (Some y) h k = h
both f (Some x) None h k = k
both f None p h k = h

pub bool_kind : (t : Ty) → t ≡ bool_ty → IsTrue (is_some (kind_of t))
bool_kind t e = at_form t bool_ty _ e kind-Bool refl

pub int_kind : (t : Ty) → t ≡ Int → IsTrue (is_some (kind_of t))
int_kind t e = at_form t Int _ e kind-Int refl

pub str_kind : (t : Ty) → t ≡ Str → IsTrue (is_some (kind_of t))
str_kind t e = at_form t Str _ e kind-Str refl

pub named_kind : (t : Ty) (x y : List ℕ) → t ≡ Named x → y ≡ x → (length y ≡ 0 → ⊥) → IsTrue (is_some (kind_of t))
named_kind t x y e f n = at_form t (Named x) (word_kind x) e (kind-Named x) (by x (λ z. n (ap length f ∙ z)))
  where
    by : (z : List ℕ) → (length z ≡ 0 → ⊥) → IsTrue (is_some (word_kind z))
    by [] k = absurd (k refl)
    by (c ∷ z) k = refl

pub set_kind : (t a : Ty) → t ≡ set_ty a → IsTrue (is_some (kind_of a)) → IsTrue (is_some (kind_of t))
set_kind t a e h = at_form t (set_ty a) _ e (kind-Set a) (mapped Set (kind_of a) h)

pub seq_kind : (t a : Ty) → t ≡ seq_ty a → IsTrue (is_some (kind_of a)) → IsTrue (is_some (kind_of t))
seq_kind t a e h = at_form t (seq_ty a) _ e (kind-Seq a) (mapped Seq (kind_of a) h)

pub fun_kind : (t a b : Ty) → t ≡ fun_ty a b → IsTrue (is_some (kind_of a)) → IsTrue (is_some (kind_of b)) → IsTrue (is_some (kind_of t))
fun_kind t a b e h k = at_form t (fun_ty a b) _ e (kind-Fun a b) (both Fun (kind_of a) (kind_of b) h k)

pub tup_kind : (t : Ty) (us vs : List Ty) → t ≡ tup_ty us → vs ≡ us → IsTrue (is_some (all_there (map kind_of vs))) → IsTrue (is_some (kind_of t))
tup_kind t us vs e f h = at_form t (tup_ty us) _ e (kind-Tup us) (mapped (λ ks. Tup (kinds ks)) (all_there (map kind_of us)) (subst (λ (ws : List Ty). IsTrue (is_some (all_there (map kind_of ws)))) f h))

abbrev OpenedNames : layer.Ty-F Ty → Bool
OpenedNames o = differ_layer (map-Ty Ty Bool names_differ o)

differ_out : (t : Ty) → names_differ t ≡ OpenedNames (out-Ty t)
unfolding names_differ
differ_out t = fold_out-Ty Bool differ_layer t

abbrev Field : Type 0
Field = List ℕ × Ty

same_names : (fs : List Field) → names (map (λ (f : Field). (f.0, names_differ f.1)) fs) ≡ map (λ (f : List ℕ × Option Kind). f.0) (map (λ (f : Field). (f.0, kind_of f.1)) fs)
same_names [] = refl
same_names (f ∷ fs) = ap (λ (xs : List (List ℕ)). f.0 ∷ xs) (same_names fs)

record_some : (fs : List (List ℕ × Option Kind)) → are_distinct (map (λ f. f.0) fs) ≡ true → IsTrue (is_some (all_fields_there fs)) → IsTrue (is_some (record_kind fs))
record_some fs d h =
    subst (λ (b : Bool). IsTrue (is_some (if b then option_map (λ xs. Rec (fields xs)) (all_fields_there fs) else None))) (sym d)
    (mapped (λ xs. Rec (fields xs)) (all_fields_there fs) h)

pub rec_kind : (t : Ty) (fs gs : List Field) (b : Bool) → t ≡ rec_ty fs None → gs ≡ fs → b ≡ names_differ t → b ≡ true →
    IsTrue (is_some (all_fields_there (map (λ f. (f.0, kind_of f.1)) gs))) → IsTrue (is_some (kind_of t))
rec_kind t fs gs b e f n d h =
    let all : names_differ (rec_ty fs None) ≡ true = sym (ap names_differ e) ∙ sym n ∙ d in
    let k = and_left (are_distinct (names (map (λ (g : Field). (g.0, names_differ g.1)) fs))) _ (sym (differ_out (rec_ty fs None) ∙ ap OpenedNames (outs-Rec fs None)) ∙ all) in
    at_form t (rec_ty fs None) _ e (kind-Rec fs)
    (record_some (map (λ (g : Field). (g.0, kind_of g.1)) fs) (sym (ap are_distinct (same_names fs)) ∙ k)
    (subst (λ (hs : List Field). IsTrue (is_some (all_fields_there (map (λ (g : Field). (g.0, kind_of g.1)) hs)))) f h))

-- ---- lists

start_of : (k : Option Kind) (ks : Option (List Kind)) → IsTrue (is_some (option_and_then (λ x. option_map (λ xs. x ∷ xs) ks) k)) → IsTrue (is_some k)
start_of (Some x) ks h = refl
start_of None ks h = h

rest_of : (k : Option Kind) (ks : Option (List Kind)) → IsTrue (is_some (option_and_then (λ x. option_map (λ xs. x ∷ xs) ks) k)) → IsTrue (is_some ks)
rest_of (Some x) (Some xs) h = refl
rest_of (Some x) None h = h
rest_of None ks h = absurd (false≢true h)

joined : (k : Option Kind) (ks : Option (List Kind)) → IsTrue (is_some k) → IsTrue (is_some ks) → IsTrue (is_some (option_and_then (λ x. option_map (λ xs. x ∷ xs) ks) k))
joined k ks h l = both (λ x xs. x ∷ xs) k ks h l

pub kinds_more : (ts : List Ty) (n : ℕ) (t : Ty) → IsTrue (is_some (all_there (map kind_of (take n ts)))) → n < length ts → t ≡ get_or ts n t → IsTrue (is_some (kind_of t)) →
    IsTrue (is_some (all_there (map kind_of (take (n + 1) ts))))
kinds_more ts n t h l e k = subst (λ (m : ℕ). IsTrue (is_some (all_there (map kind_of (take m ts))))) (let one : suc n ≡ n + 1 = omega arith in one) (by ts n h l e)
  where
    by : (us : List Ty) (m : ℕ) → IsTrue (is_some (all_there (map kind_of (take m us)))) → m < length us → t ≡ get_or us m t → IsTrue (is_some (all_there (map kind_of (take (suc m) us))))
    by [] m h l e = absurd (omega (arith, l))
    by (u ∷ us) zero h l e = joined (kind_of u) (Some []) (subst (λ (x : Ty). IsTrue (is_some (kind_of x))) e k) refl
    by (u ∷ us) (suc m) h l e = joined (kind_of u) _ (start_of (kind_of u) _ h) (by us m (rest_of (kind_of u) _ h) (omega (arith, l)) e)

pub kinds_whole : (ts : List Ty) (n : ℕ) → IsTrue (is_some (all_there (map kind_of (take n ts)))) → length ts ≤ n → IsTrue (is_some (all_there (map kind_of ts)))
kinds_whole [] n h l = refl
kinds_whole (t ∷ ts) zero h l = absurd (omega (arith, l))
kinds_whole (t ∷ ts) (suc n) h l = joined (kind_of t) _ (start_of (kind_of t) _ h) (kinds_whole ts n (rest_of (kind_of t) _ h) (omega (arith, l)))

abbrev There : List Field → Type 0
There fs = IsTrue (is_some (all_fields_there (map (λ f. (f.0, kind_of f.1)) fs)))

first_field : (f : Field) (fs : List Field) → There (f ∷ fs) → IsTrue (is_some (kind_of f.1))
first_field f fs h = by (kind_of f.1) h
  where
    by : (k : Option Kind) → IsTrue (is_some (option_and_then (λ x. option_map (λ xs. (f.0, x) ∷ xs) (all_fields_there (map (λ (g : Field). (g.0, kind_of g.1)) fs))) k)) → IsTrue (is_some k)
    by (Some x) h = refl
    by None h = h

further_fields : (f : Field) (fs : List Field) → There (f ∷ fs) → There fs
further_fields f fs h = by (kind_of f.1) (all_fields_there (map (λ (g : Field). (g.0, kind_of g.1)) fs)) h
  where
    by : (k : Option Kind) (ks : Option (List (List ℕ × Kind))) → IsTrue (is_some (option_and_then (λ x. option_map (λ xs. (f.0, x) ∷ xs) ks) k)) → IsTrue (is_some ks)
    by (Some x) (Some xs) h = refl
    by (Some x) None h = h
    by None ks h = absurd (false≢true h)

fields_joined : (f : Field) (fs : List Field) → IsTrue (is_some (kind_of f.1)) → There fs → There (f ∷ fs)
fields_joined f fs h l = both (λ x xs. (f.0, x) ∷ xs) (kind_of f.1) (all_fields_there (map (λ (g : Field). (g.0, kind_of g.1)) fs)) h l

pub fields_more : (fs : List Field) (n : ℕ) (f : Field) → There (take n fs) → n < length fs → f ≡ get_or fs n f → IsTrue (is_some (kind_of f.1)) → There (take (n + 1) fs)
fields_more fs n f h l e k = subst (λ (m : ℕ). There (take m fs)) (let one : suc n ≡ n + 1 = omega arith in one) (by fs n h l e)
  where
    by : (gs : List Field) (m : ℕ) → There (take m gs) → m < length gs → f ≡ get_or gs m f → There (take (suc m) gs)
    by [] m h l e = absurd (omega (arith, l))
    by (g ∷ gs) zero h l e = fields_joined g [] (subst (λ (x : Field). IsTrue (is_some (kind_of x.1))) e k) refl
    by (g ∷ gs) (suc m) h l e = fields_joined g (take (suc m) gs) (first_field g (take m gs) h) (by gs m (further_fields g (take m gs) h) (omega (arith, l)) e)

pub fields_whole : (fs : List Field) (n : ℕ) → There (take n fs) → length fs ≤ n → There fs
fields_whole [] n h l = refl
fields_whole (f ∷ fs) zero h l = absurd (omega (arith, l))
fields_whole (f ∷ fs) (suc n) h l = fields_joined f fs (first_field f (take n fs) h) (fields_whole fs n (further_fields f (take n fs) h) (omega (arith, l)))

-- ---- parts as they are read

pub not_empty : (b : Bool) (n : ℕ) → b ≡ nat_eq n 0 → not b ≡ true → n ≡ 0 → ⊥
not_empty true zero e h z = false≢true h
not_empty false zero e h z = false≢true e
not_empty b (suc n) e h z = absurd (omega (arith, z))

pub same_kind : (a b : Ty) → a ≡ b → IsTrue (is_some (kind_of a)) → IsTrue (is_some (kind_of b))
same_kind a b e h = subst (λ (x : Ty). IsTrue (is_some (kind_of x))) e h
