-- The level of a typed state.
use Rattle.std.proofs.Common.{◌≡◌, ℕ, zero, suc, ◌+◌, ◌<◌, ◌≤◌, Bool, true, false, List, [], ◌∷◌, ◌++◌, map, take, length, get_or, Some, ℤ, refl, sym, ◌∙◌, ap, ap₂, arith, if◌then◌else◌}
use Rattle.snowcat_rows.specs.declared.types.Ty.{Ty}
use Rattle.kernel_trees.specs.TypeKinds as kind
use Rattle.kernel_trees.specs.TypeKinds.{Kind, Kinds, Fields, no_kinds, more_kinds, no_fields, more_fields, all_there, kind_of}
use Rattle.kernel_shapes.specs.declared.bounds.Bounds.{Bounds}
use Rattle.kernel_shapes.specs.declared.bounds.Shape.{Shape as Code}
use Rattle.kernel_shapes.specs.Codes.{mean}
use Rattle.kernel_shapes.specs.Shape.{Shape, Set, Fun, Rec, Tup, Seq, more_shapes}
use Rattle.kernel_shapes.specs.Levels.{constant_shapes}
use Rattle.kernel_shapes.specs.Systems.{system_parts}
use Rattle.kernel_trees.specs.declared.system.System.{System}
use Rattle.shape_bounds.specs.declared.levels.Level.{Level}
use Rattle.shape_bounds.specs.declared.names.Names.{Names}
use Rattle.shape_bounds.specs.inner.Stage.{ConstantsAre, IsBefore}
use Rattle.kernel_shapes.specs.TypedStates.{names_of_fields, shape_of_kind, shapes_of_fields, shapes_of_kinds}
use Rattle.shape_bounds.specs.inner.TypedStart.{AreTypedNames, IsOfType, IsTypedName, StartsTyped, shape_in, typed_in}
use Rattle.shape_bounds.specs.Kept.{capped, capped_items, greatest_kept, kept}
use Rattle.shape_bounds.proofs.Ending.{all_taken, mapped_end}
use Rattle.shape_bounds.proofs.TypeShapes.{there_cons}

-- a size is kept as it is
module _ (low high : ℤ) (size : ℕ) (h : size ≤ greatest_kept) where
  same_size : kept size ≡ size
  same_size = omega (arith, h)

  mutual
    kind_kept : (k : Kind) → capped (shape_of_kind low high size k) ≡ shape_of_kind low high size k
    kind_kept kind.Truth = refl
    kind_kept (kind.Word x) = refl
    kind_kept kind.Number = refl
    kind_kept (kind.Set k) = ap₂ Set same_size (kind_kept k)
    kind_kept (kind.Fun k l) = ap₂ (λ (n : ℕ) (a : Shape). Fun n a (capped (shape_of_kind low high size l))) same_size (kind_kept k) ∙ ap (Fun size (shape_of_kind low high size k)) (kind_kept l)
    kind_kept (kind.Rec fs) = ap (Rec (names_of_fields fs)) (fields_kept fs)
    kind_kept (kind.Tup ks) = ap Tup (kinds_kept ks)
    kind_kept (kind.Seq k) = ap₂ Seq same_size (kind_kept k)

    kinds_kept : (ks : Kinds) → capped_items (shapes_of_kinds low high size ks) ≡ shapes_of_kinds low high size ks
    kinds_kept no_kinds = refl
    kinds_kept (more_kinds k ks) = ap₂ more_shapes (kind_kept k) (kinds_kept ks)

    fields_kept : (fs : Fields) → capped_items (shapes_of_fields low high size fs) ≡ shapes_of_fields low high size fs
    fields_kept no_fields = refl
    fields_kept (more_fields x k fs) = ap₂ more_shapes (kind_kept k) (fields_kept fs)

pub fixed_name : (b : Bounds) (f : Bool) (c : Code) (t : Ty) (r : Code) → f ≡ true → mean r ≡ mean c → IsTypedName b f c t r
fixed_name b f c t r e h = λ k g. h ∙ ap (λ (x : Bool). if x then mean c else shape_in b k) (sym e)

pub free_name : (b : Bounds) (f : Bool) (c : Code) (t : Ty) (r : Code) → f ≡ false → IsOfType b t (mean r) → IsTypedName b f c t r
free_name b f c t r e h = λ k g. h k g ∙ ap (λ (x : Bool). if x then mean c else shape_in b k) (sym e)

-- the first names in a typed state
abbrev pub AreTyped : Bounds → List Bool → List Code → List Ty → ℕ → List Code → Type 0
AreTyped b bs cs ts n rs = (as' : List Shape) (ks : List Kind) → map capped as' ≡ map mean cs → all_there (map kind_of ts) ≡ Some ks →
    map mean rs ≡ take n (map capped (typed_in b bs as' ks))

pub none_typed : (b : Bounds) (bs : List Bool) (cs : List Code) (ts : List Ty) → AreTyped b bs cs ts 0 []
none_typed b bs cs ts = λ as' ks e f. refl

one_typed : (b : Bounds) (h : b.size ≤ greatest_kept) (f : Bool) (a : Shape) (c : Code) (k : Kind) → capped a ≡ mean c →
    (if f then mean c else shape_in b k) ≡ capped (if f then a else shape_in b k)
one_typed b h true a c k e = sym e
one_typed b h false a c k e = sym (kind_kept b.low b.high b.size h k)

typed_cons : (b : Bounds) (f : Bool) (bs : List Bool) (a : Shape) (as' : List Shape) (k : Kind) (ks : List Kind) →
    typed_in b (f ∷ bs) (a ∷ as') (k ∷ ks) ≡ (if f then a else shape_in b k) ∷ typed_in b bs as' ks
typed_cons b true bs a as' k ks = refl
typed_cons b false bs a as' k ks = refl

same_first : (x y : Shape) (xs ys : List Shape) → x ∷ xs ≡ y ∷ ys → x ≡ y
same_first x y xs ys e = cc

same_others : (x y : Shape) (xs ys : List Shape) → x ∷ xs ≡ y ∷ ys → xs ≡ ys
same_others x y xs ys e = cc

typed_next : (b : Bounds) (h : b.size ≤ greatest_kept) (bs : List Bool) (cs : List Code) (ts : List Ty) (n : ℕ) (c : Code) (t : Ty) (r : Code) (as' : List Shape) (ks : List Kind) →
    map capped as' ≡ map mean cs → all_there (map kind_of ts) ≡ Some ks → n < length bs → length bs ≡ length cs → length bs ≡ length ts → c ≡ get_or cs n c → t ≡ get_or ts n t →
    IsTypedName b (get_or bs n false) c t r → take n (map capped (typed_in b bs as' ks)) ++ mean r ∷ [] ≡ take (suc n) (map capped (typed_in b bs as' ks))
typed_next b h [] cs ts n c t r as' ks e g l p q i j m = absurd (omega (arith, l))
typed_next b h (f ∷ bs) [] ts n c t r as' ks e g l p q i j m = absurd (omega (arith, p))
typed_next b h (f ∷ bs) (d ∷ cs) [] n c t r as' ks e g l p q i j m = absurd (omega (arith, q))
typed_next b h (f ∷ bs) (d ∷ cs) (u ∷ ts) n c t r [] ks e g l p q i j m = absurd (none_there (sym e))
  where
    none_there : mean d ∷ map mean cs ≡ [] → ⊥
    none_there e = absurd (cc)
typed_next b h (f ∷ bs) (d ∷ cs) (u ∷ ts) zero c t r (a ∷ as') ks e g l p q i j m =
    there_cons (λ js. take 0 (map capped (typed_in b (f ∷ bs) (a ∷ as') js)) ++ mean r ∷ [] ≡ take 1 (map capped (typed_in b (f ∷ bs) (a ∷ as') js))) (kind_of u) (all_there (map kind_of ts)) ks g
    (λ k js x y.
    ap (λ (z : Shape). z ∷ [])
    (m k (ap kind_of j ∙ x) ∙ ap (λ (z : Code). if f then mean z else shape_in b k) i ∙ one_typed b h f a d k (same_first _ _ _ _ e))
    ∙ sym (ap (λ (zs : List Shape). take 1 (map capped zs)) (typed_cons b f bs a as' k js)))
typed_next b h (f ∷ bs) (d ∷ cs) (u ∷ ts) (suc n) c t r (a ∷ as') ks e g l p q i j m =
    there_cons (λ js. take (suc n) (map capped (typed_in b (f ∷ bs) (a ∷ as') js)) ++ mean r ∷ [] ≡ take (suc (suc n)) (map capped (typed_in b (f ∷ bs) (a ∷ as') js))) (kind_of u) (all_there (map kind_of ts)) ks g
    (λ k js x y.
    ap (λ (zs : List Shape). take (suc n) (map capped zs) ++ mean r ∷ []) (typed_cons b f bs a as' k js)
    ∙ ap (λ (zs : List Shape). capped (if f then a else shape_in b k) ∷ zs)
    (typed_next b h bs cs ts n c t r as' js (same_others _ _ _ _ e) y (omega (arith, l)) (omega (arith, p)) (omega (arith, q)) i j m)
    ∙ sym (ap (λ (zs : List Shape). take (suc (suc n)) (map capped zs)) (typed_cons b f bs a as' k js)))

pub typed_more : (b : Bounds) (bs : List Bool) (cs : List Code) (ts : List Ty) (n : ℕ) (c : Code) (t : Ty) (r : Code) (got new : List Code) → b.size ≤ greatest_kept → AreTyped b bs cs ts n got →
    n < length bs → length bs ≡ length cs → length bs ≡ length ts → c ≡ get_or cs n c → t ≡ get_or ts n t → IsTypedName b (get_or bs n false) c t r → new ≡ got ++ r ∷ [] →
    AreTyped b bs cs ts (n + 1) new
typed_more b bs cs ts n c t r got new h k l p q i j m f = λ as' ks e g.
    let one : suc n ≡ n + 1 = omega arith in
    ap (map mean) f ∙ mapped_end mean got r ∙ ap (λ (zs : List Shape). zs ++ mean r ∷ []) (k as' ks e g) ∙ typed_next b h bs cs ts n c t r as' ks e g l p q i j m
    ∙ ap (λ (d : ℕ). take d (map capped (typed_in b bs as' ks))) one

typed_all : (b : Bounds) (bs : List Bool) (as' : List Shape) (ks : List Kind) (n : ℕ) → length bs ≤ n → take n (map capped (typed_in b bs as' ks)) ≡ map capped (typed_in b bs as' ks)
typed_all b [] as' ks n h = all_taken [] n (omega arith)
typed_all b (f ∷ bs) as' ks zero h = absurd (omega (arith, h))
typed_all b (true ∷ bs) [] ks (suc n) h = refl
typed_all b (false ∷ bs) [] ks (suc n) h = refl
typed_all b (true ∷ bs) (a ∷ as') [] (suc n) h = refl
typed_all b (false ∷ bs) (a ∷ as') [] (suc n) h = refl
typed_all b (true ∷ bs) (a ∷ as') (k ∷ ks) (suc n) h = ap (λ (zs : List Shape). capped a ∷ zs) (typed_all b bs as' ks n (omega (arith, h)))
typed_all b (false ∷ bs) (a ∷ as') (k ∷ ks) (suc n) h = ap (λ (zs : List Shape). capped (shape_in b k) ∷ zs) (typed_all b bs as' ks n (omega (arith, h)))

typed_whole : (b : Bounds) (bs : List Bool) (cs : List Code) (ts : List Ty) (n : ℕ) (rs : List Code) → AreTyped b bs cs ts n rs → length bs ≤ n → AreTypedNames b bs cs ts rs
typed_whole b bs cs ts n rs h l = λ as' ks e g. sym (h as' ks e g ∙ typed_all b bs as' ks n l)

pub typed_made : (b : Bounds) (bs ds : List Bool) (cs : List Code) (ts us : List Ty) (n : ℕ) (rs qs : List Code) → AreTyped b bs cs ts n rs → length bs ≤ n → bs ≡ ds → ts ≡ us → qs ≡ rs →
    AreTypedNames b ds cs us qs
typed_made b bs ds cs ts us n rs qs h l e f g = λ as' ks x y.
    ap (λ (zs : List Bool). map capped (typed_in b zs as' ks)) (sym e)
    ∙ typed_whole b bs cs ts n rs h l as' ks x (ap (λ (vs : List Ty). all_there (map kind_of vs)) f ∙ y) ∙ ap (map mean) (sym g)

-- the level from names before Init and from what the names have
pub typed_is : (b : Bounds) (w : ℕ) (sys : System) (c : Level) (s : Names) (us : List Code) (bs : List Bool) (ts : List Ty) (rs : List Code) → ConstantsAre (system_parts w sys) c →
    IsBefore (system_parts w sys) w c s → us ≡ c.shapes → bs ≡ sys.ker.fixed → ts ≡ sys.ker.names → AreTypedNames b bs us ts rs →
    StartsTyped b sys.ker.names (system_parts w sys) (record { shapes = rs; first = s.first })
typed_is b w sys c s us bs ts rs o h e f g k = λ ks q. record {
  shapes =
      ap (λ (xs : List Bool). map capped (typed_in b xs (constant_shapes (system_parts w sys)) ks)) (sym f)
      ∙ k (constant_shapes (system_parts w sys)) ks (o.shapes ∙ ap (map mean) (sym e)) (ap (λ (zs : List Ty). all_there (map kind_of zs)) g ∙ q);
  finds = h.first o;
}
