-- The kinds of types, by what these mean: two types that mean the same have one kind, and the kind of a form of types is
-- made of the kinds of its parts.
use Rattle.std.proofs.Common.{◌≡◌, ℕ, suc, Bool, true, false, List, [], ◌∷◌, map, zip, length, arith, refl, sym, ◌∙◌, ap, subst, Option, Some, None, option_map, option_and_then, bytes_eq, not, ◌||◌, if◌then◌else◌}
use Rattle.tla_meaning.proofs.Laws.{none≢some}
use Rattle.snowcat_rows.specs.Types.{Term, Slot, none, some, con, app, fields, row, lookup, mean_layer, mean, BoolHead, IntHead, StrHead, NamedHead, SetHead, SeqHead, FunHead, TupHead}
use Rattle.snowcat_rows.specs.declared.types.Ty.{Ty, out-Ty, roll-Ty, roll-out-Ty, Bool as bool_ty, Int, Str, Named, Set as set_ty, Seq as seq_ty, Fun as fun_ty, Tup as tup_ty, Rec as rec_ty}
use Rattle.snowcat_rows.specs.declared.types.Ty.TheVariants.{rolls-Bool, rolls-Int, rolls-Str, rolls-Named, rolls-Var, rolls-Set, rolls-Seq, rolls-Fun, rolls-Tup, rolls-Rec, rolls-Oper}
use Rattle.snowcat_rows.specs.declared.types.Ty.TheOpen as layer
use Rattle.snowcat_rows.specs.declared.types.Ty.TheFolds.{map-Ty, ind-Ty}
use Rattle.snowcat_rows.specs.Codes.{named}
use Rattle.snowcat_rows.specs.TypeTexts.{are_distinct, is_among}
use Rattle.std.proofs.lemmas.Cmp.{nat_list_cmp_total}
use Rattle.std.proofs.lemmas.Map.Text.{is_eq-slice_cmp}
use Rattle.std.specs.Ordering.{is_eq, ordering_reverse}
use Rattle.std.specs.declared.cmp.Ordering.{Ordering}
use Rattle.std.specs.declared.cmp.Ordering.TheVariants.{Less, Equal, Greater}
use Rattle.tla_values.specs.Order.{text_cmp}
use Rattle.tla_meaning.proofs.Views.{and_left, and_right, false≢true}
use Rattle.kernel_reduction.proofs.Tying.{not_true}
use Rattle.kernel_reduction.proofs.FieldOrder.{found, Once, one_list, fields_found}
use Rattle.snowcat_rows.proofs.Means.{mean_out, mean-Bool, mean-Int, mean-Str, mean-Named, mean-Set, mean-Seq, mean-Fun, mean-Tup, mean-Rec}
use Rattle.snowcat_rows.proofs.Roots.{Root, marked, record_root, root}
use Rattle.snowcat_types.specs.TypeForms.{bool_type, int_type, str_type, set_type, seq_type, fun_type, tuple_type, record_type}
use Rattle.kernel_trees.specs.TypeKinds.{Kind, Truth, Number, Word, Set, Seq, Fun, Tup, Rec, kinds, fields as fields_in, kind_of, record_kind, all_there, all_fields_there}
use Rattle.kernel_trees.proofs.TypeLaws.{kind-Bool, kind-Int, kind-Str, kind-Named, kind-Set, kind-Seq, kind-Fun, kind-Tup, kind-Rec, kind-open, kind-Var, kind-Oper}

pub some_same : {X : Type 0} {x y : X} → Some x ≡ Some y → x ≡ y
some_same e = cc

-- some type that means this has the kind
abbrev pub Of : Term → Kind → Type 0
Of x a = (t : Ty) × (kind_of t ≡ Some a) × (mean t ≡ x)

-- ---- forms

pub has_bool : Of bool_type Truth
has_bool = (bool_ty, kind-Bool, mean-Bool)

pub has_int : Of int_type Number
has_int = (Int, kind-Int, mean-Int)

pub has_str : Of str_type (Word [])
has_str = (Str, kind-Str, mean-Str)

pub has_set : (x : Term) (a : Kind) → Of x a → Of (set_type x) (Set a)
has_set x a h = (set_ty h.0, kind-Set h.0 ∙ ap (option_map Set) h.1, mean-Set h.0 ∙ ap (app (con SetHead)) h.2)

pub has_seq : (x : Term) (a : Kind) → Of x a → Of (seq_type x) (Seq a)
has_seq x a h = (seq_ty h.0, kind-Seq h.0 ∙ ap (option_map Seq) h.1, mean-Seq h.0 ∙ ap (app (con SeqHead)) h.2)

pub has_fun : (x y : Term) (a b : Kind) → Of x a → Of y b → Of (fun_type x y) (Fun a b)
has_fun x y a b h g = (
  fun_ty h.0 g.0,
  kind-Fun h.0 g.0 ∙ (λ i. option_and_then (λ x. option_map (λ y. Fun x y) (g.1 i)) (h.1 i)),
  mean-Fun h.0 g.0 ∙ (λ i. app (con FunHead) (app (h.2 i) (g.2 i))),
)

-- ---- parts

abbrev pub Opened : layer.Ty-F Ty → Term
Opened o = mean_layer (map-Ty Ty Term mean o)

as_rolled : (b : Ty) (o : layer.Ty-F Ty) → out-Ty b ≡ o → b ≡ roll-Ty o
as_rolled b o e = sym (roll-out-Ty b) ∙ ap roll-Ty e

root_at : (b : Ty) (h : Root) → root (mean b) ≡ h → root (Opened (out-Ty b)) ≡ h
root_at b h e = sym (ap root (mean_out b)) ∙ e

as_set : (b : Ty) (o : layer.Ty-F Ty) → out-Ty b ≡ o → root (Opened o) ≡ marked SetHead → (x : Ty) × (b ≡ set_ty x)
as_set b (layer.Set x) e h = (x, as_rolled b _ e ∙ rolls-Set x)
as_set b o e h = absurd (cc)

as_seq : (b : Ty) (o : layer.Ty-F Ty) → out-Ty b ≡ o → root (Opened o) ≡ marked SeqHead → (x : Ty) × (b ≡ seq_ty x)
as_seq b (layer.Seq x) e h = (x, as_rolled b _ e ∙ rolls-Seq x)
as_seq b o e h = absurd (cc)

as_fun : (b : Ty) (o : layer.Ty-F Ty) → out-Ty b ≡ o → root (Opened o) ≡ marked FunHead →
    (x : Ty) × (y : Ty) × (b ≡ fun_ty x y)
as_fun b (layer.Fun x y) e h = (x, y, as_rolled b _ e ∙ rolls-Fun x y)
as_fun b o e h = absurd (cc)

pub as_tup : (b : Ty) (o : layer.Ty-F Ty) → out-Ty b ≡ o → root (Opened o) ≡ marked TupHead →
    (x : List Ty) × (b ≡ tup_ty x)
as_tup b (layer.Tup x) e h = (x, as_rolled b _ e ∙ rolls-Tup x)
as_tup b o e h = absurd (cc)

pub as_rec : (b : Ty) (o : layer.Ty-F Ty) → out-Ty b ≡ o → root (Opened o) ≡ record_root →
    (x : List (List ℕ × Ty)) × (k : Option ℕ) × (b ≡ rec_ty x k)
as_rec b (layer.Rec x k) e h = (x, k, as_rolled b _ e ∙ rolls-Rec x k)
as_rec b o e h = absurd (cc)

as_named : (b : Ty) (x : List ℕ) (o : layer.Ty-F Ty) → out-Ty b ≡ o → root (Opened o) ≡ marked (NamedHead x) →
    (u : List ℕ) × (b ≡ Named u)
as_named b x (layer.Named u) e h = (u, as_rolled b _ e ∙ rolls-Named u)
as_named b x o e h = absurd (cc)

-- a text's type
abbrev pub IsWord : Kind → Type 0
IsWord a = (x : List ℕ) × (a ≡ Word x)

word_of_name : (u : List ℕ) (a : Kind) → kind_of (Named u) ≡ Some a → IsWord a
word_of_name [] a q = absurd (none≢some (sym (kind-Named []) ∙ q))
word_of_name (x ∷ xs) a q = (x ∷ xs, some_same (sym q ∙ kind-Named (x ∷ xs)))

pub of_name : (x : List ℕ) (a : Kind) → Of (con (NamedHead x)) a → IsWord a
of_name x a (t, q, e) =
    let u = as_named t x (out-Ty t) refl (root_at t (marked (NamedHead x)) (ap root e)) in
    word_of_name u.0 a (ap kind_of (sym u.1) ∙ q)

abbrev arg : Term → Term
arg (app a b) = b
arg t = t

abbrev fun_arg : Term → Term
fun_arg (app a (app b c)) = b
fun_arg t = t

abbrev fun_result : Term → Term
fun_result (app a (app b c)) = c
fun_result t = t

pub mapped : (f : Kind → Kind) (o : Option Kind) (a : Kind) → option_map f o ≡ Some a →
    (b : Kind) × (a ≡ f b) × (o ≡ Some b)
mapped f None a h = absurd (none≢some h)
mapped f (Some b) a h = (b, sym (some_same h), refl)

pub of_set : (x : Term) (a : Kind) → Of (set_type x) a → (b : Kind) × (a ≡ Set b) × Of x b
of_set x a (t, q, e) =
    let u = as_set t (out-Ty t) refl (root_at t (marked SetHead) (ap root e)) in
    let b = mapped Set (kind_of u.0) a (sym (kind-Set u.0) ∙ ap kind_of (sym u.1) ∙ q) in
    (b.0, b.1, (u.0, b.2, ap arg (sym (mean-Set u.0) ∙ ap mean (sym u.1) ∙ e)))

pub of_seq : (x : Term) (a : Kind) → Of (seq_type x) a → (b : Kind) × (a ≡ Seq b) × Of x b
of_seq x a (t, q, e) =
    let u = as_seq t (out-Ty t) refl (root_at t (marked SeqHead) (ap root e)) in
    let b = mapped Seq (kind_of u.0) a (sym (kind-Seq u.0) ∙ ap kind_of (sym u.1) ∙ q) in
    (b.0, b.1, (u.0, b.2, ap arg (sym (mean-Seq u.0) ∙ ap mean (sym u.1) ∙ e)))

pub two : (o p : Option Kind) (a : Kind) → option_and_then (λ x. option_map (λ y. Fun x y) p) o ≡ Some a →
    (b : Kind) × (c : Kind) × (a ≡ Fun b c) × (o ≡ Some b) × (p ≡ Some c)
two None p a h = absurd (none≢some h)
two (Some x) None a h = absurd (none≢some h)
two (Some x) (Some y) a h = (x, y, sym (some_same h), refl, refl)

pub of_fun : (x y : Term) (a : Kind) → Of (fun_type x y) a →
    (b : Kind) × (c : Kind) × (a ≡ Fun b c) × Of x b × Of y c
of_fun x y a (t, q, e) =
    let u = as_fun t (out-Ty t) refl (root_at t (marked FunHead) (ap root e)) in
    let b = two (kind_of u.0) (kind_of u.1) a (sym (kind-Fun u.0 u.1) ∙ ap kind_of (sym u.2) ∙ q) in
    let m : app (con FunHead) (app (mean u.0) (mean u.1)) ≡ fun_type x y =
    sym (mean-Fun u.0 u.1) ∙ ap mean (sym u.2) ∙ e in
    (b.0, b.1, b.2, (u.0, b.3, ap fun_arg m), (u.1, b.4, ap fun_result m))

-- ---- types that mean the same have one kind

as_bool : (b : Ty) (o : layer.Ty-F Ty) → out-Ty b ≡ o → root (Opened o) ≡ marked BoolHead → b ≡ bool_ty
as_bool b layer.Bool e h = as_rolled b _ e ∙ rolls-Bool
as_bool b o e h = absurd (cc)

as_int : (b : Ty) (o : layer.Ty-F Ty) → out-Ty b ≡ o → root (Opened o) ≡ marked IntHead → b ≡ Int
as_int b layer.Int e h = as_rolled b _ e ∙ rolls-Int
as_int b o e h = absurd (cc)

as_str : (b : Ty) (o : layer.Ty-F Ty) → out-Ty b ≡ o → root (Opened o) ≡ marked StrHead → b ≡ Str
as_str b layer.Str e h = as_rolled b _ e ∙ rolls-Str
as_str b o e h = absurd (cc)

abbrev Alike : Ty → Type 0
Alike t = (u : Ty) (a b : Kind) → kind_of t ≡ Some a → kind_of u ≡ Some b → mean t ≡ mean u → a ≡ b

alike_same : (t u : Ty) (a b : Kind) → kind_of t ≡ Some a → kind_of u ≡ Some b → u ≡ t → a ≡ b
alike_same t u a b q r e = some_same (sym q ∙ ap kind_of (sym e) ∙ r)

alike_bool : Alike bool_ty
alike_bool u a b q r e =
    alike_same bool_ty u a b q r
    (as_bool u (out-Ty u) refl (root_at u (marked BoolHead) (ap root (sym e ∙ mean-Bool))))

alike_int : Alike Int
alike_int u a b q r e =
    alike_same Int u a b q r (as_int u (out-Ty u) refl (root_at u (marked IntHead) (ap root (sym e ∙ mean-Int))))

alike_str : Alike Str
alike_str u a b q r e =
    alike_same Str u a b q r (as_str u (out-Ty u) refl (root_at u (marked StrHead) (ap root (sym e ∙ mean-Str))))

name_of : Term → List ℕ
name_of (con (NamedHead x)) = x
name_of t = []

alike_named : (x : List ℕ) → Alike (Named x)
unfolding name_of
alike_named x u a b q r e =
    let m = sym e ∙ mean-Named x in
    let w = as_named u x (out-Ty u) refl (root_at u (marked (NamedHead x)) (ap root m)) in
    let n : w.0 ≡ x = ap name_of (sym (mean-Named w.0) ∙ ap mean (sym w.1) ∙ m) in
    alike_same (Named x) u a b q r (w.1 ∙ ap Named n)

alike_set : (t : Ty) → Alike t → Alike (set_ty t)
alike_set t h u a b q r e =
    let w = of_set (mean t) b (u, r, sym e ∙ mean-Set t) in
    let v = mapped Set (kind_of t) a (sym (kind-Set t) ∙ q) in
    v.1 ∙ ap Set (h w.2.0 v.0 w.0 v.2 w.2.1 (sym w.2.2)) ∙ sym w.1

alike_seq : (t : Ty) → Alike t → Alike (seq_ty t)
alike_seq t h u a b q r e =
    let w = of_seq (mean t) b (u, r, sym e ∙ mean-Seq t) in
    let v = mapped Seq (kind_of t) a (sym (kind-Seq t) ∙ q) in
    v.1 ∙ ap Seq (h w.2.0 v.0 w.0 v.2 w.2.1 (sym w.2.2)) ∙ sym w.1

alike_fun : (t s : Ty) → Alike t → Alike s → Alike (fun_ty t s)
alike_fun t s h g u a b q r e =
    let w = of_fun (mean t) (mean s) b (u, r, sym e ∙ mean-Fun t s) in
    let v = two (kind_of t) (kind_of s) a (sym (kind-Fun t s) ∙ q) in
    let k : v.0 ≡ w.0 = h w.3.0 v.0 w.0 v.3 w.3.1 (sym w.3.2) in
    let l : v.1 ≡ w.1 = g w.4.0 v.1 w.1 v.4 w.4.1 (sym w.4.2) in
    v.2 ∙ (λ i. Fun (k i) (l i)) ∙ sym w.2

abbrev Item : Type 0
Item = (t : Ty) × Alike t

abbrev items : List Item → List Ty
items ps = map (λ (p : Item). p.0) ps

pub split_there : {X : Type 0} (o : Option X) (os : List (Option X)) (xs : List X) → all_there (o ∷ os) ≡ Some xs →
    (y : X) × (ys : List X) × (xs ≡ y ∷ ys) × (o ≡ Some y) × (all_there os ≡ Some ys)
split_there {X = X} None os xs h = absurd (none≢some h)
split_there {X = X} (Some y) os xs h = by (all_there os) h
  where
    by : (q : Option (List X)) → option_map (λ ys. y ∷ ys) q ≡ Some xs →
        (z : X) × (ys : List X) × (xs ≡ z ∷ ys) × (Some y ≡ Some z) × (q ≡ Some ys)
    by None e = absurd (none≢some e)
    by (Some ys) e = (y, ys, sym (some_same e), refl, refl)

abbrev row_first : Term → Term
row_first (app a b) = a
row_first t = t

rows_alike : (ps : List Item) (us : List Ty) (as' bs : List Kind) → all_there (map kind_of (items ps)) ≡ Some as' →
    all_there (map kind_of us) ≡ Some bs → row (map mean (items ps)) ≡ row (map mean us) → as' ≡ bs
rows_alike [] [] as' bs q r e = some_same (sym q ∙ r)
rows_alike [] (u ∷ us) as' bs q r e = absurd (cc)
rows_alike (p ∷ ps) [] as' bs q r e = absurd (cc)
rows_alike (p ∷ ps) (u ∷ us) as' bs q r e =
    let v = split_there (kind_of p.0) (map kind_of (items ps)) as' q in
    let w = split_there (kind_of u) (map kind_of us) bs r in
    let k : v.0 ≡ w.0 = p.1 u v.0 w.0 v.3 w.3 (ap row_first e) in
    let l : v.1 ≡ w.1 = rows_alike ps us v.1 w.1 v.4 w.4 (ap arg e) in
    v.2 ∙ (λ i. k i ∷ l i) ∙ sym w.2

pub mapped_list : (f : List Kind → Kind) (o : Option (List Kind)) (a : Kind) → option_map f o ≡ Some a →
    (bs : List Kind) × (a ≡ f bs) × (o ≡ Some bs)
mapped_list f None a h = absurd (none≢some h)
mapped_list f (Some bs) a h = (bs, sym (some_same h), refl)

-- a tuple's type, by its items
pub of_tuple : (x : Term) (a : Kind) → Of (app (con TupHead) x) a →
    (ts : List Ty) × (as' : List Kind) × (a ≡ Tup (kinds as')) × (all_there (map kind_of ts) ≡ Some as')
    × (row (map mean ts) ≡ x)
of_tuple x a (t, q, e) =
    let u = as_tup t (out-Ty t) refl (root_at t (marked TupHead) (ap root e)) in
    let b = mapped_list (λ xs. Tup (kinds xs)) (all_there (map kind_of u.0)) a (sym (kind-Tup u.0) ∙ ap kind_of (sym u.1) ∙ q) in
    (u.0, b.0, b.1, b.2, ap arg (sym (mean-Tup u.0) ∙ ap mean (sym u.1) ∙ e))

alike_tup : (ps : List Item) → Alike (tup_ty (items ps))
alike_tup ps u a b q r e =
    let w = of_tuple (row (map mean (items ps))) b (u, r, sym e ∙ mean-Tup (items ps)) in
    let v =
    mapped_list (λ xs. Tup (kinds xs)) (all_there (map kind_of (items ps))) a (sym (kind-Tup (items ps)) ∙ q) in
    v.1 ∙ ap (λ z. Tup (kinds z)) (rows_alike ps w.0 v.0 w.1 v.2 w.3 (sym w.4)) ∙ sym w.2

-- ---- records

reversed : (o : Ordering) → is_eq (ordering_reverse o) ≡ is_eq o
reversed Less = refl
reversed Equal = refl
reversed Greater = refl

same_way : (x y : List ℕ) → bytes_eq y x ≡ is_eq (text_cmp x y)
same_way x y =
    sym (is_eq-slice_cmp y x) ∙ sym (reversed (text_cmp y x))
    ∙ ap is_eq (sym (nat_list_cmp_total.antisymm x y))

-- the fields have these kinds, in order
pub data Written : List (List ℕ × Ty) → List (List ℕ × Kind) → Type 0 where
  no_field : Written [] []
  a_field : (x : List ℕ) (t : Ty) (a : Kind) (fs : List (List ℕ × Ty)) (ks : List (List ℕ × Kind))
      → kind_of t ≡ Some a → Written fs ks → Written ((x, t) ∷ fs) ((x, a) ∷ ks)

abbrev pub opened_fields : List (List ℕ × Ty) → List (List ℕ × Option Kind)
opened_fields fs = map (λ f. (f.0, kind_of f.1)) fs

written : (fs : List (List ℕ × Ty)) (ks : List (List ℕ × Kind)) → all_fields_there (opened_fields fs) ≡ Some ks →
    Written fs ks
written [] ks h = subst (Written []) (some_same h) no_field
written (f ∷ fs) ks h = by (λ ls w. written fs ls w) (kind_of f.1) refl (all_fields_there (opened_fields fs)) refl h
  where
    by : ((ls : List (List ℕ × Kind)) → all_fields_there (opened_fields fs) ≡ Some ls → Written fs ls) →
        (o : Option Kind) → kind_of f.1 ≡ o → (q : Option (List (List ℕ × Kind))) →
        all_fields_there (opened_fields fs) ≡ q →
        option_and_then (λ x. option_map (λ xs. (f.0, x) ∷ xs) q) o ≡ Some ks → Written (f ∷ fs) ks
    by r None e q w k = absurd (none≢some k)
    by r (Some a) e None w k = absurd (none≢some k)
    by r (Some a) e (Some ls) w k = subst (Written (f ∷ fs)) (some_same k) (a_field f.0 f.1 a fs ls e (r ls w))

not_among : (x : List ℕ) (fs : List (List ℕ × Ty)) (ks : List (List ℕ × Kind)) → Written fs ks →
    is_among x (map (λ f. f.0) fs) ≡ false → found ks x ≡ None
not_among x _ _ no_field h = refl
not_among x _ _ (a_field y t a fs ks q w) h = by (λ k. not_among x fs ks w k) (bytes_eq x y) refl h
  where
    by : (is_among x (map (λ f. f.0) fs) ≡ false → found ks x ≡ None) → (d : Bool) → bytes_eq x y ≡ d →
        (d || is_among x (map (λ f. f.0) fs)) ≡ false →
        (if is_eq (text_cmp x y) then Some a else found ks x) ≡ None
    by f true e k = absurd (false≢true (sym k))
    by f false e k = ap (λ d. if d then Some a else found ks x) (is_eq-slice_cmp x y ∙ e) ∙ f k

once : (fs : List (List ℕ × Ty)) (ks : List (List ℕ × Kind)) → Written fs ks → are_distinct (map (λ f. f.0) fs) ≡ true →
    Once ks
once _ _ no_field h = tt
once _ _ (a_field x t a fs ks q w) h = (
  not_among x fs ks w
      (not_true (is_among x (map (λ f. f.0) fs))
      (and_left (not (is_among x (map (λ f. f.0) fs))) (are_distinct (map (λ f. f.0) fs)) h)),
  once fs ks w (and_right (not (is_among x (map (λ f. f.0) fs))) (are_distinct (map (λ f. f.0) fs)) h),
)

-- what is looked up is there, with its kind
pub looked_up : (fs : List (List ℕ × Ty)) (ks : List (List ℕ × Kind)) → Written fs ks → (x : List ℕ) (m : Term) →
    lookup (named fs) x ≡ some m → (a : Kind) × (found ks x ≡ Some a) × Of m a
looked_up _ _ no_field x m h = absurd (cc)
looked_up _ _ (a_field y t a fs ks q w) x m h = by (λ k. looked_up fs ks w x m k) (bytes_eq y x) refl h
  where
    by : (lookup (named fs) x ≡ some m → (a : Kind) × (found ks x ≡ Some a) × Of m a) → (d : Bool) → bytes_eq y x ≡ d →
        (if d then some (mean t) else lookup (named fs) x) ≡ some m →
        (b : Kind) × ((if is_eq (text_cmp x y) then Some a else found ks x) ≡ Some b) × Of m b
    by f true e k = (a, ap (λ d. if d then Some a else found ks x) (sym (same_way x y) ∙ e), (t, q, slot_same k))
      where
        slot_same : {p r : Term} → some p ≡ some r → p ≡ r
        slot_same k = cc
    by f false e k =
        let r = f k in
        (r.0, ap (λ d. if d then Some a else found ks x) (sym (same_way x y) ∙ e) ∙ r.1, r.2)

not_looked_up : (fs : List (List ℕ × Ty)) (ks : List (List ℕ × Kind)) → Written fs ks → (x : List ℕ) →
    lookup (named fs) x ≡ none → found ks x ≡ None
not_looked_up _ _ no_field x h = refl
not_looked_up _ _ (a_field y t a fs ks q w) x h = by (λ k. not_looked_up fs ks w x k) (bytes_eq y x) refl h
  where
    by : (lookup (named fs) x ≡ none → found ks x ≡ None) → (d : Bool) → bytes_eq y x ≡ d → (if d then some (mean t) else lookup (named fs) x) ≡ none →
        (if is_eq (text_cmp x y) then Some a else found ks x) ≡ None
    by f true e k = absurd (cc)
    by f false e k =
        ap (λ d. if d then Some a else found ks x) (sym (same_way x y) ∙ e) ∙ f k

pub record_parts : (fs : List (List ℕ × Ty)) (a : Kind) → record_kind (opened_fields fs) ≡ Some a →
    (ks : List (List ℕ × Kind)) × (a ≡ Rec (fields_in ks)) × Written fs ks × Once ks
record_parts fs a h = by (are_distinct (map (λ f. f.0) (opened_fields fs))) refl (all_fields_there (opened_fields fs)) refl h
  where
    names_are : (fs : List (List ℕ × Ty)) → map (λ f. f.0) (opened_fields fs) ≡ map (λ f. f.0) fs
    names_are [] = refl
    names_are (f ∷ fs) = ap (λ z. f.0 ∷ z) (names_are fs)

    by : (d : Bool) → are_distinct (map (λ f. f.0) (opened_fields fs)) ≡ d → (q : Option (List (List ℕ × Kind))) →
        all_fields_there (opened_fields fs) ≡ q →
        (if d then option_map (λ xs. Rec (fields_in xs)) q else None) ≡ Some a →
        (ks : List (List ℕ × Kind)) × (a ≡ Rec (fields_in ks)) × Written fs ks × Once ks
    by false e q w k = absurd (none≢some k)
    by true e None w k = absurd (none≢some k)
    by true e (Some ks) w k =
        let r = written fs ks w in
        (ks, sym (some_same k), r, once fs ks r (ap are_distinct (sym (names_are fs)) ∙ e))

abbrev slots : Term → List ℕ → Slot
slots (fields f k) = f
slots t = λ x. none

abbrev tail_of : Term → Option ℕ
tail_of (fields f k) = k
tail_of t = None

-- a record's type, by its fields
pub of_fields : (f : List ℕ → Slot) (a : Kind) → Of (fields f None) a →
    (fs : List (List ℕ × Ty)) × (ks : List (List ℕ × Kind)) × (a ≡ Rec (fields_in ks)) × Written fs ks × Once ks
    × (lookup (named fs) ≡ f)
of_fields f a (t, q, e) =
    let u = as_rec t (out-Ty t) refl (root_at t record_root (ap root e)) in
    let m : fields (lookup (named u.0)) u.1 ≡ fields f None = sym (mean-Rec u.0 u.1) ∙ ap mean (sym u.2) ∙ e in
    let u' : t ≡ rec_ty u.0 None = u.2 ∙ ap (rec_ty u.0) (ap tail_of m) in
    let r = record_parts u.0 a (sym (kind-Rec u.0) ∙ ap kind_of (sym u') ∙ q) in
    (u.0, r.0, r.1, r.2, r.3, ap slots m)

-- each field is alike
abbrev Field : Type 0
Field = List ℕ × Item

abbrev fields_of : List Field → List (List ℕ × Ty)
fields_of ps = map (λ (f : Field). (f.0, f.1.0)) ps

-- what is looked up is alike
looked_alike : (ps : List Field) (ks : List (List ℕ × Kind)) → Written (fields_of ps) ks → (x : List ℕ) (m : Term) →
    lookup (named (fields_of ps)) x ≡ some m → (b : Kind) → Of m b → found ks x ≡ Some b
looked_alike [] _ w x m h b g = absurd (cc)
looked_alike (p ∷ ps) _ (a_field _ _ a _ ks q w) x m h b g = by (λ k. looked_alike ps ks w x m k b g) (bytes_eq p.0 x) refl h
  where
    by : (lookup (named (fields_of ps)) x ≡ some m → found ks x ≡ Some b) → (d : Bool) → bytes_eq p.0 x ≡ d → (if d then some (mean p.1.0) else lookup (named (fields_of ps)) x) ≡ some m →
        (if is_eq (text_cmp x p.0) then Some a else found ks x) ≡ Some b
    by f true e k =
        ap (λ d. if d then Some a else found ks x) (sym (same_way x p.0) ∙ e)
        ∙ ap Some (p.1.1 g.0 a b q g.1 (slot_same k ∙ sym g.2))
      where
        slot_same : {p r : Term} → some p ≡ some r → p ≡ r
        slot_same k = cc
    by f false e k =
        ap (λ d. if d then Some a else found ks x) (sym (same_way x p.0) ∙ e) ∙ f k

alike_rec : (ps : List Field) → Alike (rec_ty (fields_of ps) None)
alike_rec ps u a b q r e =
    let v = record_parts (fields_of ps) a (sym (kind-Rec (fields_of ps)) ∙ q) in
    let w = of_fields (lookup (named (fields_of ps))) b (u, r, sym e ∙ mean-Rec (fields_of ps) None) in
    let k = fields_found v.0 v.3 in
    let l = fields_found w.1 w.4 in
    let look : (x : List ℕ) → found v.0 x ≡ found w.1 x = λ x. by v.0 v.2 w.0 w.1 w.3 w.5 x (lookup (named (fields_of ps)) x) refl in
    v.1 ∙ ap Rec (one_list (fields_in v.0) (fields_in w.1) k.0 l.0 (λ x. k.1 x ∙ look x ∙ sym (l.1 x))) ∙ sym w.2
  where
    by : (ks : List (List ℕ × Kind)) → Written (fields_of ps) ks → (fs : List (List ℕ × Ty)) (ls : List (List ℕ × Kind)) →
        Written fs ls → lookup (named fs) ≡ lookup (named (fields_of ps)) → (x : List ℕ) (s : Slot) →
        lookup (named (fields_of ps)) x ≡ s → found ks x ≡ found ls x
    by ks v fs ls w m x none h =
        not_looked_up (fields_of ps) ks v x h ∙ sym (not_looked_up fs ls w x (ap (λ f. f x) m ∙ h))
    by ks v fs ls w m x (some t) h =
        let r = looked_up fs ls w x t (ap (λ f. f x) m ∙ h) in
        looked_alike ps ks v x t h r.0 r.2 ∙ sym r.1

alike_layer : (y : layer.Ty-F Item) → Alike (roll-Ty (map-Ty Item Ty (λ t. t.0) y))
alike_layer layer.Bool = subst Alike (sym rolls-Bool) alike_bool
alike_layer layer.Int = subst Alike (sym rolls-Int) alike_int
alike_layer layer.Str = subst Alike (sym rolls-Str) alike_str
alike_layer (layer.Named x) = subst Alike (sym (rolls-Named x)) (alike_named x)
alike_layer (layer.Var n) = subst Alike (sym (rolls-Var n)) (λ u a b q r e. absurd (none≢some (sym (kind-Var n) ∙ q)))
alike_layer (layer.Set a) = subst Alike (sym (rolls-Set a.0)) (alike_set a.0 a.1)
alike_layer (layer.Seq a) = subst Alike (sym (rolls-Seq a.0)) (alike_seq a.0 a.1)
alike_layer (layer.Fun a b) = subst Alike (sym (rolls-Fun a.0 b.0)) (alike_fun a.0 b.0 a.1 b.1)
alike_layer (layer.Tup as') = subst Alike (sym (rolls-Tup (items as'))) (alike_tup as')
alike_layer (layer.Rec fs None) = subst Alike (sym (rolls-Rec (fields_of fs) None)) (alike_rec fs)
alike_layer (layer.Rec fs (Some k)) =
    subst Alike (sym (rolls-Rec (fields_of fs) (Some k)))
    (λ u a b q r e. absurd (none≢some (sym (kind-open (fields_of fs) k) ∙ q)))
alike_layer (layer.Oper as' b) =
    subst Alike (sym (rolls-Oper (items as') b.0))
    (λ u a c q r e. absurd (none≢some (sym (kind-Oper (items as') b.0) ∙ q)))

pub one : (t u : Ty) (a b : Kind) → kind_of t ≡ Some a → kind_of u ≡ Some b → mean t ≡ mean u → a ≡ b
one = ind-Ty Alike (λ x y is. subst (λ (z : layer.Ty-F Ty). Alike (roll-Ty z)) is (alike_layer y))

pub same_of : (x : Term) (a b : Kind) → Of x a → Of x b → a ≡ b
same_of x a b h g = one h.0 g.0 a b h.1 g.1 (h.2 ∙ sym g.2)

pub is_truth : (a : Kind) → Of bool_type a → a ≡ Truth
is_truth a h = same_of bool_type a Truth h has_bool

pub is_number : (a : Kind) → Of int_type a → a ≡ Number
is_number a h = same_of int_type a Number h has_int

-- ---- several

pub data AreOf : List Term → List Kind → Type 0 where
  no_more : AreOf [] []
  and_of : (x : Term) (a : Kind) (xs : List Term) (as' : List Kind) → Of x a → AreOf xs as' → AreOf (x ∷ xs) (a ∷ as')

there : (xs : List Term) (as' : List Kind) → AreOf xs as' →
    (ts : List Ty) × (all_there (map kind_of ts) ≡ Some as') × (map mean ts ≡ xs)
there _ _ no_more = ([], refl, refl)
there _ _ (and_of x a xs as' h g) =
    let r = there xs as' g in (
      h.0 ∷ r.0,
      (λ i. option_and_then (λ x. option_map (λ xs. x ∷ xs) (r.1 i)) (h.1 i)),
      (λ i. h.2 i ∷ r.2 i),
    )

pub has_tuple : (xs : List Term) (as' : List Kind) → AreOf xs as' → Of (tuple_type xs) (Tup (kinds as'))
has_tuple xs as' h =
    let r = there xs as' h in (
      tup_ty r.0,
      kind-Tup r.0 ∙ ap (option_map (λ xs. Tup (kinds xs))) r.1,
      mean-Tup r.0 ∙ ap (λ z. app (con TupHead) (row z)) r.2,
    )

-- names with the types and kinds of the values that they stand for
zip_names : (ns : List (List ℕ)) (ts : List Ty) → length ns ≡ length ts →
    map (λ f. f.0) (opened_fields (zip ns ts)) ≡ ns
zip_names [] ts l = refl
zip_names (n ∷ ns) [] l = absurd (some_long (length ns) l)
  where
    some_long : (n : ℕ) → suc n ≡ 0 → ⊥
    some_long n e = omega (arith, e)
zip_names (n ∷ ns) (t ∷ ts) l = ap (λ z. n ∷ z) (zip_names ns ts (less (length ns) (length ts) l))
  where
    less : (m n : ℕ) → suc m ≡ suc n → m ≡ n
    less m n e = omega (arith, e)

zip_kinds : (ns : List (List ℕ)) (ts : List Ty) (as' : List Kind) → all_there (map kind_of ts) ≡ Some as' →
    all_fields_there (opened_fields (zip ns ts)) ≡ Some (zip ns as')
zip_kinds [] ts as' h = refl
zip_kinds (n ∷ ns) [] as' h = ap (λ z. Some (zip (n ∷ ns) z)) (some_same h)
zip_kinds (n ∷ ns) (t ∷ ts) as' h =
    let v = split_there (kind_of t) (map kind_of ts) as' h in
    (λ i. option_and_then (λ x. option_map (λ xs. (n, x) ∷ xs) (zip_kinds ns ts v.1 v.4 i)) (v.3 i))
    ∙ ap (λ z. Some (zip (n ∷ ns) z)) (sym v.2)

zip_terms : (ns : List (List ℕ)) (ts : List Ty) → named (zip ns ts) ≡ zip ns (map mean ts)
zip_terms [] ts = refl
zip_terms (n ∷ ns) [] = refl
zip_terms (n ∷ ns) (t ∷ ts) = ap (λ z. (n, mean t) ∷ z) (zip_terms ns ts)

long_map : {X Y : Type 0} (f : X → Y) (xs : List X) → length (map f xs) ≡ length xs
long_map f [] = refl
long_map f (x ∷ xs) = ap suc (long_map f xs)

pub has_record : (ns : List (List ℕ)) (xs : List Term) (as' : List Kind) → AreOf xs as' → length ns ≡ length xs →
    are_distinct ns ≡ true → Of (record_type (zip ns xs)) (Rec (fields_in (zip ns as')))
has_record ns xs as' h l d =
    let r = there xs as' h in
    let l' : length ns ≡ length r.0 = l ∙ ap length (sym r.2) ∙ long_map mean r.0 in (
      rec_ty (zip ns r.0) None,
      kind-Rec (zip ns r.0)
          ∙ (λ i. if (ap are_distinct (zip_names ns r.0 l') ∙ d) i then option_map (λ xs. Rec (fields_in xs)) (zip_kinds ns r.0 as' r.1 i) else None),
      mean-Rec (zip ns r.0) None ∙ ap (λ z. fields (lookup z) None) (zip_terms ns r.0 ∙ ap (zip ns) r.2),
    )
