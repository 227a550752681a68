-- The roots of types: types with different roots differ at once.
use Rattle.std.proofs.Common.{◌≡◌, ℕ, List, [], ◌∷◌, map, length, suc, refl, ap, ◌∙◌, sym, subst, Option}
use Rattle.snowcat_rows.specs.Types.{Head, Term, Slot, var, con, app, fields, row, mean_layer, mean, BoolHead, IntHead, StrHead, NamedHead, SetHead, SeqHead, FunHead, TupHead, OperHead}
use Rattle.snowcat_rows.specs.Substitutions.{Sub, apply, same_sub}
use Rattle.snowcat_rows.specs.FirstDifferences.{Common, HaveSamePlaces, items_in}
use Rattle.snowcat_rows.specs.inner.Rounds.{NotVar, Differ, IsRecord}
use Rattle.snowcat_rows.specs.declared.types.Ty.{Ty, out-Ty, roll-Ty, roll-out-Ty, Bool, Int, Str, Named, Var, Set, Seq, Fun, Tup, Rec, Oper}
use Rattle.snowcat_rows.specs.declared.types.Ty.TheVariants.{rolls-Bool, rolls-Int, rolls-Str, rolls-Named, rolls-Var, rolls-Set, rolls-Seq, rolls-Fun, rolls-Tup, rolls-Rec, rolls-Oper}
use Rattle.snowcat_rows.specs.declared.types.Ty.TheOpen as layer
use Rattle.snowcat_rows.specs.declared.types.Ty.TheFolds.{map-Ty}
use Rattle.snowcat_rows.proofs.Means.{mean_out, mean-Bool, mean-Int, mean-Str, mean-Named, mean-Var, mean-Set, mean-Seq, mean-Fun, mean-Tup, mean-Rec, mean-Oper}
use Rattle.snowcat_rows.proofs.Differing.{differ_here}

pub data Root : Type 0 where
  no_root : Root
  marked : Head → Root
  record_root : Root

abbrev head_of : Term → Root
head_of (var v) = no_root
head_of (con h) = marked h
head_of (app a b) = no_root
head_of (fields f k) = no_root

abbrev pub root : Term → Root
root (var v) = no_root
root (con h) = marked h
root (app a b) = head_of a
root (fields f k) = record_root

abbrev Opened : layer.Ty-F Ty → Term
Opened o = mean_layer (map-Ty Ty Term mean o)

at_layer : (b : Ty) (o : layer.Ty-F Ty) → out-Ty b ≡ o → mean b ≡ Opened o
at_layer b o e = mean_out b ∙ ap Opened e

as_rolled : (b : Ty) (o : layer.Ty-F Ty) → out-Ty b ≡ o → b ≡ roll-Ty o
as_rolled b o e = sym (roll-out-Ty b) ∙ ap roll-Ty e

-- a substitution keeps the root of what is no variable
kept_layer : (s : Sub) (o : layer.Ty-F Ty) → NotVar (Opened o) → root (apply s (Opened o)) ≡ root (Opened o)
kept_layer s (layer.Var v) n = absurd (n v refl)
kept_layer s o n = refl

pub kept_root : (b : Ty) (s : Sub) → NotVar (mean b) → root (apply s (mean b)) ≡ root (mean b)
kept_root b s n =
    let e : mean b ≡ Opened (out-Ty b) = at_layer b (out-Ty b) refl in
    ap (λ t. root (apply s t)) e ∙ kept_layer s (out-Ty b) (λ v k. n v (e ∙ k)) ∙ ap root (sym e)

not_both : (x y : Term) → (root x ≡ root y → ⊥) → (f g : List ℕ → Slot) (k j : Option ℕ) → x ≡ fields f k → y ≡ fields g j → Common f g
not_both x y n f g k j e h = absurd (n (ap root e ∙ sym (ap root h)))

pub differ_roots : (a b : Ty) → (root (mean a) ≡ root (mean b) → ⊥) → Differ (mean a) (mean b) (mean a) (mean b)
differ_roots a b n = differ_here (mean a) (mean b) (record {
  at_once = record {
    unequal = λ e. n (ap root e);
    forms = λ h x y e k c. n (ap root e ∙ sym (ap root k));
    records = not_both (mean a) (mean b) n;
  };
  apart = λ p q r s e. n (sym (kept_root a s p) ∙ ap root e ∙ kept_root b s q);
})

-- no records
only_marked : (x y : Term) (h : Head) → root x ≡ marked h → (f g : List ℕ → Slot) (k j : Option ℕ) → x ≡ fields f k → y ≡ fields g j → Common f g
only_marked x y h r f g k j e i = absurd (apart (sym r ∙ ap root e))
  where
    apart : marked h ≡ record_root → ⊥
    apart q = cc

-- ---- what the root says of the form

root_at : (b : Ty) (h : Root) → root (mean b) ≡ h → root (Opened (out-Ty b)) ≡ h
root_at b h e = sym (ap root (at_layer b (out-Ty b) refl)) ∙ e

is_bool : (b : Ty) (o : layer.Ty-F Ty) → out-Ty b ≡ o → root (Opened o) ≡ marked BoolHead → b ≡ Bool
is_bool b layer.Bool e h = as_rolled b _ e ∙ rolls-Bool
is_bool b o e h = absurd (cc)

is_int : (b : Ty) (o : layer.Ty-F Ty) → out-Ty b ≡ o → root (Opened o) ≡ marked IntHead → b ≡ Int
is_int b layer.Int e h = as_rolled b _ e ∙ rolls-Int
is_int b o e h = absurd (cc)

is_str : (b : Ty) (o : layer.Ty-F Ty) → out-Ty b ≡ o → root (Opened o) ≡ marked StrHead → b ≡ Str
is_str b layer.Str e h = as_rolled b _ e ∙ rolls-Str
is_str b o e h = absurd (cc)

is_named : (b : Ty) (t : List ℕ) (o : layer.Ty-F Ty) → out-Ty b ≡ o → root (Opened o) ≡ marked (NamedHead t) → (u : List ℕ) × (b ≡ Named u)
is_named b t (layer.Named u) e h = (u, as_rolled b _ e ∙ rolls-Named u)
is_named b t o e h = absurd (cc)

is_var : (b : Ty) (o : layer.Ty-F Ty) → out-Ty b ≡ o → root (Opened o) ≡ no_root → (v : ℕ) × (b ≡ Var v)
is_var b (layer.Var v) e h = (v, as_rolled b _ e ∙ rolls-Var v)
is_var b o e h = absurd (cc)

-- a type that means a variable is one
pub var_of : (b : Ty) (v : ℕ) → mean b ≡ var v → (w : ℕ) × (b ≡ Var w)
var_of b v e = is_var b (out-Ty b) refl (root_at b no_root (ap root e))

is_set : (b : Ty) (o : layer.Ty-F Ty) → out-Ty b ≡ o → root (Opened o) ≡ marked SetHead → (x : Ty) × (b ≡ Set x)
is_set b (layer.Set x) e h = (x, as_rolled b _ e ∙ rolls-Set x)
is_set b o e h = absurd (cc)

is_seq : (b : Ty) (o : layer.Ty-F Ty) → out-Ty b ≡ o → root (Opened o) ≡ marked SeqHead → (x : Ty) × (b ≡ Seq x)
is_seq b (layer.Seq x) e h = (x, as_rolled b _ e ∙ rolls-Seq x)
is_seq b o e h = absurd (cc)

is_fun : (b : Ty) (o : layer.Ty-F Ty) → out-Ty b ≡ o → root (Opened o) ≡ marked FunHead → (x : Ty) × (y : Ty) × (b ≡ Fun x y)
is_fun b (layer.Fun x y) e h = (x, y, as_rolled b _ e ∙ rolls-Fun x y)
is_fun b o e h = absurd (cc)

is_tup : (b : Ty) (o : layer.Ty-F Ty) → out-Ty b ≡ o → root (Opened o) ≡ marked TupHead → (x : List Ty) × (b ≡ Tup x)
is_tup b (layer.Tup x) e h = (x, as_rolled b _ e ∙ rolls-Tup x)
is_tup b o e h = absurd (cc)

is_rec : (b : Ty) (o : layer.Ty-F Ty) → out-Ty b ≡ o → root (Opened o) ≡ record_root → (x : List (List ℕ × Ty)) × (k : Option ℕ) × (b ≡ Rec x k)
is_rec b (layer.Rec x k) e h = (x, k, as_rolled b _ e ∙ rolls-Rec x k)
is_rec b o e h = absurd (cc)

is_oper : (b : Ty) (o : layer.Ty-F Ty) → out-Ty b ≡ o → root (Opened o) ≡ marked OperHead → (x : List Ty) × (y : Ty) × (b ≡ Oper x y)
is_oper b (layer.Oper x y) e h = (x, y, as_rolled b _ e ∙ rolls-Oper x y)
is_oper b o e h = absurd (cc)

-- ---- a type of one form, and one that is not of this form

abbrev Here : Ty → Ty → Type 0
Here a b = Differ (mean a) (mean b) (mean a) (mean b)

from : (a b c : Ty) (h : Root) → a ≡ c → root (mean c) ≡ h → root (mean a) ≡ root (mean b) → root (Opened (out-Ty b)) ≡ h
from a b c h e k l = root_at b h (sym l ∙ ap (λ t. root (mean t)) e ∙ k)

pub differ-Bool : (a b : Ty) → a ≡ Bool → (b ≡ Bool → ⊥) → Here a b
differ-Bool a b e n = differ_roots a b (λ l. n (is_bool b (out-Ty b) refl (from a b Bool _ e (ap root mean-Bool) l)))

pub differ-Int : (a b : Ty) → a ≡ Int → (b ≡ Int → ⊥) → Here a b
differ-Int a b e n = differ_roots a b (λ l. n (is_int b (out-Ty b) refl (from a b Int _ e (ap root mean-Int) l)))

pub differ-Str : (a b : Ty) → a ≡ Str → (b ≡ Str → ⊥) → Here a b
differ-Str a b e n = differ_roots a b (λ l. n (is_str b (out-Ty b) refl (from a b Str _ e (ap root mean-Str) l)))

pub differ-Named : (a b : Ty) (t : List ℕ) → a ≡ Named t → ((u : List ℕ) → b ≡ Named u → ⊥) → Here a b
differ-Named a b t e n = differ_roots a b (λ l. let w = is_named b t (out-Ty b) refl (from a b (Named t) _ e (ap root (mean-Named t)) l) in n w.0 w.1)

pub differ-Var : (a b : Ty) (v : ℕ) → a ≡ Var v → ((u : ℕ) → b ≡ Var u → ⊥) → Here a b
differ-Var a b v e n = differ_roots a b (λ l. let w = is_var b (out-Ty b) refl (from a b (Var v) _ e (ap root (mean-Var v)) l) in n w.0 w.1)

pub differ-Set : (a b : Ty) (x : Ty) → a ≡ Set x → ((y : Ty) → b ≡ Set y → ⊥) → Here a b
differ-Set a b x e n = differ_roots a b (λ l. let w = is_set b (out-Ty b) refl (from a b (Set x) _ e (ap root (mean-Set x)) l) in n w.0 w.1)

pub differ-Seq : (a b : Ty) (x : Ty) → a ≡ Seq x → ((y : Ty) → b ≡ Seq y → ⊥) → Here a b
differ-Seq a b x e n = differ_roots a b (λ l. let w = is_seq b (out-Ty b) refl (from a b (Seq x) _ e (ap root (mean-Seq x)) l) in n w.0 w.1)

pub differ-Fun : (a b : Ty) (x y : Ty) → a ≡ Fun x y → ((z w : Ty) → b ≡ Fun z w → ⊥) → Here a b
differ-Fun a b x y e n = differ_roots a b (λ l. let w = is_fun b (out-Ty b) refl (from a b (Fun x y) _ e (ap root (mean-Fun x y)) l) in n w.0 w.1 w.2)

pub differ-Tup : (a b : Ty) (x : List Ty) → a ≡ Tup x → ((y : List Ty) → b ≡ Tup y → ⊥) → Here a b
differ-Tup a b x e n = differ_roots a b (λ l. let w = is_tup b (out-Ty b) refl (from a b (Tup x) _ e (ap root (mean-Tup x)) l) in n w.0 w.1)

pub differ-Rec : (a b : Ty) (x : List (List ℕ × Ty)) (k : Option ℕ) → a ≡ Rec x k → ((y : List (List ℕ × Ty)) (j : Option ℕ) → b ≡ Rec y j → ⊥) → Here a b
differ-Rec a b x k e n = differ_roots a b (λ l. let w = is_rec b (out-Ty b) refl (from a b (Rec x k) _ e (ap root (mean-Rec x k)) l) in n w.0 w.1 w.2)

pub differ-Oper : (a b : Ty) (x : List Ty) (y : Ty) → a ≡ Oper x y → ((z : List Ty) (w : Ty) → b ≡ Oper z w → ⊥) → Here a b
differ-Oper a b x y e n = differ_roots a b (λ l. let w = is_oper b (out-Ty b) refl (from a b (Oper x y) _ e (ap root (mean-Oper x y)) l) in n w.0 w.1 w.2)

-- ---- the same form with different parts

pub differ_names : (a b : Ty) (t u : List ℕ) → a ≡ Named t → b ≡ Named u → (t ≡ u → ⊥) → Here a b
differ_names a b t u e f n =
    differ_roots a b (λ l. n (named (ap root (sym (mean-Named t)) ∙ ap (λ c. root (mean c)) (sym e) ∙ l ∙ ap (λ c. root (mean c)) f ∙ ap root (mean-Named u))))
  where
    named : root (con (NamedHead t)) ≡ root (con (NamedHead u)) → t ≡ u
    named k = cc

pub differ_vars : (a b : Ty) (v w : ℕ) → a ≡ Var v → b ≡ Var w → (v ≡ w → ⊥) → Here a b
differ_vars a b v w e f n =
    let ma : mean a ≡ var v = ap mean e ∙ mean-Var v in
    let mb : mean b ≡ var w = ap mean f ∙ mean-Var w in
    differ_here (mean a) (mean b) (record {
      at_once = record {
        unequal = λ k. n (same (sym ma ∙ k ∙ mb));
        forms = λ h x y k j c. absurd (not_var_app v (con h) x (sym ma ∙ k));
        records = λ f g k j x y. absurd (not_var_record v f k (sym ma ∙ x));
      };
      apart = λ p q r. absurd (p v ma);
    })
  where
    same : var v ≡ var w → v ≡ w
    same k = cc

    not_var_app : (v : ℕ) (h x : Term) → var v ≡ app h x → ⊥
    not_var_app v h x k = cc

    not_var_record : (v : ℕ) (f : List ℕ → Slot) (k : Option ℕ) → var v ≡ fields f k → ⊥
    not_var_record v f k h = cc

row_lengths : (s : Sub) (xs ys : List Term) → apply s (row xs) ≡ apply s (row ys) → length xs ≡ length ys
row_lengths s [] [] e = refl
row_lengths s [] (y ∷ ys) e = absurd (cc)
row_lengths s (x ∷ xs) [] e = absurd (cc)
row_lengths s (x ∷ xs) (y ∷ ys) e = ap suc (row_lengths s xs ys (second (apply s x) (apply s y) (apply s (row xs)) (apply s (row ys)) e))
  where
    second : (a b c d : Term) → app a c ≡ app b d → c ≡ d
    second a b c d k = cc

length-map : (xs : List Ty) → length (map mean xs) ≡ length xs
length-map [] = refl
length-map (x ∷ xs) = ap suc (length-map xs)

pub rows_apart : (xs ys : List Ty) (s : Sub) → (length xs ≡ length ys → ⊥) → apply s (row (map mean xs)) ≡ apply s (row (map mean ys)) → ⊥
rows_apart xs ys s n e = n (sym (length-map xs) ∙ row_lengths s (map mean xs) (map mean ys) e ∙ length-map ys)

-- as many items
row_items : (xs : List Ty) → items_in (row (map mean xs)) ≡ length xs
row_items [] = refl
row_items (x ∷ xs) = ap suc (row_items xs)

as_many : (xs ys : List Ty) → items_in (row (map mean xs)) ≡ items_in (row (map mean ys)) → length xs ≡ length ys
as_many xs ys e = sym (row_items xs) ∙ e ∙ row_items ys

from_never : (a b : Term) (h : Head) → root a ≡ marked h → ((g : Head) (x y : Term) → a ≡ app (con g) x → b ≡ app (con g) y → HaveSamePlaces g x y → ⊥) →
    ((s : Sub) → apply s a ≡ apply s b → ⊥) → Differ a b a b
from_never a b h r f n = differ_here a b (record {
  at_once = record { unequal = λ e. n same_sub (ap (apply same_sub) e); forms = f; records = only_marked a b h r };
  apart = λ p q i s e. n s e;
})

heads_same : (g h : Head) (x y : Term) → app (con g) x ≡ app (con h) y → (g ≡ h) × (x ≡ y)
heads_same g h x y e = (heads e, parts e)
  where
    heads : app (con g) x ≡ app (con h) y → g ≡ h
    heads k = cc

    parts : app (con g) x ≡ app (con h) y → x ≡ y
    parts k = cc

-- two types of one form, whose parts do not stand at the same places
forms_apart : (a b : Term) (h : Head) (u w : Term) → a ≡ app (con h) u → b ≡ app (con h) w → (HaveSamePlaces h u w → ⊥) →
    (g : Head) (x y : Term) → a ≡ app (con g) x → b ≡ app (con g) y → HaveSamePlaces g x y → ⊥
forms_apart a b h u w e f n g x y k l c =
    let p = heads_same g h x u (sym k ∙ e) in
    let q = heads_same g h y w (sym l ∙ f) in
    let P : Head → Type 0 = λ z. HaveSamePlaces z x y in
    let Q : Term → Type 0 = λ z. HaveSamePlaces h z y in
    let R : Term → Type 0 = λ z. HaveSamePlaces h u z in
    n (subst R q.1 (subst Q p.1 (subst P p.0 c)))

pub differ_tuples : (a b : Ty) (xs ys : List Ty) → a ≡ Tup xs → b ≡ Tup ys → (length xs ≡ length ys → ⊥) → Here a b
differ_tuples a b xs ys e f n =
    from_never (mean a) (mean b) TupHead (ap (λ c. root (mean c)) e ∙ ap root (mean-Tup xs))
    (forms_apart (mean a) (mean b) TupHead _ _ (ap mean e ∙ mean-Tup xs) (ap mean f ∙ mean-Tup ys) (λ c. n (as_many xs ys c))) (λ s k.
    rows_apart xs ys s n (inner s (ap (apply s) (sym (mean-Tup xs)) ∙ ap (λ c. apply s (mean c)) (sym e) ∙ k ∙ ap (λ c. apply s (mean c)) f ∙ ap (apply s) (mean-Tup ys))))
  where
    inner : (s : Sub) → app (con TupHead) (apply s (row (map mean xs))) ≡ app (con TupHead) (apply s (row (map mean ys))) → apply s (row (map mean xs)) ≡ apply s (row (map mean ys))
    inner s k = cc

pub differ_opers : (a b : Ty) (xs ys : List Ty) (x y : Ty) → a ≡ Oper xs x → b ≡ Oper ys y → (length xs ≡ length ys → ⊥) → Here a b
differ_opers a b xs ys x y e f n =
    from_never (mean a) (mean b) OperHead (ap (λ c. root (mean c)) e ∙ ap root (mean-Oper xs x))
    (forms_apart (mean a) (mean b) OperHead _ _ (ap mean e ∙ mean-Oper xs x) (ap mean f ∙ mean-Oper ys y) (λ c. n (as_many xs ys c))) (λ s k.
    rows_apart xs ys s n (inner s (ap (apply s) (sym (mean-Oper xs x)) ∙ ap (λ c. apply s (mean c)) (sym e) ∙ k ∙ ap (λ c. apply s (mean c)) f ∙ ap (apply s) (mean-Oper ys y))))
  where
    inner : (s : Sub) → app (con OperHead) (app (apply s (row (map mean xs))) (apply s (mean x))) ≡ app (con OperHead) (app (apply s (row (map mean ys))) (apply s (mean y))) → apply s (row (map mean xs)) ≡ apply s (row (map mean ys))
    inner s k = cc

pub not_var : (b : Ty) → ((v : ℕ) → b ≡ Var v → ⊥) → NotVar (mean b)
not_var b n v e = let w = is_var b (out-Ty b) refl (root_at b no_root (ap root e)) in n w.0 w.1

pub not_rec : (b : Ty) → ((x : List (List ℕ × Ty)) (k : Option ℕ) → b ≡ Rec x k → ⊥) → IsRecord (mean b) → ⊥
not_rec b n (f, k, e) = let w = is_rec b (out-Ty b) refl (root_at b record_root (ap root e)) in n w.0 w.1 w.2
