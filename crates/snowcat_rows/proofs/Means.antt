-- What each form of type means.
use Rattle.std.proofs.Common.{◌≡◌, ℕ, List, [], ◌∷◌, ◌++◌, map, refl, ap, ◌∙◌, sym, Option, Some, None}
use Rattle.std.proofs.lemmas.Bool.{cases_Bool}
use Rattle.std.proofs.Common.{inl, inr}
use Rattle.std.specs.Prelude.{bytes_eq}
use Rattle.snowcat_rows.specs.Types.{Term, Slot, var, con, app, fields, none, some, lookup, row, mean_layer, mean, BoolHead, IntHead, StrHead, NamedHead, SetHead, SeqHead, FunHead, TupHead, OperHead}
use Rattle.snowcat_rows.specs.Substitutions.{Sub, Row, apply, apply_slot, or_else, tail_row}
use Rattle.snowcat_rows.specs.Closing.{closing}
use Rattle.snowcat_rows.specs.Codes.{named, changed, followed}
use Rattle.snowcat_rows.specs.declared.types.Ty.{Ty, out-Ty, Bool, Int, Str, Named, Var, Set, Seq, Fun, Tup, Rec, Oper}
use Rattle.snowcat_rows.specs.declared.types.Ty.TheVariants.{outs-Bool, outs-Int, outs-Str, outs-Named, outs-Var, outs-Set, outs-Seq, outs-Fun, outs-Tup, outs-Rec, outs-Oper}
use Rattle.snowcat_rows.specs.declared.types.Ty.TheOpen as layer
use Rattle.snowcat_rows.specs.declared.types.Ty.TheFolds.{fold_out-Ty, map-Ty}

abbrev Opened : layer.Ty-F Ty → Term
Opened o = mean_layer (map-Ty Ty Term mean o)

pub mean_out : (t : Ty) → mean t ≡ mean_layer (map-Ty Ty Term mean (out-Ty t))
unfolding mean
mean_out t = fold_out-Ty Term mean_layer t

pub mean-Bool : mean Bool ≡ con BoolHead
mean-Bool = mean_out Bool ∙ ap Opened outs-Bool

pub mean-Int : mean Int ≡ con IntHead
mean-Int = mean_out Int ∙ ap Opened outs-Int

pub mean-Str : mean Str ≡ con StrHead
mean-Str = mean_out Str ∙ ap Opened outs-Str

pub mean-Named : (t : List ℕ) → mean (Named t) ≡ con (NamedHead t)
mean-Named t = mean_out (Named t) ∙ ap Opened (outs-Named t)

pub mean-Var : (n : ℕ) → mean (Var n) ≡ var n
mean-Var n = mean_out (Var n) ∙ ap Opened (outs-Var n)

pub mean-Set : (a : Ty) → mean (Set a) ≡ app (con SetHead) (mean a)
mean-Set a = mean_out (Set a) ∙ ap Opened (outs-Set a)

pub mean-Fun : (a b : Ty) → mean (Fun a b) ≡ app (con FunHead) (app (mean a) (mean b))
mean-Fun a b = mean_out (Fun a b) ∙ ap Opened (outs-Fun a b)

pub mean-Seq : (a : Ty) → mean (Seq a) ≡ app (con SeqHead) (mean a)
mean-Seq a = mean_out (Seq a) ∙ ap Opened (outs-Seq a)

pub mean-Tup : (ts : List Ty) → mean (Tup ts) ≡ app (con TupHead) (row (map mean ts))
mean-Tup ts = mean_out (Tup ts) ∙ ap Opened (outs-Tup ts)

pub mean-Oper : (ts : List Ty) (b : Ty) → mean (Oper ts b) ≡ app (con OperHead) (app (row (map mean ts)) (mean b))
mean-Oper ts b = mean_out (Oper ts b) ∙ ap Opened (outs-Oper ts b)

pub mean-Rec : (fs : List (List ℕ × Ty)) (k : Option ℕ) → mean (Rec fs k) ≡ fields (lookup (named fs)) k
mean-Rec fs k = mean_out (Rec fs k) ∙ ap Opened (outs-Rec fs k)

pub ruleset means = (mean-Bool, mean-Int, mean-Str, mean-Named, mean-Var, mean-Set, mean-Seq, mean-Fun, mean-Tup, mean-Rec, mean-Oper)

pub lookup-changed : (s : Sub) (fs : List (List ℕ × Ty)) (n : List ℕ) → lookup (changed s fs) n ≡ apply_slot s (lookup (named fs) n)
lookup-changed s [] n = refl
lookup-changed s (f ∷ fs) n =
    elim (cases_Bool (bytes_eq f.0 n)) [ inl h ↦ rw h refl | inr h ↦ rw h (lookup-changed s fs n) ]

-- a record after a substitution
pub rec_after : (s : Sub) (fs : List (List ℕ × Ty)) (k : Option ℕ) (xs : List (List ℕ × Term)) (t : Ty) → t ≡ Rec fs k → xs ≡ changed s fs →
    followed xs s k ≡ apply s (mean t)
rec_after s fs k xs t e h =
    ap (λ z. followed z s k) h
    ∙ (λ i. fields (λ n. or_else (lookup-changed s fs n i) ((tail_row s k).at n)) (tail_row s k).tail)
    ∙ sym (ap (apply s) (ap mean e ∙ mean-Rec fs k))

pub or_none : (x : Slot) → or_else x none ≡ x
or_none none = refl
or_none (some t) = refl

-- a record whose fields are closed, and which has no others
pub rec_closed : (fs gs : List (List ℕ × Ty)) (k : Option ℕ) (t : Ty) → t ≡ Rec fs k → named gs ≡ changed closing fs →
    mean (Rec gs None) ≡ apply closing (mean t)
rec_closed fs gs k t e h =
    mean-Rec gs None ∙ sym (λ i. fields (λ n. or_none (lookup (named gs) n) i) None)
    ∙ ap (λ l. fields (λ n. or_else (lookup l n) none) None) h ∙ ends k ∙ rec_after closing fs k (changed closing fs) t e refl
  where
    ends : (k : Option ℕ) → fields (λ n. or_else (lookup (changed closing fs) n) none) None ≡ followed (changed closing fs) closing k
    ends None = refl
    ends (Some r) = refl

-- fields one list after the other: the first that has the name
pub lookup-append : (xs ys : List (List ℕ × Term)) (n : List ℕ) → lookup (xs ++ ys) n ≡ or_else (lookup xs n) (lookup ys n)
lookup-append [] ys n = refl
lookup-append (x ∷ xs) ys n =
    elim (cases_Bool (bytes_eq x.0 n)) [ inl h ↦ rw h refl | inr h ↦ rw h (lookup-append xs ys n) ]

abbrev pub empty : Option ℕ → Row
empty k = record { at = λ n. none; tail = k }

-- with nothing that follows
pub followed_same : (fs : List (List ℕ × Ty)) (s : Sub) (k : Option ℕ) (w : Row) → tail_row s k ≡ w → w ≡ empty k → mean (Rec fs k) ≡ followed (named fs) s k
followed_same fs s k w e h =
    mean-Rec fs k
    ∙ sym ((λ i. fields (λ n. or_else (lookup (named fs) n) (((e ∙ h) i).at n)) ((e ∙ h) i).tail) ∙ (λ i. fields (λ n. or_none (lookup (named fs) n) i) k))

-- with the row that the variable stands for
pub followed_by : (fs hs gs : List (List ℕ × Ty)) (s : Sub) (q : ℕ) (k : Option ℕ) → s.row_of q ≡ record { at = lookup (named gs); tail = k } →
    ((n : List ℕ) → lookup (named hs) n ≡ or_else (lookup (named fs) n) (lookup (named gs) n)) → mean (Rec hs k) ≡ followed (named fs) s (Some q)
followed_by fs hs gs s q k e h =
    mean-Rec hs k
    ∙ (λ i. fields (λ n. h n i) k)
    ∙ sym (λ i. fields (λ n. or_else (lookup (named fs) n) ((e i).at n)) (e i).tail)

pub row_replaced : (s : Sub) (rs ts : List Ty) → map mean rs ≡ map (λ u. apply s (mean u)) ts → row (map mean rs) ≡ apply s (row (map mean ts))
row_replaced s rs ts e = ap row e ∙ rows ts
  where
    rows : (l : List Ty) → row (map (λ u. apply s (mean u)) l) ≡ apply s (row (map mean l))
    rows [] = refl
    rows (x ∷ xs) = ap (λ t. app (apply s (mean x)) t) (rows xs)
