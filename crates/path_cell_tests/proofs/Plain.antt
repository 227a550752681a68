-- Types without records, and trees without texts.
use Rattle.std.proofs.Common.{◌≡◌, ℕ, ℤ, ◌+◌, ◌<◌, ◌≤◌, Bool, List, [], ◌∷◌, ◌++◌, map, length, take, get_or, flat_map, Option, Some, None, option_map, option_and_then, refl, sym, ◌∙◌, ap, ap₂, subst}
use Rattle.std.proofs.lemmas.List.{take_all, take_more}
use Rattle.tla_values.specs.declared.value.Value.TheVariants as value
use Rattle.snowcat_rows.specs.declared.types.Ty.{Ty, Bool as bool_ty, Int as int_ty, Set as set_ty, Seq as seq_ty, Fun as fun_ty}
use Rattle.kernel_trees.specs.declared.kernel.Ker.{Ker, out-Ker, roll-out-Ker}
use Rattle.kernel_trees.specs.declared.kernel.Ker.TheFolds.{fold-roll-Ker}
use Rattle.kernel_trees.specs.declared.kernel.KerOp.{KerOp}
use Rattle.kernel_trees.specs.declared.kernel.KerOp.TheVariants as ker
use Rattle.kernel_trees.specs.Sound.{kind_at}
use Rattle.kernel_trees.specs.TypeKinds.{Kind, Set, Seq, Fun, kind_of}
use Rattle.kernel_trees.proofs.TypeLaws.{kind-Bool, kind-Int, kind-Set, kind-Seq, kind-Fun}
use Rattle.expr_rewriter.specs.Rewriting.{constant_texts, node_texts, own_texts, texts_in, type_texts}

-- ---- types

abbrev pub IsPlain : Ty → Type 0
IsPlain t = type_texts (kind_of t) ≡ []

pub plain-bool : (t : Ty) → t ≡ bool_ty → IsPlain t
plain-bool t e = ap (λ u. type_texts (kind_of u)) e ∙ ap type_texts kind-Bool

pub plain-int : (t : Ty) → t ≡ int_ty → IsPlain t
plain-int t e = ap (λ u. type_texts (kind_of u)) e ∙ ap type_texts kind-Int

set-texts : (o : Option Kind) → type_texts (option_map Set o) ≡ type_texts o
set-texts None = refl
set-texts (Some k) = refl

seq-texts : (o : Option Kind) → type_texts (option_map Seq o) ≡ type_texts o
seq-texts None = refl
seq-texts (Some k) = refl

fun-texts : (o p : Option Kind) → type_texts o ≡ [] → type_texts p ≡ [] →
    type_texts (option_and_then (λ x. option_map (λ y. Fun x y) p) o) ≡ []
fun-texts None p h g = refl
fun-texts (Some k) None h g = refl
fun-texts (Some k) (Some j) h g = ap₂ (λ x y. x ++ y) h g

pub plain-set : (t a : Ty) → t ≡ set_ty a → IsPlain a → IsPlain t
plain-set t a e h = ap (λ u. type_texts (kind_of u)) e ∙ ap type_texts (kind-Set a) ∙ set-texts (kind_of a) ∙ h

pub plain-seq : (t a : Ty) → t ≡ seq_ty a → IsPlain a → IsPlain t
plain-seq t a e h = ap (λ u. type_texts (kind_of u)) e ∙ ap type_texts (kind-Seq a) ∙ seq-texts (kind_of a) ∙ h

pub plain-fun : (t a b : Ty) → t ≡ fun_ty a b → IsPlain a → IsPlain b → IsPlain t
plain-fun t a b e h g =
    ap (λ u. type_texts (kind_of u)) e ∙ ap type_texts (kind-Fun a b) ∙ fun-texts (kind_of a) (kind_of b) h g

-- ---- operators

pub bool-text : (o : KerOp) (v : Bool) → o ≡ ker.Const (value.Bool v) → own_texts o ≡ []
bool-text o v e = ap own_texts e ∙ ap constant_texts (value.outs-Bool v)

pub int-text : (o : KerOp) (v : ℤ) → o ≡ ker.Const (value.Int v) → own_texts o ≡ []
int-text o v e = ap own_texts e ∙ ap constant_texts (value.outs-Int v)

-- ---- trees

abbrev pub IsTextless : Ker → Type 0
IsTextless k = texts_in k ≡ []

texts-out : (k : Ker) →
    texts_in k ≡ own_texts (out-Ker k).op ++
    (type_texts (kind_at k) ++ flat_map (λ xs. xs) (map texts_in (out-Ker k).args))
unfolding texts_in
texts-out k = ap texts_in (sym (roll-out-Ker k)) ∙ fold-roll-Ker (List (List ℕ)) node_texts (out-Ker k)

front : (xs ys : List (List ℕ)) → xs ++ ys ≡ [] → xs ≡ []
front [] ys e = refl
front (x ∷ xs) ys e = absurd (cc)

behind : (xs ys : List (List ℕ)) → xs ++ ys ≡ [] → ys ≡ []
behind [] ys e = e
behind (x ∷ xs) ys e = absurd (cc)

abbrev pub AreTextless : List Ker → Type 0
AreTextless ks = flat_map (λ xs. xs) (map texts_in ks) ≡ []

pub textless : (k : Ker) → own_texts (out-Ker k).op ≡ [] → type_texts (kind_at k) ≡ [] →
    AreTextless (out-Ker k).args → IsTextless k
textless k e f g = texts-out k ∙ ap₂ (λ x y. x ++ y) e (ap₂ (λ x y. x ++ y) f g)

push-textless : (ks : List Ker) (k : Ker) → AreTextless ks → IsTextless k → AreTextless (ks ++ k ∷ [])
push-textless [] k h g = ap (λ x. x ++ []) g
push-textless (j ∷ ks) k h g =
    ap₂ (λ x y. x ++ y) (front (texts_in j) (flat_map (λ xs. xs) (map texts_in ks)) h)
    (push-textless ks k (behind (texts_in j) (flat_map (λ xs. xs) (map texts_in ks)) h) g)

pub textless-more : (ks : List Ker) (i : ℕ) (k : Ker) → i < length ks → k ≡ get_or ks i k → AreTextless (take i ks) →
    IsTextless k → AreTextless (take (i + 1) ks)
textless-more ks i k lt e h g =
    subst AreTextless (ap (λ z. take i ks ++ z ∷ []) e ∙ sym (take_more ks i k lt)) (push-textless (take i ks) k h g)

pub textless-all : (ks : List Ker) (i : ℕ) → length ks ≤ i → AreTextless (take i ks) → AreTextless ks
textless-all ks i le h = subst AreTextless (take_all i ks le) h
