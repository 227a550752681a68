-- How long lists of operands, of numbers and of kinds are, and the like.
use Rattle.std.proofs.Common.{◌≡◌, ℕ, zero, suc, ◌+◌, Bool, true, false, List, [], ◌∷◌, ◌++◌, map, take, drop, length, refl, ap, subst, arith}
use Rattle.tla_meaning.specs.declared.op.Op.TheVariants as op
use Rattle.tla_meaning.proofs.Views.{and_right, false≢true}
use Rattle.snowcat_rows.specs.Types.{Term}
use Rattle.snowcat_types.specs.TypeForms.{bool_type}
use Rattle.snowcat_types.specs.Rows.{Operand, from_type, sets_of, plain as plain_operand}
use Rattle.kernel_trees.specs.TypeKinds.{Kind}
use Rattle.kernel_trees.specs.Sound.{form_child as sound_child}
use Rattle.kernel_trees.specs.declared.kernel.KerOp.TheVariants as ker
use Rattle.kernel_reduction.specs.Infinite.{form_child}
use Rattle.kernel_reduction.specs.Reduction.{Numbering, all_fresh}
use Rattle.kernel_reduction.proofs.KindsOf.{Of, AreOf, no_more, and_of}
use Rattle.kernel_reduction.proofs.SameRows.{types_of}
use Rattle.kernel_reduction.proofs.BuiltParts.{is_none, less}

pub cons_first : {X : Type 0} {x y : X} {xs ys : List X} → x ∷ xs ≡ y ∷ ys → x ≡ y
cons_first e = cc

pub cons_rest : {X : Type 0} {x y : X} {xs ys : List X} → x ∷ xs ≡ y ∷ ys → xs ≡ ys
cons_rest e = cc

pub none_long : (n : ℕ) → 0 ≡ suc n → ⊥
none_long n e = omega (arith, e)

pub some_long : (n : ℕ) → suc n ≡ 0 → ⊥
some_long n e = omega (arith, e)

pub is_nothing : {X : Type 0} (xs : List X) → is_none xs ≡ true → xs ≡ []
is_nothing [] h = refl
is_nothing (x ∷ xs) h = absurd (false≢true h)

pub member_forms : (n : ℕ) (b : Bool) → form_child op.NotIn n b ≡ sound_child ker.Member n false
member_forms zero b = refl
member_forms (suc zero) b = refl
member_forms (suc (suc n)) b = refl

pub bool_of : (x : Term) (a : Kind) → x ≡ bool_type → Of x a → Of bool_type a
bool_of x a e h = subst (λ z. Of z a) e h

-- n and k more
abbrev pub more_than : ℕ → ℕ → ℕ
more_than zero k = k
more_than (suc n) k = suc (more_than n k)

pub take_long : {X : Type 0} (n k : ℕ) (xs : List X) → more_than n k ≡ length xs → n ≡ length (take n xs)
take_long zero k xs h = refl
take_long (suc n) k [] h = absurd (some_long (more_than n k) h)
take_long (suc n) k (x ∷ xs) h = ap suc (take_long n k xs (less (more_than n k) (length xs) h))

pub drop_long : {X : Type 0} (n k : ℕ) (xs : List X) → more_than n k ≡ length xs → k ≡ length (drop n xs)
drop_long zero k xs h = h
drop_long (suc n) k [] h = absurd (some_long (more_than n k) h)
drop_long (suc n) k (x ∷ xs) h = drop_long n k xs (less (more_than n k) (length xs) h)

pub sets_long : (s : ℕ → Term) (i n : ℕ) → length (map plain_operand (sets_of (from_type s i n))) ≡ n
sets_long s i zero = refl
sets_long s i (suc n) = ap suc (sets_long s (i + 1) n)

pub from_long : (s : ℕ → Term) (i n : ℕ) → length (from_type s i n) ≡ n
from_long s i zero = refl
from_long s i (suc n) = ap suc (from_long s (i + 1) n)

pub joined_long : (os : List Operand) (o : Operand) → length (os ++ o ∷ []) ≡ more_than (length os) 1
joined_long [] o = refl
joined_long (p ∷ os) o = ap suc (joined_long os o)

pub fresh_long : (xs : List (List ℕ)) (ns : List ℕ) (ρ : Numbering) → all_fresh xs ns ρ ≡ true → length ns ≡ length xs
fresh_long [] [] ρ h = refl
fresh_long [] (n ∷ ns) ρ h = absurd (false≢true h)
fresh_long (x ∷ xs) [] ρ h = absurd (false≢true h)
fresh_long (x ∷ xs) (n ∷ ns) ρ h = ap suc (fresh_long xs ns (ρ ++ (x, n) ∷ []) (and_right _ _ h))

pub are_long : (xs : List Term) (as' : List Kind) → AreOf xs as' → length as' ≡ length xs
are_long _ _ no_more = refl
are_long _ _ (and_of x a xs as' h g) = ap suc (are_long xs as' g)

pub types_long : (os : List Operand) → length (types_of os) ≡ length os
types_long [] = refl
types_long (o ∷ os) = ap suc (types_long os)
