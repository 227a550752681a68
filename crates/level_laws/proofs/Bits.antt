-- Truth values.
use Rattle.std.proofs.Common.{◌≡◌, ◌⊎◌, inl, inr, Bool, true, false, refl, ◌∙◌, ap, if◌then◌else◌}

pub both_true : (b c : Bool) → b ≡ true → c ≡ true → (if b then c else false) ≡ true
both_true b c p q = ap (λ (d : Bool). if d then c else false) p ∙ q

pub first_true : (b c : Bool) → (if b then c else false) ≡ true → b ≡ true
first_true true c e = refl
first_true false c e = e

pub second_true : (b c : Bool) → (if b then c else false) ≡ true → c ≡ true
second_true true c e = e
second_true false true e = refl
second_true false false e = e

pub some_true : (b c : Bool) → (if b then true else c) ≡ true → (b ≡ true) ⊎ (c ≡ true)
some_true true c e = inl refl
some_true false c e = inr e

pub left_true : (b c : Bool) → b ≡ true → (if b then true else c) ≡ true
left_true b c e = ap (λ (d : Bool). if d then true else c) e

pub right_true : (b c : Bool) → c ≡ true → (if b then true else c) ≡ true
right_true true c e = refl
right_true false c e = e

pub if_true : {A : Type 0} (b : Bool) (x y : A) → b ≡ true → (if b then x else y) ≡ x
if_true b x y e = ap (λ (c : Bool). if c then x else y) e

pub if_false : {A : Type 0} (b : Bool) (x y : A) → b ≡ false → (if b then x else y) ≡ y
if_false b x y e = ap (λ (c : Bool). if c then x else y) e
