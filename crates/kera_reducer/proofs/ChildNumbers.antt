-- Numbers of children: which are odd, and which names are bound there.
use Rattle.std.proofs.Common.{◌≡◌, ℕ, zero, suc, ◌%◌, Bool, true, false, not, true≢false, List, [], length, refl, sym, ◌∙◌, ap, if◌then◌else◌, arith}
use Rattle.std.specs.Prelude.{nat_eq, nat_le}
use Rattle.tla_meaning.specs.declared.op.Op.{Op}
use Rattle.tla_meaning.specs.declared.op.Op.TheVariants as op
use Rattle.tla_meaning.proofs.Views.{false≢true}
use Rattle.kernel_reduction.specs.inner.Settings.{binds_behind, binds_some, is_odd, names_at}

pub not_not : (b : Bool) → not (not b) ≡ b
not_not true = refl
not_not false = refl

pub odd_is : (n : ℕ) → nat_eq (n % 2) 1 ≡ is_odd n
odd_is zero = refl
odd_is (suc zero) = refl
odd_is (suc (suc n)) =
    let e : suc (suc n) % 2 ≡ n % 2 = omega arith in
    ap (λ z. nat_eq z 1) e ∙ odd_is n ∙ sym (not_not (is_odd n))

-- ---- names

pub names_none : (o : Op) (xs : List (List ℕ)) (n : ℕ) → binds_some o ≡ false → names_at o xs n ≡ []
names_none op.Exists xs n h = absurd (true≢false h)
names_none op.Forall xs n h = absurd (true≢false h)
names_none op.Filter xs n h = absurd (true≢false h)
names_none op.MapTo xs n h = absurd (true≢false h)
names_none op.Lambda xs n h = absurd (true≢false h)
names_none op.Fold xs n h = absurd (true≢false h)
names_none (op.Except counts) xs n h = absurd (true≢false h)
names_none o xs n h = refl

pub names_behind : (o : Op) (xs : List (List ℕ)) (n : ℕ) → binds_behind o ≡ true →
    names_at o xs n ≡ (if nat_le (length xs) n then xs else [])
names_behind op.Exists xs n h = refl
names_behind op.Forall xs n h = refl
names_behind op.Filter xs n h = refl
names_behind op.MapTo xs n h = refl
names_behind op.Lambda xs n h = refl
names_behind o xs n h = absurd (false≢true h)
