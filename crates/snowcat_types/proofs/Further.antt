-- What a call leaves of a substitution.
use Rattle.std.proofs.Common.{◌≡◌, ◌+◌, [], ◌++◌, ap, sym, ◌∙◌, arith, append_assoc}
use Rattle.std.proofs.lemmas.List.{append-nil}
use Rattle.snowcat_rows.specs.declared.substitution.Subst.{Subst}
use Rattle.snowcat_rows.specs.Views.{issued_of, kept_by}
use Rattle.snowcat_types.specs.inner.Solved.{IsFurther}

pub further_same : (s : Subst) → IsFurther s s
further_same s = record { more = omega arith; begins = ([], sym (append-nil (kept_by s))) }

-- one variable more is issued
pub further_fresh : (s t : Subst) → issued_of t ≡ issued_of s + 1 → kept_by t ≡ kept_by s → IsFurther s t
further_fresh s t e h = record { more = omega (arith, e); begins = ([], h ∙ sym (append-nil (kept_by s))) }

pub further_then : (s t u : Subst) → IsFurther s t → IsFurther t u → IsFurther s u
further_then s t u h k = record {
  more = let a = h.more in let b = k.more in omega (arith, a, b);
  begins = (h.begins.0 ++ k.begins.0, k.begins.1 ∙ ap (λ z. z ++ k.begins.0) h.begins.1 ∙ append_assoc (kept_by s) h.begins.0 k.begins.0);
}
