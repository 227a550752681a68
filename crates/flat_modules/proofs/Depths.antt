-- What is known at one depth is known at others that fit.
use Rattle.std.proofs.Common.{◌≡◌, ◌∙◌, ◌-◌, ◌≤◌, ℕ, suc, List, [], ◌∷◌, ◌++◌, Bool, true, false, cond, Option, Some, None, refl, ap, sym, subst, arith}
use Rattle.tla_meaning.specs.declared.symbols.Misuse.{Misuse}
use Rattle.tla_meaning.specs.Flattening.{Modules, after_module, extended, known_within, nothing_known, standard_or}
use Rattle.tla_meaning.specs.Flattening as flat
use Rattle.tla_meaning.specs.Scopes.{find_last, or_else, same_text}
use Rattle.std.specs.Prelude.{IfSome}
use Rattle.flat_modules.specs.declared.gathering.Reached.{Reached}
use Rattle.flat_modules.specs.declared.knowing.Knowing.{Knowing}
use Rattle.flat_modules.specs.declared.memo.Extended.{Extended}
use Rattle.flat_modules.specs.declared.memo.Kept.{Kept}
use Rattle.flat_modules.specs.declared.memo.Memo.{Memo}
use Rattle.flat_modules.specs.inner.Gathering.{Fits, IsExtended, IsKept, Reaches, Remembers}
use Rattle.flat_modules.specs.inner.Learning.{IsKnown}
use Rattle.flat_modules.proofs.Names.{same_is}

-- ---- depths

pub fits_here : (s : Option ℕ) (d : ℕ) → Fits s d d
fits_here None d = refl
fits_here (Some s) d = omega arith

pub fits_alone : (s : Option ℕ) (d n : ℕ) → n ≡ d → Fits s d n
fits_alone None d n e = e
fits_alone (Some s) d n e = omega arith

pub fits_inside : (s : Option ℕ) (d e n : ℕ) → d ≡ suc e → Fits s d n → Fits (Some e) d n → Fits s e (n - 1)
fits_inside None d e n up f g = omega arith
fits_inside (Some s) d e n up f g = omega arith

pub some_depth : (d e n : ℕ) → d ≡ suc e → Fits (Some e) d n → n ≡ suc (n - 1)
some_depth d e n up f = omega arith

pub at_zero : {o : Option Misuse} {k : Knowing} (ms : Modules) (j : flat.Copy) (d : ℕ) → d ≡ 0 → IsKnown o k nothing_known → Reaches None d (λ n. IsKnown o k (known_within n ms j))
at_zero {o} {k} ms j d zero known n f = subst (λ m. IsKnown o k (known_within m ms j)) (sym (f ∙ zero)) known

-- ---- what is kept

found_last : {X : Type 0} (x y : List ℕ) (v : X) (xs : List (List ℕ × X)) → find_last x (xs ++ (y, v) ∷ []) ≡ or_else (cond (same_text x y) (Some v) None) (find_last x xs)
found_last x y v [] = sym (or_none (cond (same_text x y) (Some v) None))
  where
    or_none : {X : Type 0} (o : Option X) → or_else o None ≡ o
    or_none None = refl
    or_none (Some v) = refl
found_last x y v (z ∷ xs) =
    ap (λ o. or_else o (cond (same_text x z.0) (Some z.1) None)) (found_last x y v xs)
    ∙ assoc (cond (same_text x y) (Some v) None) (find_last x xs) (cond (same_text x z.0) (Some z.1) None)
  where
    assoc : {X : Type 0} (a b c : Option X) → or_else (or_else a b) c ≡ or_else a (or_else b c)
    assoc None b c = refl
    assoc (Some v) b c = refl

-- of the last of a name, either the one behind the others or as before
pub either : {X : Type 0} (P : List ℕ → X → Type 0) (y : List ℕ) (v : X) (xs : List (List ℕ × X)) → P y v → ((x : List ℕ) (w : X) → find_last x xs ≡ Some w → P x w) →
    (x : List ℕ) (w : X) → find_last x (xs ++ (y, v) ∷ []) ≡ Some w → P x w
either {X} P y v xs new old x w h = step (same_text x y) refl (sym (found_last x y v xs) ∙ h)
  where
    some_of : {a b : X} → Some a ≡ Some b → a ≡ b
    some_of g = cc

    step : (b : Bool) → same_text x y ≡ b → or_else (cond b (Some v) None) (find_last x xs) ≡ Some w → P x w
    step true e g = subst (λ z. P z w) (sym (same_is x y e)) (subst (P y) (some_of g) new)
    step false e g = old x w g

pub remembers_more : (ms : Modules) (k : flat.Copy) (old new : Memo) (e : Extended) (x : List ℕ) (d s : ℕ) (kept : Kept) → Remembers ms k old → IsExtended e ms k x d →
    e.spare ≡ Some s → kept.levels ≡ d - s → kept.knowing ≡ e.knowing → new.kept.items ≡ old.kept.items ++ (x, kept) ∷ [] → Remembers ms k new
remembers_more ms k old new e x d s kept remembers inside spare levels same more y f h =
    either (λ y (f : Kept). (n : ℕ) → f.levels ≤ n → IsKnown None f.knowing (known_within n ms (extended k y))) x kept old.kept.items
    (λ n le. subst (λ w. IsKnown None w (known_within n ms (extended k x))) (sym same)
    (inside n (subst (λ o. Fits o d n) (sym spare) (omega arith))))
    remembers y f (ap (find_last y) (sym more) ∙ h)

pub found_kept : (ms : Modules) (k : flat.Copy) (memo : Memo) (x : List ℕ) (d : ℕ) (kept : Kept) (e : Extended) → Remembers ms k memo → Some kept ≡ find_last x memo.kept.items → IsKept kept d e →
    IsExtended e ms k x d
found_kept ms k memo x d kept e remembers found is n f =
    subst (λ w. IsKnown None w (known_within n ms (extended k x))) (sym is.0) (remembers x kept (sym found) n (is.1 n f))

pub as_extended : (ms : Modules) (k j : flat.Copy) (x : List ℕ) (d : ℕ) (r : Reached) (e : Extended) → j ≡ extended k x → (e.knowing ≡ r.knowing) × (e.spare ≡ r.spare) →
    Reaches r.spare d (λ n. IsKnown None r.knowing (known_within n ms j)) → IsExtended e ms k x d
as_extended ms k j x d r e copy same known n f =
    subst (λ w. IsKnown None w (known_within n ms (extended k x))) (sym same.0)
    (subst (λ c. IsKnown None r.knowing (known_within n ms c)) copy (known n (subst (λ s. Fits s d n) same.1 f)))

pub if_some : {X : Type 0} (P : X → Type 0) (o : Option X) (x : X) → o ≡ Some x → IfSome o P → P x
if_some P o x e h = subst (λ o. IfSome o P) e h
