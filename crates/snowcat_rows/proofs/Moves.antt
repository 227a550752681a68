-- Types with greater numbers, and what has a number.
use Rattle.std.proofs.Common.{◌≡◌, ℕ, zero, suc, ◌+◌, ◌<◌, ◌≤◌, inl, inr, List, [], ◌∷◌, ◌++◌, map, length, get_or, refl, ap, sym, ◌∙◌, Option, append_assoc, arith}
use Rattle.std.specs.Prelude.{bytes_eq, option_map}
use Rattle.std.proofs.lemmas.Bool.{cases_Bool}
use Rattle.snowcat_rows.specs.declared.marks.Seen.{Seen}
use Rattle.snowcat_rows.specs.declared.marks.Seen.TheVariants as seen
use Rattle.snowcat_rows.specs.declared.types.Ty.{Ty, Rec}
use Rattle.snowcat_rows.specs.Types.{Term, app, fields, lookup, row, mean}
use Rattle.snowcat_rows.specs.Codes.{named}
use Rattle.snowcat_rows.specs.inner.Readers.{moved_fields}
use Rattle.snowcat_rows.specs.Readings.{moved, moved_slot, number, noted, same_seen, own, zipped}
use Rattle.snowcat_rows.proofs.Means.{mean-Rec}

pub all_moved : (n : ℕ) (rs ts : List Ty) → map mean rs ≡ map (λ u. moved n (mean u)) ts → row (map mean rs) ≡ moved n (row (map mean ts))
all_moved n rs ts e = ap row e ∙ each ts
  where
    each : (ts : List Ty) → row (map (λ u. moved n (mean u)) ts) ≡ moved n (row (map mean ts))
    each [] = refl
    each (t ∷ ts) = ap (λ z. app (moved n (mean t)) z) (each ts)

pub moved_lookup : (n : ℕ) (fs : List (List ℕ × Ty)) (x : List ℕ) → lookup (moved_fields n fs) x ≡ moved_slot n (lookup (named fs) x)
moved_lookup n [] x = refl
moved_lookup n (f ∷ fs) x = elim (cases_Bool (bytes_eq f.0 x)) [ inl h ↦ rw h refl | inr h ↦ rw h (moved_lookup n fs x) ]

pub rec_moved : (n : ℕ) (fs gs : List (List ℕ × Ty)) (k j : Option ℕ) (t : Ty) → t ≡ Rec fs k → named gs ≡ moved_fields n fs → j ≡ option_map (λ v. n + v) k →
    mean (Rec gs j) ≡ moved n (mean t)
rec_moved n fs gs k j t e h i =
    mean-Rec gs j ∙ ap (λ z. fields (lookup z) j) h ∙ ap (λ z. fields (lookup (moved_fields n fs)) z) i ∙ (λ d. fields (λ x. moved_lookup n fs x d) (option_map (λ v. n + v) k))
    ∙ sym (ap (λ z. moved n z) (ap mean e ∙ mean-Rec fs k))

-- ---- types with names

zipped_none : (ns : List (List ℕ)) → zipped ns [] ≡ []
zipped_none [] = refl
zipped_none (n ∷ ns) = refl

zipped_more : (ns : List (List ℕ)) (ts : List Term) (t : Term) → length (zipped ns ts) < length ns → zipped ns (ts ++ t ∷ []) ≡ zipped ns ts ++ (get_or ns (length (zipped ns ts)) [], t) ∷ []
zipped_more [] ts t h = absurd (omega (arith, h))
zipped_more (n ∷ ns) [] t h = ap (λ z. (n, t) ∷ z) (zipped_none ns)
zipped_more (n ∷ ns) (u ∷ ts) t h = ap (λ z. (n, u) ∷ z) (zipped_more ns ts t (omega (arith, h)))

zipped_all : (ns : List (List ℕ)) (ts : List Term) (t : Term) → length ns ≤ length (zipped ns ts) → zipped ns (ts ++ t ∷ []) ≡ zipped ns ts
zipped_all [] ts t h = refl
zipped_all (n ∷ ns) [] t h = absurd (omega (arith, h))
zipped_all (n ∷ ns) (u ∷ ts) t h = ap (λ z. (n, u) ∷ z) (zipped_all ns ts t (omega (arith, h)))

mean_snoc : (ts : List Ty) (t : Ty) → map mean (ts ++ t ∷ []) ≡ map mean ts ++ mean t ∷ []
mean_snoc [] t = refl
mean_snoc (u ∷ ts) t = ap (λ z. mean u ∷ z) (mean_snoc ts t)

named_snoc : (fs : List (List ℕ × Ty)) (x : List ℕ) (t : Ty) → named (fs ++ (x, t) ∷ []) ≡ named fs ++ (x, mean t) ∷ []
named_snoc [] x t = refl
named_snoc (f ∷ fs) x t = ap (λ z. (f.0, mean f.1) ∷ z) (named_snoc fs x t)

named_long : (fs : List (List ℕ × Ty)) → length (named fs) ≡ length fs
named_long [] = refl
named_long (f ∷ fs) = let k = named_long fs in omega (arith, k)

any_default : (ns : List (List ℕ)) (i : ℕ) (d e : List ℕ) → i < length ns → get_or ns i d ≡ get_or ns i e
any_default [] i d e h = absurd (omega (arith, h))
any_default (n ∷ ns) zero d e h = refl
any_default (n ∷ ns) (suc i) d e h = any_default ns i d e (omega (arith, h))

pub zipped_push : (ns : List (List ℕ)) (fs gs : List (List ℕ × Ty)) (ts : List Ty) (t : Ty) (x : List ℕ) (i : ℕ) (d : List ℕ) → named fs ≡ zipped ns (map mean ts) → length fs < length ns → i ≡ length fs →
    x ≡ get_or ns i d → gs ≡ fs ++ (x, t) ∷ [] → named gs ≡ zipped ns (map mean (ts ++ t ∷ []))
zipped_push ns fs gs ts t x i d e h k j g =
    let l : length fs ≡ length (zipped ns (map mean ts)) = sym (named_long fs) ∙ ap (λ z. length z) e in
    ap named g ∙ named_snoc fs x t ∙ ap (λ z. z ++ (x, mean t) ∷ []) e ∙ ap (λ z. zipped ns (map mean ts) ++ (z, mean t) ∷ []) (j ∙ ap (λ z. get_or ns z d) k ∙ any_default ns (length fs) d [] h ∙ ap (λ z. get_or ns z []) l)
    ∙ sym (zipped_more ns (map mean ts) (mean t) (omega (arith, l, h))) ∙ ap (λ z. zipped ns z) (sym (mean_snoc ts t))

pub zipped_full : (ns : List (List ℕ)) (fs : List (List ℕ × Ty)) (ts : List Ty) (t : Ty) → named fs ≡ zipped ns (map mean ts) → length ns ≤ length fs → named fs ≡ zipped ns (map mean (ts ++ t ∷ []))
zipped_full ns fs ts t e h =
    let l : length fs ≡ length (zipped ns (map mean ts)) = sym (named_long fs) ∙ ap (λ z. length z) e in
    e ∙ sym (zipped_all ns (map mean ts) (mean t) (omega (arith, l, h))) ∙ ap (λ z. zipped ns z) (sym (mean_snoc ts t))

pub zipped_start : (ns : List (List ℕ)) → [] ≡ zipped ns []
zipped_start ns = sym (zipped_none ns)

-- ---- numbers

none_more : (v : Seen) (ws : List Seen) → number v ws ≤ length ws
none_more v [] = omega arith
none_more v (w ∷ ws) = elim (cases_Bool (same_seen w v)) [ inl h ↦ rw h (omega arith) | inr h ↦ rw h (let k = none_more v ws in omega (arith, k)) ]

pub noted_new : (v : Seen) (ws : List Seen) → number v ws ≡ length ws → noted v ws ≡ ws ++ v ∷ []
noted_new v [] e = refl
noted_new v (w ∷ ws) e = elim (cases_Bool (same_seen w v)) [
  | inl h ↦ absurd (let k : number v (w ∷ ws) ≡ 0 = rw h refl in omega (arith, k, e))
  | inr h ↦ rw h (ap (λ z. w ∷ z) (noted_new v ws (let k : number v (w ∷ ws) ≡ suc (number v ws) = rw h refl in omega (arith, k, e))))
]

pub noted_old : (v : Seen) (ws : List Seen) → number v ws < length ws → noted v ws ≡ ws
noted_old v [] e = absurd (omega (arith, e))
noted_old v (w ∷ ws) e = elim (cases_Bool (same_seen w v)) [
  | inl h ↦ rw h refl
  | inr h ↦ rw h (ap (λ z. w ∷ z) (noted_old v ws (let k : number v (w ∷ ws) ≡ suc (number v ws) = rw h refl in omega (arith, k, e))))
]

pub noted_cases : (v : Seen) (ws : List Seen) → (number v ws ≡ length ws → ⊥) → noted v ws ≡ ws
noted_cases v ws h = noted_old v ws (let k = none_more v ws in omega (arith, k, h))

pub own_more : (ws : List Seen) (n : ℕ) → (ws ++ own n) ++ seen.Own ∷ [] ≡ ws ++ own (suc n)
own_more ws n = append_assoc ws (own n) (seen.Own ∷ []) ∙ ap (λ z. ws ++ z) (own_end n)
  where
    own_end : (n : ℕ) → own n ++ seen.Own ∷ [] ≡ own (suc n)
    own_end zero = refl
    own_end (suc n) = ap (λ z. seen.Own ∷ z) (own_end n)

pub own_next : (ws : List Seen) (n : ℕ) → (ws ++ own n) ++ seen.Own ∷ [] ≡ ws ++ own (n + 1)
own_next ws n = let e : suc n ≡ n + 1 = omega arith in own_more ws n ∙ ap (λ z. ws ++ own z) e
