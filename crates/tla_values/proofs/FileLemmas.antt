-- The names of files, by the last slash and the last ending.
use Rattle.std.proofs.Common.{◌≡◌, ℕ, zero, suc, ◌+◌, ◌-◌, ◌<◌, ◌≤◌, Bool, true, false, List, [], ◌∷◌, ◌++◌, length, take, drop, get_or, Option, Some, None, refl, sym, ◌∙◌, ap, subst, arith, length-append, codes}
use Rattle.std.specs.Prelude.{◌||◌, if◌then◌else◌, bytes_eq, MatchOption}
use Rattle.std.specs.Bool.{Decides}
use Rattle.std.specs.List.{list_any}
use Rattle.std.proofs.lemmas.List.{take_all, length-drop}
use Rattle.std.proofs.lemmas.Bool.{or_right, eq-eqb}
use Rattle.std.proofs.lemmas.Slice.Eq.{bytes_eq-Decides}
use Rattle.tla_values.specs.FileNames.{is_slash, without_ending, without_folder}

no_folder : (xs : List ℕ) → list_any is_slash xs ≡ false → without_folder xs ≡ xs
no_folder [] none = refl
no_folder (b ∷ bs) none = ap (λ (t : Bool). if t then without_folder bs else b ∷ bs) none

slash_inside : (xs : List ℕ) (at : ℕ) → at < length xs → is_slash (get_or xs at 0) ≡ true → list_any is_slash xs ≡ true
slash_inside [] at lt h = absurd (omega arith)
slash_inside (b ∷ bs) zero lt h = ap (λ (t : Bool). t || list_any is_slash bs) h
slash_inside (b ∷ bs) (suc at) lt h = or_right (is_slash b) (list_any is_slash bs) (slash_inside bs at (omega arith) h)

folder_at : (xs : List ℕ) (at : ℕ) → at < length xs → is_slash (get_or xs at 0) ≡ true → list_any is_slash (drop (suc at) xs) ≡ false → without_folder xs ≡ drop (suc at) xs
folder_at [] at lt here none = absurd (omega arith)
folder_at (b ∷ bs) zero lt here none =
    ap (λ (t : Bool). if t then without_folder bs else b ∷ bs) (slash_inside (b ∷ bs) 0 lt here) ∙ no_folder bs none
folder_at (b ∷ bs) (suc at) lt here none =
    ap (λ (t : Bool). if t then without_folder bs else b ∷ bs) (slash_inside (b ∷ bs) (suc at) lt here) ∙ folder_at bs at (omega arith) here none

-- the bytes behind the last slash
pub behind_slash : (xs : List ℕ) (at : ℕ) → 0 < at → at ≤ length xs → get_or xs (at - 1) 0 ≡ 47 → list_any is_slash (drop at xs) ≡ false
    → take (length xs - ((at - 1) + 1)) (drop ((at - 1) + 1) xs) ≡ without_folder xs
behind_slash xs at some le here none =
    let same : (at - 1) + 1 ≡ at = omega arith in
    let next : suc (at - 1) ≡ at = omega arith in
    let all : length (drop at xs) ≤ length xs - at = omega (arith, length-drop at xs) in
    let none_behind : list_any is_slash (drop (suc (at - 1)) xs) ≡ false = subst (λ (n : ℕ). list_any is_slash (drop n xs) ≡ false) (sym next) none in
    ap (λ (n : ℕ). take (length xs - n) (drop n xs)) same ∙ take_all (length xs - at) (drop at xs) all
    ∙ ap (λ (n : ℕ). drop n xs) (sym next) ∙ sym (folder_at xs (at - 1) (omega arith) (eq-eqb (get_or xs (at - 1) 0) 47 here) none_behind)

pub no_slash : (xs : List ℕ) (at : ℕ) → at ≤ 0 → list_any is_slash (drop at xs) ≡ false → xs ≡ without_folder xs
no_slash xs at none all =
    let same : at ≡ 0 = omega arith in
    sym (no_folder xs (subst (λ (n : ℕ). list_any is_slash (drop n xs) ≡ false) same all))

-- ---- the ending

-- a test of texts that are equal, and of such that are not
abbrev cut : Bool → ℕ → List ℕ → List ℕ
cut t b bs = if t then [] else b ∷ bs

refuted : {A : Type 0} (b : Bool) → Decides b A → (A → ⊥) → b ≡ false
refuted true d h = absurd (h (d.0 refl))
refuted false d h = refl

longer : (xs : List ℕ) (b : ℕ) → bytes_eq (b ∷ xs ++ codes ".tla") (codes ".tla") ≡ false
longer xs b = refuted (bytes_eq (b ∷ xs ++ codes ".tla") (codes ".tla")) (bytes_eq-Decides (b ∷ xs ++ codes ".tla") (codes ".tla"))
    (λ e. omega (arith, ap length e, length-append xs (codes ".tla")))

pub ending_there : (stem : List ℕ) → without_ending (stem ++ codes ".tla") ≡ stem
ending_there [] = refl
ending_there (b ∷ bs) = ap (λ t. cut t b (without_ending (bs ++ codes ".tla"))) (longer bs b) ∙ ap (λ xs. b ∷ xs) (ending_there bs)

pub no_ending : (name : List ℕ) → ((front : List ℕ) → name ≡ front ++ codes ".tla" → ⊥) → name ≡ without_ending name
no_ending [] h = refl
no_ending (b ∷ bs) h =
    ap (λ xs. b ∷ xs) (no_ending bs (λ front e. h (b ∷ front) (ap (λ xs. b ∷ xs) e)))
    ∙ sym (ap (λ t. cut t b (without_ending bs)) (refuted (bytes_eq (b ∷ bs) (codes ".tla")) (bytes_eq-Decides (b ∷ bs) (codes ".tla")) (h [])))

-- ---- what an option says where its variant is known

pub some_case : {X : Type 0} (o : Option X) (x : X) (A : Type 0) (P : X → Type 0) → MatchOption o A P → o ≡ Some x → P x
some_case {X = X} o x A P h e = subst (λ (q : Option X). MatchOption q A P) e h

pub none_case : {X : Type 0} (o : Option X) (A : Type 0) (P : X → Type 0) → MatchOption o A P → o ≡ None → A
none_case {X = X} o A P h e = subst (λ (q : Option X). MatchOption q A P) e h
