-- Where a module begins.
use Rattle.std.proofs.Common.{◌≡◌, ℕ, zero, suc, ◌+◌, ◌-◌, ◌<◌, ◌≤◌, Bool, true, false, List, [], ◌∷◌, ◌++◌, length, take, drop, refl, sym, ◌∙◌, ap, subst, arith, inl, inr, ⊎_elim, max}
use Rattle.std.specs.Prelude.{◌&&◌, ◌⊎◌, nat_le}
use Rattle.std.specs.List.{list_all}
use Rattle.std.proofs.lemmas.Bool.{and_parts, and_left, and_right, and_from, cond-true, cond-false, le-leb, lt-leb, cases_lt}
use Rattle.std.proofs.lemmas.List.{take-append-drop, length-drop, length-take-le, drop-drop, drop_at}
use Rattle.tla_lexer.specs.Classes.{is_dash, is_blank, StopsAt, BeginsWith}
use Rattle.tla_lexer.specs.Header.{behind_run, says_module, begins_header, IsModuleIn}

-- ---- runs

behind_passes : (p : ℕ → Bool) (run behind : List ℕ) → list_all p run ≡ true → StopsAt p behind → behind_run p (run ++ behind) ≡ behind
behind_passes p [] [] pass stops = refl
behind_passes p [] (b ∷ behind) pass stops = cond-false (p b) (behind_run p behind) (b ∷ behind) stops
behind_passes p (b ∷ run) behind pass stops =
    let parts = and_parts (p b) (list_all p run) pass in
    cond-true (p b) (behind_run p (run ++ behind)) (b ∷ (run ++ behind)) parts.0 ∙ behind_passes p run behind parts.1 stops

behind_run_is : (p : ℕ → Bool) (text : List ℕ) (n : ℕ) → BeginsWith p text n → behind_run p text ≡ drop n text
behind_run_is p text n run = ap (behind_run p) (sym (take-append-drop n text)) ∙ behind_passes p (take n text) (drop n text) run.pass run.stops

-- the rest of a run is a run
run_rest : (p : ℕ → Bool) (text : List ℕ) (n k : ℕ) → BeginsWith p text n → k ≤ n → BeginsWith p (drop k text) (n - k)
run_rest p text n zero run le = subst (BeginsWith p text) (omega arith) run
run_rest p [] n (suc k) run le = absurd (omega (arith, run.within))
run_rest p (b ∷ text) zero (suc k) run le = absurd (omega arith)
run_rest p (b ∷ text) (suc n) (suc k) run le =
    let less : BeginsWith p text n = record { within = omega (arith, run.within); pass = (and_parts (p b) (list_all p (take n text)) run.pass).1; stops = run.stops } in
    subst (BeginsWith p (drop k text)) (omega arith) (run_rest p text n k less (omega arith))

-- ---- headers

header_at : (text : List ℕ) (n : ℕ) → BeginsWith is_dash text n → begins_header text ≡ (nat_le 4 n && says_module (behind_run is_blank (drop n text)))
header_at text n run =
    let behind = behind_run_is is_dash text n run in
    let size : length text - length (behind_run is_dash text) ≡ n = omega (arith, ap length behind, length-drop n text, run.within) in
    ap (λ m. nat_le 4 m && says_module (behind_run is_blank (behind_run is_dash text))) size
    ∙ ap (λ t. nat_le 4 n && says_module (behind_run is_blank t)) behind

-- no header begins before the byte of this index
abbrev pub NoneBefore : List ℕ → ℕ → Type 0
NoneBefore file at = (front rest : List ℕ) → file ≡ front ++ rest → length front < at → begins_header rest ≡ false

-- where the dashes here begin no header, none of them does
none_in_run : (text : List ℕ) (n k : ℕ) → BeginsWith is_dash text n → k ≤ n → (4 ≤ n → says_module (behind_run is_blank (drop n text)) ≡ false) → k < n ⊎ (n ≡ 0) → begins_header (drop k text) ≡ false
none_in_run text n k run le none some =
    header_at (drop k text) (n - k) (run_rest is_dash text n k run le)
    ∙ ⊎_elim
    (λ few. and_left (nat_le 4 (n - k)) _ (lt-leb 4 (n - k) (omega (arith, few))))
    (λ many. and_right (nat_le 4 (n - k)) _ (ap (λ t. says_module (behind_run is_blank t)) (drop-drop (n - k) k text ∙ ap (λ m. drop m text) (omega arith)) ∙ none many))
    (cases_lt n 4)

pub none_before_on : (file : List ℕ) (at n next : ℕ) → NoneBefore file at → at ≤ length file → BeginsWith is_dash (drop at file) n
    → (4 ≤ n → says_module (behind_run is_blank (drop n (drop at file))) ≡ false) → next ≤ at + max n 1 → NoneBefore file next
none_before_on file at n next before within run none small front rest e lt =
    ⊎_elim
    (λ earlier. before front rest e earlier)
    (λ here.
    let k = length front - at in
    let rest_is : rest ≡ drop (length front) file = sym (ap (drop (length front)) e ∙ drop_at front rest (length front) refl) in
    let same : drop (length front) file ≡ drop k (drop at file) =
    ap (λ m. drop m file) (let sum : length front ≡ at + k = omega arith in sum) ∙ sym (drop-drop k at file) in
    ap begins_header (rest_is ∙ same) ∙ at_most k (omega arith))
    (cases_lt (length front) at)
  where
    at_most : (k : ℕ) → k < max n 1 → begins_header (drop k (drop at file)) ≡ false
    at_most k le =
        ⊎_elim
        (λ zero_run. none_in_run (drop at file) n k run (omega arith) none (inr zero_run))
        (λ in_run. none_in_run (drop at file) n k run (omega arith) none (inl (omega arith)))
        (cases_zero n)
      where
        cases_zero : (m : ℕ) → (m ≡ 0) ⊎ (0 < m)
        cases_zero zero = inl refl
        cases_zero (suc m) = inr (omega arith)

pub found_at : (file : List ℕ) (at n : ℕ) → NoneBefore file at → at ≤ length file → BeginsWith is_dash (drop at file) n → 4 ≤ n
    → says_module (behind_run is_blank (drop n (drop at file))) ≡ true → IsModuleIn file (take at file) (drop at file)
found_at file at n before within run many says = record {
  whole = sym (take-append-drop at file);
  begins = header_at (drop at file) n run ∙ and_from (nat_le 4 n) _ (le-leb 4 n many) says;
  first = λ front rest e lt. before front rest e (omega (arith, length-take-le at file within));
}

-- a word behind blanks
pub says_behind : (rest : List ℕ) (n : ℕ) (b : Bool) → BeginsWith is_blank rest n → b ≡ says_module (drop n rest) → b ≡ says_module (behind_run is_blank rest)
says_behind rest n b run e = e ∙ ap says_module (sym (behind_run_is is_blank rest n run))
