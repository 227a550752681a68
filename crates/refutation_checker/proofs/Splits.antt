-- Texts that are cut at a byte, and lists that are cut at a place.
use Rattle.std.proofs.Common.{◌≡◌, ℕ, zero, suc, get_or, take, drop, ◌+◌, ◌<◌, List, [], ◌∷◌, ◌++◌, length, map, refl, sym, ◌∙◌, ap, arith, append_assoc}
use Rattle.std.proofs.lemmas.List.{take-append-drop, drop_more}
use Rattle.std.specs.List.{AllByRecursion}
use Rattle.refutation_checker.specs.Certificate.{text_of_lines}
use Rattle.refutation_checker.specs.inner.Reading.{Lacks}

-- a text is cut at its first separator in one way
pub cut_same : (b : ℕ) (xs ys ss ts : List ℕ) → Lacks b xs → Lacks b ys → xs ++ b ∷ ss ≡ ys ++ b ∷ ts → (xs ≡ ys) × (ss ≡ ts)
cut_same b [] [] ss ts l m e = (refl, cc)
cut_same b [] (y ∷ ys) ss ts l m e = absurd (m.0 cc)
cut_same b (x ∷ xs) [] ss ts l m e = absurd (l.0 cc)
cut_same b (x ∷ xs) (y ∷ ys) ss ts l m e =
    let rest : (xs ≡ ys) × (ss ≡ ts) = cut_same b xs ys ss ts l.1 m.1 (cc) in
    let same : xs ≡ ys = rest.0 in
    (cc, rest.1)

-- and not at all where it has none
pub cut_none : (b : ℕ) (xs ys ss : List ℕ) → Lacks b ys → ys ≡ xs ++ b ∷ ss → ⊥
cut_none b [] [] ss l e = cc
cut_none b [] (y ∷ ys) ss l e = l.0 (cc)
cut_none b (x ∷ xs) [] ss l e = cc
cut_none b (x ∷ xs) (y ∷ ys) ss l e = cut_none b xs ys ss l.1 (cc)

pub Lacks-append : (b : ℕ) (xs ys : List ℕ) → Lacks b xs → Lacks b ys → Lacks b (xs ++ ys)
Lacks-append b [] ys l m = m
Lacks-append b (x ∷ xs) ys l m = (l.0, Lacks-append b xs ys l.1 m)

-- two lists with equally long fronts
pub same_fronts : {X : Type 0} (xs ys ss ts : List X) → length xs ≡ length ys → xs ++ ss ≡ ys ++ ts → (xs ≡ ys) × (ss ≡ ts)
same_fronts [] [] ss ts n e = (refl, e)
same_fronts [] (y ∷ ys) ss ts n e = absurd (omega arith)
same_fronts (x ∷ xs) [] ss ts n e = absurd (omega arith)
same_fronts (x ∷ xs) (y ∷ ys) ss ts n e =
    let rest : (xs ≡ ys) × (ss ≡ ts) = same_fronts xs ys ss ts (omega arith) (cc) in
    let same : xs ≡ ys = rest.0 in
    (cc, rest.1)

-- what a text of lines begins with, line by line
pub lines_front : (before lines : List (List ℕ)) (after : List ℕ) → AllByRecursion (Lacks 10) before → AllByRecursion (Lacks 10) lines → text_of_lines before ++ after ≡ text_of_lines lines → (more : List (List ℕ)) × ((lines ≡ before ++ more) × (after ≡ text_of_lines more))
lines_front [] lines after l m e = (lines, (refl, e))
lines_front (x ∷ xs) [] after l m e =
    absurd (cut_none 10 x [] (text_of_lines xs ++ after) tt (sym e ∙ simp append_assoc))
lines_front (x ∷ xs) (y ∷ ys) after l m e =
    let cut : (x ≡ y) × (text_of_lines xs ++ after ≡ text_of_lines ys) = cut_same 10 x y _ _ l.0 m.0 (simp append_assoc at e) in
    let rest : (more : List (List ℕ)) × ((ys ≡ xs ++ more) × (after ≡ text_of_lines more)) = lines_front xs ys after l.1 m.1 cut.1 in
    let first : x ≡ y = cut.0 in
    let others : ys ≡ xs ++ rest.0 = rest.1.0 in
    (rest.0, (cc, rest.1.1))

-- a text of lines is spelled by one list of lines
pub lines_same : (xs ys : List (List ℕ)) → AllByRecursion (Lacks 10) xs → AllByRecursion (Lacks 10) ys → text_of_lines xs ≡ text_of_lines ys → xs ≡ ys
lines_same [] [] l m e = refl
lines_same [] (y ∷ ys) l m e = absurd (cut_none 10 y [] (text_of_lines ys) tt (e ∙ simp append_assoc))
lines_same (x ∷ xs) [] l m e = absurd (cut_none 10 x [] (text_of_lines xs) tt (sym e ∙ simp append_assoc))
lines_same (x ∷ xs) (y ∷ ys) l m e =
    let cut : (x ≡ y) × (text_of_lines xs ≡ text_of_lines ys) = cut_same 10 x y _ _ l.0 m.0 (simp append_assoc at e) in
    let first : x ≡ y = cut.0 in
    let others : xs ≡ ys = lines_same xs ys l.1 m.1 cut.1 in
    cc

-- the line after as many lines as there are of `ys`, where there are more of `xs`, is the line of one of them
pub next_of_map : {X : Type 0} (P : X → Type 0) (f : X → List ℕ) (xs ys : List X) (line : List ℕ) (ss ts : List (List ℕ)) → AllByRecursion P xs → length ys < length xs → map f xs ++ ss ≡ map f ys ++ line ∷ ts → (x : X) × (P x × (line ≡ f x))
next_of_map P f [] ys line ss ts a n e = absurd (omega arith)
next_of_map P f (x ∷ xs) [] line ss ts a n e = (x, (a.0, cc))
next_of_map P f (x ∷ xs) (y ∷ ys) line ss ts a n e = next_of_map P f xs ys line ss ts a.1 (omega arith) (cc)

-- from places to the whole text
pub Lacks_all : (b : ℕ) (xs : List ℕ) → ((k : ℕ) → k < length xs → get_or xs k 0 ≡ b → ⊥) → Lacks b xs
Lacks_all b [] h = tt
Lacks_all b (x ∷ xs) h = (h 0 (omega arith), Lacks_all b xs (λ k lt. h (suc k) (omega arith)))

pub Lacks_take : (b n : ℕ) (xs : List ℕ) → ((k : ℕ) → k < n → get_or xs k 0 ≡ b → ⊥) → Lacks b (take n xs)
Lacks_take b zero xs h = tt
Lacks_take b (suc n) [] h = tt
Lacks_take b (suc n) (x ∷ xs) h = (h 0 (omega arith), Lacks_take b n xs (λ k lt. h (suc k) (omega arith)))

-- a text is what stands before a place, at it and behind it
pub cut_at : (xs : List ℕ) (i b : ℕ) → i < length xs → get_or xs i 0 ≡ b → xs ≡ take i xs ++ b ∷ drop (i + 1) xs
cut_at xs i b lt e = sym (take-append-drop i xs) ∙ ap (λ t. take i xs ++ t) (drop_more xs i 0 lt ∙ ap (λ x. x ∷ drop (i + 1) xs) e)
