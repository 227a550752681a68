use Rattle.std.proofs.Common.{◌≡◌, ℕ, zero, suc, ◌+◌, ◌<◌, ◌≤◌, List, [], ◌∷◌, ◌++◌, length, Option, Some, None, refl, arith, append_assoc, length-append}
use Rattle.std.proofs.lemmas.List.{append-nil}
use Rattle.watched_search.specs.declared.entry.Entry.{Entry}
use Rattle.cdcl_solver.specs.inner.Weight.{cubes, stake, weight}

cubes-positive : (n : ℕ) → 0 < cubes n
unfolding cubes
cubes-positive zero = omega arith
cubes-positive (suc n) = let h = cubes-positive n in omega arith

stake-le : (r : Option ℕ) (n : ℕ) → stake r n ≤ cubes n
unfolding stake
stake-le None n = omega arith
stake-le (Some h) n = omega arith

pub weight-positive : (n : ℕ) (es : List Entry) → 0 < weight n es
unfolding weight
weight-positive zero es = omega arith
weight-positive (suc n) [] = cubes-positive (suc n)
weight-positive (suc n) (e ∷ es) = let h = weight-positive n es in omega arith

weight-nil : (n : ℕ) → weight n [] ≤ cubes n
unfolding weight cubes
weight-nil zero = omega arith
weight-nil (suc n) = omega arith

cubes-suc : (n : ℕ) → cubes (suc n) ≡ cubes n + cubes n + cubes n
unfolding cubes
cubes-suc n = refl

pub weight-push : (n : ℕ) (es : List Entry) (e : Entry) → length es < n → weight n (es ++ e ∷ []) < weight n es
unfolding weight
weight-push zero es e lt = absurd (omega arith)
weight-push (suc n) [] e lt =
    let a = stake-le e.reason n in
    let b = weight-nil n in
    let c = cubes-positive n in
    let d = cubes-suc n in
    omega arith
weight-push (suc n) (x ∷ es) e lt =
    let h = weight-push n es e (omega arith) in
    omega arith

-- more entries weigh no more
pub weight-grown : (n : ℕ) (es more : List Entry) → length (es ++ more) ≤ n → weight n (es ++ more) ≤ weight n es
weight-grown n es [] le = rw (append-nil es) (omega arith)
weight-grown n es (e ∷ more) le =
    let same : (es ++ e ∷ []) ++ more ≡ es ++ e ∷ more = append_assoc es (e ∷ []) more in
    let fits : length ((es ++ e ∷ []) ++ more) ≤ n = rw same le in
    let rest = weight-grown n (es ++ e ∷ []) more fits in
    let size = length-append es (e ∷ more) in
    let less = weight-push n es e (omega arith) in
    let all : weight n ((es ++ e ∷ []) ++ more) ≤ weight n es = omega arith in
    rw same at all

-- and with one more less
pub weight-more : (n : ℕ) (es : List Entry) (e : Entry) (more : List Entry) → length ((es ++ e ∷ []) ++ more) ≤ n → weight n ((es ++ e ∷ []) ++ more) < weight n es
weight-more n es e more le =
    let rest = weight-grown n (es ++ e ∷ []) more le in
    let size = length-append (es ++ e ∷ []) more in
    let inner = length-append es (e ∷ []) in
    let less = weight-push n es e (omega arith) in
    omega arith

-- a decision gives way to a forced literal, and what came after it is taken back
pub weight-back : (n : ℕ) (xs : List Entry) (d : Entry) (ys : List Entry) (e : Entry) (h : ℕ) → d.reason ≡ None → e.reason ≡ Some h → length xs < n
    → weight n (xs ++ e ∷ []) < weight n (xs ++ d ∷ ys)
unfolding weight stake
weight-back zero xs d ys e h f g lt = absurd (omega arith)
weight-back (suc n) [] d ys e h f g lt =
    let a = weight-nil n in
    let b = weight-positive n ys in
    rw (f, g) (omega arith)
weight-back (suc n) (x ∷ xs) d ys e h f g lt =
    let i = weight-back n xs d ys e h f g (omega arith) in
    omega arith

pub weight-jumped : (n : ℕ) (xs : List Entry) (d : Entry) (ys : List Entry) (e : Entry) (more : List Entry) (h : ℕ) → d.reason ≡ None → e.reason ≡ Some h
    → length (xs ++ e ∷ more) ≤ n → weight n (xs ++ e ∷ more) < weight n (xs ++ d ∷ ys)
weight-jumped n xs d ys e more h f g le =
    let same : (xs ++ e ∷ []) ++ more ≡ xs ++ e ∷ more = append_assoc xs (e ∷ []) more in
    let fits : length ((xs ++ e ∷ []) ++ more) ≤ n = rw same le in
    let rest = weight-grown n (xs ++ e ∷ []) more fits in
    let size = length-append xs (e ∷ more) in
    let back = weight-back n xs d ys e h f g (omega arith) in
    let all : weight n ((xs ++ e ∷ []) ++ more) < weight n (xs ++ d ∷ ys) = omega arith in
    rw same at all
