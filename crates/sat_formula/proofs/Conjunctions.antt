-- The clauses of a variable that is true exactly where all of several literals are.
use Rattle.std.proofs.Common.{◌≡◌, ℕ, ◌+◌, ◌<◌, Bool, true, false, not, List, [], ◌∷◌, ◌++◌, length, take, map, IsTrue, All, get_or, refl, sym, ◌∙◌, ap, subst, arith, ◌||◌, ◌&&◌, ◌≤◌, eqb-true}
use Rattle.std.specs.Prelude.{nat_eq, filter, if◌then◌else◌}
use Rattle.std.specs.List.{list_any, list_all}
use Rattle.std.proofs.lemmas.List.{get_or_push, take_more, length-map, get_or-map}
use Rattle.std.proofs.lemmas.List.Elements.{All-nil, All-cons, All-head, All-tail, All-append, All-push, All-map}
use Rattle.sat_formula.specs.declared.lit.Lit.{Lit}
use Rattle.sat_formula.specs.declared.cnf.Cnf.{Cnf}
use Rattle.sat_formula.specs.Lit.{lit_value, IsBelow, top_lit}
use Rattle.sat_formula.specs.Clause.{clause_true, AllTrue, implications}
use Rattle.sat_formula.specs.Formula.{Grows, HasValue, WellFormed, Satisfies}
use Rattle.sat_formula.proofs.Extension.{lit_value-append, Grows-define-to, AllTrue-newer, AllTrue-older}
use Rattle.sat_formula.proofs.GateClauses.{negation, lit_value-negation}

-- whether all are true
abbrev pub all_true : List Lit → List Bool → Bool
all_true w a = list_all (λ x. lit_value x a) w

abbrev pub positive : ℕ → Lit
positive n = record { var = n; neg = false }

abbrev pub all_clauses : List Lit → ℕ → List (List Lit)
all_clauses w n = implications (positive n) w ++ (map negation w ++ positive n ∷ []) ∷ []

all_true-append : (w : List Lit) (a b : List Bool) → All (IsBelow (length a)) w → all_true w (a ++ b) ≡ all_true w a
all_true-append [] a b h = refl
all_true-append (x ∷ w) a b h =
    let p = lit_value-append x a b (All-head (IsBelow (length a)) x w h) in
    let q = all_true-append w a b (All-tail (IsBelow (length a)) x w h) in
    rw (p, q)

or_not : (x w l : Bool) → not x || (not w || l) ≡ (not (x && w) || l)
or_not true w l = refl
or_not false w l = refl

-- some negation is true exactly where not all are true
some_negation : (w : List Lit) (last : List Lit) (b : List Bool) → clause_true b (map negation w ++ last) ≡ (not (all_true w b) || clause_true b last)
some_negation [] last b = refl
some_negation (x ∷ w) last b = rw (lit_value-negation x b, some_negation w last b) (or_not (lit_value x b) (all_true w b) (clause_true b last))

implied : (o x w : Bool) → (o ≡ true → (x && w) ≡ true) → not o || (x || false) ≡ true
implied true true w h = refl
implied true false w h = h refl
implied false x w h = refl

second_true : (x w : Bool) → (x && w) ≡ true → w ≡ true
second_true true w h = h
second_true false w h = cc

implications_hold : (w : List Lit) (n : ℕ) (b : List Bool) → (get_or b n false ≡ true → all_true w b ≡ true) → AllTrue b (implications (positive n) w)
implications_hold [] n b h = All-nil (λ c. IsTrue (clause_true b c))
implications_hold (x ∷ w) n b h =
    All-cons (λ c. IsTrue (clause_true b c)) (record { var = n; neg = true } ∷ x ∷ []) (implications (positive n) w)
    (implied (get_or b n false) (lit_value x b) (all_true w b) h)
    (implications_hold w n b (λ e. second_true (lit_value x b) (all_true w b) (h e)))

last_true : (v : Bool) → not v || (v || false) ≡ true
last_true true = refl
last_true false = refl

pub all_clauses_hold : (w : List Lit) (a : List Bool) → All (IsBelow (length a)) w → AllTrue (a ++ all_true w a ∷ []) (all_clauses w (length a))
all_clauses_hold w a h =
    let v : Bool = all_true w a in
    let b : List Bool = a ++ v ∷ [] in
    let n : ℕ = length a in
    let P : List Lit → Type 0 = λ c. IsTrue (clause_true b c) in
    let o : get_or b n false ≡ v = get_or_push a v false n refl in
    let e : all_true w b ≡ v = all_true-append w a (v ∷ []) h in
    let last : clause_true b (map negation w ++ positive n ∷ []) ≡ true = some_negation w (positive n ∷ []) b ∙ (rw (e, o) (last_true v)) in
    All-append P (implications (positive n) w) ((map negation w ++ positive n ∷ []) ∷ [])
    (implications_hold w n b (λ t. e ∙ (sym o ∙ t)))
    (All-cons P (map negation w ++ positive n ∷ []) [] last (All-nil P))

implied_true : (o x : Bool) → not o || (x || false) ≡ true → o ≡ true → x ≡ true
implied_true true true h e = refl
implied_true true false h e = h
implied_true false x h e = cc

both_true : (x w : Bool) → x ≡ true → w ≡ true → (x && w) ≡ true
both_true true w e f = f
both_true false w e f = e

implications_force : (w : List Lit) (n : ℕ) (a : List Bool) → AllTrue a (implications (positive n) w) → get_or a n false ≡ true → all_true w a ≡ true
implications_force [] n a h e = refl
implications_force (x ∷ w) n a h e =
    let P : List Lit → Type 0 = λ c. IsTrue (clause_true a c) in
    let c : List Lit = record { var = n; neg = true } ∷ x ∷ [] in
    both_true (lit_value x a) (all_true w a)
    (implied_true (get_or a n false) (lit_value x a) (All-head P c (implications (positive n) w) h) e)
    (implications_force w n a (All-tail P c (implications (positive n) w) h) e)

forced_value : (o v : Bool) → (o ≡ true → v ≡ true) → not v || (o || false) ≡ true → o ≡ v
forced_value true true f g = refl
forced_value true false f g = sym (f refl)
forced_value false true f g = g
forced_value false false f g = refl

pub all_clauses_force : (w : List Lit) (n : ℕ) (a : List Bool) → AllTrue a (all_clauses w n) → lit_value (positive n) a ≡ all_true w a
all_clauses_force w n a h =
    let P : List Lit → Type 0 = λ c. IsTrue (clause_true a c) in
    let each = AllTrue-older a (implications (positive n) w) ((map negation w ++ positive n ∷ []) ∷ []) h in
    let last = All-head P (map negation w ++ positive n ∷ []) [] (AllTrue-newer a (implications (positive n) w) ((map negation w ++ positive n ∷ []) ∷ []) h) in
    forced_value (get_or a n false) (all_true w a) (implications_force w n a each) (sym (some_negation w (positive n ∷ []) a) ∙ last)

-- a formula with the new variable and the first of its clauses
pub all_extends : (f g : Cnf) (w : List Lit) (more rest : List (List Lit)) → WellFormed f → All (IsBelow f.vars) w
    → g.vars ≡ f.vars + 1 → g.clauses ≡ f.clauses ++ more → more ++ rest ≡ all_clauses w f.vars → Grows f g
all_extends f g w more rest wf h n e s =
    Grows-define-to f g (λ a. all_true w a) more wf
    (λ a m sat.
    let b : List Bool = a ++ all_true w a ∷ [] in
    let below : All (IsBelow (length a)) w = rw m h in
    let all : AllTrue b (all_clauses w f.vars) = subst (λ (n : ℕ). AllTrue b (all_clauses w n)) m (all_clauses_hold w a below) in
    AllTrue-older b more rest (rw s all))
    n e

pub all_has_value : (f g : Cnf) (w : List Lit) → g.vars ≡ f.vars + 1 → g.clauses ≡ f.clauses ++ all_clauses w f.vars
    → HasValue g (positive f.vars) (λ a. all_true w a)
unfolding Satisfies
all_has_value f g w n e = record {
  below = omega arith;
  value = λ a h. all_clauses_force w f.vars a (AllTrue-newer a f.clauses (all_clauses w f.vars) (rw e at h));
}

-- one more of the first clauses
pub implications_more : (out : Lit) (w : List Lit) (i : ℕ) (d : Lit) → i < length w
    → take (i + 1) (implications out w) ≡ take i (implications out w) ++ (negation out ∷ get_or w i d ∷ []) ∷ []
implications_more out w i d lt =
    let f : Lit → List Lit = λ x. negation out ∷ x ∷ [] in
    take_more (map f w) i [] (omega (arith, length-map w f))
    ∙ ap (λ (c : List Lit). take i (map f w) ++ c ∷ []) (get_or-map f w i d [] lt)

pub negations_below : (n : ℕ) (w : List Lit) (l : Lit) → All (IsBelow n) w → l.var < n → All (IsBelow n) (map negation w ++ l ∷ [])
negations_below n w l h b = All-push (IsBelow n) (map negation w) l (All-map (IsBelow n) negation w h) b

turned : (n : Bool) → (if n then false else true) ≡ not n
turned true = refl
turned false = refl

-- a literal of variable 0
zero_value : (x : Lit) (a : List Bool) → lit_value top_lit a ≡ true → nat_eq x.var 0 ≡ true → lit_value x a ≡ not x.neg
zero_value x a t z =
    let e : x.var ≡ 0 = eqb-true x.var 0 z in
    let v : get_or a x.var false ≡ true = ap (λ (k : ℕ). get_or a k false) e ∙ t in
    rw v (turned x.neg)

right_false : (p l : Bool) → p || l ≡ false → l ≡ false
right_false true l h = cc
right_false false l h = h

and_false : (v : Bool) → (v && false) ≡ false
and_false true = refl
and_false false = refl

open_step : (z n l : Bool) (x : Lit) (ys w : List Lit) (a : List Bool) → (z ≡ true → lit_value x a ≡ not n) → (z && n) || l ≡ false
    → all_true ys a ≡ all_true w a → all_true (if not z then x ∷ ys else ys) a ≡ (lit_value x a && all_true w a)
open_step true true l x ys w a e h s = cc
open_step true false l x ys w a e h s = rw (e refl) s
open_step false n l x ys w a e h s = ap (λ (t : Bool). lit_value x a && t) s

-- whether variable 0 is there, negated
abbrev pub has_bottom : List Lit → Bool
has_bottom w = list_any (λ (l : Lit). nat_eq l.var 0 && l.neg) w

-- the literals of other variables
abbrev pub others : List Lit → List Lit
others w = filter (λ (l : Lit). not (nat_eq l.var 0)) w

-- where variable 0 is not there negated, its literals may be left out
pub others_same : (w : List Lit) (a : List Bool) → lit_value top_lit a ≡ true → has_bottom w ≡ false → all_true (others w) a ≡ all_true w a
others_same [] a t h = refl
others_same (x ∷ w) a t h =
    open_step (nat_eq x.var 0) x.neg (has_bottom w) x (others w) w a (zero_value x a t) h
    (others_same w a t (right_false (nat_eq x.var 0 && x.neg) (has_bottom w) h))

bottom_step : (z n l v r : Bool) → (z ≡ true → v ≡ not n) → (z && n) || l ≡ true → (l ≡ true → r ≡ false) → (v && r) ≡ false
bottom_step true true l v r e h f = rw (e refl) refl
bottom_step true false l v r e h f = rw (f h) (and_false v)
bottom_step false n l v r e h f = rw (f h) (and_false v)

pub bottom_false : (w : List Lit) (a : List Bool) → lit_value top_lit a ≡ true → has_bottom w ≡ true → all_true w a ≡ false
bottom_false [] a t h = cc
bottom_false (x ∷ w) a t h =
    bottom_step (nat_eq x.var 0) x.neg (has_bottom w) (lit_value x a) (all_true w a) (zero_value x a t) h (bottom_false w a t)

-- no literal, and one
pub all_of_none : (w : List Lit) (a : List Bool) → length w < 1 → all_true w a ≡ true
all_of_none [] a h = refl
all_of_none (x ∷ w) a h = absurd (omega arith)

and_true : (v : Bool) → (v && true) ≡ v
and_true true = refl
and_true false = refl

pub all_of_one : (w : List Lit) (d : Lit) (a : List Bool) → 1 ≤ length w → length w < 2 → lit_value (get_or w 0 d) a ≡ all_true w a
all_of_one [] d a h lt = absurd (omega arith)
all_of_one (x ∷ []) d a h lt = sym (and_true (lit_value x a))
all_of_one (x ∷ y ∷ w) d a h lt = absurd (omega arith)
