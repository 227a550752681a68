-- A false clause that ends with the last variable.
use Rattle.std.proofs.Common.{◌≡◌, ℕ, zero, suc, ◌+◌, ◌-◌, ◌<◌, ◌≤◌, inl, inr, ◌⊎◌, Bool, true, false, true≢false, List, [], ◌∷◌, ◌++◌, length, drop, set, get_or, All, refl, sym, ◌∙◌, ap, subst, arith, append_assoc, length-append}
use Rattle.std.specs.Prelude.{◌&&◌, ◌||◌, not, nat_lt, nat_eq, Contains, replicate}
use Rattle.std.specs.List.{list_any}
use Rattle.std.specs.Cmp.{both_ways}
use Rattle.std.proofs.lemmas.Bool.{and_parts, or_cases, or_parts, or_right, ltb-true, lt-ltb, eqb-true, eq-eqb, cases_lt}
use Rattle.std.proofs.lemmas.List.{get_or-set_same, get_or-set_other, get_or_default, length-set}
use Rattle.std.proofs.lemmas.List.Elements.{All-nil, All-cons, All-append, Contains-append_left, Contains-append_right}
use Rattle.std.proofs.lemmas.List.Folds.{Any-from_list_any, list_any-from_Any}
use Rattle.sat_formula.specs.declared.lit.Lit.{Lit}
use Rattle.sat_formula.specs.Lit.{lit_value}
use Rattle.sat_formula.proofs.Extension.{lit_value-append}
use Rattle.plain_search.specs.inner.Index.{IsGreatest, IsIndex}
use Rattle.plain_search.specs.inner.Search.{is_false, has_false, IsTurn, WasCalm}

-- ---- a false clause stays false

and_true : (a b : Bool) → a ≡ true → b ≡ true → (a && b) ≡ true
and_true true b h k = k
and_true false b h k = h

false_grows : (p rest : List Bool) (clause : List Lit) → is_false p clause ≡ true → is_false (p ++ rest) clause ≡ true
false_grows p rest [] h = refl
false_grows p rest (l ∷ ls) h =
    let parts = and_parts (nat_lt l.var (length p) && not (lit_value l p)) (is_false p ls) h in
    let here = and_parts (nat_lt l.var (length p)) (not (lit_value l p)) parts.0 in
    let lt : l.var < length p = ltb-true l.var (length p) here.0 in
    let more : l.var < length (p ++ rest) = let size = length-append p rest in omega arith in
    let kept : lit_value l (p ++ rest) ≡ lit_value l p = lit_value-append l p rest lt in
    and_true (nat_lt l.var (length (p ++ rest)) && not (lit_value l (p ++ rest))) (is_false (p ++ rest) ls)
    (and_true (nat_lt l.var (length (p ++ rest))) (not (lit_value l (p ++ rest))) (lt-ltb l.var (length (p ++ rest)) more) (ap not kept ∙ here.1))
    (false_grows p rest ls parts.1)

has_false_grows : (p rest : List Bool) (clauses : List (List Lit)) → has_false p clauses ≡ true → has_false (p ++ rest) clauses ≡ true
has_false_grows p rest [] h = h
has_false_grows p rest (c ∷ cs) h = elim (or_cases (is_false p c) (has_false p cs) h) [
  | inl here ↦ ap (λ b. b || has_false (p ++ rest) cs) (false_grows p rest c here)
  | inr later ↦ or_right (is_false (p ++ rest) c) (has_false (p ++ rest) cs) (has_false_grows p rest cs later)
]

-- what had no false clause had none before
calm_before : (p rest : List Bool) (clauses : List (List Lit)) → has_false (p ++ rest) clauses ≡ false → has_false p clauses ≡ false
calm_before p rest clauses h = decide (has_false p clauses) refl
  where
    decide : (b : Bool) → has_false p clauses ≡ b → has_false p clauses ≡ false
    decide false e = e
    decide true e = absurd (true≢false (sym (has_false_grows p rest clauses e) ∙ h))

-- ---- the values after a step of the search

front_same : (xs ys : List Bool) (a b : Bool) → xs ++ a ∷ [] ≡ ys ++ b ∷ [] → xs ≡ ys
front_same [] [] a b e = refl
front_same [] (y ∷ ys) a b e = absurd (let s = ap length e in let t = length-append ys (b ∷ []) in omega arith)
front_same (x ∷ xs) [] a b e = absurd (let s = ap length e in let t = length-append xs (a ∷ []) in omega arith)
front_same (x ∷ xs) (y ∷ ys) a b e =
    ap (λ (h : Bool). h ∷ xs) (ap (λ (l : List Bool). get_or l 0 false) e) ∙ ap (λ (l : List Bool). y ∷ l) (front_same xs ys a b (ap (drop 1) e))

-- the last of some values
ends_with : (v : Bool) (vs : List Bool) → (before : List Bool) × (last : Bool) × (v ∷ vs ≡ before ++ last ∷ [])
ends_with v [] = ([], v, refl)
ends_with v (w ∷ vs) = let more = ends_with w vs in (v ∷ more.0, more.1, ap (λ (l : List Bool). v ∷ l) more.2)

pub calm-none : (clauses : List (List Lit)) → WasCalm [] clauses
calm-none clauses = λ before last e. absurd (let s = ap length e in let t = length-append before (last ∷ []) in omega arith)

pub calm-push : (values : List Bool) (clauses : List (List Lit)) (b : Bool) → has_false values clauses ≡ false → WasCalm (values ++ b ∷ []) clauses
calm-push values clauses b calm = λ before last e. ap (λ (x : List Bool). has_false x clauses) (sym (front_same values before b last e)) ∙ calm

pub calm-turn : (old new : List Bool) (clauses : List (List Lit)) → IsTurn old new → WasCalm old clauses → WasCalm new clauses
calm-turn old new clauses turn calm =
    let more = ends_with false turn.tried in
    let whole : old ≡ (turn.kept ++ more.0) ++ more.1 ∷ [] =
    turn.were ∙ ap (λ (l : List Bool). turn.kept ++ l) more.2 ∙ sym (append_assoc turn.kept more.0 (more.1 ∷ [])) in
    let kept_calm : has_false turn.kept clauses ≡ false = calm_before turn.kept more.0 clauses (calm (turn.kept ++ more.0) more.1 whole) in
    subst (λ (x : List Bool). WasCalm x clauses) (sym turn.are) (calm-push turn.kept clauses true kept_calm)

-- ---- a clause that has become false

-- each variable of a false clause has a value
false_bound : (values : List Bool) (v : ℕ) (clause : List Lit) → length values ≤ suc v → is_false values clause ≡ true → All (λ (l : Lit). l.var ≤ v) clause
false_bound values v [] le h = All-nil (λ (l : Lit). l.var ≤ v)
false_bound values v (l ∷ ls) le h =
    let parts = and_parts (nat_lt l.var (length values) && not (lit_value l values)) (is_false values ls) h in
    let lt : l.var < length values = ltb-true l.var (length values) (and_parts (nat_lt l.var (length values)) (not (lit_value l values)) parts.0).0 in
    All-cons (λ (l : Lit). l.var ≤ v) l ls (omega arith) (false_bound values v ls le parts.1)

-- where it was not false before the last value, it has the last variable
has_last : (p : List Bool) (b : Bool) (clause : List Lit) → is_false (p ++ b ∷ []) clause ≡ true → is_false p clause ≡ false
    → list_any (λ (l : Lit). nat_eq l.var (length p)) clause ≡ true
has_last p b [] h calm = absurd (true≢false calm)
has_last p b (l ∷ ls) h calm =
    let parts = and_parts (nat_lt l.var (length (p ++ b ∷ [])) && not (lit_value l (p ++ b ∷ []))) (is_false (p ++ b ∷ []) ls) h in
    by_var (nat_eq l.var (length p)) refl parts.0 (has_last p b ls parts.1)
  where
    by_var : (here : Bool) → nat_eq l.var (length p) ≡ here → (nat_lt l.var (length (p ++ b ∷ [])) && not (lit_value l (p ++ b ∷ []))) ≡ true
        → (is_false p ls ≡ false → list_any (λ (l : Lit). nat_eq l.var (length p)) ls ≡ true)
        → (nat_eq l.var (length p) || list_any (λ (l : Lit). nat_eq l.var (length p)) ls) ≡ true
    by_var true e now later = ap (λ x. x || list_any (λ (l : Lit). nat_eq l.var (length p)) ls) e
    by_var false e now later =
        let here = and_parts (nat_lt l.var (length (p ++ b ∷ []))) (not (lit_value l (p ++ b ∷ []))) now in
        let lt : l.var < length (p ++ b ∷ []) = ltb-true l.var (length (p ++ b ∷ [])) here.0 in
        let other : (l.var ≡ length p) → ⊥ = λ same. true≢false (sym (eq-eqb l.var (length p) same) ∙ e) in
        let earlier : l.var < length p = elim (cases_lt l.var (length p)) [
          | inl before ↦ before
          | inr after ↦ absurd (other (let s = length-append p (b ∷ []) in omega arith))
        ] in
        let kept : lit_value l (p ++ b ∷ []) ≡ lit_value l p = lit_value-append l p (b ∷ []) earlier in
        let rest_calm : is_false p ls ≡ false =
        sym (ap (λ x. x && is_false p ls) (and_true (nat_lt l.var (length p)) (not (lit_value l p)) (lt-ltb l.var (length p) earlier) (ap not (sym kept) ∙ here.1))) ∙ calm in
        ap (λ x. x || list_any (λ (l : Lit). nat_eq l.var (length p)) ls) e ∙ later rest_calm

-- ---- the index

-- the number of a clause that is false
false_at : (values : List Bool) (clauses : List (List Lit)) → has_false values clauses ≡ true → (k : ℕ) × (k < length clauses) × (is_false values (get_or clauses k []) ≡ true)
false_at values [] h = absurd (true≢false (sym h))
false_at values (c ∷ cs) h = elim (or_cases (is_false values c) (has_false values cs) h) [
  | inl here ↦ (0, omega arith, here)
  | inr later ↦ let more = false_at values cs later in (suc more.0, let lt = more.1 in omega arith, more.2)
]

false_there : (values : List Bool) (clauses : List (List Lit)) (k : ℕ) → k < length clauses → is_false values (get_or clauses k []) ≡ true → has_false values clauses ≡ true
false_there values [] k lt h = absurd (omega arith)
false_there values (c ∷ cs) zero lt h = ap (λ b. b || has_false values cs) h
false_there values (c ∷ cs) (suc k) lt h = or_right (is_false values c) (has_false values cs) (false_there values cs k (omega arith) h)

calm_at : (values : List Bool) (clauses : List (List Lit)) (k : ℕ) → k < length clauses → has_false values clauses ≡ false → is_false values (get_or clauses k []) ≡ false
calm_at values [] k lt h = absurd (omega arith)
calm_at values (c ∷ cs) zero lt h = (or_parts (is_false values c) (has_false values cs) h).0
calm_at values (c ∷ cs) (suc k) lt h = calm_at values cs k (omega arith) (or_parts (is_false values c) (has_false values cs) h).1

-- the clauses that end with the last variable tell whether one is false
among_last : (clauses : List (List Lit)) (index : List (List ℕ)) (p : List Bool) (b : Bool) → IsIndex clauses index → length p < length index → has_false p clauses ≡ false
    → list_any (λ (k : ℕ). is_false (p ++ b ∷ []) (get_or clauses k [])) (get_or index (length p) []) ≡ has_false (p ++ b ∷ []) clauses
among_last clauses index p b ix lt calm = both_ways _ _ there back
  where
    there : list_any (λ (k : ℕ). is_false (p ++ b ∷ []) (get_or clauses k [])) (get_or index (length p) []) ≡ true → has_false (p ++ b ∷ []) clauses ≡ true
    there h =
        let one = Any-from_list_any (λ (k : ℕ). is_false (p ++ b ∷ []) (get_or clauses k [])) (get_or index (length p) []) h in
        let within : one.1 < length clauses = subst (λ (k : ℕ). k < length clauses) one.3 (ix.within (length p) [] lt one.0 one.1 one.2) in
        false_there (p ++ b ∷ []) clauses one.1 within one.4

    back : has_false (p ++ b ∷ []) clauses ≡ true → list_any (λ (k : ℕ). is_false (p ++ b ∷ []) (get_or clauses k [])) (get_or index (length p) []) ≡ true
    back h =
        let one = false_at (p ++ b ∷ []) clauses h in
        let clause : List Lit = get_or clauses one.0 [] in
        let bound : All (λ (l : Lit). l.var ≤ length p) clause = false_bound (p ++ b ∷ []) (length p) clause (let s = length-append p (b ∷ []) in omega arith) one.2 in
        let last = has_last p b clause one.2 (calm_at p clauses one.0 one.1 calm) in
        let listed : Contains (get_or index (length p) []) one.0 = ix.each one.0 (length p) one.1 lt (record { bound = bound; there = last }) in
        list_any-from_Any (λ (k : ℕ). is_false (p ++ b ∷ []) (get_or clauses k [])) (get_or index (length p) [])
        (listed.0, one.0, listed.1, listed.2, one.2)

pub last_decides : (clauses : List (List Lit)) (index : List (List ℕ)) (values : List Bool) (count : ℕ) (result : Bool) (numbers listed : List ℕ) → IsIndex clauses index
    → length values ≤ length index → WasCalm values clauses → count ≡ length values → 0 < count
    → result ≡ list_any (λ (k : ℕ). is_false values (get_or clauses k [])) numbers → numbers ≡ listed → listed ≡ get_or index (count - 1) [] → result ≡ has_false values clauses
last_decides clauses index [] count result numbers listed ix le calm size some is same at = absurd (omega arith)
last_decides clauses index (v ∷ vs) count result numbers listed ix le calm size some is same at =
    let more = ends_with v vs in
    let p : List Bool = more.0 in
    let lengths : length p + 1 ≡ length (v ∷ vs) = let s = ap length more.2 in let t = length-append p (more.1 ∷ []) in omega arith in
    let found : numbers ≡ get_or index (length p) [] = same ∙ at ∙ ap (λ (n : ℕ). get_or index n []) (let s = lengths in omega arith) in
    is
    ∙ ap (λ (ns : List ℕ). list_any (λ (k : ℕ). is_false (v ∷ vs) (get_or clauses k [])) ns) found
    ∙ ap (λ (x : List Bool). list_any (λ (k : ℕ). is_false x (get_or clauses k [])) (get_or index (length p) [])) more.2
    ∙ among_last clauses index p more.1 ix (omega arith) (calm p more.1 more.2)
    ∙ ap (λ (x : List Bool). has_false x clauses) (sym more.2)

-- ---- the making of the index

pub none_entered : (clauses : List (List Lit)) (count : ℕ) (index : List (List ℕ)) → index ≡ replicate count [] → All (All (λ k. k < length clauses)) index
none_entered clauses count index e = subst (All (All (λ k. k < length clauses))) (sym e) (empty count)
  where
    empty : (n : ℕ) → All (All (λ k. k < length clauses)) (replicate n [])
    empty zero = All-nil (All (λ (k : ℕ). k < length clauses))
    empty (suc n) = All-cons (All (λ (k : ℕ). k < length clauses)) [] (replicate n []) (All-nil (λ (k : ℕ). k < length clauses)) (empty n)

-- the index behind one more clause, which was entered under a variable of it
pub entered : (clauses : List (List Lit)) (index new : List (List ℕ)) (number variable : ℕ) (old : List ℕ) → number < length clauses → variable < length index
    → old ≡ get_or index variable [] → new ≡ set index variable (old ++ number ∷ []) → All (All (λ k. k < length clauses)) index
    → ((k v : ℕ) → k < number → v < length index → IsGreatest (get_or clauses k []) v → Contains (get_or index v []) k)
    → ((v : ℕ) → IsGreatest (get_or clauses number []) v → variable ≡ v)
    → (length new ≡ length index) × All (All (λ k. k < length clauses)) new
    × ((k v : ℕ) → k < number + 1 → v < length new → IsGreatest (get_or clauses k []) v → Contains (get_or new v []) k)
entered clauses index new number variable old lt small was is within each unique =
    (ap length is ∙ length-set index variable (old ++ number ∷ []), all_within, all_each)
  where
    here : (v : ℕ) (d : List ℕ) → v ≡ variable → get_or new v d ≡ old ++ number ∷ []
    here v d same = ap (λ (x : List (List ℕ)). get_or x v d) is ∙ ap (λ (n : ℕ). get_or (set index variable (old ++ number ∷ [])) n d) same
        ∙ get_or-set_same index variable (old ++ number ∷ []) d small

    other : (v : ℕ) (d : List ℕ) → (v ≡ variable → ⊥) → get_or new v d ≡ get_or index v d
    other v d differs = ap (λ (x : List (List ℕ)). get_or x v d) is ∙ get_or-set_other index variable v (old ++ number ∷ []) d differs

    decided : (v : ℕ) → (v ≡ variable) ⊎ (v ≡ variable → ⊥)
    decided v = by_test (nat_eq v variable) refl
      where
        by_test : (b : Bool) → nat_eq v variable ≡ b → (v ≡ variable) ⊎ (v ≡ variable → ⊥)
        by_test true e = inl (eqb-true v variable e)
        by_test false e = inr (λ same. true≢false (sym (eq-eqb v variable same) ∙ e))

    old_within : All (λ (k : ℕ). k < length clauses) old
    old_within = subst (All (λ (k : ℕ). k < length clauses)) (sym was) (within variable [] small)

    new_within : All (λ (k : ℕ). k < length clauses) (old ++ number ∷ [])
    new_within = All-append (λ (k : ℕ). k < length clauses) old (number ∷ []) old_within
        (All-cons (λ (k : ℕ). k < length clauses) number [] lt (All-nil (λ (k : ℕ). k < length clauses)))

    all_within : All (All (λ k. k < length clauses)) new
    all_within = λ v d inside. elim (decided v) [
      | inl same ↦ subst (All (λ (k : ℕ). k < length clauses)) (sym (here v d same)) new_within
      | inr differs ↦ subst (All (λ (k : ℕ). k < length clauses)) (sym (other v d differs))
          (within v d (let s = ap length is in let t = length-set index variable (old ++ number ∷ []) in omega arith))
    ]

    earlier_there : (k v : ℕ) → k < number → v < length index → IsGreatest (get_or clauses k []) v → Contains (get_or new v []) k
    earlier_there k v before inside greatest = elim (decided v) [
      | inl same ↦ subst (λ (x : List ℕ). Contains x k) (sym (here v [] same))
          (Contains-append_left old (number ∷ []) k
          (subst (λ (x : List ℕ). Contains x k) (ap (λ (n : ℕ). get_or index n []) same ∙ sym was) (each k v before inside greatest)))
      | inr differs ↦ subst (λ (x : List ℕ). Contains x k) (sym (other v [] differs)) (each k v before inside greatest)
    ]

    all_each : (k v : ℕ) → k < number + 1 → v < length new → IsGreatest (get_or clauses k []) v → Contains (get_or new v []) k
    all_each k v upto inside greatest = elim (cases_lt k number) [
      | inl before ↦ earlier_there k v before (let s = ap length is in let t = length-set index variable (old ++ number ∷ []) in omega arith) greatest
      | inr after ↦
          let same : k ≡ number = omega arith in
          let at : variable ≡ v = unique v (subst (λ (n : ℕ). IsGreatest (get_or clauses n []) v) same greatest) in
          subst (λ (x : List ℕ). Contains x k) (sym (here v [] (sym at)))
          (Contains-append_right old (number ∷ []) k (0, omega arith, sym same))
    ]

-- a clause without a place in the index has no greatest variable that has one
pub not_entered : (clauses : List (List Lit)) (index : List (List ℕ)) (number variable : ℕ) → length index ≤ variable
    → ((k v : ℕ) → k < number → v < length index → IsGreatest (get_or clauses k []) v → Contains (get_or index v []) k)
    → ((v : ℕ) → IsGreatest (get_or clauses number []) v → variable ≡ v)
    → (k v : ℕ) → k < number + 1 → v < length index → IsGreatest (get_or clauses k []) v → Contains (get_or index v []) k
not_entered clauses index number variable large each unique k v lt small greatest = elim (cases_lt k number) [
  | inl earlier ↦ each k v earlier small greatest
  | inr later ↦
      let same : k ≡ number = omega arith in
      absurd (let is = unique v (subst (λ (n : ℕ). IsGreatest (get_or clauses n []) v) same greatest) in omega arith)
]

pub greatest_is : (clause : List Lit) (greatest v : ℕ) → ((k : ℕ) (d : Lit) → k < length clause → (get_or clause k d).var ≤ greatest)
    → ((u : ℕ) → IsGreatest clause u → greatest ≤ u) → IsGreatest clause v → greatest ≡ v
greatest_is clause greatest v seen bound is =
    let one = Any-from_list_any (λ (l : Lit). nat_eq l.var v) clause is.there in
    let var : one.1.var ≡ v = eqb-true one.1.var v one.4 in
    let le : one.1.var ≤ greatest = subst (λ (l : Lit). l.var ≤ greatest) one.3 (seen one.0 one.1 one.2) in
    let ge = bound v is in
    omega arith

-- one more literal of a clause
pub bound_more : (clause : List Lit) (at : ℕ) (lit : Lit) → at < length clause → lit ≡ get_or clause at lit → (v : ℕ) → IsGreatest clause v → lit.var ≤ v
bound_more clause at lit lt here v is = subst (λ (l : Lit). l.var ≤ v) (sym here) (is.bound at lit lt)

-- the variable that was found is the clause's, wherever the clause has a greatest one
pub greatest_of : (clauses seen : List (List Lit)) (number variable : ℕ) (clause : List Lit) → seen ≡ clauses → number < length clauses
    → clause ≡ get_or seen number clause → ((v : ℕ) → IsGreatest clause v → variable ≡ v) → (v : ℕ) → IsGreatest (get_or clauses number []) v → variable ≡ v
greatest_of clauses seen number variable clause same lt here found v is =
    found v (subst (λ (x : List Lit). IsGreatest x v)
    (get_or_default clauses number [] clause lt ∙ ap (λ (xs : List (List Lit)). get_or xs number clause) (sym same) ∙ sym here) is)
