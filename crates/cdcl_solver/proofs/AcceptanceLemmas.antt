use Rattle.std.proofs.Common.{◌≡◌, ℕ, ◌+◌, ◌<◌, ◌≤◌, inl, inr, List, [], ◌∷◌, ◌++◌, length, drop, take, map, All, Some, None, get_or, Bool, not, true, false, ◌&&◌, eqb, eq-eqb, refl, sym, ◌∙◌, ap, subst, arith, append_assoc}
use Rattle.std.specs.Prelude.{Contains}
use Rattle.std.specs.Bool.{beq}
use Rattle.std.proofs.lemmas.Bool.{cases_lt, cases_order}
use Rattle.std.proofs.lemmas.List.{append-nil, map-append, drop-append-le, take-take, take_at, take-map, take_more, length-take, get_or-take, take_all}
use Rattle.std.proofs.lemmas.List.Elements.{All-map, All-weaker, All-contains, All-contains_itself, Contains-append_left, Contains-append_right, Contains-push}
use Rattle.sat_formula.specs.declared.lit.Lit.{Lit}
use Rattle.sat_formula.specs.Lit.{IsBelow}
use Rattle.refutation_checker.specs.Follows.{negation, IsUnit}
use Rattle.refutation_checker.proofs.StatusLemmas.{Other-two, Contains-take, same_lem}
use Rattle.refutation_checker.proofs.TrailLemmas.{Contains-nil}
use Rattle.watched_search.specs.declared.entry.Entry.{Entry}
use Rattle.watched_search.specs.Trail.{lits_of, DistinctVars, IsPlaceOf, AreEntries}
use Rattle.watched_search.proofs.TrailLemmas.{no_entry, entry_of, lit_of-entry}
use Rattle.cdcl_solver.specs.inner.Chain.{Chain, IsNext, IsLastDecision, decisions}
use Rattle.cdcl_solver.specs.inner.Levels.{levels_from}
use Rattle.cdcl_solver.specs.inner.Acceptance.{HasSecond, IsOtherAt, IsJump, start_of}
use Rattle.cdcl_solver.proofs.ChainLemmas.{negation-negation, Why-more, decisions-append, decisions-within, Chain-front, Chain-at, split_at}
use Rattle.cdcl_solver.proofs.LearnLemmas.{decisions-unit, Contains-negation}
use Rattle.cdcl_solver.proofs.LevelLemmas.{levels-none, last_level, level_start}

-- what the test whether two literals are the same says
pub same_test : (a b : Lit) → (eqb a.var b.var && beq a.neg b.neg) ≡ true → a ≡ b
same_test a b h = sym (same_lem a b (sym (ap not h)))

own_sign : (a : Bool) → beq a a ≡ true
own_sign true = refl
own_sign false = refl

pub same_tested : (a b : Lit) → a ≡ b → (eqb a.var b.var && beq a.neg b.neg) ≡ true
same_tested a b e = rw (eq-eqb a.var b.var (ap (λ (l : Lit). l.var) e), ap (λ (l : Lit). l.neg) e) (own_sign b.neg)

-- the entry of a literal's variable tells whether the literal is among the first
pub among_here : (es : List Entry) (l : Lit) (k count : ℕ) (d : Entry) → k < length es → k < count → (get_or es k d).lit ≡ l → Contains (lits_of (take count es)) l
among_here es l k count d lt before same =
    let size = length-take count es in
    let within : k < length (take count es) = omega arith in
    subst (λ (m : Lit). Contains (lits_of (take count es)) m) (ap (λ (e : Entry). e.lit) (get_or-take count es k d before) ∙ same) (lit_of-entry (take count es) k d within)

among_at : (es : List Entry) (l : Lit) (count : ℕ) → Contains (lits_of (take count es)) l → (j : ℕ) × (j < count) × (j < length es) × ((get_or es j no_entry).lit ≡ l)
among_at es l count has =
    let i = entry_of (take count es) l no_entry has in
    let lt : i.0 < length (take count es) = i.1 in
    let size = length-take count es in
    let before : i.0 < count = omega arith in
    (i.0, before, (omega arith), ap (λ (e : Entry). e.lit) (sym (get_or-take count es i.0 no_entry before)) ∙ i.2)

pub among_none : (es : List Entry) (l : Lit) (count : ℕ) → IsPlaceOf es l.var None → Contains (lits_of (take count es)) l → ⊥
among_none es l count none has = let j = among_at es l count has in none j.0 no_entry j.2 (ap (λ (m : Lit). m.var) j.3)

same_place : (es : List Entry) (j k : ℕ) → DistinctVars es → j < length es → k < length es → (get_or es j no_entry).lit.var ≡ (get_or es k no_entry).lit.var → j ≡ k
same_place es j k distinct lj lk same = elim (cases_order j k) [
  | inl e ↦ e
  | inr c ↦ elim c [
    | inl lt ↦ absurd (distinct j k no_entry lt lk same)
    | inr gt ↦ absurd (distinct k j no_entry gt lj (sym same))
  ]
]

pub among_place : (es : List Entry) (l : Lit) (k count : ℕ) → DistinctVars es → IsPlaceOf es l.var (Some k) → Contains (lits_of (take count es)) l
    → (k < count) × ((get_or es k no_entry).lit ≡ l)
among_place es l k count distinct place has =
    let j = among_at es l count has in
    let at : j.0 ≡ k = same_place es j.0 k distinct j.2 place.0 (ap (λ (m : Lit). m.var) j.3 ∙ sym (place.1 no_entry)) in
    let before : j.0 < count = j.1 in
    ((omega arith), ap (λ (i : ℕ). (get_or es i no_entry).lit) (sym at) ∙ j.3)

-- any clause may be learned that is a unit where the trail ends, and was none at an earlier decision
pub Chain-learn : (K : List (List Lit)) (D : List Lit) (u : Lit) → Contains D u → (T : List Lit) (es : List Entry) → Chain K T es
    → (Contains (T ++ lits_of es) (negation u) → ⊥) → HasSecond D u T es → Chain (K ++ D ∷ []) T es
Chain-learn K D u hu T [] c nu second = tt
Chain-learn K D u hu T (e ∷ es) c nu second = (
  record {
    free = c.0.free;
    why = Why-more K D T e.lit e.reason c.0.why (λ none.
        let s = second [] e es refl none in
        let open' : Contains T (negation s.0) → ⊥ = rw (append-nil T) at s.1.1.1 in
        Other-two T D u s.0 hu s.1.0 (λ t. nu (Contains-append_left T (e.lit ∷ lits_of es) (negation u) t)) open' (λ same. s.1.1.0 (sym same)));
  },
  Chain-learn K D u hu (T ++ e.lit ∷ []) es c.1 (λ t. nu (rw append_assoc at t))
      (λ xs x ys split none.
      let s = second (e ∷ xs) x ys (ap (λ (r : List Entry). e ∷ r) split) none in
      (s.0, (s.1.0, (s.1.1.0, λ t. s.1.1.1 (rw append_assoc at t))))),
)

-- what is so of a trail is so of its front
pub not_false_before : (u : Lit) (xs ys : List Entry) → (Contains (lits_of (xs ++ ys)) (negation u) → ⊥) → Contains (lits_of xs) (negation u) → ⊥
not_false_before u xs ys none has = none (rw (map-append (λ (e : Entry). e.lit) xs ys) (Contains-append_left (lits_of xs) (lits_of ys) (negation u) has))

pub second_before : (D : List Lit) (u : Lit) (xs ys : List Entry) → HasSecond D u [] (xs ++ ys) → HasSecond D u [] xs
second_before D u xs ys second = λ front e rest split none. second front e (rest ++ ys) (ap (λ (r : List Entry). r ++ ys) split ∙ append_assoc front (e ∷ rest) ys) none

decision_in : (xs : List Entry) (e : Entry) (ys : List Entry) → e.reason ≡ None → Contains (decisions (xs ++ e ∷ ys)) e.lit
decision_in xs e ys none =
    rw (decisions-append xs (e ∷ ys)) (Contains-append_right (decisions xs) (decisions (e ∷ ys)) e.lit (rw none (Contains-append_left (e.lit ∷ []) (decisions ys) e.lit (Contains-push [] e.lit))))

pub no_decision : (D : List Lit) (u : Lit) (es : List Entry) → decisions es ≡ [] → HasSecond D u [] es
no_decision D u es empty = λ xs e ys split none. absurd (Contains-nil e.lit (rw (ap decisions (sym split) ∙ empty) at (decision_in xs e ys none)))

pub second_found : (D : List Lit) (u : Lit) (es : List Entry) (last : ℕ) (w : Lit) → IsLastDecision es last → Contains D w → (w ≡ u → ⊥)
    → (Contains (lits_of (take last es)) (negation w) → ⊥) → HasSecond D u [] es
second_found D u es last w decision has ne free = λ xs e ys split none.
    let le : length xs ≤ last = elim (cases_lt last (length xs)) [
      | inl lt ↦
          (let before : last + 1 ≤ length xs = omega arith in
          let rest : drop (last + 1) es ≡ drop (last + 1) xs ++ e ∷ ys = ap (drop (last + 1)) split ∙ drop-append-le (last + 1) xs (e ∷ ys) before in
          absurd (Contains-nil e.lit (rw (ap decisions (sym rest) ∙ decision.later) at (decision_in (drop (last + 1) xs) e ys none))))
      | inr ge ↦ ge
    ] in
    let front : take (length xs) (take last es) ≡ xs = take-take (length xs) last es le ∙ ap (take (length xs)) split ∙ take_at xs (e ∷ ys) (length xs) refl in (
      w,
      (
        has,
        (
          ne,
          λ t.
              let t' : Contains (lits_of (take (length xs) (take last es))) (negation w) = rw (sym front) at t in
              free (Contains-take (lits_of (take last es)) (length xs) (negation w) (rw (sym (take-map (λ (e : Entry). e.lit) (length xs) (take last es))) at t')),
        ),
      ),
    )

pub second_first : (D : List Lit) (u : Lit) (es : List Entry) (level : ℕ) → level < length (levels_from 0 es) → level ≡ 0 → HasSecond D u [] (take (start_of es level) es)
second_first D u es level lt zeroth =
    let start = level_start es level lt in
    let none : levels_from 0 (take (start_of es level) es) ≡ [] = start.levels ∙ ap (λ (n : ℕ). take n (levels_from 0 es)) zeroth in
    no_decision D u (take (start_of es level) es) (levels-none 0 (take (start_of es level) es) none)

-- the last decision before that of a level begins the level before
before_level : (es : List Entry) (level k : ℕ) → level < length (levels_from 0 es) → level ≡ k + 1 → IsLastDecision (take (start_of es level) es) (start_of es k)
before_level es level k lt next =
    let start = level_start es level lt in
    last_level (take (start_of es level) es) (take k (levels_from 0 es)) (start_of es k)
    (start.levels ∙ ap (λ (n : ℕ). take n (levels_from 0 es)) next ∙ take_more (levels_from 0 es) k 0 (omega arith))

pub second_later : (D : List Lit) (u : Lit) (es : List Entry) (level k : ℕ) → level < length (levels_from 0 es) → level ≡ k + 1 → IsOtherAt (lits_of (take (start_of es k) es)) D u
    → HasSecond D u [] (take (start_of es level) es)
second_later D u es level k lt next other =
    let last = before_level es level k lt next in
    let within : start_of es k < length (take (start_of es level) es) = last.within in
    let size = length-take (start_of es level) es in
    let front : take (start_of es k) (take (start_of es level) es) ≡ take (start_of es k) es = take-take (start_of es k) (start_of es level) es (omega arith) in
    second_found D u (take (start_of es level) es) (start_of es k) other.0 last other.1.0 other.1.1.0 (rw front other.1.1.1)

-- the last decision
module _ (es xs : List Entry) (x : Entry) (ys : List Entry) (split : es ≡ xs ++ x ∷ ys) (later : decisions ys ≡ []) (none : x.reason ≡ None) (K : List (List Lit)) (chain : Chain K [] es) where
  pub decisions-last : decisions es ≡ decisions xs ++ x.lit ∷ []
  decisions-last = ap decisions split ∙ decisions-append xs (x ∷ ys) ∙ rw (none, later)

  pub next-last : IsNext K (lits_of xs) x
  next-last = Chain-at K [] xs x ys (rw split at chain)

  pub unit-last : IsUnit (lits_of xs) (map negation (decisions es)) (negation x.lit)
  unit-last = rw decisions-last (decisions-unit (lits_of xs) (decisions xs) x.lit next-last.free (decisions-within xs))

  pub second-last : HasSecond (map negation (decisions es)) (negation x.lit) [] xs
  second-last as' e bs parts undecided =
      let front : Chain K [] xs = Chain-front K [] xs (x ∷ ys) (rw split at chain) in
      let own = Chain-at K [] as' e bs (rw parts at front) in
      let decided : Contains (decisions xs) e.lit = rw parts (decision_in as' e bs undecided) in
      let among : Contains (decisions es) e.lit = rw decisions-last (Contains-append_left (decisions xs) (x.lit ∷ []) e.lit decided) in (
        negation e.lit,
        (
          Contains-negation (decisions es) e.lit among,
          (
            λ same. next-last.free.0 (subst (λ (l : Lit). Contains (lits_of xs) l) (sym (negation-negation e.lit) ∙ ap negation same ∙ negation-negation x.lit) (decisions-within xs e.lit decided)),
            λ t. own.free.0 (rw (negation-negation e.lit) at t),
          ),
        ),
      )

pub decisions_below : (vars : ℕ) (es : List Entry) → All (IsBelow vars) (lits_of es) → All (IsBelow vars) (map negation (decisions es))
decisions_below vars es below = All-map (IsBelow vars) negation (decisions es)
    (All-weaker (Contains (decisions es)) (λ l. IsBelow vars (negation l)) (λ l has. All-contains (IsBelow vars) (lits_of es) l below (decisions-within es l has)) (decisions es) (All-contains_itself (decisions es)))

-- the negated decisions may always be learned
pub decisions_jump : (K : List (List Lit)) (vars : ℕ) (es : List Entry) (level : ℕ) → Chain K [] es → AreEntries vars es → length (levels_from 0 es) ≡ level + 1
    → IsJump vars es (map negation (decisions es)) (negation (get_or es (start_of es level) no_entry).lit) level
decisions_jump K vars es level chain sound last =
    let lt : level < length (levels_from 0 es) = omega arith in
    let p : ℕ = start_of es level in
    let is_last : IsLastDecision es p = last_level es (take level (levels_from 0 es)) p (all_but_last (levels_from 0 es) level last) in
    let split = split_at es p no_entry is_last.within in
    let none = is_last.decision no_entry in
    record {
      within = lt;
      below = decisions_below vars es sound.below;
      unit = unit-last es (take p es) (get_or es p no_entry) (drop (p + 1) es) split is_last.later none K chain;
      second = second-last es (take p es) (get_or es p no_entry) (drop (p + 1) es) split is_last.later none K chain;
    }
  where
    all_but_last : (xs : List ℕ) (n : ℕ) → length xs ≡ n + 1 → xs ≡ take n xs ++ get_or xs n 0 ∷ []
    all_but_last xs n size = sym (take_all (n + 1) xs (omega arith)) ∙ take_more xs n 0 (omega arith)
