use Rattle.std.proofs.Common.{◌≡◌, ℕ, suc, ◌+◌, ◌<◌, ◌≤◌, inl, inr, List, [], ◌∷◌, ◌++◌, length, drop, take, Option, Some, None, get_or, refl, sym, ◌∙◌, ap, subst, arith, append_assoc, length-append}
use Rattle.std.proofs.lemmas.Bool.{cases_lt}
use Rattle.std.proofs.lemmas.List.{take_at, take-append-drop, take-take, drop_more, get_or-take, length-take}
use Rattle.sat_formula.specs.declared.lit.Lit.{Lit}
use Rattle.watched_search.specs.declared.entry.Entry.{Entry}
use Rattle.watched_search.specs.Searching.{Forced}
use Rattle.cdcl_solver.specs.inner.Chain.{IsLastDecision, decided, decisions}
use Rattle.cdcl_solver.specs.inner.Acceptance.{start_of}
use Rattle.cdcl_solver.specs.inner.Levels.{decided_at, levels_from}

-- the same places, counted from the same number
pub levels-append : (k n : ℕ) (xs ys : List Entry) → n ≡ k + length xs → levels_from k (xs ++ ys) ≡ levels_from k xs ++ levels_from n ys
levels-append k n [] ys same = let e : n ≡ k = omega arith in rw e refl
levels-append k n (x ∷ xs) ys same =
    let next : n ≡ k + 1 + length xs = omega arith in
    ap (λ (r : List ℕ). decided_at k x.reason ++ r) (levels-append (k + 1) n xs ys next) ∙ sym (append_assoc (decided_at k x.reason) (levels_from (k + 1) xs) (levels_from n ys))

pub levels-forced : (known : List (List Lit)) (T : List Lit) (k : ℕ) (es : List Entry) → Forced known T es → levels_from k es ≡ []
levels-forced known T k [] f = refl
levels-forced known T k (e ∷ es) f = rw (f.0.1, levels-forced known (T ++ e.lit ∷ []) (k + 1) es f.1) refl

some_items : {X : Type 0} {Y : Type 0} (x : X) (xs : List X) → x ∷ xs ≡ [] → Y
some_items x xs e = cc

none_decided : (k : ℕ) (e : Entry) (es : List Entry) (r : Option ℕ) → (levels_from (k + 1) es ≡ [] → decisions es ≡ []) → decided_at k r ++ levels_from (k + 1) es ≡ [] → decided e.lit r ++ decisions es ≡ []
none_decided k e es None rest h = some_items k (levels_from (k + 1) es) h
none_decided k e es (Some c) rest h = rest h

pub levels-none : (k : ℕ) (es : List Entry) → levels_from k es ≡ [] → decisions es ≡ []
levels-none k [] h = refl
levels-none k (e ∷ es) h = none_decided k e es e.reason (levels-none (k + 1) es) h

-- a place among the levels is a decision's
pub record Split (k : ℕ) (es : List Entry) (ls : List ℕ) (p : ℕ) (rs : List ℕ) : Type 0 where
  pub front : List Entry
  pub entry : Entry
  pub rest : List Entry
  pub split : es ≡ front ++ entry ∷ rest
  pub decision : entry.reason ≡ None
  pub place : p ≡ k + length front
  pub before : levels_from k front ≡ ls
  pub behind : levels_from (p + 1) rest ≡ rs

no_level : {Y : Type 0} (ls : List ℕ) (p : ℕ) (rs : List ℕ) → [] ≡ ls ++ p ∷ rs → Y
no_level [] p rs e = cc
no_level (l ∷ ls) p rs e = cc

heads : (x y : ℕ) (xs ys : List ℕ) → x ∷ xs ≡ y ∷ ys → x ≡ y
heads x y xs ys e = cc

tails : (x y : ℕ) (xs ys : List ℕ) → x ∷ xs ≡ y ∷ ys → xs ≡ ys
tails x y xs ys e = cc

behind_forced : (k : ℕ) (e : Entry) (es : List Entry) (c : ℕ) (ls : List ℕ) (p : ℕ) (rs : List ℕ) → e.reason ≡ Some c → Split (k + 1) es ls p rs → Split k (e ∷ es) ls p rs
behind_forced k e es c ls p rs some s = record {
  front = e ∷ s.front;
  entry = s.entry;
  rest = s.rest;
  split = ap (λ (r : List Entry). e ∷ r) s.split;
  decision = s.decision;
  place = let at : p ≡ k + 1 + length s.front = s.place in omega arith;
  before = rw some s.before;
  behind = s.behind;
}

behind_decided : (k : ℕ) (e : Entry) (es : List Entry) (l : ℕ) (ls : List ℕ) (p : ℕ) (rs : List ℕ) → e.reason ≡ None → k ≡ l → Split (k + 1) es ls p rs → Split k (e ∷ es) (l ∷ ls) p rs
behind_decided k e es l ls p rs none same s = record {
  front = e ∷ s.front;
  entry = s.entry;
  rest = s.rest;
  split = ap (λ (r : List Entry). e ∷ r) s.split;
  decision = s.decision;
  place = let at : p ≡ k + 1 + length s.front = s.place in omega arith;
  before = rw (none, same) (ap (λ (r : List ℕ). l ∷ r) (rw same at s.before));
  behind = s.behind;
}

get_or_behind : (xs : List Entry) (e : Entry) (ys : List Entry) (d : Entry) → get_or (xs ++ e ∷ ys) (length xs) d ≡ e
get_or_behind [] e ys d = refl
get_or_behind (x ∷ xs) e ys d = get_or_behind xs e ys d

drop_behind : (xs : List Entry) (e : Entry) (ys : List Entry) → drop (length xs + 1) (xs ++ e ∷ ys) ≡ ys
drop_behind [] e ys = refl
drop_behind (x ∷ xs) e ys = let next : suc (length xs) + 1 ≡ suc (length xs + 1) = omega arith in rw next (drop_behind xs e ys)

split_at_entry : (k : ℕ) (e : Entry) (es : List Entry) (next : (ls : List ℕ) (p : ℕ) (rs : List ℕ) → levels_from (k + 1) es ≡ ls ++ p ∷ rs → Split (k + 1) es ls p rs)
    (r : Option ℕ) → e.reason ≡ r → (ls : List ℕ) (p : ℕ) (rs : List ℕ) → decided_at k r ++ levels_from (k + 1) es ≡ ls ++ p ∷ rs → Split k (e ∷ es) ls p rs
split_at_entry k e es next (Some c) some ls p rs h = behind_forced k e es c ls p rs some (next ls p rs h)
split_at_entry k e es next None none [] p rs h =
    let same : k ≡ p = heads k p (levels_from (k + 1) es) rs h in
    record {
      front = [];
      entry = e;
      rest = es;
      split = refl;
      decision = none;
      place = omega arith;
      before = refl;
      behind = rw (← same) (tails k p (levels_from (k + 1) es) rs h);
    }
split_at_entry k e es next None none (l ∷ ls) p rs h =
    behind_decided k e es l ls p rs none (heads k l (levels_from (k + 1) es) (ls ++ p ∷ rs) h) (next ls p rs (tails k l (levels_from (k + 1) es) (ls ++ p ∷ rs) h))

pub levels_split : (k : ℕ) (es : List Entry) (ls : List ℕ) (p : ℕ) (rs : List ℕ) → levels_from k es ≡ ls ++ p ∷ rs → Split k es ls p rs
levels_split k [] ls p rs h = no_level ls p rs h
levels_split k (e ∷ es) ls p rs h = split_at_entry k e es (λ ls p rs h. levels_split (k + 1) es ls p rs h) e.reason refl ls p rs h

last_at : (front : List Entry) (e : Entry) (rest : List Entry) → e.reason ≡ None → decisions rest ≡ [] → IsLastDecision (front ++ e ∷ rest) (length front)
last_at front e rest none later = record {
  within = let size = length-append front (e ∷ rest) in omega arith;
  later = rw (drop_behind front e rest) later;
  decision = λ d. rw (get_or_behind front e rest d) none;
}

-- the last level begins at the last decision
pub last_level : (es : List Entry) (ls : List ℕ) (p : ℕ) → levels_from 0 es ≡ ls ++ p ∷ [] → IsLastDecision es p
last_level es ls p h =
    let s = levels_split 0 es ls p [] h in
    let at : p ≡ length s.front = let place : p ≡ 0 + length s.front = s.place in omega arith in
    subst (λ (q : ℕ). IsLastDecision es q) (sym at)
    (subst (λ (x : List Entry). IsLastDecision x (length s.front)) (sym s.split) (last_at s.front s.entry s.rest s.decision (levels-none (p + 1) s.rest s.behind)))

-- where the decision of a level stands, and what stands before it
pub record Start (es : List Entry) (before : List ℕ) (p : ℕ) : Type 0 where
  pub within : p < length es
  pub decision : (d : Entry) → (get_or es p d).reason ≡ None
  pub levels : levels_from 0 (take p es) ≡ before

start_at : (front : List Entry) (e : Entry) (rest : List Entry) (before : List ℕ) → e.reason ≡ None → levels_from 0 front ≡ before → Start (front ++ e ∷ rest) before (length front)
start_at front e rest before none same = record {
  within = let size = length-append front (e ∷ rest) in omega arith;
  decision = λ d. rw (get_or_behind front e rest d) none;
  levels = rw (take_at front (e ∷ rest) (length front) refl) same;
}

pub level_start : (es : List Entry) (level : ℕ) → level < length (levels_from 0 es) → Start es (take level (levels_from 0 es)) (start_of es level)
level_start es level lt =
    let ls : List ℕ = levels_from 0 es in
    let parts : ls ≡ take level ls ++ get_or ls level 0 ∷ drop (level + 1) ls = sym (take-append-drop level ls) ∙ ap (λ (r : List ℕ). take level ls ++ r) (drop_more ls level 0 lt) in
    let s = levels_split 0 es (take level ls) (get_or ls level 0) (drop (level + 1) ls) parts in
    let at : get_or ls level 0 ≡ length s.front = let place : get_or ls level 0 ≡ 0 + length s.front = s.place in omega arith in
    subst (λ (q : ℕ). Start es (take level ls) q) (sym at)
    (subst (λ (x : List Entry). Start x (take level ls) (length s.front)) (sym s.split) (start_at s.front s.entry s.rest (take level ls) s.decision s.before))

-- where an earlier level begins
start_before : (es : List Entry) (back level : ℕ) → back < level → level < length (levels_from 0 es) → start_of es back ≤ start_of es level
start_before es back level lt within =
    let at : ℕ = start_of es level in
    let start = level_start es level within in
    let count = length-take level (levels_from 0 es) in
    let among : back < length (levels_from 0 (take at es)) = rw start.levels (omega arith) in
    let inner = level_start (take at es) back among in
    let same : start_of (take at es) back ≡ start_of es back = ap (λ (ls : List ℕ). get_or ls back 0) start.levels ∙ get_or-take level (levels_from 0 es) back 0 lt in
    let size = length-take at es in
    let there : start_of (take at es) back < length (take at es) = inner.within in
    omega arith

-- what stands before an earlier level is a front of what stands before this one
pub cut_at : (es : List Entry) (back level : ℕ) → back ≤ level → level < length (levels_from 0 es)
    → (rest : List Entry) × (take (start_of es level) es ≡ take (start_of es back) es ++ rest)
cut_at es back level le within =
    let at : ℕ = start_of es level in
    let to : ℕ = start_of es back in
    let before : to ≤ at = elim (cases_lt back level) [
      | inl lt ↦ start_before es back level lt within
      | inr ge ↦ (let same : back ≡ level = omega arith in rw same (omega arith))
    ] in
    (drop to (take at es), sym (take-append-drop to (take at es)) ∙ ap (λ (r : List Entry). r ++ drop to (take at es)) (take-take to at es before))
