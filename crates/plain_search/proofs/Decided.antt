-- What the values decide of the clauses, and the next values in order.
use Rattle.std.proofs.Common.{◌≡◌, ℕ, suc, ◌+◌, ◌-◌, inl, inr, ◌<◌, ◌≤◌, Bool, true, false, List, [], ◌∷◌, ◌++◌, length, All, take, drop, set, get_or, refl, sym, ◌∙◌, ap, subst, arith}
use Rattle.std.specs.Prelude.{◌&&◌, ◌||◌, not, nat_lt, IsTrue}
use Rattle.std.proofs.lemmas.Bool.{or_parts, lt-ltb, cases_lt}
use Rattle.std.proofs.lemmas.List.{take_more_set, get_or_default, get_or-drop, length-drop, take-append-drop}
use Rattle.std.proofs.lemmas.List.Elements.{All-nil, All-cons, All-head, All-tail}
use Rattle.std.proofs.Math.Seq.{take-set-lt, drop-cons}
use Rattle.sat_formula.specs.declared.lit.Lit.{Lit}
use Rattle.sat_formula.specs.Lit.{lit_value, IsBelow}
use Rattle.sat_formula.specs.Clause.{clause_true, AllTrue, NamesBelow}
use Rattle.plain_search.specs.inner.Search.{is_false, has_false, IsTurn}

-- where all have values, a clause that is not false is true
clause_decided : (values : List Bool) (clause : List Lit) → All (IsBelow (length values)) clause → is_false values clause ≡ false → clause_true values clause ≡ true
clause_decided values [] below h = sym h
clause_decided values (l ∷ ls) below h =
    let within : l.var < length values = All-head (IsBelow (length values)) l ls below in
    let has_value : nat_lt l.var (length values) ≡ true = lt-ltb l.var (length values) within in
    (elim (lit_value l values) as (λ b. ((nat_lt l.var (length values) && not b) && is_false values ls) ≡ false → (b || clause_true values ls) ≡ true) [
      | true ↦ (λ e. refl)
      | false ↦ (λ e.
          let rest : is_false values ls ≡ false = sym (ap (λ b. (b && true) && is_false values ls) has_value) ∙ e in
          clause_decided values ls (All-tail (IsBelow (length values)) l ls below) rest)
    ]) h

pub decided : (values : List Bool) (clauses : List (List Lit)) (n : ℕ) → NamesBelow n clauses → n ≡ length values → has_false values clauses ≡ false → AllTrue values clauses
decided values [] n below size h = All-nil (λ c. IsTrue (clause_true values c))
decided values (c ∷ cs) n below size h =
    let parts = or_parts (is_false values c) (has_false values cs) h in
    All-cons (λ x. IsTrue (clause_true values x)) c cs
    (clause_decided values c (subst (λ (k : ℕ). All (IsBelow k) c) size (All-head (λ x. All (IsBelow n) x) c cs below)) parts.0)
    (decided values cs n (All-tail (λ x. All (IsBelow n) x) c cs below) size parts.1)

-- the turn at the last false value
pub turn_at : (old seen short : List Bool) (at : ℕ) → seen ≡ old → at < length seen → get_or seen at true ≡ false
    → ((k : ℕ) → at < k → k < length seen → get_or seen k true ≡ true) → short ≡ take (at + 1) old → IsTurn old (set short at true)
turn_at old seen short at same lt here last cut =
    let within : at < length old = subst (λ (x : List Bool). at < length x) same lt in
    let value : get_or old at true ≡ false = sym (ap (λ (x : List Bool). get_or x at true) same) ∙ here in
    record {
      kept = take at old;
      tried = drop (suc at) old;
      were = sym (take-append-drop at old) ∙ ap (λ (x : List Bool). take at old ++ x) (drop-cons old at true within ∙ ap (λ b. b ∷ drop (suc at) old) value);
      are = ap (λ (x : List Bool). set x at true) cut ∙ sym (take-set-lt (at + 1) old at true (omega arith)) ∙ take_more_set old at true within;
      all_tried = λ k d small.
          let size = length-drop (suc at) old in
          let inside : suc at + k < length old = omega arith in
          let seen_inside : suc at + k < length seen = subst (λ (x : List Bool). suc at + k < length x) (sym same) inside in
          get_or-drop (suc at) old k d ∙ get_or_default old (suc at + k) d true inside ∙ ap (λ (x : List Bool). get_or x (suc at + k) true) (sym same)
          ∙ last (suc at + k) (omega arith) seen_inside;
    }

pub decided_as : (a items seen : List Bool) (clauses : List (List Lit)) (n : ℕ) → NamesBelow n clauses → a ≡ items → seen ≡ items → n ≡ length items
    → has_false seen clauses ≡ false → AllTrue a clauses
decided_as a items seen clauses n below e1 e2 size h =
    subst (λ (x : List Bool). AllTrue x clauses) (sym e1)
    (decided items clauses n below size (subst (λ (x : List Bool). has_false x clauses ≡ false) e2 h))

-- one more true value, from the end
pub still_true : (values : List Bool) (at : ℕ) → 0 < at → get_or values (at - 1) false ≡ true
    → ((k : ℕ) → at ≤ k → k < length values → get_or values k true ≡ true)
    → (k : ℕ) → at - 1 ≤ k → k < length values → get_or values k true ≡ true
still_true values at some here later k le small = elim (cases_lt (at - 1) k) [
  | inl above ↦ later k (omega arith) small
  | inr below ↦
      let same : at - 1 ≡ k = omega arith in
      get_or_default values k true false small ∙ ap (λ (i : ℕ). get_or values i false) (sym same) ∙ here
]
