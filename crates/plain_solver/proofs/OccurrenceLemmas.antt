use Rattle.std.proofs.Common.{◌≡◌, ℕ, ◌+◌, ◌*◌, ◌<◌, ◌≤◌, ◌⊎◌, inl, inr, Bool, true, false, List, [], ◌∷◌, ◌++◌, length, take, All, Option, Some, None, get_or, refl, sym, ◌∙◌, ap, subst, arith, append_assoc, length-append, set, length-set}
use Rattle.std.specs.Prelude.{Contains, if◌then◌else◌}
use Rattle.std.proofs.lemmas.Bool.{cases_eq}
use Rattle.std.proofs.lemmas.List.{append-nil, take-append-le, take_more, length-map, get_or-map, get_or_default, get_or-set_same, get_or-set_other, take_all}
use Rattle.std.proofs.lemmas.List.Elements.{All-weaker, Contains-append_left, Contains-append_right, Contains-push, Contains-push_cases, Contains-get_or}
use Rattle.sat_formula.specs.declared.lit.Lit.{Lit}
use Rattle.refutation_checker.specs.Follows.{negation, IsFalse, IsUnit}
use Rattle.refutation_checker.proofs.TrailLemmas.{Lit-same, Contains-nil, Contains-cons_cases}
use Rattle.refutation_checker.proofs.StatusLemmas.{Contains-take}
use Rattle.refutation_checker.proofs.HintLemmas.{IsUnit-not_false, IsUnit-unique}
use Rattle.watched_search.specs.declared.entry.Entry.{Entry}
use Rattle.watched_search.specs.Trail.{TrailView, lits_of}
use Rattle.watched_search.specs.Searching.{IsFalseAt}
use Rattle.watched_search.proofs.TrailLemmas.{lits-append}
use Rattle.cdcl_solver.specs.inner.Chain.{Quiet, Chain}
use Rattle.cdcl_solver.specs.inner.Weight.{weight}
use Rattle.plain_solver.specs.inner.Trail.{StandsAt}
use Rattle.plain_solver.specs.inner.Occurrences.{code_of, places_at, IsIndex, Adds, Kept, AllKept, IsLooked}
use Rattle.cdcl_solver.proofs.ChainLemmas.{negation-negation, Chain-push}
use Rattle.cdcl_solver.proofs.WeightLemmas.{weight-push}

bool_cases : (a b : Bool) → (a ≡ b) ⊎ (a ≡ b → ⊥)
bool_cases true true = inl refl
bool_cases true false = inr (λ e. cc)
bool_cases false true = inr (λ e. cc)
bool_cases false false = inl refl

lit_cases : (a b : Lit) → (a ≡ b) ⊎ (a ≡ b → ⊥)
lit_cases a b = elim (cases_eq a.var b.var) [
  | inr ne ↦ inr (λ e. ne (ap (λ (l : Lit). l.var) e))
  | inl v ↦ elim (bool_cases a.neg b.neg) [
    | inl n ↦ inl (Lit-same a b v n)
    | inr ne ↦ inr (λ e. ne (ap (λ (l : Lit). l.neg) e))
  ]
]

has_cases : (T : List Lit) (l : Lit) → Contains T l ⊎ (Contains T l → ⊥)
has_cases [] l = inr (Contains-nil l)
has_cases (x ∷ T) l = elim (lit_cases x l) [
  | inl e ↦ inl (subst (λ (m : Lit). Contains (x ∷ T) m) e (Contains-append_left (x ∷ []) T x (Contains-push [] x)))
  | inr ne ↦ elim (has_cases T l) [
    | inl h ↦ inl (Contains-append_right (x ∷ []) T l h)
    | inr none ↦ inr (λ h. elim (Contains-cons_cases x T l h) [ inl e ↦ ne e | inr r ↦ none r ])
  ]
]

-- each literal of the one list stands in the other
abbrev pub Sub : List Lit → List Lit → Type 0
Sub S T = (l : Lit) → Contains S l → Contains T l

pub Quiet-kept : (T c : List Lit) → Quiet T c → Kept T T c
Quiet-kept T c q = record { not_false = q.0; unit = λ u h. absurd (q.1 u h) }

pub Kept-quiet : (T c : List Lit) → Kept T T c → Quiet T c
Kept-quiet T c h = (h.not_false, λ u unit. unit.not_true (h.unit u unit))

pub Kept-more : (done T U c : List Lit) → Sub T U → Kept done T c → Kept done U c
Kept-more done T U c more h = record { not_false = h.not_false; unit = λ u unit. more u (h.unit u unit) }

IsFalse-sub : (S T c : List Lit) → Sub S T → IsFalse S c → IsFalse T c
IsFalse-sub S T c more f = All-weaker (λ l. Contains S (negation l)) (λ l. Contains T (negation l)) (λ l h. more (negation l) h) c f

-- what holds under more holds under less
pub Kept-less : (S done T c : List Lit) → Sub S done → Sub done T → Kept done T c → Kept S T c
Kept-less S done T c less more h = record {
  not_false = λ f. h.not_false (IsFalse-sub S done c less f);
  unit = λ u unit. elim (has_cases done u) [
    | inl t ↦ more u t
    | inr nt ↦ elim (has_cases done (negation u)) [
      | inl f ↦ absurd (h.not_false (All-weaker (λ l. (l ≡ u) ⊎ Contains S (negation l)) (λ l. Contains done (negation l))
          (λ l o. elim o [ inl e ↦ subst (λ (m : Lit). Contains done (negation m)) (sym e) f | inr g ↦ less (negation l) g ]) c unit.others))
      | inr nf ↦ h.unit u (record {
        member = unit.member;
        not_true = nt;
        not_false = nf;
        others = All-weaker (λ l. (l ≡ u) ⊎ Contains S (negation l)) (λ l. (l ≡ u) ⊎ Contains done (negation l))
            (λ l o. elim o [ inl e ↦ inl e | inr g ↦ inr (less (negation l) g) ]) c unit.others;
      })
    ]
  ];
}

-- one more literal is looked at, whose negation the clause hasn't
pub Kept-next : (done T c : List Lit) (p : Lit) → (Contains c (negation p) → ⊥) → Kept done T c → Kept (done ++ p ∷ []) T c
Kept-next done T c p apart h =
    let back : (l : Lit) → Contains c l → Contains (done ++ p ∷ []) (negation l) → Contains done (negation l) = λ l has g. elim (Contains-push_cases done p (negation l) g) [
      | inl old ↦ old
      | inr e ↦ absurd (apart (subst (λ (m : Lit). Contains c m) (sym (ap negation e ∙ negation-negation l)) has))
    ] in
    record {
      not_false = λ f. h.not_false (λ k d lt. back (get_or c k d) (Contains-get_or c k d lt) (f k d lt));
      unit = λ u unit. h.unit u (record {
        member = unit.member;
        not_true = λ t. unit.not_true (Contains-append_left done (p ∷ []) u t);
        not_false = λ t. unit.not_false (Contains-append_left done (p ∷ []) (negation u) t);
        others = λ k d lt. elim (unit.others k d lt) [ inl e ↦ inl e | inr g ↦ inr (back (get_or c k d) (Contains-get_or c k d lt) g) ];
      });
    }

-- a unit whose literal becomes true
pub Kept-unit : (T c : List Lit) (u : Lit) → IsUnit T c u → Kept T (T ++ u ∷ []) c
Kept-unit T c u unit = record {
  not_false = λ f. IsUnit-not_false T c u unit f;
  unit = λ w other. subst (λ (m : Lit). Contains (T ++ u ∷ []) m) (IsUnit-unique T c u w unit other) (Contains-push T u);
}

pub sub_grown : (old new more : List Entry) → new ≡ old ++ more → Sub (lits_of old) (lits_of new)
sub_grown old new more e = λ l h. rw (e, lits-append old more) (Contains-append_left (lits_of old) (lits_of more) l h)

-- nothing to look at
pub looked_none : (known : List (List Lit)) (t : TrailView) (Places : ℕ → Type 0) → Chain known [] t.entries → ((k : ℕ) → Places k → k < length known → Quiet (lits_of t.entries) (get_or known k [])) → IsLooked known t t Places None
looked_none known t Places chain each = record {
  chain = chain;
  room = refl;
  weight = omega arith;
  grown = ([], sym (append-nil t.entries));
  found = λ k at lt. Quiet-kept (lits_of t.entries) (get_or known k []) (each k at lt);
}

pub looked_false : (known : List (List Lit)) (t : TrailView) (Places : ℕ → Type 0) (h : ℕ) → Chain known [] t.entries → IsFalseAt known (lits_of t.entries) h → IsLooked known t t Places (Some h)
looked_false known t Places h chain f = record {
  chain = chain;
  room = refl;
  weight = omega arith;
  grown = ([], sym (append-nil t.entries));
  found = f;
}

pub looked_unit : (known : List (List Lit)) (t : TrailView) (k : ℕ) (u : Lit) → Chain known [] t.entries → k < length known → IsUnit (lits_of t.entries) (get_or known k []) u → length t.entries < t.room
    → IsLooked known t (record t { entries = t.entries ++ record { lit = u; reason = Some k } ∷ [] }) (λ j. j ≡ k) None
looked_unit known t k u chain lt unit room =
    let e : Entry = record { lit = u; reason = Some k } in
    let less = weight-push t.room t.entries e room in
    record {
      chain = Chain-push known [] t.entries e chain (record { free = (unit.not_true, unit.not_false); why = (lt, unit) });
      room = refl;
      weight = omega arith;
      grown = (e ∷ [], refl);
      found = λ j same below. rw (same, lits-append t.entries (e ∷ [])) (Kept-unit (lits_of t.entries) (get_or known k []) u unit);
    }

module _ (known : List (List Lit)) (a b c : TrailView) (P Q R : ℕ → Type 0) (first : IsLooked known a b P None) where
  both_grown : (conflict : Option ℕ) (second : IsLooked known b c Q conflict) → c.entries ≡ a.entries ++ (first.grown.0 ++ second.grown.0)
  both_grown conflict second = second.grown.1 ∙ ap (λ (es : List Entry). es ++ second.grown.0) first.grown.1 ∙ append_assoc a.entries first.grown.0 second.grown.0

  both_weigh : (conflict : Option ℕ) → IsLooked known b c Q conflict → weight a.room c.entries ≤ weight a.room a.entries
  both_weigh conflict second =
      let x = first.weight in
      let y = rw first.room at second.weight in
      omega arith

  -- and then at more
  pub looked_more : ((k : ℕ) → R k → P k ⊎ Q k) → IsLooked known b c Q None → IsLooked known a c R None
  looked_more cases second =
      let ab = sub_grown a.entries b.entries first.grown.0 first.grown.1 in
      let bc = sub_grown b.entries c.entries second.grown.0 second.grown.1 in
      record {
        chain = second.chain;
        room = second.room ∙ first.room;
        weight = both_weigh None second;
        grown = (first.grown.0 ++ second.grown.0, both_grown None second);
        found = λ k r lt. elim (cases k r) [
          | inl p ↦ Kept-more (lits_of a.entries) (lits_of b.entries) (lits_of c.entries) (get_or known k []) bc (first.found k p lt)
          | inr q ↦ Kept-less (lits_of a.entries) (lits_of b.entries) (lits_of c.entries) (get_or known k []) ab bc (second.found k q lt)
        ];
      }

  pub looked_conflict : (h : ℕ) → IsLooked known b c Q (Some h) → IsLooked known a c R (Some h)
  looked_conflict h second = record {
    chain = second.chain;
    room = second.room ∙ first.room;
    weight = both_weigh (Some h) second;
    grown = (first.grown.0 ++ second.grown.0, both_grown (Some h) second);
    found = second.found;
  }

-- the clauses that name the negation of the next literal were looked at, and so that literal was
pub kept_step : (known : List (List Lit)) (lists : List (List ℕ)) (room next : ℕ) (old new : TrailView) (p : Lit) → IsIndex room lists known → StandsAt old next p
    → AllKept known (take next (lits_of old.entries)) (lits_of old.entries)
    → IsLooked known old new (Contains (places_at lists (negation p))) None
    → AllKept known (take (next + 1) (lits_of new.entries)) (lits_of new.entries)
kept_step known lists room next old new p index stands kept looked = λ k below.
    let T : List Lit = lits_of old.entries in
    let d : Entry = record { lit = p; reason = None } in
    let c : List Lit = get_or known k [] in
    let lt : next < length old.entries = stands.place in
    let more = sub_grown old.entries new.entries looked.grown.0 looked.grown.1 in
    let size : length T ≡ length old.entries = length-map old.entries (λ (e : Entry). e.lit) in
    let same : get_or T next p ≡ p = get_or-map (λ (e : Entry). e.lit) old.entries next d p lt ∙ stands.same d in
    let step : take (next + 1) T ≡ take next T ++ p ∷ [] = take_more T next p (omega arith) ∙ ap (λ (m : Lit). take next T ++ m ∷ []) same in
    let longer : lits_of new.entries ≡ T ++ lits_of looked.grown.0 = ap lits_of looked.grown.1 ∙ lits-append old.entries looked.grown.0 in
    let front : take (next + 1) (lits_of new.entries) ≡ take (next + 1) T = ap (take (next + 1)) longer ∙ take-append-le (next + 1) T (lits_of looked.grown.0) (omega arith) in
    let first : Sub (take (next + 1) T) T = λ l h. Contains-take T (next + 1) l h in
    subst (λ (done : List Lit). Kept done (lits_of new.entries) c) (sym front) (elim (has_cases c (negation p)) [
      | inl has ↦ Kept-less (take (next + 1) T) T (lits_of new.entries) c first more (looked.found k (index.occurs k (negation p) below has) below)
      | inr none ↦ Kept-more (take (next + 1) T) T (lits_of new.entries) c more (subst (λ (done : List Lit). Kept done T c) (sym step) (Kept-next (take next T) T c p none (kept k below)))
    ])

pub grown_past : (old new more : List Entry) (n : ℕ) → new ≡ old ++ more → n < length old → n + 1 ≤ length new
grown_past old new more n e lt = let size = ap length e ∙ length-append old more in omega arith

-- everything was looked at
pub kept_quiet : (known : List (List Lit)) (T : List Lit) (n : ℕ) → length T ≤ n → AllKept known (take n T) T → All (Quiet T) known
kept_quiet known T n le kept = λ k d lt. subst (λ (c : List Lit). Quiet T c) (get_or_default known k [] d lt) (Kept-quiet T (get_or known k []) (subst (λ (done : List Lit). Kept done T (get_or known k [])) (take_all n T le) (kept k lt)))

-- a place more in the list of a literal
places_more : (lists : List (List ℕ)) (l m : Lit) (place k : ℕ) → code_of l < length lists → Contains (places_at lists m) k
    → Contains (places_at (set lists (code_of l) (places_at lists l ++ place ∷ [])) m) k
places_more lists l m place k lt has = elim (cases_eq (code_of m) (code_of l)) [
  | inl same ↦
      (let old : Contains (get_or lists (code_of l) []) k = rw same at has in
      rw (same, get_or-set_same lists (code_of l) (places_at lists l ++ place ∷ []) [] lt) (Contains-append_left (places_at lists l) (place ∷ []) k old))
  | inr apart ↦ rw (get_or-set_other lists (code_of l) (code_of m) (places_at lists l ++ place ∷ []) [] apart) has
]

pub adds_more : (old new : List (List ℕ)) (front : List Lit) (l : Lit) (place : ℕ) → Adds old new front place → code_of l < length new
    → Adds old (set new (code_of l) (places_at new l ++ place ∷ [])) (front ++ l ∷ []) place
adds_more old new front l place h lt = record {
  size = length-set new (code_of l) (places_at new l ++ place ∷ []) ∙ h.size;
  kept = λ m k has. places_more new l m place k lt (h.kept m k has);
  added = λ m has. elim (Contains-push_cases front l m has) [
    | inl was ↦ places_more new l m place place lt (h.added m was)
    | inr here ↦ subst (λ (n : Lit). Contains (places_at (set new (code_of l) (places_at new l ++ place ∷ [])) n) place) here
        (rw (get_or-set_same new (code_of l) (places_at new l ++ place ∷ []) [] lt) (Contains-push (places_at new l) place))
  ];
}

code_within : (v : ℕ) (b : Bool) (n : ℕ) → 2 * v + 1 < n → 2 * v + (if b then 1 else 0) < n
code_within v true n lt = lt
code_within v false n lt = omega arith

pub code_below : (l : Lit) (n : ℕ) → 2 * l.var + 1 < n → code_of l < n
code_below l n lt = code_within l.var l.neg n lt
