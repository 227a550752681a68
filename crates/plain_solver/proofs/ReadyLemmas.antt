use Rattle.std.proofs.Common.{◌≡◌, ℕ, ◌≤◌, inl, inr, List, [], ◌∷◌, ◌++◌, length, take, All, Option, Some, None, get_or, refl, sym, ◌∙◌, ap, subst, arith}
use Rattle.std.specs.Prelude.{Contains, MatchOption}
use Rattle.std.proofs.lemmas.Bool.{cases_lt}
use Rattle.std.proofs.lemmas.List.{take-append-le, take_all, length-map, length_push, length-take-le, get_or_append_left, get_or_push}
use Rattle.std.proofs.lemmas.List.Elements.{Contains-append_left}
use Rattle.sat_formula.specs.declared.lit.Lit.{Lit}
use Rattle.refutation_checker.specs.declared.log.Step.{Step}
use Rattle.refutation_checker.specs.Follows.{IsUnit, known}
use Rattle.refutation_checker.proofs.TrailLemmas.{Contains-nil}
use Rattle.watched_search.specs.declared.entry.Entry.{Entry}
use Rattle.plain_solver.specs.declared.searching.Search.{Search}
use Rattle.watched_search.specs.Trail.{TrailView, lits_of}
use Rattle.watched_search.proofs.TrailLemmas.{lits-append}
use Rattle.cdcl_solver.specs.inner.Chain.{Quiet}
use Rattle.plain_solver.specs.inner.Occurrences.{places_at, IsIndex, Adds, AllKept, IsLooked}
use Rattle.plain_solver.specs.inner.Search.{IsSearching, IsReady, IsOpened, Meets, stepped}
use Rattle.cdcl_solver.proofs.LearnLemmas.{known-push}
use Rattle.plain_solver.proofs.OccurrenceLemmas.{Quiet-kept, Kept-more, Kept-less, Kept-unit, sub_grown}

-- one clause more stands in the index
pub index_more : (room : ℕ) (old new : List (List ℕ)) (known : List (List Lit)) (D : List Lit) → IsIndex room old known → Adds old new D (length known) → IsIndex room new (known ++ D ∷ [])
index_more room old new known D index adds = record {
  size = adds.size ∙ index.size;
  occurs = λ k l lt has.
      let size = length_push known D in
      elim (cases_lt k (length known)) [
        | inl older ↦ adds.kept l k (index.occurs k l older (rw (get_or_append_left known (D ∷ []) [] k older) at has))
        | inr ge ↦
            (let last : length known ≡ k = omega arith in
            subst (λ (j : ℕ). Contains (places_at new l) j) last (adds.added l (rw (get_or_push known D [] k last) at has)))
      ];
}

-- the trail with one entry more, behind which the clauses say nothing but perhaps that entry's literal
module _ (K : List (List Lit)) (es : List Entry) (e : Entry) (quiet : All (Quiet (lits_of es)) K) where
  entered : lits_of (es ++ e ∷ []) ≡ lits_of es ++ e.lit ∷ []
  entered = lits-append es (e ∷ [])

  front : (n : ℕ) → n ≡ length es → take n (lits_of (es ++ e ∷ [])) ≡ lits_of es
  front n same =
      let size : length (lits_of es) ≡ length es = length-map es (λ (x : Entry). x.lit) in
      ap (take n) entered ∙ take-append-le n (lits_of es) (e.lit ∷ []) (omega arith) ∙ take_all n (lits_of es) (omega arith)

  pub kept_entered : (n : ℕ) → n ≡ length es → AllKept K (take n (lits_of (es ++ e ∷ []))) (lits_of (es ++ e ∷ []))
  kept_entered n same = λ k lt. rw (front n same, entered)
      (Kept-more (lits_of es) (lits_of es) (lits_of es ++ e.lit ∷ []) (get_or K k []) (λ l h. Contains-append_left (lits_of es) (e.lit ∷ []) l h) (Quiet-kept (lits_of es) (get_or K k []) (quiet k [] lt)))

  pub kept_learned : (D : List Lit) (n : ℕ) → n ≡ length es → IsUnit (lits_of es) D e.lit → AllKept (K ++ D ∷ []) (take n (lits_of (es ++ e ∷ []))) (lits_of (es ++ e ∷ []))
  kept_learned D n same unit = λ k lt.
      let size = length_push K D in
      elim (cases_lt k (length K)) [
        | inl older ↦ rw (get_or_append_left K (D ∷ []) [] k older) (kept_entered n same k older)
        | inr ge ↦
            (let last : length K ≡ k = omega arith in
            rw (get_or_push K D [] k last, front n same, entered) (Kept-unit (lits_of es) D e.lit unit))
      ]

pub stepped_ready : (s : Search) (step : Step) (forced : Lit) (at : ℕ) (lists : List (List ℕ)) → at ≤ length s.trail.entries → All (Quiet (lits_of (take at s.trail.entries))) (known s.clauses s.steps)
    → IsUnit (lits_of (take at s.trail.entries)) step.lits forced → IsReady (stepped s step forced at lists)
stepped_ready s step forced at lists le quiet unit =
    let es : List Entry = take at s.trail.entries in
    let e : Entry = record { lit = forced; reason = Some (length (known s.clauses s.steps)) } in
    let size : length es ≡ at = length-take-le at s.trail.entries le in
    let longer = length_push es e in
    record {
      head = omega arith;
      kept = rw (known-push s.clauses s.steps step) (kept_learned (known s.clauses s.steps) es e quiet step.lits at (sym size) unit);
    }

-- each clause was looked at once
pub opened : (s : Search) (t : TrailView) (conflict : Option ℕ) → IsSearching s → s.head ≡ 0 → IsLooked (known s.clauses s.steps) s.trail t (λ k. Unit {0}) conflict → IsOpened s (record s { trail = t }) conflict
opened s t conflict searching head looked = record {
  searching = record {
    search = record {
      within = rw looked.room searching.search.within;
      chain = looked.chain;
      follow = searching.search.follow;
      new = searching.search.new;
      some = searching.search.some;
    };
    index = rw looked.room searching.index;
  };
  keeps = record { clauses = refl; room = looked.room };
  steps = refl;
  found = opened_found conflict looked;
}
  where
    opened_found : (o : Option ℕ) → IsLooked (known s.clauses s.steps) s.trail t (λ k. Unit {0}) o → MatchOption o (IsReady (record s { trail = t })) (λ h. Meets (record s { trail = t }) h)
    opened_found None all =
        let T : List Lit = lits_of t.entries in
        record {
          head = rw head (omega arith);
          kept = λ k lt. rw head (Kept-less [] (lits_of s.trail.entries) T (get_or (known s.clauses s.steps) k []) (λ l h. absurd (Contains-nil l h)) (sub_grown s.trail.entries t.entries all.grown.0 all.grown.1) (all.found k tt lt));
        }
    opened_found (Some h) met = met.found
