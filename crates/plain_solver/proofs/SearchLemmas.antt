use Rattle.std.proofs.Common.{◌≡◌, ℕ, ◌+◌, ◌<◌, ◌≤◌, List, [], ◌∷◌, ◌++◌, length, drop, take, map, All, Option, Some, None, get_or, refl, sym, ◌∙◌, ap, subst, arith}
use Rattle.std.proofs.lemmas.List.{length_push, get_or_push, length-take-le}
use Rattle.std.proofs.lemmas.List.Elements.{All-nil, All-push}
use Rattle.sat_formula.specs.declared.lit.Lit.{Lit}
use Rattle.sat_formula.specs.Lit.{IsBelow}
use Rattle.refutation_checker.specs.declared.log.Step.{Step}
use Rattle.refutation_checker.specs.Follows.{negation, IsUnit, known, Follows}
use Rattle.refutation_checker.proofs.FollowLemmas.{EachFollows-push}
use Rattle.watched_search.specs.declared.entry.Entry.{Entry}
use Rattle.watched_search.specs.Trail.{TrailView, lits_of, IsFree}
use Rattle.watched_search.specs.Searching.{IsFalseAt}
use Rattle.cdcl_solver.specs.Answers.{IsSpent}
use Rattle.cdcl_solver.specs.inner.Chain.{Quiet, Chain, IsLastDecision, IsExplained, decisions}
use Rattle.cdcl_solver.specs.inner.Solving.{IsSearch}
use Rattle.cdcl_solver.specs.inner.Weight.{weight}
use Rattle.cdcl_solver.proofs.AcceptanceLemmas.{Chain-learn, unit-last, second-last, next-last, decisions_below}
use Rattle.cdcl_solver.proofs.ChainLemmas.{Chain-front, Chain-push, split_at}
use Rattle.cdcl_solver.proofs.LearnLemmas.{IsUnit-new, learned-follows, EachNew-push, known-push}
use Rattle.cdcl_solver.proofs.SolvingLemmas.{names_of, ends_empty_by}
use Rattle.cdcl_solver.proofs.WeightLemmas.{weight-back, weight-push}
use Rattle.plain_solver.specs.declared.searching.Search.{Search}
use Rattle.plain_solver.specs.inner.Looking.{IsPropagated}
use Rattle.plain_solver.specs.inner.Search.{IsSearching, IsSettled, IsDecided, IsRefuted, IsStepped, Keeps, Meets, Advances, stepped}
use Rattle.plain_solver.proofs.ReadyLemmas.{index_more, kept_entered, stepped_ready}

-- the negated decisions, behind the entries before the last of them
module _ (clauses : List (List Lit)) (steps : List Step) (room : ℕ) (es : List Entry) (c : ℕ) (s : Step) (at : ℕ) (d : Entry)
    (search : IsSearch clauses steps room es) (conflict : IsFalseAt (known clauses steps) (lits_of es) c)
    (made : IsExplained (length (known clauses steps)) es c s) (last : IsLastDecision es at) where
  split : es ≡ take at es ++ get_or es at d ∷ drop (at + 1) es
  split = split_at es at d last.within

  pub unit-learned : IsUnit (lits_of (take at es)) s.lits (negation (get_or es at d).lit)
  unit-learned = rw made.lits (unit-last es (take at es) (get_or es at d) (drop (at + 1) es) split last.later (last.decision d) (known clauses steps) search.chain)

  pub free-learned : IsFree (lits_of (take at es)) (negation (get_or es at d).lit)
  free-learned = (unit-learned.not_true, unit-learned.not_false)

  pub quiet-learned : All (Quiet (lits_of (take at es))) (known clauses steps)
  quiet-learned = rw (last.decision d) at (next-last es (take at es) (get_or es at d) (drop (at + 1) es) split last.later (last.decision d) (known clauses steps) search.chain).why

  pub learned : All (IsBelow room) (lits_of es)
      → IsSearch clauses (steps ++ s ∷ []) room (take at es ++ record { lit = negation (get_or es at d).lit; reason = Some (length (known clauses steps)) } ∷ [])
  learned below =
      let K : List (List Lit) = known clauses steps in
      let D : List Lit = s.lits in
      let u : Lit = negation (get_or es at d).lit in
      let longer : known clauses (steps ++ s ∷ []) ≡ K ++ D ∷ [] = known-push clauses steps s in
      let size = length_push K D in
      let here : get_or (K ++ D ∷ []) (length K) [] ≡ D = get_or_push K D [] (length K) refl in
      let front : Chain K [] (take at es) = Chain-front K [] (take at es) (get_or es at d ∷ drop (at + 1) es) (rw split at search.chain) in
      let second = rw (sym made.lits) at (second-last es (take at es) (get_or es at d) (drop (at + 1) es) split last.later (last.decision d) K search.chain) in
      record {
        within = rw longer (All-push (λ x. All (IsBelow room) x) K D search.within (rw made.lits (decisions_below room es below)));
        chain = rw longer (Chain-push (K ++ D ∷ []) [] (take at es) (record { lit = u; reason = Some (length K) })
            (Chain-learn K D u unit-learned.member [] (take at es) front unit-learned.not_false second)
            (record { free = free-learned; why = ((omega arith), rw here unit-learned) }));
        follow = EachFollows-push clauses steps s search.follow (learned-follows K es c s search.chain conflict made);
        new = EachNew-push clauses steps s search.new (λ _. IsUnit-new (lits_of (take at es)) D u K unit-learned quiet-learned);
        some = All-push (λ t. 0 < length t.lits) steps s search.some (let p : unit-learned.member.0 < length D = unit-learned.member.1 in omega arith);
      }

weight-learned : (room : ℕ) (es : List Entry) (at : ℕ) (d : Entry) (l : Lit) (c : ℕ) → length es ≤ room → IsLastDecision es at
    → weight room (take at es ++ record { lit = l; reason = Some c } ∷ []) < weight room es
weight-learned room es at d l c le last =
    let lt : at < length es = last.within in
    let size = length-take-le at es (omega arith) in
    let w = weight-back room (take at es) (get_or es at d) (drop (at + 1) es) (record { lit = l; reason = Some c }) c (last.decision d) refl (omega arith) in
    subst (λ (t : List Entry). weight room (take at es ++ record { lit = l; reason = Some c } ∷ []) < weight room t) (sym (split_at es at d lt)) w

pub learned_advances : (s : Search) (c : ℕ) (step : Step) (at : ℕ) (d : Entry) (new : Search) → IsSearching s → Meets s c → IsExplained (length (known s.clauses s.steps)) s.trail.entries c step
    → All (IsBelow s.trail.room) (lits_of s.trail.entries) → length s.trail.entries ≤ s.trail.room → IsLastDecision s.trail.entries at
    → IsStepped s step (negation (get_or s.trail.entries at d).lit) at new → Advances s new
learned_advances s c step at d new searching meets made below le last went =
    let es : List Entry = s.trail.entries in
    let K : List (List Lit) = known s.clauses s.steps in
    let u : Lit = negation (get_or es at d).lit in
    let lt : at < length es = last.within in
    let all : Advances s (stepped s step u at went.lists) = record {
      searching = record {
        search = learned s.clauses s.steps s.trail.room es c step at d searching.search meets made last below;
        index = rw (known-push s.clauses s.steps step) (index_more s.trail.room s.occurrences went.lists K step.lits searching.index went.adds);
      };
      ready = stepped_ready s step u at went.lists (omega arith) (quiet-learned s.clauses s.steps s.trail.room es c step at d searching.search meets made last)
          (unit-learned s.clauses s.steps s.trail.room es c step at d searching.search meets made last);
      keeps = record { clauses = refl; room = refl };
      longer = length_push s.steps step;
      smaller = weight-learned s.trail.room es at d _ (length K) le last;
    } in
    subst (λ (n : Search). Advances s n) (sym went.same) all

-- the trail goes on, and the log stays
pub settled : (s : Search) (t : TrailView) (conflict : Option ℕ) → IsSearching s → IsPropagated (known s.clauses s.steps) s.trail t conflict → IsSettled s (record s { trail = t }) conflict
settled s t conflict searching went = record {
  searching = record {
    search = record {
      within = rw went.room searching.search.within;
      chain = went.chain;
      follow = searching.search.follow;
      new = searching.search.new;
      some = searching.search.some;
    };
    index = rw went.room searching.index;
  };
  keeps = record { clauses = refl; room = went.room };
  steps = refl;
  weight = went.weight;
  found = went.found;
}

pub decided_next : (s : Search) (e : Entry) → IsSearching s → e.reason ≡ None → All (Quiet (lits_of s.trail.entries)) (known s.clauses s.steps) → IsFree (lits_of s.trail.entries) e.lit
    → length (s.trail.entries ++ e ∷ []) ≤ s.trail.room → IsDecided s (record s { trail = record s.trail { entries = s.trail.entries ++ e ∷ [] }; head = length s.trail.entries })
decided_next s e searching none quiet free le =
    let size = length_push s.trail.entries e in
    record {
      searching = record {
        search = record {
          within = searching.search.within;
          chain = Chain-push (known s.clauses s.steps) [] s.trail.entries e searching.search.chain (record { free = free; why = rw none quiet });
          follow = searching.search.follow;
          new = searching.search.new;
          some = searching.search.some;
        };
        index = searching.index;
      };
      ready = record {
        head = omega arith;
        kept = kept_entered (known s.clauses s.steps) s.trail.entries e quiet (length s.trail.entries) refl;
      };
      keeps = record { clauses = refl; room = refl };
      steps = refl;
      smaller = weight-push s.trail.room s.trail.entries e (omega arith);
    }

pub refuted_next : (s : Search) (c : ℕ) (step : Step) → IsSearching s → Meets s c → IsExplained (length (known s.clauses s.steps)) s.trail.entries c step → decisions s.trail.entries ≡ []
    → IsRefuted s (record s { steps = s.steps ++ step ∷ [] })
refuted_next s c step searching meets made none =
    let K : List (List Lit) = known s.clauses s.steps in
    let search = searching.search in
    let empty : step.lits ≡ [] = made.lits ∙ ap (map negation) none in
    let follows : Follows K step = learned-follows K s.trail.entries c step search.chain meets made in
    let each = EachFollows-push s.clauses s.steps step search.follow follows in
    record {
      keeps = record { clauses = refl; room = refl };
      refutes = (each, ends_empty_by s.steps step empty);
      derived = record {
        follow = each;
        names = All-push (λ t. All (IsBelow s.trail.room) t.lits) s.steps step (names_of s.trail.room s.clauses s.steps search.within) (rw empty (All-nil (IsBelow s.trail.room)));
        new = EachNew-push s.clauses s.steps step search.new (λ lt. let no_less : 0 < 0 = rw empty at lt in absurd (omega arith));
      };
      longer = length_push s.steps step;
    }

pub keeps_same : (s : Search) → Keeps s s
keeps_same s = record { clauses = refl; room = refl }

pub ends_spent : (budget : Option ℕ) (begun s : Search) → Keeps begun s → IsSearching s → budget ≡ Some (length s.steps) → IsSpent begun.trail.room begun.clauses budget s.steps
ends_spent budget begun s keeps searching e = record {
  count = e;
  derived = record {
    follow = rw keeps.clauses at searching.search.follow;
    names = rw keeps.room at (names_of s.trail.room s.clauses s.steps searching.search.within);
    new = rw keeps.clauses at searching.search.new;
  };
  some = searching.search.some;
}
