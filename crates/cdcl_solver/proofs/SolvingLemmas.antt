use Rattle.std.proofs.Common.{◌≡◌, ℕ, ◌+◌, ◌-◌, ◌<◌, ◌≤◌, inl, inr, true, List, [], ◌∷◌, ◌++◌, length, drop, take, map, All, Option, Some, None, get_or, refl, sym, ◌∙◌, ap, subst, arith, length-append}
use Rattle.std.specs.Prelude.{slice_get}
use Rattle.std.proofs.lemmas.Bool.{cases_lt}
use Rattle.std.proofs.lemmas.List.{append-nil, length_push, get_or_push, get_or-append_right, get_or-map, length-map}
use Rattle.std.proofs.lemmas.Option.{slice_get-get_or}
use Rattle.std.proofs.lemmas.List.Elements.{All-nil, All-push, All-weaker}
use Rattle.sat_formula.specs.declared.lit.Lit.{Lit}
use Rattle.sat_formula.specs.Lit.{IsBelow}
use Rattle.sat_formula.specs.Clause.{NamesBelow}
use Rattle.refutation_checker.specs.declared.log.Step.{Step}
use Rattle.refutation_checker.specs.Follows.{negation, known, Follows, is_empty_step}
use Rattle.refutation_checker.proofs.FollowLemmas.{EachFollows-push}
use Rattle.watched_search.specs.declared.entry.Entry.{Entry}
use Rattle.watched_search.specs.Trail.{lits_of, IsFree, AreEntries}
use Rattle.watched_search.specs.Searching.{SearchView, IsOpen, Forced, Propagates}
use Rattle.watched_search.proofs.TrailLemmas.{no_entry}
use Rattle.cdcl_solver.specs.declared.deciding.Deciding.{Deciding}
use Rattle.cdcl_solver.specs.declared.marks.Marks.{Marks}
use Rattle.cdcl_solver.specs.declared.solver.Solver.{Solver}
use Rattle.cdcl_solver.specs.Answers.{IsSpent}
use Rattle.cdcl_solver.specs.inner.Acceptance.{IsJump, start_of}
use Rattle.cdcl_solver.specs.inner.Chain.{Quiet, Chain, IsExplained, decisions}
use Rattle.cdcl_solver.specs.inner.Checking.{empty_trail}
use Rattle.cdcl_solver.specs.inner.Deciding.{AreDecided, IsUndecided}
use Rattle.cdcl_solver.specs.inner.Levels.{levels_from}
use Rattle.cdcl_solver.specs.inner.Solving.{IsSearch, IsSolving, IsSettled, IsDecided, IsLearned, IsAdded, IsFound, IsRefuted, IsComplete, IsUnspent, Advances, Keeps}
use Rattle.cdcl_solver.proofs.AcceptanceLemmas.{Chain-learn, not_false_before, second_before, decisions_jump, decisions_below}
use Rattle.cdcl_solver.proofs.ChainLemmas.{Chain-append, Chain-push, Chain-front, Chain-at, Chain-consistent, Forced-chain, open_quiet, split_at}
use Rattle.cdcl_solver.proofs.DecidingLemmas.{undecided_free, decided_full}
use Rattle.cdcl_solver.proofs.LearnLemmas.{IsUnit-new, EachNew-push, known-push, learned-follows}
use Rattle.cdcl_solver.proofs.LevelLemmas.{levels-append, levels-forced, levels-none, level_start, cut_at}
use Rattle.cdcl_solver.proofs.RoundsLemmas.{steps_bounded, left-decided, left-learned}

-- the log stays
pub record Rest (old new : Solver) : Type 0 where
  pub clauses : new.clauses ≡ old.clauses
  pub steps : new.steps ≡ old.steps
  pub checking : new.checking ≡ old.checking

again : (old new : Solver) → Rest old new → IsSolving old → new.search.vars ≡ old.search.vars → new.search.clauses ≡ old.search.clauses → Chain (known old.clauses old.steps) [] new.search.entries
    → new.levels.items ≡ levels_from 0 new.search.entries → IsSolving new
again old new rest solving vars clauses chain levels = record {
  log = rw (rest.clauses, rest.steps, vars) (record {
    within = solving.log.within;
    chain = chain;
    follow = solving.log.follow;
    new = solving.log.new;
    some = solving.log.some;
  });
  same = rw (rest.clauses, rest.steps) (clauses ∙ solving.same);
  levels = levels;
  checking = rest.checking ∙ solving.checking ∙ ap empty_trail (sym vars);
}

-- the clauses say nothing where each is open
pub all_quiet : (K : List (List Lit)) (es : List Entry) → Chain K [] es → All (IsOpen (lits_of es)) K → All (Quiet (lits_of es)) K
all_quiet K es chain opened = All-weaker (IsOpen (lits_of es)) (Quiet (lits_of es)) (λ c o. open_quiet (lits_of es) c (Chain-consistent K [] es chain) o) K opened

-- propagation
pub settled : (old new : Solver) (found : Option ℕ) → Rest old new → new.levels.items ≡ old.levels.items → IsSolving old → Propagates old.search new.search found
    → AreEntries new.search.vars new.search.entries → IsSettled old new found
settled old new found rest same solving driven sound =
    let K : List (List Lit) = known old.clauses old.steps in
    let es : List Entry = old.search.entries in
    let more : List Entry = driven.each.0 in
    let longer : new.search.entries ≡ es ++ more = driven.each.1 in
    let forced : Forced K (lits_of es) more = rw solving.same at driven.each.2 in
    let vars : new.search.vars ≡ old.search.vars = ap (λ (v : SearchView). v.vars) driven.same in
    let clauses : new.search.clauses ≡ old.search.clauses = ap (λ (v : SearchView). v.clauses) driven.same in
    let levels : levels_from 0 (es ++ more) ≡ levels_from 0 es =
    levels-append 0 (length es) es more (omega arith) ∙ ap (λ (r : List ℕ). levels_from 0 es ++ r) (levels-forced K (lits_of es) (length es) more forced) ∙ append-nil (levels_from 0 es) in
    record {
      solving = again old new rest solving vars clauses (rw longer (Chain-append K [] es more solving.log.chain (Forced-chain K (lits_of es) more forced)))
          (same ∙ solving.levels ∙ sym levels ∙ ap (levels_from 0) (sym longer));
      keeps = record { clauses = rest.clauses; vars = vars };
      steps = rest.steps;
      driven = driven;
      counted = sound.counted;
    }

-- a decision
pub decided_next : (old new : Solver) (l : Lit) → Rest old new → new.levels.items ≡ old.levels.items ++ length old.search.entries ∷ [] → IsSolving old
    → new.search ≡ record old.search { entries = old.search.entries ++ record { lit = l; reason = None } ∷ [] } → All (IsOpen (lits_of old.search.entries)) old.search.clauses
    → IsUndecided old.search.vars old.search.entries l.var → IsDecided old new
decided_next old new l rest same solving pushed opened undecided =
    let K : List (List Lit) = known old.clauses old.steps in
    let es : List Entry = old.search.entries in
    let e : Entry = record { lit = l; reason = None } in
    let vars : new.search.vars ≡ old.search.vars = ap (λ (v : SearchView). v.vars) pushed in
    let clauses : new.search.clauses ≡ old.search.clauses = ap (λ (v : SearchView). v.clauses) pushed in
    let longer : new.search.entries ≡ es ++ e ∷ [] = ap (λ (v : SearchView). v.entries) pushed in
    let quiet : All (Quiet (lits_of es)) K = all_quiet K es solving.log.chain (rw solving.same at opened) in
    let free : IsFree (lits_of es) l = undecided_free old.search.vars es l undecided in
    record {
      solving = again old new rest solving vars clauses (rw longer (Chain-push K [] es e solving.log.chain (record { free = free; why = quiet })))
          (same ∙ ap (λ (r : List ℕ). r ++ length es ∷ []) solving.levels ∙ sym (levels-append 0 (length es) es (e ∷ []) (omega arith)) ∙ ap (levels_from 0) (sym longer));
      keeps = record { clauses = rest.clauses; vars = vars };
      steps = rest.steps;
      more = let size = length_push es e in rw longer (omega arith);
    }

-- a clause that is learned
pub learned : (old new : Solver) (step : Step) (level back : ℕ) (u : Lit) → back ≤ level → IsSolving old → IsAdded old step back new → Follows (known old.clauses old.steps) step
    → IsJump old.search.vars old.search.entries step.lits u level → IsLearned old new
learned old new step level back u le solving added follows jump =
    let K : List (List Lit) = known old.clauses old.steps in
    let D : List Lit = step.lits in
    let es : List Entry = old.search.entries in
    let at : ℕ = start_of es level in
    let start = level_start es level jump.within in
    let chain : Chain K [] (take at es ++ get_or es at no_entry ∷ drop (at + 1) es) = rw (split_at es at no_entry start.within) at solving.log.chain in
    let none = start.decision no_entry in
    let quiet : All (Quiet (lits_of (take at es))) K = rw none at (Chain-at K [] (take at es) (get_or es at no_entry) (drop (at + 1) es) chain).why in
    let front : Chain K [] (take at es) = Chain-front K [] (take at es) (get_or es at no_entry ∷ drop (at + 1) es) chain in
    let kept : List Entry = take (start_of es back) es in
    let cut = cut_at es back level le jump.within in
    let begun = level_start es back (let within : level < length (levels_from 0 es) = jump.within in omega arith) in
    let longer : known old.clauses (old.steps ++ step ∷ []) ≡ K ++ D ∷ [] = known-push old.clauses old.steps step in
    let vars : new.search.vars ≡ old.search.vars = ap (λ (v : SearchView). v.vars) added.search in
    let entries : new.search.entries ≡ kept = ap (λ (v : SearchView). v.entries) added.search in
    let clauses : new.search.clauses ≡ K ++ D ∷ [] = ap (λ (v : SearchView). v.clauses) added.search ∙ ap (λ (r : List (List Lit)). r ++ D ∷ []) solving.same in
    let log : IsSearch old.clauses (old.steps ++ step ∷ []) old.search.vars kept = record {
      within = rw longer (All-push (λ c. All (IsBelow old.search.vars) c) K D solving.log.within jump.below);
      chain = rw longer (Chain-learn K D u jump.unit.member [] kept (Chain-front K [] kept cut.0 (rw cut.1 at front))
          (not_false_before u kept cut.0 (rw cut.1 at jump.unit.not_false)) (second_before D u kept cut.0 (rw cut.1 at jump.second)));
      follow = EachFollows-push old.clauses old.steps step solving.log.follow follows;
      new = EachNew-push old.clauses old.steps step solving.log.new (λ _. IsUnit-new (lits_of (take at es)) D u K jump.unit quiet);
      some = All-push (λ t. 0 < length t.lits) old.steps step solving.log.some (let p : jump.unit.member.0 < length D = jump.unit.member.1 in omega arith);
    } in
    record {
      solving = record {
        log = rw (added.clauses, added.steps, vars, entries) log;
        same = rw (added.clauses, added.steps) (clauses ∙ sym longer);
        levels = added.levels ∙ ap (take back) solving.levels ∙ sym begun.levels ∙ ap (levels_from 0) (sym entries);
        checking = added.checking ∙ solving.checking ∙ ap empty_trail (sym vars);
      };
      keeps = record { clauses = added.clauses; vars = vars };
      longer = ap length added.steps ∙ length_push old.steps step;
    }

-- marks play no part
jumped_at : (s mid new : Solver) (marks : Marks) → mid ≡ record s { marks = marks; checking = mid.checking; pace = mid.pace } → (step : Step) (level back : ℕ) (u : Lit) → back ≤ level
    → IsSolving s → mid.checking ≡ s.checking → Follows (known s.clauses s.steps) step → IsJump s.search.vars s.search.entries step.lits u level → IsAdded mid step back new → IsLearned s new
jumped_at s mid new marks is step level back u le solving same follows jump added =
    let middle : IsSolving mid = rw is (record { log = solving.log; same = solving.same; levels = solving.levels; checking = same ∙ solving.checking }) in
    let all = learned mid new step level back u le middle added (rw is follows) (rw is jump) in
    record {
      solving = all.solving;
      keeps = record { clauses = all.keeps.clauses ∙ ap (λ (t : Solver). t.clauses) is; vars = all.keeps.vars ∙ ap (λ (t : Solver). t.search.vars) is };
      longer = all.longer ∙ ap (λ (t : Solver). length t.steps + 1) is;
    }

pub jumped : (s p mid new : Solver) (step : Step) (level back : ℕ) (u : Lit) → back ≤ level → IsSolving s → p ≡ record s { marks = p.marks }
    → mid ≡ record p { checking = mid.checking; pace = mid.pace } → mid.checking ≡ p.checking → Follows p.search.clauses step
    → IsJump p.search.vars p.search.entries step.lits u level → IsAdded mid step back new → IsLearned s new
jumped s p mid new step level back u le solving same is kept follows jump added =
    jumped_at s mid new p.marks (rw same at is) step level back u le solving (rw same at kept) (rw solving.same at (rw same at follows)) (rw same at jump) added

learned_at : (s new : Solver) (marks : Marks) → IsLearned (record s { marks = marks }) new → IsLearned s new
learned_at s new marks all = record { solving = all.solving; keeps = record { clauses = all.keeps.clauses; vars = all.keeps.vars }; longer = all.longer }

pub learned_from : (s p new : Solver) → p ≡ record s { marks = p.marks } → IsLearned p new → IsLearned s new
learned_from s p new same all = learned_at s new p.marks (rw same at all)

-- the negated decisions are learned
pub decided_learned : (old new : Solver) (c : ℕ) (step : Step) (level : ℕ) → IsSolving old → IsFound old.search (Some c) → AreEntries old.search.vars old.search.entries
    → IsExplained (length (known old.clauses old.steps)) old.search.entries c step → length old.levels.items ≡ level + 1 → IsAdded old step level new → IsLearned old new
decided_learned old new c step level solving conflict sound made last added =
    let K : List (List Lit) = known old.clauses old.steps in
    let es : List Entry = old.search.entries in
    learned old new step level level (negation (get_or es (start_of es level) no_entry).lit) (omega arith) solving added
    (learned-follows K es c step solving.log.chain (rw solving.same at conflict) made)
    (rw made.lits (decisions_jump K old.search.vars es level solving.log.chain sound (sym (ap length solving.levels) ∙ last)))

-- and name no other variables than the trail
pub explained_below : (vars : ℕ) (clauses : ℕ) (es : List Entry) (c : ℕ) (step : Step) → AreEntries vars es → IsExplained clauses es c step → All (IsBelow vars) step.lits
explained_below vars clauses es c step sound made = rw made.lits (decisions_below vars es sound.below)

pub last_index : (xs : List ℕ) (n : ℕ) → (xs ≡ [] → ⊥) → n ≡ length xs → length xs ≡ n - 1 + 1
last_index [] n some same = absurd (some refl)
last_index (x ∷ xs) n some same = omega arith

-- what the clauses name, each step names
pub names_of : (vars : ℕ) (clauses : List (List Lit)) (steps : List Step) → NamesBelow vars (known clauses steps) → All (λ s. All (IsBelow vars) s.lits) steps
names_of vars clauses steps h = λ k d lt.
    let lits : List (List Lit) = map (λ (s : Step). s.lits) steps in
    let size : length lits ≡ length steps = length-map steps (λ (s : Step). s.lits) in
    let both : length (clauses ++ lits) ≡ length clauses + length lits = length-append clauses lits in
    let back : length clauses + k - length clauses ≡ k = omega arith in
    let right : get_or (clauses ++ lits) (length clauses + k) d.lits ≡ get_or lits k d.lits =
    get_or-append_right clauses lits (length clauses) (length clauses + k) d.lits refl (omega arith) ∙ ap (λ (i : ℕ). get_or lits i d.lits) back in
    subst (λ (c : List Lit). All (IsBelow vars) c) (right ∙ get_or-map (λ (s : Step). s.lits) steps k d d.lits lt) (h (length clauses + k) d.lits (omega arith))

-- propagation behind a decision
pub advanced_decided : (old mid new : Solver) (found : Option ℕ) → IsDecided old mid → IsSettled mid new found → Advances old new found
advanced_decided old mid new found decided settled =
    let more : length old.search.entries < length mid.search.entries = decided.more in
    let grown = ap length settled.driven.each.1 in
    let size = length-append mid.search.entries settled.driven.each.0 in
    let vars : new.search.vars ≡ old.search.vars = settled.keeps.vars ∙ decided.keeps.vars in
    let most : length new.search.entries ≤ old.search.vars = rw vars at settled.counted in
    record {
      solving = settled.solving;
      keeps = record { clauses = settled.keeps.clauses ∙ decided.keeps.clauses; vars = vars };
      answer = settled.driven.answer;
      less = rw (vars, settled.steps, decided.steps) (left-decided old.search.vars (length old.steps) (length old.search.entries) (length new.search.entries) (omega arith) most);
    }

-- and behind a clause
pub advanced_learned : (old mid new : Solver) (found : Option ℕ) → Keeps old mid → length mid.steps ≡ length old.steps + 1 → IsSettled mid new found → Advances old new found
advanced_learned old mid new found keeps longer settled =
    let vars : new.search.vars ≡ old.search.vars = settled.keeps.vars ∙ keeps.vars in
    let log = settled.solving.log in
    let most = steps_bounded new.clauses new.steps new.search.vars (names_of new.search.vars new.clauses new.steps log.within) log.new log.some in
    let size : length new.steps ≡ length old.steps + 1 = ap length settled.steps ∙ longer in
    record {
      solving = settled.solving;
      keeps = record { clauses = settled.keeps.clauses ∙ keeps.clauses; vars = vars };
      answer = settled.driven.answer;
      less = rw (vars, size) (left-learned old.search.vars (length old.steps) (length old.search.entries) (length new.search.entries) (rw (vars, size) at most));
    }

pub unspent_more : (budget : Option ℕ) (old new : List Step) → IsUnspent budget old → (budget ≡ Some (length old) → ⊥) → length new ≡ length old + 1 → IsUnspent budget new
unspent_more None old new le ne size = tt
unspent_more (Some n) old new le ne size = elim (cases_lt (length old) n) [
  | inl lt ↦ omega arith
  | inr ge ↦ (let same : n ≡ length old = omega arith in absurd (ne (ap (λ (m : ℕ). Some m) same)))
]

-- each variable has a value
pub complete : (s : Solver) → IsFound s.search None → AreDecided s.search.entries s.search.vars → IsComplete s.search
complete s opened all = record {
  opened = opened;
  full = λ l lt. decided_full s.search.entries s.search.vars l all lt;
}

-- what is decided next plays no part
pub proposed : (s : Solver) (deciding : Deciding) → IsSolving s → IsSolving (record s { deciding = deciding })
proposed s deciding solving = record { log = solving.log; same = solving.same; levels = solving.levels; checking = solving.checking }

pub decided_from : (s new : Solver) (deciding : Deciding) → IsDecided (record s { deciding = deciding }) new → IsDecided s new
decided_from s new deciding all = record { solving = all.solving; keeps = record { clauses = all.keeps.clauses; vars = all.keeps.vars }; steps = all.steps; more = all.more }

-- the empty clause
pub ends_empty_by : (steps : List Step) (s : Step) → s.lits ≡ [] → is_empty_step (slice_get (steps ++ s ∷ []) (length (steps ++ s ∷ []) - 1)) ≡ true
ends_empty_by steps s empty =
    let size = length_push steps s in
    let front : length (steps ++ s ∷ []) - 1 ≡ length steps = omega arith in
    let lt : length steps < length (steps ++ s ∷ []) = omega arith in
    let last : slice_get (steps ++ s ∷ []) (length steps) ≡ Some s = slice_get-get_or (steps ++ s ∷ []) (length steps) s lt ∙ ap Some (get_or_push steps s s (length steps) refl) in
    rw (front, last, empty) refl

pub refuted_next : (old new : Solver) (c : ℕ) (step : Step) → IsSolving old → IsFound old.search (Some c) → IsExplained (length (known old.clauses old.steps)) old.search.entries c step
    → old.levels.items ≡ [] → new.clauses ≡ old.clauses → new.search.vars ≡ old.search.vars → new.steps ≡ old.steps ++ step ∷ [] → IsRefuted old new
refuted_next old new c step solving conflict made none clauses vars steps =
    let K : List (List Lit) = known old.clauses old.steps in
    let es : List Entry = old.search.entries in
    let undecided : decisions es ≡ [] = levels-none 0 es (sym solving.levels ∙ none) in
    let empty : step.lits ≡ [] = made.lits ∙ ap (map negation) undecided in
    let follows : Follows K step = learned-follows K es c step solving.log.chain (rw solving.same at conflict) made in
    let each = EachFollows-push old.clauses old.steps step solving.log.follow follows in
    record {
      keeps = record { clauses = clauses; vars = vars };
      refutes = rw steps (each, ends_empty_by old.steps step empty);
      derived = rw steps (record {
        follow = each;
        names = All-push (λ t. All (IsBelow old.search.vars) t.lits) old.steps step (names_of old.search.vars old.clauses old.steps solving.log.within) (rw empty (All-nil (IsBelow old.search.vars)));
        new = EachNew-push old.clauses old.steps step solving.log.new (λ lt. let no_less : 0 < 0 = rw empty at lt in absurd (omega arith));
      });
      longer = ap length steps ∙ length_push old.steps step;
    }

pub ends_spent : (budget : Option ℕ) (s : Solver) → IsSolving s → budget ≡ Some (length s.steps) → IsSpent s.search.vars s.clauses budget s.steps
ends_spent budget s solving e = record {
  count = e;
  derived = record {
    follow = solving.log.follow;
    names = names_of s.search.vars s.clauses s.steps solving.log.within;
    new = solving.log.new;
  };
  some = solving.log.some;
}

-- where the search goes back to
pub kept_at : (s : Solver) (level keep : ℕ) → IsSolving s → level < length s.levels.items → keep ≡ get_or s.levels.items level 0 → keep ≡ start_of s.search.entries level
kept_at s level keep solving lt same = same ∙ ap (λ (r : List ℕ). get_or r level 0) solving.levels

pub kept_below : (s : Solver) (level keep : ℕ) → IsSolving s → level < length s.levels.items → keep ≡ get_or s.levels.items level 0 → keep ≤ length s.search.entries
kept_below s level keep solving lt same =
    let at = kept_at s level keep solving lt same in
    let start = level_start s.search.entries level (rw solving.levels at lt) in
    let within : start_of s.search.entries level < length s.search.entries = start.within in
    omega arith
