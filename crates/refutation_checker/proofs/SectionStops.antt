-- Where the reader of a section stops, no section goes on so.
use Rattle.std.proofs.Common.{◌≡◌, ℕ, ◌-◌, ◌<◌, ◌^◌, inl, inr, Bool, true, false, List, [], ◌∷◌, ◌++◌, Some, length, map, replicate, refl, sym, subst, ◌∙◌, ap, arith, append_assoc}
use Rattle.std.specs.Prelude.{codes, All, slice_get}
use Rattle.std.specs.List.{AllByRecursion}
use Rattle.std.proofs.lemmas.List.{append-nil, length-append, length-map, length-replicate, length_push, map-append, map_push}
use Rattle.std.proofs.lemmas.List.Elements.{recursion_from_All, All-nil, All-push, All-append, All-replicate}
use Rattle.sat_formula.specs.declared.lit.Lit.{Lit}
use Rattle.sat_formula.specs.Lit.{IsBelow}
use Rattle.refutation_checker.specs.declared.log.Step.{Step}
use Rattle.refutation_checker.specs.declared.section.Section.{Section}
use Rattle.refutation_checker.specs.declared.section.QueryName.TheVariants.{StepWrong}
use Rattle.refutation_checker.specs.declared.lines.Question.{Question}
use Rattle.refutation_checker.specs.declared.lines.Header.{Header}
use Rattle.refutation_checker.specs.Follows.{ends_empty, is_empty_step}
use Rattle.refutation_checker.specs.Certificate.{clause_text, step_text, end_text, section_lines, text_of_lines, IsHint, IsStep, EndsRightly, IsInGrammar}
use Rattle.refutation_checker.specs.inner.Lines.{IsQuestion, IsHeader, question_line, header_line}
use Rattle.refutation_checker.specs.Place.{Place}
use Rattle.refutation_checker.specs.inner.Sections.{IsLineOf, Takes, Reaches, StopsAtOnce, StopsInClauses, StopsInSteps, StopsInSection}
use Rattle.refutation_checker.proofs.Splits.{same_fronts, next_of_map}
use Rattle.refutation_checker.proofs.Stops.{reaches, takes_none, takes_more, text-append}
use Rattle.refutation_checker.proofs.SectionTexts.{question_of, header_of, question_fits, header_fits, log_lines, section_alone, section_head, steps_next, steps_unended}

-- what lines that were read go on to: some more clauses, an empty clause as the last step, and `end`
empty_step : Step
empty_step = record { id = 0; lits = []; hints = [] }

slice_get_at : {X : Type 0} (xs : List X) (x : X) → slice_get (xs ++ x ∷ []) (length xs) ≡ Some x
slice_get_at [] x = refl
slice_get_at (y ∷ xs) x = slice_get_at xs x

ends_empty_push : (ss : List Step) (s : Step) → is_empty_step (Some s) ≡ true → ends_empty (ss ++ s ∷ []) ≡ true
ends_empty_push ss s e =
    let at : length (ss ++ s ∷ []) - 1 ≡ length ss = omega (arith, length_push ss s) in
    ap is_empty_step (ap (slice_get (ss ++ s ∷ [])) at ∙ slice_get_at ss s) ∙ e

sample : Question → ℕ → List (List Lit) → List Step → Section
sample q vars cs ss = record { level = q.level; typed = q.typed; query = q.query; formula = record { vars = vars; clauses = cs }; log = ss ++ empty_step ∷ []; is_open = false }

sample_fits : (q : Question) (vars : ℕ) (cs : List (List Lit)) (ss : List Step) → IsQuestion q → vars < 2 ^ 31 → length cs < 2 ^ 63 → All (All (IsBelow vars)) cs → All (IsStep vars) ss → IsInGrammar (sample q vars cs ss)
unfolding sample empty_step
sample_fits q vars cs ss asked small few clauses steps = record {
  level = asked.0;
  typed = asked.1;
  vars = small;
  count = few;
  clauses = clauses;
  steps = All-push (IsStep vars) ss empty_step steps (record { id = omega arith; lits = All-nil (IsBelow vars); hints = All-nil IsHint });
  last = ends_empty_push ss empty_step refl;
}

sample_lines : (q : Question) (vars : ℕ) (cs : List (List Lit)) (ss : List Step) → section_lines (sample q vars cs ss) ≡ question_line q ∷ header_line (record { vars = vars; clauses = length cs }) ∷ (map clause_text cs ++ log_lines ss (step_text empty_step ∷ end_text false ∷ []))
unfolding sample empty_step
sample_lines q vars cs ss =
    section_alone (sample q vars cs ss)
    ∙ ap (λ (t : List (List ℕ)). question_line q ∷ header_line (record { vars = vars; clauses = length cs }) ∷ (map clause_text cs ++ codes "log" ∷ t))
    (ap (λ (t : List (List ℕ)). t ++ end_text false ∷ []) (map_push step_text ss empty_step) ∙ append_assoc (map step_text ss) (step_text empty_step ∷ []) (end_text false ∷ []))

reaches_more : (a b : Place) (xs ys : List (List ℕ)) (bytes : List ℕ) (n : ℕ) → Takes a b xs → Reaches b ys bytes n → Reaches a (xs ++ ys) bytes n
reaches_more a b xs ys bytes n p q = record {
  rest = p.rest ∙ ap (λ t. text_of_lines xs ++ t) q.rest ∙ sym (append_assoc (text_of_lines xs) (text_of_lines ys) bytes) ∙ ap (λ t. t ++ bytes) (sym (text-append xs ys));
  number = omega (arith, p.taken, q.number, length-append xs ys);
}

pub question_stops : (a : Place) (n : ℕ) → StopsAtOnce (IsLineOf question_line IsQuestion) a n → StopsInSection a n
question_stops a n stop =
    let q : Question = record { level = 0; typed = false; query = StepWrong } in
    let asked : IsQuestion q = (omega arith, λ e. refl) in record {
      before = [];
      bytes = a.rest;
      reached = reaches a a [] n (takes_none a) stop.0;
      good = (sample q 0 [] [], (sample_fits q 0 [] [] asked (omega arith) (omega arith) (All-nil (All (IsBelow 0))) (All-nil (IsStep 0)), (section_lines (sample q 0 [] []), refl)));
      bad = λ s tail g line more l e k. stop.1 line more l e (question_of s, (question_fits s g, sym (let same : question_line (question_of s) ≡ line = cc in same)));
      unfinished = λ s g e. cc;
    }

pub header_stops : (a b : Place) (n : ℕ) (q : Question) → IsQuestion q → Takes a b (question_line q ∷ []) → StopsAtOnce (IsLineOf header_line IsHeader) b n → StopsInSection a n
header_stops a b n q asked taken stop = record {
  before = question_line q ∷ [];
  bytes = b.rest;
  reached = reaches a b (question_line q ∷ []) n taken stop.0;
  good = (sample q 0 [] [], (sample_fits q 0 [] [] asked (omega arith) (omega arith) (All-nil (All (IsBelow 0))) (All-nil (IsStep 0)), (_, sample_lines q 0 [] [])));
  bad = λ s tail g line more l e k. stop.1 line more l e (header_of s, (header_fits s g, sym (let same : header_line (header_of s) ≡ line = cc in same)));
  unfinished = λ s g e. cc;
}

-- the lines up to the clauses
front : Question → Header → List (List Lit) → List (List ℕ)
front q h cs = question_line q ∷ header_line h ∷ map clause_text cs

takes_front : (a b c d : Place) (q : Question) (h : Header) (cs : List (List Lit)) → Takes a b (question_line q ∷ []) → Takes b c (header_line h ∷ []) → Takes c d (map clause_text cs) → Takes a d (front q h cs)
unfolding front
takes_front a b c d q h cs p r t = takes_more a c d (question_line q ∷ header_line h ∷ []) (map clause_text cs) (takes_more a b c (question_line q ∷ []) (header_line h ∷ []) p r) t

-- a section that begins with some question's line, this header and these clauses
behind_front : (s : Section) (q : Question) (h : Header) (cs : List (List Lit)) (more : List (List ℕ)) → IsInGrammar s → IsHeader h → section_lines s ≡ front q h cs ++ more → (s.formula.vars ≡ h.vars) × ((length s.formula.clauses ≡ h.clauses) × (map clause_text s.formula.clauses ++ log_lines s.log (end_text s.is_open ∷ []) ≡ map clause_text cs ++ more))
unfolding front
behind_front s q h cs more g fits e = section_head s q h [] (map clause_text cs ++ more) g fits (sym (section_alone s) ∙ e)

behind_clauses : (s : Section) (q : Question) (h : Header) (cs : List (List Lit)) (more : List (List ℕ)) → IsInGrammar s → IsHeader h → length cs ≡ h.clauses → section_lines s ≡ front q h cs ++ more → (s.formula.vars ≡ h.vars) × (log_lines s.log (end_text s.is_open ∷ []) ≡ more)
behind_clauses s q h cs more g fits all e =
    let head : (s.formula.vars ≡ h.vars) × ((length s.formula.clauses ≡ h.clauses) × (map clause_text s.formula.clauses ++ log_lines s.log (end_text s.is_open ∷ []) ≡ map clause_text cs ++ more)) = behind_front s q h cs more g fits e in
    let count : length s.formula.clauses ≡ length cs = head.1.0 ∙ sym all in
    (head.0, (same_fronts (map clause_text s.formula.clauses) (map clause_text cs) _ more (simp length-map count) head.1.1).1)

-- a section with this front
sample_front : (q : Question) (h : Header) (cs : List (List Lit)) (ss : List Step) → length cs ≡ h.clauses → section_lines (sample q h.vars cs ss) ≡ front q h cs ++ log_lines ss (step_text empty_step ∷ end_text false ∷ [])
unfolding front
sample_front q h cs ss all =
    sample_lines q h.vars cs ss ∙ ap (λ (n : ℕ). question_line q ∷ header_line (record { vars = h.vars; clauses = n }) ∷ (map clause_text cs ++ log_lines ss (step_text empty_step ∷ end_text false ∷ []))) all

filled : ℕ → List (List Lit) → List (List Lit)
filled n cs = cs ++ replicate (n - length cs) []

length-filled : (n : ℕ) (cs : List (List Lit)) → length cs < n → length (filled n cs) ≡ n
unfolding filled
length-filled n cs few = omega (arith, length-append cs (replicate (n - length cs) []), length-replicate {A = List Lit} (n - length cs) [])

front-filled : (q : Question) (h : Header) (n : ℕ) (cs : List (List Lit)) (more : List (List ℕ)) → front q h (filled n cs) ++ more ≡ front q h cs ++ (map clause_text (replicate (n - length cs) []) ++ more)
unfolding front filled
front-filled q h n cs more =
    ap (λ (t : List (List ℕ)). question_line q ∷ header_line h ∷ t)
    (ap (λ (t : List (List ℕ)). t ++ more) (map-append clause_text cs (replicate (n - length cs) [])) ∙ append_assoc (map clause_text cs) (map clause_text (replicate (n - length cs) [])) more)

All-filled : (vars n : ℕ) (cs : List (List Lit)) → All (All (IsBelow vars)) cs → All (All (IsBelow vars)) (filled n cs)
unfolding filled
All-filled vars n cs fit = All-append (All (IsBelow vars)) cs (replicate (n - length cs) []) fit (All-replicate (All (IsBelow vars)) (n - length cs) [] (All-nil (IsBelow vars)))

pub clauses_stops : (a b c : Place) (n : ℕ) (q : Question) (h : Header) → IsQuestion q → IsHeader h → Takes a b (question_line q ∷ []) → Takes b c (header_line h ∷ []) → StopsInClauses h.vars h.clauses c n → StopsInSection a n
unfolding front
clauses_stops a b c n q h asked fits p r stop =
    let cs : List (List Lit) = stop.clauses in
    let all : length (filled h.clauses cs) ≡ h.clauses = length-filled h.clauses cs stop.few in record {
      before = front q h cs;
      bytes = stop.bytes;
      reached = reaches_more a c (question_line q ∷ header_line h ∷ []) (map clause_text cs) stop.bytes n (takes_more a b c (question_line q ∷ []) (header_line h ∷ []) p r) stop.reached;
      good = (
        sample q h.vars (filled h.clauses cs) [],
        (
          sample_fits q h.vars (filled h.clauses cs) [] asked fits.0 (rw all fits.1) (All-filled h.vars h.clauses cs stop.fit) (All-nil (IsStep h.vars)),
          (_, sample_front q h (filled h.clauses cs) [] all ∙ front-filled q h h.clauses cs _),
        ),
      );
      bad = λ s tail g line more l e k.
          let head : (s.formula.vars ≡ h.vars) × ((length s.formula.clauses ≡ h.clauses) × (map clause_text s.formula.clauses ++ log_lines s.log (end_text s.is_open ∷ []) ≡ map clause_text cs ++ line ∷ tail)) = behind_front s q h cs (line ∷ tail) g fits k in
          let few : length cs < length s.formula.clauses = omega (arith, head.1.0, stop.few) in
          let found : (x : List Lit) × (All (IsBelow s.formula.vars) x × (line ≡ clause_text x)) = next_of_map (All (IsBelow s.formula.vars)) clause_text s.formula.clauses cs line _ tail (recursion_from_All (All (IsBelow s.formula.vars)) s.formula.clauses g.clauses) few head.1.1 in
          stop.no_clause line more l e (found.0, (subst (λ (v : ℕ). All (IsBelow v) found.0) head.0 found.1.0, found.1.1));
      unfinished = λ s g e.
          let head : (s.formula.vars ≡ h.vars) × ((length s.formula.clauses ≡ h.clauses) × (map clause_text s.formula.clauses ++ log_lines s.log (end_text s.is_open ∷ []) ≡ map clause_text cs ++ [])) = behind_front s q h cs [] g fits (sym e ∙ sym (append-nil (front q h cs))) in
          let lengths : length (map clause_text s.formula.clauses ++ log_lines s.log (end_text s.is_open ∷ [])) ≡ length (map clause_text cs ++ []) = ap length head.1.1 in
          omega (arith, head.1.0, stop.few, simp (length-append, length-map) at lengths);
    }

pub log_stops : (a b c d : Place) (n : ℕ) (q : Question) (h : Header) (cs : List (List Lit)) → IsQuestion q → IsHeader h → All (All (IsBelow h.vars)) cs → length cs ≡ h.clauses → Takes a b (question_line q ∷ []) → Takes b c (header_line h ∷ []) → Takes c d (map clause_text cs) → StopsAtOnce (λ line. line ≡ codes "log") d n → StopsInSection a n
log_stops a b c d n q h cs asked fits fit all p r t stop = record {
  before = front q h cs;
  bytes = d.rest;
  reached = reaches a d (front q h cs) n (takes_front a b c d q h cs p r t) stop.0;
  good = (sample q h.vars cs [], (sample_fits q h.vars cs [] asked fits.0 (rw all fits.1) fit (All-nil (IsStep h.vars)), (_, sample_front q h cs [] all)));
  bad = λ s tail g line more l e k.
      let rest : log_lines s.log (end_text s.is_open ∷ []) ≡ line ∷ tail = (behind_clauses s q h cs (line ∷ tail) g fits all k).1 in
      stop.1 line more l e (let same : line ≡ codes "log" = cc in same);
  unfinished = λ s g e.
      let rest : log_lines s.log (end_text s.is_open ∷ []) ≡ [] = (behind_clauses s q h cs [] g fits all (sym e ∙ sym (append-nil (front q h cs)))).1 in
      cc;
}

log_line : List ℕ
log_line = codes "log"

pub steps_stops : (a b c d e : Place) (n : ℕ) (q : Question) (h : Header) (cs : List (List Lit)) → IsQuestion q → IsHeader h → All (All (IsBelow h.vars)) cs → length cs ≡ h.clauses → Takes a b (question_line q ∷ []) → Takes b c (header_line h ∷ []) → Takes c d (map clause_text cs) → Takes d e (codes "log" ∷ []) → StopsInSteps h.vars e n → StopsInSection a n
steps_stops a b c d e n q h cs asked fits fit all p r t u stop =
    let ss : List Step = stop.steps in
    let F : List (List ℕ) = front q h cs in
    let nested : (more : List (List ℕ)) → ((F ++ codes "log" ∷ []) ++ map step_text ss) ++ more ≡ F ++ log_lines ss more =
    λ more. append_assoc (F ++ codes "log" ∷ []) (map step_text ss) more ∙ append_assoc F (codes "log" ∷ []) (map step_text ss ++ more) in record {
      before = (F ++ codes "log" ∷ []) ++ map step_text ss;
      bytes = stop.bytes;
      reached = reaches_more a e (F ++ codes "log" ∷ []) (map step_text ss) stop.bytes n (takes_more a d e F (codes "log" ∷ []) (takes_front a b c d q h cs p r t) u) stop.reached;
      good = (
        sample q h.vars cs ss,
        (
          sample_fits q h.vars cs ss asked fits.0 (rw all fits.1) fit stop.fit,
          (step_text empty_step ∷ end_text false ∷ [], sample_front q h cs ss all ∙ sym (nested (step_text empty_step ∷ end_text false ∷ []))),
        ),
      );
      bad = λ s tail g line more l k is.
          let rest : (s.formula.vars ≡ h.vars) × (log_lines s.log (end_text s.is_open ∷ []) ≡ log_lines ss (line ∷ tail)) = behind_clauses s q h cs (log_lines ss (line ∷ tail)) g fits all (is ∙ nested (line ∷ tail)) in
          let steps : map step_text s.log ++ end_text s.is_open ∷ [] ≡ map step_text ss ++ line ∷ tail = (let whole : log_lines s.log (end_text s.is_open ∷ []) ≡ log_lines ss (line ∷ tail) = rest.1 in cc) in
          let Steps : ℕ → Type 0 = λ v. AllByRecursion (IsStep v) s.log in
          let own : AllByRecursion (IsStep h.vars) s.log = subst Steps rest.0 (recursion_from_All (IsStep s.formula.vars) s.log g.steps) in
          elim (steps_next h.vars fits.0 s.log ss s.is_open line tail own (recursion_from_All (IsStep h.vars) ss stop.fit) steps) [
            | inl found ↦ stop.no_step line more l k found
            | inr both ↦ stop.no_end line more l k (s.is_open, (subst (λ (x : List Step). EndsRightly s.is_open x) both.0 g.last, both.1))
          ];
      unfinished = λ s g is.
          let rest : (s.formula.vars ≡ h.vars) × (log_lines s.log (end_text s.is_open ∷ []) ≡ log_lines ss []) = behind_clauses s q h cs (log_lines ss []) g fits all (sym is ∙ sym (append-nil ((F ++ codes "log" ∷ []) ++ map step_text ss)) ∙ nested []) in
          let steps : map step_text s.log ++ end_text s.is_open ∷ [] ≡ map step_text ss ++ [] = (let whole : log_lines s.log (end_text s.is_open ∷ []) ≡ log_lines ss [] = rest.1 in cc) in
          steps_unended s.log ss s.is_open (sym (append-nil (map step_text ss)) ∙ sym steps);
    }

-- a whole section
pub section_made : (a b c d e f : Place) (q : Question) (h : Header) (cs : List (List Lit)) (ss : List Step) (o : Bool) → IsQuestion q → IsHeader h → All (All (IsBelow h.vars)) cs → length cs ≡ h.clauses → All (IsStep h.vars) ss → EndsRightly o ss → Takes a b (question_line q ∷ []) → Takes b c (header_line h ∷ []) → Takes c d (map clause_text cs) → Takes d e (codes "log" ∷ []) → Takes e f (map step_text ss ++ end_text o ∷ [])
    → IsInGrammar (record { level = q.level; typed = q.typed; query = q.query; formula = record { vars = h.vars; clauses = cs }; log = ss; is_open = o }) × Takes a f (section_lines (record { level = q.level; typed = q.typed; query = q.query; formula = record { vars = h.vars; clauses = cs }; log = ss; is_open = o }))
unfolding front
section_made a b c d e f q h cs ss o asked fits clauses all steps ends p r t u v =
    let s : Section = record { level = q.level; typed = q.typed; query = q.query; formula = record { vars = h.vars; clauses = cs }; log = ss; is_open = o } in
    let F : List (List ℕ) = front q h cs in
    let rest : List (List ℕ) = map step_text ss ++ end_text o ∷ [] in
    let taken : Takes a f ((F ++ codes "log" ∷ []) ++ rest) = takes_more a e f (F ++ codes "log" ∷ []) rest (takes_more a d e F (codes "log" ∷ []) (takes_front a b c d q h cs p r t) u) v in
    let lines : (F ++ codes "log" ∷ []) ++ rest ≡ section_lines s =
    append_assoc F (codes "log" ∷ []) rest ∙ ap (λ (n : ℕ). question_line q ∷ header_line (record { vars = h.vars; clauses = n }) ∷ (map clause_text cs ++ codes "log" ∷ rest)) (sym all) ∙ sym (section_alone s) in
    let T : List (List ℕ) → Type 0 = λ lines. Takes a f lines in (
      record { level = asked.0; typed = asked.1; vars = fits.0; count = rw all fits.1; clauses = clauses; steps = steps; last = ends },
      subst T lines taken,
    )
