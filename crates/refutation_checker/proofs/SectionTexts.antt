-- A section's lines are one section's, and no beginning of another's.
use Rattle.std.proofs.Common.{◌≡◌, ℕ, ◌<◌, ◌^◌, ◌⊎◌, inl, inr, Bool, true, false, List, [], ◌∷◌, ◌++◌, length, map, refl, sym, subst, ◌∙◌, ap, arith, append_assoc}
use Rattle.std.specs.Prelude.{decimal, codes, All}
use Rattle.std.specs.List.{AllByRecursion}
use Rattle.std.proofs.lemmas.List.{append-nil, length-map}
use Rattle.std.proofs.lemmas.List.Elements.{recursion_from_All}
use Rattle.sat_formula.specs.declared.lit.Lit.{Lit}
use Rattle.sat_formula.specs.Lit.{IsBelow}
use Rattle.refutation_checker.specs.declared.log.Step.{Step}
use Rattle.refutation_checker.specs.declared.section.Section.{Section}
use Rattle.refutation_checker.specs.declared.section.QueryName.{QueryName}
use Rattle.refutation_checker.specs.declared.lines.Question.{Question}
use Rattle.refutation_checker.specs.declared.lines.Header.{Header}
use Rattle.refutation_checker.specs.Certificate.{clause_text, step_text, end_text, section_lines, IsStep, IsInGrammar}
use Rattle.refutation_checker.specs.inner.Reading.{Lacks}
use Rattle.refutation_checker.specs.inner.Lines.{IsQuestion, IsHeader, question_line, header_line}
use Rattle.refutation_checker.proofs.Splits.{cut_none, same_fronts}
use Rattle.refutation_checker.proofs.LineTexts.{step_words, question_same, header_same, clause_same, step_same}

abbrev pub question_of : Section → Question
question_of s = record { level = s.level; typed = s.typed; query = s.query }

abbrev pub header_of : Section → Header
header_of s = record { vars = s.formula.vars; clauses = length s.formula.clauses }

pub question_fits : (s : Section) → IsInGrammar s → IsQuestion (question_of s)
question_fits s g = (g.level, g.typed)

pub header_fits : (s : Section) → IsInGrammar s → IsHeader (header_of s)
header_fits s g = (g.vars, g.count)

-- the lines behind the clauses, with more lines behind the section
abbrev pub log_lines : List Step → List (List ℕ) → List (List ℕ)
log_lines steps more = codes "log" ∷ (map step_text steps ++ more)

-- a section's lines, and more behind them, in order
abbrev pub section_and : Section → List (List ℕ) → List (List ℕ)
section_and s more = question_line (question_of s) ∷ header_line (header_of s) ∷ (map clause_text s.formula.clauses ++ log_lines s.log (end_text s.is_open ∷ more))

pub section_shape : (s : Section) (more : List (List ℕ)) → section_lines s ++ more ≡ section_and s more
section_shape s more =
    let M = map clause_text s.formula.clauses in
    let S = map step_text s.log in
    let L : List ℕ = codes "log" in
    let E = end_text s.is_open in
    ap (λ (t : List (List ℕ)). question_line (question_of s) ∷ header_line (header_of s) ∷ t) (append_assoc (M ++ L ∷ S) (E ∷ []) more ∙ append_assoc M (L ∷ S) (E ∷ more))

pub section_alone : (s : Section) → section_lines s ≡ section_and s []
section_alone s = sym (append-nil (section_lines s)) ∙ section_shape s []

-- ends are told from steps, which have blanks
end_lacks : (o : Bool) → Lacks 32 (end_text o)
end_lacks true = (λ e. omega arith, (λ e. omega arith, (λ e. omega arith, (λ e. omega arith, tt))))
end_lacks false = (λ e. omega arith, (λ e. omega arith, (λ e. omega arith, tt)))

pub step_not_end : (s : Step) (o : Bool) → step_text s ≡ end_text o → ⊥
step_not_end s o e = cut_none 32 (decimal s.id) (end_text o) _ (end_lacks o) (sym e ∙ step_words s)

pub end_same : (o p : Bool) → end_text o ≡ end_text p → o ≡ p
end_same true true e = refl
end_same true false e = absurd (omega (arith, ap length e))
end_same false true e = absurd (omega (arith, ap length e))
end_same false false e = refl

-- equal texts of equally many items
pub map_same : {X : Type 0} (P : X → Type 0) (f : X → List ℕ) → ((x y : X) → P x → P y → f x ≡ f y → x ≡ y) → (xs ys : List X) → AllByRecursion P xs → AllByRecursion P ys → map f xs ≡ map f ys → xs ≡ ys
map_same P f same [] [] p q e = refl
map_same P f same [] (y ∷ ys) p q e = absurd (cc)
map_same P f same (x ∷ xs) [] p q e = absurd (cc)
map_same P f same (x ∷ xs) (y ∷ ys) p q e =
    let first : x ≡ y = same x y p.0 q.0 (cc) in
    let others : xs ≡ ys = map_same P f same xs ys p.1 q.1 (cc) in
    cc

pub steps_prefix : (vars : ℕ) → vars < 2 ^ 31 → (ss rs : List Step) (o p : Bool) (t u : List (List ℕ)) → AllByRecursion (IsStep vars) ss → AllByRecursion (IsStep vars) rs → map step_text ss ++ end_text o ∷ t ≡ map step_text rs ++ end_text p ∷ u → (ss ≡ rs) × ((o ≡ p) × (t ≡ u))
steps_prefix vars h [] [] o p t u a b e = (refl, (end_same o p (cc), cc))
steps_prefix vars h [] (r ∷ rs) o p t u a b e = absurd (step_not_end r o (cc))
steps_prefix vars h (s ∷ ss) [] o p t u a b e = absurd (step_not_end s p (cc))
steps_prefix vars h (s ∷ ss) (r ∷ rs) o p t u a b e =
    let first : s ≡ r = step_same vars h s r a.0 b.0 (cc) in
    let others : (ss ≡ rs) × ((o ≡ p) × (t ≡ u)) = steps_prefix vars h ss rs o p t u a.1 b.1 (cc) in
    let rest : ss ≡ rs = others.0 in
    (cc, others.1)

-- the line behind as many lines as there are of `rs` is a step's, or an end behind these steps
pub steps_next : (vars : ℕ) → vars < 2 ^ 31 → (ss rs : List Step) (o : Bool) (line : List ℕ) (t : List (List ℕ)) → AllByRecursion (IsStep vars) ss → AllByRecursion (IsStep vars) rs → map step_text ss ++ end_text o ∷ [] ≡ map step_text rs ++ line ∷ t → ((s : Step) × (IsStep vars s × (line ≡ step_text s))) ⊎ ((ss ≡ rs) × (line ≡ end_text o))
steps_next vars h [] [] o line t a b e = inr (refl, cc)
steps_next vars h (s ∷ ss) [] o line t a b e = inl (s, (a.0, cc))
steps_next vars h [] (r ∷ rs) o line t a b e = absurd (step_not_end r o (cc))
steps_next vars h (s ∷ ss) (r ∷ rs) o line t a b e =
    let first : s ≡ r = step_same vars h s r a.0 b.0 (cc) in
    elim (steps_next vars h ss rs o line t a.1 b.1 (cc)) [
      | inl found ↦ inl found
      | inr both ↦ (let rest : ss ≡ rs = both.0 in inr (cc, both.1))
    ]

-- steps without an end are no steps with one
pub steps_unended : (ss rs : List Step) (o : Bool) → map step_text rs ≡ map step_text ss ++ end_text o ∷ [] → ⊥
steps_unended [] [] o e = cc
steps_unended (s ∷ ss) [] o e = cc
steps_unended [] (r ∷ rs) o e = step_not_end r o (cc)
steps_unended (s ∷ ss) (r ∷ rs) o e = steps_unended ss rs o (cc)

section_is : (s r : Section) → question_of s ≡ question_of r → s.formula.vars ≡ r.formula.vars → s.formula.clauses ≡ r.formula.clauses → s.log ≡ r.log → s.is_open ≡ r.is_open → s ≡ r
section_is s r q v c l o =
    ap (λ (x : Question). record { level = x.level; typed = x.typed; query = x.query; formula = s.formula; log = s.log; is_open = s.is_open }) q
    ∙ ap (λ (x : ℕ). record { level = r.level; typed = r.typed; query = r.query; formula = record { vars = x; clauses = s.formula.clauses }; log = s.log; is_open = s.is_open }) v
    ∙ ap (λ (x : List (List Lit)). record { level = r.level; typed = r.typed; query = r.query; formula = record { vars = r.formula.vars; clauses = x }; log = s.log; is_open = s.is_open }) c
    ∙ ap (λ (x : List Step). record { level = r.level; typed = r.typed; query = r.query; formula = r.formula; log = x; is_open = s.is_open }) l
    ∙ ap (λ (x : Bool). record { level = r.level; typed = r.typed; query = r.query; formula = r.formula; log = r.log; is_open = x }) o

question_is : (p q : Question) → p.typed ≡ q.typed → p.level ≡ q.level → p.query ≡ q.query → p ≡ q
question_is p q t l k =
    ap (λ (x : Bool). record { level = p.level; typed = x; query = p.query }) t
    ∙ ap (λ (x : ℕ). record { level = x; typed = q.typed; query = p.query }) l
    ∙ ap (λ (x : QueryName). record { level = q.level; typed = q.typed; query = x }) k

-- the first two lines, and what is behind them
pub section_head : (s : Section) (q : Question) (h : Header) (t u : List (List ℕ)) → IsInGrammar s → IsHeader h → section_and s t ≡ question_line q ∷ header_line h ∷ u → (s.formula.vars ≡ h.vars) × ((length s.formula.clauses ≡ h.clauses) × (map clause_text s.formula.clauses ++ log_lines s.log (end_text s.is_open ∷ t) ≡ u))
section_head s q h t u g fits e =
    let header : header_line (header_of s) ≡ header_line h = cc in
    let same : (s.formula.vars ≡ h.vars) × (length s.formula.clauses ≡ h.clauses) = header_same (header_of s) h (header_fits s g) fits header in
    (same.0, (same.1, cc))

-- a section that lines begin with is the only one
pub section_prefix : (s r : Section) (t u : List (List ℕ)) → IsInGrammar s → IsInGrammar r → section_lines s ++ t ≡ section_lines r ++ u → (s ≡ r) × (t ≡ u)
section_prefix s r t u g f e =
    let lines : section_and s t ≡ section_and r u = sym (section_shape s t) ∙ e ∙ section_shape r u in
    let question : question_line (question_of s) ≡ question_line (question_of r) = cc in
    let asked : (s.typed ≡ r.typed) × ((s.level ≡ r.level) × (s.query ≡ r.query)) = question_same (question_of s) (question_of r) (question_fits s g) (question_fits r f) question in
    let head : (s.formula.vars ≡ r.formula.vars) × ((length s.formula.clauses ≡ length r.formula.clauses) × (map clause_text s.formula.clauses ++ log_lines s.log (end_text s.is_open ∷ t) ≡ map clause_text r.formula.clauses ++ log_lines r.log (end_text r.is_open ∷ u))) = section_head s (question_of r) (header_of r) t _ g (header_fits r f) lines in
    let vars : s.formula.vars ≡ r.formula.vars = head.0 in
    let count : length s.formula.clauses ≡ length r.formula.clauses = head.1.0 in
    let fronts : (map clause_text s.formula.clauses ≡ map clause_text r.formula.clauses) × (log_lines s.log (end_text s.is_open ∷ t) ≡ log_lines r.log (end_text r.is_open ∷ u)) =
    same_fronts (map clause_text s.formula.clauses) (map clause_text r.formula.clauses) _ _ (simp length-map count) head.1.1 in
    let Fit : ℕ → List (List Lit) → Type 0 = λ v cs. AllByRecursion (All (IsBelow v)) cs in
    let Steps : ℕ → List Step → Type 0 = λ v ss. AllByRecursion (IsStep v) ss in
    let clauses : s.formula.clauses ≡ r.formula.clauses = map_same (All (IsBelow r.formula.vars)) clause_text (λ x y p q. clause_same r.formula.vars f.vars x y p q) s.formula.clauses r.formula.clauses
    (subst (λ (v : ℕ). Fit v s.formula.clauses) vars (recursion_from_All (All (IsBelow s.formula.vars)) s.formula.clauses g.clauses)) (recursion_from_All (All (IsBelow r.formula.vars)) r.formula.clauses f.clauses) fronts.0 in
    let log : log_lines s.log (end_text s.is_open ∷ t) ≡ log_lines r.log (end_text r.is_open ∷ u) = fronts.1 in
    let ends : (s.log ≡ r.log) × ((s.is_open ≡ r.is_open) × (t ≡ u)) = steps_prefix r.formula.vars f.vars s.log r.log s.is_open r.is_open t u
    (subst (λ (v : ℕ). Steps v s.log) vars (recursion_from_All (IsStep s.formula.vars) s.log g.steps)) (recursion_from_All (IsStep r.formula.vars) r.log f.steps) (cc) in
    (section_is s r (question_is (question_of s) (question_of r) asked.0 asked.1.0 asked.1.1) vars clauses ends.0 ends.1.0, ends.1.1)
