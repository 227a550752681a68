-- No line of a certificate holds a line feed.
use Rattle.std.proofs.Common.{◌≡◌, ℕ, ◌<◌, ◌^◌, Bool, true, false, not, List, [], ◌∷◌, ◌++◌, Option, Some, None, map, flat_map, refl, sym, subst, ◌∙◌, arith, eq-eqb}
use Rattle.std.specs.Prelude.{decimal, codes, All, ◌==◌, ◌&&◌}
use Rattle.std.specs.List.{AllByRecursion}
use Rattle.std.proofs.lemmas.Bool.{false≢true}
use Rattle.std.proofs.lemmas.List.Elements.{recursion_from_All}
use Rattle.sat_formula.specs.declared.lit.Lit.{Lit}
use Rattle.sat_formula.specs.Lit.{IsBelow}
use Rattle.refutation_checker.specs.declared.log.Step.{Step}
use Rattle.refutation_checker.specs.declared.section.Section.{Section}
use Rattle.refutation_checker.specs.declared.section.QueryName.{QueryName}
use Rattle.refutation_checker.specs.declared.section.QueryName.TheVariants.{StepWrong, StepBig, InvNotTrue, InvBig, AssumeBig}
use Rattle.refutation_checker.specs.Certificate.{lit_text, clause_text, step_text, end_text, kind_text, level_text, section_lines, first_line, certificate_lines, IsHint, IsStep, IsInGrammar}
use Rattle.refutation_checker.specs.inner.Reading.{Lacks, behind_text, closed_text}
use Rattle.refutation_checker.specs.inner.Lines.{question_line, header_line}
use Rattle.refutation_checker.proofs.Splits.{Lacks-append}
use Rattle.refutation_checker.proofs.Closed.{closed_cons}
use Rattle.refutation_checker.proofs.Numbers.{Lacks-decimal}
use Rattle.refutation_checker.proofs.Literals.{Lacks-lit_text}
use Rattle.refutation_checker.proofs.LineTexts.{question_words, header_words, step_words, Lacks-level}
use Rattle.refutation_checker.proofs.SectionTexts.{question_of, header_of, section_alone}

-- a test that computes
has_no : ℕ → List ℕ → Bool
has_no b [] = true
has_no b (x ∷ xs) = not (x == b) && has_no b xs

tested_cons : (b x : ℕ) (xs : List ℕ) (t : Bool) → (x == b) ≡ t → not t && has_no b xs ≡ true → (x ≡ b → ⊥) × (has_no b xs ≡ true)
tested_cons b x xs true is f = absurd (false≢true f)
tested_cons b x xs false is f = (λ same. false≢true (sym is ∙ eq-eqb x b same), f)

Lacks-tested : (b : ℕ) (xs : List ℕ) → has_no b xs ≡ true → Lacks b xs
unfolding has_no
Lacks-tested b [] e = tt
Lacks-tested b (x ∷ xs) e =
    let parts : (x ≡ b → ⊥) × (has_no b xs ≡ true) = tested_cons b x xs (x == b) refl e in
    (parts.0, Lacks-tested b xs parts.1)

kind_lacks : (q : QueryName) → Lacks 10 (kind_text q)
unfolding has_no
kind_lacks StepWrong = Lacks-tested 10 (kind_text StepWrong) refl
kind_lacks StepBig = Lacks-tested 10 (kind_text StepBig) refl
kind_lacks InvNotTrue = Lacks-tested 10 (kind_text InvNotTrue) refl
kind_lacks InvBig = Lacks-tested 10 (kind_text InvBig) refl
kind_lacks AssumeBig = Lacks-tested 10 (kind_text AssumeBig) refl

end_feeds : (o : Bool) → Lacks 10 (end_text o)
unfolding has_no
end_feeds true = Lacks-tested 10 (end_text true) refl
end_feeds false = Lacks-tested 10 (end_text false) refl

behind_lacks : (b : Option (List ℕ)) → Lacks 10 (behind_text b) → Lacks 10 (48 ∷ behind_text b)
behind_lacks b l = (λ e. omega arith, l)

closed_lacks : {X : Type 0} (f : X → List ℕ) (P : X → Type 0) → ((x : X) → P x → Lacks 10 (f x)) → (xs : List X) (b : Option (List ℕ)) → AllByRecursion P xs → Lacks 10 (behind_text b) → Lacks 10 (closed_text f xs b)
closed_lacks f P lacks [] b a l = behind_lacks b l
closed_lacks f P lacks (x ∷ xs) b a l =
    let L : List ℕ → Type 0 = λ t. Lacks 10 t in
    subst L (sym (closed_cons f x xs b)) (Lacks-append 10 (f x) (32 ∷ closed_text f xs b) (lacks x a.0) (λ e. omega arith, closed_lacks f P lacks xs b a.1 l))

question_feeds : (s : Section) → IsInGrammar s → Lacks 10 (question_line (question_of s))
unfolding has_no
question_feeds s g =
    let L : List ℕ → Type 0 = λ t. Lacks 10 t in
    subst L (sym (question_words s.typed s.level s.query)) (Lacks-append 10 (codes "query ") (level_text s.typed s.level ++ 32 ∷ kind_text s.query) (Lacks-tested 10 (codes "query ") refl)
    (Lacks-append 10 (level_text s.typed s.level) (32 ∷ kind_text s.query) (Lacks-level 10 s.typed s.level (omega arith) g.level) (λ e. omega arith, kind_lacks s.query)))

header_feeds : (s : Section) → IsInGrammar s → Lacks 10 (header_line (header_of s))
unfolding has_no
header_feeds s g =
    let L : List ℕ → Type 0 = λ t. Lacks 10 t in
    subst L (sym (header_words (header_of s).vars (header_of s).clauses)) (Lacks-append 10 (codes "p cnf ") (decimal (header_of s).vars ++ 32 ∷ decimal (header_of s).clauses) (Lacks-tested 10 (codes "p cnf ") refl)
    (Lacks-append 10 (decimal (header_of s).vars) (32 ∷ decimal (header_of s).clauses) (Lacks-decimal 10 (header_of s).vars (omega arith) (omega (arith, g.vars))) (λ e. omega arith, Lacks-decimal 10 (header_of s).clauses (omega arith) g.count)))

clause_feeds : (vars : ℕ) → vars < 2 ^ 31 → (c : List Lit) → All (IsBelow vars) c → Lacks 10 (clause_text c)
clause_feeds vars h c below = closed_lacks lit_text (IsBelow vars) (Lacks-lit_text 10 vars (omega arith) h) c None (recursion_from_All (IsBelow vars) c below) tt

step_feeds : (vars : ℕ) → vars < 2 ^ 31 → (s : Step) → IsStep vars s → Lacks 10 (step_text s)
step_feeds vars h s fits =
    rw step_words (Lacks-append 10 (decimal s.id) (32 ∷ closed_text lit_text s.lits (Some (closed_text decimal s.hints None))) (Lacks-decimal 10 s.id (omega arith) fits.id) (
      λ e. omega arith,
      closed_lacks lit_text (IsBelow vars) (Lacks-lit_text 10 vars (omega arith) h) s.lits (Some (closed_text decimal s.hints None)) (recursion_from_All (IsBelow vars) s.lits fits.lits)
          (λ e. omega arith, closed_lacks decimal IsHint (λ x p. Lacks-decimal 10 x (omega arith) p.1) s.hints None (recursion_from_All IsHint s.hints fits.hints) tt),
    ))

map_feeds : {X : Type 0} (f : X → List ℕ) (P : X → Type 0) → ((x : X) → P x → Lacks 10 (f x)) → (xs : List X) → AllByRecursion P xs → AllByRecursion (Lacks 10) (map f xs)
map_feeds f P lacks [] a = tt
map_feeds f P lacks (x ∷ xs) a = (lacks x a.0, map_feeds f P lacks xs a.1)

pub recursion-append : {X : Type 0} (P : X → Type 0) (xs ys : List X) → AllByRecursion P xs → AllByRecursion P ys → AllByRecursion P (xs ++ ys)
recursion-append P [] ys a b = b
recursion-append P (x ∷ xs) ys a b = (a.0, recursion-append P xs ys a.1 b)

pub recursion-front : {X : Type 0} (P : X → Type 0) (xs ys : List X) → AllByRecursion P (xs ++ ys) → AllByRecursion P xs
recursion-front P [] ys a = tt
recursion-front P (x ∷ xs) ys a = (a.0, recursion-front P xs ys a.1)

pub recursion-back : {X : Type 0} (P : X → Type 0) (xs ys : List X) → AllByRecursion P (xs ++ ys) → AllByRecursion P ys
recursion-back P [] ys a = a
recursion-back P (x ∷ xs) ys a = recursion-back P xs ys a.1

pub section_feeds : (s : Section) → IsInGrammar s → AllByRecursion (Lacks 10) (section_lines s)
unfolding has_no
section_feeds s g =
    let F : List (List ℕ) → Type 0 = λ lines. AllByRecursion (Lacks 10) lines in
    subst F (sym (section_alone s)) (
      question_feeds s g,
      (
        header_feeds s g,
        recursion-append (Lacks 10) (map clause_text s.formula.clauses) (codes "log" ∷ (map step_text s.log ++ end_text s.is_open ∷ []))
            (map_feeds clause_text (All (IsBelow s.formula.vars)) (clause_feeds s.formula.vars g.vars) s.formula.clauses (recursion_from_All (All (IsBelow s.formula.vars)) s.formula.clauses g.clauses)) (
              Lacks-tested 10 (codes "log") refl,
              recursion-append (Lacks 10) (map step_text s.log) (end_text s.is_open ∷ [])
                  (map_feeds step_text (IsStep s.formula.vars) (step_feeds s.formula.vars g.vars) s.log (recursion_from_All (IsStep s.formula.vars) s.log g.steps))
                  (end_feeds s.is_open, tt),
            ),
      ),
    )

sections_feed : (ss : List Section) → AllByRecursion IsInGrammar ss → AllByRecursion (Lacks 10) (flat_map section_lines ss)
sections_feed [] a = tt
sections_feed (s ∷ ss) a = recursion-append (Lacks 10) (section_lines s) (flat_map section_lines ss) (section_feeds s a.0) (sections_feed ss a.1)

pub certificate_feeds : (ss : List Section) → All IsInGrammar ss → AllByRecursion (Lacks 10) (certificate_lines ss)
unfolding has_no
certificate_feeds ss fit = (Lacks-tested 10 first_line refl, sections_feed ss (recursion_from_All IsInGrammar ss fit))
