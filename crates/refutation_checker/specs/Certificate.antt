-- The text of a certificate, line by line. Clauses and literals are written as in DIMACS ("Satisfiability:
-- Suggested Format", 1993), steps as in LRAT (Cruz-Filipe and others, "Efficient Certified RAT Verification", 2017).
use Rattle.std.specs.Prelude.{◌≡◌, ℕ, ◌+◌, ◌<◌, ◌^◌, Bool, IsTrue, MatchBool, List, [], ◌∷◌, ◌++◌, length, map, flat_map, All, if◌then◌else◌, codes, decimal}
use Rattle.sat_formula.specs.declared.lit.Lit.{Lit}
use Rattle.sat_formula.specs.Lit.{IsBelow}
use Rattle.sat_formula.specs.Clause.{NamesBelow}
use Rattle.refutation_checker.specs.declared.log.Step.{Step}
use Rattle.refutation_checker.specs.declared.section.Section.{Section}
use Rattle.refutation_checker.specs.declared.section.QueryName.{QueryName}
use Rattle.refutation_checker.specs.Follows.{ends_empty}
use Rattle.refutation_checker.specs.declared.section.QueryName.TheVariants.{StepWrong, StepBig, InvNotTrue, InvBig, AssumeBig}

-- a literal: its variable counted from 1, after a minus sign where it is a negation
abbrev pub lit_text : Lit → List ℕ
lit_text l = (if l.neg then codes "-" else []) ++ decimal (l.var + 1)

-- the literals, each with a blank after it, and a 0
abbrev pub clause_text : List Lit → List ℕ
clause_text c = flat_map (λ l. lit_text l ++ codes " ") c ++ codes "0"

-- the hints in the same way
abbrev pub hints_text : List ℕ → List ℕ
hints_text hs = flat_map (λ h. decimal h ++ codes " ") hs ++ codes "0"

-- a step: its number, its literals, its hints
abbrev pub step_text : Step → List ℕ
step_text s = decimal s.id ++ codes " " ++ clause_text s.lits ++ codes " " ++ hints_text s.hints

abbrev pub level_text : Bool → ℕ → List ℕ
level_text typed level = if typed then codes "typed" else decimal level

abbrev pub kind_text : QueryName → List ℕ
kind_text StepWrong = codes "step-wrong"
kind_text StepBig = codes "step-big"
kind_text InvNotTrue = codes "inv-false"
kind_text InvBig = codes "inv-big"
kind_text AssumeBig = codes "assume-big"

abbrev pub question_text : Bool → ℕ → QueryName → List ℕ
question_text typed level query = codes "query " ++ level_text typed level ++ codes " " ++ kind_text query

abbrev pub query_text : Section → List ℕ
query_text s = question_text s.typed s.level s.query

-- the numbers of variables and of clauses
abbrev pub header_text : ℕ → ℕ → List ℕ
header_text vars clauses = codes "p cnf " ++ decimal vars ++ codes " " ++ decimal clauses

abbrev pub end_text : Bool → List ℕ
end_text is_open = if is_open then codes "open" else codes "end"

-- a section's lines
abbrev pub section_lines : Section → List (List ℕ)
section_lines s =
    query_text s ∷ header_text s.formula.vars (length s.formula.clauses) ∷ map clause_text s.formula.clauses
    ++ codes "log" ∷ map step_text s.log ++ end_text s.is_open ∷ []

-- each line ends with a line feed
abbrev pub text_of_lines : List (List ℕ) → List ℕ
text_of_lines lines = flat_map (λ l. l ++ 10 ∷ []) lines

abbrev pub section_text : Section → List ℕ
section_text s = text_of_lines (section_lines s)

abbrev pub first_line : List ℕ
first_line = codes "tla-refutation 1"

-- the lines of a certificate: the first line, and then those of each section
abbrev pub certificate_lines : List Section → List (List ℕ)
certificate_lines sections = first_line ∷ flat_map section_lines sections

-- a hint is told from the closing 0
abbrev pub IsHint : ℕ → Type 0
IsHint h = (0 < h) × (h < 2 ^ 63)

-- a step over the first `vars` variables. That its number is the next and that each hint is a smaller one is asked
-- where it is checked whether the step follows, and not here
pub record IsStep (vars : ℕ) (s : Step) : Type 0 where
  pub id : s.id < 2 ^ 63
  pub lits : All (IsBelow vars) s.lits
  pub hints : All IsHint s.hints

-- before `open` no step is without literals; `end` follows only a step without literals
abbrev pub EndsRightly : Bool → List Step → Type 0
EndsRightly is_open steps = MatchBool is_open (All (λ s. 0 < length s.lits) steps) (IsTrue (ends_empty steps))

-- the sections whose lines are in the grammar. A typed one has level 0, which is not written
pub record IsInGrammar (s : Section) : Type 0 where
  pub level : s.level < 2 ^ 32
  pub typed : IsTrue s.typed → s.level ≡ 0
  pub vars : s.formula.vars < 2 ^ 31
  pub count : length s.formula.clauses < 2 ^ 63
  pub clauses : NamesBelow s.formula.vars s.formula.clauses
  pub steps : All (IsStep s.formula.vars) s.log
  pub last : EndsRightly s.is_open s.log

-- the first line and each section, printed one after another
abbrev pub certificate_text : List Section → List ℕ
certificate_text sections = text_of_lines (first_line ∷ []) ++ flat_map section_text sections

-- the bytes are the certificate of these sections
abbrev pub IsCertificate : List ℕ → List Section → Type 0
IsCertificate bytes sections = All IsInGrammar sections × (bytes ≡ text_of_lines (certificate_lines sections))

-- some certificate begins with these lines
abbrev pub IsBeginning : List (List ℕ) → Type 0
IsBeginning lines =
    (sections : List Section) × (All IsInGrammar sections × ((tail : List (List ℕ)) × (certificate_lines sections ≡ lines ++ tail)))

-- line n, counted from 1, is the first one outside the grammar: some certificate begins with the lines before it and
-- none with it too; or no whole line is left, and what stands there, nothing or bytes without a line feed, does not
-- end a certificate
pub record IsFirstBadLine (bytes : List ℕ) (n : ℕ) : Type 0 where
  pub before : List (List ℕ)
  pub rest : List ℕ
  pub cut : bytes ≡ text_of_lines before ++ rest
  pub number : n ≡ length before + 1
  pub good : IsBeginning before
  pub bad : (line more : List ℕ) → rest ≡ line ++ 10 ∷ more → IsBeginning (before ++ line ∷ []) → ⊥
  pub unfinished : rest ≡ [] → (sections : List Section) → All IsInGrammar sections → before ≡ certificate_lines sections → ⊥
