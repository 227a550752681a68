-- Each line of a section is one value's.
use Rattle.std.proofs.Common.{◌≡◌, ℕ, ◌+◌, ◌*◌, ◌<◌, ◌^◌, Bool, true, false, List, [], ◌∷◌, ◌++◌, Option, Some, None, length, get_or, refl, sym, ◌∙◌, ap, arith, append_assoc}
use Rattle.std.specs.Prelude.{decimal, codes, All, if◌then◌else◌, ◌==◌}
use Rattle.std.proofs.lemmas.List.{append_cancel_left}
use Rattle.std.proofs.lemmas.List.Elements.{recursion_from_All}
use Rattle.sat_formula.specs.declared.lit.Lit.{Lit}
use Rattle.sat_formula.specs.Lit.{IsBelow}
use Rattle.refutation_checker.specs.declared.log.Step.{Step}
use Rattle.refutation_checker.specs.declared.section.QueryName.{QueryName}
use Rattle.refutation_checker.specs.declared.section.QueryName.TheVariants.{StepWrong, StepBig, InvNotTrue, InvBig, AssumeBig}
use Rattle.refutation_checker.specs.declared.lines.Question.{Question}
use Rattle.refutation_checker.specs.declared.lines.Header.{Header}
use Rattle.refutation_checker.specs.Certificate.{lit_text, clause_text, step_text, level_text, kind_text, question_text, header_text, IsStep, IsHint}
use Rattle.refutation_checker.specs.inner.Reading.{Lacks, Spells, SpellsNone, Closes, ClosesNone, closed_text}
use Rattle.refutation_checker.specs.inner.Lines.{IsLevel, IsQuestion, IsHeader, level_word, question_line, header_line}
use Rattle.refutation_checker.proofs.Splits.{cut_same, cut_none}
use Rattle.refutation_checker.proofs.Closed.{closed_same}
use Rattle.refutation_checker.proofs.Numbers.{Lacks-decimal, Lacks-letter, decimal_same}
use Rattle.refutation_checker.proofs.Literals.{lits_are_words, hints_are_words}

-- a question's words behind `query `
pub question_words : (typed : Bool) (level : ℕ) (query : QueryName) → question_text typed level query ≡ codes "query " ++ (level_text typed level ++ 32 ∷ kind_text query)
question_words typed level query = simp append_assoc

pub header_words : (vars clauses : ℕ) → header_text vars clauses ≡ codes "p cnf " ++ (decimal vars ++ 32 ∷ decimal clauses)
header_words vars clauses = simp append_assoc

pub step_words : (s : Step) → step_text s ≡ decimal s.id ++ 32 ∷ closed_text lit_text s.lits (Some (closed_text decimal s.hints None))
step_words s = simp append_assoc

pub Lacks-level : (b : ℕ) (typed : Bool) (level : ℕ) → b < 48 → level < 2 ^ 32 → Lacks b (level_text typed level)
Lacks-level b true level low small = (λ e. omega arith, (λ e. omega arith, (λ e. omega arith, (λ e. omega arith, (λ e. omega arith, tt)))))
Lacks-level b false level low small = Lacks-decimal b level low (omega arith)

-- each kind has words of its own: their length and first letter tell them apart
kind_number : List ℕ → ℕ
kind_number t = length t * 1000 + get_or t 0 0

kind_of : ℕ → QueryName
kind_of n = if n == 10115 then StepWrong else (if n == 8115 then StepBig else (if n == 9105 then InvNotTrue else (if n == 7105 then InvBig else AssumeBig)))

kind_told : (q : QueryName) → kind_of (kind_number (kind_text q)) ≡ q
unfolding kind_number kind_of
kind_told StepWrong = refl
kind_told StepBig = refl
kind_told InvNotTrue = refl
kind_told InvBig = refl
kind_told AssumeBig = refl

pub kind_same : (p q : QueryName) → kind_text p ≡ kind_text q → p ≡ q
kind_same p q e = sym (kind_told p) ∙ ap (λ t. kind_of (kind_number t)) e ∙ kind_told q

pub level_same : (s t : Bool) (m n : ℕ) → IsLevel (s, m) → IsLevel (t, n) → level_text s m ≡ level_text t n → (s ≡ t) × (m ≡ n)
level_same true true m n p q e = (refl, p.1 refl ∙ sym (q.1 refl))
level_same true false m n p q e = absurd (cut_none 116 [] (decimal n) (codes "yped") (Lacks-letter 116 n (omega arith) (omega (arith, q.0))) (sym e))
level_same false true m n p q e = absurd (cut_none 116 [] (decimal m) (codes "yped") (Lacks-letter 116 m (omega arith) (omega (arith, p.0))) e)
level_same false false m n p q e = (refl, decimal_same m n (omega (arith, p.0)) (omega (arith, q.0)) e)

-- a question's words
pub question_parts : (line words level kind : List ℕ) → line ≡ codes "query " ++ words → (words ≡ level ++ 32 ∷ kind) × Lacks 32 level → (q : Question) → IsQuestion q → line ≡ question_line q → (level ≡ level_word (q.typed, q.level)) × (kind ≡ kind_text q.query)
question_parts line words level kind e cut q fits is =
    cut_same 32 level (level_text q.typed q.level) kind (kind_text q.query) cut.1 (Lacks-level 32 q.typed q.level (omega arith) fits.0)
    (sym cut.0 ∙ append_cancel_left (codes "query ") words _ (sym e ∙ is ∙ question_words q.typed q.level q.query))

pub question_uncut : (line words : List ℕ) → line ≡ codes "query " ++ words → Lacks 32 words → SpellsNone question_line IsQuestion line
question_uncut line words e lacks q fits is =
    cut_none 32 (level_text q.typed q.level) words (kind_text q.query) lacks
    (append_cancel_left (codes "query ") words _ (sym e ∙ is ∙ question_words q.typed q.level q.query))

pub question_same : (p q : Question) → IsQuestion p → IsQuestion q → question_line p ≡ question_line q → (p.typed ≡ q.typed) × ((p.level ≡ q.level) × (p.query ≡ q.query))
question_same p q fit fits e =
    let parts : (level_word (p.typed, p.level) ≡ level_word (q.typed, q.level)) × (kind_text p.query ≡ kind_text q.query) =
    question_parts (question_line p) (level_text p.typed p.level ++ 32 ∷ kind_text p.query) (level_text p.typed p.level) (kind_text p.query) (question_words p.typed p.level p.query) (refl, Lacks-level 32 p.typed p.level (omega arith) fit.0) q fits e in
    let level : (p.typed ≡ q.typed) × (p.level ≡ q.level) = level_same p.typed q.typed p.level q.level fit fits parts.0 in
    (level.0, (level.1, kind_same p.query q.query parts.1))

-- a header's words
pub header_parts : (line words vars clauses : List ℕ) → line ≡ codes "p cnf " ++ words → (words ≡ vars ++ 32 ∷ clauses) × Lacks 32 vars → (h : Header) → IsHeader h → line ≡ header_line h → (vars ≡ decimal h.vars) × (clauses ≡ decimal h.clauses)
header_parts line words vars clauses e cut h fits is =
    cut_same 32 vars (decimal h.vars) clauses (decimal h.clauses) cut.1 (Lacks-decimal 32 h.vars (omega arith) (omega (arith, fits.0)))
    (sym cut.0 ∙ append_cancel_left (codes "p cnf ") words _ (sym e ∙ is ∙ header_words h.vars h.clauses))

pub header_uncut : (line words : List ℕ) → line ≡ codes "p cnf " ++ words → Lacks 32 words → SpellsNone header_line IsHeader line
header_uncut line words e lacks h fits is =
    cut_none 32 (decimal h.vars) words (decimal h.clauses) lacks
    (append_cancel_left (codes "p cnf ") words _ (sym e ∙ is ∙ header_words h.vars h.clauses))

pub header_same : (g h : Header) → IsHeader g → IsHeader h → header_line g ≡ header_line h → (g.vars ≡ h.vars) × (g.clauses ≡ h.clauses)
header_same g h fit fits e =
    let parts : (decimal g.vars ≡ decimal h.vars) × (decimal g.clauses ≡ decimal h.clauses) =
    header_parts (header_line g) (decimal g.vars ++ 32 ∷ decimal g.clauses) (decimal g.vars) (decimal g.clauses) (header_words g.vars g.clauses) (refl, Lacks-decimal 32 g.vars (omega arith) (omega (arith, fit.0))) h fits e in
    (decimal_same g.vars h.vars (omega (arith, fit.0)) (omega (arith, fits.0)) parts.0, decimal_same g.clauses h.clauses fit.1 fits.1 parts.1)

-- a clause that something stands behind is no line
pub clause_unended : (vars : ℕ) → vars < 2 ^ 31 → (line : List ℕ) (c : List Lit) (behind : List ℕ) → Closes lit_text (IsBelow vars) line c (Some behind) → SpellsNone clause_text (All (IsBelow vars)) line
clause_unended vars h line c behind closes d below is =
    let same : (c ≡ d) × (Some behind ≡ None) = closed_same (lits_are_words vars h) c d (Some behind) None (recursion_from_All (IsBelow vars) c closes.0) (recursion_from_All (IsBelow vars) d below) (sym closes.1 ∙ is) in
    cc

pub clause_same : (vars : ℕ) → vars < 2 ^ 31 → (c d : List Lit) → All (IsBelow vars) c → All (IsBelow vars) d → clause_text c ≡ clause_text d → c ≡ d
clause_same vars h c d p q e = (closed_same (lits_are_words vars h) c d None None (recursion_from_All (IsBelow vars) c p) (recursion_from_All (IsBelow vars) d q) e).0

-- a step's words
pub step_parts : (vars : ℕ) (line id words : List ℕ) → (line ≡ id ++ 32 ∷ words) × Lacks 32 id → (s : Step) → IsStep vars s → line ≡ step_text s → (id ≡ decimal s.id) × (words ≡ closed_text lit_text s.lits (Some (closed_text decimal s.hints None)))
step_parts vars line id words cut s fits is =
    cut_same 32 id (decimal s.id) words _ cut.1 (Lacks-decimal 32 s.id (omega arith) fits.id) (sym cut.0 ∙ is ∙ step_words s)

pub step_uncut : (vars : ℕ) (line : List ℕ) → Lacks 32 line → SpellsNone step_text (IsStep vars) line
step_uncut vars line lacks s fits is = cut_none 32 (decimal s.id) line _ lacks (is ∙ step_words s)

pub step_no_id : (vars : ℕ) (line id words : List ℕ) → (line ≡ id ++ 32 ∷ words) × Lacks 32 id → SpellsNone decimal (λ n. n < 2 ^ 63) id → SpellsNone step_text (IsStep vars) line
step_no_id vars line id words cut none s fits is = none s.id fits.id (step_parts vars line id words cut s fits is).0

pub step_no_lits : (vars : ℕ) (line id words : List ℕ) → (line ≡ id ++ 32 ∷ words) × Lacks 32 id → ClosesNone lit_text (IsBelow vars) words → SpellsNone step_text (IsStep vars) line
step_no_lits vars line id words cut none s fits is = none s.lits (Some (closed_text decimal s.hints None)) fits.lits (step_parts vars line id words cut s fits is).1

-- what is behind the literals
step_behind : (vars : ℕ) → vars < 2 ^ 31 → (line id words : List ℕ) (lits : List Lit) (behind : Option (List ℕ)) → (line ≡ id ++ 32 ∷ words) × Lacks 32 id → Closes lit_text (IsBelow vars) words lits behind → (s : Step) → IsStep vars s → line ≡ step_text s → (lits ≡ s.lits) × (behind ≡ Some (closed_text decimal s.hints None))
step_behind vars h line id words lits behind cut closes s fits is =
    closed_same (lits_are_words vars h) lits s.lits behind (Some (closed_text decimal s.hints None)) (recursion_from_All (IsBelow vars) lits closes.0) (recursion_from_All (IsBelow vars) s.lits fits.lits)
    (sym closes.1 ∙ (step_parts vars line id words cut s fits is).1)

pub step_ended : (vars : ℕ) → vars < 2 ^ 31 → (line id words : List ℕ) (lits : List Lit) → (line ≡ id ++ 32 ∷ words) × Lacks 32 id → Closes lit_text (IsBelow vars) words lits None → SpellsNone step_text (IsStep vars) line
step_ended vars h line id words lits cut closes s fits is =
    let behind : None ≡ Some (closed_text decimal s.hints None) = (step_behind vars h line id words lits None cut closes s fits is).1 in
    cc

step_hints : (vars : ℕ) → vars < 2 ^ 31 → (line id words : List ℕ) (lits : List Lit) (text : List ℕ) → (line ≡ id ++ 32 ∷ words) × Lacks 32 id → Closes lit_text (IsBelow vars) words lits (Some text) → (s : Step) → IsStep vars s → line ≡ step_text s → text ≡ closed_text decimal s.hints None
step_hints vars h line id words lits text cut closes s fits is =
    let behind : Some text ≡ Some (closed_text decimal s.hints None) = (step_behind vars h line id words lits (Some text) cut closes s fits is).1 in
    cc

pub step_no_hints : (vars : ℕ) → vars < 2 ^ 31 → (line id words : List ℕ) (lits : List Lit) (text : List ℕ) → (line ≡ id ++ 32 ∷ words) × Lacks 32 id → Closes lit_text (IsBelow vars) words lits (Some text) → ClosesNone decimal IsHint text → SpellsNone step_text (IsStep vars) line
step_no_hints vars h line id words lits text cut closes none s fits is =
    none s.hints None fits.hints (step_hints vars h line id words lits text cut closes s fits is)

pub step_unended : (vars : ℕ) → vars < 2 ^ 31 → (line id words : List ℕ) (lits : List Lit) (text : List ℕ) (hints more : List ℕ) → (line ≡ id ++ 32 ∷ words) × Lacks 32 id → Closes lit_text (IsBelow vars) words lits (Some text) → Closes decimal IsHint text hints (Some more) → SpellsNone step_text (IsStep vars) line
step_unended vars h line id words lits text hints more cut closes ended s fits is =
    let behind : Some more ≡ None = (closed_same hints_are_words hints s.hints (Some more) None (recursion_from_All IsHint hints ended.0) (recursion_from_All IsHint s.hints fits.hints) (sym ended.1 ∙ step_hints vars h line id words lits text cut closes s fits is)).1 in
    cc

pub step_made : (vars : ℕ) (line word words : List ℕ) (id : ℕ) (lits : List Lit) (text : List ℕ) (hints : List ℕ) → (line ≡ word ++ 32 ∷ words) × Lacks 32 word → Spells decimal (λ n. n < 2 ^ 63) word id → Closes lit_text (IsBelow vars) words lits (Some text) → Closes decimal IsHint text hints None → Spells step_text (IsStep vars) line (record { id = id; lits = lits; hints = hints })
step_made vars line word words id lits text hints cut number closes ended =
    let s : Step = record { id = id; lits = lits; hints = hints } in (
      record { id = number.0; lits = closes.0; hints = ended.0 },
      cut.0 ∙ ap (λ t. t ++ 32 ∷ words) number.1 ∙ ap (λ t. decimal id ++ 32 ∷ t) closes.1
          ∙ ap (λ t. decimal id ++ 32 ∷ closed_text lit_text lits (Some t)) ended.1 ∙ sym (step_words s),
    )

pub step_same : (vars : ℕ) → vars < 2 ^ 31 → (s t : Step) → IsStep vars s → IsStep vars t → step_text s ≡ step_text t → s ≡ t
step_same vars h s t p q e =
    let cut : (step_text s ≡ decimal s.id ++ 32 ∷ closed_text lit_text s.lits (Some (closed_text decimal s.hints None))) × Lacks 32 (decimal s.id) = (step_words s, Lacks-decimal 32 s.id (omega arith) p.id) in
    let closes : Closes lit_text (IsBelow vars) (closed_text lit_text s.lits (Some (closed_text decimal s.hints None))) s.lits (Some (closed_text decimal s.hints None)) = (p.lits, refl) in
    let id : s.id ≡ t.id = decimal_same s.id t.id p.id q.id (step_parts vars (step_text s) _ _ cut t q e).0 in
    let lits : s.lits ≡ t.lits = (step_behind vars h (step_text s) _ _ s.lits (Some (closed_text decimal s.hints None)) cut closes t q e).0 in
    let hints : s.hints ≡ t.hints = (closed_same hints_are_words s.hints t.hints None None (recursion_from_All IsHint s.hints p.hints) (recursion_from_All IsHint t.hints q.hints) (step_hints vars h (step_text s) _ _ s.lits _ cut closes t q e)).0 in
    ap (λ (i : ℕ). record { id = i; lits = s.lits; hints = s.hints }) id ∙ ap (λ (l : List Lit). record { id = t.id; lits = l; hints = s.hints }) lits ∙ ap (λ (g : List ℕ). record { id = t.id; lits = t.lits; hints = g }) hints
