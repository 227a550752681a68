-- Counting and trusting the sections of a certificate.
use Rattle.std.proofs.Common.{◌≡◌, ℕ, ◌+◌, ◌<◌, Bool, true, false, not, List, length, take, get_or, sym, subst, ◌∙◌, ap}
use Rattle.std.specs.Prelude.{All, count_by}
use Rattle.std.proofs.lemmas.List.Sums.{count_by_more_yes, count_by_more_no}
use Rattle.refutation_checker.specs.declared.section.Section.{Section}
use Rattle.refutation_checker.specs.declared.answers.Recheck.{Recheck}
use Rattle.refutation_checker.specs.declared.answers.Recheck.TheVariants.{Accepted, BadLine, BadStep}
use Rattle.refutation_checker.specs.Follows.{IsUnsatisfiable}
use Rattle.refutation_checker.specs.Certificate.{IsInGrammar, EndsRightly, IsCertificate}
use Rattle.refutation_checker.specs.Rechecking.{StepsFollow, IsVerdict, RefutesClosed, WhereAccepted}
use Rattle.refutation_checker.proofs.Soundness.{Refutes-sound}
use Rattle.refutation_checker.proofs.CertificateStops.{certificate_same}

pub counts_open : (xs : List Section) (i : ℕ) (s : Section) → i < length xs → s ≡ get_or xs i s → s.is_open ≡ true → (count_by (λ (s : Section). not s.is_open) (take (i + 1) xs) ≡ count_by (λ (s : Section). not s.is_open) (take i xs)) × (count_by (λ (s : Section). s.is_open) (take (i + 1) xs) ≡ count_by (λ (s : Section). s.is_open) (take i xs) + 1)
counts_open xs i s lt is e = (
  count_by_more_no (λ (s : Section). not s.is_open) xs i s lt (ap (λ (t : Section). not t.is_open) (sym is) ∙ ap not e),
  count_by_more_yes (λ (s : Section). s.is_open) xs i s lt (ap (λ (t : Section). t.is_open) (sym is) ∙ e),
)

pub counts_closed : (xs : List Section) (i : ℕ) (s : Section) → i < length xs → s ≡ get_or xs i s → s.is_open ≡ false → (count_by (λ (s : Section). not s.is_open) (take (i + 1) xs) ≡ count_by (λ (s : Section). not s.is_open) (take i xs) + 1) × (count_by (λ (s : Section). s.is_open) (take (i + 1) xs) ≡ count_by (λ (s : Section). s.is_open) (take i xs))
counts_closed xs i s lt is e = (
  count_by_more_yes (λ (s : Section). not s.is_open) xs i s lt (ap (λ (t : Section). not t.is_open) (sym is) ∙ ap not e),
  count_by_more_no (λ (s : Section). s.is_open) xs i s lt (ap (λ (t : Section). t.is_open) (sym is) ∙ e),
)

-- a section that is not open refutes its formula where its steps follow
closed_refutes : (s : Section) → IsInGrammar s → StepsFollow s → s.is_open ≡ false → IsUnsatisfiable s.formula.clauses
closed_refutes s g follow e =
    let E : Bool → Type 0 = λ o. EndsRightly o s.log in
    Refutes-sound s.formula.clauses s.log follow (subst E e g.last)

pub verdict_refutes : (bytes : List ℕ) (sections : List Section) (r : Recheck) → IsCertificate bytes sections → IsVerdict sections r → WhereAccepted r (RefutesClosed bytes)
verdict_refutes bytes sections (Accepted refuted left) q v = λ others p.
    let A : List Section → Type 0 = λ xs. All (λ (s : Section). s.is_open ≡ false → IsUnsatisfiable s.formula.clauses) xs in
    subst A (certificate_same bytes sections others q p) (λ k d lt closed. closed_refutes (get_or sections k d) (q.0 k d lt) (v.0 k d lt) closed)
verdict_refutes bytes sections (BadStep number id) q v = tt
verdict_refutes bytes sections (BadLine n) q v = tt
