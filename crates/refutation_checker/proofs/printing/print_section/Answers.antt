use Rattle.std.proofs.Common.{length, refl}
use Rattle.std.specs.Prelude.{codes}
use Rattle.refutation_checker.specs.Certificate.{clause_text, end_text, header_text, query_text, step_text}
use Rattle.refutation_checker.proofs.PrintLemmas.{text_of_parts}
use Rattle.refutation_checker.proofs.printing.print_section.Goals as goal

pub returns : goal.returns
returns c =
    let s = c.args.section.now in
    let parts = text_of_parts clause_text step_text (query_text s) (header_text s.formula.vars (length s.formula.clauses)) (codes "log") (end_text s.is_open) s.formula.clauses s.log in
    rw (parts, c.in_ok-print_end.ensures, c.in_ok-print_steps.ensures, c.in_ok-append.ensures, c.in_ok-print_clauses.ensures, c.in_ok-print_header.ensures, c.in_ok-print_query.ensures, c.new-out.ensures.items, c.as_slice.ensures, c.clauses-clauses.ensures) refl
