use Rattle.std.proofs.Common.{drop, ◌∙◌, ap, sym, subst, arith}
use Rattle.std.proofs.lemmas.List.{take_rest, length-drop}
use Rattle.tla_lexer.specs.Classes.{is_dash, is_blank, BeginsWith}
use Rattle.tla_lexer.specs.Header.{says_module, behind_run}
use Rattle.tla_lexer.proofs.HeaderLemmas.{none_before_on, found_at}
use Rattle.tla_lexer.proofs.header.module_start.Goals as goal
use Rattle.tla_lexer.proofs.header.module_start.Goals.{After-run_length-dashes, else-dashes-ge4-via-then-dashes-ge4+else-says_module, else-dashes-ge4-via-else-dashes-ge4}

-- the dashes that stand here
dashes_here : (c : After-run_length-dashes) → BeginsWith is_dash (drop c.loop-at.at c.args.bytes.now) c.run_length-dashes.result
dashes_here c = subst (λ t. BeginsWith is_dash t c.run_length-dashes.result) (take_rest c.args.bytes.now c.loop-at.at) c.run_length-dashes.ensures

pub returns-then-says_module-clause-found : goal.returns-then-says_module-clause-found
returns-then-says_module-clause-found c =
    let bytes = c.args.bytes.now in
    let i = c.loop-at.invariant in
    found_at bytes c.loop-at.at c.run_length-dashes.result i.none i.within (dashes_here (goal.at.returns-then-says_module-clause-found c).After-run_length-dashes)
    c.if-dashes-ge4.true
    (ap (λ t. says_module (behind_run is_blank t)) (sym (take_rest _ c.run_length-dashes.result ∙ ap (drop c.run_length-dashes.result) (take_rest bytes c.loop-at.at)))
    ∙ sym c.says_module.ensures ∙ c.if-says_module.true)

pub loop-at-preserved : goal.loop-at-preserved
loop-at-preserved c =
    let bytes = c.args.bytes.now in
    let i = c.loop-at.invariant in
    let run = dashes_here (goal.at.loop-at-preserved c).After-run_length-dashes in
    record {
      within = omega (arith, run.within, length-drop c.loop-at.at bytes);
      none =
          none_before_on bytes c.loop-at.at c.run_length-dashes.result _ i.none i.within run
          (elim c.else-dashes-ge4.branch [
            | else-dashes-ge4-via-then-dashes-ge4+else-says_module w ↦
                λ many. ap (λ t. says_module (behind_run is_blank t)) (sym (take_rest _ c.run_length-dashes.result ∙ ap (drop c.run_length-dashes.result) (take_rest bytes c.loop-at.at)))
                ∙ sym w.says_module.ensures ∙ w.if-says_module.false
            | else-dashes-ge4-via-else-dashes-ge4 w ↦ λ many. absurd (omega arith)
          ])
          (omega arith);
    }
