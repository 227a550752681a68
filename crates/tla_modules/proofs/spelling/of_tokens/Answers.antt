use Rattle.tla_modules.proofs.spelling.of_tokens.Goals as goal

pub returns-in-Ok : goal.returns-in-Ok
returns-in-Ok c = λ number bytes run.
    c.named.ensures number bytes (record { tokens = c.args.tokens.now; run = run; spells = c.in-Ok.ensures.spells; within = c.in-Ok.ensures.levels })
