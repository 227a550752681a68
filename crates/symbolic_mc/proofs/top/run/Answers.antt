use Rattle.symbolic_mc.proofs.Commands.{words_apart}
use Rattle.symbolic_mc.proofs.Told.{told_clean, told_error, told_complete, told_memory, told_overflow, told_recheck, told_spent, told_status, told_unwritten, told_usage, told_whole}
use Rattle.symbolic_mc.proofs.top.run.Goals as goal

pub returns-in-Ok-clause-error : goal.returns-in-Ok-clause-error
returns-in-Ok-clause-error g c = told_error _ (g.F.Files.held c.args.files.now) _ _ _ _ _ _ _ _ c.in-Ok.answer c.in-Ok.ensures.answer c.tell.ensures

pub returns-in-Ok-clause-clean : goal.returns-in-Ok-clause-clean
returns-in-Ok-clause-clean g c = told_clean _ (g.F.Files.held c.args.files.now) _ _ _ _ _ _ _ _ c.in-Ok.answer c.in-Ok.ensures.answer c.tell.ensures

pub returns-in-Ok-clause-overflow : goal.returns-in-Ok-clause-overflow
returns-in-Ok-clause-overflow g c = told_overflow _ (g.F.Files.held c.args.files.now) _ _ _ _ _ _ _ _ c.in-Ok.answer c.in-Ok.ensures.answer c.tell.ensures

pub returns-in-Ok-clause-spent : goal.returns-in-Ok-clause-spent
returns-in-Ok-clause-spent g c = told_spent _ (g.F.Files.held c.args.files.now) _ _ _ _ _ _ _ _ c.in-Ok.answer c.in-Ok.ensures.answer c.tell.ensures

pub returns-in-Ok-clause-told : goal.returns-in-Ok-clause-told
returns-in-Ok-clause-told g c = told_whole _ (g.F.Files.held c.args.files.now) _ _ _ _ _ _ _ _ c.in-Ok.answer c.in-Ok.ensures.answer c.tell.ensures

pub returns-in-Ok-clause-unwritten : goal.returns-in-Ok-clause-unwritten
returns-in-Ok-clause-unwritten g c = told_unwritten _ (g.F.Files.held c.args.files.now) _ _ _ _ _ _ _ _ c.in-Ok.answer c.in-Ok.ensures.answer c.tell.ensures

pub returns-in-Ok-clause-no_memory : goal.returns-in-Ok-clause-no_memory
returns-in-Ok-clause-no_memory g c = told_memory _ (g.F.Files.held c.args.files.now) _ _ _ _ _ _ _ _ c.in-Ok.answer c.in-Ok.ensures.answer c.tell.ensures

pub returns-in-Ok-clause-statuses : goal.returns-in-Ok-clause-statuses
returns-in-Ok-clause-statuses g c = told_status _ (g.F.Files.held c.args.files.now) _ _ _ _ _ _ _ _ c.in-Ok.answer c.in-Ok.ensures.answer c.tell.ensures

pub returns-in-Ok-clause-usage : goal.returns-in-Ok-clause-usage
returns-in-Ok-clause-usage g c = told_usage _ (g.F.Files.held c.args.files.now) _ _ _ _ _ _ _ _ c.in-Ok.answer c.in-Ok.ensures.answer c.tell.ensures

pub returns-in-Ok-clause-complete : goal.returns-in-Ok-clause-complete
returns-in-Ok-clause-complete g c =
    told_complete _ (g.F.Files.held c.args.files.now) _ _ _ _ _ _ _ _ c.in-Ok.answer c.in-Ok.ensures.answer (words_apart c.args.words.now) c.tell.ensures

pub returns-in-Ok-clause-rechecked : goal.returns-in-Ok-clause-rechecked
returns-in-Ok-clause-rechecked g c =
    told_recheck _ (g.F.Files.held c.args.files.now) _ _ _ _ _ _ _ _ c.in-Ok.answer c.in-Ok.ensures.answer (words_apart c.args.words.now) c.tell.ensures
