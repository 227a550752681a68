use Rattle.branch_cells.proofs.merging.choose.Given as goal

abbrev pub ghost-narrow : goal.ghost-narrow
ghost-narrow g a = g.names
