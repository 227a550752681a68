use Rattle.branch_cells.proofs.merging.choose_cells.Given as goal

abbrev pub ghost-choose_names : goal.ghost-choose_names
ghost-choose_names g a = g.names
