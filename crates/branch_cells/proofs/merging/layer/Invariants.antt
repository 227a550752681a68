use Rattle.branch_cells.proofs.merging.layer.Given as goal

abbrev pub ghost-choose_each : goal.ghost-choose_each
ghost-choose_each g a = g.names
