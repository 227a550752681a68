use Rattle.branch_cells.proofs.following.follow.Given as goal

abbrev pub ghost-fill : goal.ghost-fill
ghost-fill g a = g.names
