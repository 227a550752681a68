use Rattle.branch_cells.proofs.following.along.Given as goal

abbrev pub ghost-follow_each : goal.ghost-follow_each
ghost-follow_each g a = g.names

abbrev pub ghost-choose : goal.ghost-choose
ghost-choose g a = g.names
