use Rattle.step_encoder.proofs.starting.start_part.Given as goal

abbrev pub ghost-along : goal.ghost-along
ghost-along g a = g.names

abbrev pub ghost-choose_cells : goal.ghost-choose_cells
ghost-choose_cells g a = g.names
