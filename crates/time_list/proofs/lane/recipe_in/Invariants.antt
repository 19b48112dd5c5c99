use Rattle.time_list.proofs.lane.recipe_in.Given as goal

abbrev pub ghosts-counted_recipe : goal.ghosts-counted_recipe
ghosts-counted_recipe g a = record { name = a.blank.name; parts = a.blank.parts }
