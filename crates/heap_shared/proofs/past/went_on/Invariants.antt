use Rattle.heap_shared.proofs.past.went_on.Given as goal

-- the past that was given
abbrev pub ghost-new : goal.ghost-new
ghost-new g a = g.after
