use Rattle.heap_server.proofs.play.played.Given as goal

-- the pacer that came back
abbrev pub ghost-settled : goal.ghost-settled
ghost-settled g a = a.pacer
