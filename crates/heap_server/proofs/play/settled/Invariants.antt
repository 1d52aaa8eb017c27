use Rattle.heap_server.proofs.play.settled.Given as goal

abbrev pub ghost-new : goal.ghost-new
ghost-new g a = g.numbers
