use Rattle.heap_server.specs.Opened.{names_of}
use Rattle.heap_server.proofs.play.play_threads.Given as goal

-- the names of what was just opened
abbrev pub ghosts-played : goal.ghosts-played
ghosts-played g a = record { names = names_of a.opening }
