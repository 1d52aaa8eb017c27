use Rattle.heap_server.specs.Opened.{names_of}
use Rattle.heap_server.proofs.tests.the_place_is_read_while_the_lock_is_held.Given as goal

-- the names of what was just opened
abbrev pub ghosts-read_while_held : goal.ghosts-read_while_held
ghosts-read_while_held g a = record { names = names_of a.opening }
