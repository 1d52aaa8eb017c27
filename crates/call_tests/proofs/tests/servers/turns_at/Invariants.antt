use Rattle.heap_server.specs.Opened.{names_of}
use Rattle.call_tests.proofs.tests.servers.turns_at.Given as goal

-- the names of what was just opened
abbrev pub ghosts-take_turns : goal.ghosts-take_turns
ghosts-take_turns g a = record { names = names_of a.opening }
