use Rattle.heap_server.specs.Opened.{names_of}
use Rattle.call_tests.proofs.tests.servers.follow_row.Given as goal

-- the names of what was just opened
abbrev pub ghosts-follow : goal.ghosts-follow
ghosts-follow g a = record { names = names_of a.opening }
