-- The lines that say for how many quanta a program waits under a plan.
use Rattle.std.specs.Prelude.{ℕ, ◌-◌, ◌*◌, ◌/◌, max, List, [], ◌++◌, map, Option, Some, None, codes, decimal}
use Rattle.std.specs.List.{concat}
use Rattle.size_classes.specs.declared.config.Config.{Config}
use Rattle.paced.specs.declared.plan.Plan.{Plan}
use Rattle.paced.specs.Planning.{quanta_on}
use Rattle.paced.specs.Rooms.{planned_flow}
use Rattle.command_line.specs.declared.job.Asked.{Asked}
use Rattle.plans.specs.Utilisation.{Share, share_with, most_quanta}

-- the words of the largest object for which a plan has room: those of a cycle that the quanta of one don't need
abbrev pub room_of : Config → ℕ → Plan → ℕ
room_of c live plan = plan.cycle_words - plan.quantum_words * quanta_on c (planned_flow live plan) c.pages

-- the share of a program that asks for some words while it runs for some ticks, and waits for as many quanta as they take
abbrev pub share_of : Config → Plan → Asked → Share
share_of c plan asked = share_with asked.ticks (most_quanta plan asked.words) c.collector_ticks

-- a share in thousandths, rounded down
abbrev pub permille_of : Share → ℕ
permille_of share = 1000 * share.own / max share.all 1

-- The line for a program that asks for some words while it runs for some ticks. It has the most quanta for which the program
-- waits, its share of the time in thousandths, and the words of the largest object for which the plan has room.
abbrev pub waits_line : Config → ℕ → Plan → Asked → List ℕ
waits_line c live plan asked = codes "asks " ++ (decimal asked.words ++ (codes " in " ++ (decimal asked.ticks
    ++ (codes " waits " ++ (decimal (most_quanta plan asked.words)
    ++ (codes " permille " ++ (decimal (permille_of (share_of c plan asked))
    ++ (codes " largest " ++ (decimal (room_of c live plan) ++ codes "\n")))))))))

-- a line for each number of words, if there is a plan
abbrev pub waits_lines : Config → ℕ → List Asked → Option Plan → List ℕ
waits_lines c live asks None = []
waits_lines c live asks (Some plan) = concat (map (waits_line c live plan) asks)
