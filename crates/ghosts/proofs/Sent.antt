-- A ghost value owns nothing, so it may go to another thread.
use denote.RattleType.{RattleType}
use denote.Param.Send.{IsSend}
use Rattle.ghosts.specs.contracts.Ghost.{the_row}

pub ghost_sends : (T : RattleType) → IsSend (the_row T)
ghost_sends T = record { owned = λ g vs. ((λ vss. (tt, ((λ uss. (tt, tt)), tt))), tt); leaving = λ k d w. tt }
