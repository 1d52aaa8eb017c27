use denote.RattleType.{RattleType}
use denote.Param.Send.{IsSend}
use Rattle.ghosts.specs.contracts.Ghost.{the_row}
use Rattle.ghosts.proofs.Sent.{ghost_sends}

pub send : (T : RattleType) → IsSend (the_row T)
send = ghost_sends
