use Rattle.fragmentation.proofs.Suffice.Joints.{joint_suffices_unmoved as it}
use Rattle.fragmentation.proofs.joint_suffices_unmoved.Goals as goal

pub returns : goal.returns
returns c = it
