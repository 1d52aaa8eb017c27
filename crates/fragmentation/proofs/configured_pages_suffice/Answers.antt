use Rattle.fragmentation.proofs.Configured.{joint_configured, moving_configured, page_demand_configured, flow_configured}
use Rattle.fragmentation.proofs.configured_pages_suffice.Goals as goal

pub returns-clause-joint : goal.returns-clause-joint
returns-clause-joint c = λ config h es new blocks live one o same runs keeps fits. joint_configured config h o same one es new live runs blocks keeps fits

pub returns-clause-moving : goal.returns-clause-moving
returns-clause-moving c = λ config h es new live one o same moves runs keeps. moving_configured config h o same one es new live runs moves keeps

pub returns-clause-page_demand : goal.returns-clause-page_demand
returns-clause-page_demand c = λ config h es new b live one o same moves runs lives keeps fits. page_demand_configured config h o same one es new live runs b moves lives keeps fits

pub returns-clause-flow : goal.returns-clause-flow
returns-clause-flow c = λ config h es new f one great o same moves runs keeps fits. flow_configured config h o same one es new (λ n class. 0) runs f moves great keeps fits
