-- `say_data` meets its contract: the data lies in the payload. Assumes nothing.
use Rattle.why.proofs.Chains.{gone_none, gone_same}
use Rattle.why.proofs.Walks.{data_there, data_missing}
use Rattle.why.proofs.asking.Asking.say_data.Goals as goal

pub returns-in-Some : goal.returns-in-Some
returns-in-Some c = gone_same (data_there _ c.find_data.ensures c.in-Some.is) c.say_pieces.ensures

pub returns-in_default : goal.returns-in_default
returns-in_default c = gone_same (data_missing _ c.find_data.ensures c.in_default.is) gone_none
