-- `say_payload` meets its contract: the keys, then the pieces. Assumes nothing.
use Rattle.why.specs.Finding.{found_in}
use Rattle.why.proofs.Chains.{gone_then}
use Rattle.why.proofs.asking.Asking.say_payload.Goals as goal

pub returns : goal.returns
unfolding found_in
returns c =
    gone_then c.say_key.ensures (gone_then c.say_key-2.ensures (gone_then c.say_key-3.ensures (gone_then c.say_key-4.ensures (gone_then c.say_key-5.ensures c.say_data.ensures))))
