use Rattle.ordered.proofs.Filing.{take_out}
use Rattle.ordered.proofs.calls.take_out.Goals as goal

pub returns : goal.returns
returns g c = take_out c.args.records.now c.args.at c.rotate_left.new.self c.requires c.rotate_left.ensures.after
