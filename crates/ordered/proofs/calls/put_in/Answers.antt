use Rattle.ordered.proofs.Filing.{put_in}
use Rattle.ordered.proofs.calls.put_in.Goals as goal

pub returns : goal.returns
returns g c = put_in c.args.records.now c.args.at c.args.item c.rotate_right.new.self c.requires c.rotate_right.ensures.after
