use Rattle.std.proofs.Common.{Ok, rules}
use Rattle.evening_stream.specs.Input.{state_of}
use Rattle.evening_stream.proofs.Cutting.{whole_output, finished_none, finished_some}
use Rattle.evening_stream.proofs.Stream.end.Goals as goal

pub returns-then-is_empty-clause-whole : goal.returns-then-is_empty-clause-whole
returns-then-is_empty-clause-whole c =
    let s = state_of c.args.self.now c.args.desk.now in
    whole_output s c.args.out.now.items _ (Ok tt) s (finished_none s _ (search rules))

pub returns : goal.returns
returns c =
    let s = state_of c.args.self.now c.args.desk.now in
    let done = finished_some s c.args.out.now.items c.end_line.result c.map_err.result _ c.end_line.new.out.items (search rules) c.end_line.ensures (search rules) in
    record { value = done; whole = whole_output s c.args.out.now.items _ c.map_err.result _ done }
