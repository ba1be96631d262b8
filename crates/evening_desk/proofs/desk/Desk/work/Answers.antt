use Rattle.std.proofs.Common.{◌∙◌, arith, rules}
use Rattle.std.proofs.lemmas.Grind.{common_steps}
use Rattle.evening_desk.specs.Evening.{after, printed}
use Rattle.evening_desk.proofs.Printing.{worked_refused}
use Rattle.evening_desk.proofs.desk.Desk.work.Goals as goal

pub returns-in_default-clause-value : goal.returns-in_default-clause-value
unfolding after printed
returns-in_default-clause-value c = grind (arith, common_steps)

pub returns-clause-value : goal.returns-clause-value
returns-clause-value c =
    worked_refused _ _ c.args.number c.args.line.now c.args.out.now.items _ _ _ c.extend_from_slice.result c.in-Err.ensures (c.as_bytes.ensures.value ∙ search rules) c.extend_from_slice.ensures.items
