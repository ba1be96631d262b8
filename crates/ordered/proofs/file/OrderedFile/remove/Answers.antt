use Rattle.std.proofs.Common.{sym, subst, rules}
use Rattle.ordered.specs.Files.{in_use, Ascends}
use Rattle.ordered.proofs.Filing.{removed_in_memory, Ascends-removed}
use Rattle.ordered.proofs.file.OrderedFile.remove.Goals as goal

pub returns-clause-ascends : goal.returns-clause-ascends
returns-clause-ascends g c up =
    let file = c.args.self.now in
    subst (Ascends g.T.Rank.before) (sym (removed_in_memory file.memory.now file.count c.args.at c.take_out.new.records file.sized (search rules) c.take_out.ensures))
    (Ascends-removed g.met.T.Rank.lawful (in_use file) c.args.at up)
