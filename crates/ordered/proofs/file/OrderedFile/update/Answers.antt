use Rattle.std.proofs.Common.{◌≡◌, ◌<◌, length, get_or, sym, subst, rules}
use Rattle.ordered.specs.Files.{in_use, Ascends}
use Rattle.std.proofs.Math.Seq.{take-set-lt}
use Rattle.ordered.proofs.Filing.{Ascends-set}
use Rattle.ordered.proofs.file.OrderedFile.update.Goals as goal

pub returns-clause-items : goal.returns-clause-items
returns-clause-items g c e = take-set-lt c.args.self.now.count c.args.self.now.memory.now c.args.at c.args.item (search rules)

pub returns-clause-ascends : goal.returns-clause-ascends
returns-clause-ascends g c up =
    let xs = in_use c.args.self.now in
    let there = c.in_ok-there.field-0.now in
    let inside : c.args.at < length xs = search rules in
    let read : there ≡ get_or xs c.args.at there = search rules in
    let same : g.T.Rank.fields there ≡ g.T.Rank.fields c.args.item = search rules in
    let written = take-set-lt c.args.self.now.count c.args.self.now.memory.now c.args.at c.args.item (search rules) in
    subst (Ascends g.T.Rank.before) (sym written) (Ascends-set g.met.T.Rank.lawful xs c.args.at there c.args.item inside read same up)
