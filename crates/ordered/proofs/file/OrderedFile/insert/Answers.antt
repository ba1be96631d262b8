use Rattle.std.proofs.Common.{sym, ap, ◌∙◌, subst, arith, rules}
use Rattle.std.proofs.lemmas.List.{length-take}
use Rattle.ordered.specs.Files.{in_use, room, Ascends, told, left}
use Rattle.ordered.proofs.Filing.{located_err, insertion_ok, filed_in_memory, Ascends-filed}
use Rattle.ordered.proofs.file.OrderedFile.insert.Goals as goal

pub returns : goal.returns
returns g c =
    let before = g.T.Rank.before in
    let file = c.args.self.now in
    let xs = in_use file in
    let item = c.args.item in
    let spot = λ (up : Ascends before xs). located_err before item xs c.in-Err.at (c.in-Err.ensures.value up) in
    let outcome = λ (up : Ascends before xs). insertion_ok before (room file) xs item (spot up).0 (simp length-take (omega arith)) in
    let put = λ (up : Ascends before xs). filed_in_memory before item file.memory.now file.count c.in-Err.at c.put_in.new.records (omega arith) (spot up).1 (search rules) c.put_in.ensures in
    record {
      answers = λ up. sym (ap told (outcome up));
      items = λ up. put up ∙ sym (ap (left xs) (outcome up));
      ascends = λ up. subst (Ascends before) (sym (put up)) (Ascends-filed g.met.T.Rank.lawful item xs (spot up).0 up);
      same = search rules;
      memory = search rules;
    }
