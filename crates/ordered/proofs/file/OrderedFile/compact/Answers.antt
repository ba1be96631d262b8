use Rattle.std.proofs.Common.{◌≡◌, ◌≤◌, ◌++◌, length, drop, sym, ap, ◌∙◌, subst, rules}
use Rattle.std.proofs.lemmas.List.{length-take-le, take-append-le, take-append-drop}
use Rattle.ordered.specs.Files.{in_use, Ascends}
use Rattle.ordered.proofs.Filing.{Ascends-kept_by, same_file}
use Rattle.ordered.proofs.file.OrderedFile.compact.Goals as goal

pub returns : goal.returns
returns g c =
    let file = c.args.self.now in
    let swept = c.sweep-self.ensures in
    let r = c.sweep-self.result in
    let records = c.sweep-self.new.records in
    let rest = drop file.count file.memory.now in
    let many : length (in_use file) ≡ file.count = length-take-le file.count file.memory.now file.sized in
    let within : r ≤ length records = search rules in
    let left = take-append-le r records rest within ∙ swept.front in
    record {
      items = left;
      ascends = λ up. subst (Ascends g.T.Rank.before) (sym left) (Ascends-kept_by g.met.T.Rank.lawful _ (in_use file) up);
      same = λ all.
          let whole : r ≡ length (in_use file) = sym (length-take-le r records within) ∙ ap length (swept.front ∙ all) in
          same_file file _ _ _ (ap (λ l. l ++ rest) (swept.same whole) ∙ take-append-drop file.count file.memory.now) (whole ∙ many);
      memory = search rules;
    }
