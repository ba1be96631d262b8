use Rattle.std.proofs.Common.{◌≡◌, false, List, get_or, is_ok, Ok, Err, ap, ◌∙◌, subst, rules}
use Rattle.ordered.specs.Files.{in_use, ToldByPlace}
use Rattle.terms.specs.declared.faults.DirectoryFault.TheVariants.{Missing}
use Rattle.directory.specs.declared.code.Entry.{Entry}
use Rattle.directory.specs.Codes.{text_of, earlier}
use Rattle.directory.specs.Entries.{entries, places}
use Rattle.directory.proofs.Lookups.{found_at, found_none}
use Rattle.directory.proofs.Attempts.{found}
use Rattle.directory.proofs.Directory.find.Goals as goal

pub returns-in_err-at : goal.returns-in_err-at
returns-in_err-at c =
    let d = c.args.self.now in
    let e : Entry = record { code = c.in_ok-code.code; number = 0 } in
    let none : is_ok c.find.result ≡ false = search rules in
    let missing : c.from_residual-in_err-at.result ≡ Err Missing = search rules in
    let all = found (places d) (entries d) c.args.code.now _
    (missing ∙ found_none d.file e c.args.code.now c.in_ok-code.ensures.1 c.in_ok-code.ensures.0 d.ascends c.find.result none (c.find.ensures.cases d.ascends)) in
    record { value = all.value; accepted = all.accepted }

pub returns : goal.returns
returns c =
    let d = c.args.self.now in
    let e : Entry = record { code = c.in_ok-code.code; number = 0 } in
    let there = c.index-used-at.result in
    let at : c.find.result ≡ Ok c.in_ok-at.at = search rules in
    let all = found (places d) (entries d) c.args.code.now _
    (ap (λ (xs : List Entry). Ok (get_or xs c.in_ok-at.at there).number) c.used.ensures.value
    ∙ found_at d.file e c.args.code.now c.in_ok-code.ensures.1 c.in_ok-code.ensures.0 d.ascends c.in_ok-at.at there (subst (ToldByPlace earlier text_of e (in_use d.file)) at (c.find.ensures.cases d.ascends))) in
    record { value = all.value; accepted = all.accepted }
