use Rattle.std.proofs.Common.{◌≡◌, sym, ap, ◌∙◌, rules}
use Rattle.directory.specs.declared.code.Entry.{Entry}
use Rattle.directory.proofs.Lookups.{retold_answer}
use Rattle.directory.proofs.Attempts.{attempted}
use Rattle.directory.proofs.Directory.enter.Goals as goal

pub returns-in_err-insert : goal.returns-in_err-insert
returns-in_err-insert c =
    let d = c.args.self.now in
    let e : Entry = record { code = c.in_ok-code.code; number = c.args.number } in
    let did = c.insert.ensures in
    let all = attempted d.file e c.args.code.now c.in_ok-code.ensures.1 c.in_ok-code.ensures.0 d.ascends c.insert.new.self c.insert.result (did.answers d.ascends) (did.items d.ascends) did.memory in
    let same : c.from_residual-in_err-insert.result ≡ retold_answer c.insert.result = search rules in
    record { answers = same ∙ all.answers; items = all.items; room = did.memory; same = search rules; attempts = all.attempts }

pub returns : goal.returns
returns c =
    let d = c.args.self.now in
    let e : Entry = record { code = c.in_ok-code.code; number = c.args.number } in
    let did = c.insert.ensures in
    let all = attempted d.file e c.args.code.now c.in_ok-code.ensures.1 c.in_ok-code.ensures.0 d.ascends c.insert.new.self c.insert.result (did.answers d.ascends) (did.items d.ascends) did.memory in
    record { answers = sym (ap retold_answer c.in_ok-insert.was) ∙ all.answers; items = all.items; room = did.memory; same = search rules; attempts = all.attempts }
