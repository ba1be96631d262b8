-- The instructions that a closure makes of a code, or of a code and a number, say what their forms do.
use Rattle.std.proofs.Common.{rules}
use Rattle.evening_file.specs.Said.{Account, Price, Expiry, Reading}
use Rattle.evening_file.proofs.Lettered.{lettered}
use Rattle.evening_file.proofs.forms.read_form.Goals as goal

pub returns-in-65 : goal.returns-in-65
returns-in-65 c = lettered 65 c.args.line.now (search rules) (search rules) (c.read_code.ensures Account (λ code line made. search rules))

pub returns-in-80 : goal.returns-in-80
returns-in-80 c = lettered 80 c.args.line.now (search rules) (search rules) (c.read_code_and_number.ensures Price (λ code number line made. search rules))

pub returns-in-69 : goal.returns-in-69
returns-in-69 c = lettered 69 c.args.line.now (search rules) (search rules) (c.read_code_and_number-in-69.ensures Expiry (λ code number line made. search rules))

pub returns-in-82 : goal.returns-in-82
returns-in-82 c = lettered 82 c.args.line.now (search rules) (search rules) (c.read_code-in-82.ensures Reading (λ code line made. search rules))
