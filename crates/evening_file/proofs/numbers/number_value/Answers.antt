-- A word with a minus in front, and one without.
use Rattle.std.proofs.Common.{rules}
use Rattle.evening_file.proofs.Digits.{number_minus, number_plain}
use Rattle.evening_file.proofs.numbers.number_value.Goals as goal

pub returns-in-45 : goal.returns-in-45
returns-in-45 c = let e = number_minus c.args.word.now (search rules) (search rules) in search rules

pub returns-in_default : goal.returns-in_default
returns-in_default c = let e = number_plain c.args.word.now (λ h m. search rules) in search rules
