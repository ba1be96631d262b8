-- Whatever the definition of a line answers is answered by its letter and words.
use Rattle.std.proofs.Common.{Err, rules}
use Rattle.terms.specs.declared.faults.ReaderFault.TheVariants.{Length}
use Rattle.evening_file.proofs.Spelling.{by_its_words}
use Rattle.evening_file.proofs.read.Goals as goal

pub returns-in_err-line-clause-words : goal.returns-in_err-line-clause-words
returns-in_err-line-clause-words c = by_its_words _ c.from_residual.result (search rules)

pub returns-then-line-gt-MAX_LINE-clause-words : goal.returns-then-line-gt-MAX_LINE-clause-words
returns-then-line-gt-MAX_LINE-clause-words c = by_its_words _ (Err Length) (search rules)

pub returns-clause-words : goal.returns-clause-words
returns-clause-words c = by_its_words _ c.read_form.result (search rules)
