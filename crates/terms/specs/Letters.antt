-- The letter that an evening file writes for each style of a contract and each kind of a credit rule.
use Rattle.std.specs.Prelude.{ℕ, cond, Ok, Err, Result, ◌==◌}
use Rattle.terms.specs.declared.letters.Style.{Style}
use Rattle.terms.specs.declared.letters.Style.TheVariants.{Future, Storable, Premium}
use Rattle.terms.specs.declared.letters.RuleKind.{RuleKind}
use Rattle.terms.specs.declared.letters.RuleKind.TheVariants.{Perfect, Regular}
use Rattle.terms.specs.declared.faults.ReaderFault.{ReaderFault}
use Rattle.terms.specs.declared.faults.ReaderFault.TheVariants.{Form}

-- F, S and P
abbrev pub style_letter : Style → ℕ
style_letter Future = 70
style_letter Storable = 83
style_letter Premium = 80

-- P and R
abbrev pub kind_letter : RuleKind → ℕ
kind_letter Perfect = 80
kind_letter Regular = 82

-- the style that a letter names; 27 where it names none
abbrev pub style_named : ℕ → Result Style ReaderFault
style_named c =
    cond (c == style_letter Future) (Ok Future) (cond (c == style_letter Storable) (Ok Storable) (cond (c == style_letter Premium) (Ok Premium) (Err Form)))

-- the kind of rule that a letter names; 27 where it names none
abbrev pub kind_named : ℕ → Result RuleKind ReaderFault
kind_named c = cond (c == kind_letter Perfect) (Ok Perfect) (cond (c == kind_letter Regular) (Ok Regular) (Err Form))
