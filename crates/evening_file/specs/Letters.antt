-- The letter words of a line: the style of a contract and the kind of a credit rule, exactly one byte each.
use Rattle.std.specs.Prelude.{ℕ, List, [], ◌∷◌, Some, None, Option, option_and_then}
use Rattle.std.specs.Result.{result_ok}
use Rattle.terms.specs.Letters.{style_named, kind_named}
use Rattle.terms.specs.declared.letters.Style.{Style}
use Rattle.terms.specs.declared.letters.RuleKind.{RuleKind}

-- the one byte of a word
abbrev pub only : List ℕ → Option ℕ
only [] = None
only (c ∷ []) = Some c
only (c ∷ d ∷ cs) = None

-- the style that a word names: F, S or P
abbrev pub style : List ℕ → Option Style
style w = option_and_then (λ c. result_ok (style_named c)) (only w)

-- the kind of rule that a word names: P or R
abbrev pub rule_kind : List ℕ → Option RuleKind
rule_kind w = option_and_then (λ c. result_ok (kind_named c)) (only w)
