-- The word is what stands before the next space; no word is left where nothing stands behind the spaces.
use Rattle.std.proofs.Common.{◌-◌, eqb, not, length, take, drop, unwrap_or, sym, refl, ap, ◌∙◌, rules, tests}
use Rattle.std.proofs.lemmas.Iterator.{YieldsList-from_slice}
use Rattle.std.proofs.lemmas.Iterator.Search.{position_from_yields_List}
use Rattle.evening_file.proofs.Parting.{words_none, word_next}
use Rattle.evening_file.proofs.words.WordsIterator.next.Goals as goal

pub returns-in_err-start-clause-steps : goal.returns-in_err-start-clause-steps
returns-in_err-start-clause-steps c =
    let xs = c.args.self.now.rest.now in
    let place = position_from_yields_List (λ b. not (eqb b 32)) _ _ c.position.result c.position.ensures.ran (YieldsList-from_slice xs cc) (λ x b q k. search (rules, tests)) in
    let none = words_none xs (sym place ∙ c.in_err-start.was) in
    rw c.from_residual.ensures (none, none)

pub returns-clause-steps : goal.returns-clause-steps
returns-clause-steps c =
    let xs = c.args.self.now.rest.now in
    let rest = take (length xs - c.in_ok-start.start) (drop c.in_ok-start.start xs) in
    let starts = position_from_yields_List (λ b. not (eqb b 32)) _ _ c.position.result c.position.ensures.ran (YieldsList-from_slice xs cc) (λ x b q k. search (rules, tests)) in
    let ends = position_from_yields_List (λ b. eqb b 32) _ _ c.position-2.result c.position-2.ensures.ran (YieldsList-from_slice rest cc) (λ x b q k. search (rules, tests)) in
    rw (c.split_at.ensures.front, c.split_at.ensures.back) (word_next xs rest _ c.unwrap_or-end.result (sym starts ∙ c.in_ok-start.was) refl (c.unwrap_or-end.ensures ∙ ap (λ o. unwrap_or o (length rest)) ends))
