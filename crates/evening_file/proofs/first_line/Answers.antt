-- The line ends before the first LF.
use Rattle.std.proofs.Common.{eqb, take, sym, ap, ◌∙◌, rules, tests}
use Rattle.std.specs.Option.{option_map}
use Rattle.std.proofs.lemmas.Iterator.{YieldsList-from_slice}
use Rattle.std.proofs.lemmas.Iterator.Search.{position_from_yields_List}
use Rattle.evening_file.proofs.LineEnd.{up_to_place}
use Rattle.evening_file.proofs.first_line.Goals as goal

pub returns-in_err-end : goal.returns-in_err-end
returns-in_err-end c =
    let xs = c.args.input.now in
    let place = position_from_yields_List (λ b. eqb b 10) _ _ c.position.result c.position.ensures.ran (YieldsList-from_slice xs cc) (λ x b q k. search (rules, tests)) in
    rw c.from_residual.ensures (sym (up_to_place xs ∙ ap (option_map (λ n. take n xs)) (sym place ∙ c.in_err-end.was)))

pub returns : goal.returns
returns c =
    let xs = c.args.input.now in
    let place = position_from_yields_List (λ b. eqb b 10) _ _ c.position.result c.position.ensures.ran (YieldsList-from_slice xs cc) (λ x b q k. search (rules, tests)) in
    sym (up_to_place xs ∙ ap (option_map (λ n. take n xs)) (sym place ∙ c.in_ok-end.was))
