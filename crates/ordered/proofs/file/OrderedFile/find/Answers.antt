use Rattle.std.proofs.Common.{length, subst, rules}
use Rattle.std.specs.List.Sorted.{IsSearchInRange, IsBinarySearchResult}
use Rattle.std.proofs.lemmas.Fn.{always_returns_same}
use Rattle.ordered.specs.Files.{in_use}
use Rattle.ordered.proofs.Places.{against, against_ranked, searched, told_by_place}
use Rattle.ordered.proofs.file.OrderedFile.find.Goals as goal

answer : goal.returns-clause-value
answer g c up =
    let key = c.args.key.now in
    let found = c.binary_search_by.ensures in
    let by = found.position (against g.T.Rank.before key) (always_returns_same _ _ _ (λ a r f2 call. (against_ranked g.met.T.Rank.lawful key a.0.now r (search rules), search rules))) in
    let inside = subst (λ xs. IsSearchInRange c.binary_search_by.result (length xs)) c.used.ensures.value found.bound in
    searched g.met.T.Rank.lawful key (in_use c.args.self.now) c.binary_search_by.result up inside (subst (λ xs. IsBinarySearchResult (against g.T.Rank.before key) xs c.binary_search_by.result) c.used.ensures.value by)

pub returns-clause-value : goal.returns-clause-value
returns-clause-value = answer

pub returns-clause-cases : goal.returns-clause-cases
returns-clause-cases g c up = told_by_place g.met.T.Rank.lawful c.args.key.now (in_use c.args.self.now) up c.binary_search_by.result (answer g c up)
