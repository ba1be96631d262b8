use Rattle.std.proofs.Common.{◌≡◌, true, subst₂}
use Rattle.std.specs.Ordering.{MatchOrdering}
use Rattle.directory.specs.Codes.{precedes}
use Rattle.directory.proofs.Ranks.{codes_ranked}
use Rattle.directory.proofs.bytes.EntryRank.rank.Goals as goal

pub returns : goal.returns
returns c =
    subst₂ (λ u v. MatchOrdering c.cmp.result (precedes u v ≡ true) (u ≡ v) (precedes v u ≡ true)) c.text.ensures c.text-2.ensures
    (codes_ranked c.text.result.now c.text-2.result.now c.cmp.result c.cmp.ensures)
