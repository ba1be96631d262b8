use Rattle.std.proofs.Common.{◌≡◌, ◌++◌, take, ap, arith, rules}
use Rattle.std.specs.Result.{IsOk}
use Rattle.std.proofs.lemmas.List.{length-take}
use Rattle.evening_stream.specs.Input.{state_of, goes_on}
use Rattle.evening_stream.proofs.Feeding.{kept_more}
use Rattle.evening_stream.proofs.Stream.keep.Goals as goal

pub returns-clause-kept : goal.returns-clause-kept
returns-clause-kept c d =
    let fits : IsOk c.try_extend_from_slice.result = c.try_extend_from_slice.ensures.variant.1 (simp length-take (omega arith)) in
    let e : c.try_extend_from_slice.new.self.items ≡ c.args.self.now.kept.items ++ take c.min-n.result c.args.more.now = search rules in
    ap (goes_on (state_of c.args.self.now d)) (kept_more _ _ _ _ c.min-n.result c.remaining_capacity.ensures c.min-n.ensures e)
