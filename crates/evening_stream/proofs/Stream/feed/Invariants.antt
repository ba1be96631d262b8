use Rattle.std.specs.Slice.Iter.{split_inclusive_rest}
use Rattle.evening_stream.specs.Input.{state_of}
use Rattle.evening_stream.proofs.Feeding.{FedUpTo}
use Rattle.evening_stream.proofs.Stream.feed.Given as goal

abbrev pub invariant-loop-line : goal.invariant-loop-line
invariant-loop-line l = record {
  ready : (goal.iterator-loop-line).can_next l.line-iterator;
  ends : (goal.iterator-loop-line).is_finite l.line-iterator;
  so_far : FedUpTo (state_of l.initial.self l.initial.desk) l.block l.initial.out.items l.taken (split_inclusive_rest l.line-iterator) (state_of l.self l.desk) l.out.items;
}
