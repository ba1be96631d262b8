use Rattle.std.proofs.Common.{◌≡◌, not}
use Rattle.std.proofs.lemmas.List.Filters.{FiltersInPlace}
use Rattle.ordered.proofs.calls.sweep.Given as goal

abbrev pub invariant-loop-i : goal.invariant-loop-i
invariant-loop-i g l = FiltersInPlace (λ x. not (g.T.Void.void x)) l.initial.records l.records l.to l.i × (l.to ≡ l.i → l.records ≡ l.initial.records)
