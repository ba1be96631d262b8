use Rattle.std.proofs.Common.{◌≡◌, set, sym, ap, ◌∙◌, arith}
use Rattle.std.proofs.lemmas.Bool.{not_from_true, not_from_false}
use Rattle.std.proofs.lemmas.List.{set-get_or}
use Rattle.std.proofs.lemmas.List.Filters.{FiltersInPlace-more_no, FiltersInPlace-more_set}
use Rattle.ordered.proofs.calls.sweep.Goals as goal
use Rattle.ordered.proofs.calls.sweep.Goals.{then-not-is_void, else-not-is_void}

pub loop-i-preserved : goal.loop-i-preserved
loop-i-preserved g c =
    let inv = c.loop-i.invariant in
    let item = c.index-records-i.result in
    elim c.if-not-is_void.branch [
      | then-not-is_void w ↦ rw (w.records-is, w.to-is) (
        FiltersInPlace-more_set inv.0 (omega arith) (not_from_false _ (sym c.is_void.ensures ∙ w.if-not-is_void.true)) c.index-records-i.is,
        λ e.
            let here : c.loop-i.to ≡ c.loop-i.i = omega arith in
            ap (λ k. set c.loop-i.records k item) here ∙ ap (set c.loop-i.records c.loop-i.i) c.index-records-i.is ∙ set-get_or c.loop-i.records c.loop-i.i item ∙ inv.1 here,
      )
      | else-not-is_void w ↦ rw (w.records-is, w.to-is) (
        FiltersInPlace-more_no inv.0 (omega arith) (not_from_true _ (sym c.is_void.ensures ∙ w.if-not-is_void.false)) c.index-records-i.is,
        λ e. absurd (omega (arith, inv.0.behind)),
      )
    ]
