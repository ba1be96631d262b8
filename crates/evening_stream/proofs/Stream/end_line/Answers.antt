use Rattle.std.proofs.Common.{ap, sym, ◌++◌, ◌∙◌, arith, refl, rules}
use Rattle.std.proofs.lemmas.List.{nil_from_length}
use Rattle.evening_stream.specs.Input.{state_of, clipped}
use Rattle.evening_stream.proofs.Clipping.{line_ended, clipped-clipped}
use Rattle.evening_stream.proofs.Stream.end_line.Goals as goal
use Rattle.evening_stream.proofs.Stream.end_line.Goals.{then-from-eq0, else-from-eq0}

pub returns : goal.returns
returns c =
    let s = state_of c.args.self.now c.args.desk.now in
    let rest = c.args.rest.now in
    elim c.if-from-eq0.branch [
      | then-from-eq0 w ↦
          rw (w.desk-is, w.out-is)
          (line_ended s s.desk _ rest rest _ w.work-worked.result c.args.out.now.items _ _ refl c.saturating_add-number.ensures
          (ap (λ k. clipped (k ++ rest)) (sym (nil_from_length s.kept (omega arith)))) (search rules) w.work-worked.ensures.value c.clear.ensures)
      | else-from-eq0 w ↦
          let kept = w.keep.ensures.kept c.args.desk.now in
          rw (w.desk-is, w.out-is)
          (line_ended s _ _ _ rest _ w.work-worked-else-from-eq0.result c.args.out.now.items _ _ refl c.saturating_add-number.ensures
          (ap clipped (w.as_slice.ensures.value ∙ ap (λ t. t.kept) kept) ∙ clipped-clipped (s.kept ++ rest)) (search rules) w.work-worked-else-from-eq0.ensures.value c.clear.ensures)
    ]
