use Rattle.std.proofs.Common.{◌≡◌, ◌++◌, eqb, rules}
use Rattle.std.proofs.lemmas.List.Sorted.{answers_always}
use Rattle.evening_stream.specs.Input.{state_of, fed, says}
use Rattle.evening_stream.proofs.Feeding.{fed_piece, piece_ended, piece_kept}
use Rattle.evening_stream.proofs.Stream.feed.Goals as goal
use Rattle.evening_stream.proofs.Stream.feed.Goals.{then-ends_with+in_ok-map_err, else-ends_with}

pub loop-line-preserved : goal.loop-line-preserved
loop-line-preserved c =
    let s = state_of c.loop-line.self c.loop-line.desk in
    let out = c.loop-line.out.items in
    let line = c.in-Some.line.now in
    let step = c.in-Some.ensures.steps in
    let first = (step.1.2 (λ y. eqb y 10) (answers_always _ _ _ (λ f a r f' k. search rules))).1 in
    let on : (state_of c.if-ends_with.self c.if-ends_with.desk ≡ fed s line) × (c.if-ends_with.out.items ≡ out ++ says s line) =
    elim c.if-ends_with.branch [
      | then-ends_with+in_ok-map_err w ↦
          rw (w.self-is, w.desk-is, w.out-is) (piece_ended s out _ line _ _ step.0 step.1.1 first _ c.ends_with.ensures.value w.if-ends_with.true w.end_line.result _ _ (search rules) w.end_line.ensures)
      | else-ends_with w ↦
          rw (w.self-is, w.desk-is, w.out-is) (piece_kept s out _ line _ _ step.0 step.1.1 first _ c.ends_with.ensures.value w.if-ends_with.false step.2 _ (w.keep.ensures.kept c.loop-line.desk))
    ] in
    record {
      ready = search rules;
      ends = search rules;
      so_far = fed_piece _ _ _ _ _ s out c.loop-line.invariant.so_far line _ _ _ step.0 on.0 on.1;
    }
