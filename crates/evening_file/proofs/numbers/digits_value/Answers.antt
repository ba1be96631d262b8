-- The value grows by one digit a turn and stays below 10 ^ 12.
use Rattle.std.proofs.Common.{get_or, refl, ◌+◌, ◌*◌, ◌-◌, ◌^◌, ◌<◌, ◌∙◌, arith}
use Rattle.std.proofs.lemmas.Int.{ints, to_z-of_z}
use Rattle.evening_file.proofs.Digits.{below_more, below_at, digits_more, value_more}
use Rattle.evening_file.proofs.numbers.digits_value.Goals as goal

pub overflow_mul-value : goal.overflow_mul-value
overflow_mul-value c =
    let small : c.loop-byte.invariant.0 < 10 ^ 11 = below_at _ _ 11 c.loop-byte.invariant.2 (omega arith) in
    omega (arith, ints)

pub overflow_add-value : goal.overflow_add-value
overflow_add-value c =
    let small : c.loop-byte.invariant.0 < 10 ^ 11 = below_at _ _ 11 c.loop-byte.invariant.2 (omega arith) in
    let told = c.in_ok-value.ensures in
    omega (arith, ints, told.1, told.2)

pub loop-byte-preserved : goal.loop-byte-preserved
loop-byte-preserved c =
    let n = c.loop-byte.invariant.0 in
    let small : n < 10 ^ 11 = below_at _ _ 11 c.loop-byte.invariant.2 (omega arith) in
    let told = c.in_ok-value.ensures in
    let inside = c.loop-byte-test.true in (
      n * 10 + (get_or c.args.digits.now c.loop-byte.byte-index 0 - 48),
      grind (arith, ints, to_z-of_z, told.1, told.2),
      below_more n _ _ c.loop-byte.invariant.2 told.2,
      digits_more _ _ inside told.0 ∙ c.loop-byte.invariant.3,
      value_more _ _ n _ inside refl ∙ c.loop-byte.invariant.4,
    )
