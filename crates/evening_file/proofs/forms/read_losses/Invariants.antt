-- The losses read so far stand in the first places, before the values of the words that are left.
use Rattle.std.proofs.Common.{◌≡◌, ◌+◌, ◌++◌, length, take}
use Rattle.std.specs.Option.{option_map}
use Rattle.evening_file.specs.Lines.{numbers}
use Rattle.evening_file.specs.Words.{left}
use Rattle.evening_file.proofs.forms.read_losses.Given as goal

abbrev pub invariant-loop-loss : goal.invariant-loop-loss
invariant-loop-loss l =
    (length l.loss-items ≡ 16)
    × (length (left l.initial.words) ≡ 16 → record {
      count : length (left l.words) + l.loss-index ≡ 16;
      values : numbers (left l.initial.words) ≡ option_map (λ zs. take l.loss-index l.loss-items ++ zs) (numbers (left l.words));
    })
