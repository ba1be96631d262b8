-- The value of the digits passed, with those still to come, is that of them all.
use Rattle.std.proofs.Common.{◌≡◌, ℕ, ◌^◌, ◌<◌, drop, pos}
use Rattle.evening_file.specs.Numbers.{digits, value}
use Rattle.evening_file.proofs.numbers.digits_value.Given as goal

abbrev pub invariant-loop-byte : goal.invariant-loop-byte
invariant-loop-byte l =
    (n : ℕ) × (l.value ≡ pos n) × (n < 10 ^ l.byte-index) × (digits (drop l.byte-index l.digits) ≡ digits l.digits) × (value n (drop l.byte-index l.digits) ≡ value 0 l.digits)
