-- A number in an evening file: an optional minus, then 1 to 12 digits. Leading zeros and -0 are fine: the value counts.
use Rattle.std.specs.Prelude.{ℕ, ◌+◌, ◌-◌, ◌*◌, Bool, true, cond, ◌&&◌, List, [], ◌∷◌, length, ℤ, pos, neg_ℤ, Some, None, Option, ◌==◌, nat_le}
use Rattle.std.specs.Option.{option_map}

-- 0 to 9
abbrev pub digit : ℕ → Bool
digit c = nat_le 48 c && nat_le c 57

-- nothing but digits
abbrev pub digits : List ℕ → Bool
digits [] = true
digits (c ∷ cs) = digit c && digits cs

-- the value of the digits, behind digits of the value n
abbrev pub value : ℕ → List ℕ → ℕ
value n [] = n
value n (c ∷ cs) = value (n * 10 + (c - 48)) cs

-- the value of 1 to 12 digits
abbrev pub unsigned : List ℕ → Option ℕ
unsigned cs = cond (nat_le 1 (length cs) && (nat_le (length cs) 12 && digits cs)) (Some (value 0 cs)) None

-- the value of a number word
unfoldable pub number : List ℕ → Option ℤ
number [] = None
number (c ∷ cs) = cond (c == 45) (option_map (λ n. neg_ℤ (pos n)) (unsigned cs)) (option_map pos (unsigned (c ∷ cs)))
