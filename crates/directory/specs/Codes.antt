-- Codes: 1 to 12 bytes of A to Z and 0 to 9, ranked by bytes, a code that begins another one first.
use Rattle.std.specs.Prelude.{◌≡◌, ℕ, Ok, Err, Result, Bool, true, false, cond, ◌&&◌, ◌||◌, List, [], ◌∷◌, length, take, ◌==◌, nat_le, nat_lt}
use Rattle.std.specs.List.{list_all}
use Rattle.terms.specs.declared.faults.DirectoryFault.{DirectoryFault}
use Rattle.terms.specs.declared.faults.DirectoryFault.TheVariants.{Form}
use Rattle.directory.specs.declared.code.Code.{Code}
use Rattle.directory.specs.declared.code.Entry.{Entry}

-- A to Z, and 0 to 9
abbrev pub code_byte : ℕ → Bool
code_byte b = (nat_le 65 b && nat_le b 90) || (nat_le 48 b && nat_le b 57)

abbrev pub code_bytes : List ℕ → Bool
code_bytes bs = list_all code_byte bs

-- the form of a code
abbrev pub well_formed : List ℕ → Bool
well_formed bs = nat_le 1 (length bs) && (nat_le (length bs) 12 && code_bytes bs)

-- whether the first code ranks before the second: the first byte that differs decides, and a code that begins the other comes first
abbrev pub precedes : List ℕ → List ℕ → Bool
precedes [] [] = false
precedes [] (y ∷ ys) = true
precedes (x ∷ xs) [] = false
precedes (x ∷ xs) (y ∷ ys) = cond (x == y) (precedes xs ys) (nat_lt x y)

-- a code's bytes
abbrev pub text : Code → List ℕ
text c = take c.len c.bytes

abbrev pub text_of : Entry → List ℕ
text_of e = text e.code

-- the ranking of entries: by their codes
abbrev pub earlier : Entry → Entry → Bool
earlier a b = precedes (text_of a) (text_of b)

-- the code that bytes make, or the refusal of bytes that make none
abbrev pub Coded : List ℕ → Result Code DirectoryFault → Type 0
Coded bs (Ok c) = (well_formed bs ≡ true) × (text c ≡ bs)
Coded bs (Err e) = (well_formed bs ≡ false) × (e ≡ Form)
