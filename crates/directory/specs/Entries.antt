-- What a directory holds, and what each call on it answers and leaves.
use Rattle.std.specs.Prelude.{ℕ, Bool, true, false, cond, ◌&&◌, List, [], ◌∷◌, map, length, is_some, Some, None, Ok, Err, Option, Result, ◌==◌, nat_lt}
use Rattle.std.specs.Option.{ok_or}
use Rattle.ordered.specs.Files.{in_use, room}
use Rattle.ordered.specs.declared.file.OrderedFile.{OrderedFile}
use Rattle.directory.specs.declared.code.Entry.{Entry}
use Rattle.directory.specs.declared.Directory.{Directory}
use Rattle.terms.specs.declared.faults.DirectoryFault.{DirectoryFault}
use Rattle.terms.specs.declared.faults.DirectoryFault.TheVariants.{Form, Present, Full, Missing}
use Rattle.directory.specs.Codes.{well_formed, precedes, text_of}

-- an entry as it is told: its code and its number
pub record Listed : Type 0 where
  pub code : List ℕ
  pub number : ℕ

abbrev pub listed : Entry → Listed
listed e = record { code = text_of e; number = e.number }

-- all entries, in the order of their codes
abbrev pub entries : Directory → List Listed
entries d = map listed (in_use d.file)

-- the entries with all of the memory behind them
abbrev pub stored : Directory → OrderedFile Entry
stored d = d.file

-- how many entries there is room for
abbrev pub places : Directory → ℕ
places d = room d.file

-- whether two codes are the same, byte for byte
abbrev pub same : List ℕ → List ℕ → Bool
same [] [] = true
same [] (y ∷ ys) = false
same (x ∷ xs) [] = false
same (x ∷ xs) (y ∷ ys) = x == y && same xs ys

-- the number that stands beside a code
abbrev pub number_in : List Listed → List ℕ → Option ℕ
number_in [] c = None
number_in (e ∷ es) c = cond (same e.code c) (Some e.number) (number_in es c)

-- the entries with one more, in its place
abbrev pub with : Listed → List Listed → List Listed
with one [] = one ∷ []
with one (e ∷ es) = cond (precedes e.code one.code) (e ∷ with one es) (one ∷ (e ∷ es))

-- entering a code: 1 another form, 2 there already, 3 all of the n entries in use
abbrev pub entering : ℕ → List Listed → List ℕ → ℕ → Result (List Listed) DirectoryFault
entering n es c k =
    cond (well_formed c) (cond (is_some (number_in es c)) (Err Present) (cond (nat_lt (length es) n) (Ok (with (record { code = c; number = k }) es)) (Err Full))) (Err Form)

-- finding a code: 1 another form, 4 no entry has it
abbrev pub finding : List Listed → List ℕ → Result ℕ DirectoryFault
finding es c = cond (well_formed c) (ok_or (number_in es c) Missing) (Err Form)
