-- The words of a line. Only the space, byte 32, parts words; one or more of them do, and those at the end count for nothing.
use Rattle.std.specs.Prelude.{◌≡◌, ℕ, ◌<◌, Bool, true, false, cond, ◌&&◌, List, [], ◌∷◌, ◌++◌, length, ℤ, Ok, Err, Result, ◌==◌, slice_index_or}
use Rattle.std.specs.Option.{ok_or}
use Rattle.terms.specs.declared.faults.ReaderFault.{ReaderFault}
use Rattle.terms.specs.declared.faults.ReaderFault.TheVariants as fault
use Rattle.evening_file.specs.declared.words.Word.{Word}
use Rattle.evening_file.specs.declared.words.Words.{Words}
use Rattle.evening_file.specs.declared.words.Word.TheVariants.{Code, Number, Letter}
use Rattle.evening_file.specs.Letters.{only}
use Rattle.evening_file.specs.Numbers.{number}

-- a word that has come to its end, unless no byte of it came
abbrev pub ended : List ℕ → List (List ℕ) → List (List ℕ)
ended [] ws = ws
ended (c ∷ cs) ws = (c ∷ cs) ∷ ws

-- the words of the bytes, where w is what has come of the first of them
abbrev pub words_on : List ℕ → List ℕ → List (List ℕ)
words_on w [] = ended w []
words_on w (c ∷ cs) = cond (c == 32) (ended w (words_on [] cs)) (words_on (w ++ (c ∷ [])) cs)

-- the words of the bytes
unfoldable pub words : List ℕ → List (List ℕ)
words bs = words_on [] bs

-- the letter before these bytes is a word of its own
abbrev pub parted : List ℕ → Bool
parted [] = true
parted (c ∷ cs) = c == 32

-- the part of the line that a word is
abbrev pub text_of : Word → List ℕ
text_of (Code b) = b.now
text_of (Number b) = b.now
text_of (Letter b) = b.now

-- a word handed out as a number
abbrev pub is_number : Word → Bool
is_number (Code b) = false
is_number (Number b) = true
is_number (Letter b) = false

-- a word handed out as a letter word
abbrev pub is_letter : Word → Bool
is_letter (Code b) = false
is_letter (Number b) = false
is_letter (Letter b) = true

-- the words that are still to be handed out
abbrev pub left : Words → List (List ℕ)
left ws = words ws.rest.now

-- the letter before these bytes is a word of its own, and n words follow it; refused where they do not
abbrev pub Followed : List ℕ → ℕ → Result Words ReaderFault → Type 0
Followed rest n (Ok ws) = (left ws ≡ words rest) × ((parted rest ≡ true) × (length (words rest) ≡ n))
Followed rest n (Err e) = (e ≡ fault.Form) × ((parted rest && length (words rest) == n) ≡ false)

-- the next of the words s is handed out, and t is left
abbrev pub Handed : Words → Words → List ℕ → Type 0
Handed s t w = 0 < length (left s) → left s ≡ w ∷ left t

-- the next of the words s is handed out as the value of a number, or 28, and t is left
abbrev pub Valued : Words → Words → Result ℤ ReaderFault → Type 0
Valued s t r = 0 < length (left s) → (left s ≡ slice_index_or (left s) 0 [] ∷ left t) × (r ≡ ok_or (number (slice_index_or (left s) 0 [])) fault.Number)

-- the next of the words s is handed out as the one byte of a letter word, or 27, and t is left
abbrev pub Lettered : Words → Words → Result ℕ ReaderFault → Type 0
Lettered s t r = 0 < length (left s) → (left s ≡ slice_index_or (left s) 0 [] ∷ left t) × (r ≡ ok_or (only (slice_index_or (left s) 0 [])) fault.Form)
