-- A line as a house writes it: a letter, then words, each behind one or more spaces, then any spaces at the end and the LF. What the reader
-- answers depends on the letter and the words alone.
use Rattle.std.specs.Prelude.{◌≡◌, ℕ, suc, ◌≤◌, Bool, true, false, not, ◌&&◌, List, [], ◌∷◌, ◌++◌, map, length, replicate, Result, ◌==◌, ◌≢◌}
use Rattle.terms.specs.declared.faults.ReaderFault.{ReaderFault}
use Rattle.evening_file.specs.declared.line.Line.{Line}
use Rattle.evening_file.specs.Lines.{by_letter}
use Rattle.evening_file.specs.Said.{seen}

-- a word, and how many spaces stand before it beyond the one that has to
pub record Spaced : Type 0 where
  pub extra : ℕ
  pub word : List ℕ

-- every byte may stand in a word: none is a space or an LF
abbrev pub word_bytes : List ℕ → Bool
word_bytes [] = true
word_bytes (c ∷ cs) = not (c == 32) && (not (c == 10) && word_bytes cs)

-- a word has at least one byte
abbrev pub is_word : List ℕ → Bool
is_word [] = false
is_word (c ∷ cs) = word_bytes (c ∷ cs)

abbrev pub all_words : List Spaced → Bool
all_words [] = true
all_words (s ∷ ss) = is_word s.word && all_words ss

-- the bytes between a letter and its LF
abbrev pub spelled : List Spaced → ℕ → List ℕ
spelled [] last = replicate last 32
spelled (s ∷ ss) last = replicate (suc s.extra) 32 ++ (s.word ++ spelled ss last)

-- however many spaces part the words, a line that is not too long says what its letter's form says of them
abbrev pub ByItsWords : List ℕ → Result Line ReaderFault → Type 0
ByItsWords input r =
    (letter : ℕ) (ss : List Spaced) (last : ℕ) (behind : List ℕ)
    → (letter ≢ 10) → all_words ss ≡ true → length (letter ∷ spelled ss last) ≤ 400
    → input ≡ letter ∷ (spelled ss last ++ (10 ∷ behind))
    → seen r ≡ by_letter letter (map (λ s. s.word) ss)
