-- The words of a line that was written with spaces between them are those that were written.
use Rattle.std.proofs.Common.{◌≡◌, ℕ, zero, suc, Bool, true, not, ◌&&◌, eqb, leb, List, [], ◌∷◌, ◌++◌, map, length, replicate, Some, Result, sym, refl, ap, ◌∙◌, append_assoc, append-nil}
use Rattle.std.proofs.lemmas.Bool.{cond-true, cond-false, and_parts, and_from, not-true, not_from_false, ne_eqb, le-leb, false≢true}
use Rattle.std.specs.Option.{option_map}
use Rattle.terms.specs.declared.faults.ReaderFault.{ReaderFault}
use Rattle.evening_file.specs.declared.line.Line.{Line}
use Rattle.evening_file.specs.Lines.{up_to, fitting, formed, line_said, by_letter, behind}
use Rattle.evening_file.specs.Said.{seen}
use Rattle.evening_file.specs.Spelling.{Spaced, word_bytes, is_word, all_words, spelled, ByItsWords}
use Rattle.evening_file.specs.Words.{words, words_on, ended, parted}

-- spaces in front are no part of a word
spaces_pass : (n : ℕ) (t : List ℕ) → words_on [] (replicate n 32 ++ t) ≡ words_on [] t
spaces_pass zero t = refl
spaces_pass (suc n) t = spaces_pass n t

-- the bytes of a word go to the word that has come so far
bytes_join : (w v t : List ℕ) → word_bytes v ≡ true → words_on w (v ++ t) ≡ words_on (w ++ v) t
bytes_join w [] t h = ap (λ l. words_on l t) (sym (append-nil w))
bytes_join w (c ∷ v) t h =
    let here = and_parts (not (eqb c 32)) _ h in
    cond-false (eqb c 32) _ _ (not-true _ here.0) ∙ bytes_join (w ++ (c ∷ [])) v t (and_parts (not (eqb c 10)) _ here.1).1 ∙ ap (λ l. words_on l t) (append_assoc w (c ∷ []) v)

-- what follows a word begins with a space, or is nothing
word_ends : (w : List ℕ) (ss : List Spaced) (last : ℕ) → words_on w (spelled ss last) ≡ ended w (words_on [] (spelled ss last))
word_ends w [] zero = refl
word_ends w [] (suc n) = refl
word_ends w (s ∷ ss) last = refl

word_full : (w : List ℕ) (ws : List (List ℕ)) → is_word w ≡ true → (word_bytes w ≡ true) × (ended w ws ≡ w ∷ ws)
word_full [] ws h = absurd (false≢true h)
word_full (c ∷ cs) ws h = (h, refl)

words-spelled : (ss : List Spaced) (last : ℕ) → all_words ss ≡ true → words_on [] (spelled ss last) ≡ map (λ s. s.word) ss
words-spelled [] zero h = refl
words-spelled [] (suc n) h = words-spelled [] n h
words-spelled (s ∷ ss) last h =
    let each = and_parts (is_word s.word) _ h in
    let rest = words_on [] (spelled ss last) in
    let full = word_full s.word rest each.0 in
    spaces_pass (suc s.extra) (s.word ++ spelled ss last) ∙ bytes_join [] s.word (spelled ss last) full.0 ∙ word_ends s.word ss last ∙ full.1 ∙ ap (λ ws. s.word ∷ ws) (words-spelled ss last each.1)

-- the letter is a word of its own
apart : (ss : List Spaced) (last : ℕ) → parted (spelled ss last) ≡ true
apart [] zero = refl
apart [] (suc n) = refl
apart (s ∷ ss) last = refl

formed-spelled : (letter : ℕ) (ss : List Spaced) (last : ℕ) → all_words ss ≡ true → formed (letter ∷ spelled ss last) ≡ by_letter letter (map (λ s. s.word) ss)
unfolding formed words
formed-spelled letter ss last all = cond-true (parted (spelled ss last)) _ _ (apart ss last) ∙ ap (by_letter letter) (words-spelled ss last all)

-- no byte is an LF
abbrev one_line : List ℕ → Bool
one_line [] = true
one_line (c ∷ cs) = not (eqb c 10) && one_line cs

line_more : (xs ys : List ℕ) → one_line xs ≡ true → one_line ys ≡ true → one_line (xs ++ ys) ≡ true
line_more [] ys h k = k
line_more (c ∷ xs) ys h k = let here = and_parts (not (eqb c 10)) _ h in and_from _ _ here.0 (line_more xs ys here.1 k)

line_spaces : (n : ℕ) → one_line (replicate n 32) ≡ true
line_spaces zero = refl
line_spaces (suc n) = line_spaces n

line_word : (w : List ℕ) → word_bytes w ≡ true → one_line w ≡ true
line_word [] h = refl
line_word (c ∷ cs) h =
    let here = and_parts (not (eqb c 10)) _ (and_parts (not (eqb c 32)) _ h).1 in and_from _ _ here.0 (line_word cs here.1)

line_spelled : (ss : List Spaced) (last : ℕ) → all_words ss ≡ true → one_line (spelled ss last) ≡ true
line_spelled [] last h = line_spaces last
line_spelled (s ∷ ss) last h =
    let each = and_parts (is_word s.word) _ h in
    let bytes = (word_full s.word [] each.0).0 in
    line_more (replicate (suc s.extra) 32) _ (line_spaces (suc s.extra)) (line_more s.word _ (line_word s.word bytes) (line_spelled ss last each.1))

-- such bytes with an LF behind them are a line
up_to_line : (xs behind : List ℕ) → one_line xs ≡ true → up_to (xs ++ (10 ∷ behind)) ≡ Some xs
up_to_line [] behind h = refl
up_to_line (c ∷ xs) behind h =
    let here = and_parts (not (eqb c 10)) _ h in
    cond-false (eqb c 10) _ _ (not-true _ here.0) ∙ ap (option_map (λ l. c ∷ l)) (up_to_line xs behind here.1)

-- what is answered by the definition of a line is answered by its letter and words
pub by_its_words : (input : List ℕ) (r : Result Line ReaderFault) → seen r ≡ line_said input → ByItsWords input r
by_its_words input r is letter ss last behind other all few e =
    let line = letter ∷ spelled ss last in
    let one : one_line line ≡ true = and_from _ _ (not_from_false _ (ne_eqb letter 10 other)) (line_spelled ss last all) in
    is ∙ ap line_said e ∙ ap fitting (up_to_line line behind one) ∙ cond-true (leb (length line) 400) _ _ (le-leb (length line) 400 few) ∙ formed-spelled letter ss last all
