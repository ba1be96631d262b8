-- What a line of an evening file says, and when it is refused.
--
-- A line is what stands before the first LF. 26: no LF, or over 400 bytes before it. 27: the letter, a letter word or the
-- count of words is wrong, anywhere in the line. 28: a number of another form.
use Rattle.std.specs.Prelude.{ℕ, cond, List, [], ◌∷◌, length, drop, ℤ, Some, None, Ok, Err, Option, Result, ◌==◌, nat_le, slice_index_or}
use Rattle.std.specs.Option.{option_map, ok_or}
use Rattle.terms.specs.declared.letters.Style.{Style}
use Rattle.terms.specs.declared.letters.RuleKind.{RuleKind}
use Rattle.terms.specs.declared.faults.ReaderFault.{ReaderFault}
use Rattle.terms.specs.declared.faults.ReaderFault.TheVariants.{Length, Form, Number}
use Rattle.evening_file.specs.Letters.{style, rule_kind}
use Rattle.evening_file.specs.Numbers.{number}
use Rattle.evening_file.specs.Said as said
use Rattle.evening_file.specs.Said.{Said}
use Rattle.evening_file.specs.Words.{words, parted}

-- 27 unless there are n words
abbrev pub counted : ℕ → List (List ℕ) → Result Said ReaderFault → Result Said ReaderFault
counted n ws r = cond (length ws == n) r (Err Form)

-- the word at a place, from 0
abbrev pub at : List (List ℕ) → ℕ → List ℕ
at ws i = slice_index_or ws i []

-- refused unless there is a value, which the rest of the line is read with
abbrev pub given : {X : Type 0} → Result X ReaderFault → (X → Result Said ReaderFault) → Result Said ReaderFault
given (Err f) k = Err f
given (Ok x) k = k x

-- 28 unless the word is a number
abbrev pub numbered : List ℕ → (ℤ → Result Said ReaderFault) → Result Said ReaderFault
numbered w k = given (ok_or (number w) Number) k

-- 27 unless the word names a style
abbrev pub styled : List ℕ → (Style → Result Said ReaderFault) → Result Said ReaderFault
styled w k = given (ok_or (style w) Form) k

-- 27 unless the word names a kind of rule
abbrev pub ruled : List ℕ → (RuleKind → Result Said ReaderFault) → Result Said ReaderFault
ruled w k = given (ok_or (rule_kind w) Form) k

-- a form of one code
abbrev pub of_code : (List ℕ → Said) → List (List ℕ) → Result Said ReaderFault
of_code says ws = counted 1 ws (Ok (says (at ws 0)))

-- a form of a code and a number
abbrev pub of_code_and_number : (List ℕ → ℤ → Said) → List (List ℕ) → Result Said ReaderFault
of_code_and_number says ws = counted 2 ws (numbered (at ws 1) (λ number. Ok (says (at ws 0) number)))

-- A account
abbrev pub account : List (List ℕ) → Result Said ReaderFault
account ws = of_code said.Account ws

-- C number code style volume expiry price haircut: the style is looked at before the numbers
abbrev pub contract : List (List ℕ) → Result Said ReaderFault
contract ws =
    counted 7 ws (styled (at ws 2) (λ style. numbered (at ws 0) (λ number. numbered (at ws 3) (λ volume. numbered (at ws 4) (λ expiry. numbered (at ws 5) (λ price. numbered (at ws 6) (λ haircut.
    Ok (said.Contract number (at ws 1) style volume expiry price haircut))))))))

-- F code commodity range
abbrev pub future : List (List ℕ) → Result Said ReaderFault
future ws = counted 3 ws (numbered (at ws 1) (λ commodity. numbered (at ws 2) (λ range. Ok (said.Future (at ws 0) commodity range))))

-- a number before others, if all of them are numbers
abbrev pub before : Option ℤ → Option (List ℤ) → Option (List ℤ)
before None zs = None
before (Some z) zs = option_map (λ l. z ∷ l) zs

-- the values of words that are all numbers
abbrev pub numbers : List (List ℕ) → Option (List ℤ)
numbers [] = Some []
numbers (w ∷ ws) = before (number w) (numbers ws)

-- O code commodity delta and sixteen losses
abbrev pub option : List (List ℕ) → Result Said ReaderFault
option ws =
    counted 19 ws (numbered (at ws 1) (λ commodity. numbered (at ws 2) (λ delta. given (ok_or (numbers (drop 3 ws)) Number) (λ losses. Ok (said.Option (at ws 0) commodity delta losses)))))

-- N commodity minimum
abbrev pub minimum : List (List ℕ) → Result Said ReaderFault
minimum ws = counted 2 ws (numbered (at ws 0) (λ commodity. numbered (at ws 1) (λ least. Ok (said.Minimum commodity least))))

-- X P|R commodity commodity credit
abbrev pub rule : List (List ℕ) → Result Said ReaderFault
rule ws =
    counted 4 ws (ruled (at ws 0) (λ kind. numbered (at ws 1) (λ first. numbered (at ws 2) (λ second. numbered (at ws 3) (λ credit. Ok (said.Rule kind first second credit))))))

-- T buyer seller code lots price
abbrev pub trade : List (List ℕ) → Result Said ReaderFault
trade ws =
    counted 5 ws (numbered (at ws 3) (λ lots. numbered (at ws 4) (λ price. Ok (said.Trade (at ws 0) (at ws 1) (at ws 2) lots price))))

-- P code price
abbrev pub price : List (List ℕ) → Result Said ReaderFault
price ws = of_code_and_number said.Price ws

-- D
abbrev pub close : List (List ℕ) → Result Said ReaderFault
close ws = counted 0 ws (Ok said.Close)

-- E code price
abbrev pub expiry : List (List ℕ) → Result Said ReaderFault
expiry ws = of_code_and_number said.Expiry ws

-- M from to
abbrev pub transfer : List (List ℕ) → Result Said ReaderFault
transfer ws = counted 2 ws (Ok (said.Transfer (at ws 0) (at ws 1)))

-- R account
abbrev pub reading : List (List ℕ) → Result Said ReaderFault
reading ws = of_code said.Reading ws

-- what stands behind the letter, which is a word of its own
abbrev pub behind : List ℕ → (List (List ℕ) → Result Said ReaderFault) → Result Said ReaderFault
behind rest form = cond (parted rest) (form (words rest)) (Err Form)

-- the form that a letter begins: A, C, F, O, N, X, T, P, D, E, M or R
abbrev pub by_letter : ℕ → List (List ℕ) → Result Said ReaderFault
by_letter c ws =
    cond (c == 65) (account ws) (cond (c == 67) (contract ws) (cond (c == 70) (future ws) (cond (c == 79) (option ws) (
    cond (c == 78) (minimum ws) (cond (c == 88) (rule ws) (cond (c == 84) (trade ws) (cond (c == 80) (price ws) (
    cond (c == 68) (close ws) (cond (c == 69) (expiry ws) (cond (c == 77) (transfer ws) (cond (c == 82) (reading ws) (Err Form))))))))))))

-- what the bytes of a line say
unfoldable pub formed : List ℕ → Result Said ReaderFault
formed [] = Err Form
formed (c ∷ rest) = behind rest (by_letter c)

-- the bytes before the first LF
abbrev pub up_to : List ℕ → Option (List ℕ)
up_to [] = None
up_to (c ∷ cs) = cond (c == 10) (Some []) (option_map (λ l. c ∷ l) (up_to cs))

-- 26 unless there is a line of at most 400 bytes
abbrev pub fitting : Option (List ℕ) → Result Said ReaderFault
fitting None = Err Length
fitting (Some l) = cond (nat_le (length l) 400) (formed l) (Err Length)

-- what the first line of the input says
abbrev pub line_said : List ℕ → Result Said ReaderFault
line_said bs = fitting (up_to bs)
