-- However the input is cut into blocks, all that is printed is what its lines print in their order.
use Rattle.std.specs.Prelude.{◌≡◌, ℕ, cond, List, [], ◌∷◌, ◌++◌, ◌==◌}
use Rattle.evening_desk.specs.Evening.{Held, after, printed}
use Rattle.evening_stream.specs.Input.{State, next, last_line, fed, says}

-- the lines of the whole input, each with its LF, where w is what has come of the first; behind the last LF there is no further line,
-- or one with no LF
abbrev pub lines_on : List ℕ → List ℕ → List (List ℕ)
lines_on w [] = last_line w [] (w ∷ [])
lines_on w (c ∷ cs) = cond (c == 10) ((w ++ (c ∷ [])) ∷ lines_on [] cs) (lines_on (w ++ (c ∷ [])) cs)

abbrev pub lines_of : List ℕ → List (List ℕ)
lines_of input = lines_on [] input

-- what lines print, one after another, where n lines came before them and h is what the desk holds
abbrev pub printed_by : ℕ → Held → List (List ℕ) → List ℕ
printed_by n h [] = []
printed_by n h (l ∷ ls) = printed (next n) h l ++ printed_by (next n) (after h l) ls

-- the start of an evening
abbrev pub fresh : Held → State
fresh h = record { desk = h; lines = 0; kept = [] }

-- blocks, fed one after another, and the input that they are cut from
abbrev pub fed_all : State → List (List ℕ) → State
fed_all s [] = s
fed_all s (b ∷ bs) = fed_all (fed s b) bs

abbrev pub says_all : State → List (List ℕ) → List ℕ
says_all s [] = []
says_all s (b ∷ bs) = says s b ++ says_all (fed s b) bs

abbrev pub together : List (List ℕ) → List ℕ
together [] = []
together (b ∷ bs) = b ++ together bs

-- Where blocks were fed to a fresh evening, whose output was partly shown already and stands in `out` for the rest, the output after the
-- end of the input is what the lines of the whole input print.
abbrev pub ByItsLines : State → List ℕ → List ℕ → Type 0
ByItsLines s out out' =
    (h : Held) (blocks : List (List ℕ)) (shown : List ℕ) → s ≡ fed_all (fresh h) blocks → shown ++ out ≡ says_all (fresh h) blocks → shown ++ out' ≡ printed_by 0 h (lines_of (together blocks))
