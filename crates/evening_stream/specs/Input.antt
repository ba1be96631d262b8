-- The input as it arrives: what is kept of a line whose end has not come, and what each byte does and prints.
use Rattle.std.specs.Prelude.{◌≡◌, ℕ, ◌+◌, ◌≤◌, min, cond, List, [], ◌∷◌, ◌++◌, length, take, Ok, Err, Result, ◌==◌}
use Rattle.std.specs.declared.alloc.AllocError.{AllocError}
use Rattle.evening_desk.specs.declared.desk.Desk.{Desk}
use Rattle.evening_desk.specs.Evening.{Held, held, after, printed}
use Rattle.evening_stream.specs.declared.Stream.{Stream}
use Rattle.evening_stream.specs.declared.fault.Stop.{Stop}
use Rattle.evening_stream.specs.declared.fault.Stop.TheVariants.{Memory}

-- the evening between two bytes: what the desk holds, how many lines have ended, and the bytes of the line that has not
pub record State : Type 0 where
  pub desk : Held
  pub lines : ℕ
  pub kept : List ℕ

abbrev pub state_of : Stream → Desk → State
state_of s d = record { desk = held d; lines = s.lines; kept = s.kept.items }

-- a line's number: lines are counted from 1, by numbers of 64 bits
abbrev pub next : ℕ → ℕ
next n = min (n + 1) 18446744073709551615

-- at most 401 bytes of a line are kept: a line that has more before its LF is too long, whatever they are
abbrev pub clipped : List ℕ → List ℕ
clipped bs = take 401 bs

-- the line ends with these bytes, and is carried out
abbrev pub ended : State → List ℕ → State
ended s line = record { desk = after s.desk line; lines = next s.lines; kept = [] }

abbrev pub ended_says : State → List ℕ → List ℕ
ended_says s line = printed (next s.lines) s.desk line

-- the line goes on
abbrev pub goes_on : State → List ℕ → State
goes_on s bs = record { desk = s.desk; lines = s.lines; kept = bs }

-- one byte: an LF ends the line
abbrev pub step : State → ℕ → State
step s c = let bs = clipped (s.kept ++ (c ∷ [])) in cond (c == 10) (ended s bs) (goes_on s bs)

abbrev pub step_says : State → ℕ → List ℕ
step_says s c = cond (c == 10) (ended_says s (clipped (s.kept ++ (c ∷ [])))) []

-- the first where no byte is kept, else the second
abbrev pub last_line : {X : Type 0} → List ℕ → X → X → X
last_line [] x y = x
last_line (c ∷ cs) x y = y

-- many bytes: the state after them, and all that is printed on the way
abbrev pub fed : State → List ℕ → State
fed s [] = s
fed s (c ∷ cs) = fed (step s c) cs

abbrev pub says : State → List ℕ → List ℕ
says s [] = []
says s (c ∷ cs) = step_says s c ++ says (step s c) cs

-- the end of the input: bytes behind the last LF are a line with no LF
abbrev pub finished : State → State
finished s = last_line s.kept s (ended s s.kept)

abbrev pub finished_says : State → List ℕ
finished_says s = last_line s.kept [] (ended_says s s.kept)

-- what feeding a block leaves and prints; for want of memory, what its first bytes do, up to the end of the last line carried out
abbrev pub Fed : State → List ℕ → List ℕ → Result (Unit {0}) Stop → State → List ℕ → Type 0
Fed s block out (Ok u) s' out' = (s' ≡ fed s block) × (out' ≡ out ++ says s block)
Fed s block out (Err (Memory taken)) s' out' = (taken ≤ length block) × (s' ≡ fed s (take taken block)) × (out' ≡ out ++ says s (take taken block))

-- what ending the input leaves and prints
abbrev pub Finished : State → List ℕ → Result (Unit {0}) Stop → State → List ℕ → Type 0
Finished s out (Ok u) s' out' = (s' ≡ finished s) × (out' ≡ out ++ finished_says s)
Finished s out (Err (Memory taken)) s' out' = (taken ≡ 0) × (s' ≡ s) × (out' ≡ out)

-- what the end of a line leaves: all that the line does and prints, or, for want of memory, everything as it was
abbrev pub LineEnded : State → List ℕ → List ℕ → Result (Unit {0}) AllocError → State → List ℕ → Type 0
LineEnded s rest out (Ok u) s' out' = (s' ≡ ended s (clipped (s.kept ++ rest))) × (out' ≡ out ++ ended_says s (clipped (s.kept ++ rest)))
LineEnded s rest out (Err e) s' out' = (s' ≡ s) × (out' ≡ out)
