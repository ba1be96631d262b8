-- Over any sequence of entries, every code that was accepted is found with its number and no other code is.
--
-- An attempt is a code with a number that was to be entered. Lists of attempts have the latest first.
use Rattle.std.specs.Prelude.{◌≡◌, ℕ, cond, not, ◌&&◌, List, [], ◌∷◌, length, is_some, Result, nat_lt}
use Rattle.ordered.specs.Files.{left}
use Rattle.directory.specs.declared.Directory.{Directory}
use Rattle.terms.specs.declared.faults.DirectoryFault.{DirectoryFault}
use Rattle.directory.specs.Codes.{well_formed}
use Rattle.directory.specs.Entries.{Listed, entries, places, number_in, entering, finding}

-- the attempts that are accepted where there is room for n: those of the form of a code, whose code was not accepted before,
-- while fewer than n were accepted
abbrev pub accepted : ℕ → List Listed → List Listed
accepted n [] = []
accepted n (a ∷ as') =
    let before = accepted n as' in cond (well_formed a.code && (not (is_some (number_in before a.code)) && nat_lt (length before) n)) (a ∷ before) before

-- what a directory that was opened empty holds after these attempts
abbrev pub filled : ℕ → List Listed → List Listed
filled n [] = []
filled n (a ∷ as') = left (filled n as') (entering n (filled n as') a.code a.number)

-- one attempt more: a directory that holds what some attempts leave holds afterwards what these and the new one leave
abbrev pub GoesOn : Directory → Directory → List ℕ → ℕ → Type 0
GoesOn d d' c k = (attempts : List Listed) → entries d ≡ filled (places d) attempts → entries d' ≡ filled (places d') (record { code = c; number = k } ∷ attempts)

-- after any attempts on an empty directory, a look-up answers by the accepted ones alone
abbrev pub FoundAsAccepted : Directory → List ℕ → Result ℕ DirectoryFault → Type 0
FoundAsAccepted d c r = (attempts : List Listed) → entries d ≡ filled (places d) attempts → r ≡ finding (accepted (places d) attempts) c
