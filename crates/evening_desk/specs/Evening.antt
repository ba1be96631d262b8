-- What the desk holds, what a line does to it, and what is printed of the line.
use Rattle.std.specs.Prelude.{◌≡◌, ℕ, min, true, List, [], ◌∷◌, ◌++◌, length, is_err, Ok, Err, codes, decimal, Result}
use Rattle.std.specs.declared.alloc.AllocError.{AllocError}
use Rattle.ordered.specs.Files.{told, left}
use Rattle.ordered.specs.declared.file.OrderedFile.{OrderedFile}
use Rattle.directory.specs.declared.code.Entry.{Entry}
use Rattle.terms.specs.declared.faults.DirectoryFault.{DirectoryFault}
use Rattle.directory.specs.Entries.{Listed, entries, stored, places, entering, finding}
use Rattle.terms.specs.declared.faults.ReaderFault.{ReaderFault}
use Rattle.evening_file.specs.Said.{Said}
use Rattle.evening_file.specs.Said as said
use Rattle.evening_file.specs.Lines.{line_said}
use Rattle.evening_desk.specs.declared.desk.Desk.{Desk}
use Rattle.terms.specs.declared.faults.LineFault.{LineFault}
use Rattle.terms.specs.declared.faults.LineFault.TheVariants.{Reader, Directory}
use Rattle.terms.specs.Faults.{fault_text}

-- what the desk holds: the accounts with their numbers, and how many there may be
pub record Held : Type 0 where
  pub accounts : List Listed
  pub most : ℕ

abbrev pub held : Desk → Held
held d = record { accounts = entries d.accounts.now; most = places d.accounts.now }

-- the memory behind what the desk holds
abbrev pub memory : Desk → OrderedFile Entry
memory d = stored d.accounts.now

-- the desk with other accounts
abbrev pub with_accounts : Held → List Listed → Held
with_accounts h es = record { accounts = es; most = h.most }

-- accounts are numbered from 0 as they come, by numbers of 32 bits
abbrev pub next_number : List Listed → ℕ
next_number es = min (length es) 4294967295

-- a refusal of the directory is the line's
abbrev pub or_directory : {X : Type 0} → Result X DirectoryFault → Result X LineFault
or_directory (Ok x) = Ok x
or_directory (Err e) = Err (Directory e)

-- the rest of a line is carried out unless a word of it was refused
abbrev pub onward : {X Y : Type 0} → Result X LineFault → (X → Result Y LineFault) → Result Y LineFault
onward (Ok x) on = on x
onward (Err e) on = Err e

-- the number of an account word
abbrev pub account : Held → List ℕ → Result ℕ LineFault
account h w = or_directory (finding h.accounts w)

-- a new account: its number is the count of those before it
abbrev pub new_account : Held → List ℕ → Result Held LineFault
new_account h w = onward (or_directory (entering h.most h.accounts w (next_number h.accounts))) (λ es. Ok (with_accounts h es))

-- What is carried out of a line so far. `A` enters an account. In the other forms the account words are looked up, up to the first
-- word that names a contract; nothing else of them is carried out yet.
abbrev pub carried : Held → Said → Result Held LineFault
carried h (said.Account w) = new_account h w
carried h (said.Trade buyer seller code lots price) = onward (account h buyer) (λ _. onward (account h seller) (λ _. Ok h))
carried h (said.Transfer from to) = onward (account h from) (λ _. onward (account h to) (λ _. Ok h))
carried h (said.Reading w) = onward (account h w) (λ _. Ok h)
carried h (said.Contract number code style volume expiry price haircut) = Ok h
carried h (said.Future code commodity range) = Ok h
carried h (said.Option code commodity delta losses) = Ok h
carried h (said.Minimum commodity minimum) = Ok h
carried h (said.Rule kind first second credit) = Ok h
carried h (said.Price code price) = Ok h
carried h said.Close = Ok h
carried h (said.Expiry code price) = Ok h

-- a refusal of the reader is the line's
abbrev pub unless_reader : Held → Result Said ReaderFault → Result Held LineFault
unless_reader h (Ok s) = carried h s
unless_reader h (Err e) = Err (Reader e)

-- a line's outcome: the reader's refusal, or that of what the line says
abbrev pub outcome : Held → List ℕ → Result Held LineFault
outcome h line = unless_reader h (line_said line)

-- what carrying out leaves: the desk of the outcome, or where it is refused the desk as it was, down to the memory behind it
pub record Carries (d : Desk) (due : Result Held LineFault) (answer : Result (Unit {0}) LineFault) (d' : Desk) : Type 0 where
  pub answered : answer ≡ told due
  pub leaves : held d' ≡ left (held d) due
  pub untouched : is_err answer ≡ true → memory d' ≡ memory d

-- `line 8 directory 4`, with LF at the end
abbrev pub refusal_text : ℕ → LineFault → List ℕ
refusal_text n e = codes "line " ++ (decimal n ++ (codes " " ++ (fault_text e ++ (10 ∷ []))))

abbrev pub printed_of : ℕ → Result Held LineFault → List ℕ
printed_of n (Ok h) = []
printed_of n (Err e) = refusal_text n e

-- what the desk holds after a line: a refused one changes nothing
unfoldable pub after : Held → List ℕ → Held
after h line = left h (outcome h line)

-- what is printed of the line with the number n: a refused one tells its number, the part that refused and that part's number
unfoldable pub printed : ℕ → Held → List ℕ → List ℕ
printed n h line = printed_of n (outcome h line)

-- what working a line leaves: all that it does and prints, or, for want of memory, everything as it was
abbrev pub Worked : Held → ℕ → List ℕ → List ℕ → Result (Unit {0}) AllocError → Held → List ℕ → Type 0
Worked h n line out (Ok u) h' out' = (h' ≡ after h line) × (out' ≡ out ++ printed n h line)
Worked h n line out (Err e) h' out' = (h' ≡ h) × (out' ≡ out)
