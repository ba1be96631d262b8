-- What a line says, apart from where in the input its words stand.
use Rattle.std.specs.Prelude.{◌≡◌, ℕ, List, ℤ, Ok, Err, Result}
use Rattle.std.specs.Borrow.{Bor}
use Rattle.terms.specs.declared.letters.Style.{Style}
use Rattle.terms.specs.declared.letters.RuleKind.{RuleKind}
use Rattle.terms.specs.declared.faults.ReaderFault.{ReaderFault}
use Rattle.evening_file.specs.declared.line.Line.{Line}
use Rattle.evening_file.specs.declared.line.Line.TheVariants as line

-- what a line says: its form, with its code words as bytes and its numbers as integers
pub data Said : Type 0 where
  Account : List ℕ → Said
  Contract : ℤ → List ℕ → Style → ℤ → ℤ → ℤ → ℤ → Said
  Future : List ℕ → ℤ → ℤ → Said
  Option : List ℕ → ℤ → ℤ → List ℤ → Said
  Minimum : ℤ → ℤ → Said
  Rule : RuleKind → ℤ → ℤ → ℤ → Said
  Trade : List ℕ → List ℕ → List ℕ → ℤ → ℤ → Said
  Price : List ℕ → ℤ → Said
  Close : Said
  Expiry : List ℕ → ℤ → Said
  Transfer : List ℕ → List ℕ → Said
  Reading : List ℕ → Said

-- what an instruction says
abbrev pub said : Line → Said
said (line.Account account) = Account account.now
said (line.Contract number code style volume expiry price haircut) = Contract number code.now style volume expiry price haircut
said (line.Future code commodity range) = Future code.now commodity range
said (line.Option code commodity delta losses) = Option code.now commodity delta losses
said (line.Minimum commodity minimum) = Minimum commodity minimum
said (line.Rule kind first second credit) = Rule kind first second credit
said (line.Trade buyer seller code lots price) = Trade buyer.now seller.now code.now lots price
said (line.Price code price) = Price code.now price
said line.Close = Close
said (line.Expiry code price) = Expiry code.now price
said (line.Transfer from to) = Transfer from.now to.now
said (line.Reading account) = Reading account.now

-- what the reader answers
abbrev pub seen : Result Line ReaderFault → Result Said ReaderFault
seen (Ok l) = Ok (said l)
seen (Err f) = Err f

-- every instruction that is made of a code says what `says` gives for that code
abbrev pub SaysOfCode : (Bor (List ℕ) → Line → Type 0) → (List ℕ → Said) → Type 0
SaysOfCode makes says = (code : Bor (List ℕ)) (line : Line) → makes code line → said line ≡ says code.now

-- every instruction that is made of a code and a number says what `says` gives for them
abbrev pub SaysOfCodeAndNumber : (Bor (List ℕ) → ℤ → Line → Type 0) → (List ℕ → ℤ → Said) → Type 0
SaysOfCodeAndNumber makes says = (code : Bor (List ℕ)) (number : ℤ) (line : Line) → makes code number line → said line ≡ says code.now number
