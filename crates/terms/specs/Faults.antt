-- Every part's refusals by their numbers, in their order of precedence, and what a refused line tells.
use Rattle.std.specs.Prelude.{ℕ, List, ◌++◌, codes, decimal}
use Rattle.terms.specs.declared.faults.ReaderFault.{ReaderFault}
use Rattle.terms.specs.declared.faults.ReaderFault.TheVariants as reader
use Rattle.terms.specs.declared.faults.DirectoryFault.{DirectoryFault}
use Rattle.terms.specs.declared.faults.DirectoryFault.TheVariants as directory
use Rattle.ordered.specs.declared.file.InsertFault.{InsertFault}
use Rattle.ordered.specs.declared.file.InsertFault.TheVariants as ordered
use Rattle.terms.specs.declared.faults.LineFault.{LineFault}
use Rattle.terms.specs.declared.faults.LineFault.TheVariants.{Reader, Directory}

-- the reader's
abbrev pub reader_number : ReaderFault → ℕ
reader_number reader.Length = 26
reader_number reader.Form = 27
reader_number reader.Number = 28

-- the directory's
abbrev pub directory_number : DirectoryFault → ℕ
directory_number directory.Form = 1
directory_number directory.Present = 2
directory_number directory.Full = 3
directory_number directory.Missing = 4

-- what the ordered file refuses, as the directory tells it
abbrev pub as_directory : InsertFault → DirectoryFault
as_directory ordered.Present = directory.Present
as_directory ordered.Full = directory.Full

-- the name of the part that refused a line
abbrev pub part_of : LineFault → List ℕ
part_of (Reader e) = codes "reader"
part_of (Directory e) = codes "directory"

-- the number of its refusal
abbrev pub number_of : LineFault → ℕ
number_of (Reader e) = reader_number e
number_of (Directory e) = directory_number e

-- part and number, with a space between them
abbrev pub fault_text : LineFault → List ℕ
fault_text e = part_of e ++ (codes " " ++ decimal (number_of e))
