-- What a shelf over the files of the system is.
use Rattle.std.specs.Prelude.{ℕ}
use Rattle.edge_io.specs.declared.file_shelf.FileShelf.{FileShelf}

-- the files that it opens
abbrev pub files_of : {R : Type 0} → FileShelf R → R
files_of shelf = shelf.files

-- its count of faults
abbrev pub faults_of : {R : Type 0} → FileShelf R → ℕ
faults_of shelf = shelf.faults

-- its count of files found too long
abbrev pub long_files_of : {R : Type 0} → FileShelf R → ℕ
long_files_of shelf = shelf.long_files

-- how many fetches it made
abbrev pub fetches_of : {R : Type 0} → FileShelf R → ℕ
fetches_of shelf = shelf.fetches
