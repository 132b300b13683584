-- What a shelf in memory is.
use Rattle.std.specs.Prelude.{◌≡◌, ℕ, List, [], Some}
use Rattle.edge_io.specs.Contents.{Told}
use Rattle.edge_io.specs.Files.{bytes_under}
use Rattle.edge_io.specs.declared.memory_shelf.MemoryShelf.{MemoryShelf}

-- its files, each a name and its bytes
abbrev pub files_of : MemoryShelf → List (List ℕ × List ℕ)
files_of shelf = shelf.files.items

-- the numbers of the fetches that fail
abbrev pub failing_of : MemoryShelf → List ℕ
failing_of shelf = shelf.failing.items

-- the number of the next fetch
abbrev pub fetches_of : MemoryShelf → ℕ
fetches_of shelf = shelf.fetches

-- its count of faults
abbrev pub faults_of : MemoryShelf → ℕ
faults_of shelf = shelf.faults

-- its count of files found too long
abbrev pub long_files_of : MemoryShelf → ℕ
long_files_of shelf = shelf.long_files

-- it tells its contents
abbrev pub contents_of : MemoryShelf → Told
contents_of shelf = Some (bytes_under (files_of shelf))

-- no fetch is to fail
abbrev pub NeverFails : MemoryShelf → Type 0
NeverFails shelf = failing_of shelf ≡ []
