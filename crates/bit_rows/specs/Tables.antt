-- Tables of sets of numbers, and how they grow.
use Rattle.std.specs.Prelude.{ℕ, ◌<◌, Bool, true, false, List, [], length, get_or, set, replicate, sum_by, ◌≡◌}
use Rattle.bit_rows.specs.Sets.{has, count_of}

-- sets of numbers, in order, and the bound that all of them have
pub record Table : Type 0 where
  pub bits : ℕ
  pub sets : List (List Bool)

-- set r of a table
abbrev pub the_set : Table → ℕ → List Bool
the_set t r = get_or t.sets r []

-- the table with s as its set r
abbrev pub with_set : Table → ℕ → List Bool → Table
with_set t r s = record { bits = t.bits; sets = set t.sets r s }

-- this many empty sets of numbers below `bits`
abbrev pub empty_table : ℕ → ℕ → Table
empty_table rows bits = record { bits = bits; sets = replicate rows (replicate bits false) }

-- set r has the number i
abbrev pub Holds : Table → ℕ → ℕ → Type 0
Holds t r i = has (the_set t r) i ≡ true

-- a table of this many sets, each of numbers below `bits`
pub record IsSized (rows bits : ℕ) (t : Table) : Type 0 where
  pub rows_are : length t.sets ≡ rows
  pub bits_are : t.bits ≡ bits
  pub full : (r : ℕ) → r < rows → length (the_set t r) ≡ bits

-- each set of the first table is a subset of the same set of the second
abbrev pub IsSubtable : Table → Table → Type 0
IsSubtable t u = (r i : ℕ) → Holds t r i → Holds u r i

-- how many members the sets of a table have in all
abbrev pub count_all : Table → ℕ
count_all t = sum_by count_of t.sets

-- the sets keep their members; they have more of them where the flag is true, and are the same where it is false
pub record IsGrown (old new : Table) (changed : Bool) : Type 0 where
  pub kept : IsSubtable old new
  pub more : changed ≡ true → count_all old < count_all new
  pub same : changed ≡ false → new ≡ old
