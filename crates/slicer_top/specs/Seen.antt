-- What is seen of a shelf and of sinks before a call and after it.
use Rattle.std.specs.Prelude.{◌≡◌, ℕ, Option}
use Rattle.edge_io.specs.Contents.{Told}
use Rattle.c_language.specs.Words.{Bytes}

-- a shelf before a call and after it: its counts of faults, of long files and of fetches, its contents, whether it is as it was, and whether it never fails
pub record ShelfSeen : Type 1 where
  pub faults : ℕ
  pub faults' : ℕ
  pub long_files : ℕ
  pub long_files' : ℕ
  pub fetches : ℕ
  pub fetches' : ℕ
  pub contents : Told
  pub contents' : Told
  pub stays : Type 0
  pub never_fails : Type 0

-- a sink before a call and after it: its count of faults, the bytes that it tells, whether it is as it was, and which numbers of bytes it takes
pub record SinkSeen : Type 1 where
  pub faults : ℕ
  pub faults' : ℕ
  pub written : Option Bytes
  pub written' : Option Bytes
  pub stays : Type 0
  pub takes : ℕ → Type 0

-- what is seen of a shelf and of a sink that tell these things
abbrev pub shelf_seen : {F : Type 0} → (F → ℕ) → (F → ℕ) → (F → ℕ) → (F → Told) → (F → Type 0) → F → F → ShelfSeen
shelf_seen faults long_files fetches contents never_fails before after = record {
  faults = faults before;
  faults' = faults after;
  long_files = long_files before;
  long_files' = long_files after;
  fetches = fetches before;
  fetches' = fetches after;
  contents = contents before;
  contents' = contents after;
  stays = after ≡ before;
  never_fails = never_fails before;
}

abbrev pub sink_seen : {S : Type 0} → (S → ℕ) → (S → Option Bytes) → (S → ℕ → Type 0) → S → S → SinkSeen
sink_seen faults written takes before after = record {
  faults = faults before;
  faults' = faults after;
  written = written before;
  written' = written after;
  stays = after ≡ before;
  takes = takes before;
}
