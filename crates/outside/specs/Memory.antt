-- A store and a sink in memory, as contracts see them.
use Rattle.std.specs.Prelude.{ℕ, ◌<◌, ◌≤◌, List, [], length, drop, map, slice_index_or, Option, Some, None, Vec}
use Rattle.std.specs.Option.{ForSome}
use Rattle.std.specs.declared.alloc.Global.{Global}
use Rattle.outside.specs.Files.{Files}

-- a store in memory
pub record MemoryFiles : Type 0 where
  -- the files
  pub files : Files
  -- the most bytes that a read gives
  pub bite : ℕ
  -- the numbers of the calls that fail, where the first call is 0
  pub fails : List ℕ
  -- how many calls were made
  pub calls : ℕ
  -- what is left of the current file
  pub rest : Option (List ℕ)
  pub faults : ℕ
  pub absences : ℕ
  pub taken : ℕ

-- a sink in memory
pub record MemoryOutput : Type 0 where
  -- the written bytes
  pub bytes : List ℕ
  -- the most bytes that it holds
  pub room : ℕ
  -- the most bytes that a write takes
  pub bite : ℕ
  -- the numbers of the writes that fail, where the first write is 0
  pub fails : List ℕ
  -- how many writes were made
  pub calls : ℕ
  pub faults : ℕ

-- the names and bytes
abbrev pub named_files : List (List ℕ × Vec ℕ Global) → Files
named_files files = map (λ f. (f.0, f.1.items)) files

-- the bytes of the file at a place
abbrev pub bytes_at : List (List ℕ × Vec ℕ Global) → ℕ → List ℕ
bytes_at files i = (slice_index_or (named_files files) i ([], [])).1

-- what is left of the current file, of which `at` bytes were read
abbrev pub rest_of : List (List ℕ × Vec ℕ Global) → Option ℕ → ℕ → Option (List ℕ)
rest_of files None at = None
rest_of files (Some i) at = Some (drop at (bytes_at files i))

-- a read gives a byte at least, and the place of reading is inside the current file
pub record StoreIsSound
    (bite : ℕ) (files : List (List ℕ × Vec ℕ Global)) (current : Option ℕ) (at : ℕ)
    : Type 0 where
  pub bites : 1 ≤ bite
  pub in_files : ForSome current (λ i. i < length files)
  pub in_file : ForSome current (λ i. at ≤ length (bytes_at files i))
