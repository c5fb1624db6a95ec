-- What comes of reading the file of a name to its end, or to the first byte past a limit, and what
-- the store counts of it.
use Rattle.std.specs.Prelude.{◌≡◌, ℕ, ◌+◌, ◌<◌, ◌≤◌, List, length, Option, Some, None, IsSomeAnd}
use Rattle.outside.specs.Counts.{Counts, IsQuiet, Rose, RoseBy, RoseBeyond}
use Rattle.outside.specs.Files.{Files, Told, size_of}

-- a whole file was read, which is not longer than the limit; where the files are told, it is the
-- one of that name
pub record IsWhole (files : Option Files) (name : List ℕ) (limit : ℕ) (before after : Counts)
    (bytes : List ℕ) : Type 0 where
  pub short : length bytes ≤ limit
  pub whole : Told files name (λ file. file ≡ Some bytes)
  -- so many bytes were counted
  pub counted : RoseBy (length bytes) before.taken after.taken

-- there is no file of that name
pub record IsAbsent (files : Option Files) (name : List ℕ) (before after : Counts) : Type 0 where
  pub not_there : Told files name (λ file. file ≡ None)
  pub counted : Rose before.absences after.absences
  pub none_failed : after.faults ≡ before.faults
  pub none_taken : after.taken ≡ before.taken

-- the file is there and is longer than the limit
pub record IsTooLong (files : Option Files) (name : List ℕ) (limit : ℕ) (before after : Counts)
    : Type 0 where
  pub longer : Told files name (λ file. IsSomeAnd file (λ bytes. limit < length bytes))
  pub counted : RoseBeyond limit before.taken after.taken
  pub quiet : IsQuiet before after

-- whatever comes of it, no count falls, and no more is read than the file has, nor a byte past the
-- first behind the limit
pub record ReadsWithin (files : Option Files) (name : List ℕ) (limit : ℕ) (before after : Counts)
    : Type 0 where
  pub faults : before.faults ≤ after.faults
  pub absences : before.absences ≤ after.absences
  pub taken : before.taken ≤ after.taken
  pub in_file : Told files name (λ file. after.taken ≤ before.taken + size_of file)
  pub in_limit : after.taken ≤ before.taken + limit + 1
