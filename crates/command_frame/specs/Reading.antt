-- How much is read of the files of a command: of the second nothing, unless the first spells a
-- system.
use Rattle.std.specs.Prelude.{ℕ, ◌+◌, min, nat_le, ◌&&◌, if◌then◌else◌, Bool, false, List, [], ◌∷◌, length, Option, Some, None, is_ok}
use Rattle.system_file.specs.SystemFile.{system_of}
use Rattle.command_frame.specs.Answer.{Contents, file_limit}

-- the bytes that are read of a file: all, or those up to the first past the limit
abbrev pub read_of : Option (List ℕ) → ℕ
read_of None = 0
read_of (Some bytes) = min (length bytes) (file_limit + 1)

-- whether a file is there, short enough, and spells a system
abbrev pub is_system_file : Option (List ℕ) → Bool
is_system_file None = false
is_system_file (Some bytes) = nat_le (length bytes) file_limit && is_ok (system_of bytes)

-- the bytes that are read of one file, or of two: of the second only where the first is a system
-- file
abbrev pub read_in : Contents → ℕ
read_in [] = 0
read_in (only ∷ []) = read_of only
read_in (first ∷ second ∷ rest) =
    read_of first + (if is_system_file first then read_of second else 0)
