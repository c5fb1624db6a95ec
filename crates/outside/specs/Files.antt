-- Files as names and bytes.
use Rattle.std.specs.Prelude.{ℕ, List, length, Option, Some, None, ⊤, nat_eq}
use Rattle.std.specs.Map.{lookup}
use Rattle.std.specs.Cmp.Lexicographic.{pointwise}

-- each file's name and bytes
abbrev pub Files : Type 0
Files = List (List ℕ × List ℕ)

-- the bytes of the first file of that name
abbrev pub file_named : List ℕ → Files → Option (List ℕ)
file_named name files = lookup (pointwise nat_eq name) files

-- how many bytes stand under a name, none where there is no file
abbrev pub size_of : Option (List ℕ) → ℕ
size_of None = 0
size_of (Some bytes) = length bytes

-- where the files are told, what is said of the file of that name
abbrev pub Told : Option Files → List ℕ → (Option (List ℕ) → Type 0) → Type 0
Told None name P = ⊤
Told (Some files) name P = P (file_named name files)
