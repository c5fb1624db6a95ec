-- What a refused writing leaves in a sink.
use Rattle.std.specs.Prelude.{ℕ, ◌<◌, List, length, take, Option}
use Rattle.std.specs.Io.KnownBytes.{Appends}

-- where they are told, the written bytes grew by a front of these bytes that is not all of them
abbrev pub AppendsProperPrefix : Option (List ℕ) → Option (List ℕ) → List ℕ → Type 0
AppendsProperPrefix written written' bytes =
    (n : ℕ) × (n < length bytes) × Appends written written' (take n bytes)
