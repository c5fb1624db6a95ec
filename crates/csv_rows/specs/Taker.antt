-- What takes records one by one.
use Rattle.std.specs.Prelude.{ℕ, List, ◌++◌}

-- from one value to another it took these records, behind those that it had taken
abbrev pub Took : {A : Type 0} → (A → A → List (List (List ℕ)) → Type 0)
    → A → A → List (List (List ℕ)) → Type 0
Took {A} has_taken old new more =
    (start : A) (records : List (List (List ℕ))) → has_taken start old records
    → has_taken start new (records ++ more)
