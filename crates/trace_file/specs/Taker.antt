-- What takes events one by one.
use Rattle.std.specs.Prelude.{List, ◌++◌}
use Rattle.trace_file.specs.declared.event.Event.{Event}

-- from one value to another it took these events, behind those that it had taken
abbrev pub Took : {A : Type 0} → (A → A → List Event → Type 0) → A → A → List Event → Type 0
Took {A} has_taken old new more =
    (start : A) (events : List Event) → has_taken start old events →
    has_taken start new (events ++ more)
