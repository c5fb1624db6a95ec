use Rattle.std.proofs.Common.{ℕ, ◌++◌, List}
use Rattle.guest_commands.specs.Responses.{AnswerTasks, places_in}
use Rattle.guest_commands.proofs.responding.respond_leaf.Given as goal

-- the answers of the leaf's tasks so far, behind those that there were
abbrev pub invariant-loop-i : goal.invariant-loop-i
invariant-loop-i l =
    (places : List (ℕ × ℕ)) → AnswerTasks l.sys l.plan places l.initial.rows.items
    → AnswerTasks l.sys l.plan (places ++ places_in l.q l.i) l.rows.items
