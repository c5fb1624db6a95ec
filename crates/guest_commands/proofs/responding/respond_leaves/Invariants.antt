use Rattle.guest_commands.specs.Responses.{AnswerTasks}
use Rattle.guest_commands.proofs.RespondLeaf.{answered_among}
use Rattle.guest_commands.proofs.responding.respond_leaves.Given as goal

-- the answers of the parts so far
abbrev pub invariant-loop-q : goal.invariant-loop-q
invariant-loop-q l = AnswerTasks l.sys l.plan (answered_among l.sys l.q) l.rows.items
