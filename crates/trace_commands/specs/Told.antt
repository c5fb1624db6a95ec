-- What is said of the commands that audit a trace, by what they tell of it.
use Rattle.tree_model.specs.View.{SystemView}
use Rattle.command_frame.specs.Answer.{Saying}
use Rattle.trace_commands.specs.declared.audit.TraceCommand.{TraceCommand}
use Rattle.trace_commands.specs.declared.audit.TraceCommand.TheVariants.{Audit, Tally, Steal}
use Rattle.trace_commands.specs.Audit.{Audits}
use Rattle.trace_commands.specs.Tally.{Tallies}
use Rattle.trace_commands.specs.Steal.{Steals}
use Rattle.auditor.specs.declared.counted.Counted.{Counted}
use Rattle.auditor.specs.declared.counted.Counted.TheVariants.{Core, Stolen}

-- the answer to a system and the bytes of a trace
abbrev pub trace_says : TraceCommand → SystemView → Saying
trace_says Audit = Audits
trace_says Tally = Tallies
trace_says Steal = Steals

-- which time of a VCPU it counts
abbrev pub counted_by : TraceCommand → Counted
counted_by Audit = Core
counted_by Tally = Core
counted_by Steal = Stolen
