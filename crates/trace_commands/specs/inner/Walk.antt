-- A trace that is taken piece by piece.
use Rattle.std.specs.Prelude.{◌≡◌, ℕ, List}
use Rattle.tree_model.specs.View.{SystemView}
use Rattle.tree_model.specs.Admission.{Assigned}
use Rattle.tree_model.specs.Plans.{IsPlan}
use Rattle.trace_file.specs.Fed.{HasChecked}
use Rattle.auditor.specs.declared.counted.Counted.{Counted}
use Rattle.auditor.specs.Pieces.{HasAudited}
use Rattle.auditor.specs.declared.pieces.Audit.{Audit}
use Rattle.command_frame.specs.declared.status.Status.{Status}
use Rattle.command_frame.specs.declared.answer.Ending.{Ending}
use Rattle.command_frame.specs.Attempt.{IsRefused, OnAttempt}
use Rattle.command_frame.specs.Budgets.{assigning}
use Rattle.command_frame.specs.Steps.{IfAnswered, EndsJudged}
use Rattle.trace_commands.specs.declared.walk.TraceWalk.{TraceWalk}
use Rattle.trace_commands.specs.declared.walk.Walker.{Walker}
use Rattle.trace_commands.specs.declared.walk.Walker.TheVariants.{Audits, Checks}
use Rattle.trace_commands.specs.Audit.{tracing}

-- these budgets are assigned to the system, and under them this time was counted in these bytes
pub record IsAuditUnder (counted : Counted) (sys : SystemView) (bytes budgets : List ℕ)
    (audit : Audit) : Type 0 where
  pub assigned : Assigned sys budgets
  pub plan : IsPlan sys budgets
  pub audited : HasAudited counted sys budgets bytes audit

-- the refusal of the budgets, which waits
pub record IsWaiting (sys : SystemView) (stop : Ending) : Type 0 where
  pub refused : IfAnswered stop (λ a. IsRefused (assigning sys) a.status a.text.items)
  pub judged : EndsJudged stop

-- what walks over the trace of the system, to count this time, has taken these bytes
abbrev pub HasWalked : Counted → SystemView → List ℕ → Walker → Type 0
HasWalked counted sys bytes (Audits budgets audit) = IsAuditUnder counted sys bytes budgets audit
HasWalked counted sys bytes (Checks check refused) =
    HasChecked sys bytes check × IsWaiting sys refused

-- a walk over the trace of this system, to count this time
pub record BeginsWalk (counted : Counted) (sys : SystemView) (walk : TraceWalk) : Type 0 where
  pub over : walk.sys.now ≡ sys
  pub counting : walk.counted ≡ counted

-- from one value to another a walk over the same system's trace took these bytes
pub record HasTakenTrace (start now : TraceWalk) (bytes : List ℕ) : Type 0 where
  pub same : now.sys.now ≡ start.sys.now
  pub alike : now.counted ≡ start.counted
  pub walked : HasWalked now.counted now.sys.now bytes now.walker

-- the answer to bytes that are refused, or that spell a trace of a system whose budgets are refused
abbrev pub IsUnaudited : SystemView → List ℕ → Status → List ℕ → Type 0
IsUnaudited sys bytes = OnAttempt (tracing sys bytes) (λ events. IsRefused (assigning sys))
