-- Worked cases of what is answered over two files and to `audit`. A wrong definition breaks one of
-- them.
use Rattle.std.proofs.Common.{◌≡◌, ℕ, List, [], ◌∷◌, Option, Some, None, refl, subst}
use Rattle.std.specs.Prelude.{codes}
use Rattle.tree_model.specs.View.{SystemView}
use Rattle.outside.specs.Files.{Files, file_named}
use Rattle.trace_file.specs.declared.event.Event.{Event}
use Rattle.trace_file.specs.Periods.{Satisfied}
use Rattle.command_frame.specs.declared.status.Status.{Status}
use Rattle.command_frame.specs.declared.status.Status.TheVariants.{Yes, No}
use Rattle.command_line.specs.Commands.{audit, command_of}
use Rattle.command_frame.specs.Answer.{Contents}
use Rattle.trace_commands.specs.Audit.{IsAuditOf, AuditMeans}
use Rattle.rt_top.specs.Report.{Reported}

-- `audit` and two files, and nothing else
two_files_to_audit : command_of (codes "audit" ∷ codes "host.toml" ∷ codes "host.csv" ∷ [])
    ≡ Some (audit (codes "host.toml") (codes "host.csv"))
two_files_to_audit = refl

not_fewer_and_not_more :
    (command_of (codes "audit" ∷ []) ≡ None) × (command_of (codes "audit" ∷ codes "a" ∷ []) ≡ None)
    × (command_of (codes "audit" ∷ codes "a" ∷ codes "b" ∷ codes "c" ∷ []) ≡ None)
    × (command_of (codes "admit" ∷ codes "a" ∷ codes "b" ∷ []) ≡ None)
not_fewer_and_not_more = (refl, refl, refl, refl)

-- a yes over told files says that the trace is satisfied, and a no that it is not
what_it_means : (file trace : List ℕ) (files : Files) (contents : Contents) (status : Status) (text : List ℕ)
    → contents ≡ file_named file files ∷ file_named trace files ∷ [] → AuditMeans contents status text
    → AuditMeans (file_named file files ∷ file_named trace files ∷ []) status text
what_it_means file trace files contents status text held means =
    subst (λ (c : Contents). AuditMeans c status text) held means

a_yes_is_satisfied : (file trace : List ℕ) (files : Files) (old new : Option (List ℕ)) (sys : SystemView)
    (budgets : List ℕ) (events : List Event) → Reported (Some (audit file trace)) (Some files) Yes old new →
    IsAuditOf (file_named file files ∷ file_named trace files ∷ []) sys budgets events → Satisfied sys budgets events
a_yes_is_satisfied file trace files old new sys budgets events h of =
    ((what_it_means file trace files h.answer.contents Yes h.text h.answer.held h.answer.means).tells sys budgets
    events of).only refl

a_no_is_not : (file trace : List ℕ) (files : Files) (old new : Option (List ℕ)) (sys : SystemView) (budgets : List ℕ)
    (events : List Event) → Reported (Some (audit file trace)) (Some files) No old new →
    IsAuditOf (file_named file files ∷ file_named trace files ∷ []) sys budgets events → Satisfied sys budgets events
    → ⊥
a_no_is_not file trace files old new sys budgets events h of satisfied =
    (
    let same : No ≡ Yes
    = ((what_it_means file trace files h.answer.contents No h.text h.answer.held h.answer.means).tells sys budgets
    events of).always satisfied in
    cc)
