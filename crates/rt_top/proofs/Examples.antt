-- Worked cases of what is answered, and of which answers need a cause. A wrong definition breaks
-- one of them.
use Rattle.std.proofs.Common.{◌≡◌, ℕ, ◌-◌, ◌^◌, List, [], ◌∷◌, length, Option, Some, None, refl, subst, arith}
use Rattle.std.specs.Prelude.{IsOk}
use Rattle.std.specs.Io.KnownBytes.{Appends}
use Rattle.outside.specs.Files.{Files, file_named}
use Rattle.outside.specs.Written.{AppendsProperPrefix}
use Rattle.system_file.specs.SystemFile.{system_of}
use Rattle.command_frame.specs.declared.status.Status.{Status}
use Rattle.command_frame.specs.declared.status.Status.TheVariants.{Yes, No, Usage, BadFile, Wide, TooLong, ReadFault, WriteFault, NoMemory}
use Rattle.command_line.specs.Commands.{Command, admit, usage_line}
use Rattle.command_frame.specs.Answer.{Contents, IfSystem}
use Rattle.command_frame.specs.Budgets.{IsTrulyOverfull}
use Rattle.admit_commands.specs.Admit.{AdmitMeans, KeepsDeadlines}
use Rattle.rt_top.specs.Report.{IsAnswer, Reported}
use Rattle.rt_top.specs.Causes.{HasNoAbsence, IsJudgeable, Stays}

-- after a failed read and without memory nothing is written; a fault of the output cuts an answer
nothing_is_written : (command : Option Command) (files : Option Files) (old new : Option (List ℕ))
    → (Reported command files ReadFault old new → new ≡ old) × (Reported command files NoMemory old new → new ≡ old)
nothing_is_written command files old new = (λ h. h, λ h. h)

a_cut_has_an_answer : (command : Option Command) (files : Option Files) (old new : Option (List ℕ))
    → Reported command files WriteFault old new
    → (status : Status) × (text : List ℕ) × IsAnswer command files status text × AppendsProperPrefix old new text
a_cut_has_an_answer command files old new h = (h.status, h.text, h.answer, h.written)

-- a yes over told files speaks of the system of the file, of its text, and of what is written
what_a_yes_reports : (name : List ℕ) (files : Files) (old new : Option (List ℕ))
    → Reported (Some (admit name)) (Some files) Yes old new →
    (text : List ℕ) × IfSystem (file_named name files ∷ []) (λ sys. KeepsDeadlines sys text) × Appends old new text
what_a_yes_reports name files old new h =
    let means = subst (λ (c : Contents). IfSystem c (λ sys. AdmitMeans sys Yes h.text)) h.answer.held h.answer.means in
    (h.text, means, h.written)

what_a_no_reports : (name : List ℕ) (files : Files) (old new : Option (List ℕ))
    → Reported (Some (admit name)) (Some files) No old new →
    (text : List ℕ) × IfSystem (file_named name files ∷ []) (λ sys. IsTrulyOverfull sys text) × Appends old new text
what_a_no_reports name files old new h =
    let means = subst (λ (c : Contents). IfSystem c (λ sys. AdmitMeans sys No h.text)) h.answer.held h.answer.means in
    (h.text, means, h.written)

-- words that spell no command get the usage line, over any files
the_usage_line_is_written : (files : Option Files) (old new : Option (List ℕ)) → Reported None files Usage old new
    → Appends old new usage_line
the_usage_line_is_written files old new h = subst (λ (t : List ℕ). Appends old new t) h.answer.answers.1 h.written

-- behind seven answers no name was missing
seven_have_no_absence : HasNoAbsence Yes × HasNoAbsence No × HasNoAbsence Usage × HasNoAbsence BadFile
    × HasNoAbsence Wide × HasNoAbsence TooLong × HasNoAbsence ReadFault
seven_have_no_absence = (tt, tt, tt, tt, tt, tt, tt)

-- a file of just so many bytes is judged
a_file_of_the_limit_is_judged : (name : List ℕ) (files : Files) (bytes : List ℕ) → file_named name files ≡ Some bytes
    → length bytes ≡ 67108864 → IsOk (system_of bytes) → IsJudgeable (Some (admit name)) (Some files)
a_file_of_the_limit_is_judged name files bytes there long spelled = record {
  spelled = admit name;
  spells = refl;
  all = files;
  told = refl;
  judged = record { bytes = bytes; there = there; short = omega (arith, long); good = spelled };
}

-- a count that did not rise stays, up to its last value but one
a_quiet_count_stays : Stays 0 0 × Stays (2 ^ 64 - 2) (2 ^ 64 - 2)
a_quiet_count_stays = ((omega arith, refl), (omega arith, refl))
