-- What words take of a store that name no file.
use Rattle.std.proofs.Common.{ℕ, List, Option, Some, None, sym, subst, arith}
use Rattle.std.specs.Prelude.{map}
use Rattle.outside.specs.Files.{Files, file_named}
use Rattle.command_frame.specs.declared.answer.Ending.{Ending}
use Rattle.command_frame.specs.Reading.{read_in}
use Rattle.command_frame.specs.Steps.{EndTakes}
use Rattle.command_frame.proofs.Taking.{end_takes}
use Rattle.command_line.specs.Commands.{Command}
use Rattle.command_line.specs.Reading.{NamesNoFile}
use Rattle.command_line.specs.Steps.{CommandTakes}

-- where nothing is to be read, a store that stays as it is has given that
pub nothing_taken : (command : Option Command) (files : Option Files) (end : Ending) (before : ℕ) → NamesNoFile command
    → CommandTakes command files end before before
nothing_taken None files end before none = λ all told. end_takes end 0 before before (omega arith, omega arith)
nothing_taken (Some command) files end before none =
    λ all told. subst
    (λ (names : List (List ℕ)). EndTakes end (read_in (map (λ name. file_named name all) names)) before before)
    (sym none) (end_takes end 0 before before (omega arith, omega arith))
