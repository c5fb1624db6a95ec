-- The forms of words from a command on, as the private functions look at them, four by a function.
use Rattle.std.specs.Prelude.{List, drop}
use Rattle.command_line.specs.Forms.{Form}
use Rattle.command_line.specs.Commands.{Command, forms}

abbrev pub forms_from_rtds : List (Form Command)
forms_from_rtds = drop 4 forms

abbrev pub forms_from_responses : List (Form Command)
forms_from_responses = drop 8 forms

abbrev pub forms_from_isolate : List (Form Command)
forms_from_isolate = drop 12 forms

abbrev pub forms_from_steal : List (Form Command)
forms_from_steal = drop 16 forms
