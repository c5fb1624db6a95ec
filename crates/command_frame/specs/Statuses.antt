-- The number of each answer, with which the program ends.
use Rattle.std.specs.Prelude.{ℕ}
use Rattle.command_frame.specs.declared.status.Status.{Status}
use Rattle.command_frame.specs.declared.status.Status.TheVariants.{Yes, No, Usage, BadFile, Wide, Absent, TooLong, ReadFault, WriteFault, NoMemory}

abbrev pub status_number : Status → ℕ
status_number Yes = 0
status_number No = 1
status_number Usage = 2
status_number BadFile = 3
status_number Wide = 4
status_number Absent = 5
status_number ReadFault = 6
status_number TooLong = 7
status_number WriteFault = 8
status_number NoMemory = 9
