-- The line of the fault of a system file. Places count from 1.
use Rattle.std.specs.Prelude.{ℕ, ◌+◌, List, [], ◌∷◌, ◌++◌, codes}
use Rattle.std.specs.Fmt.{decimal}
use Rattle.system_file.specs.declared.fault.Spot.{Spot}
use Rattle.system_file.specs.declared.fault.Spot.TheVariants.{Top, Core, Part, Task}
use Rattle.system_file.specs.declared.fault.SystemFault.{SystemFault}
use Rattle.system_file.specs.declared.fault.SystemFault.TheVariants.{NotToml, MissingKey, WrongKind, UnknownKey, BadName, NameTaken, OutOfRange, NoSuchParent, Mixed, Empty, TooMany, NoMemory}
use Rattle.rt_report.specs.Words.{joined}

abbrev pub spot_words : Spot → List ℕ
spot_words Top = codes "top"
spot_words (Core c) = codes "core " ++ decimal (c + 1)
spot_words (Part q) = codes "part " ++ decimal (q + 1)
spot_words (Task q i) = codes "part " ++ (decimal (q + 1) ++ (codes " task " ++ decimal (i + 1)))

-- `fault=WORD at=SPOT file=K`
abbrev pub spot_line : List ℕ → Spot → ℕ → List ℕ
spot_line word spot file = joined (
    codes "fault=" ∷ word
    ∷ codes " at=" ∷ spot_words spot
    ∷ codes " file=" ∷ decimal file ∷ codes "\n" ∷ [])

abbrev pub system_fault_text : SystemFault → ℕ → List ℕ
system_fault_text NotToml file = joined (
    codes "fault=NotToml file=" ∷ decimal file ∷ codes "\n" ∷ [])
system_fault_text (MissingKey spot) file = spot_line (codes "MissingKey") spot file
system_fault_text (WrongKind spot) file = spot_line (codes "WrongKind") spot file
system_fault_text (UnknownKey spot) file = spot_line (codes "UnknownKey") spot file
system_fault_text (BadName spot) file = spot_line (codes "BadName") spot file
system_fault_text (NameTaken spot) file = spot_line (codes "NameTaken") spot file
system_fault_text (OutOfRange spot) file = spot_line (codes "OutOfRange") spot file
system_fault_text (NoSuchParent spot) file = spot_line (codes "NoSuchParent") spot file
system_fault_text (Mixed spot) file = spot_line (codes "Mixed") spot file
system_fault_text (Empty spot) file = spot_line (codes "Empty") spot file
system_fault_text (TooMany spot) file = spot_line (codes "TooMany") spot file
system_fault_text NoMemory file = []
