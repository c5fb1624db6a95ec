-- What is answered where a command comes to a file: a status and a text.
use Rattle.std.specs.Prelude.{◌≡◌, ℕ, ◌-◌, ◌<◌, ◌≤◌, List, length, map, slice_index_or, Option, Some, None, Result, Ok, Err, IsOk, IfSome, IfOk, ⊤}
use Rattle.outside.specs.Files.{Files, file_named}
use Rattle.tree_model.specs.View.{SystemView}
use Rattle.system_file.specs.declared.fault.SystemFault.{SystemFault}
use Rattle.system_file.specs.SystemFile.{system_of}
use Rattle.rt_report.specs.declared.fault.FileFault.TheVariants.{System}
use Rattle.rt_report.specs.Fault.{fault_text}
use Rattle.rt_report.specs.Unread.{absent_text, too_long_text}
use Rattle.command_frame.specs.declared.status.Status.{Status}
use Rattle.command_frame.specs.declared.status.Status.TheVariants.{No, BadFile, Absent, TooLong}

-- the most bytes of a file
abbrev pub file_limit : ℕ
file_limit = 67108864

-- of several statuses and texts of which this is said, all are the same
abbrev pub IsOne : (Status → List ℕ → Type 0) → Type 0
IsOne Says = (status other : Status) (text another : List ℕ)
    → Says status text → Says other another → (status ≡ other) × (text ≡ another)

-- what stands under the names of a command's files, in order: bytes, or nothing
abbrev pub Contents : Type 0
Contents = List (Option (List ℕ))

-- where the files are told, these are the contents of those of these names
abbrev pub AreContentsOf : List (List ℕ) → Option Files → Contents → Type 0
AreContentsOf names None contents = ⊤
AreContentsOf names (Some files) contents = contents ≡ map (λ name. file_named name files) names

-- what stands under the name of file k, counted from 1
abbrev pub file_at : ℕ → Contents → Option (List ℕ)
file_at k contents = slice_index_or contents (k - 1) None

-- what is said of bytes, with a status and a text
abbrev pub Saying : Type 1
Saying = List ℕ → Status → List ℕ → Type 0

-- file k has these bytes: they are too many, or this is said of them
pub record AtBytes (k : ℕ) (bytes : List ℕ) (Says : Saying) (status : Status) (text : List ℕ)
    : Type 0 where
  pub too_long : file_limit < length bytes → (status ≡ TooLong) × (text ≡ too_long_text k)
  pub said : length bytes ≤ file_limit → Says bytes status text

abbrev pub AtContent : ℕ → Option (List ℕ) → Saying → Status → List ℕ → Type 0
AtContent k None Says status text = (status ≡ Absent) × (text ≡ absent_text k)
AtContent k (Some bytes) Says status text = AtBytes k bytes Says status text

-- file k is absent, too long, or this is said of its bytes
abbrev pub AtFile : ℕ → Contents → Saying → Status → List ℕ → Type 0
AtFile k contents Says status text = AtContent k (file_at k contents) Says status text

-- the first file is refused, or this is said of the system that it spells
abbrev pub OnSystem
    : Result SystemView SystemFault → (SystemView → Status → List ℕ → Type 0)
    → Status → List ℕ → Type 0
OnSystem (Ok sys) Says status text = Says sys status text
OnSystem (Err fault) Says status text =
    (status ≡ BadFile) × (text ≡ fault_text (System fault) 1)

-- the only file is absent, too long or refused, or this is said of the system that it spells
abbrev pub OnOneFile : Contents → (SystemView → Status → List ℕ → Type 0) → Status → List ℕ → Type 0
OnOneFile contents Says = AtFile 1 contents (λ bytes. OnSystem (system_of bytes) Says)

-- what holds of the system that the first file spells, where it spells one
abbrev pub IfSystem : Contents → (SystemView → Type 0) → Type 0
IfSystem contents P = IfSome (file_at 1 contents) (λ bytes. IfOk (system_of bytes) P)

-- what holds where the answer is no
abbrev pub IfNo : Status → Type 0 → Type 0
IfNo No P = P
IfNo _ P = ⊤

-- file k is there, short enough, and good
pub record IsReadable (k : ℕ) (contents : Contents) (IsGood : List ℕ → Type 0) : Type 0 where
  pub bytes : List ℕ
  pub there : file_at k contents ≡ Some bytes
  pub short : length bytes ≤ file_limit
  pub good : IsGood bytes

-- the first file is there, short enough, and spells a system
abbrev pub HasSystem : Contents → Type 0
HasSystem contents = IsReadable 1 contents (λ bytes. IsOk (system_of bytes))
