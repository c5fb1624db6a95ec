-- What is answered over two files, the first of which is a system file.
use Rattle.std.specs.Prelude.{◌≡◌, ℕ, List, Ok}
use Rattle.tree_model.specs.View.{SystemView}
use Rattle.system_file.specs.SystemFile.{system_of}
use Rattle.command_frame.specs.declared.status.Status.{Status}
use Rattle.command_frame.specs.Answer.{Contents, Saying, AtFile, OnSystem, IsReadable}

-- the first file is absent, too long or refused, or else the second is absent or too long, or this
-- is said of its bytes over the system of the first
abbrev pub OnTwoFiles : Contents → (SystemView → Saying) → Status → List ℕ → Type 0
OnTwoFiles contents Says = AtFile 1 contents (λ bytes. OnSystem (system_of bytes)
    (λ sys. AtFile 2 contents (Says sys)))

-- the first file spells this system, and the second is good for it
pub record SpellsSystem (contents : Contents) (sys : SystemView) (IsGood : List ℕ → Type 0)
    : Type 0 where
  pub first : IsReadable 1 contents (λ bytes. system_of bytes ≡ Ok sys)
  pub second : IsReadable 2 contents IsGood

-- both files are there and short enough, the first spells a system, and the second is good for it
pub record AreReadable (contents : Contents) (IsGood : SystemView → List ℕ → Type 0)
    : Type 0 where
  pub sys : SystemView
  pub spelled : SpellsSystem contents sys (IsGood sys)
