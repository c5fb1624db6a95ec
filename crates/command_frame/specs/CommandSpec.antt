-- What there is to say of a command. The file of each command gives this record; what is said of
-- all commands is taken from it.
use Rattle.std.specs.Prelude.{ℕ, List, ⊤}
use Rattle.command_frame.specs.declared.status.Status.{Status}
use Rattle.command_frame.specs.declared.status.Status.TheVariants.{Yes, No, Wide, NoMemory}
use Rattle.command_frame.specs.Answer.{Contents}

pub record CommandSpec : Type 1 where
  -- the names of its files, in the order of its words
  pub files : List (List ℕ)
  -- the answer, where its files have these contents
  pub Answers : Contents → Status → List ℕ → Type 0
  -- what an answer means
  pub Means : Contents → Status → List ℕ → Type 0
  -- it can be judged by what its files hold: they are there, short enough and well formed
  pub CanJudge : Contents → Type 0
  -- how it ends where it can be judged
  pub EndsAs : Contents → Status → Type 0

-- yes, no or wide, or memory ran out
abbrev pub IsVerdict : Status → Type 0
IsVerdict Yes = ⊤
IsVerdict No = ⊤
IsVerdict Wide = ⊤
IsVerdict NoMemory = ⊤
IsVerdict _ = ⊥

-- the same of a command that is never answered wide, and of one that is always answered yes
abbrev pub IsYesOrNo : Status → Type 0
IsYesOrNo Wide = ⊥
IsYesOrNo status = IsVerdict status

abbrev pub IsYes : Status → Type 0
IsYes No = ⊥
IsYes status = IsYesOrNo status
