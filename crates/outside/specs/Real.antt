-- The real ends, as contracts see them: what they count, and the bytes that std tells of them.
use Rattle.std.specs.Prelude.{ℕ, Bool, List, Option}

-- a store of real files
pub record DiskCounts : Type 0 where
  -- whether a file is current
  pub is_open : Bool
  -- what is left of the current file, where its handle tells
  pub rest : Option (List ℕ)
  pub faults : ℕ
  pub absences : ℕ
  pub taken : ℕ

-- an output over a writer
pub record WriterCounts : Type 0 where
  -- what the writer holds, where it tells
  pub contents : Option (List ℕ)
  pub faults : ℕ
