-- What the children of a level get: the slots at which its run holds one of their jobs.
use Rattle.std.specs.Prelude.{◌≡◌, ℕ, ◌<◌, List, [], length, slice_index_or, Option}
use Rattle.slot_model.specs.declared.job.Job.{Job}
use Rattle.slot_model.specs.Run.{child_supply}
use Rattle.guest_sched.specs.Spans.{Window, AreWindows, slots_of}

-- the windows of n slots that give just the slots at which a run holds a job of task k
pub record AreShare (jobs : List Job) (run : List (Option ℕ)) (n k : ℕ)
    (windows : List Window) : Type 0 where
  pub fit : AreWindows windows n
  pub slots : slots_of windows n ≡ child_supply jobs run k

abbrev pub share_at : List (List Window) → ℕ → List Window
share_at shares k = slice_index_or shares k []

-- one list of windows a task
pub record AreShares (jobs : List Job) (run : List (Option ℕ)) (n count : ℕ)
    (shares : List (List Window)) : Type 0 where
  pub one_each : length shares ≡ count
  pub each : (k : ℕ) → k < count → AreShare jobs run n k (share_at shares k)
