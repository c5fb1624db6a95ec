-- The jobs that the leaves of a system release.
use Rattle.std.specs.Prelude.{◌≡◌, ℕ, ◌<◌, true, false, List, [], length, slice_index_or}
use Rattle.slot_model.specs.declared.job.Job.{Job}
use Rattle.slot_model.specs.Release.{LegalRelease}
use Rattle.tree_model.specs.View.{SystemView}
use Rattle.tree_model.specs.System.{own_tasks_at, is_leaf_at}

abbrev pub jobs_at : List (List Job) → ℕ → List Job
jobs_at jobs q = slice_index_or jobs q []

-- one list of jobs a part: legal at a leaf, and empty at an inner part
pub record AreReleases (sys : SystemView) (jobs : List (List Job)) : Type 0 where
  pub one_each : length jobs ≡ length sys.parts
  pub legal : (q : ℕ) → q < length sys.parts → is_leaf_at sys q ≡ true →
      LegalRelease (own_tasks_at sys q) (jobs_at jobs q)
  pub none : (q : ℕ) → q < length sys.parts → is_leaf_at sys q ≡ false → jobs_at jobs q ≡ []
