-- Pending jobs of a run of six slots, counted by hand. A wrong definition breaks one of these.
use Rattle.std.proofs.Common.{◌≡◌, ℕ, List, [], ◌∷◌, Option, Some, None, refl}
use Rattle.slot_model.specs.declared.job.Job.{Job}
use Rattle.slot_model.specs.Slots.{sum_below}
use Rattle.slot_model.specs.Task.{plain_job}
use Rattle.span_counts.specs.Pending.{slots_pending, pairs_pending}

-- a job of two slots at 0, and one of two slots at 3
abbrev jobs : List Job
jobs = plain_job 0 0 2 ∷ plain_job 0 3 2 ∷ []

abbrev run : List (Option ℕ)
run = None ∷ Some 0 ∷ None ∷ Some 0 ∷ Some 1 ∷ None ∷ []

-- the first is pending up to the slot that ends its work, and not longer
first_is_pending : slots_pending jobs run 0 ≡ 4
unfolding sum_below
first_is_pending = refl

-- the second from its release to the end
second_is_pending : slots_pending jobs run 1 ≡ 3
unfolding sum_below
second_is_pending = refl

both_are_pending : pairs_pending jobs run ≡ 7
unfolding sum_below
both_are_pending = refl
