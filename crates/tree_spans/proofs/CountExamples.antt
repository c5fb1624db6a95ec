-- What is counted of a tree over one slot, by hand: an inner part with two leaves on a full core.
-- Both leaves have a job of one slot that is due at its end, and the second gets the slot. A wrong
-- definition breaks one of these.
use Rattle.std.proofs.Common.{◌≡◌, ℕ, true, false, Option, Some, None, List, [], ◌∷◌, arith, refl}
use Rattle.slot_model.specs.declared.job.Job.{Job}
use Rattle.slot_model.specs.Slots.{sum_below}
use Rattle.slot_model.specs.Release.{releases_at, synchronous}
use Rattle.tree_model.proofs.TreeExamples.{tree, ones, supplies, one_job, core_runs, part_runs}
use Rattle.span_counts.specs.declared.counts.Counts.{Counts}
use Rattle.tree_spans.specs.TreeCounts.{CountsView, AreTreeCounts, NoneMisses, counts_at, no_node_misses}

abbrev jobs : List (List Job)
jobs = [] ∷ one_job ∷ one_job ∷ []

-- slots given, jobs released, and jobs that miss
record Counted (counts : Counts) (given released missed : ℕ) : Type 0 where
  given_is : counts.given ≡ given
  released_is : counts.released ≡ released
  missed_is : counts.missed ≡ missed

module _ (counts : CountsView) (are : AreTreeCounts tree ones 1 supplies jobs core_runs part_runs counts) where
  -- the core has a slot and releases the job of its one server
  of_the_core : Counted (counts_at counts.cores 0) 1 1 0
  unfolding sum_below releases_at synchronous
  of_the_core =
      let is = are.cores 0 (omega arith) in
      record { given_is = is.given; released_is = is.released; missed_is = is.missed }

  -- the inner part has it too, and releases the jobs of two servers, which are due later
  of_the_inner_part : Counted (counts_at counts.parts 0) 1 2 0
  unfolding sum_below releases_at synchronous
  of_the_inner_part =
      let is = are.inner 0 (omega arith) refl in
      record { given_is = is.given; released_is = is.released; missed_is = is.missed }

  -- the first leaf has none, and misses
  of_the_first_leaf : Counted (counts_at counts.parts 1) 0 1 1
  unfolding sum_below releases_at synchronous
  of_the_first_leaf =
      let is = are.leaves 1 (omega arith) refl in
      record { given_is = is.given; released_is = is.released; missed_is = is.missed }

  of_the_second_leaf : Counted (counts_at counts.parts 2) 1 1 0
  unfolding sum_below releases_at synchronous
  of_the_second_leaf =
      let is = are.leaves 2 (omega arith) refl in
      record { given_is = is.given; released_is = is.released; missed_is = is.missed }

-- one miss of a part, or of a core, is enough
abbrev counted : ℕ → Counts
counted missed = record { given = 1; released = 2; missed = missed; first = None }

who_misses : no_node_misses (record { cores = counted 0 ∷ []; parts = counted 0 ∷ counted 0 ∷ [] })
    ∷ no_node_misses (record { cores = counted 0 ∷ []; parts = counted 0 ∷ counted 1 ∷ [] })
    ∷ no_node_misses (record { cores = counted 0 ∷ counted 1 ∷ []; parts = counted 0 ∷ [] }) ∷ []
    ≡ true ∷ false ∷ false ∷ []
who_misses = refl

-- one job that misses is enough: one of a leaf that gets no slot,
a_leaf_misses : NoneMisses tree ones 1 jobs core_runs part_runs → ⊥
unfolding sum_below
a_leaf_misses none =
    none.leaves 1 (omega arith) refl 0 (record { is_job = omega arith; in_run = omega arith; short = omega arith })

-- one of a server of the inner part, which gets none of the two slots of its period,
abbrev idle : List (Option ℕ)
idle = None ∷ None ∷ []

abbrev no_jobs : List (List Job)
no_jobs = [] ∷ [] ∷ [] ∷ []

abbrev second_idle : List (List (Option ℕ))
second_idle = (Some 0 ∷ None ∷ []) ∷ idle ∷ idle ∷ []

an_inner_server_misses : NoneMisses tree ones 2 no_jobs ((Some 0 ∷ None ∷ []) ∷ []) second_idle → ⊥
unfolding sum_below releases_at synchronous
an_inner_server_misses none =
    none.inner 0 (omega arith) refl 1 (record { is_job = omega arith; in_run = omega arith; short = omega arith })

-- and one of the server of the core
abbrev both_served : List (List (Option ℕ))
both_served = (Some 0 ∷ Some 1 ∷ []) ∷ idle ∷ idle ∷ []

the_server_of_the_core_misses : NoneMisses tree ones 2 no_jobs (idle ∷ []) both_served → ⊥
unfolding sum_below releases_at synchronous
the_server_of_the_core_misses none =
    none.cores 0 (omega arith) 0 (record { is_job = omega arith; in_run = omega arith; short = omega arith })
