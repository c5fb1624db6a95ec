-- What a level's scheduler keeps between two events.
use Rattle.std.specs.Prelude.{◌≡◌, ℕ, ◌-◌, ◌<◌, ◌≤◌, Bool, true, false, List, length, slice_index, slice_set, Option, Some, None}
use Rattle.slot_model.specs.declared.job.Job.{Job}
use Rattle.slot_model.specs.declared.key.Key.{Key}
use Rattle.slot_model.specs.Task.{job_at}
use Rattle.guest_sched.specs.declared.releases.Release.{Release}
use Rattle.guest_sched.specs.declared.ready.Ready.{Ready}
use Rattle.guest_sched.specs.inner.Releases.{release_at}
use Rattle.guest_sched.specs.inner.Places.{StandsIn}
use Rattle.guest_sched.specs.inner.Keys.{AreKeys, AreByKey}

-- job j is among the first n releases
abbrev pub HasCome : List Release → ℕ → ℕ → Type 0
HasCome releases n j = (i : ℕ) × (i < n) × ((release_at releases i).place ≡ j)

-- The first n releases have come, `left` is the work that each job lacks, and the ready jobs are
-- those that have come, lack some and do not end by `now`; some that end by then may stand there
-- too, but none that ends before `soonest`. They stand by their keys. The releases are in the order
-- of time, and each is of another job.
pub record IsState (releases : List Release) (n : ℕ) (keys : List Key) (left ends ready : List ℕ)
    (soonest now : ℕ) : Type 0 where
  pub in_jobs : (i : ℕ) → i < length releases → (release_at releases i).place < length left
  pub same_jobs : length ends ≡ length left
  pub same_keys : length keys ≡ length left
  pub once : (i k : ℕ) → i < length releases → k < length releases →
      (release_at releases i).place ≡ (release_at releases k).place → i ≡ k
  pub in_order : (i k : ℕ) → i ≤ k → k < length releases →
      (release_at releases i).release ≤ (release_at releases k).release
  pub some_come : n ≤ length releases
  pub to_come : (i : ℕ) → n ≤ i → i < length releases →
      1 ≤ slice_index left (release_at releases i).place
  pub come : (j : ℕ) → StandsIn ready j → HasCome releases n j
  pub lacks : (j : ℕ) → StandsIn ready j → 1 ≤ slice_index left j
  pub all : (j : ℕ) → HasCome releases n j → 1 ≤ slice_index left j → now < slice_index ends j →
      StandsIn ready j
  pub soon : (j : ℕ) → StandsIn ready j → soonest ≤ slice_index ends j
  pub by_key : AreByKey keys ready

abbrev pub IsReady : Ready → Type 0
IsReady state =
    IsState state.releases.items state.released state.keys.all.items state.left.items
    state.ends.items state.ready state.soonest state.time

-- the jobs that have come are released by x
abbrev pub HaveCome : Ready → ℕ → Type 0
HaveCome state x = (i : ℕ) → i < state.released → (release_at state.releases.items i).release ≤ x

-- the others are released after x
abbrev pub AreToCome : Ready → ℕ → Type 0
AreToCome state x = (i : ℕ) → state.released ≤ i → i < length state.releases.items →
    x < (release_at state.releases.items i).release

-- of the ready jobs the first in the list of jobs before which none goes
pub record GoesFirst (before : Job → Job → Bool) (jobs : List Job) (ready : List ℕ) (j : ℕ)
    : Type 0 where
  pub stands : StandsIn ready j
  pub unbeaten : (q : ℕ) → StandsIn ready q → before (job_at jobs q) (job_at jobs j) ≡ false
  pub first : (q : ℕ) → StandsIn ready q → q < j →
      (r : ℕ) × StandsIn ready r × (before (job_at jobs r) (job_at jobs q) ≡ true)

-- that one has the slot, and none where there is no slot or no ready job
abbrev pub IsServed : (Job → Job → Bool) → List Job → List ℕ → Bool → Option ℕ → Type 0
IsServed before jobs ready false held = held ≡ None
IsServed before jobs ready true None = length ready ≡ 0
IsServed before jobs ready true (Some j) = GoesFirst before jobs ready j

-- the keys of all jobs
abbrev pub HasKeys : (Job → Job → Bool) → List Job → Ready → Type 0
HasKeys before jobs state = AreKeys before jobs state.keys

-- no job comes or ends before a moment
pub record IsSteady (state : Ready) (until : ℕ) : Type 0 where
  pub none_ends : until ≤ state.soonest
  pub none_comes : state.released < length state.releases.items →
      until ≤ (release_at state.releases.items state.released).release

-- what the jobs lack after a number of slots
abbrev pub left_after : List ℕ → Option ℕ → ℕ → List ℕ
left_after left None slots = left
left_after left (Some j) slots = slice_set left j (slice_index left j - slots)

-- the ready jobs end after a moment
abbrev pub AllEndAfter : List ℕ → List ℕ → ℕ → Type 0
AllEndAfter ends ready x = (k : ℕ) → k < length ready → x < slice_index ends (slice_index ready k)
