-- What is kept of a level of servers between two events, in place of a list of its jobs.
use Rattle.std.specs.Prelude.{◌≡◌, ◌⊎◌, ℕ, ◌+◌, ◌<◌, ◌≤◌, ◌==◌, ◌&&◌, ◌||◌, nat_lt, min, Bool, true, List, length, map, slice_index_or, Option, Some, None, IfSome}
use Rattle.slot_model.specs.declared.job.Job.{Job}
use Rattle.slot_model.specs.declared.miss.Miss.{Miss}
use Rattle.slot_model.specs.declared.sched.Sched.{Sched}
use Rattle.slot_model.specs.declared.sched.Sched.TheVariants.{Edf, Rm, Dm, Listed}
use Rattle.slot_model.specs.Slots.{count_below}
use Rattle.slot_model.specs.Task.{SporadicTask, task_at, job_at, deadline_of}
use Rattle.slot_model.specs.Order.{before_of}
use Rattle.slot_model.specs.Release.{releases_at, synchronous}
use Rattle.slot_model.specs.Run.{server, held, service, holds_task, FirstRun, FirstRunTo}
use Rattle.slot_model.specs.Miss.{miss_of}
use Rattle.guest_sched.specs.Spans.{Window, AreWindows, is_given, slots_of}
use Rattle.release_pattern.specs.Due.{IsNext}
use Rattle.span_counts.specs.Counts.{AreCounts}
use Rattle.server_sched.specs.declared.level.Level.{Level}
use Rattle.server_sched.specs.declared.serving.Server.{Server}
use Rattle.server_sched.specs.declared.tally.Late.{Late}
use Rattle.tree_spans.specs.Shares.{share_at, AreShares}
use Rattle.server_sched.specs.inner.Kept.{KeptView}

-- tasks of servers: a job is released as it arrives, and due at the end of its period
pub record IsServerTask (task : SporadicTask) : Type 0 where
  pub prompt : task.jitter ≡ 0
  pub to_period : task.deadline ≡ task.period

abbrev pub AreServerTasks : List SporadicTask → Type 0
AreServerTasks tasks = (i : ℕ) → i < length tasks → IsServerTask (task_at tasks i)

abbrev pub no_server : Server
no_server = record { left = 0; next = 0; place = 0; key = 0; tie = 0 }

abbrev pub server_at : List Server → ℕ → Server
server_at servers i = slice_index_or servers i no_server

-- the numbers by which a server goes first: its deadline moment and the place of its job, or what
-- its task is ranked by and the place of its task
abbrev pub IsKeyed : Sched → SporadicTask → ℕ → Server → Type 0
IsKeyed Edf task i s = (s.key ≡ s.next) × (s.tie ≡ s.place)
IsKeyed Rm task i s = (s.key ≡ task.period) × (s.tie ≡ i)
IsKeyed Dm task i s = (s.key ≡ task.deadline) × (s.tie ≡ i)
IsKeyed Listed task i s = (s.key ≡ 0) × (s.tie ≡ i)

abbrev pub goes_first : Server → Server → Type 0
goes_first a b = (a.key < b.key) ⊎ ((a.key ≡ b.key) × (a.tie ≤ b.tie))

-- of the servers whose job lacks slots the one that goes first, and none where no job lacks any
abbrev pub IsChosen : List Server → Option ℕ → Type 0
IsChosen servers None = (i : ℕ) → i < length servers → (server_at servers i).left ≡ 0
IsChosen servers (Some b) = (b < length servers) × (0 < (server_at servers b).left) ×
    ((i : ℕ) → i < length servers → 0 < (server_at servers i).left →
    goes_first (server_at servers b) (server_at servers i))

-- job j is the one that its server has: what it lacks at x, and when it is due
pub record HasJob (tasks : List SporadicTask) (jobs : List Job) (run : List (Option ℕ)) (x : ℕ)
    (servers : List Server) (j : ℕ) : Type 0 where
  pub there : (server_at servers (job_at jobs j).task).place ≡ j
  pub due : (server_at servers (job_at jobs j).task).next ≡ deadline_of tasks (job_at jobs j)
  pub lacks : (server_at servers (job_at jobs j).task).left + service run j x
      ≡ (job_at jobs j).work

-- a server whose job lacks slots
pub record IsActive (sched : Sched) (tasks : List SporadicTask) (jobs : List Job)
    (run : List (Option ℕ)) (x released : ℕ) (servers : List Server) (i : ℕ) : Type 0 where
  pub come : (server_at servers i).place < released
  pub own : (job_at jobs (server_at servers i).place).task ≡ i
  pub job : HasJob tasks jobs run x servers (server_at servers i).place
  pub keyed : IsKeyed sched (task_at tasks i) i (server_at servers i)

-- the first p servers have released what they release at x, after a run up to x
pub record AtMoment (sched : Sched) (tasks : List SporadicTask) (jobs : List Job)
    (run : List (Option ℕ)) (x p released : ℕ) (servers : List Server) : Type 0 where
  pub one_each : length servers ≡ length tasks
  pub counted : released ≡ length (releases_at tasks 0 x p (synchronous tasks 0 x))
  pub past : (i : ℕ) → i < p → i < length tasks →
      IsNext (task_at tasks i) (x + 1) (server_at servers i).next
  pub to_come : (i : ℕ) → p ≤ i → i < length tasks →
      IsNext (task_at tasks i) x (server_at servers i).next
  pub by_now : (j : ℕ) → j < released → (job_at jobs j).release ≤ x
  pub come : (j : ℕ) → j < released → (deadline_of tasks (job_at jobs j) ≤ x)
      ⊎ HasJob tasks jobs run x servers j
  pub active : (i : ℕ) → i < length tasks → 0 < (server_at servers i).left →
      IsActive sched tasks jobs run x released servers i

-- all jobs that are released before `next` have come, after a run up to x
pub record AtRest (sched : Sched) (tasks : List SporadicTask) (n : ℕ) (run : List (Option ℕ))
    (x released next : ℕ) (servers : List Server) : Type 0 where
  pub in_time : x ≤ next
  pub one_each : length servers ≡ length tasks
  pub counted : released ≡ length (synchronous tasks 0 (min next n))
  pub to_come : (i : ℕ) → i < length tasks →
      IsNext (task_at tasks i) next (server_at servers i).next
  pub by_now : (j : ℕ) → j < released → (job_at (synchronous tasks 0 n) j).release ≤ x
  pub come : (j : ℕ) → j < released →
      ((deadline_of tasks (job_at (synchronous tasks 0 n) j) ≤ x)
      × (deadline_of tasks (job_at (synchronous tasks 0 n) j) < next))
      ⊎ HasJob tasks (synchronous tasks 0 n) run x servers j
  pub active : (i : ℕ) → i < length tasks → 0 < (server_at servers i).left →
      IsActive sched tasks (synchronous tasks 0 n) run x released servers i

-- whether job j gets less than its work by its deadline moment, which is before x, or at x where
-- its task is one of the first p
abbrev pub is_late : List SporadicTask → List Job → List (Option ℕ) → ℕ → ℕ → ℕ → Bool
is_late tasks jobs run x p j =
    (nat_lt (deadline_of tasks (job_at jobs j)) x
    || (deadline_of tasks (job_at jobs j) == x && nat_lt (job_at jobs j).task p))
    && nat_lt (service run j (deadline_of tasks (job_at jobs j))) (job_at jobs j).work

-- the first of the late jobs: the least deadline moment, and of several the first place
pub record IsFirstLate (tasks : List SporadicTask) (jobs : List Job) (run : List (Option ℕ))
    (late : ℕ → Bool) (first : Late) : Type 0 where
  pub inside : first.place < length jobs
  pub is_late : late first.place ≡ true
  pub told : first.miss ≡ miss_of tasks jobs run first.place
  pub least : (k : ℕ) → k < length jobs → late k ≡ true →
      (deadline_of tasks (job_at jobs first.place) < deadline_of tasks (job_at jobs k))
      ⊎ ((deadline_of tasks (job_at jobs first.place) ≡ deadline_of tasks (job_at jobs k))
      × (first.place ≤ k))

-- how many jobs are late, and the first of them
pub record Tallies (tasks : List SporadicTask) (jobs : List Job) (run : List (Option ℕ))
    (late : ℕ → Bool) (missed : ℕ) (first : Option Late) : Type 0 where
  pub count : missed ≡ count_below late (length jobs)
  pub some : IfSome first (IsFirstLate tasks jobs run late)
  pub none : first ≡ None → missed ≡ 0

-- what each child gets of a run up to x
pub record AreSharesTo (jobs : List Job) (run : List (Option ℕ)) (x count : ℕ)
    (shares : List (List Window)) : Type 0 where
  pub one_each : length shares ≡ count
  pub fit : (k : ℕ) → k < count → AreWindows (share_at shares k) x
  pub same : (k y : ℕ) → k < count → y < x →
      is_given (share_at shares k) y ≡ holds_task jobs (held run y) k

-- what is told of the first late job
abbrev pub told_of : Option Late → Option Miss
told_of None = None
told_of (Some late) = Some late.miss

-- a level of servers whose first run is made up to a moment
pub record IsUnderway (sched : Sched) (tasks : List SporadicTask) (slots : List Bool)
    (level : Level) : Type 0 where
  pub run : List (Option ℕ)
  pub first : FirstRunTo server (before_of sched tasks) tasks (synchronous tasks 0 level.slots)
      slots level.time run
  pub in_slots : level.time ≤ level.slots
  pub rest : AtRest sched tasks level.slots run level.time level.come.released level.come.next
      level.servers.items
  pub shares : AreSharesTo (synchronous tasks 0 level.slots) run level.time (length tasks)
      (map (λ s. s.items) level.shares.items)
  pub chosen : IsChosen level.servers.items level.best
  pub tallied : Tallies tasks (synchronous tasks 0 level.slots) run
      (is_late tasks (synchronous tasks 0 level.slots) run level.come.next 0)
      level.tally.missed level.tally.first

-- a level whose jobs up to its moment have come, with the server that goes first, and with windows
-- of each child that end by then
pub record CanServe (level : Level) : Type 0 where
  pub before_next : level.time < level.come.next
  pub chosen : IsChosen level.servers.items level.best
  pub one_each : length level.shares.items ≡ length level.servers.items
  pub fit : (k : ℕ) → k < length level.shares.items →
      AreWindows (share_at (map (λ s. s.items) level.shares.items) k) level.time

-- the first run of a level of servers, of which this is kept
pub record IsServed (sched : Sched) (tasks : List SporadicTask) (given : List Window) (n : ℕ)
    (kept : KeptView) : Type 0 where
  pub run : List (Option ℕ)
  pub first : FirstRun server (before_of sched tasks) tasks (synchronous tasks 0 n)
      (slots_of given n) run
  pub shares : AreShares (synchronous tasks 0 n) run n (length tasks) kept.shares
  pub counts : AreCounts tasks (synchronous tasks 0 n) (slots_of given n) run kept.counts
