-- The next releases of all tasks, as they are kept, and the room for jobs that is made at first.
use Rattle.std.specs.Prelude.{ℕ, ◌≡◌, ◌+◌, ◌-◌, ◌*◌, ◌/◌, ◌^◌, ◌<◌, ◌≤◌, min, List, length, slice_index, sum_by}
use Rattle.slot_model.specs.declared.task.Task.{Task}
use Rattle.slot_model.specs.Task.{SporadicTask, task_at}
use Rattle.release_pattern.specs.declared.jobs.Due.{Due}
use Rattle.release_pattern.specs.declared.jobs.Turn.{Turn}
use Rattle.release_pattern.specs.Due.{IsNext}

-- the next release of each task: of the first p after x, of the others from x on
pub record AreDue (tasks : List SporadicTask) (p x : ℕ) (due : List ℕ) : Type 0 where
  pub one_each : length due ≡ length tasks
  pub past : (i : ℕ) → i < p → i < length tasks →
      IsNext (task_at tasks i) (x + 1) (slice_index due i)
  pub to_come : (i : ℕ) → p ≤ i → i < length tasks → IsNext (task_at tasks i) x (slice_index due i)

-- of the moments from one place to another the least, and the first place where it stands; the last
-- moment of all where there is none
pub record IsSoonest (moments : List ℕ) (from until : ℕ) (turn : Turn) : Type 0 where
  pub past : from ≤ turn.place
  pub least : (i : ℕ) → from ≤ i → i < until → turn.moment ≤ slice_index moments i
  pub stands : turn.moment < 2 ^ 64 - 1 → (turn.place < until) ×
      (slice_index moments turn.place ≡ turn.moment)
  pub first : (i : ℕ) → from ≤ i → i < until → i < turn.place →
      turn.moment < slice_index moments i

-- the turn of group h, whose place is told within the group
abbrev pub turn_of : List ℕ → List ℕ → ℕ → Turn
turn_of groups offsets h =
    record { moment = slice_index groups h; place = 8 * h + slice_index offsets h }

-- the soonest turn of each group, which is after x in the first g groups, and at x or later in the
-- others
pub record AreFirsts (due groups offsets : List ℕ) (g x : ℕ) : Type 0 where
  pub one_each : length offsets ≡ length groups
  pub past : (h : ℕ) → h < g → h < length groups → x < slice_index groups h
  pub to_come : (h : ℕ) → g ≤ h → h < length groups → x ≤ slice_index groups h
  pub first : (h : ℕ) → h < length groups →
      IsSoonest due (8 * h) (min (8 * h + 8) (length due)) (turn_of groups offsets h)

-- between two moments at which tasks release: no group is empty
pub record IsDue (tasks : List SporadicTask) (x : ℕ) (due : Due) : Type 0 where
  pub each : AreDue tasks 0 x due.tasks.items
  pub firsts : AreFirsts due.tasks.items due.groups.items due.offsets.items 0 x
  pub all : length tasks ≤ 8 * length due.groups.items
  pub no_more : 8 * length due.groups.items ≤ length tasks + 7
  pub next : IsSoonest due.groups.items 0 (length due.groups.items) due.next

-- for each task one job at the start, and one for every whole period within `span` slots
abbrev pub first_room : List Task → ℕ → ℕ
first_room tasks span = sum_by (λ task. span / task.period + 1) tasks
