-- The trace of a run: what its VCPUs do on their cores, slot by slot.
use Rattle.std.specs.Prelude.{◌≡◌, ℕ, zero, suc, ◌<◌, ◌≤◌, ◌*◌, ◌==◌, Bool, true, false, if◌then◌else◌, List, [], ◌∷◌, ◌++◌, length, Option, Some, None}
use Rattle.slot_model.specs.Run.{held, holds}
use Rattle.tree_model.specs.declared.place.Parent.{Parent}
use Rattle.tree_model.specs.declared.place.Parent.TheVariants.{Core as on_core, Part as on_part}
use Rattle.tree_model.specs.View.{SystemView}
use Rattle.tree_model.specs.System.{part_at}
use Rattle.tree_model.specs.Tree.{run_at}
use Rattle.trace_file.specs.declared.event.What.{What}
use Rattle.trace_file.specs.declared.event.What.TheVariants.{Start, Wake, Block, Run, Stop, End}
use Rattle.trace_file.specs.declared.event.Event.{Event}
use Rattle.release_file.specs.declared.workload.Wake.{Wake as Row}
use Rattle.release_file.specs.declared.workload.WakeKind.{WakeKind}
use Rattle.release_file.specs.declared.workload.WakeKind.TheVariants.{Start as ToStart, Wake as ToWake, Block as ToBlock}
use Rattle.release_file.specs.Workload.{row_at, is_blocked_at}
use Rattle.rtds_model.specs.Rtds.{RtdsRun}

-- the moment of the trace at which a slot begins: slots are microseconds, moments nanoseconds
abbrev pub moment_of_slot : ℕ → ℕ
moment_of_slot x = x * 1000

-- a list with one more entry at its end, if there is one
abbrev pub push_some : {X : Type 0} → List X → Option X → List X
push_some xs None = xs
push_some xs (Some y) = xs ++ y ∷ []

-- the entries of f at 0, 1 and so on below n that are there, in order
unfoldable pub gathered : {X : Type 0} → (ℕ → Option X) → ℕ → List X
gathered f zero = []
gathered f (suc n) = push_some (gathered f n) (f n)

-- the first k rows are those before slot x
pub record AreBefore (rows : List Row) (k x : ℕ) : Type 0 where
  pub in_rows : k ≤ length rows
  pub past : (i : ℕ) → i < k → (row_at rows i).at < x
  pub to_come : (i : ℕ) → k ≤ i → i < length rows → x ≤ (row_at rows i).at

-- the core on which a part of this parent stands, and a filler, 0, where the parent is a part
abbrev pub core_of : Parent → ℕ
core_of (on_core c) = c
core_of (on_part q) = 0

-- what the event of a row of VCPU v says
abbrev pub what_of : WakeKind → ℕ → What
what_of ToStart v = Start v
what_of ToWake v = Wake v
what_of ToBlock v = Block v

-- the event of a row
abbrev pub event_of : SystemView → Row → Event
event_of sys row =
    record {
      at = moment_of_slot row.at;
      core = core_of (part_at sys row.vcpu).parent;
      what = what_of row.what row.vcpu;
    }

-- an event on core c at slot x
abbrev pub on_at : ℕ → ℕ → What → Event
on_at c x what = record { at = moment_of_slot x; core = c; what = what }

-- which VCPU has a core when slot x comes: that of the slot before; and whether it blocks at x
abbrev pub holder_before : List (Option ℕ) → ℕ → Option ℕ
holder_before run zero = None
holder_before run (suc x) = held run x

abbrev pub is_blocked_one : List Row → ℕ → Option ℕ → Bool
is_blocked_one rows x None = false
is_blocked_one rows x (Some v) = is_blocked_at rows v x

-- the VCPU that still has the core, once those that block at x gave it up
abbrev pub holder_left : List Row → List (Option ℕ) → ℕ → Option ℕ
holder_left rows run x =
    if is_blocked_one rows x (holder_before run x) then None else holder_before run x

-- first, core c stops where its VCPU blocks at x
abbrev pub stop_at : List Row → List (List (Option ℕ)) → ℕ → ℕ → Option Event
stop_at rows runs x c =
    if is_blocked_one rows x (holder_before (run_at runs c) x) then Some (on_at c x Stop) else None

-- then come the rows at x
abbrev pub row_event_at : SystemView → List Row → ℕ → ℕ → Option Event
row_event_at sys rows x i =
    if (row_at rows i).at == x then Some (event_of sys (row_at rows i)) else None

-- and then a run of the VCPU of slot x, where it is not the one that has the core, or a stop, where
-- the slot is idle and one has the core: a core goes to a VCPU or to none, unless it stays
abbrev pub going_to : Option ℕ → What
going_to None = Stop
going_to (Some v) = Run v

abbrev pub stays : Option ℕ → Option ℕ → Bool
stays None None = true
stays (Some u) None = false
stays holder (Some v) = holds holder v

abbrev pub switch_to : Option ℕ → Option ℕ → Option What
switch_to holder next = if stays holder next then None else Some (going_to next)

abbrev pub on_core_at : ℕ → ℕ → Option What → Option Event
on_core_at c x None = None
on_core_at c x (Some what) = Some (on_at c x what)

abbrev pub switch_on : List Row → List (Option ℕ) → ℕ → ℕ → Option Event
switch_on rows run x c = on_core_at c x (switch_to (holder_left rows run x) (held run x))

abbrev pub switch_at : List Row → List (List (Option ℕ)) → ℕ → ℕ → Option Event
switch_at rows runs x c = switch_on rows (run_at runs c) x c

-- the events at slot x
abbrev pub printed_at : SystemView → List Row → List (List (Option ℕ)) → ℕ → List Event
printed_at sys rows runs x =
    gathered (stop_at rows runs x) (length sys.cores)
    ++ (gathered (row_event_at sys rows x) (length rows)
    ++ gathered (switch_at rows runs x) (length sys.cores))

-- the events at the slots below n
unfoldable pub printed_below : SystemView → List Row → List (List (Option ℕ)) → ℕ → List Event
printed_below sys rows runs zero = []
printed_below sys rows runs (suc x) = printed_below sys rows runs x ++ printed_at sys rows runs x

-- and the end
abbrev pub printed : SystemView → List Row → List (List (Option ℕ)) → ℕ → List Event
printed sys rows runs n = printed_below sys rows runs n ++ on_at 0 n End ∷ []

-- the trace of the RTDS run
abbrev pub IsRtdsTrace : SystemView → List ℕ → List Row → ℕ → List Event → Type 0
IsRtdsTrace sys budgets rows n events =
    (runs : List (List (Option ℕ))) × RtdsRun sys budgets rows n runs ×
    (events ≡ printed sys rows runs n)
