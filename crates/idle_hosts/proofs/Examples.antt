-- A worked host: a VCPU that starts at slot 4, whose guest has a job there that is done by slot 6,
-- and what is said of it where it blocks then, too soon, or never. A definition that says otherwise
-- breaks one of these.
use Rattle.std.proofs.Common.{◌≡◌, ℕ, zero, suc, ◌+◌, ◌<◌, true, false, Some, None, List, [], ◌∷◌, refl, arith, lit<, lit≤}
use Rattle.std.proofs.lemmas.Bool.{false≢true}
use Rattle.csv_rows.specs.Last.{last_below}
use Rattle.slot_model.specs.declared.sched.Sched.TheVariants.{Edf}
use Rattle.slot_model.specs.Slots.{sum_below}
use Rattle.slot_model.specs.Task.{plain_task}
use Rattle.tree_model.specs.declared.place.Parent.TheVariants.{Core as on_core}
use Rattle.tree_model.specs.View.{SystemView}
use Rattle.release_file.specs.declared.workload.Wake.{Wake}
use Rattle.release_file.specs.declared.workload.WakeKind.{WakeKind}
use Rattle.release_file.specs.declared.workload.WakeKind.TheVariants.{Start, Block}
use Rattle.release_file.specs.Workload.{start_of, is_blocked_at}
use Rattle.halting.proofs.Examples.{jobs, own_run, none_pending_at_2}
use Rattle.idle_hosts.specs.Hosts.{IsIdleAt, IsBlockedWhereIdle, StartsAt}

abbrev host : SystemView
host = record {
  cores = record { name = 99 ∷ []; sched = Edf; supply = None } ∷ [];
  parts =
      record {
        name = 65 ∷ [];
        parent = on_core 0;
        sched = Edf;
        period = 2;
        budget = Some 1;
        extra = false;
        tasks = record { name = 116 ∷ []; task = plain_task 3 3 1 } ∷ [];
      }
      ∷ [];
}

abbrev row : ℕ → WakeKind → Wake
row at what = record { at = at; vcpu = 0; what = what }

abbrev rows : List Wake
rows = row 4 Start ∷ row 6 Block ∷ []

it_starts_at_4 : StartsAt rows 0 4
unfolding last_below
it_starts_at_4 = record { started = refl; at_slot = refl }

and_no_sooner : StartsAt rows 0 3 → ⊥
unfolding last_below
and_no_sooner h = let no : 4 ≡ 3 = h.at_slot in omega (arith, no)

no_other_starts : StartsAt rows 1 0 → ⊥
unfolding last_below
no_other_starts h = let no : false ≡ true = h.started in false≢true no

-- its job is pending in its slots 0 and 1, and not in 2
busy_at_1 : IsIdleAt host jobs own_run 0 1 → ⊥
unfolding sum_below
busy_at_1 idle = idle 0 (record { is_job = lit< tt; released = lit≤ tt; unfinished = lit< tt; still_open = tt })

idle_at_2 : IsIdleAt host jobs own_run 0 2
idle_at_2 j p = none_pending_at_2 j p

-- it is blocked at 6 alone
blocked_at : List Wake → ℕ → Type 0
blocked_at rows x = is_blocked_at rows 0 (start_of rows 0 + x) ≡ true

awake_at_1 : blocked_at rows 1 → ⊥
unfolding last_below blocked_at
awake_at_1 h = let no : false ≡ true = h in false≢true no

blocked_at_2 : blocked_at rows 2
unfolding last_below blocked_at
blocked_at_2 = refl

its_start : start_of rows 0 ≡ 4
unfolding last_below
its_start = refl

it_is_blocked_where_idle : IsBlockedWhereIdle host rows 7 0 jobs own_run
unfolding blocked_at
it_is_blocked_where_idle = record { only_idle = only_idle; each_idle = each_idle }
  where
    only_idle : (x : ℕ) → 0 < x → start_of rows 0 + x < 7 → blocked_at rows x → IsIdleAt host jobs own_run 0 x
    only_idle zero some l b = absurd (omega arith)
    only_idle (suc zero) some l b = absurd (awake_at_1 b)
    only_idle (suc (suc zero)) some l b = idle_at_2
    only_idle (suc (suc (suc x))) some l b = absurd (omega (arith, l, its_start))

    each_idle : (x : ℕ) → 0 < x → start_of rows 0 + x < 7 → IsIdleAt host jobs own_run 0 x → blocked_at rows x
    each_idle zero some l idle = absurd (omega arith)
    each_idle (suc zero) some l idle = absurd (busy_at_1 idle)
    each_idle (suc (suc zero)) some l idle = blocked_at_2
    each_idle (suc (suc (suc x))) some l idle = absurd (omega (arith, l, its_start))

-- blocked at 5, with its job to do
too_soon : List Wake
too_soon = row 4 Start ∷ row 5 Block ∷ []

too_soon_is_not_where_idle : IsBlockedWhereIdle host too_soon 7 0 jobs own_run → ⊥
unfolding last_below too_soon
too_soon_is_not_where_idle h = busy_at_1 (h.only_idle 1 (lit< tt) (lit< tt) refl)

-- but with no job at all it is idle from its start on, and blocked from the slot behind it
without_jobs_it_is_where_idle : IsBlockedWhereIdle host too_soon 7 0 [] []
unfolding last_below too_soon
without_jobs_it_is_where_idle = record { only_idle = λ x some l b j p. omega (arith, p.is_job); each_idle = each_idle }
  where
    each_idle : (x : ℕ) → 0 < x → 4 + x < 7 → IsIdleAt host [] [] 0 x → is_blocked_at too_soon 0 (4 + x) ≡ true
    each_idle zero some l idle = absurd (omega arith)
    each_idle (suc zero) some l idle = refl
    each_idle (suc (suc zero)) some l idle = refl
    each_idle (suc (suc (suc x))) some l idle = absurd (omega (arith, l))

idle_in_the_slot_of_its_start_but_awake : IsIdleAt host [] [] 0 0 × (is_blocked_at too_soon 0 4 ≡ false)
unfolding last_below too_soon
idle_in_the_slot_of_its_start_but_awake = ((λ j p. omega (arith, p.is_job)), refl)

-- never blocked, as at 6 with nothing to do
never : List Wake
never = row 4 Start ∷ []

never_is_not_where_idle : IsBlockedWhereIdle host never 7 0 jobs own_run → ⊥
unfolding last_below never
never_is_not_where_idle h =
    let no : false ≡ true = h.each_idle 2 (lit< tt) (lit< tt) idle_at_2 in false≢true no
