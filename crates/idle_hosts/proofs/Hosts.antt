-- The host whose leaves are blocked where they are idle. Whether a leaf is idle at a slot is told
-- by the slots before it; a workload is built of what is told of all.
use Rattle.std.proofs.Common.{◌≡◌, ℕ, zero, suc, ◌+◌, ◌-◌, ◌<◌, ◌≤◌, Bool, true, false, ◌&&◌, nat_lt, List, [], take, length, map, Option, None, refl, sym, ◌∙◌, ap, arith, subst, inl, inr, eq-eqb, lt-ltb, le-ltb}
use Rattle.std.specs.List.{range_with_len}
use Rattle.std.proofs.lemmas.Bool.{cases_Bool, and_parts, and_from, and_left, and_right, both_ways, false≢true}
use Rattle.std.proofs.lemmas.List.{get_or-take}
use Rattle.std.proofs.lemmas.List.FromFn.{get_or-map-range_with_len}
use Rattle.slot_model.specs.declared.job.Job.{Job}
use Rattle.slot_model.specs.declared.task.TheConstants.{LIMIT}
use Rattle.slot_model.specs.Task.{SporadicTask}
use Rattle.slot_model.specs.Order.{before_of}
use Rattle.slot_model.specs.Release.{start_at}
use Rattle.slot_model.specs.Run.{held, holds, Level, guest, server, Pending, FirstRun}
use Rattle.slot_model.proofs.FirstRuns.{run_to, first_permitted}
use Rattle.fp_request.proofs.Strict.{order_strict}
use Rattle.tree_model.specs.declared.place.Parent.{Parent}
use Rattle.tree_model.specs.declared.place.Parent.TheVariants.{Core as on_core, Part as on_part}
use Rattle.tree_model.specs.declared.place.Place.TheVariants.{Core, Part}
use Rattle.tree_model.specs.View.{SystemView}
use Rattle.tree_model.specs.System.{IsSystem, part_at, own_tasks_at, is_leaf_at}
use Rattle.tree_model.specs.Tree.{is_child, place_of, same_place, run_at, server_tasks}
use Rattle.tree_model.specs.Releases.{jobs_at}
use Rattle.trace_file.specs.Rules.{is_core, is_vcpu}
use Rattle.trace_file.proofs.Known.{vcpu_part, child_vcpu}
use Rattle.release_file.specs.declared.workload.Wake.{Wake}
use Rattle.release_file.specs.Workload.{start_of, is_blocked_at}
use Rattle.rtds_trace.specs.Printed.{core_of}
use Rattle.rtds_model.specs.Rtds.{CoreRun}
use Rattle.rtds_model.proofs.Runs.{rtds_run, rtds_run-is}
use Rattle.isolation.specs.Answers.{own_core}
use Rattle.halting.specs.Stolen.{moments_from}
use Rattle.halting.specs.Halting.{HaltingRun}
use Rattle.halting.proofs.Counted.{moments_long, moment_at}
use Rattle.isolated_guests.specs.Spared.{has_slot}
use Rattle.isolated_guests.proofs.Spared.{core_within, file_order_is_open}
use Rattle.idle_hosts.specs.Hosts.{IsIdleAt, IsBlockedWhereIdle, StartsAt, IdleHost, AreStarts, AreLegalOnCores, IdleHostsExist}
use Rattle.idle_hosts.proofs.Built.{Built, built}
use Rattle.idle_hosts.proofs.Meant.{blocked_says, started_says, start_says, starts_says}
use Rattle.idle_hosts.proofs.Same.{SameAt, core_same, first_same}
use Rattle.idle_hosts.proofs.Causal.{IsCausal, after, is_told}
use Rattle.idle_hosts.proofs.Idle.{is_idle, idle_says, says_idle}

-- a VCPU is a child of its core
own_child : (sys : SystemView) (v : ℕ) → is_vcpu sys v ≡ true → is_child sys (Core (own_core sys v)) v ≡ true
own_child sys v h = go (part_at sys v).parent (and_parts (nat_lt v (length sys.parts)) _ h).1
  where
    go : (p : Parent) → is_core p ≡ true → same_place (place_of p) (Core (core_of p)) ≡ true
    go (on_core c) e = eq-eqb c c refl
    go (on_part q) e = absurd (false≢true e)

module _ (sys : SystemView) (system : IsSystem sys) (budgets starts : List ℕ) (n : ℕ) (jobs : List (List Job))
    (long : n ≤ LIMIT) where
  abbrev start : ℕ → ℕ
  start v = start_at starts v

  -- the workload whose VCPUs are blocked where it is told, its runs, and the run of jobs on a VCPU
  rows : (ℕ → ℕ → Bool) → List Wake
  rows wants = (built sys start wants (suc LIMIT) (omega arith)).0

  rows_are : (wants : ℕ → ℕ → Bool) → Built sys start wants (λ v. suc LIMIT) (rows wants)
  unfolding rows
  rows_are wants = (built sys start wants (suc LIMIT) (omega arith)).1

  abbrev own : (ℕ → ℕ → Bool) → ℕ → List (Option ℕ)
  own wants v = run_at (rtds_run sys budgets (rows wants) n) (own_core sys v)

  own_is : (wants : ℕ → ℕ → Bool) (v : ℕ) → is_vcpu sys v ≡ true
      → CoreRun sys budgets (rows wants) n (own_core sys v) (own wants v)
  own_is wants v on =
      (rtds_run-is sys budgets (rows wants) n).cores (own_core sys v)
      (core_within sys system (own_core sys v) v (vcpu_part sys v on) (own_child sys v on))

  abbrev slots : (ℕ → ℕ → Bool) → ℕ → List Bool
  slots wants v = moments_from (has_slot (own wants v) v) (start v) n

  abbrev before : ℕ → List SporadicTask → Job → Job → Bool
  before v tasks = before_of (part_at sys v).sched tasks

  jobs_run : (level : Level) (tasks : List SporadicTask) (wants : ℕ → ℕ → Bool) (v : ℕ)
      → (run : List (Option ℕ)) × FirstRun level (before v tasks) tasks (jobs_at jobs v) (slots wants v) run
  jobs_run level tasks wants v =
      run_to level (before v tasks) (order_strict (part_at sys v).sched tasks) tasks (jobs_at jobs v) (slots wants v)
      (length (slots wants v))

  abbrev guest_run : (ℕ → ℕ → Bool) → ℕ → List (Option ℕ)
  guest_run wants v = (jobs_run guest (own_tasks_at sys v) wants v).0

  -- a leaf on a core is idle, by its run before
  abbrev idle_in : (ℕ → ℕ → Bool) → ℕ → ℕ → Bool
  idle_in wants v x = is_idle (own_tasks_at sys v) (jobs_at jobs v) (take x (guest_run wants v)) x

  abbrev tell : (ℕ → ℕ → Bool) → ℕ → ℕ → Bool
  tell wants v x = (is_vcpu sys v && is_leaf_at sys v) && idle_in wants v (x - start v)

  -- workloads that are told the same below x
  rows_same : (one other : ℕ → ℕ → Bool) (x : ℕ) → x < n → ((v y : ℕ) → y < x → one v y ≡ other v y) → (y : ℕ)
      → y < x → SameAt (rows one) (rows other) y
  rows_same one other x l same y k = record {
    started =
        λ v. started_says sys start one (suc LIMIT) (rows one) (rows_are one) v y (omega arith)
        ∙ sym (started_says sys start other (suc LIMIT) (rows other) (rows_are other) v y (omega arith));
    blocked =
        λ v. blocked_says sys start one (suc LIMIT) (rows one) (rows_are one) v y (omega arith)
        ∙ (ap (λ (b : Bool). is_vcpu sys v && (nat_lt (start v) y && b)) (same v y k)
        ∙ sym (blocked_says sys start other (suc LIMIT) (rows other) (rows_are other) v y (omega arith)));
    start =
        λ v. start_says sys start one (suc LIMIT) (rows one) (rows_are one) v
        ∙ sym (start_says sys start other (suc LIMIT) (rows other) (rows_are other) v);
  }

  own_same : (one other : ℕ → ℕ → Bool) (x : ℕ) → x < n → ((v y : ℕ) → y < x → one v y ≡ other v y) → (v : ℕ)
      → is_vcpu sys v ≡ true → (y : ℕ) → y < x → held (own one v) y ≡ held (own other v) y
  own_same one other x l same v on y k =
      sym (get_or-take x (own one v) y None k)
      ∙ (ap (λ (r : List (Option ℕ)). held r y) (core_same sys budgets (rows one) (rows other) n x (own_core sys v)
      (own one v) (own other v) (own_is one v on) (own_is other v on) (omega arith) (rows_same one other x l same))
      ∙ get_or-take x (own other v) y None k)

  guest_same : (one other : ℕ → ℕ → Bool) (x : ℕ) → x < n → ((v y : ℕ) → y < x → one v y ≡ other v y) → (v : ℕ)
      → is_vcpu sys v ≡ true → take (x - start v) (guest_run one v) ≡ take (x - start v) (guest_run other v)
  guest_same one other x l same v on =
      first_same guest (before v (own_tasks_at sys v)) (own_tasks_at sys v) (jobs_at jobs v) (slots one v)
      (slots other v) (length (slots one v)) (length (slots other v)) (x - start v) (guest_run one v)
      (guest_run other v) (jobs_run guest (own_tasks_at sys v) one v).1
      (jobs_run guest (own_tasks_at sys v) other v).1
      (omega (arith, moments_long (has_slot (own one v) v) (start v) n))
      (omega (arith, moments_long (has_slot (own other v) v) (start v) n))
      (λ y k. moment_at (has_slot (own one v) v) (start v) n y (omega arith)
      ∙ (ap (λ (o : Option ℕ). holds o v) (own_same one other x l same v on (start v + y) (omega arith))
      ∙ sym (moment_at (has_slot (own other v) v) (start v) n y (omega arith))))

  causal : IsCausal tell n
  causal one other x l same v = elim (cases_Bool (is_vcpu sys v)) [
    | inr off ↦
        and_left (is_vcpu sys v && is_leaf_at sys v) _ (and_left (is_vcpu sys v) (is_leaf_at sys v) off)
        ∙ sym (and_left (is_vcpu sys v && is_leaf_at sys v) _ (and_left (is_vcpu sys v) (is_leaf_at sys v) off))
    | inl on ↦
        ap (λ (r : List (Option ℕ)). (is_vcpu sys v && is_leaf_at sys v)
        && is_idle (own_tasks_at sys v) (jobs_at jobs v) r (x - start v)) (guest_same one other x l same v on)
  ]

  -- what is told of all slots
  wants : ℕ → ℕ → Bool
  wants = after tell n

  abbrev their_rows : List Wake
  their_rows = rows wants

  blocked_is : (v x : ℕ) → x < n
      → is_blocked_at their_rows v x ≡ (is_vcpu sys v && (nat_lt (start v) x && wants v x))
  blocked_is v x l = blocked_says sys start wants (suc LIMIT) their_rows (rows_are wants) v x (omega arith)

  wants_is : (v x : ℕ) → x < n → wants v x ≡ tell wants v x
  unfolding wants
  wants_is v x l = is_told tell n causal x l v

  never_at_start : (v : ℕ) → start v + 0 < n → is_blocked_at their_rows v (start v + 0) ≡ false
  never_at_start v l =
      blocked_is v (start v + 0) l
      ∙ and_right (is_vcpu sys v) _
      (and_left (nat_lt (start v) (start v + 0)) _ (le-ltb (start v) (start v + 0) (omega arith)))

  inner_awake : (v x : ℕ) → is_leaf_at sys v ≡ false → x < n → is_blocked_at their_rows v x ≡ false
  inner_awake v x inner l =
      blocked_is v x l
      ∙ and_right (is_vcpu sys v) _ (and_right (nat_lt (start v) x) (wants v x) (wants_is v x l
      ∙ and_left (is_vcpu sys v && is_leaf_at sys v) _ (and_right (is_vcpu sys v) (is_leaf_at sys v) inner)))

  -- a leaf is blocked where it is idle
  where_idle : (v x : ℕ) → is_vcpu sys v ≡ true → is_leaf_at sys v ≡ true → 0 < x → start v + x < n
      → is_blocked_at their_rows v (start v + x) ≡ idle_in wants v x
  where_idle v x on leaf some l =
      blocked_is v (start v + x) l
      ∙ (ap (λ (b : Bool). b && (nat_lt (start v) (start v + x) && wants v (start v + x))) on
      ∙ (ap (λ (b : Bool). b && wants v (start v + x)) (lt-ltb (start v) (start v + x) (omega arith))
      ∙ (wants_is v (start v + x) l
      ∙ (ap (λ (b : Bool). b && idle_in wants v (start v + x - start v))
      (and_from (is_vcpu sys v) (is_leaf_at sys v) on leaf)
      ∙ ap (idle_in wants v) (let e : start v + x - start v ≡ x = omega arith in e)))))

  only_idle : (v x : ℕ) → is_vcpu sys v ≡ true → is_leaf_at sys v ≡ true → 0 < x → start v + x < n
      → is_blocked_at their_rows v (start v + x) ≡ true → IsIdleAt sys (jobs_at jobs v) (guest_run wants v) v x
  only_idle v x on leaf some l b =
      idle_says (own_tasks_at sys v) (jobs_at jobs v) (guest_run wants v) x (sym (where_idle v x on leaf some l) ∙ b)

  each_idle : (v x : ℕ) → is_vcpu sys v ≡ true → is_leaf_at sys v ≡ true → 0 < x → start v + x < n
      → IsIdleAt sys (jobs_at jobs v) (guest_run wants v) v x → is_blocked_at their_rows v (start v + x) ≡ true
  each_idle v x on leaf some l idle =
      where_idle v x on leaf some l ∙ says_idle (own_tasks_at sys v) (jobs_at jobs v) (guest_run wants v) x idle

  module _ (are_starts : AreStarts sys starts) (legal : AreLegalOnCores sys budgets jobs) where
    starts_there : (v : ℕ) → is_vcpu sys v ≡ true → StartsAt their_rows v (start v)
    starts_there v on =
        starts_says sys start wants (suc LIMIT) their_rows (rows_are wants) v on (omega (arith, are_starts v on))

    -- runs that halt, counted from where the VCPU starts
    halts_from : (level : Level) (tasks : List SporadicTask) (own_run : List (Option ℕ)) → ℕ → ℕ → Type 0
    halts_from level tasks own_run v f =
        HaltingRun (is_blocked_at their_rows v) (has_slot (own wants v) v) f n level (before v tasks) tasks
        (jobs_at jobs v) own_run

    guest_halts : (v : ℕ) → is_vcpu sys v ≡ true → is_leaf_at sys v ≡ true
        → halts_from guest (own_tasks_at sys v) (guest_run wants v) v (start_of their_rows v)
    unfolding halts_from
    guest_halts v on leaf = subst (halts_from guest (own_tasks_at sys v) (guest_run wants v) v)
        (sym (starts_there v on).at_slot) (record {
          legal = legal.leaves v on leaf;
          permitted =
              first_permitted guest (before v (own_tasks_at sys v)) (own_tasks_at sys v) (jobs_at jobs v)
              (slots wants v) (guest_run wants v) (jobs_run guest (own_tasks_at sys v) wants v).1;
          halts = halts;
        })
      where
        halts : (x j : ℕ) → start v + x < n → is_blocked_at their_rows v (start v + x) ≡ true
            → Pending guest (own_tasks_at sys v) (jobs_at jobs v) (guest_run wants v) j x → ⊥
        halts zero j l b p = both_ways _ (never_at_start v l) b
        halts (suc x) j l b p = only_idle v (suc x) on leaf (omega arith) l b j p

    abbrev servers_on : ℕ → List SporadicTask
    servers_on v = server_tasks sys budgets (Part v)

    abbrev server_run : ℕ → List (Option ℕ)
    server_run v = (jobs_run server (servers_on v) wants v).0

    servers_halt : (v : ℕ) → is_vcpu sys v ≡ true → is_leaf_at sys v ≡ false
        → halts_from server (servers_on v) (server_run v) v (start_of their_rows v)
    unfolding halts_from
    servers_halt v on inner = subst (halts_from server (servers_on v) (server_run v) v)
        (sym (starts_there v on).at_slot) (record {
          legal = legal.inner v on inner;
          permitted =
              first_permitted server (before v (servers_on v)) (servers_on v) (jobs_at jobs v) (slots wants v)
              (server_run v) (jobs_run server (servers_on v) wants v).1;
          halts = λ x j l b p. both_ways _ (inner_awake v (start v + x) inner l) b;
        })

    -- the run of the jobs of each part
    own_by : Bool → ℕ → List (Option ℕ)
    own_by true v = guest_run wants v
    own_by false v = server_run v

    own_runs : List (List (Option ℕ))
    own_runs = map (λ v. own_by (is_leaf_at sys v) v) (range_with_len 0 (length sys.parts))

    own_at : (v : ℕ) (leaf : Bool) → v < length sys.parts → is_leaf_at sys v ≡ leaf
        → run_at own_runs v ≡ own_by leaf v
    unfolding own_runs
    own_at v leaf l e =
        get_or-map-range_with_len (λ v. own_by (is_leaf_at sys v) v) 0 (length sys.parts) v v [] l (omega arith)
        ∙ ap (λ (b : Bool). own_by b v) e

    guest_at : (v : ℕ) → is_vcpu sys v ≡ true → is_leaf_at sys v ≡ true → guest_run wants v ≡ run_at own_runs v
    unfolding own_by
    guest_at v on leaf = sym (own_at v true (vcpu_part sys v on) leaf)

    server_at : (v : ℕ) → is_vcpu sys v ≡ true → is_leaf_at sys v ≡ false → server_run v ≡ run_at own_runs v
    unfolding own_by
    server_at v on inner = sym (own_at v false (vcpu_part sys v on) inner)

    idle_host : IdleHost sys budgets starts n jobs
    unfolding halts_from
    idle_host = record {
      rows = their_rows;
      runs = rtds_run sys budgets their_rows n;
      own_runs = own_runs;
      halts = record {
        is_workload = (rows_are wants).workload;
        cores =
            λ c l. file_order_is_open sys budgets their_rows n c _
            ((rtds_run-is sys budgets their_rows n).cores c l);
        guests = λ q s leaf.
            let on : is_vcpu sys q ≡ true = child_vcpu sys (own_core sys q) q s.is_part s.on_core in
            subst (λ r. halts_from guest (own_tasks_at sys q) r q (start_of their_rows q)) (guest_at q on leaf)
            (guest_halts q on leaf);
        servers = λ q s inner.
            let on : is_vcpu sys q ≡ true = child_vcpu sys (own_core sys q) q s.is_part s.on_core in
            subst (λ r. halts_from server (servers_on q) r q (start_of their_rows q)) (server_at q on inner)
            (servers_halt q on inner);
      };
      is_run = rtds_run-is sys budgets their_rows n;
      start = starts_there;
      leaves = λ q on leaf.
          let at : start_of their_rows q ≡ start q = (starts_there q on).at_slot in
          subst (IsBlockedWhereIdle sys their_rows n q (jobs_at jobs q)) (guest_at q on leaf) (record {
            only_idle = λ x some l b.
                only_idle q x on leaf some (omega (arith, l, at))
                (subst (λ (f : ℕ). is_blocked_at their_rows q (f + x) ≡ true) at b);
            each_idle = λ x some l idle.
                subst (λ (f : ℕ). is_blocked_at their_rows q (f + x) ≡ true) (sym at)
                (each_idle q x on leaf some (omega (arith, l, at)) idle);
          });
      inner = λ q x on inner l. inner_awake q x inner l;
    }

pub idle_hosts_exist : IdleHostsExist
idle_hosts_exist sys budgets starts n jobs system are_starts long legal =
    idle_host sys system budgets starts n jobs long are_starts legal
