-- What the trace of a run says at each moment is what the run holds at the slot of the moment, so
-- what the run gives the VCPUs in slots the trace gives them in nanoseconds.
use Rattle.std.proofs.Common.{◌≡◌, ℕ, zero, suc, min, ◌+◌, ◌-◌, ◌*◌, ◌/◌, ◌<◌, ◌≤◌, Bool, true, false, cond, leb, ◌&&◌, List, [], ◌∷◌, ◌++◌, length, Option, Some, None, refl, sym, ◌∙◌, ap, arith, subst, inl, inr, append_assoc, leb-true, eqb-true, eq-eqb, ◌==◌, ◌%◌}
use Rattle.std.specs.List.{list_all}
use Rattle.std.specs.Prelude.{is_some}
use Rattle.std.proofs.lemmas.Bool.{cases_lt, and_from, and_parts, false≢true}
use Rattle.std.proofs.lemmas.Option.{none-some, same_Some}
use Rattle.std.proofs.lemmas.List.{get_or_append_left, get_or-append_right, get_or_push, length_push, length-append}
use Rattle.slot_model.specs.declared.task.TheConstants.{LIMIT}
use Rattle.slot_model.specs.Run.{held, holds}
use Rattle.slot_model.proofs.Runs.{count_below-mono}
use Rattle.tree_model.specs.declared.place.Parent.TheVariants.{Core as on_core}
use Rattle.tree_model.specs.declared.place.Parent.{Parent}
use Rattle.tree_model.specs.View.{SystemView}
use Rattle.tree_model.specs.System.{part_at, IsSystem}
use Rattle.tree_model.specs.Plans.{IsPlan}
use Rattle.tree_model.specs.Tree.{budget_at, run_at}
use Rattle.trace_file.specs.declared.event.Event.{Event}
use Rattle.trace_file.specs.declared.event.What.TheVariants.{End}
use Rattle.trace_file.specs.Events.{event_at, last_among, last_by, starts as starts_event, changes, switches, blocks as blocks_last, runner_of, has_core_at, is_started as trace_started, moment_of, start_of as trace_start, end_of}
use Rattle.trace_file.specs.declared.unit.Unit.TheVariants.{Microseconds, Nanoseconds}
use Rattle.trace_printer.specs.Printing.{is_whole, unit_for}
use Rattle.trace_file.specs.Periods.{begins, count_between, period_of, running, blocked, got_in, Satisfied}
use Rattle.csv_rows.proofs.Last.{last_by_moment, found_row, some_row}
use Rattle.trace_file.proofs.Prefix.{last_same}
use Rattle.trace_file.proofs.Moments.{child_parent}
use Rattle.trace_file.proofs.Counting.{between_none, between_alike_to}
use Rattle.release_file.specs.declared.workload.Wake.{Wake as Row}
use Rattle.release_file.specs.declared.workload.WakeKind.{WakeKind}
use Rattle.release_file.specs.declared.workload.WakeKind.TheVariants.{Start as ToStart, Wake as ToWake, Block as ToBlock}
use Rattle.release_file.specs.Workload.{row_at, is_of, is_start, starts, is_started, is_blocked_at, start_of, IsWorkload}
use Rattle.rtds_model.specs.Rtds.{RtdsRun}
use Rattle.rtds_trace.specs.Printed.{moment_of_slot, core_of, what_of, event_of, on_at, printed_below, printed}
use Rattle.rtds_model.specs.Giving.{slots_got, AlwaysServed, NoneOver}
use Rattle.rtds_model.proofs.Starts.{start_is, started_from}
use Rattle.rtds_trace.proofs.Keeping.{OnCore, vcpu_core, holder_below, started_below, blocked_below}
use Rattle.rtds_trace.proofs.Pushing.{started_more}
use Rattle.rtds_trace.proofs.Told.{AllOf, all_one, all_append, told_below, Behind, behind}
use Rattle.rtds_model.proofs.Setting.{setting}
use Rattle.rtds_model.proofs.Giving.{gives_budgets}
use Rattle.rtds_model.proofs.Over.{never_over}

-- a count of moments that say what their slots say
scaled_cond : (b : Bool) → cond {A = ℕ} b 1000 0 ≡ cond {A = ℕ} b 1 0 * 1000
scaled_cond true = refl
scaled_cond false = refl

pub scaled : (q p : ℕ → Bool) (f e : ℕ) → ((m : ℕ) → m < e * 1000 → q m ≡ p (m / 1000))
    → count_between q (f * 1000) (e * 1000) ≡ count_between p f e * 1000
scaled q p f zero same = omega (arith, between_none q (f * 1000) 0 (omega arith), between_none p f 0 (omega arith))
scaled q p f (suc e) same = elim (cases_lt e f) [
  | inl l ↦
      omega (arith, between_none q (f * 1000) (suc e * 1000) (omega arith), between_none p f (suc e) (omega arith))
  | inr l ↦ omega (
    arith,
    scaled q p f e (λ m k. same m (omega arith)),
    between_alike_to q (p e) (f * 1000) (e * 1000) (suc e * 1000) (omega arith) (omega arith)
        (λ m a b. same m b ∙ ap p (let d : m / 1000 ≡ e = omega arith in d)),
    between_alike_to p (p e) f e (suc e) l (omega arith) (λ x a b. ap p (let d : x ≡ e = omega arith in d)),
    ap (λ (z : ℕ). cond {A = ℕ} (p e) z 0) (let d : suc e * 1000 - e * 1000 ≡ 1000 = omega arith in d),
    ap (λ (z : ℕ). cond {A = ℕ} (p e) z 0) (let d : suc e - e ≡ 1 = omega arith in d),
    scaled_cond (p e),
  )
]

-- where a period begins
scaled_begins : (period f k : ℕ) → begins (period * 1000) (f * 1000) k ≡ begins period f k * 1000
scaled_begins period f zero = omega arith
scaled_begins period f (suc k) = omega (arith, scaled_begins period f k)

-- an event of a start
record IsStartOf (sys : SystemView) (rows : List Row) (v : ℕ) (e : Event) : Type 0 where
  row : ℕ
  in_rows : row < length rows
  of_it : is_of v (row_at rows row) ≡ true
  is_start : (row_at rows row).what ≡ ToStart
  at : e.at ≡ moment_of_slot (row_at rows row).at

abbrev StartsSo : SystemView → List Row → ℕ → Event → Type 0
StartsSo sys rows v e = starts_event v e ≡ true → IsStartOf sys rows v e

module _ (sys : SystemView) (system : IsSystem sys) (budgets : List ℕ) (plan : IsPlan sys budgets) (rows : List Row)
    (workload : IsWorkload sys rows) (n : ℕ) (runs : List (List (Option ℕ))) (is : RtdsRun sys budgets rows n runs)
    (fits : n ≤ LIMIT) where
  abbrev events : List Event
  events = printed sys rows runs n

  pub end_is : end_of events ≡ n * 1000
  end_is =
      let below : List Event = printed_below sys rows runs n in
      ap (λ (e : Event). e.at)
      (get_or_push below (on_at 0 n End) _ (length events - 1) (omega (arith, length_push below (on_at 0 n End))))

  -- the events at or before a moment are those of the slots up to its own
  abbrev Early : ℕ → Event → Type 0
  Early m e = e.at ≤ m

  abbrev Late : ℕ → Event → Type 0
  Late m e = m < e.at

  module _ (m : ℕ) (within : m < n * 1000) where
    abbrev x : ℕ
    x = m / 1000

    in_run : x < n
    in_run = omega arith

    early : AllOf (Early m) (printed_below sys rows runs (suc x))
    early =
        told_below (Early m) sys rows runs (suc x)
        (λ y l. record { stops = λ c. omega arith; runs_on = λ c v. omega arith; of_row = λ i k e. omega (arith, e) })

    late : Behind (Late m) sys rows runs (suc x) (suc x + (n - suc x))
    late =
        behind (Late m) sys rows runs (suc x) (n - suc x)
        (λ y a b. record { stops = λ c. omega arith; runs_on = λ c v. omega arith; of_row = λ i k e. omega (arith, e) })

    abbrev tail : List Event
    tail = late.rest ++ on_at 0 n End ∷ []

    split : events ≡ printed_below sys rows runs (suc x) ++ tail
    split =
        let e : suc x + (n - suc x) ≡ n = omega (arith, in_run) in
        ap (λ (es : List Event). es ++ on_at 0 n End ∷ []) (ap (printed_below sys rows runs) (sym e) ∙ late.splits)
        ∙ append_assoc (printed_below sys rows runs (suc x)) late.rest (on_at 0 n End ∷ [])

    all_late : AllOf (Late m) tail
    all_late =
        all_append (Late m) late.rest (on_at 0 n End ∷ []) late.all
        (all_one (Late m) (on_at 0 n End) (omega (arith, within)))

    -- so the last of them that passes a test is the last of the slots up to its own
    pub last_at : (test : Event → Bool)
        → last_by test events m
        ≡ last_among test (printed_below sys rows runs (suc x)) (length (printed_below sys rows runs (suc x)))
    last_at test =
        let es : List Event = printed_below sys rows runs (suc x) in
        let long : length (es ++ tail) ≡ length es + length tail = length-append es tail in
        ap (λ (all : List Event). last_by test all m) split
        ∙ (last_by_moment (λ e. e.at) test (event_at (es ++ tail)) m (length es) (length (es ++ tail))
        (omega (arith, long)) (λ i l. early_at i l) (λ i a b. late_at i a b)
        ∙ last_same test es tail (length es) (omega arith))
      where
        early_at : (i : ℕ) → i < length (printed_below sys rows runs (suc x))
            → (event_at (printed_below sys rows runs (suc x) ++ tail) i).at ≤ m
        early_at i l =
            subst (Early m) (sym (get_or_append_left (printed_below sys rows runs (suc x)) tail _ i l)) (early i l)

        late_at : (i : ℕ) → length (printed_below sys rows runs (suc x)) ≤ i
            → i < length (printed_below sys rows runs (suc x) ++ tail)
            → m < (event_at (printed_below sys rows runs (suc x) ++ tail) i).at
        late_at i a b =
            subst (Late m) (sym (get_or-append_right (printed_below sys rows runs (suc x)) tail
            (length (printed_below sys rows runs (suc x))) i _ refl a))
            (all_late (i - length (printed_below sys rows runs (suc x)))
            (omega (arith, length-append (printed_below sys rows runs (suc x)) tail)))

    -- and a VCPU has its core at the moment where the run names it at the slot
    pub has_core : (c v : ℕ) → c < length sys.cores
        → has_core_at (on_core c) events v m ≡ holds (held (run_at runs c) x) v
    has_core c v l =
        ap (λ (o : Option Event). holds (runner_of o) v) (last_at (switches c))
        ∙ ap (λ (o : Option ℕ). holds o v) (holder_below sys system rows workload budgets n runs is fits x c in_run l)

    -- and is blocked at the moment where it is at the slot
    pub blocked_is : (v : ℕ) → blocked events v m ≡ is_blocked_at rows v x
    blocked_is v =
        ap blocks_last (last_at (changes v))
        ∙ blocked_below sys system rows workload budgets n runs is fits x v in_run

  -- the start of a VCPU
  start_event : (v i : ℕ) (what : WakeKind) → i < length rows → (row_at rows i).what ≡ what
      → StartsSo sys rows v (record {
        at = moment_of_slot (row_at rows i).at;
        core = (event_of sys (row_at rows i)).core;
        what = what_of what (row_at rows i).vcpu;
      })
  start_event v i ToStart l e h = record { row = i; in_rows = l; of_it = h; is_start = e; at = refl }
  start_event v i ToWake l e h = absurd (false≢true h)
  start_event v i ToBlock l e h = absurd (false≢true h)

  all_starts : (v : ℕ) → AllOf (StartsSo sys rows v) events
  all_starts v =
      all_append (StartsSo sys rows v) (printed_below sys rows runs n) (on_at 0 n End ∷ [])
      (told_below (StartsSo sys rows v) sys rows runs n (λ y l. record {
        stops = λ c h. absurd (false≢true h);
        runs_on = λ c w h. absurd (false≢true h);
        of_row = λ i k e. start_event v i (row_at rows i).what k refl;
      }))
      (all_one (StartsSo sys rows v) (on_at 0 n End) (λ h. absurd (false≢true h)))

  found : (v k : ℕ) (e : Event) → k ≤ length events → last_among (starts_event v) events k ≡ Some e
      → IsStartOf sys rows v e
  found v k e l h =
      let at = found_row (starts_event v) (event_at events) k e h in
      subst (IsStartOf sys rows v) at.is (all_starts v at.place (omega (arith, at.within))
      (subst (λ (z : Event). starts_event v z ≡ true) (sym at.is) at.passes))

  -- a VCPU that the trace starts is one that the workload starts, at the slot of that moment
  pub record StartedAt (v f : ℕ) : Type 0 where
    pub from : f ≡ start_of rows v * 1000
    pub started : is_started rows v ≡ true
    pub core : OnCore sys v

  pub started_at : (v f : ℕ) → trace_start events v ≡ Some f → StartedAt v f
  started_at v f h = go (last_among (starts_event v) events (length events)) refl h
    where
      here : (e : Event) → IsStartOf sys rows v e → e.at ≡ f → StartedAt v f
      here e s at = record {
        from =
            sym at
            ∙ (s.at ∙ ap (λ (z : ℕ). z * 1000) (sym (start_is sys rows workload s.row v s.in_rows s.of_it s.is_start)));
        started =
            some_row (starts v) (row_at rows) (length rows) s.row s.in_rows
            (and_from (is_of v (row_at rows s.row)) (is_start (row_at rows s.row).what) s.of_it
            (ap is_start s.is_start));
        core =
            subst (OnCore sys) (eqb-true (row_at rows s.row).vcpu v s.of_it)
            (vcpu_core sys system (row_at rows s.row).vcpu (workload.known s.row s.in_rows));
      }

      go : (o : Option Event) → last_among (starts_event v) events (length events) ≡ o → moment_of o ≡ Some f
          → StartedAt v f
      go None e h = absurd (none-some f h)
      go (Some event) e h = here event (found v (length events) event (omega arith) e) (same_Some event.at f h)

  -- and each that the workload starts at a slot of the run is one that the trace starts
  is_in_trace : (v : ℕ) → is_started rows v ≡ true → start_of rows v < n
      → trace_started events (length events) v ≡ true
  is_in_trace v s l =
      started_more sys (printed_below sys rows runs n) (on_at 0 n End) v
      ∙ subst
      (λ (x : ℕ). trace_started (printed_below sys rows runs x) (length (printed_below sys rows runs x)) v ≡ true)
      (let e : suc (n - 1) ≡ n = omega arith in e)
      (started_below sys system rows workload budgets n runs is fits (n - 1) v (omega arith)
      ∙ started_from rows v (n - 1) s (omega arith))

  pub trace_starts : (v : ℕ) → is_started rows v ≡ true → start_of rows v < n
      → trace_start events v ≡ Some (start_of rows v * 1000)
  trace_starts v s l = go (last_among (starts_event v) events (length events)) refl
    where
      go : (o : Option Event) → last_among (starts_event v) events (length events) ≡ o
          → trace_start events v ≡ Some (start_of rows v * 1000)
      go None e = absurd (false≢true (sym (ap is_some e) ∙ is_in_trace v s l))
      go (Some event) e =
          let at : trace_start events v ≡ Some event.at = ap moment_of e in
          at ∙ ap Some (started_at v event.at at).from

  -- the time that a VCPU has its core between two slots
  got : (v F E : ℕ) → OnCore sys v → E ≤ n
      → count_between (running sys events v) (F * 1000) (E * 1000)
      ≡ count_between (λ y. holds (held (run_at runs (core_of (part_at sys v).parent)) y) v) F E * 1000
  got v F E core l =
      let c : ℕ = core_of (part_at sys v).parent in
      scaled (running sys events v) (λ y. holds (held (run_at runs c) y) v) F E
      (λ m k. ap (λ (p : Parent). has_core_at p events v m) (child_parent sys c v core.child)
      ∙ has_core m (omega arith) c v core.is_core)

  -- the periods of the trace are those of the run
  pub begins_is : (v f k : ℕ) → StartedAt v f
      → begins (period_of sys v) f k ≡ begins (part_at sys v).period (start_of rows v) k * 1000
  begins_is v f k s =
      ap (λ (z : ℕ). begins (period_of sys v) z k) s.from
      ∙ scaled_begins (part_at sys v).period (start_of rows v) k

  -- the time that it gets in one, up to the end of the trace
  got_until : (v f k E : ℕ) → (s : StartedAt v f)
      → E ≡ min (begins (part_at sys v).period (start_of rows v) (suc k)) n
      → got_in sys events v f k
      ≡ count_between (λ y. holds (held (run_at runs (core_of (part_at sys v).parent)) y) v)
      (begins (part_at sys v).period (start_of rows v) k) E * 1000
  got_until v f k E s e =
      let from : begins (period_of sys v) f k ≡ begins (part_at sys v).period (start_of rows v) k * 1000
      = begins_is v f k s in
      let until : min (begins (period_of sys v) f (suc k)) (end_of events) ≡ E * 1000
      = omega (arith, begins_is v f (suc k) s, end_is, e) in
      ap (λ (z : ℕ). count_between (running sys events v) z (min (begins (period_of sys v) f (suc k)) (end_of events)))
      from
      ∙ (ap (λ (z : ℕ). count_between (running sys events v)
      (begins (part_at sys v).period (start_of rows v) k * 1000) z) until
      ∙ got v (begins (part_at sys v).period (start_of rows v) k) E s.core (omega (arith, e)))

  -- and in one that ends within it
  pub got_whole : (v f k : ℕ) → StartedAt v f → begins (part_at sys v).period (start_of rows v) (suc k) ≤ n
      → got_in sys events v f k
      ≡ slots_got (λ y. holds (held (run_at runs (core_of (part_at sys v).parent)) y) v) (part_at sys v).period
      (start_of rows v) k * 1000
  got_whole v f k s l = got_until v f k (begins (part_at sys v).period (start_of rows v) (suc k)) s (omega (arith, l))

  -- no period of a VCPU without extra time is over
  pub none_over : NoneOver sys budgets events
  none_over v f k h =
      let s : StartedAt v f = started_at v f h.period.started in
      let c : ℕ = core_of (part_at sys v).parent in
      let P : ℕ = (part_at sys v).period in
      let F : ℕ = start_of rows v in
      let p : ℕ → Bool = λ y. holds (held (run_at runs c) y) v in
      let E : ℕ = min (begins P F (suc k)) n in
      let whole : count_between p (begins P F k) E ≤ slots_got p P F k
      = count_below-mono (λ y. leb (begins P F k) y && p y) E (begins P F (suc k)) (omega arith) in
      let few : slots_got p P F k ≤ budget_at budgets v
      = never_over sys budgets plan rows n c (run_at runs c) (is.cores c s.core.is_core) v k h.period.is_part
      h.no_extra in
      absurd (omega (arith, h.over, got_until v f k E s refl, whole, few))

  -- and where each VCPU that is started can always run on a core whose servers pass, none is short
  pub satisfied : AlwaysServed sys budgets rows → Satisfied sys budgets events
  satisfied served v f k (inr over) = none_over v f k over
  satisfied served v f k (inl h) =
      let s : StartedAt v f = started_at v f h.period.started in
      let c : ℕ = core_of (part_at sys v).parent in
      let judged : begins (period_of sys v) f (suc k) ≤ end_of events
      = leb-true _ _ (and_parts (leb (begins (period_of sys v) f (suc k)) (end_of events)) _ h.judged).0 in
      let ends : begins (part_at sys v).period (start_of rows v) (suc k) ≤ n
      = omega (arith, begins_is v f (suc k) s, judged, end_is) in
      let enough : budget_at budgets v
      ≤ slots_got (λ y. holds (held (run_at runs c) y) v) (part_at sys v).period (start_of rows v) k
      = gives_budgets (setting sys budgets plan rows workload n c (run_at runs c)) (is.cores c s.core.is_core)
      (served.runnable c s.core.is_core) (served.fit c s.core.is_core) v k
      (record { is_part = h.period.is_part; on_core = s.core.child; started = s.started }) ends in
      absurd (omega (arith, h.short, got_whole v f k s ends, enough))

-- each moment of the trace is a whole number of microseconds
all_whole : (es : List Event) → AllOf (λ e. is_whole e ≡ true) es → list_all is_whole es ≡ true
all_whole [] h = refl
all_whole (e ∷ es) h =
    and_from (is_whole e) (list_all is_whole es) (h 0 (omega arith))
    (all_whole es (λ i l. h (suc i) (omega (arith, l))))

whole_moment : (x : ℕ) → (x * 1000 % 1000 == 0) ≡ true
whole_moment x = eq-eqb (x * 1000 % 1000) 0 (omega arith)

pub whole_unit : (sys : SystemView) (rows : List Row) (runs : List (List (Option ℕ))) (n : ℕ)
    → unit_for (printed sys rows runs n) ≡ Microseconds
whole_unit sys rows runs n =
    let P : Event → Type 0 = λ e. is_whole e ≡ true in
    ap (λ (b : Bool). cond b Microseconds Nanoseconds) (all_whole (printed sys rows runs n)
    (all_append P (printed_below sys rows runs n) (on_at 0 n End ∷ [])
    (told_below P sys rows runs n (λ x l. record {
      stops = λ c. whole_moment x;
      runs_on = λ c v. whole_moment x;
      of_row = λ i m e. whole_moment (row_at rows i).at;
    }))
    (all_one P (on_at 0 n End) (whole_moment n))))
