-- What a run prints keeps the rules of a trace.
use Rattle.std.proofs.Common.{◌≡◌, ◌≢◌, ◌⊎◌, ℕ, zero, suc, ◌+◌, ◌-◌, ◌<◌, ◌≤◌, ◌==◌, nat_lt, Bool, true, false, not, cond, if◌then◌else◌, ◌&&◌, ◌||◌, List, [], ◌∷◌, ◌++◌, length, Option, Some, None, refl, sym, ◌∙◌, ap, arith, subst, inl, inr, append-nil, append_assoc, eq-eqb, eqb-true, lt-ltb, le-ltb, ltb-true}
use Rattle.std.specs.Prelude.{is_some, is_none}
use Rattle.std.proofs.lemmas.Bool.{cases_eq, cases_lt, cases_Bool, both_ways, and_parts, and_from, false≢true, ne_eqb, or_right, not-true, and_right}
use Rattle.slot_model.specs.declared.task.TheConstants.{LIMIT}
use Rattle.trace_file.specs.declared.event.TheConstants.{LAST_MOMENT}
use Rattle.slot_model.specs.Run.{held, holds}
use Rattle.slot_model.proofs.FirstRuns.{first_below}
use Rattle.tree_model.specs.declared.place.Parent.{Parent}
use Rattle.tree_model.specs.declared.place.Parent.TheVariants.{Core as on_core, Part as on_part}
use Rattle.tree_model.specs.declared.place.Place.TheVariants.{Core}
use Rattle.tree_model.specs.View.{SystemView}
use Rattle.tree_model.specs.System.{part_at, IsSystem, Stands}
use Rattle.tree_model.specs.Tree.{place_of, same_place, is_child, run_at}
use Rattle.tree_model.proofs.Children.{same_itself}
use Rattle.trace_file.proofs.Known.{child_vcpu}
use Rattle.trace_file.specs.declared.event.Event.{Event}
use Rattle.trace_file.specs.declared.event.What.{What}
use Rattle.trace_file.specs.declared.event.What.TheVariants.{Run, Stop, End}
use Rattle.trace_file.specs.declared.fault.TraceFault.TheVariants.{StartedTwice, NotStarted, NotBlocked, NotRunnable, StillRunning, CoreIdle}
use Rattle.trace_file.specs.Events.{event_at, is_start_of, is_change_of, is_switch, is_end, is_block as blocks_it, blocks as blocks_last, switches, runner, runner_of, is_started, is_blocked, holder}
use Rattle.trace_file.specs.Rules.{row_of, fault_if, named, is_core, is_vcpu, is_known, stands_on, what_fault, Kept}
use Rattle.csv_rows.proofs.Last.{last_below-zero, last_below-no, said_later, is_some_later, last_is, some_found, some_row}
use Rattle.release_file.specs.declared.workload.Wake.{Wake as Row}
use Rattle.release_file.specs.declared.workload.WakeKind.{WakeKind}
use Rattle.release_file.specs.declared.workload.WakeKind.TheVariants.{Start as ToStart, Wake as ToWake, Block as ToBlock}
use Rattle.release_file.specs.Workload.{row_at, last_row, is_of, is_start, starts, is_block, blocks, started_after, blocked_after, is_started_at, is_blocked_at, may_follow, IsWorkload}
use Rattle.rtds_model.specs.Rtds.{can_run, RtdsRun}
use Rattle.rtds_trace.specs.Printed.{moment_of_slot, push_some, gathered, core_of, what_of, event_of, on_at, on_core_at, going_to, switch_to, holder_before, is_blocked_one, holder_left, stop_at, row_event_at, switch_at, printed_at, printed_below, printed, AreBefore}
use Rattle.rtds_model.proofs.Runs.{eligible_runs}
use Rattle.rtds_trace.proofs.Gathered.{gathered-zero, gathered-suc, gathered-none, gathered-rest, push_behind, printed_below-zero, printed_below-suc}
use Rattle.rtds_trace.proofs.Rows.{row_none, row_some, started_by, blocked_by}
use Rattle.release_file.proofs.Rows.{ordered}
use Rattle.rtds_trace.proofs.Pushing.{Keeps, After, after_same, after_more, after_end}

-- the holders of the cores below c are the new ones
abbrev upto : ℕ → (ℕ → Option ℕ) → (ℕ → Option ℕ) → ℕ → Option ℕ
upto c new old d = if nat_lt d c then new d else old d

upto_none : (new old : ℕ → Option ℕ) (d : ℕ) → old d ≡ upto 0 new old d
upto_none new old d = sym (ap (λ (b : Bool). cond b (new d) (old d)) (le-ltb d 0 (omega arith)))

upto_here : (c : ℕ) (new old : ℕ → Option ℕ) → upto c new old c ≡ old c
upto_here c new old = ap (λ (b : Bool). cond b (new c) (old c)) (le-ltb c c (omega arith))

upto_next : (c : ℕ) (new old : ℕ → Option ℕ) (d : ℕ) → d ≢ c → upto c new old d ≡ upto (suc c) new old d
upto_next c new old d ne = elim (cases_lt d c) [
  | inl l ↦ ap (λ (b : Bool). cond b (new d) (old d)) (lt-ltb d c l ∙ sym (lt-ltb d (suc c) (omega arith)))
  | inr l ↦ ap (λ (b : Bool). cond b (new d) (old d)) (le-ltb d c l ∙ sym (le-ltb d (suc c) (omega arith)))
]

upto_new : (c : ℕ) (new old : ℕ → Option ℕ) → upto (suc c) new old c ≡ new c
upto_new c new old = ap (λ (b : Bool). cond b (new c) (old c)) (lt-ltb c (suc c) (omega arith))

upto_all : (c : ℕ) (new old : ℕ → Option ℕ) (d : ℕ) → d < c → upto c new old d ≡ new d
upto_all c new old d l = ap (λ (b : Bool). cond b (new d) (old d)) (lt-ltb d c l)

-- when a core may go to a VCPU, and when to none
abbrev MayGo : (ℕ → Bool) → (ℕ → Bool) → Option ℕ → Option ℕ → Type 0
MayGo started blocked old (Some v) = (started v ≡ true) × (blocked v ≡ false)
MayGo started blocked old None = is_none old ≡ false

-- what a core tells: nothing, where its holder stays, or that it goes to the new one
record Tells (sys : SystemView) (x c : ℕ) (started blocked : ℕ → Bool) (old new : Option ℕ) (o : Option Event) : Type 0
  where
    is : o ≡ Some (on_at c x (going_to new))
    may : MayGo started blocked old new
    known : is_known sys c (going_to new) ≡ true
    on_it : stands_on sys c (named (going_to new)) ≡ true

abbrev Goes : SystemView → ℕ → ℕ → (ℕ → Bool) → (ℕ → Bool) → Option ℕ → Option ℕ → Option Event → Type 0
Goes sys x c started blocked old new o = ((o ≡ None) × (old ≡ new)) ⊎ Tells sys x c started blocked old new o

-- it says who has the core, and nothing else of a VCPU
record SaysHolder (o : Option ℕ) : Type 0 where
  no_end : is_end (going_to o) ≡ false
  no_start : (v : ℕ) → is_start_of v (going_to o) ≡ false
  no_change : (v : ℕ) → is_change_of v (going_to o) ≡ false
  is_one : is_switch (going_to o) ≡ true
  runs : runner (going_to o) ≡ o

says_holder : (o : Option ℕ) → SaysHolder o
says_holder None =
    record { no_end = refl; no_start = λ v. refl; no_change = λ v. refl; is_one = refl; runs = refl }
says_holder (Some u) =
    record { no_end = refl; no_start = λ v. refl; no_change = λ v. refl; is_one = refl; runs = refl }

module _ (sys : SystemView) (x : ℕ) (in_limit : moment_of_slot x ≤ LAST_MOMENT) (s b : ℕ → Bool) where
  may_is : (es : List Event) (m : ℕ) (h : ℕ → Option ℕ) (c : ℕ) → c < length sys.cores → After sys es m s b h
      → (new : Option ℕ) → MayGo s b (h c) new → what_fault es (length es) c (going_to new) ≡ None
  may_is es m h c l a (Some v) may =
      ap (λ (q : Bool). fault_if (not q) (NotStarted (row_of (length es)))
      (fault_if (is_blocked es (length es) v) (NotRunnable (row_of (length es))) None)) (a.started_is v ∙ may.0)
      ∙ ap (λ (q : Bool). fault_if q (NotRunnable (row_of (length es))) None) (a.blocked_is v ∙ may.1)
  may_is es m h c l a None may =
      ap (λ (q : Bool). fault_if q (CoreIdle (row_of (length es))) None) (ap is_none (a.held_is c l) ∙ may)

  switched : (es : List Event) (old new : ℕ → Option ℕ) (c : ℕ) (o : Option Event) → c < length sys.cores
      → Tells sys x c s b (old c) (new c) o → After sys es (moment_of_slot x) s b (upto c new old)
      → After sys (es ++ on_at c x (going_to (new c)) ∷ []) (moment_of_slot x) s b (upto (suc c) new old)
  switched es old new c o l t a =
      let what : What = going_to (new c) in
      let says : SaysHolder (new c) = says_holder (new c) in
      let k : Keeps sys es (on_at c x what)
      = record {
        in_limit = in_limit;
        in_time = a.in_time;
        known = t.known;
        on_core = t.on_it;
        may =
            may_is es (moment_of_slot x) (upto c new old) c l a (new c)
            (subst (λ (h : Option ℕ). MayGo s b h (new c)) (sym (upto_here c new old)) t.may);
      } in
      after_same sys (es ++ on_at c x what ∷ []) (moment_of_slot x) (moment_of_slot x) (λ v. is_start_of v what || s v)
      s (λ v. cond (is_change_of v what) (blocks_it what) (b v)) b
      (λ d. cond ((c == d) && is_switch what) (runner what) (upto c new old d)) (upto (suc c) new old) (omega arith)
      (λ v. ap (λ (q : Bool). q || s v) (says.no_start v))
      (λ v. ap (λ (q : Bool). cond q (blocks_it what) (b v)) (says.no_change v)) (λ d p. next d (cases_eq d c))
      (after_more sys es (moment_of_slot x) s b (upto c new old) (on_at c x what) a k says.no_end)
    where
      next : (d : ℕ) → (d ≡ c) ⊎ (d ≡ c → ⊥)
          → cond ((c == d) && is_switch (going_to (new c))) (runner (going_to (new c))) (upto c new old d)
          ≡ upto (suc c) new old d
      next d (inl e) =
          let says : SaysHolder (new c) = says_holder (new c) in
          ap (λ (q : Bool). cond q (runner (going_to (new c))) (upto c new old d))
          (and_from (c == d) (is_switch (going_to (new c))) (eq-eqb c d (sym e)) says.is_one)
          ∙ (says.runs ∙ (sym (upto_new c new old) ∙ ap (upto (suc c) new old) (sym e)))
      next d (inr ne) =
          ap (λ (q : Bool). cond (q && is_switch (going_to (new c))) (runner (going_to (new c))) (upto c new old d))
          (ne_eqb c d (λ e. ne (sym e)))
          ∙ upto_next c new old d ne

  -- all cores in turn
  phase : (f : ℕ → Option Event) (old new : ℕ → Option ℕ)
      → ((c : ℕ) → c < length sys.cores → Goes sys x c s b (old c) (new c) (f c)) → (es : List Event)
      → After sys es (moment_of_slot x) s b old → (c : ℕ) → c ≤ length sys.cores
      → After sys (es ++ gathered f c) (moment_of_slot x) s b (upto c new old)
  phase f old new goes es a zero l =
      subst (λ (xs : List Event). After sys xs (moment_of_slot x) s b (upto 0 new old))
      (sym (ap (λ (ys : List Event). es ++ ys) (gathered-zero f) ∙ append-nil es))
      (after_same sys es (moment_of_slot x) (moment_of_slot x) s s b b old (upto 0 new old) (omega arith) (λ v. refl)
      (λ v. refl) (λ d p. upto_none new old d) a)
  phase f old new goes es a (suc c) l =
      subst (λ (xs : List Event). After sys xs (moment_of_slot x) s b (upto (suc c) new old))
      (sym (ap (λ (ys : List Event). es ++ ys) (gathered-suc f c) ∙ push_behind es (gathered f c) (f c)))
      (elim (goes c l) [
        | inl stay ↦
            subst (λ (o : Option Event). After sys (push_some (es ++ gathered f c) o) (moment_of_slot x) s b
            (upto (suc c) new old)) (sym stay.0)
            (after_same sys (es ++ gathered f c) (moment_of_slot x) (moment_of_slot x) s s b b (upto c new old)
            (upto (suc c) new old) (omega arith) (λ v. refl) (λ v. refl)
            (λ d p. elim (cases_eq d c) [
              | inl e ↦
                  ap (upto c new old) e
                  ∙ (upto_here c new old ∙ (stay.1 ∙ (sym (upto_new c new old) ∙ ap (upto (suc c) new old) (sym e))))
              | inr ne ↦ upto_next c new old d ne
            ])
            (phase f old new goes es a c (omega arith)))
        | inr t ↦
            subst (λ (o : Option Event). After sys (push_some (es ++ gathered f c) o) (moment_of_slot x) s b
            (upto (suc c) new old)) (sym t.is)
            (switched (es ++ gathered f c) old new c (f c) l t (phase f old new goes es a c (omega arith)))
      ])

-- the core of a VCPU
pub record OnCore (sys : SystemView) (v : ℕ) : Type 0 where
  pub is_core : core_of (part_at sys v).parent < length sys.cores
  pub child : is_child sys (Core (core_of (part_at sys v).parent)) v ≡ true

core_in : (sys : SystemView) → IsSystem sys → (v : ℕ) → v < length sys.parts
    → core_of (part_at sys v).parent < length sys.cores
core_in sys is v l = go (part_at sys v).parent (is.parents v l)
  where
    go : (p : Parent) → Stands sys v p → core_of p < length sys.cores
    go (on_core c) s = s
    go (on_part q) s = omega (arith, is.some_core)

pub vcpu_core : (sys : SystemView) → IsSystem sys → (v : ℕ) → is_vcpu sys v ≡ true → OnCore sys v
vcpu_core sys is v h =
    let p = and_parts (nat_lt v (length sys.parts)) (is_core (part_at sys v).parent) h in
    record { is_core = core_in sys is v (ltb-true v (length sys.parts) p.0); child = go (part_at sys v).parent p.1 }
  where
    go : (q : Parent) → is_core q ≡ true → same_place (place_of q) (Core (core_of q)) ≡ true
    go (on_core c) e = same_itself (Core c)
    go (on_part r) e = cc

module _ (sys : SystemView) (system : IsSystem sys) (rows : List Row) (workload : IsWorkload sys rows) where
  -- a VCPU without a row is not started, and one with a row is
  unstarted : (v i : ℕ) → last_row (is_of v) rows i ≡ None → started_after rows i v ≡ false
  unstarted v i e = elim (cases_Bool (started_after rows i v)) [
    | inr b ↦ b
    | inl b ↦
        let w = some_found (starts v) (row_at rows) i b in
        absurd (both_ways _ (ap is_some e) (some_row (is_of v) (row_at rows) i w.2.place w.2.within
        (subst (λ (r : Row). is_of v r ≡ true) (sym w.2.is)
        (and_parts (is_of v w.0) (is_start w.0.what) w.2.passes).0)))
  ]

  has_started : (v i : ℕ) → i ≤ length rows → is_some (last_row (is_of v) rows i) ≡ true → started_after rows i v ≡ true
  has_started v zero l h = absurd (both_ways _ (ap is_some (last_below-zero (is_of v) (row_at rows))) h)
  has_started v (suc i) l h =
      is_some_later (starts v) (row_at rows) i ∙ elim (cases_Bool (is_of v (row_at rows i))) [
        | inr b ↦
            or_right (starts v (row_at rows i)) _
            (has_started v i (omega arith) (ap is_some (sym (last_below-no (is_of v) (row_at rows) i b)) ∙ h))
        | inl b ↦
            here (has_started v i (omega arith)) (row_at rows i).what refl b
            (subst (λ (u : ℕ). may_follow (last_row (is_of u) rows i) (row_at rows i).what ≡ true)
            (eqb-true (row_at rows i).vcpu v b) (workload.in_turn i l))
      ]
    where
      follows : (o : Option Row) (what : WakeKind) → is_start what ≡ false → may_follow o what ≡ true → is_some o ≡ true
      follows None ToStart a b = absurd (false≢true (sym a))
      follows None ToWake a b = absurd (false≢true b)
      follows None ToBlock a b = absurd (false≢true b)
      follows (Some r) what a b = refl

      here : (is_some (last_row (is_of v) rows i) ≡ true → started_after rows i v ≡ true) → (what : WakeKind)
          → (row_at rows i).what ≡ what → is_of v (row_at rows i) ≡ true
          → may_follow (last_row (is_of v) rows i) (row_at rows i).what ≡ true
          → (starts v (row_at rows i) || started_after rows i v) ≡ true
      here before ToStart e b m =
          ap (λ (q : Bool). q || started_after rows i v)
          (and_from (is_of v (row_at rows i)) (is_start (row_at rows i).what) b (ap is_start e))
      here before ToWake e b m =
          or_right (starts v (row_at rows i)) _
          (before (follows (last_row (is_of v) rows i) (row_at rows i).what (ap is_start e) m))
      here before ToBlock e b m =
          or_right (starts v (row_at rows i)) _
          (before (follows (last_row (is_of v) rows i) (row_at rows i).what (ap is_start e) m))

  -- where the rows before a slot end
  split_at : (x : ℕ) → (k : ℕ) × AreBefore rows k x
  split_at x = elim (first_below (λ i. x ≤ (row_at rows i).at) (λ i. test i) (length rows)) [
    | inl h ↦ (
      h.0,
      record {
        in_rows = omega (arith, h.1);
        past = λ i l. elim (cases_lt (row_at rows i).at x) [ inl q ↦ q | inr q ↦ absurd (h.3 i l q) ];
        to_come = λ i a b. omega (arith, h.2, ordered sys rows workload h.0 i a b);
      },
    )
    | inr none ↦ (
      length rows,
      record {
        in_rows = omega arith;
        past = λ i l. elim (cases_lt (row_at rows i).at x) [ inl q ↦ q | inr q ↦ absurd (none i l q) ];
        to_come = λ i a b. absurd (omega arith);
      },
    )
  ]
    where
      test : (i : ℕ) → (x ≤ (row_at rows i).at) ⊎ (x ≤ (row_at rows i).at → ⊥)
      test i = elim (cases_lt (row_at rows i).at x) [ inl l ↦ inr (λ h. omega arith) | inr l ↦ inl l ]

  -- the rows at slot x are those from k on and before j
  module _ (x k j : ℕ) (in_limit : moment_of_slot x ≤ LAST_MOMENT) (before : AreBefore rows k x)
      (taken : AreBefore rows j (suc x)) where
    in_turn : k ≤ j
    in_turn =
        elim (cases_lt j k) [
          | inr l ↦
              l
          | inl l ↦
              absurd (omega (arith, before.past j l, taken.to_come j (omega arith) (omega (arith, before.in_rows))))
        ]

    at_slot : (i : ℕ) → k ≤ i → i < j → (row_at rows i).at ≡ x
    at_slot i a b = omega (arith, before.to_come i a (omega (arith, taken.in_rows)), taken.past i b)

    -- a row that blocks its VCPU leaves it blocked at the slot
    blocked_here : (i v : ℕ) → k ≤ i → i < j → is_of v (row_at rows i) ≡ true → (row_at rows i).what ≡ ToBlock
        → is_blocked_at rows v x ≡ true
    blocked_here i v a b of is =
        blocked_by rows v x j taken
        ∙ (ap blocks
        (last_is (is_of v) (row_at rows) i j b of (λ m p q. elim (cases_Bool (is_of v (row_at rows m))) [
          | inr n ↦ n
          | inl y ↦
              absurd (workload.one_a_slot i m p (omega (arith, taken.in_rows))
              (eqb-true (row_at rows i).vcpu v of ∙ sym (eqb-true (row_at rows m).vcpu v y))
              (at_slot i a b ∙ sym (at_slot m (omega arith) q)))
        ])) ∙ ap is_block is)

    module _ (holders : ℕ → Option ℕ) where
      -- what may be held while the rows are told: nothing that blocks at the slot
      abbrev Awake : Type 0
      Awake = (c v : ℕ) → is_blocked_at rows v x ≡ true → holds (holders c) v ≡ false

      row_may : Awake → (es : List Event) (i : ℕ) → k ≤ i → i < j
          → After sys es (moment_of_slot x) (started_after rows i) (blocked_after rows i) holders → (v c : ℕ)
          → c < length sys.cores → v ≡ (row_at rows i).vcpu → (what : WakeKind) → (row_at rows i).what ≡ what
          → may_follow (last_row (is_of v) rows i) what ≡ true →
          what_fault es (length es) c (what_of what v) ≡ None
      row_may awake es i p q a v c lc ev ToStart is may =
          ap (λ (b : Bool). fault_if b (StartedTwice (row_of (length es))) None)
          (a.started_is v ∙ unstarted v i (first (last_row (is_of v) rows i) may))
        where
          first : (o : Option Row) → may_follow o ToStart ≡ true → o ≡ None
          first None e = refl
          first (Some r) e = absurd (false≢true e)
      row_may awake es i p q a v c lc ev ToWake is may =
          let h = follows (last_row (is_of v) rows i) may in
          ap (λ (b : Bool). fault_if (not b) (NotStarted (row_of (length es)))
          (fault_if (not (is_blocked es (length es) v)) (NotBlocked (row_of (length es))) None))
          (a.started_is v ∙ has_started v i (omega (arith, taken.in_rows)) h.0)
          ∙ ap (λ (b : Bool). fault_if (not b) (NotBlocked (row_of (length es))) None) (a.blocked_is v ∙ h.1)
        where
          follows : (o : Option Row) → may_follow o ToWake ≡ true → (is_some o ≡ true) × (blocks o ≡ true)
          follows None e = absurd (false≢true e)
          follows (Some r) e = (refl, e)
      row_may awake es i p q a v c lc ev ToBlock is may =
          let h = follows (last_row (is_of v) rows i) may in
          ap (λ (b : Bool). fault_if (not b) (NotStarted (row_of (length es)))
          (fault_if (is_blocked es (length es) v) (NotRunnable (row_of (length es)))
          (fault_if (holds (holder es (length es) c) v) (StillRunning (row_of (length es))) None)))
          (a.started_is v ∙ has_started v i (omega (arith, taken.in_rows)) h.0)
          ∙ (ap (λ (b : Bool). fault_if b (NotRunnable (row_of (length es)))
          (fault_if (holds (holder es (length es) c) v) (StillRunning (row_of (length es))) None))
          (a.blocked_is v ∙ h.1)
          ∙ ap (λ (b : Bool). fault_if b (StillRunning (row_of (length es))) None)
          (ap (λ (o : Option ℕ). holds o v) (a.held_is c lc)
          ∙ awake c v (blocked_here i v p q (eq-eqb (row_at rows i).vcpu v (sym ev)) is)))
        where
          follows : (o : Option Row) → may_follow o ToBlock ≡ true → (is_some o ≡ true) × (blocks o ≡ false)
          follows None e = absurd (false≢true e)
          follows (Some r) e = (refl, not-true (is_block r.what) e)

      -- what an event of a row does
      start_what : (what : WakeKind) (u v : ℕ) → is_start_of u (what_of what v) ≡ ((v == u) && is_start what)
      start_what ToStart u v = and_true (v == u)
        where
          and_true : (b : Bool) → b ≡ (b && true)
          and_true true = refl
          and_true false = refl
      start_what ToWake u v = sym (and_right (v == u) false refl)
      start_what ToBlock u v = sym (and_right (v == u) false refl)

      change_what : (what : WakeKind) (u v : ℕ) → is_change_of u (what_of what v) ≡ (v == u)
      change_what ToStart u v = refl
      change_what ToWake u v = refl
      change_what ToBlock u v = refl

      block_what : (what : WakeKind) (v : ℕ) → blocks_it (what_of what v) ≡ is_block what
      block_what ToStart v = refl
      block_what ToWake v = refl
      block_what ToBlock v = refl

      no_switch : (what : WakeKind) (v : ℕ) → is_switch (what_of what v) ≡ false
      no_switch ToStart v = refl
      no_switch ToWake v = refl
      no_switch ToBlock v = refl

      no_end : (what : WakeKind) (v : ℕ) → is_end (what_of what v) ≡ false
      no_end ToStart v = refl
      no_end ToWake v = refl
      no_end ToBlock v = refl

      known_what : (what : WakeKind) (c v : ℕ) → c < length sys.cores → is_vcpu sys v ≡ true
          → is_known sys c (what_of what v) ≡ true
      known_what ToStart c v l h =
          and_from (nat_lt c (length sys.cores)) (is_vcpu sys v) (lt-ltb c (length sys.cores) l) h
      known_what ToWake c v l h =
          and_from (nat_lt c (length sys.cores)) (is_vcpu sys v) (lt-ltb c (length sys.cores) l) h
      known_what ToBlock c v l h =
          and_from (nat_lt c (length sys.cores)) (is_vcpu sys v) (lt-ltb c (length sys.cores) l) h

      on_what : (what : WakeKind) (c v : ℕ) → is_child sys (Core c) v ≡ true
          → stands_on sys c (named (what_of what v)) ≡ true
      on_what ToStart c v h = h
      on_what ToWake c v h = h
      on_what ToBlock c v h = h

      row_more : Awake → (es : List Event) (i : ℕ) → k ≤ i → i < j
          → After sys es (moment_of_slot x) (started_after rows i) (blocked_after rows i) holders
          → After sys (es ++ event_of sys (row_at rows i) ∷ []) (moment_of_slot x) (started_after rows (suc i))
          (blocked_after rows (suc i)) holders
      row_more awake es i p q a =
          let r : Row = row_at rows i in
          let v : ℕ = r.vcpu in
          let what : WakeKind = r.what in
          let e : Event = event_of sys r in
          let vcpu : is_vcpu sys v ≡ true = workload.known i (omega (arith, taken.in_rows)) in
          let core : OnCore sys v = vcpu_core sys system v vcpu in
          let at : r.at ≡ x = at_slot i p q in
          let keeps : Keeps sys es e = record {
            in_limit = omega (arith, at);
            in_time = omega (arith, at, a.in_time);
            known = known_what what (core_of (part_at sys v).parent) v core.is_core vcpu;
            on_core = on_what what (core_of (part_at sys v).parent) v core.child;
            may =
                row_may awake es i p q a v (core_of (part_at sys v).parent) core.is_core refl what refl
                (workload.in_turn i (omega (arith, taken.in_rows)));
          } in
          after_same sys (es ++ e ∷ []) e.at (moment_of_slot x) (λ u. is_start_of u e.what || started_after rows i u)
          (started_after rows (suc i))
          (λ u. cond (is_change_of u e.what) (blocks_it e.what) (blocked_after rows i u))
          (blocked_after rows (suc i)) (λ c. cond (switches c e) (runner e.what) (holders c)) holders
          (omega (arith, at))
          (λ u. ap (λ (b : Bool). b || started_after rows i u) (start_what what u v)
          ∙ sym (is_some_later (starts u) (row_at rows) i))
          (λ u. ap (λ (b : Bool). cond b (blocks_it e.what) (blocked_after rows i u)) (change_what what u v)
          ∙ (ap (λ (b : Bool). cond (v == u) b (blocked_after rows i u)) (block_what what v)
          ∙ sym (said_later blocks (is_of u) (row_at rows) i)))
          (λ c l. ap (λ (b : Bool). cond b (runner e.what) (holders c))
          (and_right (e.core == c) (is_switch e.what) (no_switch what v)))
          (after_more sys es (moment_of_slot x) (started_after rows i) (blocked_after rows i) holders e a keeps
          (no_end what v))

      rows_told : Awake → (es : List Event)
          → After sys es (moment_of_slot x) (started_after rows k) (blocked_after rows k) holders → (m : ℕ) → k + m ≤ j
          → After sys (es ++ gathered (row_event_at sys rows x) (k + m)) (moment_of_slot x) (started_after rows (k + m))
          (blocked_after rows (k + m)) holders
      rows_told awake es a zero l =
          let none : gathered (row_event_at sys rows x) (k + 0) ≡ []
          = gathered-none (row_event_at sys rows x) (k + 0)
          (λ i h. row_none sys rows x i (λ e. omega (arith, e, before.past i (omega arith)))) in
          let e : k ≡ k + 0 = omega arith in
          subst (λ (xs : List Event). After sys xs (moment_of_slot x) (started_after rows (k + 0))
          (blocked_after rows (k + 0)) holders) (sym (ap (λ (ys : List Event). es ++ ys) none ∙ append-nil es))
          (subst (λ (i : ℕ). After sys es (moment_of_slot x) (started_after rows i) (blocked_after rows i) holders)
          e a)
      rows_told awake es a (suc m) l =
          let i : ℕ = k + m in
          let e : suc i ≡ k + suc m = omega arith in
          let old : After sys (es ++ gathered (row_event_at sys rows x) i) (moment_of_slot x) (started_after rows i)
          (blocked_after rows i) holders
          = rows_told awake es a m (omega arith) in
          subst (λ (z : ℕ). After sys (es ++ gathered (row_event_at sys rows x) z) (moment_of_slot x)
          (started_after rows z) (blocked_after rows z) holders) e
          (subst (λ (xs : List Event). After sys xs (moment_of_slot x) (started_after rows (suc i))
          (blocked_after rows (suc i)) holders) (sym (ap (λ (ys : List Event). es ++ ys)
          (gathered-suc (row_event_at sys rows x) i)
          ∙ push_behind es (gathered (row_event_at sys rows x) i) (row_event_at sys rows x i)))
          (subst (λ (o : Option Event). After sys (push_some (es ++ gathered (row_event_at sys rows x) i) o)
          (moment_of_slot x) (started_after rows (suc i)) (blocked_after rows (suc i)) holders)
          (sym (row_some sys rows x i (at_slot i (omega arith) (omega arith))))
          (row_more awake (es ++ gathered (row_event_at sys rows x) i) i (omega arith) (omega arith) old)))

      all_rows : Awake → (es : List Event)
          → After sys es (moment_of_slot x) (started_after rows k) (blocked_after rows k) holders
          → After sys (es ++ gathered (row_event_at sys rows x) (length rows)) (moment_of_slot x) (started_after rows j)
          (blocked_after rows j) holders
      all_rows awake es a =
          let e : k + (j - k) ≡ j = omega (arith, in_turn) in
          let told : After sys (es ++ gathered (row_event_at sys rows x) j) (moment_of_slot x) (started_after rows j)
          (blocked_after rows j) holders
          = subst (λ (z : ℕ). After sys (es ++ gathered (row_event_at sys rows x) z) (moment_of_slot x)
          (started_after rows z) (blocked_after rows z) holders) e
          (rows_told awake es a (j - k) (omega (arith, in_turn))) in
          subst (λ (xs : List Event). After sys (es ++ xs) (moment_of_slot x) (started_after rows j)
          (blocked_after rows j) holders) (sym (gathered-rest (row_event_at sys rows x) j (length rows)
          taken.in_rows (λ i p q. row_none sys rows x i (λ e. omega (arith, e, taken.to_come i p q))))) told

  -- a slot of the run
  module _ (budgets : List ℕ) (n : ℕ) (runs : List (List (Option ℕ))) (is : RtdsRun sys budgets rows n runs)
      (fits : n ≤ LIMIT) where
    abbrev Before : ℕ → ℕ → Option ℕ
    Before x c = holder_before (run_at runs c) x

    abbrev Left : ℕ → ℕ → Option ℕ
    Left x c = holder_left rows (run_at runs c) x

    abbrev Now : ℕ → ℕ → Option ℕ
    Now x c = held (run_at runs c) x

    -- a core stops where its VCPU blocks
    stop_goes : (x k c : ℕ) → c < length sys.cores → (o : Option ℕ) → Before x c ≡ o → (b : Bool)
        → is_blocked_one rows x o ≡ b
        → Goes sys x c (started_after rows k) (blocked_after rows k) (Before x c) (Left x c) (stop_at rows runs x c)
    stop_goes x k c l o e false f =
        let q : is_blocked_one rows x (Before x c) ≡ false = ap (is_blocked_one rows x) e ∙ f in
        inl (
          ap (λ (b : Bool). cond b (Some (on_at c x Stop)) None) q,
          sym (ap (λ (b : Bool). cond b None (Before x c)) q),
        )
    stop_goes x k c l None e true f = absurd (false≢true f)
    stop_goes x k c l (Some v) e true f =
        let q : is_blocked_one rows x (Before x c) ≡ true = ap (is_blocked_one rows x) e ∙ f in
        inr (subst (λ (o : Option ℕ). Tells sys x c (started_after rows k) (blocked_after rows k) (Before x c) o
        (stop_at rows runs x c)) (sym (ap (λ (b : Bool). cond b None (Before x c)) q)) (record {
          is = ap (λ (b : Bool). cond b (Some (on_at c x Stop)) None) q;
          may = ap is_none e;
          known = and_from (nat_lt c (length sys.cores)) true (lt-ltb c (length sys.cores) l) refl;
          on_it = refl;
        }))

    -- no VCPU that is blocked at x is left with its core
    left_awake : (x c v : ℕ) → is_blocked_at rows v x ≡ true → holds (Left x c) v ≡ false
    left_awake x c v h = go (Before x c) (cases_Bool (is_blocked_one rows x (Before x c)))
      where
        go : (o : Option ℕ) → (is_blocked_one rows x o ≡ true) ⊎ (is_blocked_one rows x o ≡ false)
            → holds (if is_blocked_one rows x o then None else o) v ≡ false
        go None e = refl
        go (Some w) (inl b) = ap (λ (q : Bool). holds (cond q None (Some w)) v) b
        go (Some w) (inr b) =
            ap (λ (q : Bool). holds (cond q None (Some w)) v) b
            ∙ ne_eqb w v (λ e. both_ways _ b (subst (λ (z : ℕ). is_blocked_at rows z x ≡ true) (sym e) h))

    -- a core goes on
    run_goes : (x j c : ℕ) → c < length sys.cores → x < n → AreBefore rows j (suc x) → (holder : Option ℕ) (v : ℕ)
        → Now x c ≡ Some v → holds holder v ≡ false
        → Tells sys x c (started_after rows j) (blocked_after rows j) holder (Some v) (on_core_at c x (Some (Run v)))
    run_goes x j c l lx taken holder v e ne =
        let h : can_run sys rows c v x ≡ true
        = eligible_runs sys budgets rows c (run_at runs c) v x (((is.cores c l).each x lx).named v e) in
        let p
        = and_parts (nat_lt v (length sys.parts) && is_child sys (Core c) v)
        (is_started_at rows v x && not (is_blocked_at rows v x)) h in
        let q = and_parts (nat_lt v (length sys.parts)) (is_child sys (Core c) v) p.0 in
        let r = and_parts (is_started_at rows v x) (not (is_blocked_at rows v x)) p.1 in
        record {
          is = refl;
          may = (
            sym (started_by rows v x j taken) ∙ r.0,
            sym (blocked_by rows v x j taken) ∙ not-true (is_blocked_at rows v x) r.1,
          );
          known =
              and_from (nat_lt c (length sys.cores)) (is_vcpu sys v) (lt-ltb c (length sys.cores) l)
              (child_vcpu sys c v (ltb-true v (length sys.parts) q.0) q.1);
          on_it = q.1;
        }

    switch_goes : (x j c : ℕ) → c < length sys.cores → x < n → AreBefore rows j (suc x) → (holder next : Option ℕ)
        → Now x c ≡ next
        → Goes sys x c (started_after rows j) (blocked_after rows j) holder next
        (on_core_at c x (switch_to holder next))
    switch_goes x j c l lx taken None None e = inl (refl, refl)
    switch_goes x j c l lx taken (Some u) None e =
        inr (record {
          is = refl;
          may = refl;
          known = and_from (nat_lt c (length sys.cores)) true (lt-ltb c (length sys.cores) l) refl;
          on_it = refl;
        })
    switch_goes x j c l lx taken None (Some v) e = inr (run_goes x j c l lx taken None v e refl)
    switch_goes x j c l lx taken (Some u) (Some v) e = elim (cases_Bool (u == v)) [
      | inl b ↦ inl (ap (λ (q : Bool). on_core_at c x (cond q None (Some (Run v)))) b, ap Some (eqb-true u v b))
      | inr b ↦
          inr (subst (λ (o : Option What). Tells sys x c (started_after rows j) (blocked_after rows j) (Some u)
          (Some v) (on_core_at c x o)) (sym (ap (λ (q : Bool). cond q None (Some (Run v))) b))
          (run_goes x j c l lx taken (Some u) v e b))
    ]

    -- one slot more
    slot_more : (x k j : ℕ) → x < n → AreBefore rows k x → AreBefore rows j (suc x) → (es : List Event)
        → After sys es (moment_of_slot x) (started_after rows k) (blocked_after rows k) (Before x)
        → After sys (es ++ printed_at sys rows runs x) (moment_of_slot (suc x)) (started_after rows j)
        (blocked_after rows j) (Before (suc x))
    slot_more x k j l before taken es a =
        let lim : moment_of_slot x ≤ LAST_MOMENT = omega (arith, fits) in
        let m : ℕ = length sys.cores in
        let one : List Event = es ++ gathered (stop_at rows runs x) m in
        let two : List Event = one ++ gathered (row_event_at sys rows x) (length rows) in
        let a1 : After sys one (moment_of_slot x) (started_after rows k) (blocked_after rows k) (Left x)
        = after_same sys one (moment_of_slot x) (moment_of_slot x) (started_after rows k) (started_after rows k)
        (blocked_after rows k) (blocked_after rows k) (upto m (Left x) (Before x)) (Left x) (omega arith)
        (λ v. refl) (λ v. refl) (λ d p. upto_all m (Left x) (Before x) d p)
        (phase sys x lim (started_after rows k) (blocked_after rows k) (stop_at rows runs x) (Before x) (Left x)
        (λ c p. stop_goes x k c p (Before x c) refl (is_blocked_one rows x (Before x c)) refl) es a m (omega arith))
        in
        let a2 : After sys two (moment_of_slot x) (started_after rows j) (blocked_after rows j) (Left x)
        = all_rows x k j lim before taken (Left x) (left_awake x) one a1 in
        let a3 : After sys (two ++ gathered (switch_at rows runs x) m) (moment_of_slot x) (started_after rows j)
        (blocked_after rows j) (upto m (Now x) (Left x))
        = phase sys x lim (started_after rows j) (blocked_after rows j) (switch_at rows runs x) (Left x) (Now x)
        (λ c p. switch_goes x j c p l taken (Left x c) (Now x c) refl) two a2 m (omega arith) in
        let e : (two ++ gathered (switch_at rows runs x) m) ≡ es ++ printed_at sys rows runs x
        = append_assoc one (gathered (row_event_at sys rows x) (length rows)) (gathered (switch_at rows runs x) m)
        ∙ append_assoc es (gathered (stop_at rows runs x) m)
        (gathered (row_event_at sys rows x) (length rows) ++ gathered (switch_at rows runs x) m) in
        subst (λ (xs : List Event). After sys xs (moment_of_slot (suc x)) (started_after rows j) (blocked_after rows j)
        (Before (suc x))) e
        (after_same sys (two ++ gathered (switch_at rows runs x) m) (moment_of_slot x) (moment_of_slot (suc x))
        (started_after rows j) (started_after rows j) (blocked_after rows j) (blocked_after rows j)
        (upto m (Now x) (Left x)) (Before (suc x)) (omega arith) (λ v. refl) (λ v. refl)
        (λ d p. upto_all m (Now x) (Left x) d p) a3)

    nothing : (k : ℕ) → AreBefore rows k 0 → After sys [] 0 (started_after rows k) (blocked_after rows k) (Before 0)
    nothing k before = record {
      keep = λ i l. absurd (omega arith);
      no_end = ap is_some (last_below-zero _ (event_at []));
      in_time = omega arith;
      started_is =
          λ v. ap is_some (last_below-zero _ (event_at []))
          ∙ sym (subst (λ (z : ℕ). started_after rows z v ≡ false) zero_is
          (ap is_some (last_below-zero (starts v) (row_at rows))));
      blocked_is =
          λ v. ap (λ o. blocks_last o) (last_below-zero _ (event_at []))
          ∙ sym (subst (λ (z : ℕ). blocked_after rows z v ≡ false) zero_is
          (ap blocks (last_below-zero (is_of v) (row_at rows))));
      held_is = λ c l. ap (λ o. runner_of o) (last_below-zero _ (event_at []));
    }
      where
        zero_is : 0 ≡ k
        zero_is = go k before
          where
            go : (k : ℕ) → AreBefore rows k 0 → 0 ≡ k
            go zero b = refl
            go (suc k) b = absurd (omega (arith, b.past 0 (omega arith)))

    below : (x k : ℕ) → x ≤ n → AreBefore rows k x
        → After sys (printed_below sys rows runs x) (moment_of_slot x) (started_after rows k) (blocked_after rows k)
        (Before x)
    below zero k l before =
        subst (λ (xs : List Event). After sys xs 0 (started_after rows k) (blocked_after rows k) (Before 0))
        (sym (printed_below-zero sys rows runs)) (nothing k before)
    below (suc x) j l taken =
        let s : (k : ℕ) × AreBefore rows k x = split_at x in
        subst (λ (xs : List Event). After sys xs (moment_of_slot (suc x)) (started_after rows j) (blocked_after rows j)
        (Before (suc x))) (sym (printed_below-suc sys rows runs x))
        (slot_more x s.0 j l s.1 taken (printed_below sys rows runs x) (below x s.0 (omega arith) s.1))

    -- and the VCPU of a slot has the core behind what is told at the slots up to it
    pub holder_below : (x c : ℕ) → x < n → c < length sys.cores
        → holder (printed_below sys rows runs (suc x)) (length (printed_below sys rows runs (suc x))) c
        ≡ held (run_at runs c) x
    holder_below x c l p =
        let s : (k : ℕ) × AreBefore rows k (suc x) = split_at (suc x) in
        (below (suc x) s.0 (omega arith) s.1).held_is c p

    -- and each VCPU is started or not, and blocked or not, as it is at the slot
    pub started_below : (x v : ℕ) → x < n
        → is_started (printed_below sys rows runs (suc x)) (length (printed_below sys rows runs (suc x))) v
        ≡ is_started_at rows v x
    started_below x v l =
        let s : (k : ℕ) × AreBefore rows k (suc x) = split_at (suc x) in
        (below (suc x) s.0 (omega arith) s.1).started_is v ∙ sym (started_by rows v x s.0 s.1)

    pub blocked_below : (x v : ℕ) → x < n
        → is_blocked (printed_below sys rows runs (suc x)) (length (printed_below sys rows runs (suc x))) v
        ≡ is_blocked_at rows v x
    blocked_below x v l =
        let s : (k : ℕ) × AreBefore rows k (suc x) = split_at (suc x) in
        (below (suc x) s.0 (omega arith) s.1).blocked_is v ∙ sym (blocked_by rows v x s.0 s.1)

    -- the events of a run keep the rules
    pub printed_keeps : Kept sys (printed sys rows runs n)
    printed_keeps =
        let s : (k : ℕ) × AreBefore rows k n = split_at n in
        let a : After sys (printed_below sys rows runs n) (moment_of_slot n) (started_after rows s.0)
        (blocked_after rows s.0) (Before n)
        = below n s.0 (omega arith) s.1 in
        after_end sys (printed_below sys rows runs n) (moment_of_slot n) (started_after rows s.0)
        (blocked_after rows s.0) (Before n) (on_at 0 n End) a
        (record { in_limit = omega (arith, fits); in_time = a.in_time; known = refl; on_core = refl; may = refl })
        refl
