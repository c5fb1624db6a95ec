-- How the VCPU stands that has a core, and the one that comes to it.
use Rattle.std.proofs.Common.{◌≡◌, ℕ, zero, suc, Bool, true, false, cond, not, eqb, List, Option, Some, None, refl, sym, ◌∙◌, ap, arith, inl, inr}
use Rattle.std.proofs.lemmas.Bool.{cases_Bool, cond-true, cond-false, eq-eqb, eqb-true, false≢true}
use Rattle.std.proofs.lemmas.Option.{none-some, same_Some}
use Rattle.slot_model.specs.Run.{holds}
use Rattle.tree_model.specs.declared.place.Parent.{Parent}
use Rattle.tree_model.specs.declared.place.Parent.TheVariants.{Core as on_core, Part as on_part}
use Rattle.tree_model.specs.View.{SystemView}
use Rattle.tree_model.specs.System.{IsSystem, part_at}
use Rattle.trace_file.specs.declared.event.Event.{Event}
use Rattle.trace_file.specs.declared.event.What.{What}
use Rattle.trace_file.specs.declared.event.What.TheVariants.{Start, Wake, Block, Run, Stop, End}
use Rattle.trace_file.specs.declared.fault.TraceFault.TheVariants.{NotStarted, NotRunnable, StillRunning}
use Rattle.trace_file.specs.declared.rows.Rows.{Rows}
use Rattle.trace_file.specs.Events.{event_at, switches, is_change_of, is_block, runner, runner_of, holder, has_core, is_started, is_blocked}
use Rattle.trace_file.specs.Rules.{RowsKeep, named, row_of, stands_on, what_fault}
use Rattle.csv_rows.proofs.Last.{last_below-zero}
use Rattle.trace_file.proofs.After.{blocked_next, fault_none, holder_next, row_keeps}
use Rattle.trace_file.proofs.Moments.{StandsOn, child_parent, holder_stands, runs_there}
use Rattle.vcpu_watch.specs.declared.watch.State.{State}
use Rattle.auditor.specs.inner.Told.{IsNextEvent, StandsSo}

-- a VCPU that is run is not blocked, and a run changes no VCPU
record CanRun (events : List Event) (n v : ℕ) (what : What) : Type 0 where
  able : is_blocked events n v ≡ false
  stays : is_change_of v what ≡ false

can_run : (events : List Event) (n c v : ℕ) (what : What) → what_fault events n c what ≡ None → runner what ≡ Some v
    → CanRun events n v what
can_run events n c v (Start w) keeps runs = absurd (none-some v runs)
can_run events n c v (Wake w) keeps runs = absurd (none-some v runs)
can_run events n c v (Block w) keeps runs = absurd (none-some v runs)
can_run events n c v (Run w) keeps runs =
    let started : (not (is_started events n w) ≡ false) × (_ ≡ None)
    = fault_none (not (is_started events n w)) (NotStarted (row_of n)) _ keeps in
    let able : (is_blocked events n w ≡ false) × (_ ≡ None)
    = fault_none (is_blocked events n w) (NotRunnable (row_of n)) None started.1 in
    record {
      able = ap (is_blocked events n) (sym (same_Some w v runs)) ∙ able.0;
      stays = refl;
    }
can_run events n c v Stop keeps runs = absurd (none-some v runs)
can_run events n c v End keeps runs = absurd (none-some v runs)

either : (b x : Bool) → x ≡ false → cond b false x ≡ false
either true x e = refl
either false x e = e

abbrev core_of : Parent → ℕ
core_of (on_core c) = c
core_of (on_part q) = q

-- an event after which a VCPU still has its core does not block it
still_able : (sys : SystemView) (events : List Event) (n d c v : ℕ) (what : What) → what_fault events n d what ≡ None
    → stands_on sys d (named what) ≡ true → StandsOn sys c v → holder events n c ≡ Some v
    → is_blocked events n v ≡ false
    → cond (is_change_of v what) (is_block what) (is_blocked events n v) ≡ false
still_able sys events n d c v (Start w) keeps stands on holds_it able = either (eqb w v) (is_blocked events n v) able
still_able sys events n d c v (Wake w) keeps stands on holds_it able = either (eqb w v) (is_blocked events n v) able
still_able sys events n d c v (Block w) keeps stands on holds_it able = elim (cases_Bool (eqb w v)) [
  | inr other ↦ cond-false {A = Bool} (eqb w v) true (is_blocked events n v) other ∙ able
  | inl own ↦
      let same = eqb-true w v own in
      let started : (not (is_started events n w) ≡ false) × (_ ≡ None)
      = fault_none (not (is_started events n w)) (NotStarted (row_of n)) _ keeps in
      let runnable : (is_blocked events n w ≡ false) × (_ ≡ None)
      = fault_none (is_blocked events n w) (NotRunnable (row_of n)) _ started.1 in
      let idle : (holds (holder events n d) w ≡ false) × (_ ≡ None)
      = fault_none (holds (holder events n d) w) (StillRunning (row_of n)) None runnable.1 in
      let here : d ≡ c
      = ap core_of (sym (child_parent sys d v (ap (λ (z : ℕ). stands_on sys d (Some z)) (sym same) ∙ stands))
      ∙ on.parent) in
      absurd (false≢true
      (sym idle.0
      ∙ (ap (λ (z : ℕ). holds (holder events n z) w) here
      ∙ (ap (λ (z : Option ℕ). holds z w) holds_it ∙ eq-eqb v w (sym same)))))
]
still_able sys events n d c v (Run w) keeps stands on holds_it able = able
still_able sys events n d c v Stop keeps stands on holds_it able = able
still_able sys events n d c v End keeps stands on holds_it able = able

-- who has a core is not blocked
holder_able : (sys : SystemView) (events : List Event) (n c v : ℕ) → RowsKeep sys events n → holder events n c ≡ Some v
    → is_blocked events n v ≡ false
holder_able sys events zero c v keep h =
    absurd (none-some v (sym (ap runner_of (last_below-zero (switches c) (event_at events))) ∙ h))
holder_able sys events (suc n) c v keep h =
    let e = event_at events n in
    let row = row_keeps sys events n (keep n (omega arith)) in
    let before : RowsKeep sys events n = λ i l. keep i (omega arith) in
    elim (cases_Bool (switches c e)) [
      | inl on ↦
          let can = can_run events n e.core v e.what row.what
          (sym (holder_next events n c ∙ cond-true {A = Option ℕ} (switches c e) (runner e.what) (holder events n c) on)
          ∙ h) in
          blocked_next events n v
          ∙ (cond-false {A = Bool} (is_change_of v e.what) (is_block e.what) (is_blocked events n v) can.stays
          ∙ can.able)
      | inr off ↦
          let held
          = sym (holder_next events n c
          ∙ cond-false {A = Option ℕ} (switches c e) (runner e.what) (holder events n c) off)
          ∙ h in
          blocked_next events n v
          ∙ still_able sys events n e.core c v e.what row.what row.stands (holder_stands sys events n c v before held)
          held (holder_able sys events n c v before held)
    ]

abbrev state : Bool → Bool → State
state core block = record { has_core = core; is_blocked = block }

same_state : (a b c d : Bool) → a ≡ c → b ≡ d → state a b ≡ state c d
same_state a b c d core block = ap (λ (z : Bool). state z b) core ∙ ap (λ (z : Bool). state c z) block

module _ (sys : SystemView) (is : IsSystem sys) (events : List Event) (n v : ℕ) (event : Event) (rows : Rows)
    (last : Option ℕ) (next : IsNextEvent sys events n event rows) (had : last ≡ holder events n event.core) where
  keeps : RowsKeep sys events n
  keeps i less = next.keep i (let l = next.is_row in omega (arith, less, l))

  -- on the core of VCPU v
  core_is : StandsOn sys event.core v → holds last v ≡ has_core (part_at sys v).parent events n v
  core_is on =
      ap (λ (z : Option ℕ). holds z v) had ∙ ap (λ (z : Parent). has_core z events n v) (sym on.parent)

  pub last_stands : last ≡ Some v → StandsSo sys events n v (record { has_core = true; is_blocked = false })
  last_stands e =
      let held = sym had ∙ e in
      let on = holder_stands sys events n event.core v keeps held in
      record {
        system = is;
        is_part = on.is_part;
        state_is =
            same_state true false _ _ (sym (ap (λ (z : Option ℕ). holds z v) e ∙ eq-eqb v v refl) ∙ core_is on)
            (sym (holder_able sys events n event.core v keeps held));
      }

  pub next_stands : runner event.what ≡ Some v
      → StandsSo sys events n v (record { has_core = holds last v; is_blocked = false })
  next_stands runs =
      let e = event_at events n in
      let row = row_keeps sys events n (next.keep n next.is_row) in
      let runs_next : runner e.what ≡ Some v = ap (λ (z : Event). runner z.what) (sym next.event_is) ∙ runs in
      let here : e.core ≡ event.core = ap (λ (z : Event). z.core) (sym next.event_is) in
      let on = runs_there sys e.what e.core event.core v row.known row.stands here runs_next in
      record {
        system = is;
        is_part = on.is_part;
        state_is =
            same_state (holds last v) false _ _ (core_is on)
            (sym (can_run events n e.core v e.what row.what runs_next).able);
      }
