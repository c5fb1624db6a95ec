-- What holds of each event that is told: of each stop and run of a core, and of each row.
use Rattle.std.proofs.Common.{◌≡◌, ℕ, zero, suc, ◌+◌, ◌-◌, ◌<◌, ◌≤◌, ◌==◌, Bool, true, false, cond, List, [], ◌∷◌, ◌++◌, length, Option, Some, None, refl, sym, ◌∙◌, ap, arith, subst, inl, inr, append_assoc, append-nil, eqb-true}
use Rattle.std.proofs.lemmas.Bool.{cases_lt}
use Rattle.std.proofs.lemmas.Option.{none-some, same_Some}
use Rattle.std.proofs.lemmas.List.{get_or_append_left, get_or-append_right, length-append}
use Rattle.slot_model.specs.Run.{held}
use Rattle.tree_model.specs.View.{SystemView}
use Rattle.tree_model.specs.Tree.{run_at}
use Rattle.trace_file.specs.declared.event.Event.{Event}
use Rattle.trace_file.specs.declared.event.What.TheVariants.{Run, Stop}
use Rattle.trace_file.specs.Events.{event_at}
use Rattle.release_file.specs.declared.workload.Wake.{Wake as Row}
use Rattle.release_file.specs.Workload.{row_at}
use Rattle.rtds_trace.specs.Printed.{push_some, gathered, event_of, on_at, on_core_at, switch_to, holder_before, is_blocked_one, holder_left, stop_at, row_event_at, switch_at, printed_at, printed_below}
use Rattle.rtds_trace.proofs.Gathered.{gathered-zero, gathered-suc, printed_below-zero, printed_below-suc}

-- each event of a list
abbrev pub AllOf : (Event → Type 0) → List Event → Type 0
AllOf P es = (i : ℕ) → i < length es → P (event_at es i)

pub all_none : (P : Event → Type 0) → AllOf P []
all_none P i l = absurd (omega arith)

pub all_one : (P : Event → Type 0) (e : Event) → P e → AllOf P (e ∷ [])
all_one P e h zero l = h
all_one P e h (suc i) l = absurd (omega arith)

pub all_append : (P : Event → Type 0) (xs ys : List Event) → AllOf P xs → AllOf P ys → AllOf P (xs ++ ys)
all_append P xs ys a b i l = elim (cases_lt i (length xs)) [
  | inl q ↦ subst P (sym (get_or_append_left xs ys _ i q)) (a i q)
  | inr q ↦
      subst P (sym (get_or-append_right xs ys (length xs) i _ refl q))
      (b (i - length xs) (omega (arith, length-append xs ys)))
]

all_more : (P : Event → Type 0) (es : List Event) (o : Option Event) → AllOf P es → ((e : Event) → o ≡ Some e → P e)
    → AllOf P (push_some es o)
all_more P es None old h = old
all_more P es (Some y) old h = all_append P es (y ∷ []) old (all_one P y (h y refl))

all_gathered : (P : Event → Type 0) (f : ℕ → Option Event) (n : ℕ) → ((i : ℕ) (e : Event) → i < n → f i ≡ Some e → P e)
    → AllOf P (gathered f n)
all_gathered P f zero h = subst (AllOf P) (sym (gathered-zero f)) (all_none P)
all_gathered P f (suc n) h =
    subst (AllOf P) (sym (gathered-suc f n))
    (all_more P (gathered f n) (f n) (all_gathered P f n (λ i e l. h i e (omega arith))) (λ e. h n e (omega arith)))

-- an event that is there under a condition
if_there : (P : Event → Type 0) (b : Bool) (y e : Event) → (b ≡ true → P y) → cond b (Some y) None ≡ Some e → P e
if_there P true y e h q = subst P (same_Some y e q) (h refl)
if_there P false y e h q = absurd (none-some e q)

-- what a core goes on to
goes_on : (P : Event → Type 0) (c x : ℕ) → P (on_at c x Stop) → ((v : ℕ) → P (on_at c x (Run v)))
    → (holder next : Option ℕ) (e : Event) → on_core_at c x (switch_to holder next) ≡ Some e → P e
goes_on P c x stop run None None e q = absurd (none-some e q)
goes_on P c x stop run (Some u) None e q = subst P (same_Some _ e q) stop
goes_on P c x stop run None (Some v) e q = subst P (same_Some _ e q) (run v)
goes_on P c x stop run (Some u) (Some v) e q = go (u == v) q
  where
    go : (b : Bool) → on_core_at c x (cond b None (Some (Run v))) ≡ Some e → P e
    go true q = absurd (none-some e q)
    go false q = subst P (same_Some _ e q) (run v)

module _ (P : Event → Type 0) (sys : SystemView) (rows : List Row) (runs : List (List (Option ℕ))) where
  -- what is to hold of the events at slot x
  pub record Holds (x : ℕ) : Type 0 where
    pub stops : (c : ℕ) → P (on_at c x Stop)
    pub runs_on : (c v : ℕ) → P (on_at c x (Run v))
    pub of_row : (i : ℕ) → i < length rows → (row_at rows i).at ≡ x → P (event_of sys (row_at rows i))

  told_at : (x : ℕ) → Holds x → AllOf P (printed_at sys rows runs x)
  told_at x h =
      all_append P (gathered (stop_at rows runs x) (length sys.cores))
      (gathered (row_event_at sys rows x) (length rows) ++ gathered (switch_at rows runs x) (length sys.cores))
      (all_gathered P (stop_at rows runs x) (length sys.cores) (λ c e l q. if_there P
      (is_blocked_one rows x (holder_before (run_at runs c) x)) (on_at c x Stop) e (λ b. h.stops c) q))
      (all_append P (gathered (row_event_at sys rows x) (length rows))
      (gathered (switch_at rows runs x) (length sys.cores))
      (all_gathered P (row_event_at sys rows x) (length rows) (λ i e l q. if_there P ((row_at rows i).at == x)
      (event_of sys (row_at rows i)) e (λ b. h.of_row i l (eqb-true (row_at rows i).at x b)) q))
      (all_gathered P (switch_at rows runs x) (length sys.cores) (λ c e l q. goes_on P c x (h.stops c) (h.runs_on c)
      (holder_left rows (run_at runs c) x) (held (run_at runs c) x) e q)))

  pub told_below : (y : ℕ) → ((x : ℕ) → x < y → Holds x) → AllOf P (printed_below sys rows runs y)
  told_below zero h = subst (AllOf P) (sym (printed_below-zero sys rows runs)) (all_none P)
  told_below (suc y) h =
      subst (AllOf P) (sym (printed_below-suc sys rows runs y)) (all_append P (printed_below sys rows runs y)
      (printed_at sys rows runs y) (told_below y (λ x l. h x (omega arith))) (told_at y (h y (omega arith))))

  -- and of those behind slot y
  pub record Behind (y z : ℕ) : Type 0 where
    pub rest : List Event
    pub splits : printed_below sys rows runs z ≡ printed_below sys rows runs y ++ rest
    pub all : AllOf P rest

  pub behind : (y d : ℕ) → ((x : ℕ) → y ≤ x → x < y + d → Holds x) → Behind y (y + d)
  behind y zero h = record {
    rest = [];
    splits =
        ap (printed_below sys rows runs) (let e : y + 0 ≡ y = omega arith in e)
        ∙ sym (append-nil (printed_below sys rows runs y));
    all = all_none P;
  }
  behind y (suc d) h =
      let old : Behind y (y + d) = behind y d (λ x a b. h x a (omega arith)) in
      let e : y + suc d ≡ suc (y + d) = omega arith in
      record {
        rest = old.rest ++ printed_at sys rows runs (y + d);
        splits =
            ap (printed_below sys rows runs) e
            ∙ (printed_below-suc sys rows runs (y + d)
            ∙ (ap (λ (es : List Event). es ++ printed_at sys rows runs (y + d)) old.splits
            ∙ append_assoc (printed_below sys rows runs y) old.rest (printed_at sys rows runs (y + d))));
        all =
            all_append P old.rest (printed_at sys rows runs (y + d)) old.all
            (told_at (y + d) (h (y + d) (omega arith) (omega arith)));
      }
