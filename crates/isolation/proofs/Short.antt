-- Where every number of slots is too few, a workload by which all others wake as a period of v
-- begins, each with a whole budget, makes that period short.
use Rattle.std.proofs.Common.{◌≡◌, ℕ, suc, ◌+◌, ◌-◌, ◌<◌, ◌≤◌, Bool, true, false, cond, not, List, length, refl, ap, arith, inl, inr}
use Rattle.std.proofs.lemmas.Bool.{cases_Bool, cond-true, cond-false, both_ways}
use Rattle.slot_model.specs.Slots.{sum_below}
use Rattle.slot_model.specs.Run.{held, holds}
use Rattle.slot_model.proofs.Sums.{sum_below-le}
use Rattle.slot_model.proofs.Runs.{holds-is}
use Rattle.tree_model.specs.declared.place.Place.TheVariants.{Core}
use Rattle.tree_model.specs.View.{SystemView}
use Rattle.tree_model.specs.System.{part_at}
use Rattle.tree_model.specs.Tree.{is_child}
use Rattle.trace_file.specs.Periods.{begins, count_between}
use Rattle.release_file.specs.declared.workload.Wake.{Wake}
use Rattle.release_file.specs.Workload.{is_blocked_at, start_of}
use Rattle.rtds_model.specs.Rtds.{period_from}
use Rattle.rtds_model.specs.Giving.{IsStartedOn, ServersFit}
use Rattle.rtds_model.specs.Demand.{later}
use Rattle.isolation.specs.Demand.{asked_of, asked, AsksTooMuch}
use Rattle.isolation.specs.Keeping.{got_in}
use Rattle.rtds_model.proofs.Counts.{between_zero}
use Rattle.isolation.proofs.Asked.{asked-le-last}
use Rattle.rtds_model.proofs.Demands.{last_demand}
use Rattle.rtds_model.proofs.Setting.{Setting, IsCoreRun, period, budget, start, here, on, on_is, on_from, runs_from}
use Rattle.rtds_model.proofs.Serving.{holder_runs, by_place, serves_by_place}
use Rattle.rtds_model.proofs.Giving.{fits_on}
use Rattle.isolation.proofs.Witness.{WakesAt, IsOther, falls_short}

-- VCPU u has been blocked in the period that is under way at r, and one of its periods ends with
-- v's that begins at r, or a slot before where u stands behind v
pub record WakesWith (sys : SystemView) (rows : List Wake) (c v r u : ℕ) : Type 0 where
  pub starts : IsStartedOn sys rows c u
  pub by_then : start_of rows u ≤ r
  pub number : ℕ
  pub in_step : begins (part_at sys u).period (start_of rows u) number ≡ r + (part_at sys v).period - later v u
  pub asleep : (x : ℕ) → start_of rows u ≤ x → x < r → r < x + (part_at sys u).period → is_blocked_at rows u x ≡ true

-- a period of v begins at r, all others of the core wake there, and none blocks before it is over
pub record IsWitness (sys : SystemView) (rows : List Wake) (c v r : ℕ) : Type 0 where
  pub starts : IsStartedOn sys rows c v
  pub number : ℕ
  pub in_step : begins (part_at sys v).period (start_of rows v) number ≡ r
  pub all : (u : ℕ) → u < length sys.parts → is_child sys (Core c) u ≡ true → WakesWith sys rows c v r u
  pub awake : (u x : ℕ) → u < length sys.parts → is_child sys (Core c) u ≡ true → r ≤ x → x < r + (part_at sys v).period
      → is_blocked_at rows u x ≡ false

module _ (s : Setting) (is : IsCoreRun s) where
  -- one that is blocked has nothing
  none_blocked : (u x : ℕ) → x < s.slots → is_blocked_at s.rows u x ≡ true → holds (held s.run x) u ≡ false
  none_blocked u x l b = elim (cases_Bool (holds (held s.run x) u)) [
    | inr h ↦ h
    | inl h ↦
        absurd (both_ways _ (ap not b)
        (holder_runs s (by_place s is) x u l (holds-is (held s.run x) u h)).awake)
  ]

  wakes : (v r : ℕ) → r + period s v ≤ s.slots → IsWitness s.sys s.rows s.core v r → (u : ℕ)
      → IsOther (serves_by_place s is) v u
      → WakesAt (serves_by_place s is) r (r + period s v) (r + period s v - later v u) u
  wakes v r ln h u other =
      let o : IsStartedOn s.sys s.rows s.core u = on_is s u other.is_on in
      let w : WakesWith s.sys s.rows s.core v r u = h.all u other.below o.on_core in
      let p : 1 ≤ period s u = omega (arith, s.plan.some_budget u other.below, s.plan.in_period u other.below) in
      let from_lo : period_from s.sys s.rows u r ≤ r = omega (arith, w.by_then) in
      let from_hi : r < period_from s.sys s.rows u r + period s u = omega (arith, w.by_then) in
      record {
        is_on = other.is_on;
        by_then = w.by_then;
        number = w.number;
        in_step = w.in_step;
        has_all =
            between_zero (λ y. holds (held s.run y) u) (period_from s.sys s.rows u r) r
            (λ x lo hi. none_blocked u x (omega arith) (w.asleep x (omega arith) hi (omega arith)));
        awake =
            λ x lo hi. runs_from s u x o (omega (arith, w.by_then)) (h.awake u x other.below o.on_core lo hi);
      }

  -- what is asked where all are on
  all_asked : (v r t : ℕ) → IsWitness s.sys s.rows s.core v r
      → asked later s.sys s.budgets s.core v t
      ≤ sum_below (λ u. cond (on s u) (last_demand later v u (period s u) (budget s u) t) 0) (length s.sys.parts)
  all_asked v r t h =
      sum_below-le (λ u. cond (here s u) (asked_of later v u (period s u) (budget s u) t) 0)
      (λ u. cond (on s u) (last_demand later v u (period s u) (budget s u) t) 0) (length s.sys.parts)
      (λ u l. elim (cases_Bool (here s u)) [
        | inr e ↦
            omega (arith, cond-false {A = ℕ} (here s u) (asked_of later v u (period s u) (budget s u) t) 0 e)
        | inl e ↦
            omega (
              arith,
              cond-true {A = ℕ} (here s u) (asked_of later v u (period s u) (budget s u) t) 0 e,
              cond-true {A = ℕ} (on s u) (last_demand later v u (period s u) (budget s u) t) 0
                  (on_from s u (h.all u l e).starts),
              asked-le-last later v u (period s u) (budget s u) t,
            )
      ])

  pub short_period : (v r : ℕ) → ServersFit s.sys s.budgets s.core → r + period s v ≤ s.slots
      → (h : IsWitness s.sys s.rows s.core v r) → AsksTooMuch later s.sys s.budgets s.core v
      → got_in s.sys s.rows s.run v h.number < budget s v
  short_period v r fit ln h too_much =
      let runs_v : ℕ → Bool = λ y. holds (held s.run y) v in
      let to : begins (period s v) (start s v) (suc h.number) ≡ r + period s v = omega (arith, h.in_step) in
      let less : count_between runs_v r (r + period s v) < budget s v
      = falls_short (serves_by_place s is) v h.number r (r + period s v) h.starts.is_part (on_from s v h.starts)
      h.in_step refl ln (wakes v r ln h) (λ t some. fits_on s fit t some (λ u. t) (λ u. omega arith))
      (λ t some within. omega (arith, too_much t within, all_asked v r t h)) in
      omega (
        arith,
        less,
        ap (λ (a : ℕ). count_between runs_v a (begins (period s v) (start s v) (suc h.number))) h.in_step,
        ap (λ (b : ℕ). count_between runs_v r b) to,
      )
