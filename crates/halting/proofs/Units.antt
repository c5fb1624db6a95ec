-- What passes passes with all times so many times as long.
use Rattle.std.proofs.Common.{◌≡◌, ℕ, suc, ◌+◌, ◌*◌, ◌-◌, ◌/◌, ◌%◌, ◌==◌, ◌<◌, ◌≤◌, Bool, cond, ◌&&◌, ◌||◌, nat_lt, List, length, refl, sym, ◌∙◌, ap, arith, subst, inl, inr, lt-ltb, le-ltb, eq-eqb, mul-le-mul_right}
use Rattle.std.proofs.lemmas.Bool.{cases_lt, cases_eq, cases_Bool, cond-true, cond-false, ne_eqb}
use Rattle.std.proofs.lemmas.Nat.{div-mul-add, mod-mul-add}
use Rattle.std.proofs.lemmas.List.{length-map, get_or-map}
use Rattle.slot_model.specs.declared.sched.Sched.{Sched}
use Rattle.slot_model.specs.declared.sched.Sched.TheVariants.{Edf, Rm, Dm, Listed}
use Rattle.slot_model.specs.Slots.{sum_below}
use Rattle.slot_model.specs.Task.{SporadicTask, IsConstrained, AreConstrained, default_task, task_at, room_of}
use Rattle.slot_model.specs.Order.{ranks_by, ranks_above}
use Rattle.slot_model.specs.Bound.{sbf, demand_of, dbf, request_of, rbf, IsHit, AllHit, DemandFits, Passes}
use Rattle.slot_model.proofs.Sums.{sum_below-same, sum_below-mul}
use Rattle.slot_model.proofs.Windows.{sum_by-places}
use Rattle.slot_model.proofs.Demand.{demand_closed, dbf_start}
use Rattle.halting.specs.Units.{task_times, tasks_times, PassesInUnits, ConstrainedInUnits}

-- what is so many times as long, and some less than one unit: its quotient, and what is left
pub record Divided (x p c r : ℕ) : Type 0 where
  pub whole : (x * c + r) / (p * c) ≡ x / p
  pub rest : (x * c + r) % (p * c) ≡ (x % p) * c + r

divided : (x p c r : ℕ) → 1 ≤ p → r < c → Divided x p c r
divided x p c r some l =
    let q : ℕ = x / p in
    let s : ℕ = x % p in
    let e : x ≡ q * p + s = omega (arith, some) in
    let below : suc s ≤ p = omega (arith, some) in
    let room : suc s * c ≤ p * c = mul-le-mul_right c below in
    let t : x * c + r ≡ q * (p * c) + (s * c + r) = omega (arith, ap (λ (z : ℕ). z * c) e) in
    record {
      whole = ap (λ (z : ℕ). z / (p * c)) t ∙ div-mul-add q (p * c) (s * c + r) (omega (arith, room, l));
      rest = ap (λ (z : ℕ). z % (p * c)) t ∙ mod-mul-add q (p * c) (s * c + r) (omega (arith, room, l));
    }

-- a difference
less_times : (a b c : ℕ) → b ≤ a → a * c - b * c ≡ (a - b) * c
less_times a b c l =
    omega (arith, ap (λ (z : ℕ). z * c) (let e : a ≡ (a - b) + b = omega (arith, l) in e))

-- an order
lt_times : (a b c : ℕ) → 1 ≤ c → nat_lt (a * c) (b * c) ≡ nat_lt a b
lt_times a b c some = elim (cases_lt a b) [
  | inl l ↦ lt-ltb (a * c) (b * c) (omega (arith, some, mul-le-mul_right c l)) ∙ sym (lt-ltb a b l)
  | inr l ↦ le-ltb (a * c) (b * c) (mul-le-mul_right c l) ∙ sym (le-ltb a b l)
]

same_times : (a b c : ℕ) → 1 ≤ c → a * c ≡ b * c → a ≡ b
same_times a b c some e = elim (cases_lt a b) [
  | inl l ↦ absurd (omega (arith, some, e, mul-le-mul_right c l))
  | inr l ↦ elim (cases_lt b a) [
    | inl m ↦ absurd (omega (arith, some, e, mul-le-mul_right c m))
    | inr m ↦ omega (arith, l, m)
  ]
]

eq_times : (a b c : ℕ) → 1 ≤ c → (a * c == b * c) ≡ (a == b)
eq_times a b c some = elim (cases_eq a b) [
  | inl e ↦ eq-eqb (a * c) (b * c) (ap (λ (z : ℕ). z * c) e) ∙ sym (eq-eqb a b e)
  | inr ne ↦ ne_eqb (a * c) (b * c) (λ q. ne (same_times a b c some q)) ∙ sym (ne_eqb a b ne)
]

-- a rank by keys
ranks_times : (key more : ℕ → ℕ) (c i j : ℕ) → 1 ≤ c → more i ≡ key i * c → more j ≡ key j * c
    → ranks_by more i j ≡ ranks_by key i j
ranks_times key more c i j some e d =
    let lt : nat_lt (more i) (more j) ≡ nat_lt (key i) (key j)
    = ap (λ (z : ℕ). nat_lt z (more j)) e
    ∙ (ap (λ (z : ℕ). nat_lt (key i * c) z) d ∙ lt_times (key i) (key j) c some) in
    let eq : (more i == more j) ≡ (key i == key j)
    = ap (λ (z : ℕ). z == more j) e ∙ (ap (λ (z : ℕ). (key i * c) == z) d ∙ eq_times (key i) (key j) c some) in
    ap (λ (b : Bool). b || ((more i == more j) && nat_lt i j)) lt
    ∙ ap (λ (b : Bool). nat_lt (key i) (key j) || (b && nat_lt i j)) eq

pub constrained_times : (c : ℕ) (task : SporadicTask) → 1 ≤ c → IsConstrained task → IsConstrained (task_times c task)
constrained_times c task some f =
    record {
      works = omega (arith, some, mul-le-mul_right c f.works);
      in_deadline = omega (arith, mul-le-mul_right c f.in_deadline);
      in_period = mul-le-mul_right c f.in_period;
    }

module _ (c : ℕ) (some : 1 ≤ c) (tasks : List SporadicTask) (fits : AreConstrained tasks) where
  abbrev times : List SporadicTask
  times = tasks_times c tasks

  long : length times ≡ length tasks
  long = length-map tasks (task_times c)

  task_is : (i : ℕ) → i < length tasks → task_at times i ≡ task_times c (task_at tasks i)
  task_is i l = get_or-map (task_times c) tasks i default_task default_task l

  pub constrained : AreConstrained times
  constrained i l =
      let m : i < length tasks = omega (arith, l, long) in
      subst IsConstrained (sym (task_is i m)) (constrained_times c (task_at tasks i) some (fits i m))

  -- what a task asks for
  demand_times : (b : SporadicTask) → IsConstrained b → (t r : ℕ) → r < c
      → demand_of (task_times c b) (t * c + r) ≡ demand_of b t * c
  demand_times b f t r l =
      let x : ℕ = t + (b.period - room_of b) in
      let p : 1 ≤ b.period = omega (arith, f.works, f.in_deadline, f.in_period) in
      let same : t * c + r + (b.period * c - (b.deadline * c - b.jitter * c)) ≡ x * c + r
      = omega (
        arith,
        less_times b.deadline b.jitter c (omega (arith, f.in_deadline)),
        less_times b.period (room_of b) c (omega (arith, f.in_period)),
      ) in
      omega (
        arith,
        demand_closed (task_times c b) (constrained_times c b some f) (t * c + r),
        ap (λ (z : ℕ). (z / (b.period * c)) * (b.work * c)) same,
        ap (λ (z : ℕ). z * (b.work * c)) (divided x b.period c r p l).whole,
        ap (λ (z : ℕ). z * c) (demand_closed b f t),
      )

  dbf_times : (t r : ℕ) → r < c → dbf times (t * c + r) ≡ dbf tasks t * c
  dbf_times t r l =
      omega (
        arith,
        sum_by-places (λ b. demand_of b (t * c + r)) default_task times,
        ap (sum_below (λ i. demand_of (task_at times i) (t * c + r))) long,
        sum_below-same (λ i. demand_of (task_at times i) (t * c + r)) (λ i. demand_of (task_at tasks i) t * c)
            (length tasks) (λ i m. ap (λ (b : SporadicTask). demand_of b (t * c + r)) (task_is i m)
            ∙ demand_times (task_at tasks i) (fits i m) t r l),
        sum_below-mul (λ i. demand_of (task_at tasks i) t) c (length tasks),
        ap (λ (z : ℕ). z * c) (sum_by-places (λ b. demand_of b t) default_task tasks),
      )

  request_times : (b : SporadicTask) → IsConstrained b → (t : ℕ)
      → request_of (task_times c b) (t * c) ≡ request_of b t * c
  request_times b f t =
      let x : ℕ = t + b.jitter + (b.period - 1) in
      let p : 1 ≤ b.period = omega (arith, f.works, f.in_deadline, f.in_period) in
      let same : t * c + b.jitter * c + (b.period * c - 1) ≡ x * c + (c - 1)
      = omega (
        arith,
        some,
        less_times b.period 1 c p,
        mul-le-mul_right c p,
      ) in
      omega (
        arith,
        ap (λ (z : ℕ). (z / (b.period * c)) * (b.work * c)) same,
        ap (λ (z : ℕ). z * (b.work * c)) (divided x b.period c (c - 1) p (omega (arith, some))).whole,
      )

  rbf_times : (above more : ℕ → ℕ → Bool) → ((i j : ℕ) → i < length tasks → j < length tasks → more i j ≡ above i j)
      → (i t : ℕ) → i < length tasks → rbf more times i (t * c) ≡ rbf above tasks i t * c
  rbf_times above more alike i t l =
      let asked : ℕ → ℕ = λ k. cond (above k i) (request_of (task_at tasks k) t) 0 in
      let term : (k : ℕ) → k < length tasks → cond (more k i) (request_of (task_at times k) (t * c)) 0 ≡ asked k * c
      = λ k m. ap (λ (b : Bool). cond b (request_of (task_at times k) (t * c)) 0) (alike k i m l)
      ∙ elim (cases_Bool (above k i)) [
        | inl e ↦
            omega (
              arith,
              cond-true {A = ℕ} (above k i) (request_of (task_at times k) (t * c)) 0 e,
              ap (λ (z : ℕ). z * c) (cond-true {A = ℕ} (above k i) (request_of (task_at tasks k) t) 0 e),
              ap (λ (b : SporadicTask). request_of b (t * c)) (task_is k m),
              request_times (task_at tasks k) (fits k m) t,
            )
        | inr e ↦
            omega (
              arith,
              cond-false {A = ℕ} (above k i) (request_of (task_at times k) (t * c)) 0 e,
              ap (λ (z : ℕ). z * c) (cond-false {A = ℕ} (above k i) (request_of (task_at tasks k) t) 0 e),
            )
      ] in
      omega (
        arith,
        ap (λ (b : SporadicTask). b.work) (task_is i l),
        ap (sum_below (λ k. cond (more k i) (request_of (task_at times k) (t * c)) 0)) long,
        sum_below-same (λ k. cond (more k i) (request_of (task_at times k) (t * c)) 0) (λ k. asked k * c)
            (length tasks) term,
        sum_below-mul asked c (length tasks),
      )

  module _ (P B : ℕ) (period : 1 ≤ P) (in_period : B ≤ P) where
    -- what a supply gives
    sbf_times : (t r : ℕ) → r < c → sbf P B t * c ≤ sbf (P * c) (B * c) (t * c + r)
    sbf_times t r l =
        let gap : ℕ = P - B in
        let more : ℕ = P * c - B * c in
        let wide : more ≡ gap * c = less_times P B c in_period in
        elim (cases_lt t gap) [
          | inl m ↦
              let none : sbf P B t ≡ 0
              = cond-true {A = ℕ} (nat_lt t gap) 0 (((t - gap) / P) * B + ((t - gap) % P - gap)) (lt-ltb t gap m) in
              omega (arith, ap (λ (z : ℕ). z * c) none)
          | inr m ↦
              let u : ℕ = t - gap in
              let v : ℕ = t * c + r - more in
              let has : sbf P B t ≡ (u / P) * B + (u % P - gap)
              = cond-false {A = ℕ} (nat_lt t gap) 0 ((u / P) * B + (u % P - gap)) (le-ltb t gap m) in
              let has_more : sbf (P * c) (B * c) (t * c + r) ≡ (v / (P * c)) * (B * c) + (v % (P * c) - more)
              = cond-false {A = ℕ} (nat_lt (t * c + r) more) 0 ((v / (P * c)) * (B * c) + (v % (P * c) - more))
              (le-ltb (t * c + r) more (omega (arith, wide, mul-le-mul_right c m))) in
              let from : v ≡ u * c + r = omega (arith, wide, less_times t gap c m, mul-le-mul_right c m) in
              let d : Divided u P c r = divided u P c r period l in
              let whole : v / (P * c) ≡ u / P = ap (λ (z : ℕ). z / (P * c)) from ∙ d.whole in
              let rest : v % (P * c) ≡ (u % P) * c + r = ap (λ (z : ℕ). z % (P * c)) from ∙ d.rest in
              elim (cases_lt (u % P) gap) [
                | inl n ↦
                    omega (
                      arith,
                      ap (λ (z : ℕ). z * c) has,
                      ap (λ (z : ℕ). z * c) (let e : u % P - gap ≡ 0 = omega (arith, n) in e),
                      has_more,
                      ap (λ (z : ℕ). z * (B * c)) whole,
                    )
                | inr n ↦
                    omega (
                      arith,
                      ap (λ (z : ℕ). z * c) has,
                      less_times (u % P) gap c n,
                      has_more,
                      ap (λ (z : ℕ). z * (B * c)) whole,
                      rest,
                      wide,
                    )
              ]
        ]

    demand_fits : DemandFits tasks (sbf P B) → DemandFits times (sbf (P * c) (B * c))
    demand_fits h x some_slots =
        let t : ℕ = x / c in
        let r : ℕ = x % c in
        let less : r < c = omega (arith, some) in
        let e : t * c + r ≡ x = omega (arith, some) in
        let enough : dbf tasks t ≤ sbf P B t
        = elim (cases_lt 0 t) [
          | inl l ↦ h t l
          | inr l ↦
              let none : t ≡ 0 = omega (arith, l) in omega (arith, ap (dbf tasks) none, dbf_start tasks fits)
        ] in
        subst (λ (z : ℕ). dbf times z ≤ sbf (P * c) (B * c) z) e
        (omega (arith, dbf_times t r less, sbf_times t r less, mul-le-mul_right c enough))

    all_hit : (above more : ℕ → ℕ → Bool) → ((i j : ℕ) → i < length tasks → j < length tasks → more i j ≡ above i j)
        → AllHit above tasks (sbf P B) → AllHit more times (sbf (P * c) (B * c))
    all_hit above more alike h i l =
        let m : i < length tasks = omega (arith, l, long) in
        let w : (t : ℕ) × IsHit above tasks (sbf P B) i t = h i m in
        let e : w.0 * c + 0 ≡ w.0 * c = omega arith in (
          w.0 * c,
          record {
            some_slots = omega (arith, some, mul-le-mul_right c w.1.some_slots);
            in_deadline =
                omega (
                  arith,
                  mul-le-mul_right c w.1.in_deadline,
                  ap room_of (task_is i m),
                  less_times (task_at tasks i).deadline (task_at tasks i).jitter c
                      (omega (arith, (fits i m).in_deadline)),
                );
            enough =
                omega (
                  arith,
                  rbf_times above more alike i w.0 m,
                  mul-le-mul_right c w.1.enough,
                  subst (λ (z : ℕ). sbf P B w.0 * c ≤ sbf (P * c) (B * c) z) e (sbf_times w.0 0 (omega (arith, some))),
                );
          },
        )

  -- the ranks of the tasks stay
  by_period : (i j : ℕ) → i < length tasks → j < length tasks → ranks_above Rm times i j ≡ ranks_above Rm tasks i j
  by_period i j l m =
      ranks_times (λ k. (task_at tasks k).period) (λ k. (task_at times k).period) c i j some
      (ap (λ (b : SporadicTask). b.period) (task_is i l)) (ap (λ (b : SporadicTask). b.period) (task_is j m))

  by_deadline : (i j : ℕ) → i < length tasks → j < length tasks → ranks_above Dm times i j ≡ ranks_above Dm tasks i j
  by_deadline i j l m =
      ranks_times (λ k. (task_at tasks k).deadline) (λ k. (task_at times k).deadline) c i j some
      (ap (λ (b : SporadicTask). b.deadline) (task_is i l)) (ap (λ (b : SporadicTask). b.deadline) (task_is j m))

  passes : (sched : Sched) (P B : ℕ) → 1 ≤ P → B ≤ P → Passes sched tasks (sbf P B)
      → Passes sched times (sbf (P * c) (B * c))
  passes Edf P B p l h = demand_fits P B p l h
  passes Rm P B p l h = all_hit P B p l (ranks_above Rm tasks) (ranks_above Rm times) by_period h
  passes Dm P B p l h = all_hit P B p l (ranks_above Dm tasks) (ranks_above Dm times) by_deadline h
  passes Listed P B p l h =
      all_hit P B p l (ranks_above Listed tasks) (ranks_above Listed times) (λ i j k m. refl) h

pub passes_in_units : PassesInUnits
passes_in_units c sched tasks period budget some fits p l h = passes c some tasks fits sched period budget p l h

pub constrained_in_units : ConstrainedInUnits
constrained_in_units c tasks some fits = constrained c some tasks fits
