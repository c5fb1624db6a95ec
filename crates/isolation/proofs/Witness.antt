-- Where too much is asked of the slots at the end of a period of v: all others wake at its begin
-- with a whole budget each, in periods that end as late as can go before it; and v lacks some of
-- its own.
use Rattle.std.proofs.Common.{◌≡◌, ◌≢◌, ◌⊎◌, ℕ, zero, suc, min, max, ◌+◌, ◌*◌, ◌-◌, ◌/◌, ◌%◌, ◌<◌, ◌≤◌, ◌==◌, Bool, true, false, cond, not, ◌&&◌, nat_lt, List, Option, Some, None, refl, sym, ◌∙◌, ap, arith, subst, inl, inr, lt-ltb, eqb-true, eq-eqb}
use Rattle.std.proofs.Math.Nat.{mul-le-mul_right}
use Rattle.std.proofs.lemmas.Bool.{cases_eq, cases_lt, cases_Bool, cond-true, cond-false, and_parts, and_from, both_ways}
use Rattle.std.proofs.lemmas.Option.{same_Some}
use Rattle.slot_model.specs.Slots.{sum_below}
use Rattle.slot_model.specs.Run.{held, holds}
use Rattle.trace_file.specs.Periods.{begins, count_between}
use Rattle.slot_model.proofs.Sums.{sum_below-le, sum_below-lt}
use Rattle.slot_model.proofs.Runs.{search_below, back_to, holds-is}
use Rattle.slot_model.proofs.FirstRuns.{none_some}
use Rattle.trace_file.proofs.Counting.{between_none}
use Rattle.rtds_model.specs.Demand.{deferrable_demand, later}
use Rattle.rtds_model.proofs.Counts.{LastOf, last_of, few_counted, between_split, between_zero, between_le, all_counted}
use Rattle.rtds_model.proofs.Demands.{steady_demand, demand_of, last_demand, quotient_is, demand_rises, own}
use Rattle.rtds_model.proofs.Windows.{had, ends, later_in_turn, later_few, ServesByDeadline, urgent, urgent_of, IsUrgent, urgent_is, urgent_from, some_period, had_at, ends_at, past_due, Quiet, head, asks, lacks, got}

module _ {m n : ℕ} {period budget start : ℕ → ℕ} {on : ℕ → Bool} {able : ℕ → ℕ → Bool} {run : List (Option ℕ)}
    (serves : ServesByDeadline later m n period budget start on able run) where
  -- in a window up to c, in periods that end by d, no later
  asks_to : (steady : Bool) (d a c u : ℕ) → c ≤ n → d ≤ c → a ≤ c → on u ≡ true
      → Quiet serves steady d a u
      → urgent_of serves d u a c ≤ demand_of steady (period u) (budget u) (c - a)
  asks_to steady d a c u l dc al o quiet = elim (cases_lt d a) [
    | inl q ↦ omega (arith, past_due serves d u a c o (omega arith) l)
    | inr q ↦ omega (
      arith,
      asks serves steady d a u o q
          (head serves steady d a u (omega arith) o quiet),
      past_due serves d u d c o (omega arith) l,
      between_split (urgent serves d u) a d c q dc,
      demand_rises steady (period u) (budget u) (d - a) (c - a)
          (some_period serves u o) (omega arith),
    )
  ]

  -- VCPU u wakes at r with its budget, in periods of which one ends at e
  pub record WakesAt (r d e u : ℕ) : Type 0 where
    pub is_on : on u ≡ true
    pub by_then : start u ≤ r
    pub number : ℕ
    pub in_step : begins (period u) (start u) number ≡ e
    pub has_all : had period start run u r ≡ 0
    pub awake : (x : ℕ) → r ≤ x → x < d → able u x ≡ true

  -- another of the core
  pub record IsOther (v u : ℕ) : Type 0 where
    pub below : u < m
    pub other : u ≢ v
    pub is_on : on u ≡ true

  module _ (v k r d : ℕ) (in_m : v < m) (o : on v ≡ true) (starts : begins (period v) (start v) k ≡ r)
      (end : d ≡ r + period v) (in_run : d ≤ n)
      (wakes : (u : ℕ) → IsOther v u → WakesAt r d (d - later v u) u)
      (fits : (t : ℕ) → 1 ≤ t → sum_below (λ u. cond (on u) (steady_demand (period u) (budget u) t) 0) m ≤ t) where
    some_length : 1 ≤ period v
    some_length = some_period serves v o

    -- the moment by which a period must end, both by c and before one of v that ends at d
    abbrev cap : ℕ → ℕ → ℕ
    cap c u = min c (d - later v u)

    -- another than v holds x on level 0 in a period that ends by then
    record SomeOther (c x : ℕ) : Type 0 where
      vcpu : ℕ
      other : vcpu ≢ v
      urgent_there : IsUrgent serves (cap c vcpu) vcpu x

    some_other : (c x : ℕ) → SomeOther c x ⊎ (SomeOther c x → ⊥)
    some_other c x = go (held run x) refl
      where
        go : (h : Option ℕ) → held run x ≡ h → SomeOther c x ⊎ (SomeOther c x → ⊥)
        go None e = inr (λ w. none_some (held run x) w.vcpu e w.urgent_there.holder)
        go (Some u) e = elim (cases_eq u v) [
          | inl same ↦ inr (λ w. w.other (same_Some w.vcpu u (sym w.urgent_there.holder ∙ e) ∙ same))
          | inr ne ↦ elim (cases_Bool (urgent serves (cap c u) u x)) [
            | inl b ↦
                inl (record {
                  vcpu = u;
                  other = ne;
                  urgent_there = urgent_is serves (cap c u) u x b;
                })
            | inr b ↦ inr (λ w.
                let same : w.vcpu ≡ u = same_Some w.vcpu u (sym w.urgent_there.holder ∙ e) in
                both_ways _ b (subst (λ (z : ℕ). urgent serves (cap c z) z x ≡ true) same
                (urgent_from serves (cap c w.vcpu) w.vcpu x
                w.urgent_there)))
          ]
        ]

    -- v's period from r on
    ends_own : (x : ℕ) → r ≤ x → x < d → ends period start v x ≡ d
    ends_own x l h =
        omega (arith, ends_at serves v k x (omega arith) (omega arith))

    apart : (u : ℕ) → u ≢ v → 1 ≤ later v u + later u v
    apart u ne = elim (cases_lt u v) [
      | inl l ↦ omega (arith, cond-true {A = ℕ} (nat_lt u v) 1 0 (lt-ltb u v l))
      | inr l ↦ omega (arith, cond-true {A = ℕ} (nat_lt v u) 1 0 (lt-ltb v u (omega arith)))
    ]

    -- where another has budget left, in a period that ends by then, one such has the slot
    makes_other : (c x w : ℕ) → r ≤ x → x < d → IsOther v w → had period start run w x < budget w
        → ends period start w x ≤ cap c w → SomeOther c x
    makes_other c x w l h ow left by =
        let g : (u : ℕ) × (held run x ≡ Some u) × (had period start run u x < budget u)
        × (ends period start u x + later w u ≤ ends period start w x)
        = serves.chosen x w (omega arith) ((wakes w ow).awake x l h) left in
        record {
          vcpu = g.0;
          other =
              λ same. omega (
                arith,
                subst (λ (z : ℕ). ends period start z x + later w z ≤ ends period start w x) same g.3,
                ends_own x l h,
                apart w ow.other,
                by,
                later_few v w,
              );
          urgent_there =
              record {
                holder = g.1;
                has_budget = g.2;
                in_time = omega (arith, g.3, by, later_in_turn v w g.0, later_few v w);
              };
        }

    -- others have all slots up to c, in periods that end by c
    abbrev Full : ℕ → Type 0
    Full c = (x : ℕ) → r ≤ x → x < c → SomeOther c x

    is_full : (c : ℕ) → Full c ⊎ (Full c → ⊥)
    is_full c = elim (search_below (λ x. (r ≤ x) × (SomeOther c x → ⊥)) test c) [
      | inl w ↦ inr (λ full. w.2.1 (full w.0 w.2.0 w.1))
      | inr none ↦ inl (λ x l h. elim (some_other c x) [ inl s ↦ s | inr s ↦ absurd (none x h (l, s)) ])
    ]
      where
        test : (x : ℕ) → ((r ≤ x) × (SomeOther c x → ⊥)) ⊎ ((r ≤ x) × (SomeOther c x → ⊥) → ⊥)
        test x = elim (cases_lt x r) [
          | inl l ↦ inr (λ h. omega (arith, h.0))
          | inr l ↦ elim (some_other c x) [ inl s ↦ inr (λ h. h.1 s) | inr s ↦ inl (l, s) ]
        ]

    -- what the others had of a window, but v
    abbrev other_test : ℕ → ℕ → ℕ → Bool
    other_test c u x = not (u == v) && urgent serves (cap c u) u x

    -- one that is not on has no slot
    off : (c w x : ℕ) → on w ≡ false → x < n → other_test c w x ≡ false
    off c w x b l = elim (cases_Bool (other_test c w x)) [
      | inr z ↦ z
      | inl z ↦
          absurd (both_ways _ b (serves.is_on x w l (urgent_is serves
          (cap c w) w x (and_parts (not (w == v)) (urgent serves (cap c w) w x) z).1).holder))
    ]

    -- a window that is full asks for more than there is where one has not all of a period at its
    -- end
    too_full : (c a u i : ℕ) → r < a → a ≤ c → c ≤ d → IsOther v u → c ≡ begins (period u) (start u) (suc i)
        → c ≤ d - later v u → a ≤ begins (period u) (start u) i
        → got serves u (begins (period u) (start u) i) c < budget u
        → ((x : ℕ) → a ≤ x → x < c → SomeOther c x) → ((x : ℕ) → suc x ≡ a → SomeOther c x → ⊥) → ⊥
    too_full c a u i ra al cd ou is_end due lo short each none =
        let quiet : (w : ℕ) → IsOther v w → Quiet serves true (cap c w) a w
        = λ w ow x e q s h. elim (cases_lt (had period start run w x) (budget w)) [
          | inr k ↦ k
          | inl k ↦ absurd (none x e (makes_other c x w (omega arith) (omega arith) ow k h))
        ] in
        let bound : (w : ℕ) → w < m
        → count_between (other_test c w) a c ≤ cond (on w) (steady_demand (period w) (budget w) (c - a)) 0
        = λ w wm. elim (cases_eq w v) [
          | inl same ↦
              omega (
                arith,
                between_zero (other_test c w) a c
                    (λ x xl xh. ap (λ (b : Bool). not b && urgent serves (cap c w) w x) (eq-eqb w v same)),
              )
          | inr wne ↦ elim (cases_Bool (on w)) [
            | inl b ↦
                let ow : IsOther v w = record { below = wm; other = wne; is_on = b } in
                omega (
                  arith,
                  between_le (other_test c w) (urgent serves (cap c w) w) a c
                      (λ x xl xh e. (and_parts (not (w == v)) (urgent serves (cap c w) w x) e).1),
                  asks_to true (cap c w) a c w (omega arith) (omega arith) al b (quiet w ow),
                  cond-true {A = ℕ} (on w) (steady_demand (period w) (budget w) (c - a)) 0 b,
                )
            | inr b ↦ omega (arith, between_zero (other_test c w) a c (λ x xl xh. off c w x b (omega arith)))
          ]
        ] in
        let cap_is : cap c u ≡ c = omega (arith, due) in
        let less : count_between (other_test c u) a c + 1
        ≤ cond (on u) (steady_demand (period u) (budget u) (c - a)) 0
        =
        omega (
          arith,
          between_le (other_test c u) (urgent serves (cap c u) u) a c
              (λ x xl xh e. (and_parts (not (u == v)) (urgent serves (cap c u) u x) e).1),
          ap (λ (z : ℕ). urgent_of serves z u a c) cap_is,
          lacks serves true c a u i ou.is_on is_end lo short
              (head serves true c a u (omega arith) ou.is_on
              (subst (λ (z : ℕ). Quiet serves true z a u) cap_is
              (quiet u ou))),
          cond-true {A = ℕ} (on u) (steady_demand (period u) (budget u) (c - a)) 0 ou.is_on,
        )
        in
        let all : c ≤ a + sum_below (λ w. count_between (other_test c w) a c) m
        = all_counted (other_test c) m a c al (λ x xl xh.
        let s : SomeOther c x = each x xl xh in (
          s.vcpu,
          serves.of_core x s.vcpu (omega arith) s.urgent_there.holder,
          and_from (not (s.vcpu == v)) (urgent serves (cap c s.vcpu) s.vcpu x) (not_same s.vcpu s.other)
              (urgent_from serves (cap c s.vcpu) s.vcpu x s.urgent_there),
        ))
        in
        omega (
          arith,
          all,
          sum_below-lt (λ w. count_between (other_test c w) a c)
              (λ w. cond (on w) (steady_demand (period w) (budget w) (c - a)) 0) u m 1 bound ou.below less,
          fits (c - a)
              (some_slots lo is_end (some_period serves u ou.is_on)),
        )
      where
        not_same : (w : ℕ) → w ≢ v → not (w == v) ≡ true
        not_same w wne = elim (cases_Bool (w == v)) [ inl b ↦ absurd (wne (eqb-true w v b)) | inr b ↦ ap not b ]

        some_slots : a ≤ begins (period u) (start u) i → c ≡ begins (period u) (start u) (suc i) → 1 ≤ period u
            → 1 ≤ c - a
        some_slots h k p = omega arith

    -- where another has not all of a period at its end, all slots up to there are full
    unfinished_full : (c u i : ℕ) → c ≤ d → IsOther v u → c ≡ begins (period u) (start u) (suc i) → c ≤ d - later v u
        → got serves u (begins (period u) (start u) i) c < budget u → Full c
    unfinished_full c u i cd ou is_end due short x l h =
        let b : ℕ = begins (period u) (start u) i in
        let here : (y : ℕ) → b ≤ y → r ≤ y → y < c → SomeOther c y = λ y yb yr yc.
        makes_other c y u yr (omega arith) ou
        (omega (
          arith,
          had_at serves u i y yb (omega arith),
          short,
          between_split (λ z. holds (held run z) u) b y c yb (omega arith),
        ))
        (omega (arith, ends_at serves u i y yb (omega arith), due))
        in
        let w : (a : ℕ) × (a ≤ b) × ((y : ℕ) → a ≤ y → y < b → SomeOther c y)
        × ((y : ℕ) → suc y ≡ a → SomeOther c y → ⊥)
        = back_to (SomeOther c) (some_other c) b in
        elim (cases_lt x b) [
          | inr q ↦ here x q l h
          | inl q ↦ elim (cases_lt x w.0) [
            | inr k ↦ w.2 x k q
            | inl k ↦ absurd (too_full c w.0 u i (omega arith) (omega (arith, w.1)) cd ou is_end due w.1 short
                (λ y yl yh. elim (cases_lt y b) [ inl z ↦ w.2 y yl z | inr z ↦ here y z (omega arith) yh ]) w.3)
          ]
        ]

    -- what another has behind the last moment up to which all is full
    module _ (c : ℕ) (from : r ≤ c) (to : c ≤ d) (full : Full c) (none : (y : ℕ) → c < y → y ≤ d → Full y → ⊥) where
      finished : (u i : ℕ) → IsOther v u → c < begins (period u) (start u) (suc i)
          → begins (period u) (start u) (suc i) ≤ d - later v u
          → budget u ≤ got serves u (begins (period u) (start u) i) (begins (period u) (start u) (suc i))
      finished u i ou l h =
          let has : ℕ = got serves u (begins (period u) (start u) i) (begins (period u) (start u) (suc i)) in
          elim (cases_lt has (budget u)) [
            | inr q ↦ q
            | inl q ↦
                absurd (none (begins (period u) (start u) (suc i)) l (omega arith)
                (unfinished_full (begins (period u) (start u) (suc i)) u i (omega arith) ou refl h q))
          ]

      all_finished : (u i q : ℕ) → IsOther v u → c ≤ begins (period u) (start u) i
          → begins (period u) (start u) (i + q) ≤ d - later v u
          → q * budget u ≤ got serves u (begins (period u) (start u) i) (begins (period u) (start u) (i + q))
      all_finished u i zero ou l h = omega arith
      all_finished u i (suc q) ou l h =
          let p : 1 ≤ period u = some_period serves u ou.is_on in
          let e : begins (period u) (start u) (suc (i + q)) ≡ begins (period u) (start u) (i + suc q) = omega arith in
          omega (
            arith,
            all_finished u i q ou l (omega arith),
            finished u (i + q) ou (omega arith) (omega arith),
            ap (λ (z : ℕ). got serves u (begins (period u) (start u) (i + q)) z) e,
            between_split (λ z. holds (held run z) u) (begins (period u) (start u) i)
                (begins (period u) (start u) (i + q)) (begins (period u) (start u) (i + suc q)) (omega arith)
                (omega arith),
          )

      -- in a period that is under way at c, another has had nothing
      untouched : (u i : ℕ) → IsOther v u → begins (period u) (start u) i ≤ c → c < begins (period u) (start u) (suc i)
          → got serves u (begins (period u) (start u) i) c ≡ 0
      untouched u i ou l h =
          let b : ℕ = begins (period u) (start u) i in
          let behind : (a : ℕ) → r ≤ a → b ≤ a → got serves u a c ≡ 0
          = λ a ra ba. between_zero (λ z. holds (held run z) u) a c
          (λ x xl xh. elim (cases_Bool (holds (held run x) u)) [
            | inr z ↦ z
            | inl z ↦
                let s : SomeOther c x = full x (omega arith) xh in
                let same : s.vcpu ≡ u = same_Some s.vcpu u (sym s.urgent_there.holder ∙ holds-is (held run x) u z) in
                absurd (omega (
                  arith,
                  subst (λ (y : ℕ). ends period start y x ≤ cap c y) same s.urgent_there.in_time,
                  ends_at serves u i x (omega arith) (omega arith),
                ))
          ]) in
          elim (cases_lt b r) [
            | inr q ↦ behind b q (omega arith)
            | inl q ↦
                omega (
                  arith,
                  behind r (omega arith) (omega arith),
                  between_split (λ z. holds (held run z) u) b r c (omega arith) from,
                  (wakes u ou).has_all,
                  had_at serves u i r (omega arith) (omega arith),
                )
          ]

      has_asked : (u : ℕ) → IsOther v u → deferrable_demand (period u) (budget u) (d - c - later v u) ≤ got serves u c d
      has_asked u ou =
          let w : WakesAt r d (d - later v u) u = wakes u ou in
          let P : ℕ = period u in
          let B : ℕ = budget u in
          let p : 1 ≤ P = some_period serves u w.is_on in
          elim (cases_lt c (d - later v u)) [
            | inr z ↦
                let nothing : d - c - later v u ≡ 0 = omega arith in
                let none : deferrable_demand P B 0 ≡ 0
                = omega (arith, ap (λ (y : ℕ). y * B) (quotient_is 0 P 0 0 p (omega arith))) in
                omega (arith, ap (deferrable_demand P B) nothing)
            | inl z ↦
                let t : ℕ = d - c - later v u in
                let q : ℕ = t / P in
                let a : ℕ = t % P in
                let parts : t ≡ q * P + a = omega arith in
                let small : a < P = omega arith in
                let in_steps : q ≤ w.number
                = elim (cases_lt w.number q)
                [ inr y ↦ y | inl y ↦ absurd (omega (arith, mul-le-mul_right P y, w.in_step, w.by_then)) ] in
                let i : ℕ = w.number - q in
                let steps : w.number * P ≡ i * P + q * P
                = ap (λ (y : ℕ). y * P) (let e : w.number ≡ i + q = omega arith in e)
                ∙ (let e : (i + q) * P ≡ i * P + q * P = omega arith in e) in
                let at : begins P (start u) i ≡ c + a = omega (arith, w.in_step) in
                let last : begins P (start u) (i + q) ≡ d - later v u = omega (arith, w.in_step) in
                let whole : q * B ≤ got serves u (begins P (start u) i) (begins P (start u) (i + q))
                = all_finished u i q ou (omega arith) (omega arith) in
                let carried : min B a ≤ got serves u c (begins P (start u) i)
                = carry_in u ou i a small at (omega (arith, last)) in
                omega (
                  arith,
                  whole,
                  carried,
                  between_split (λ y. holds (held run y) u) c (begins P (start u) i) d (omega arith)
                      (omega arith),
                  between_split (λ y. holds (held run y) u) (begins P (start u) i) (begins P (start u) (i + q)) d
                      (omega arith) (omega arith),
                )
          ]
        where
          carry_in : (u : ℕ) → IsOther v u → (i a : ℕ) → a < period u → begins (period u) (start u) i ≡ c + a
              → begins (period u) (start u) i ≤ d - later v u
              → min (budget u) a ≤ got serves u c (begins (period u) (start u) i)
          carry_in u ou zero a l at h = omega (arith, (wakes u ou).by_then)
          carry_in u ou (suc i) a l at h = elim (cases_eq a 0) [
            | inl z ↦ omega arith
            | inr z ↦
                omega (
                  arith,
                  finished u i ou (omega arith) h,
                  untouched u i ou (omega arith) (omega arith),
                  between_split (λ y. holds (held run y) u) (begins (period u) (start u) i) c
                      (begins (period u) (start u) (suc i)) (omega arith) (omega arith),
                )
          ]

      -- v has none of the slots that are full
      none_before : got serves v r c ≡ 0
      none_before = between_zero (λ z. holds (held run z) v) r c (λ x xl xh. elim (cases_Bool (holds (held run x) v)) [
        | inr z ↦ z
        | inl z ↦
            let s : SomeOther c x = full x xl xh in
            absurd (s.other (same_Some s.vcpu v (sym s.urgent_there.holder ∙ holds-is (held run x) v z)))
      ])

      -- so if v has its budget, no more is asked than there is
      enough_left : budget v ≤ got serves v r d
          → (1 ≤ d - c)
          × (sum_below (λ u. cond (on u) (last_demand later v u (period u) (budget u) (d - c)) 0) m ≤ d - c)
      enough_left h =
          let all : got serves v r d ≡ got serves v c d
          = omega (arith, none_before, between_split (λ z. holds (held run z) v) r c d from to) in
          let some : 1 ≤ budget v = serves.some_budget v o in
          let each_on : (u : ℕ) → u < m → on u ≡ true
          → last_demand later v u (period u) (budget u) (d - c) ≤ got serves u c d
          = λ u um b. elim (cases_eq u v) [
            | inr ne ↦
                omega (
                  arith,
                  has_asked u (record { below = um; other = ne; is_on = b }),
                  cond-false {A = ℕ} (u == v)
                      (max (budget u) (deferrable_demand (period u) (budget u) (d - c - later v u)))
                      (deferrable_demand (period u) (budget u) (d - c - later v u)) (differs u ne),
                )
            | inl same ↦
                subst (λ (y : ℕ). last_demand later v y (period y) (budget y) (d - c) ≤ got serves y c d) (sym same)
                (omega (arith, all, h, own_demand (period v) (budget v) (d - c) some_length (omega arith)))
          ] in
          let each : (u : ℕ) → u < m
          → cond (on u) (last_demand later v u (period u) (budget u) (d - c)) 0 ≤ got serves u c d
          = λ u um. elim (cases_Bool (on u)) [
            | inr b ↦ omega (arith, cond-false {A = ℕ} (on u) (last_demand later v u (period u) (budget u) (d - c)) 0 b)
            | inl b ↦
                omega (
                  arith,
                  cond-true {A = ℕ} (on u) (last_demand later v u (period u) (budget u) (d - c)) 0 b,
                  each_on u um b,
                )
          ] in (
            elim (cases_lt c d) [
              | inl l ↦
                  omega arith
              | inr l ↦
                  absurd (omega (arith, all, h, some, between_none (λ z. holds (held run z) v) c d l))
            ],
            omega (
              arith,
              few_counted run m c d to,
              sum_below-le (λ u. cond (on u) (last_demand later v u (period u) (budget u) (d - c)) 0)
                  (λ u. got serves u c d) m each,
            ),
          )
        where
          differs : (u : ℕ) → u ≢ v → (u == v) ≡ false
          differs u ne = elim (cases_Bool (u == v)) [ inl b ↦ absurd (ne (eqb-true u v b)) | inr b ↦ b ]

          own_demand : (P B t : ℕ) → 1 ≤ P → t ≤ P → last_demand later v v P B t ≤ B
          own_demand P B t p l =
              omega (
                arith,
                cond-true {A = ℕ} (v == v) (max B (deferrable_demand P B (t - later v v)))
                    (deferrable_demand P B (t - later v v)) (eq-eqb v v refl),
                own P B (t - later v v) p (omega arith),
              )

    -- where too much is asked, v lacks some of its budget
    pub falls_short : ((t : ℕ) → 1 ≤ t → t ≤ period v
        → t < sum_below (λ u. cond (on u) (last_demand later v u (period u) (budget u) t) 0) m)
        → got serves v r d < budget v
    falls_short too_much = elim (cases_lt (got serves v r d) (budget v)) [
      | inl h ↦ h
      | inr h ↦
          let w : LastOf Full r d = last_of Full is_full r d (omega arith) (λ x l k. absurd (omega arith)) in
          let e : (1 ≤ d - w.at)
          × (sum_below (λ u. cond (on u) (last_demand later v u (period u) (budget u) (d - w.at)) 0) m ≤ d - w.at)
          = enough_left w.at w.from w.to w.holds_there w.none_behind h in
          absurd (omega (arith, e.1, too_much (d - w.at) e.0 (omega (arith, w.from))))
    ]
