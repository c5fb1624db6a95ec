-- An audit has one answer.
use Rattle.std.proofs.Common.{◌≡◌, ◌≢◌, ℕ, suc, ◌<◌, ◌≤◌, min, Bool, List, sym, ◌∙◌, ap, subst, arith, inl, inr}
use Rattle.std.proofs.lemmas.Bool.{cases_lt}
use Rattle.std.proofs.lemmas.Option.{same_Some}
use Rattle.tree_model.specs.View.{SystemView}
use Rattle.trace_file.specs.declared.event.Event.{Event}
use Rattle.trace_file.specs.Events.{end_of}
use Rattle.trace_file.specs.Periods.{period_of, budget_of, count_between, begins, time_got, got_in, running, HasPeriod, IsBroken}
use Rattle.auditor.specs.declared.finding.Finding.{Finding}
use Rattle.auditor.specs.declared.finding.Finding.TheVariants.{Yes, Short, Over}
use Rattle.auditor.specs.Finding.{FoundAt, IsFinding}

-- periods that begin at one moment are one period
same_time : (runs : ℕ → Bool) (period f end k j : ℕ) → begins period f k ≡ begins period f j
    → time_got runs period f end k ≡ time_got runs period f end j
same_time runs period f end k j e =
    let next : begins period f (suc k) ≡ begins period f (suc j) = omega (arith, e) in
    ap (λ (z : ℕ). count_between runs z (min (begins period f (suc k)) end)) e
    ∙ ap (λ (z : ℕ). count_between runs (begins period f j) (min z end)) next

pub same_counted : (runs : ℕ → Bool) (sys : SystemView) (events : List Event) (v f k g j : ℕ)
    → HasPeriod sys events v f k → HasPeriod sys events v g j
    → begins (period_of sys v) f k ≡ begins (period_of sys v) g j
    → time_got runs (period_of sys v) f (end_of events) k ≡ time_got runs (period_of sys v) g (end_of events) j
same_counted runs sys events v f k g j a b e =
    let same : f ≡ g = same_Some f g (sym a.started ∙ b.started) in
    let at : begins (period_of sys v) g k ≡ begins (period_of sys v) g j
    = ap (λ (z : ℕ). begins (period_of sys v) z k) (sym same) ∙ e in
    ap (λ (z : ℕ). time_got runs (period_of sys v) z (end_of events) k) same
    ∙ same_time runs (period_of sys v) g (end_of events) k j at

-- of two periods that both come first one is the other
pub one_first : (Is : ℕ → ℕ → ℕ → Type 0) (begin : ℕ → ℕ → ℕ → ℕ) (v f k w g j : ℕ) → Is v f k → Is w g j
    → ((u h i : ℕ) → Is u h i → begin v f k ≤ begin u h i) → ((u h i : ℕ) → Is u h i → begin w g j ≤ begin u h i)
    → ((u h i : ℕ) → u < v → Is u h i → begin u h i ≢ begin v f k)
    → ((u h i : ℕ) → u < w → Is u h i → begin u h i ≢ begin w g j) → (begin v f k ≡ begin w g j) × (v ≡ w)
one_first Is begin v f k w g j a b a_least b_least a_first b_first =
    let moments : begin v f k ≡ begin w g j = omega (arith, a_least w g j b, b_least v f k a) in (
      moments,
      elim (cases_lt v w) [
        | inl before ↦ absurd (b_first v f k before a moments)
        | inr not_before ↦ elim (cases_lt w v) [
          | inl behind ↦ absurd (a_first w g j behind b (sym moments))
          | inr not_behind ↦ omega (arith, not_before, not_behind)
        ]
      ],
    )

record Same (sys : SystemView) (events : List Event) (v w from at got time f k g j : ℕ) : Type 0 where
  vcpu : v ≡ w
  moment : from ≡ at
  time_is : got ≡ time
  in_both : got_in sys events v f k ≡ got_in sys events w g j

same_first : (sys : SystemView) (budgets : List ℕ) (events : List Event) (v w from at got time f k g j : ℕ)
    → FoundAt sys budgets events v from got f k → FoundAt sys budgets events w at time g j → HasPeriod sys events v f k
    → HasPeriod sys events w g j → Same sys events v w from at got time f k g j
same_first sys budgets events v w from at got time f k g j a b has other =
    let (moments, same)
    = one_first (IsBroken sys budgets events) (λ u h i. begins (period_of sys u) h i) v f k w g j a.first.is_broken
    b.first.is_broken a.first.least b.first.least a.first.first b.first.first in
    let both : got_in sys events v f k ≡ got_in sys events w g j =
    subst (λ (z : ℕ). HasPeriod sys events z g j → begins (period_of sys v) f k ≡ begins (period_of sys z) g j
    → got_in sys events v f k ≡ got_in sys events z g j) same (λ h e. same_counted
    (running sys events v) sys events v f k g j has h e)
    other moments in
    record {
      vcpu = same;
      moment = a.begins_at ∙ (moments ∙ sym b.begins_at);
      time_is = a.time ∙ (both ∙ sym b.time);
      in_both = both;
    }

pub one_finding : (sys : SystemView) (budgets : List ℕ) (events : List Event) (a b : Finding)
    → IsFinding sys budgets events a → IsFinding sys budgets events b → a ≡ b
one_finding sys budgets events (Yes n) (Yes m) a b =
    ap (λ (z : ℕ). let found : Finding = Yes z in found) (a.1 ∙ sym b.1)
one_finding sys budgets events (Yes n) (Short w at time) a b = absurd (a.0 w b.start b.period (inl b.short))
one_finding sys budgets events (Yes n) (Over w at time) a b = absurd (a.0 w b.start b.period (inr b.over))
one_finding sys budgets events (Short v from got) (Yes m) a b = absurd (b.0 v a.start a.period (inl a.short))
one_finding sys budgets events (Over v from got) (Yes m) a b = absurd (b.0 v a.start a.period (inr a.over))
one_finding sys budgets events (Short v from got) (Short w at time) a b =
    let same
    = same_first sys budgets events v w from at got time a.start a.period b.start b.period a.found b.found
    a.short.period b.short.period in
    ap (λ (z : ℕ). let found : Finding = Short z from got in found) same.vcpu
    ∙ (ap (λ (z : ℕ). let found : Finding = Short w z got in found) same.moment
    ∙ ap (λ (z : ℕ). let found : Finding = Short w at z in found) same.time_is)
one_finding sys budgets events (Over v from got) (Over w at time) a b =
    let same
    = same_first sys budgets events v w from at got time a.start a.period b.start b.period a.found b.found
    a.over.period b.over.period in
    ap (λ (z : ℕ). let found : Finding = Over z from got in found) same.vcpu
    ∙ (ap (λ (z : ℕ). let found : Finding = Over w z got in found) same.moment
    ∙ ap (λ (z : ℕ). let found : Finding = Over w at z in found) same.time_is)
one_finding sys budgets events (Short v from got) (Over w at time) a b =
    let same
    = same_first sys budgets events v w from at got time a.start a.period b.start b.period a.found b.found
    a.short.period b.over.period in
    absurd (omega (arith, a.short.short, b.over.over, same.in_both, ap (budget_of budgets) same.vcpu))
one_finding sys budgets events (Over v from got) (Short w at time) a b =
    let same
    = same_first sys budgets events v w from at got time a.start a.period b.start b.period a.found b.found
    a.over.period b.short.period in
    absurd (omega (arith, a.over.over, b.short.short, same.in_both, ap (budget_of budgets) same.vcpu))
