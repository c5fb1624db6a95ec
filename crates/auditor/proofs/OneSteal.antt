-- A trace has one finding of stolen time and one tally of it of each VCPU. Where no period is
-- denied, the kept ones are all that end by the end of the trace.
use Rattle.std.proofs.Common.{◌≡◌, ℕ, ◌+◌, ◌<◌, List, length, Option, sym, ◌∙◌, ap, subst, arith, inl, inr}
use Rattle.std.proofs.lemmas.Bool.{cases_lt}
use Rattle.std.proofs.lemmas.List.{ext_get_or}
use Rattle.slot_model.specs.Slots.{sum_below}
use Rattle.slot_model.proofs.Sums.{sum_below-same}
use Rattle.tree_model.specs.View.{SystemView}
use Rattle.tree_model.specs.System.{IsSystem}
use Rattle.trace_file.specs.declared.event.Event.{Event}
use Rattle.trace_file.specs.Events.{start_of}
use Rattle.halting.specs.Stolen.{is_stolen}
use Rattle.trace_file.specs.Periods.{running, blocked, period_of, budget_of, begins, HasPeriod}
use Rattle.auditor.specs.declared.counted.Counted.TheVariants.{Stolen}
use Rattle.auditor.specs.declared.steal.StealFinding.{StealFinding}
use Rattle.auditor.specs.declared.steal.StealFinding.TheVariants.{Yes, Denied}
use Rattle.auditor.specs.declared.steal.StealTally.{StealTally}
use Rattle.auditor.specs.Steal.{stolen_of, IsDenied, IsKept, NoneDenied, ended_of, ended_periods, FoundDenied, IsStealFinding, IsStealTally, no_steal_tally, steal_tally_at, AreStealTallies}
use Rattle.auditor.specs.inner.Counting.{IsJudgedBy}
use Rattle.auditor.proofs.Judging.{judged_is, judged_stolen}
use Rattle.auditor.proofs.OneFinding.{one_first, same_counted}
use Rattle.auditor.proofs.OneNumber.{one_number, one_most, number_same}
use Rattle.auditor.proofs.Reading.{judged_ends, kept_judged}

same_denied : (sys : SystemView) (budgets : List ℕ) (events : List Event) (v w from at stolen time : ℕ)
    → FoundDenied sys budgets events v from stolen → FoundDenied sys budgets events w at time
    → (v ≡ w) × (from ≡ at) × (stolen ≡ time)
same_denied sys budgets events v w from at stolen time a b =
    let f = a.start in
    let k = a.period in
    let g = b.start in
    let j = b.period in
    let (moments, same)
    = one_first (IsDenied sys budgets events) (λ u h i. begins (period_of sys u) h i) v f k w g j a.first.denied
    b.first.denied a.first.least b.first.least a.first.first b.first.first in
    let both : stolen_of sys events v f k ≡ stolen_of sys events w g j =
    subst (λ (z : ℕ). HasPeriod sys events z g j → begins (period_of sys v) f k ≡ begins (period_of sys z) g j
    → stolen_of sys events v f k ≡ stolen_of sys events z g j) same
    (λ h e. same_counted (is_stolen (blocked events v) (running sys events v)) sys events v f k g j
    a.first.denied.period h e)
    b.first.denied.period moments in
    (same, a.begins_at ∙ (moments ∙ sym b.begins_at), a.time ∙ (both ∙ sym b.time))

pub one_steal_finding : (sys : SystemView) (budgets : List ℕ) (events : List Event) (a b : StealFinding)
    → IsStealFinding sys budgets events a → IsStealFinding sys budgets events b → a ≡ b
one_steal_finding sys budgets events (Yes n) (Yes m) a b =
    ap (λ (z : ℕ). let found : StealFinding = Yes z in found) (a.1 ∙ sym b.1)
one_steal_finding sys budgets events (Yes n) (Denied w at time) a b =
    absurd (a.0 w b.start b.period b.first.denied)
one_steal_finding sys budgets events (Denied v from stolen) (Yes m) a b =
    absurd (b.0 v a.start a.period a.first.denied)
one_steal_finding sys budgets events (Denied v from stolen) (Denied w at time) a b =
    let same = same_denied sys budgets events v w from at stolen time a b in
    ap (λ (z : ℕ). let found : StealFinding = Denied z from stolen in found) same.0
    ∙ (ap (λ (z : ℕ). let found : StealFinding = Denied w z stolen in found) same.1
    ∙ ap (λ (z : ℕ). let found : StealFinding = Denied w at z in found) same.2)

made : ℕ → ℕ → ℕ → Option ℕ → StealTally
made begun kept denied most = record { begun = begun; kept = kept; denied = denied; most = most }

same_made : (t u : StealTally) → t.begun ≡ u.begun → t.kept ≡ u.kept → t.denied ≡ u.denied → t.most ≡ u.most
    → made t.begun t.kept t.denied t.most ≡ made u.begun u.kept u.denied u.most
same_made t u a b c d = cc

same_steal_tally : (t u : StealTally) → t.begun ≡ u.begun → t.kept ≡ u.kept → t.denied ≡ u.denied → t.most ≡ u.most
    → t ≡ u
unfolding made
same_steal_tally t u a b c d = same_made t u a b c d

pub one_steal_tally : (sys : SystemView) (budgets : List ℕ) (events : List Event) (v : ℕ) (t u : StealTally)
    → IsStealTally sys budgets events v t → IsStealTally sys budgets events v u → t ≡ u
one_steal_tally sys budgets events v t u a b =
    same_steal_tally t u (one_number _ _ _ a.begun b.begun) (one_number _ _ _ a.kept b.kept)
    (one_number _ _ _ a.denied b.denied) (one_most _ _ _ a.most b.most)

pub one_steal_tallies : (sys : SystemView) (budgets : List ℕ) (events : List Event) (ts us : List StealTally)
    → AreStealTallies sys budgets events ts → AreStealTallies sys budgets events us → ts ≡ us
one_steal_tallies sys budgets events ts us a b =
    ext_get_or no_steal_tally ts us (a.each_part ∙ sym b.each_part)
    (λ v l. one_steal_tally sys budgets events v (steal_tally_at ts v) (steal_tally_at us v)
    (a.each v (omega (arith, l, a.each_part))) (b.each v (omega (arith, l, a.each_part))))

-- where none is denied
kept_is : (sys : SystemView) → IsSystem sys → (budgets : List ℕ) (events : List Event) → NoneDenied sys budgets events
    → (v : ℕ) (t : StealTally) → v < length sys.parts → IsStealTally sys budgets events v t
    → t.kept ≡ ended_of sys events v (start_of events v)
kept_is sys is budgets events none v t part h =
    judged_is Stolen sys is events v t.kept part
    (number_same (λ k. (f : ℕ) × IsKept sys budgets events v f k) (λ k. (f : ℕ) × IsJudgedBy Stolen sys events v f k)
    t.kept (λ k own. (own.0, kept_judged sys budgets events v own.0 k own.1))
    (λ k own. (own.0, kept own.0 k own.1)) h.kept)
    ∙ judged_stolen sys events v (start_of events v)
  where
    kept : (f k : ℕ) → IsJudgedBy Stolen sys events v f k → IsKept sys budgets events v f k
    kept f k own = record {
      period = own.period;
      ended = judged_ends sys events v f k own;
      kept =
          elim (cases_lt (period_of sys v) (stolen_of sys events v f k + budget_of budgets v)) [
            | inl more ↦ absurd (none v f k (record { period = own.period; denied = more }))
            | inr no_more ↦ no_more
          ];
    }

pub kept_sum : (sys : SystemView) → IsSystem sys → (budgets : List ℕ) (events : List Event)
    → NoneDenied sys budgets events → (ts : List StealTally) → AreStealTallies sys budgets events ts
    → sum_below (λ v. (steal_tally_at ts v).kept) (length sys.parts) ≡ ended_periods sys events
kept_sum sys is budgets events none ts h =
    sum_below-same (λ v. (steal_tally_at ts v).kept) (λ v. ended_of sys events v (start_of events v)) (length sys.parts)
    (λ v l. kept_is sys is budgets events none v (steal_tally_at ts v) l (h.each v l))
