-- A trace has one tally of each VCPU, and its judged periods are those that an audit counts.
use Rattle.std.proofs.Common.{◌≡◌, ℕ, ◌<◌, List, length, Option, sym, ◌∙◌, arith}
use Rattle.std.proofs.lemmas.List.{ext_get_or}
use Rattle.slot_model.specs.Slots.{sum_below}
use Rattle.slot_model.proofs.Sums.{sum_below-same}
use Rattle.tree_model.specs.View.{SystemView}
use Rattle.tree_model.specs.System.{IsSystem}
use Rattle.trace_file.specs.declared.event.Event.{Event}
use Rattle.trace_file.specs.Events.{start_of}
use Rattle.trace_file.specs.Periods.{judged_of, judged_periods}
use Rattle.vcpu_watch.specs.declared.tally.Tally.{Tally}
use Rattle.vcpu_watch.specs.Watch.{no_tally}
use Rattle.auditor.specs.declared.counted.Counted.TheVariants.{Core}
use Rattle.auditor.specs.Tally.{IsJudged, IsTally, tally_at, AreTallies}
use Rattle.auditor.specs.inner.Counting.{IsJudgedBy}
use Rattle.auditor.proofs.OneNumber.{one_number, one_least, one_most, number_same}
use Rattle.auditor.proofs.Judging.{judged_core, judged_is}

made : ℕ → ℕ → ℕ → ℕ → Option ℕ → Option ℕ → Tally
made begun judged short over least most =
    record { begun = begun; judged = judged; short = short; over = over; least = least; most = most }

same_made : (t u : Tally) → t.begun ≡ u.begun → t.judged ≡ u.judged → t.short ≡ u.short → t.over ≡ u.over
    → t.least ≡ u.least → t.most ≡ u.most
    → made t.begun t.judged t.short t.over t.least t.most ≡ made u.begun u.judged u.short u.over u.least u.most
same_made t u a b c d e f = cc

same_tally : (t u : Tally) → t.begun ≡ u.begun → t.judged ≡ u.judged → t.short ≡ u.short → t.over ≡ u.over
    → t.least ≡ u.least → t.most ≡ u.most → t ≡ u
unfolding made
same_tally t u a b c d e f = same_made t u a b c d e f

pub one_tally : (sys : SystemView) (budgets : List ℕ) (events : List Event) (v : ℕ) (t u : Tally)
    → IsTally sys budgets events v t → IsTally sys budgets events v u → t ≡ u
one_tally sys budgets events v t u a b =
    same_tally t u (one_number _ _ _ a.begun b.begun) (one_number _ _ _ a.judged b.judged)
    (one_number _ _ _ a.short b.short) (one_number _ _ _ a.over b.over) (one_least _ _ _ a.least b.least)
    (one_most _ _ _ a.most b.most)

pub one_tallies : (sys : SystemView) (budgets : List ℕ) (events : List Event) (ts us : List Tally)
    → AreTallies sys budgets events ts → AreTallies sys budgets events us → ts ≡ us
one_tallies sys budgets events ts us a b =
    ext_get_or no_tally ts us (a.each_part ∙ sym b.each_part) (λ v l. one_tally sys budgets events v (tally_at ts v)
    (tally_at us v) (a.each v (omega (arith, l, a.each_part))) (b.each v (omega (arith, l, a.each_part))))

-- all judged periods together
judged_number : (sys : SystemView) → IsSystem sys → (budgets : List ℕ) (events : List Event) (v : ℕ) (t : Tally)
    → v < length sys.parts → IsTally sys budgets events v t → t.judged ≡ judged_of sys events v (start_of events v)
judged_number sys is budgets events v t part h =
    judged_is Core sys is events v t.judged part
    (number_same (λ k. (f : ℕ) × IsJudged sys events v f k) (λ k. (f : ℕ) × IsJudgedBy Core sys events v f k) t.judged
    (λ k own. (own.0, record { period = own.1.period; judged = own.1.judged }))
    (λ k own. (own.0, record { period = own.1.period; judged = own.1.judged })) h.judged)
    ∙ judged_core sys events v (start_of events v)

pub judged_sum : (sys : SystemView) → IsSystem sys → (budgets : List ℕ) (events : List Event) (ts : List Tally)
    → AreTallies sys budgets events ts
    → sum_below (λ v. (tally_at ts v).judged) (length sys.parts) ≡ judged_periods sys events
judged_sum sys is budgets events ts h =
    sum_below-same (λ v. (tally_at ts v).judged) (λ v. judged_of sys events v (start_of events v)) (length sys.parts)
    (λ v l. judged_number sys is budgets events v (tally_at ts v) l (h.each v l))
