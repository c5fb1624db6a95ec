-- What is found of the VCPUs so far.
use Rattle.std.proofs.Common.{◌≡◌, ◌∙◌, ℕ, ◌+◌, ◌*◌, ◌<◌, ◌≤◌, List, length, Option, Some, None, ap, sym, arith, add-one}
use Rattle.tree_model.specs.View.{SystemView}
use Rattle.tree_model.specs.System.{IsSystem}
use Rattle.slot_model.specs.Slots.{sum_below}
use Rattle.slot_model.proofs.Sums.{sum_below-zero, sum_below-suc}
use Rattle.trace_file.specs.declared.event.Event.{Event}
use Rattle.trace_file.specs.declared.event.TheConstants.{LAST_MOMENT}
use Rattle.trace_file.specs.declared.rows.Rows.{Rows}
use Rattle.trace_file.specs.Events.{start_of}
use Rattle.tree_model.specs.Plans.{IsPlan}
use Rattle.slot_model.proofs.Sums.{sum_below-same}
use Rattle.trace_file.specs.Periods.{judged_of, judged_periods}
use Rattle.vcpu_watch.specs.declared.watch.Breach.TheVariants.{Over}
use Rattle.auditor.specs.declared.counted.Counted.{Counted}
use Rattle.auditor.specs.declared.counted.Counted.TheVariants.{Core, Stolen}
use Rattle.auditor.specs.declared.first.Found.{Found}
use Rattle.auditor.specs.declared.so_far.SoFar.{SoFar}
use Rattle.auditor.specs.declared.watches.Settled.{Settled}
use Rattle.auditor.specs.declared.watches.Watches.{Watches}
use Rattle.auditor.specs.Finding.{IsFinding}
use Rattle.auditor.specs.inner.First.{IsFirstOfAll, IsFirstOfVcpu, IsSettled, denied_of, told_of}
use Rattle.auditor.specs.Steal.{IsStealFinding, ended_of, ended_periods}
use Rattle.auditor.specs.inner.Watches.{AreAtEnd}
use Rattle.auditor.proofs.Firsts.{first_denied, first_told}
use Rattle.auditor.proofs.Judging.{judged_by, judged_core, judged_is, judged_stolen}
use Rattle.auditor.proofs.Reading.{broken_so, denied_breaks, has_period}

abbrev judged : Counted → SystemView → List Event → ℕ → ℕ
judged counted sys events w = judged_by counted sys events w (start_of events w)

-- of a whole trace
pub record IsSoFar (counted : Counted) (sys : SystemView) (rows : Rows) (watches : Watches) (v : ℕ)
    (s : SoFar) : Type 0 where
  pub few : s.periods ≤ v * LAST_MOMENT
  pub found : (budgets : List ℕ) (events : List Event) → AreAtEnd counted sys budgets events rows watches
      → (s.periods ≡ sum_below (judged counted sys events) v) × IsFirstOfAll counted sys budgets events v s.first

module _ (counted : Counted) (sys : SystemView) (rows : Rows) (watches : Watches) where
  pub none_so_far : IsSoFar counted sys rows watches 0 (record { periods = 0; first = None })
  none_so_far = record {
    few = omega arith;
    found =
        λ budgets events end. (
          sym (sum_below-zero (judged counted sys events)),
          λ w f k b l broken. absurd (omega arith),
        );
  }

  pub one_so_far : (v : ℕ) (was now : SoFar) (settled : Settled) → IsSystem sys → v < length sys.parts
      → IsSoFar counted sys rows watches v was → settled.tally.judged ≤ LAST_MOMENT
      → ((budgets : List ℕ) (events : List Event) → AreAtEnd counted sys budgets events rows watches
      → IsSettled counted sys budgets events v settled.tally settled.ended_over settled.broken)
      → now.periods ≡ was.periods + settled.tally.judged
      → ((counted : Counted) (sys : SystemView) (budgets : List ℕ) (events : List Event)
      → IsFirstOfAll counted sys budgets events v was.first → IsFirstOfVcpu counted sys budgets events v settled.broken
      → IsFirstOfAll counted sys budgets events (v + 1) now.first)
      → IsSoFar counted sys rows watches (v + 1) now
  one_so_far v was now settled is part before few says periods first = record {
    few = omega (arith, before.few, few, periods);
    found =
        λ budgets events end.
        let found = before.found budgets events end in
        let own = says budgets events end in (
          omega (
            arith,
            periods,
            found.0,
            judged_is counted sys is events v settled.tally.judged part own.tallied.judged,
            sum_below-suc (judged counted sys events) v,
            ap (sum_below (judged counted sys events)) (add-one v),
          ),
          first counted sys budgets events found.1 own.broken,
        );
  }

-- all of them, as an audit tells it
module _ (sys : SystemView) (rows : Rows) (watches : Watches) (v : ℕ) (s : SoFar) (all : v ≡ length sys.parts) where
  pub found_all : IsSoFar Core sys rows watches v s → (budgets : List ℕ) (events : List Event)
      → AreAtEnd Core sys budgets events rows watches → IsFinding sys budgets events (told_of s.periods s.first)
  found_all so_far budgets events end = go s.first (so_far.found budgets events end).1
    where
      periods : s.periods ≡ judged_periods sys events
      periods =
          (so_far.found budgets events end).0
          ∙ (sum_below-same (judged Core sys events) (λ w. judged_of sys events w (start_of events w)) v
          (λ w l. judged_core sys events w (start_of events w))
          ∙ ap (sum_below (λ w. judged_of sys events w (start_of events w))) all)

      go : (o : Option Found) → IsFirstOfAll Core sys budgets events v o
          → IsFinding sys budgets events (told_of s.periods o)
      go None none = (
        λ w f k broken. let so = broken_so sys budgets events w f k broken in none w f k so.0
            (omega (arith, all, (has_period sys budgets events w f k broken).is_part)) so.1,
        periods,
      )
      go (Some found) first =
          first_told sys budgets events v found.vcpu found.broken.from found.broken.got found.broken.breach
          (omega (arith, all)) first

  -- and as it is told of stolen time
  pub denied_all : IsSoFar Stolen sys rows watches v s → (budgets : List ℕ) (events : List Event) → IsPlan sys budgets
      → AreAtEnd Stolen sys budgets events rows watches
      → IsStealFinding sys budgets events (denied_of s.periods s.first)
  denied_all so_far budgets events plan end = go s.first (so_far.found budgets events end).1
    where
      periods : s.periods ≡ ended_periods sys events
      periods =
          (so_far.found budgets events end).0
          ∙ (sum_below-same (judged Stolen sys events) (λ w. ended_of sys events w (start_of events w)) v
          (λ w l. judged_stolen sys events w (start_of events w))
          ∙ ap (sum_below (λ w. ended_of sys events w (start_of events w))) all)

      go : (o : Option Found) → IsFirstOfAll Stolen sys budgets events v o
          → IsStealFinding sys budgets events (denied_of s.periods o)
      go None none = (
        λ w f k denied. none w f k Over (omega (arith, all, denied.period.is_part))
            (denied_breaks sys budgets events w f k
            plan denied),
        periods,
      )
      go (Some found) first = first_denied sys budgets events v found plan (omega (arith, all)) first
