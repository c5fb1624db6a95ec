use Rattle.std.proofs.Common.{◌≡◌, ℕ, ◌+◌, ◌<◌, min, List, get_or, Option, Some, IfSome, length, set, arith, sym, subst}
use Rattle.std.specs.Prelude.{slice_index}
use Rattle.std.proofs.lemmas.List.{get_or_read}
use Rattle.guest_sched.specs.declared.spans.Span.{Span}
use Rattle.span_counts.specs.Counts.{ServedTo}
use Rattle.span_counts.proofs.Counting.{served_fits}
use Rattle.span_counts.proofs.Following.{more_run, follow_idle, follow_job}
use Rattle.span_counts.proofs.services.ServicesFollow.add.Goals as goal
use Rattle.span_counts.proofs.services.ServicesFollow.add.Goals.{After-slots_before}

-- the job of the span is one that is counted
is_counted : (c : After-slots_before) → c.in-Some.job < length c.args.self.now.dues.items
is_counted c =
    subst (λ (o : Option ℕ). IfSome o (λ j. j < length c.args.self.now.dues.items)) c.in-Some.is c.requires.is_taken

-- what is read of it
is_read : (c : After-slots_before) → (c.index-before.result.now ≡ get_or c.args.self.now.got.items c.in-Some.job 0)
    × (c.index.result.now ≡ slice_index c.args.self.now.dues.items c.in-Some.job)
is_read c = (
  get_or_read c.args.self.now.got.items c.in-Some.job c.index-before.result.now
      (omega (arith, is_counted c, c.requires.joins.2.long)) c.index-before.ensures 0,
  get_or_read c.args.self.now.dues.items c.in-Some.job c.index.result.now (is_counted c) c.index.ensures 0,
)

pub overflow_add-before : goal.overflow_add-before
overflow_add-before c =
    let old = c.args.self.now in
    let here = (goal.at.overflow_add-before c).After-slots_before in
    let joins = c.requires.joins in
    record {
      fits =
          omega (
            arith,
            served_fits (slice_index old.dues.items) (length old.dues.items) joins.0 (length joins.0) c.in-Some.job
                old.got.items joins.2 (is_counted here),
            (is_read here).0,
            (is_read here).1,
            joins.1,
            c.requires.some,
            c.slots_before.ensures.slots,
            c.slots_before.ensures.fits,
          );
    }

-- what each job got after a span of this entry
abbrev Follows : List ℕ → List (Option ℕ) → Span → Option ℕ → List ℕ → Type 0
Follows dues run span entry got =
    let more = more_run run span.from span.until entry in
    ServedTo (slice_index dues) (length dues) more (length more) got

pub returns-in-Some-clause-followed : goal.returns-in-Some-clause-followed
returns-in-Some-clause-followed c run e h =
    let here = (goal.at.returns-in-Some-clause-followed c).After-slots_before in
    let dues = c.args.self.now.dues.items in
    let got = c.args.self.now.got.items in
    let span = c.args.span in
    let job = c.in-Some.job in
    let more = c.slots_before.result in
    let gets : more + min (slice_index dues job) span.from ≡ min (slice_index dues job) span.until
    = omega (arith, (is_read here).1, c.slots_before.ensures.slots) in
    subst (λ (o : Option ℕ). Follows dues run span o (set got job (c.index-before.result.now + more)))
    (sym c.in-Some.is)
    (subst (λ (z : ℕ). Follows dues run span (Some job) (set got job (z + more))) (sym (is_read here).0)
    (follow_job (slice_index dues) (length dues) run span.from span.until job more got e c.requires.some h
    (is_counted here) gets))

pub returns-in_default-clause-followed : goal.returns-in_default-clause-followed
returns-in_default-clause-followed c run e h =
    let old = c.args.self.now in
    subst (λ (o : Option ℕ). Follows old.dues.items run c.args.span o old.got.items) (sym c.in_default.is)
    (follow_idle (slice_index old.dues.items) (length old.dues.items) run c.args.span.from c.args.span.until
    old.got.items e c.requires.some h)
