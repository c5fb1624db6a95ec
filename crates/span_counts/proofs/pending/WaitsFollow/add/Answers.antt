use Rattle.std.proofs.Common.{ℕ, ◌<◌, List, Option, IfSome, length, set, arith, sym, subst}
use Rattle.std.proofs.lemmas.List.{get_or_read}
use Rattle.guest_sched.specs.declared.spans.Span.{Span}
use Rattle.span_counts.specs.declared.pending.Wait.{Wait}
use Rattle.span_counts.specs.declared.pending.Waits.{Waits}
use Rattle.span_counts.specs.inner.Waits.{AreWaitsTo, wait_at}
use Rattle.span_counts.proofs.Waiting.{IsServed}
use Rattle.span_counts.proofs.Following.{more_run, waits_idle, waits_job}
use Rattle.span_counts.proofs.pending.WaitsFollow.add.Goals as goal

-- what each job lacks after a span of this entry
abbrev Follows : Waits → List (Option ℕ) → Span → Option ℕ → List Wait → Type 0
Follows old run span entry waits =
    let more = more_run run span.from span.until entry in AreWaitsTo old.jobs.now more old.slots (length more) waits

pub returns-in-Some-clause-followed : goal.returns-in-Some-clause-followed
returns-in-Some-clause-followed c run e h =
    let old = c.args.self.now in
    let waits = old.waits.items in
    let span = c.args.span in
    let job = c.in-Some.job in
    let taken : job < length old.jobs.now
    = subst (λ (o : Option ℕ). IfSome o (λ j. j < length old.jobs.now)) c.in-Some.is c.requires.is_taken in
    let had
    = get_or_read waits job c.index-wait.result.now (omega (arith, taken, h.long)) c.index-wait.ensures
    (record { left = 0; end = 0 }) in
    let served : IsServed (wait_at waits job) c.served.result span.from span.until
    = subst (λ (b : Wait). IsServed b c.served.result span.from span.until) had (record {
      left = c.served.ensures.left;
      ends = c.served.ensures.ends;
      waits = c.served.ensures.waits;
      over = c.served.ensures.over;
    }) in
    subst (λ (o : Option ℕ). Follows old run span o (set waits job c.served.result)) (sym c.in-Some.is)
    (waits_job old.jobs.now run span.from span.until old.slots job waits c.served.result e c.requires.some h taken
    served)

pub returns-in_default-clause-followed : goal.returns-in_default-clause-followed
returns-in_default-clause-followed c run e h =
    let self = c.args.self.now in
    subst (λ (o : Option ℕ). Follows self run c.args.span o self.waits.items) (sym c.in_default.is)
    (waits_idle self.jobs.now run c.args.span.from c.args.span.until self.slots self.waits.items e c.requires.some h)
