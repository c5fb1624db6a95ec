use Rattle.std.proofs.Common.{◌≡◌, ◌+◌, ◌++◌, ◌-◌, List, Option, ℕ, replicate, take, get_or, None, sym, ◌∙◌, ap, arith, subst}
use Rattle.std.proofs.lemmas.List.{take_more, take_all}
use Rattle.guest_sched.specs.Spans.{AreSpans, run_of}
use Rattle.guest_sched.proofs.SpanByOne.{no_spans}
use Rattle.guest_sched.proofs.schedule.spans_of.Goals as goal

pub loop-x-init : goal.loop-x-init
loop-x-init c =
    record {
      spans = subst (λ v. AreSpans v 0) (sym c.new-spans.ensures.items) no_spans;
      same = ap run_of c.new-spans.ensures.items;
    }

pub add_span-requires-clause-joins : goal.add_span-requires-clause-joins
add_span-requires-clause-joins c = c.loop-x.invariant.spans

pub loop-x-preserved : goal.loop-x-preserved
loop-x-preserved c =
    let run : List (Option ℕ) = c.args.run.now in
    let x : ℕ = c.loop-x.x in
    let one : (x + 1) - x ≡ 1 = omega arith in
    record {
      spans = c.in_ok-add_span.ensures.spans;
      same =
          c.in_ok-add_span.ensures.run
          ∙ (ap (λ (before : List (Option ℕ)). before ++ replicate ((x + 1) - x) (get_or run x None))
          c.loop-x.invariant.same
          ∙ (ap (λ (n : ℕ). take x run ++ replicate n (get_or run x None)) one
          ∙ sym (take_more run x None c.loop-x-test.true)));
    }

pub returns-clause-spans : goal.returns-clause-spans
returns-clause-spans c =
    subst (AreSpans c.loop-x.spans.items) (omega (arith, c.loop-x.auto.x-end, c.loop-x-test.false))
    c.loop-x.invariant.spans

pub returns-clause-same : goal.returns-clause-same
returns-clause-same c = c.loop-x.invariant.same ∙ take_all c.loop-x.x c.args.run.now c.loop-x-test.false
