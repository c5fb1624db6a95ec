use Rattle.std.proofs.Common.{◌≡◌, ◌%◌, sym, ◌∙◌, ap, arith, subst}
use Rattle.std.proofs.lemmas.Result.{IfOk-weaker}
use Rattle.bulk_run.specs.declared.counts.BulkCounts.{BulkCounts}
use Rattle.bulk_run.specs.inner.Steps.{AreHostCounts, plus}
use Rattle.bulk_run.proofs.HostOfCores.{host_of_cores, host_of_full_cores, admitted_counts}
use Rattle.bulk_run.proofs.counts.bulk_counts.Goals as goal

pub returns-then-n-lt8 : goal.returns-then-n-lt8
returns-then-n-lt8 c =
    IfOk-weaker c.host_counts.result _ _ (λ counts h. admitted_counts c.args.n c.requires.some c.requires.most counts h)
    c.host_counts.ensures.counts

pub returns-then-n-eq0 : goal.returns-then-n-eq0
returns-then-n-eq0 c =
    let none : c.args.n % 8 ≡ 0 = omega arith in
    admitted_counts c.args.n c.requires.some c.requires.most c.times-full.result
    (subst (AreHostCounts c.args.n) (sym c.times-full.ensures.value)
    (host_of_full_cores c.args.n c.in_ok-host_counts.field-0 none c.in_ok-host_counts.ensures.counts))

pub returns : goal.returns
returns c =
    admitted_counts c.args.n c.requires.some c.requires.most c.plus.result
    (subst (AreHostCounts c.args.n)
    (sym (c.plus.ensures ∙ ap (λ (full : BulkCounts). plus full c.in_ok-rest.rest) c.times-full.ensures.value))
    (host_of_cores c.args.n c.in_ok-host_counts.field-0 c.in_ok-rest.rest c.in_ok-host_counts.ensures.counts
    c.in_ok-rest.ensures.counts))
