use Rattle.cert_reader.proofs.Standing.{none_opened, one_opened, all_listed, all_good}
use Rattle.cert_reader.proofs.listed.list_at.Goals as goal

pub loop-values-init : goal.loop-values-init
loop-values-init g c =
    rw c.new-values.ensures.items (none_opened g.T.ReadAt.text g.T.ReadAt.in_range c.args.bytes.now c.args.at)

pub loop-values-preserved : goal.loop-values-preserved
loop-values-preserved g c =
    rw c.in_ok-push.ensures.items (one_opened g.T.ReadAt.text g.T.ReadAt.in_range c.args.bytes.now c.args.at
    c.loop-values.from c.in_ok-value.to c.in-Some.next c.loop-values.values.items c.in_ok-value.value
    c.loop-values.invariant c.in_ok-value.ensures.text c.in-Some.ensures.text c.in_ok-value.ensures.in_range)

pub returns-in-None-clause-text : goal.returns-in-None-clause-text
returns-in-None-clause-text g c =
    rw c.in_ok-push.ensures.items (all_listed g.T.ReadAt.text g.T.ReadAt.in_range c.args.bytes.now c.args.at
    c.loop-values.from c.in_ok-value.to c.loop-values.values.items c.in_ok-value.value c.loop-values.invariant
    c.in_ok-value.ensures.text)

pub returns-in-None-clause-in_range : goal.returns-in-None-clause-in_range
returns-in-None-clause-in_range g c =
    rw c.in_ok-push.ensures.items (all_good g.T.ReadAt.text g.T.ReadAt.in_range c.args.bytes.now c.args.at
    c.loop-values.from c.loop-values.values.items c.in_ok-value.value c.loop-values.invariant
    c.in_ok-value.ensures.in_range)
