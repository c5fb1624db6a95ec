use Rattle.std.proofs.Common.{◌≡◌, ◌<◌, List, length, get_or, arith, ap}
use Rattle.tree_model.specs.View.{PartView}
use Rattle.isolation.specs.inner.Ties.{tie_of}
use Rattle.isolation.proofs.Least.{asked_by, asked_none, asked_next, asked_with}
use Rattle.isolation.proofs.Whole.{whole_by, whole_none, whole_next, whole_with}
use Rattle.isolation.proofs.window.asked_in.Goals as goal

pub loop-u-init : goal.loop-u-init
loop-u-init c =
    let first = c.requires.neighbours.first c.args.core c.requires.is_core in
    record {
      within = first.within;
      here = first.here;
      slots_are = omega (
        arith,
        asked_next (tie_of c.args.ties) c.args.sys.now c.args.plan.now c.args.core c.args.v c.args.t 0
            (get_or c.args.neighbours.now.first c.args.core 0) first,
        asked_none (tie_of c.args.ties) c.args.sys.now c.args.plan.now c.args.core c.args.v c.args.t,
      );
      few = omega arith;
      whole_is = omega (
        arith,
        whole_next (tie_of c.args.ties) c.args.sys.now c.args.plan.now c.args.core c.args.v c.args.t 0
            (get_or c.args.neighbours.now.first c.args.core 0) first,
        whole_none (tie_of c.args.ties) c.args.sys.now c.args.plan.now c.args.core c.args.v c.args.t,
      );
      few_more = omega arith;
    }

pub loop-u-preserved : goal.loop-u-preserved
loop-u-preserved c =
    let parts = ap (λ (ps : List PartView). length ps) c.parts-in-loop-u.ensures.parts in
    let here : c.loop-u.u < length c.args.sys.now.parts = omega (arith, parts, c.loop-u-test.true) in
    let on = c.loop-u.invariant.here here in
    let next = c.requires.neighbours.next c.args.core c.loop-u.u (omega arith) here on in
    record {
      within = next.within;
      here = next.here;
      slots_are = omega (
        arith,
        c.loop-u.invariant.slots_are,
        c.asked_by-one.ensures.exact,
        asked_with (tie_of c.args.ties) c.args.sys.now c.args.plan.now c.args.core c.args.v c.args.t c.loop-u.u
            (get_or c.args.neighbours.now.next c.loop-u.u 0) on next,
      );
      few = omega (arith, c.loop-u.invariant.few, c.asked_by-one.ensures.in_limit, next.behind);
      whole_is = omega (
        arith,
        c.loop-u.invariant.whole_is,
        c.asked_by-one.ensures.whole,
        whole_with (tie_of c.args.ties) c.args.sys.now c.args.plan.now c.args.core c.args.v c.args.t c.loop-u.u
            (get_or c.args.neighbours.now.next c.loop-u.u 0) on next,
      );
      few_more = omega (arith, c.loop-u.invariant.few_more, c.asked_by-one.ensures.in_two, next.behind);
    }

pub loop-u-smaller : goal.loop-u-smaller
loop-u-smaller c =
    let parts = ap (λ (ps : List PartView). length ps) c.parts-in-loop-u.ensures.parts in
    let here : c.loop-u.u < length c.args.sys.now.parts = omega (arith, parts, c.loop-u-test.true) in
    let next = c.requires.neighbours.next c.args.core c.loop-u.u (omega arith) here (c.loop-u.invariant.here here) in
    omega (arith, next.behind, here)

pub returns-clause-exact : goal.returns-clause-exact
returns-clause-exact c =
    let parts = ap (λ (ps : List PartView). length ps) c.parts-in-loop-u.ensures.parts in
    let e : c.loop-u.u ≡ length c.args.sys.now.parts
    = omega (arith, parts, c.loop-u-test.false, c.loop-u.invariant.within) in
    omega (
      arith,
      c.loop-u.invariant.slots_are,
      ap (asked_by (tie_of c.args.ties) c.args.sys.now c.args.plan.now c.args.core c.args.v c.args.t) e,
    )

pub returns-clause-whole : goal.returns-clause-whole
returns-clause-whole c =
    let parts = ap (λ (ps : List PartView). length ps) c.parts-in-loop-u.ensures.parts in
    let e : c.loop-u.u ≡ length c.args.sys.now.parts
    = omega (arith, parts, c.loop-u-test.false, c.loop-u.invariant.within) in
    omega (
      arith,
      c.loop-u.invariant.whole_is,
      ap (whole_by (tie_of c.args.ties) c.args.sys.now c.args.plan.now c.args.core c.args.v c.args.t) e,
    )
