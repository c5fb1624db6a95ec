use Rattle.std.proofs.Common.{◌≡◌, ℕ, ◌≤◌, ◌-◌, List, length, Option, refl, sym, ◌∙◌, ap, arith, subst}
use Rattle.slot_model.specs.Run.{holds}
use Rattle.rtds_queues.specs.declared.account.Account.{Account}
use Rattle.rtds_queues.specs.Accounts.{account_at}
use Rattle.rtds_queues.specs.Vcpus.{IsFirstEnd}
use Rattle.rtds_queues.proofs.Firsts.{first_later}
use Rattle.rtds_sim.specs.inner.Accounts.{gone_on, IsReady}
use Rattle.rtds_sim.proofs.CoreRuns.{stands_first, stands_last, stands_on}
use Rattle.rtds_sim.proofs.host_core.HostCore.run_to.Goals as goal

pub loop-at-init : goal.loop-at-init
loop-at-init c = record {
  run =
      λ sys budgets rows n k run plan u. stands_first sys budgets rows n c.args.core run c.args.from
      c.args.to k c.args.self.now c.args.told.now.items u;
  ready = c.requires.ready;
  first = c.first_end-end.ensures;
  since = omega arith;
  in_time = omega (arith, c.requires.later);
}

-- slot `at` is before the first end, so something changes at a later one
pub next_change-next-requires-clause-in_time : goal.next_change-next-requires-clause-in_time
next_change-next-requires-clause-in_time c =
    let so_far = c.loop-at.invariant in
    omega (
      arith,
      c.loop-at-test.true,
      c.min.ensures,
      first_later c.loop-at.self.vcpus c.loop-at.at c.loop-at.end so_far.first
          (omega (arith, c.loop-at-test.true, c.requires.in_limit)) so_far.ready.ends,
    )

pub next_change-next-requires-clause-some_left : goal.next_change-next-requires-clause-some_left
next_change-next-requires-clause-some_left c v e =
    let ready = c.in_ok-switch.ensures.ready in
    (ready.sound v (ready.holder v e)).some_left

pub bring-end-requires-clause-first : goal.bring-end-requires-clause-first
bring-end-requires-clause-first c =
    subst (λ (xs : List Account). IsFirstEnd xs c.loop-at.end) (sym c.in_ok-switch.ensures.vcpus)
    c.loop-at.invariant.first

pub loop-at-preserved : goal.loop-at-preserved
loop-at-preserved c =
    let so_far = c.loop-at.invariant in
    let at : ℕ = c.loop-at.at in
    let next : ℕ = c.next_change-next.result in
    let old = c.loop-at.self in
    let on = c.in_ok-switch.ensures in
    let holder : Option ℕ = c.switch.new.self.holder in
    let brought = c.bring-end.ensures in
    let long : length c.switch.new.self.vcpus ≡ length old.vcpus
    = ap (λ (xs : List Account). length xs) on.vcpus in
    let in_time : next ≤ c.args.to = omega (arith, c.next_change-next.ensures.in_time, c.min.ensures) in
    record {
      run =
          λ sys budgets rows n k run plan u. stands_on sys budgets plan rows n c.args.core run c.args.from c.args.to k
          c.args.self.now u at next so_far.since c.next_change-next.ensures.later in_time old
          c.args.told.now.items c.loop-at.told.items (so_far.run sys budgets rows n k run plan u)
          so_far.ready.in_turn holder on.chosen
          (λ v l. omega (arith, so_far.first.least v l, c.next_change-next.ensures.in_time, c.min.ensures))
          (λ v e. omega (
            arith,
            c.next_change-next.ensures.budget v e,
            ap (λ (xs : List Account). (account_at xs v).left) on.vcpus,
          ))
          c.bring-end.new.self.vcpus (brought.one_each ∙ long)
          (λ v l. brought.gone v (omega (arith, l, long))
          ∙ ap (λ (xs : List Account). gone_on (account_at xs v) (holds holder v) (next - at) next) on.vcpus)
          c.bring-end.new.self refl brought.holder c.switch.new.told.items on.told;
      ready = brought.ready;
      first = brought.first;
      since = omega (arith, so_far.since, c.next_change-next.ensures.later);
      in_time = in_time;
    }

pub returns-clause-ready : goal.returns-clause-ready
returns-clause-ready c =
    subst (λ (x : ℕ). IsReady x c.loop-at.self)
    (let e : c.loop-at.at ≡ c.args.to = omega (arith, c.loop-at.invariant.in_time, c.loop-at-test.false) in e)
    c.loop-at.invariant.ready

pub returns-clause-run : goal.returns-clause-run
returns-clause-run c sys budgets rows n k run plan u =
    stands_last sys budgets rows c.args.core run c.args.from c.args.to k c.loop-at.at
    c.loop-at.self c.args.told.now.items c.loop-at.told.items c.requires.later
    (omega (arith, c.loop-at.invariant.in_time, c.loop-at-test.false))
    (c.loop-at.invariant.run sys budgets rows n k run plan u)
