use Rattle.std.proofs.Common.{◌≡◌, ◌<◌, ◌-◌, ℕ, length, sym, ◌∙◌, ap, arith, subst}
use Rattle.slot_model.specs.Run.{holds}
use Rattle.rtds_queues.specs.declared.account.Account.{Account}
use Rattle.rtds_queues.specs.Accounts.{account_at, begun}
use Rattle.rtds_sim.specs.inner.Accounts.{gone_on, IsSound}
use Rattle.rtds_sim.proofs.CoreRuns.{gone_numbers}
use Rattle.rtds_sim.proofs.Members.{SameNumbers, turn_same}
use Rattle.rtds_sim.proofs.Ready.{gone_is, sound_gone, used_period}
use Rattle.rtds_queues.proofs.Firsts.{first_kept}
use Rattle.rtds_sim.proofs.Steady.{until_more}
use Rattle.rtds_sim.proofs.host_core.HostCore.bring.Goals as goal
use Rattle.rtds_sim.proofs.host_core.HostCore.bring.Goals.{After-use_slots, After-begin_periods}

pub use_slots-requires-clause-few : goal.use_slots-requires-clause-few
use_slots-requires-clause-few c v e =
    omega (
      arith,
      (c.requires.ready.sound v (c.requires.ready.holder v e)).few,
      c.requires.later,
      c.requires.in_limit,
    )

-- slots had change no period
period_same : (c : After-use_slots) (v : ℕ) → v < length c.args.self.now.vcpus
    → (account_at c.use_slots.new.self.vcpus v).period ≡ (account_at c.args.self.now.vcpus v).period
period_same c v l =
    ap (λ (a : Account). a.period) (c.use_slots.ensures.used v l)
    ∙ used_period (account_at c.args.self.now.vcpus v) (holds c.args.self.now.holder v) (c.args.to - c.args.from)

pub begin_periods-requires-clause-periods : goal.begin_periods-requires-clause-periods
begin_periods-requires-clause-periods c =
    let at = (goal.at.begin_periods-requires-clause-periods c).After-use_slots in
    record {
      some = λ v l.
          let lo : v < length c.args.self.now.vcpus = omega (arith, l, c.use_slots.ensures.one_each) in
          omega (arith, period_same at v lo, (c.requires.ready.sound v lo).numbers.some_period);
      few = λ v l.
          let lo : v < length c.args.self.now.vcpus = omega (arith, l, c.use_slots.ensures.one_each) in
          omega (arith, period_same at v lo, (c.requires.ready.sound v lo).numbers.in_limit);
    }

pub begin_periods-requires-clause-first : goal.begin_periods-requires-clause-first
begin_periods-requires-clause-first c =
    first_kept c.args.self.now.vcpus c.use_slots.new.self.vcpus c.args.end c.use_slots.ensures.one_each
    (λ v l. ap (λ (a : Account). a.until) (c.use_slots.ensures.used v l)
    ∙ until_more (account_at c.args.self.now.vcpus v) (holds c.args.self.now.holder v) (c.args.to - c.args.from))
    c.requires.first

-- the accounts have gone on
gone : (c : After-begin_periods) (v : ℕ) → v < length c.args.self.now.vcpus
    → account_at c.begin_periods.new.self.vcpus v
    ≡ gone_on (account_at c.args.self.now.vcpus v) (holds c.args.self.now.holder v) (c.args.to - c.args.from) c.args.to
gone c v l =
    c.begin_periods.ensures.begun v (omega (arith, l, c.use_slots.ensures.one_each))
    ∙ (ap (λ (a : Account). begun a c.args.to) (c.use_slots.ensures.used v l)
    ∙ gone_is (account_at c.args.self.now.vcpus v) (holds c.args.self.now.holder v) (c.args.to - c.args.from) c.args.to)

long : (c : After-begin_periods) → length c.begin_periods.new.self.vcpus ≡ length c.args.self.now.vcpus
long c = c.begin_periods.ensures.one_each ∙ c.use_slots.ensures.one_each

pub returns-clause-gone : goal.returns-clause-gone
returns-clause-gone c = gone (goal.at.returns-clause-gone c).After-begin_periods

pub returns-clause-ready : goal.returns-clause-ready
returns-clause-ready c =
    let at = (goal.at.returns-clause-ready c).After-begin_periods in
    let old = c.args.self.now in
    record {
      sound = λ v l.
          let lo : v < length old.vcpus = omega (arith, l, long at) in
          subst (IsSound c.args.to) (sym (gone at v lo))
          (sound_gone (account_at old.vcpus v) (holds old.holder v) c.args.from c.args.to (c.requires.ready.sound v lo)
          c.requires.later);
      in_turn =
          turn_same old.vcpus c.begin_periods.new.self.vcpus (long at)
          (λ v l. subst (SameNumbers (account_at old.vcpus v)) (sym (gone at v l))
          (gone_numbers (account_at old.vcpus v) (holds old.holder v) (c.args.to - c.args.from) c.args.to))
          c.requires.ready.in_turn;
      ends = c.begin_periods.ensures.ends;
      holder = λ v e. omega (
        arith,
        long at,
        c.requires.ready.holder v (sym (c.begin_periods.ensures.holder ∙ c.use_slots.ensures.holder) ∙ e),
      );
    }
