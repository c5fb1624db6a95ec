use Rattle.std.proofs.Common.{◌≤◌, List, length, sym, ◌∙◌, ap, subst}
use Rattle.rtds_queues.specs.declared.account.Account.{Account}
use Rattle.rtds_queues.specs.Vcpus.{NoneStarted}
use Rattle.rtds_sim.proofs.Cores.{idle_core}
use Rattle.rtds_sim.proofs.Members.{few_fresh, fresh_idle}
use Rattle.rtds_sim.proofs.host_core.HostCore.new.Goals as goal

pub new-requires-clause-few : goal.new-requires-clause-few
new-requires-clause-few c =
    subst (λ (xs : List Account). length xs ≤ 512) (sym c.in_ok-accounts.ensures)
    (few_fresh c.args.sys.now c.cores.ensures.system c.args.plan.now c.requires.plan c.args.core)

pub new-requires-clause-idle : goal.new-requires-clause-idle
new-requires-clause-idle c =
    subst NoneStarted (sym c.in_ok-accounts.ensures)
    (fresh_idle c.args.sys.now c.cores.ensures.system c.args.plan.now c.requires.plan c.args.core)

pub returns : goal.returns
returns c =
    ap idle_core
    (c.in_ok-vcpus.ensures ∙ c.in_ok-accounts.ensures)
