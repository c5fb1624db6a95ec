use Rattle.std.proofs.Common.{List, subst}
use Rattle.rtds_queues.specs.declared.account.Account.{Account}
use Rattle.rtds_queues.specs.Vcpus.{IsChoice}
use Rattle.rtds_queues.proofs.Choices.{first_choice}
use Rattle.rtds_queues.proofs.vcpus.Vcpus.first_of.Goals as goal

pub returns : goal.returns
returns c =
    let accounts : List Account = c.self.inside.accounts.items in
    subst (λ (xs : List Account). IsChoice xs c.first_of.result) c.self.view_is
    (first_choice accounts c.self.inside.queue c.self.inside.by_end.items c.self.invariant c.first_of.result
    (c.first_of.ensures accounts c.self.invariant.queued))
