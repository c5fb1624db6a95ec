use Rattle.admission_session.proofs.Asked.{AreAsked}
use Rattle.admission_session.proofs.shares.asked_of_cores.Given as goal

abbrev pub invariant-loop-q : goal.invariant-loop-q
invariant-loop-q l = AreAsked l.sys l.budgets l.asked l.q
