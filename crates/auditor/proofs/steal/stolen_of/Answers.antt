use Rattle.auditor.proofs.steal.stolen_of.Goals as goal

pub steal_all-requires-clause-watched : goal.steal_all-requires-clause-watched
steal_all-requires-clause-watched c =
    let (budgets, text, plan, w) = c.requires.watched in (budgets, w.events, plan, w.at_end)

pub returns-in-Ok-clause-stolen : goal.returns-in-Ok-clause-stolen
returns-in-Ok-clause-stolen c budgets text plan w =
    let both = c.in-Ok.ensures budgets w.events plan w.at_end in
    record {
      events = w.events;
      spelled = w.spelled;
      kept = w.at_end.kept;
      found = both.0;
      counted = both.1;
    }
