use Rattle.auditor.proofs.verdict.both_of.Goals as goal

pub tally_all-requires-clause-watched : goal.tally_all-requires-clause-watched
tally_all-requires-clause-watched c = let (budgets, text, w) = c.requires.watched in (budgets, w.events, w.at_end)

pub returns-in-Ok-clause-tallied : goal.returns-in-Ok-clause-tallied
returns-in-Ok-clause-tallied c budgets text w =
    let both = c.in-Ok.ensures budgets w.events w.at_end in
    record {
      events = w.events;
      spelled = w.spelled;
      kept = w.at_end.kept;
      found = both.0;
      counted = both.1;
    }
