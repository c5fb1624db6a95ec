use Rattle.host_commands.proofs.Laws.Bulk.{counted_answer}
use Rattle.host_commands.proofs.made_host.bulk.Goals as goal

pub returns-clause-answer : goal.returns-clause-answer
returns-clause-answer c =
    λ files. counted_answer c.args.guests.number files c.in_ok-counts.counts c.in_ok-text.text.items c.args.guests.some
    c.args.guests.most c.in_ok-counts.ensures c.in_ok-text.ensures
