use Rattle.isolated_guests.proofs.Traces.{keeps_in_traces}
use Rattle.isolated_guests.proofs.keeps_in_traces.Goals as goal

pub returns : goal.returns
returns c = record { keeps = keeps_in_traces }
