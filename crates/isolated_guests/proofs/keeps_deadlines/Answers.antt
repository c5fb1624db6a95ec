use Rattle.isolated_guests.proofs.Kept.{short_keep}
use Rattle.isolated_guests.proofs.Answered.{lines_keep, yes_keeps}
use Rattle.isolated_guests.proofs.keeps_deadlines.Goals as goal

pub returns : goal.returns
returns c = record { lines = lines_keep; yes = yes_keeps; short = short_keep }
