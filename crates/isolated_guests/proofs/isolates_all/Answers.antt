use Rattle.isolation.proofs.Fits.{isolated_where_short}
use Rattle.isolation.proofs.Fewer.{fewer_isolate}
use Rattle.isolated_guests.proofs.isolates_all.Goals as goal

pub returns : goal.returns
returns c = record { where_short = isolated_where_short; fewer = fewer_isolate }
