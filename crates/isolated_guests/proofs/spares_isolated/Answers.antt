use Rattle.isolated_guests.proofs.Spared.{file_order_is_open, isolated_are_spared}
use Rattle.isolated_guests.proofs.InTrace.{isolated_are_spared_in_traces}
use Rattle.isolated_guests.proofs.spares_isolated.Goals as goal

pub returns : goal.returns
returns c =
    record {
      in_runs = isolated_are_spared;
      in_traces = isolated_are_spared_in_traces;
      open_runs = file_order_is_open;
    }
