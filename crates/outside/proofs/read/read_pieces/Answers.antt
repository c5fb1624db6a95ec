use Rattle.std.proofs.Common.{rules, List, ℕ, take, drop, ◌++◌, ◌≡◌, subst}
use Rattle.std.proofs.lemmas.List.{length-take-le, take-append-le}
use Rattle.outside.specs.Taker.{Took}
use Rattle.outside.proofs.ReadSoFar.{read_more}
use Rattle.outside.proofs.read.read_pieces.Goals as goal

pub pieces-preserved : goal.pieces-preserved
pieces-preserved g c =
    let count = c.in-Ok.count in
    let piece : List ℕ = take count c.read.new.buf in
    let handed : take count (c.read.new.buf ++ drop c.min-wanted.result c.pieces.piece) ≡ piece
    = take-append-le count c.read.new.buf _ c.in-Ok.ensures.count in
    record {
      open_now = search rules;
      files = search rules;
      faults = search rules;
      absences = search rules;
      short = search rules;
      taken = search rules;
      no_more = search rules;
      taken_last = search rules;
      read =
          read_more g.T.ByteTaker.has_taken c.args.taker.now c.pieces.taker _ (g.S.Store.files c.args.store.now)
          c.args.name.now piece (g.S.Store.rest c.pieces.store) (g.S.Store.rest c.read.new.self) c.pieces.taken count
          c.pieces.invariant.read
          (subst (Took g.T.ByteTaker.has_taken c.pieces.taker c.take.new.self) handed c.in_ok-take.ensures)
          c.in-Ok.ensures.front (length-take-le count c.read.new.buf c.in-Ok.ensures.count);
    }
