use Rattle.std.proofs.Common.{[], refl}
use Rattle.trace_file.proofs.row_reader.RowReader.new.Goals as goal

pub returns : goal.returns
returns c = record {
  sys_is = refl;
  system = c.new-2.ensures.system;
  names = c.in_ok-new.ensures;
  row = refl;
  after = c.new-2.ensures.after [];
}
