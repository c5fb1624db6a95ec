use Rattle.std.proofs.Common.{refl}
use Rattle.trace_file.specs.declared.trace_taker.Stage.TheVariants as stage
use Rattle.trace_file.proofs.trace_feed.TraceFeed.new.Goals as goal

pub returns : goal.returns
returns g c = record {
  first = record { reader = c.in_ok-reader.reader; stage = stage.Header; watcher = c.args.watcher };
  sys_is = c.in_ok-reader.ensures.sys_is;
  watcher_is = refl;
  fed = c.new-2.ensures;
}
