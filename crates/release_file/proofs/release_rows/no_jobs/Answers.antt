use Rattle.std.proofs.Common.{◌≡◌, ◌∙◌, ◌<◌, List, length, get_or, ap, arith}
use Rattle.std.proofs.lemmas.List.{get_or_default}
use Rattle.tree_model.specs.View.{PartView}
use Rattle.tree_model.specs.System.{no_part, part_at}
use Rattle.csv_rows.proofs.Keeping.{length_more}
use Rattle.release_file.specs.declared.leaf_rows.LeafRows.{LeafRows}
use Rattle.release_file.proofs.ReleasesTaking.{leaves_more}
use Rattle.release_file.proofs.release_rows.no_jobs.Goals as goal

pub loop-part-preserved : goal.loop-part-preserved
loop-part-preserved c =
    let i = c.loop-part.part-index in
    let parts = c.args.sys.now.parts in
    let l : i < length parts
    = omega (arith, c.loop-part-test.true, ap (λ (z : List PartView). length z) c.parts-part-items.ensures.parts) in
    let part : c.part-item.result ≡ part_at c.args.sys.now i
    = c.part-item.is
    ∙ (ap (λ (z : List PartView). get_or z i c.part-item.result) c.parts-part-items.ensures.parts
    ∙ get_or_default parts i c.part-item.result no_part l) in
    record {
      long =
          omega (
            arith,
            ap (λ (z : List LeafRows). length z) c.in_ok-push.ensures.items,
            length_more c.loop-part.leaves.items c.in_ok-new.field-0,
            c.loop-part.invariant.long,
          );
      each =
          leaves_more c.args.sys.now _ c.loop-part.leaves.items c.push.new.self.items c.in_ok-new.field-0 i
          c.loop-part.invariant.long c.loop-part.invariant.each (record {
            leaf_is = c.in_ok-new.ensures.leaf;
            part_is = c.in_ok-new.ensures.part ∙ part;
            jobs_are = c.in_ok-new.ensures.jobs;
          }) c.in_ok-push.ensures.items;
    }
