use Rattle.std.proofs.Common.{◌≡◌, ◌∙◌, true, refl, sym, rules}
use Rattle.std.specs.Result.{is_ok}
use Rattle.release_file.proofs.WakesMore.{wake_keeps, behind_more}
use Rattle.release_file.proofs.wake_rows.WakeRows.keep.Goals as goal

pub returns-clause-behind : goal.returns-clause-behind
returns-clause-behind c =
    let a = c.args.self.now in
    let good : is_ok c.push.result ≡ true = search rules in
    let items = rw good at c.push.ensures.items in
    behind_more a _ c.args.wake c.requires.system c.requires.behind
    (wake_keeps a.sys.now a.wakes.items c.args.wake (sym c.fault.ensures ∙ c.in_default.is)) refl refl refl items
