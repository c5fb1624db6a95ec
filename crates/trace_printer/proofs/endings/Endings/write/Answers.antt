use Rattle.std.proofs.Common.{ℕ, ◌<◌, List, length, Option, None, IfSome, arith, subst, sym}
use Rattle.std.proofs.lemmas.List.{get_or_read}
use Rattle.std.proofs.lemmas.Result.{on_ok_weaker}
use Rattle.trace_printer.specs.declared.endings.Ending.{Ending}
use Rattle.trace_printer.specs.inner.Endings.{IsEnding}
use Rattle.trace_printer.proofs.EndingRows.{kept_more}
use Rattle.trace_printer.proofs.endings.Endings.write.Goals as goal

pub returns-then-place-len-clause-are : goal.returns-then-place-len-clause-are
returns-then-place-len-clause-are c are =
    let sys = c.args.self.now.sys.now in
    let made : List (Option Ending) = c.args.self.now.made.items in
    let place : ℕ = c.place-place.result in
    let within : place < length made = omega (arith, c.if-place-len.true, c.len.ensures) in
    let kept = get_or_read made place c.index_mut-kept.result.now within c.index_mut-kept.ensures.value None in
    on_ok_weaker c.write_row.result (kept_more sys made place c.write_row.new.kept within are)
    (c.write_row.ensures.is (subst (λ (o : Option Ending). IfSome o (IsEnding sys)) (sym kept) (are place)))
