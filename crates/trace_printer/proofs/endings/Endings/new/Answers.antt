use Rattle.std.proofs.Common.{◌∙◌, ap, subst, sym, List, Option, None, IfSome, get_or}
use Rattle.trace_printer.specs.declared.endings.Ending.{Ending}
use Rattle.trace_printer.specs.inner.Endings.{IsEnding}
use Rattle.trace_printer.proofs.EndingRows.{none_push}
use Rattle.trace_printer.proofs.endings.Endings.new.Goals as goal

pub loop-preserved : goal.loop-preserved
loop-preserved c i =
    ap (λ (xs : List (Option Ending)). get_or xs i None) c.in_ok-push.ensures.items
    ∙ none_push c.loop.made.items c.loop.invariant i

pub returns-clause-are : goal.returns-clause-are
returns-clause-are c i = subst (λ (o : Option Ending). IfSome o (IsEnding c.args.sys.now)) (sym (c.loop.invariant i)) tt
