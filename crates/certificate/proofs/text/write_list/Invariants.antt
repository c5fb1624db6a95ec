use Rattle.certificate.proofs.Listing.{ListedTo}
use Rattle.certificate.proofs.text.write_list.Given as goal

abbrev pub invariant-loop-next : goal.invariant-loop-next
invariant-loop-next g l =
    ListedTo g.T.Listed.spelled g.T.Listed.in_range l.fn.text.items l.text.items l.list l.rest l.next-index
