use Rattle.std.proofs.Common.{◌≡◌, ℕ, ◌+◌, List, [], ◌∷◌, ◌++◌, subst, sym, arith}
use Rattle.certificate.proofs.Listing.{ListedTo, listed_first, listed_more, listed_all, all_good, then}
use Rattle.certificate.proofs.text.write_list.Goals as goal

pub loop-next-init : goal.loop-next-init
loop-next-init g c =
    subst (λ (now : List ℕ). ListedTo g.T.Listed.spelled g.T.Listed.in_range c.args.text.now.items now c.args.list.now
    c.in-Some.rest.now 0) (sym c.in_ok-write.ensures.text)
    (listed_first g.T.Listed.spelled g.T.Listed.in_range c.args.text.now.items c.args.list.now c.in-Some.rest.now
    c.in-Some.first.now c.in-Some.ensures.cases.0 c.in_ok-write.ensures.in_range)

pub loop-next-preserved : goal.loop-next-preserved
loop-next-preserved g c =
    let n : ℕ = c.loop-next.next-index in
    let before : List ℕ = c.loop-next.text.items in
    let written : c.write-in-loop-next.new.text.items ≡ before ++ 44 ∷ g.T.Listed.spelled c.next-item.result
    = then before c.push.new.self.items c.write-in-loop-next.new.text.items (44 ∷ [])
    (g.T.Listed.spelled c.next-item.result) c.in_ok-push.ensures.items c.in_ok-write-2.ensures.text in
    subst (λ (now : List ℕ). ListedTo g.T.Listed.spelled g.T.Listed.in_range c.args.text.now.items now c.args.list.now
    c.in-Some.rest.now (n + 1)) (sym written)
    (listed_more g.T.Listed.spelled g.T.Listed.in_range c.args.text.now.items before c.args.list.now c.in-Some.rest.now
    n c.next-item.result (omega arith) c.next-item.is c.in_ok-write-2.ensures.in_range c.loop-next.invariant)

pub returns-clause-text : goal.returns-clause-text
returns-clause-text g c =
    listed_all g.T.Listed.spelled g.T.Listed.in_range c.args.text.now.items c.loop-next.text.items c.args.list.now
    c.in-Some.rest.now c.loop-next.next-index c.loop-next-test.false c.loop-next.invariant

pub returns-clause-in_range : goal.returns-clause-in_range
returns-clause-in_range g c =
    all_good g.T.Listed.spelled g.T.Listed.in_range c.args.text.now.items c.loop-next.text.items c.args.list.now
    c.in-Some.rest.now c.loop-next.next-index c.loop-next-test.false c.loop-next.invariant
