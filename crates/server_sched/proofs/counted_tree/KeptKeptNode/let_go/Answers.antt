use Rattle.std.proofs.Common.{◌≡◌, ◌+◌, [], List, map, set, sym, ◌∙◌, ap, subst, arith, Vec, Global}
use Rattle.std.proofs.lemmas.List.{map-set}
use Rattle.span_counts.specs.declared.counts.Counts.{Counts}
use Rattle.guest_sched.specs.Spans.{Window}
use Rattle.server_sched.specs.inner.Kept.{KeptView, IsStillKept}
use Rattle.server_sched.proofs.ServerKept.{still_kept}
use Rattle.server_sched.proofs.counted_tree.KeptKeptNode.let_go.Goals as goal

abbrev with_shares : Counts → List (List Window) → KeptView
with_shares counts shares = record { shares = shares; counts = counts }

abbrev items : Vec Window Global → List Window
items windows = windows.items

pub returns : goal.returns
returns c = λ node h.
    let inside = c.self.inside in
    let k = c.args.k in
    let shares : map items (set inside.shares.items k c.new.result) ≡ set (map items inside.shares.items) k []
    = map-set items inside.shares.items k c.new.result
    ∙ ap (set (map items inside.shares.items) k) c.new.ensures.items in
    let left : with_shares inside.counts (map items (set inside.shares.items k c.new.result))
    ≡ with_shares c.args.self.now.counts (set c.args.self.now.shares k [])
    = ap (with_shares inside.counts) shares
    ∙ ap (λ (v : KeptView). with_shares v.counts (set v.shares k [])) c.self.view_is in
    let (of, kept, child) = c.requires in
    subst (λ (v : KeptView). IsStillKept v node (k + 1)) (sym left)
    (still_kept c.args.self.now node k h (omega (arith, child, kept.one_each)))
