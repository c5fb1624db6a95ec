use Rattle.std.proofs.Common.{◌≡◌, ℕ, ◌+◌, List, length, map, get_or, refl, arith, ap, sym, ◌∙◌, subst, Vec, Global}
use Rattle.std.proofs.lemmas.List.{map_push, get_or_read}
use Rattle.guest_sched.specs.Spans.{Window, slots_of}
use Rattle.tree_model.specs.declared.pinned_core.Core.{Core}
use Rattle.tree_model.specs.System.{no_core}
use Rattle.server_sched.specs.Patterns.{pattern_slots}
use Rattle.server_sched.proofs.Patterned.{PatternTo, pattern_exact, one_core_more, all_exact}
use Rattle.server_sched.proofs.Conforming.{pattern_conforms}
use Rattle.server_sched.proofs.supplies.core_supplies.Goals as goal

pub loop-core-preserved : goal.loop-core-preserved
loop-core-preserved c =
    let n = c.args.slots in let i = c.loop-core.core-index in let cores = c.cores-cores.result.now in
    let items : Vec Window Global → List Window = λ s. s.items in
    let old : List (List Window) = map items c.loop-core.given.items in
    let new : List Window = c.in_ok-supply_windows.field-0.items in
    let here : c.core-item.result ≡ get_or cores i no_core
    = get_or_read cores i c.core-item.result c.loop-core-test.true c.core-item.is no_core in
    let same : slots_of new n ≡ pattern_slots c.args.pattern (get_or cores i no_core).supply n
    = pattern_exact c.args.pattern c.core-item.result.supply n new c.in_ok-supply_windows.ensures.follows
    ∙ ap (λ (core : Core). pattern_slots c.args.pattern core.supply n) here in
    subst (λ (v : List (List Window)). PatternTo cores c.args.pattern n (i + 1) v)
    (sym (ap (map items) c.in_ok-push.ensures.items
    ∙ map_push items c.loop-core.given.items c.in_ok-supply_windows.field-0))
    (one_core_more cores c.args.pattern n i old c.loop-core.invariant new c.in_ok-supply_windows.ensures.windows same)

pub returns-clause-exact : goal.returns-clause-exact
returns-clause-exact c =
    all_exact c.args.sys.now c.args.pattern c.args.slots (length c.args.sys.now.cores) _ refl
    (subst (λ (v : List Core). PatternTo v c.args.pattern c.args.slots (length v)
    (map (λ (s : Vec Window Global). s.items) c.loop-core.given.items)) c.cores-cores.ensures.cores
    (subst (λ (m : ℕ). PatternTo c.cores-cores.result.now c.args.pattern c.args.slots m
    (map (λ (s : Vec Window Global). s.items) c.loop-core.given.items))
    (omega (arith, c.loop-core-test.false, c.loop-core.auto.core-index-end)) c.loop-core.invariant))

pub returns-clause-conform : goal.returns-clause-conform
returns-clause-conform c =
    λ k l. pattern_conforms c.args.sys.now c.args.pattern c.args.slots k l (c.cores-cores.ensures.system.supplies k l)
