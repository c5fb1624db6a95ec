use Rattle.std.proofs.Common.{◌≡◌, ℕ, ◌∙◌, map, List, ap, subst, sym, arith}
use Rattle.std.specs.List.{range_with_len}
use Rattle.tree_model.specs.declared.pinned_core.Core.{Core as CoreView}
use Rattle.tree_model.specs.View.{PartView, SystemView}
use Rattle.tree_model.specs.System.{IsSystem}
use Rattle.bulk_host.specs.Host.{host_core, guest_at, cores_for}
use Rattle.bulk_host.proofs.Systems.{host_is_system}
use Rattle.bulk_host.proofs.Admitting.{host_is_admitted}
use Rattle.bulk_host.proofs.host.make_bulk.Goals as goal

pub returns-in_err-make_cores-clause-admitted : goal.returns-in_err-make_cores-clause-admitted
returns-in_err-make_cores-clause-admitted c = host_is_admitted c.args.n c.requires.some c.requires.most

pub returns-in_err-make_guests-clause-admitted : goal.returns-in_err-make_guests-clause-admitted
returns-in_err-make_guests-clause-admitted c = host_is_admitted c.args.n c.requires.some c.requires.most

pub returns-clause-admitted : goal.returns-clause-admitted
returns-clause-admitted c = host_is_admitted c.args.n c.requires.some c.requires.most

same_host : (cores more : List CoreView) (parts guests : List PartView) → cores ≡ more → parts ≡ guests
    → ◌≡◌ {A = SystemView} (record { cores = cores; parts = parts }) (record { cores = more; parts = guests })
same_host cores more parts guests e f = cc

pub invariant_of-result : goal.invariant_of-result
invariant_of-result c =
    let many : c.div_ceil.result ≡ cores_for c.args.n = omega (arith, c.div_ceil.ensures) in
    let cores : c.in_ok-make_cores.field-0.items ≡ map host_core (range_with_len 0 (cores_for c.args.n))
    = c.in_ok-make_cores.ensures ∙ ap (λ (k : ℕ). map host_core (range_with_len 0 k)) many in
    let parts : c.in_ok-make_guests.field-0.items ≡ map guest_at (range_with_len 0 c.args.n)
    = c.in_ok-make_guests.ensures in
    subst (λ (sys : SystemView). IsSystem sys) (same_host (map host_core (range_with_len 0 (cores_for c.args.n)))
    c.in_ok-make_cores.field-0.items (map guest_at (range_with_len 0 c.args.n))
    c.in_ok-make_guests.field-0.items (sym cores) (sym parts))
    (host_is_system c.args.n c.requires.some c.requires.most)
