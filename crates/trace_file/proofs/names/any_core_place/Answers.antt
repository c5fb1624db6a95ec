use Rattle.std.proofs.Common.{◌∙◌, ℕ, Option, length, refl, ap}
use Rattle.std.specs.Prelude.{bytes_eq, position, unwrap_or}
use Rattle.trace_file.proofs.Distinct.{core_found}
use Rattle.trace_file.proofs.names.any_core_place.Goals as goal

pub returns-in-Some : goal.returns-in-Some
returns-in-Some c =
    ap (λ (o : Option ℕ). unwrap_or o (length c.args.sys.now.cores))
    (c.in-Some.ensures.place ∙ ap (position (bytes_eq c.args.name.now)) c.requires.cores)

pub returns-in-None : goal.returns-in-None
returns-in-None c =
    ap length c.cores-cores.ensures.cores
    ∙ ap (λ (o : Option ℕ). unwrap_or o (length c.args.sys.now.cores))
    (c.in-None.ensures.place ∙ ap (position (bytes_eq c.args.name.now)) c.requires.cores)

pub returns-then-is_core_at : goal.returns-then-is_core_at
returns-then-is_core_at c =
    let (within, name) = (rw c.cores-cores.ensures.cores at c.if-is_core_at.ensures) refl in
    core_found c.args.sys.now c.of-hint.result c.args.name.now c.cores-cores.ensures.system.names within name
