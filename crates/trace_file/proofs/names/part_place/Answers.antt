use Rattle.std.proofs.Common.{◌∙◌, ℕ, Option, length, refl, sym, ap, arith}
use Rattle.std.proofs.lemmas.List.{length-map}
use Rattle.tree_model.specs.View.{PartView}
use Rattle.tree_model.proofs.Distinct.{distinct_back}
use Rattle.std.specs.Prelude.{bytes_eq, position, unwrap_or}
use Rattle.tree_model.specs.System.{core_names, part_names}
use Rattle.trace_file.proofs.Distinct.{stands_as}
use Rattle.trace_file.proofs.names.part_place.Goals as goal

pub returns-in-Some : goal.returns-in-Some
returns-in-Some c =
    ap (λ (o : Option ℕ). unwrap_or o (length c.args.sys.now.parts))
    (c.in-Some.ensures.place ∙ ap (position (bytes_eq c.args.name.now)) c.requires.parts)

pub returns-in-None : goal.returns-in-None
returns-in-None c =
    ap length c.parts-parts.ensures.parts
    ∙ ap (λ (o : Option ℕ). unwrap_or o (length c.args.sys.now.parts))
    (c.in-None.ensures.place ∙ ap (position (bytes_eq c.args.name.now)) c.requires.parts)

pub returns-then-is_part_at : goal.returns-then-is_part_at
returns-then-is_part_at c =
    let names = part_names c.args.sys.now.parts in
    let (within, name) = (rw c.parts-parts.ensures.parts at c.if-is_part_at.ensures) refl in
    ap (λ (o : Option ℕ). unwrap_or o (length c.args.sys.now.parts)) (sym
    (stands_as names c.of-hint.result c.args.name.now (distinct_back (core_names c.args.sys.now.cores)
    (part_names c.args.sys.now.parts) c.parts-parts.ensures.system.names)
    (let t = length-map c.args.sys.now.parts (λ (z : PartView). z.name) in omega (arith, t, within)) name))
