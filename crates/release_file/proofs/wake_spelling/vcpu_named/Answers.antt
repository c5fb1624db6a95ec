use Rattle.std.proofs.Common.{length, ap, arith}
use Rattle.std.proofs.lemmas.List.{length-map}
use Rattle.tree_model.specs.View.{PartView}
use Rattle.release_file.proofs.wake_spelling.vcpu_named.Goals as goal

pub overflow_cast-vcpu : goal.overflow_cast-vcpu
overflow_cast-vcpu c =
    let parts = c.args.sys.now.parts in
    let known = length-map parts (λ (p : PartView). p.name) in
    omega (arith, known, ap length c.requires.parts, c.in_ok-place.ensures.within, c.requires.system.few_parts)
