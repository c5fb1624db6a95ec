use Rattle.std.proofs.Common.{◌≡◌, ◌∙◌, ap, arith, refl, rules}
use Rattle.std.proofs.lemmas.Grind.{common_steps}
use Rattle.tree_model.specs.CertificateView.{NodeView}
use Rattle.cert_verify.proofs.claims.check_points.Goals as goal
use Rattle.cert_verify.proofs.claims.check_points.Goals.{else-is_empty-via-then-is_empty+else-is_cover, else-is_empty-via-else-is_empty}

pub returns-in_default-clause-flaw : goal.returns-in_default-clause-flaw
returns-in_default-clause-flaw g c =
    let told = rw c.cycle.ensures at c.in_default.ensures.exact in (
      ap (λ (node : NodeView). node.place) c.node.view_is,
      λ small. omega (arith, told.1.least small.1.multiple small.1.common),
    )

pub returns-then-is_cover-clause-shown : goal.returns-then-is_cover-clause-shown
returns-then-is_cover-clause-shown g c =
    let told = rw c.cycle.ensures at c.in-Some.ensures.exact in (
      (c.in-Some.h, told.0, told.1),
      record {
        horizon = c.in-Some.h;
        is_horizon = told.0;
        cover =
            rw (← (c.deref.ensures.value ∙ ap (λ (node : NodeView). node.points) c.node.view_is))
            (c.if-is_cover.ensures.0 (search rules));
        no_hits = grind (arith, common_steps);
      },
    )

pub returns-else-is_empty-clause-flaw : goal.returns-else-is_empty-clause-flaw
returns-else-is_empty-clause-flaw g c =
    let told = rw c.cycle.ensures at c.in-Some.ensures.exact in (
      ap (λ (node : NodeView). node.place) c.node.view_is,
      refl,
      (c.in-Some.h, told.0, told.1),
      λ covered. elim c.else-is_empty.branch [
        | else-is_empty-via-then-is_empty+else-is_cover w ↦
            let same : covered.horizon ≡ c.in-Some.h
            = omega (
              arith,
              told.0.least covered.is_horizon.multiple covered.is_horizon.common,
              covered.is_horizon.least told.0.multiple told.0.common,
            ) in
            let points = w.deref.ensures.value ∙ ap (λ (node : NodeView). node.points) c.node.view_is in
            absurd (search (rules, w.if-is_cover.ensures.1 (rw (points, ← same) covered.cover)))
        | else-is_empty-via-else-is_empty w ↦ search rules
      ],
    )
