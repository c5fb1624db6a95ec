use Rattle.std.proofs.Common.{◌≡◌, ℕ, ◌-◌, List, [], ◌∷◌, ◌++◌, reverse, sym, subst, arith}
use Rattle.std.proofs.lemmas.List.{reverse-append}
use Rattle.slot_model.specs.Task.{SporadicTask, sporadic_tasks}
use Rattle.edf_test.specs.inner.Back.{IsGivenBy}
use Rattle.slot_model.proofs.Constrained.{are_constrained}
use Rattle.slot_model.specs.Points.{CoversShow}
use Rattle.slot_model.proofs.Covers.{covers_show}
use Rattle.edf_test.proofs.CoverWalk.{IsWalk, walk_more, short_past_none}
use Rattle.edf_test.proofs.points.cover_of.Goals as goal
use Rattle.edf_test.proofs.points.cover_of.Goals.{Start}

-- what a cover shows, whatever is answered
covers : (g : _) (c : Start g)
    → CoversShow (sporadic_tasks c.args.level.now.tasks.now) (g.S.Supply.bound c.args.s.now) c.args.h
covers g c =
    covers_show (sporadic_tasks c.args.level.now.tasks.now) (are_constrained c.args.level.now.tasks.now)
    (g.S.Supply.bound c.args.s.now) (g.met.S.Supply.laws c.args.s.now).never_falls c.args.h

pub returns-in_err-points-clause-shows : goal.returns-in_err-points-clause-shows
returns-in_err-points-clause-shows g c = covers g (goal.at.returns-in_err-points-clause-shows g c).Start

pub returns-in_err-push-clause-shows : goal.returns-in_err-push-clause-shows
returns-in_err-push-clause-shows g c = covers g (goal.at.returns-in_err-push-clause-shows g c).Start

pub returns-in_default-clause-shows : goal.returns-in_default-clause-shows
returns-in_default-clause-shows g c = covers g (goal.at.returns-in_default-clause-shows g c).Start

pub returns-clause-shows : goal.returns-clause-shows
returns-clause-shows g c = covers g (goal.at.returns-clause-shows g c).Start

-- a window of no slots asks for nothing, so the short one has some
pub returns-in_default-clause-exact : goal.returns-in_default-clause-exact
returns-in_default-clause-exact g c = (
  c.loop-given.point - 1,
  short_past_none (sporadic_tasks c.args.level.now.tasks.now) (are_constrained c.args.level.now.tasks.now)
      (g.S.Supply.bound c.args.s.now) (c.loop-given.point - 1) c.in_default.ensures,
  omega (arith, c.loop-given.invariant.within),
  c.in_default.ensures,
)

pub loop-given-preserved : goal.loop-given-preserved
loop-given-preserved g c =
    let T : List SporadicTask = sporadic_tasks c.args.level.now.tasks.now in
    let bound : ℕ → ℕ = g.S.Supply.bound c.args.s.now in
    let given : IsGivenBy T bound (c.loop-given.point - 1) c.in-Some.given = c.in-Some.ensures in
    let more : IsWalk T bound c.args.h c.in-Some.given (c.in-Some.given ∷ reverse c.loop-given.points.items)
    = walk_more T bound c.args.h c.loop-given.point c.in-Some.given (reverse c.loop-given.points.items)
    c.loop-given.invariant.walked given (omega (arith, c.if-given-eq0.false)) in
    let turned : reverse (c.loop-given.points.items ++ c.in-Some.given ∷ [])
    ≡ c.in-Some.given ∷ reverse c.loop-given.points.items
    = reverse-append c.loop-given.points.items (c.in-Some.given ∷ []) in
    let same : reverse c.push.new.self.items ≡ c.in-Some.given ∷ reverse c.loop-given.points.items
    = rw c.in_ok-push.ensures.items turned in
    record {
      within = omega (arith, c.in-Some.ensures.within, c.loop-given.invariant.within);
      walked = subst (λ (xs : List ℕ). IsWalk T bound c.args.h c.in-Some.given xs) (sym same) more;
    }
