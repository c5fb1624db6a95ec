use Rattle.std.proofs.Common.{◌∙◌, true, false, refl, sym}
use Rattle.release_file.proofs.WakesMore.{turn_is}
use Rattle.release_file.proofs.wake_rows.WakeRows.turn_fault.Goals as goal

pub returns-then-stands_at : goal.returns-then-stands_at
returns-then-stands_at c =
    let q = c.requires in
    sym (turn_is c.args.self.now c.args.wake c.args.number true _ q.behind q.in_order q.is_part q.row
    (sym c.if-stands_at.true ∙ c.stands_at.ensures) refl)

pub returns-then-not-may_follow : goal.returns-then-not-may_follow
returns-then-not-may_follow c =
    let q = c.requires in
    sym (turn_is c.args.self.now c.args.wake c.args.number false false q.behind q.in_order q.is_part q.row
    (sym c.if-stands_at.false ∙ c.stands_at.ensures) (sym c.if-not-may_follow.true ∙ c.may_follow.ensures))

pub returns : goal.returns
returns c =
    let q = c.requires in
    sym (turn_is c.args.self.now c.args.wake c.args.number false true q.behind q.in_order q.is_part q.row
    (sym c.if-stands_at.false ∙ c.stands_at.ensures) (sym c.if-not-may_follow.false ∙ c.may_follow.ensures))
