use Rattle.std.proofs.Common.{◌≡◌, ◌<◌, ◌≤◌, ℕ, ◌+◌, Bool, List, length, arith, sym, subst, Vec, Global, get_or, ◌∙◌, ap, refl, false, true}
use Rattle.guest_sched.specs.Spans.{Window}
use Rattle.guest_sched.proofs.Spelled.{Spells, then_none, then_all, spelled_same}
use Rattle.guest_sched.proofs.patterns.windows_of.Goals as goal
use Rattle.guest_sched.proofs.patterns.windows_of.Goals.{then-given-x+in_ok-add_window, else-given-x}

same_place : (given : List Bool) (x y : ℕ) (v : Bool) → x ≤ y → y < x + 1 → get_or given x false ≡ v
    → get_or given y false ≡ v
same_place given x y v a b e = ap (λ (z : ℕ). get_or given z false) (let q : y ≡ x = omega arith in q) ∙ e

pub loop-x-preserved : goal.loop-x-preserved
loop-x-preserved c =
    let given = c.args.given.now in
    let p : ℕ → Bool = λ y. get_or given y false in
    let x = c.loop-x.x in
    let old = c.loop-x.windows.items in
    elim c.if-given-x.branch [
      | then-given-x+in_ok-add_window w ↦
          subst (λ (v : Vec Window Global). Spells p (x + 1) v.items) (sym w.windows-is)
          (then_all p x (x + 1) old w.add_window.new.windows.items c.loop-x.invariant w.in_ok-add_window.ensures
          (λ y a b. same_place given x y true a b w.if-given-x.true))
      | else-given-x w ↦
          subst (λ (v : Vec Window Global). Spells p (x + 1) v.items) (sym w.windows-is)
          (then_none p x (x + 1) old c.loop-x.invariant (omega arith)
          (λ y a b. same_place given x y false a b w.if-given-x.false))
    ]

pub returns-clause-same : goal.returns-clause-same
returns-clause-same c =
    let given = c.args.given.now in
    let n : c.loop-x.x ≡ length given = omega arith in
    spelled_same given (length given) c.loop-x.windows.items refl
    (subst (λ (z : ℕ). Spells (λ y. get_or given y false) z c.loop-x.windows.items) n c.loop-x.invariant)
