use Rattle.admission_session.proofs.Undone.{can_rise}
use Rattle.admission_session.proofs.in_place.put_back.Goals as goal

pub let_rise-requires : goal.let_rise-requires
let_rise-requires c =
    can_rise (record { cores = c.sys.inside.cores.items; parts = c.sys.inside.parts.items }) c.sys.invariant
    c.deref_mut.result.now c.deref_mut.ensures.value
