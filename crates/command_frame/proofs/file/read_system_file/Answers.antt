use Rattle.std.proofs.Common.{◌∙◌}
use Rattle.command_frame.specs.inner.Steps.{IsHeld}
use Rattle.command_frame.proofs.Steps.{all_held, system_spelled, system_refused, system_explained}
use Rattle.command_frame.proofs.Taking.{step_takes}
use Rattle.command_frame.proofs.file.read_system_file.Goals as goal

pub returns : goal.returns
returns g c =
    let took = c.in_ok-hand_on.ensures.took in
    let held : IsHeld (g.S.Store.files c.args.store.now) c.args.name.now c.deref.result.now
    = all_held _ _ _ _ took.bytes c.new-bytes.ensures.items (c.deref.ensures.value ∙ took.took) took.held in
    record {
      spelled =
          system_spelled (g.S.Store.files c.args.store.now) c.args.name.now c.deref.result.now c.spelled_system.result
          held c.spelled_system.ensures.spelled;
      refused =
          system_refused (g.S.Store.files c.args.store.now) c.args.name.now c.deref.result.now c.spelled_system.result
          held c.spelled_system.ensures.refused;
      same_files = c.in_ok-hand_on.ensures.same_files;
      explained =
          system_explained c.deref.result.now c.spelled_system.result _ _ c.in_ok-hand_on.ensures.explained
          c.spelled_system.ensures.refused c.spelled_system.ensures.read;
      taken = λ files told. step_takes c.spelled_system.result _ _ _ (c.in_ok-hand_on.ensures.taken files told);
    }
