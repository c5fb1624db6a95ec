use Rattle.std.proofs.Common.{rules}
use Rattle.command_frame.proofs.Steps.{stops_long}
use Rattle.command_frame.proofs.file.hand_on.Goals as goal

pub returns-in_ok-too_long_text-in-Err-TooLong-clause-refused :
    goal.returns-in_ok-too_long_text-in-Err-TooLong-clause-refused
returns-in_ok-too_long_text-in-Err-TooLong-clause-refused g c =
    stops_long c.args.number (g.S.Store.files c.args.store.now) c.args.name.now _ (λ _ _ _. ⊥)
    c.in_ok-too_long_text-in-Err-TooLong.ensures (c.in-Err-TooLong.ensures.too_long (search rules))
