use Rattle.std.proofs.Common.{codes, refl}
use Rattle.std.proofs.lemmas.Option.{IfSome_then}
use Rattle.system_file.proofs.ToldLines.{in_both, tells_more}
use Rattle.system_file.proofs.told.take_line.Goals as goal

pub returns-in-110-clause-tells : goal.returns-in-110-clause-tells
returns-in-110-clause-tells c =
    IfSome_then c.take_name.result c.take_name.ensures.line
    (λ rest first. tells_more c.args.format c.args.told.now (λ name. record c.args.told.now { name = name })
    (in_both c.args.format (codes "name") refl refl) (λ ms held. held.0) (λ value. refl) first)

pub returns-in-112-clause-tells : goal.returns-in-112-clause-tells
returns-in-112-clause-tells c =
    IfSome_then c.take_number.result c.take_number.ensures.line
    (λ rest first. tells_more c.args.format c.args.told.now (λ period. record c.args.told.now { period = period })
    (in_both c.args.format (codes "period") refl refl) (λ ms held. held.1.0) (λ value. refl) first)

pub returns-in-100-clause-tells : goal.returns-in-100-clause-tells
returns-in-100-clause-tells c =
    IfSome_then c.take_number-in-100.result c.take_number-in-100.ensures.line
    (λ rest first. tells_more c.args.format c.args.told.now (λ deadline. record c.args.told.now { deadline = deadline })
    (in_both c.args.format (codes "deadline") refl refl) (λ ms held. held.1.1.0) (λ value. refl) first)

pub returns-in-Two-clause-tells : goal.returns-in-Two-clause-tells
returns-in-Two-clause-tells c =
    IfSome_then c.take_number-in-Two.result c.take_number-in-Two.ensures.line
    (λ rest first. tells_more c.args.format c.args.told.now (λ jitter. record c.args.told.now { jitter = jitter })
    (rw c.in-Two.is refl) (λ ms held. held.1.1.1.0) (λ value. refl) first)

pub returns-in-119-clause-tells : goal.returns-in-119-clause-tells
returns-in-119-clause-tells c =
    IfSome_then c.take_number-in-119.result c.take_number-in-119.ensures.line
    (λ rest first. tells_more c.args.format c.args.told.now (λ work. record c.args.told.now { work = work })
    (in_both c.args.format (codes "work") refl refl) (λ ms held. held.1.1.1.1.0) (λ value. refl) first)
