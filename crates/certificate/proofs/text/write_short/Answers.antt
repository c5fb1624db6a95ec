use Rattle.std.proofs.Common.{◌≡◌, ℕ, ◌<◌, ◌≤◌, ◌^◌, List, length, decimal, ◌-◌, take, drop, sym, rules, arith}
use Rattle.std.proofs.lemmas.Fmt.{length-decimal-le}
use Rattle.cert_reader.specs.Text.{quoted_number}
use Rattle.certificate.proofs.Quotes.{from_the_quote}
use Rattle.certificate.proofs.text.write_short.Goals as goal
use Rattle.certificate.proofs.text.write_short.Goals.{After-write_digits-start}

-- a number of 64 bits has at most 20 digits
few_digits : (n : ℕ) → n < 2 ^ 64 → length (decimal n) ≤ 20
few_digits n fits = length-decimal-le 20 n (omega arith) (omega (arith, fits)) (omega (arith, fits))

pub write_digits-start-requires : goal.write_digits-start-requires
write_digits-start-requires c = (
  omega (arith, few_digits c.args.number (omega (arith, c.ranges.number.fits))),
  omega arith,
)

-- so the quote has a place before them
room_before : (c : After-write_digits-start) → 1 ≤ c.write_digits-start.result
room_before c =
    omega (
      arith,
      c.write_digits-start.ensures.start,
      few_digits c.args.number (omega (arith, c.ranges.number.fits)),
    )

pub overflow_sub-start : goal.overflow_sub-start
overflow_sub-start c = omega (arith, room_before (goal.at.overflow_sub-start c).After-write_digits-start)

pub returns : goal.returns
returns c =
    let start : ℕ = c.write_digits-start.result in
    let row : List ℕ = c.write_digits-start.new.buf in
    let same : take (22 - (start - 1)) (drop (start - 1) row) ≡ quoted_number c.args.number =
    from_the_quote row start c.args.number (room_before (goal.at.returns c).After-write_digits-start)
    (omega (arith, c.write_digits-start.ensures.start))
    c.write_digits-start.auto.buf c.write_digits-start.ensures.before c.write_digits-start.ensures.written in
    rw (sym same) (search rules)
