use Rattle.std.proofs.Common.{ℕ, ◌-◌, ◌<◌, get_or, arith}
use Rattle.csv_rows.proofs.Pairs.{digit_between, eight_together, lowest_pair, same_four}
use Rattle.csv_rows.proofs.decimal.pairs_of.Goals as goal

pub returns : goal.returns
returns c =
    let field = c.args.field.now in
    let d : ℕ → ℕ = λ k. get_or field k 0 - 48 in
    let range = λ (k : ℕ) (less : k < 8). digit_between field k c.requires.within less c.requires.digits in
    let few : (k : ℕ) → k < 8 → d k < 10 = λ k less. omega (arith, range k less) in
    let first : (d 0 < 10) × (d 1 < 10) = (few 0 (omega arith), few 1 (omega arith)) in
    let second : (d 2 < 10) × (d 3 < 10) = (few 2 (omega arith), few 3 (omega arith)) in
    let third : (d 4 < 10) × (d 5 < 10) = (few 4 (omega arith), few 5 (omega arith)) in
    let fourth : (d 6 < 10) × (d 7 < 10) = (few 6 (omega arith), few 7 (omega arith)) in
    let all = eight_together _ field c.requires.within (λ k less. omega (arith, range k less)) in
    let one = lowest_pair _ (d 0) (d 1) _ first.0 first.1 all in
    let two = lowest_pair _ (d 2) (d 3) _ second.0 second.1 one.1 in
    let three = lowest_pair _ (d 4) (d 5) _ third.0 third.1 two.1 in
    let four = lowest_pair _ (d 6) (d 7) 0 fourth.0 fourth.1 (omega (arith, three.1)) in
    same_four one.0 two.0 three.0 four.0
