use Rattle.least_budget.specs.declared.gathered_level.Level.TheVariants.{ByRank, ByWindows}
use Rattle.least_budget.proofs.Gathered.{short_of_level}
use Rattle.least_budget.proofs.gathered_level.Level.test.Goals as goal

pub returns-in-ByWindows-clause-short : goal.returns-in-ByWindows-clause-short
returns-in-ByWindows-clause-short g c short found =
    short_of_level c.args.self.now (g.S.Supply.bound c.args.s.now) (g.S.Supply.cycle_of c.args.s.now)
    c.test_by_windows.result short (ByWindows c.in-ByWindows.lined) c.in-ByWindows.is c.test_by_windows.ensures found

pub returns-in-ByRank-clause-short : goal.returns-in-ByRank-clause-short
returns-in-ByRank-clause-short g c short found =
    short_of_level c.args.self.now (g.S.Supply.bound c.args.s.now) (g.S.Supply.cycle_of c.args.s.now)
    c.test_by_rank.result short (ByRank c.in-ByRank.level) c.in-ByRank.is c.test_by_rank.ensures found
