-- `lane` meets its contract: the filling's class and interval are in the week, and the fans below are at most eight.
use native.Mathlib.Omega.{arith}
use Rattle.plan_layout.proofs.filling.Filling.lane.Goals as goal

pub invariant_of-result : goal.invariant_of-result
invariant_of-result c =
    let A = c.args in
    let filled = A.self.now.filled in record {
      ready = record {
        heavy = filled.heavy A.i c.requires.class;
        light = filled.light A.i c.requires.class;
        wide = omega (arith, filled.wide A.j c.requires.interval);
        week = omega (arith, filled.wide A.j c.requires.interval, filled.week A.j c.requires.interval);
        below = c.requires.fans;
      };
    }
