use Rattle.class_chains.specs.Chains.{unseen_count}
use Rattle.class_chains.specs.Fills.{Refilled}
use Rattle.class_chains.proofs.Searches.{DoseTried, IntervalTried}
use Rattle.class_chains.proofs.Fill.+from_dose_from_interval.Given as goal

-- each call marks a station that no call before it has seen
abbrev pub decreases-from_dose : goal.decreases-from_dose
decreases-from_dose l = unseen_count l.seen.now

abbrev pub decreases-from_interval : goal.decreases-from_interval
decreases-from_interval l = unseen_count l.seen.now

abbrev pub invariant-from_dose-loop-j : goal.invariant-from_dose-loop-j
invariant-from_dose-loop-j l = record {
  refilled : Refilled l.initial.self l.self;
  tried : DoseTried l.initial.self.rooms.now l.initial.self.holds.now l.least l.d l.initial.seen l.initial.self.shares.now l.seen l.self.shares.now l.j;
}

abbrev pub invariant-from_interval-loop-d : goal.invariant-from_interval-loop-d
invariant-from_interval-loop-d l = record {
  refilled : Refilled l.initial.self l.self;
  tried : IntervalTried l.initial.self.rooms.now l.initial.self.holds.now l.least l.j l.initial.seen l.initial.self.shares.now l.seen l.self.shares.now l.d;
}
