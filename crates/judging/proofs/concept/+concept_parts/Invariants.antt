use Rattle.std.proofs.Common.{◌+◌, ◌-◌, ◌*◌}
use Rattle.judging.proofs.concept.+concept_parts.Given as goal

abbrev pub decreases-concept : goal.decreases-concept
decreases-concept l = l.k * 8589934592 + 4294967296

abbrev pub decreases-parts : goal.decreases-parts
decreases-parts l = l.left.whole * 8589934592 + (l.left.count - l.left.next)
