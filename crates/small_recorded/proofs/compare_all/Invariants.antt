use Rattle.std.proofs.Common.{◌≡◌, ◌≤◌}
use Rattle.small_recorded.proofs.compare_all.Given as goal

abbrev pub invariant-loop-position : goal.invariant-loop-position
invariant-loop-position l = (l.books ≡ l.position) × (l.agree ≤ l.books)
